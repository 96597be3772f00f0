use Rattle.std.proofs.Common.{◌∙◌}
use Rattle.sva_race_texts.proofs.Lists.{said}
use Rattle.sva_race_texts.specs.Claims.{with_literals}
use Rattle.sva_race_texts.proofs.claim_lines.add_with_literals.Goals as goal

pub returns : goal.returns
returns c =
    c.in_ok-add_literals.ensures
    ∙ (λ i. with_literals c.args.config c.args.names.now (c.in_ok-add_claim.ensures i) c.args.line (c.is_of_ends.ensures i)
    (said c.args.rest.now))
