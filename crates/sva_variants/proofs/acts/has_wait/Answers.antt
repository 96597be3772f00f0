use Rattle.std.proofs.Common.{◌∙◌}
use Rattle.sva_variants.proofs.CutLemmas.{lent_wait}
use Rattle.sva_variants.proofs.acts.has_wait.Goals as goal

pub returns : goal.returns
returns c = c.has_lent_wait.ensures ∙ lent_wait c.args.words.now
