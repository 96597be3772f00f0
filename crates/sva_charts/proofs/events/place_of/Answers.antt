use Rattle.std.proofs.Common.{◌∙◌, ap, length, sym}
use Rattle.std.specs.Option.{unwrap_or}
use Rattle.sva_charts.proofs.events.place_of.Goals as goal

pub returns-in-Some-clause-place : goal.returns-in-Some-clause-place
returns-in-Some-clause-place c =
    sym (ap (λ found. unwrap_or found (length c.args.text.now)) (sym c.position_of.ensures.at ∙ c.in-Some.is))

pub returns-in-None-clause-place : goal.returns-in-None-clause-place
returns-in-None-clause-place c =
    sym (ap (λ found. unwrap_or found (length c.args.text.now)) (sym c.position_of.ensures.at ∙ c.in-None.is))
