use Rattle.std.proofs.Common.{◌∙◌, ◌++◌, ap, map}
use Rattle.std.proofs.lemmas.Result.{IfOk-weaker}
use Rattle.sva_race_texts.specs.Devices.{count_seen}
use Rattle.sva_race_texts.proofs.CountLemmas.{condition_counted}
use Rattle.sva_race_texts.proofs.counts.add_claim.Goals as goal

pub returns : goal.returns
returns c =
    IfOk-weaker c.add_condition.result _ _
    (λ done adds. adds ∙ ap (λ l. map count_seen c.args.counts.now.items ++ l) (condition_counted c.args.claim.now.condition _ c.as_slice.ensures.value))
    c.add_condition.ensures
