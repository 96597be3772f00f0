use Rattle.std.proofs.Common.{rules}
use Rattle.std.proofs.lemmas.List.Edits.{map_over_more}
use Rattle.sva_pasid.specs.Places.{reset_at}
use Rattle.sva_pasid.proofs.places.reset_each.Goals as goal

pub loop-place-preserved : goal.loop-place-preserved
loop-place-preserved c = search (rules, map_over_more (reset_at c.args.endpoint))
