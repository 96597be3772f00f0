use Rattle.std.proofs.Common.{rules}
use Rattle.std.proofs.lemmas.List.Edits.{map_over_more}
use Rattle.sva_endpoint.specs.Groups.{stale_of}
use Rattle.sva_endpoint.proofs.groups.make_each_stale.Goals as goal

pub loop-place-preserved : goal.loop-place-preserved
loop-place-preserved c = search (rules, map_over_more (stale_of c.args.pasid))
