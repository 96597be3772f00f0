use Rattle.std.proofs.Common.{rules}
use Rattle.std.proofs.lemmas.List.Edits.{map_over_more}
use Rattle.sva_endpoint.specs.Taken.{without_note}
use Rattle.sva_endpoint.proofs.taken_table.forget_in_each.Goals as goal

pub loop-place-preserved : goal.loop-place-preserved
loop-place-preserved c = search (rules, map_over_more (without_note c.args.slot))
