use Rattle.std.proofs.Common.{rules}
use Rattle.std.proofs.lemmas.List.Edits.{map_over_more}
use Rattle.sva_endpoint.specs.UseSlots.{cut_off}
use Rattle.sva_endpoint.proofs.use_slots.cut_off_each.Goals as goal

pub loop-slot-preserved : goal.loop-slot-preserved
loop-slot-preserved c = search (rules, map_over_more cut_off)
