use Rattle.std.proofs.Common.{take}
use Rattle.std.specs.List.{AllZip}
use Rattle.sva_several.specs.Sharing.{AreSlots, IsFoundBy}
use Rattle.sva_several.proofs.working.end_all.Given as goal

-- what is said of the texts so far, and the places
abbrev pub invariant-loop-place : goal.invariant-loop-place
invariant-loop-place g l = record {
  found : AllZip (IsFoundBy l.search l.jobs) (take l.place l.texts) l.all.items;
  slots : AreSlots l.search l.jobs l.texts l.slots.items;
}
