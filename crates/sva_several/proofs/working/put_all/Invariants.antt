use Rattle.std.proofs.Common.{All, length}
use Rattle.sva_several.specs.Sharing.{AreSlots, IsAnswer}
use Rattle.sva_several.proofs.working.put_all.Given as goal

-- the answers that are left, and the places
abbrev pub invariant-loop-answer : goal.invariant-loop-answer
invariant-loop-answer l = record {
  answers : All (IsAnswer l.search l.jobs l.texts) l.answers.items;
  slots : AreSlots l.search l.jobs l.texts l.slots;
}

-- fewer are left
abbrev pub decreases-loop-answer : goal.decreases-loop-answer
decreases-loop-answer l = length l.answers.items
