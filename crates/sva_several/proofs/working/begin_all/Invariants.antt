use Rattle.std.proofs.Common.{All, length}
use Rattle.sva_several.specs.Sharing.{AreAnswers, AreSlots}
use Rattle.sva_several.proofs.working.begin_all.Given as goal

-- the answers that are left, and the places
abbrev pub invariant-loop-answers : goal.invariant-loop-answers
invariant-loop-answers g l = record {
  parts : All (AreAnswers l.search l.jobs l.texts) l.parts.items;
  slots : AreSlots l.search l.jobs l.texts l.slots.items;
}

-- fewer are left
abbrev pub decreases-loop-answers : goal.decreases-loop-answers
decreases-loop-answers g l = length l.parts.items
