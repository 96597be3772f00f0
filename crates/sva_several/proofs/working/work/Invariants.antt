use Rattle.std.proofs.Common.{All}
use Rattle.sva_several.specs.Sharing.{IsAnswer}
use Rattle.sva_several.proofs.working.work.Given as goal

-- each answer so far is that of its text
abbrev pub invariant-loop-turn : goal.invariant-loop-turn
invariant-loop-turn g l = All (IsAnswer l.search l.jobs l.texts) l.answers.items
