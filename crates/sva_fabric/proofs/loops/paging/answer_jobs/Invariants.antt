use Rattle.std.proofs.Common.{is_some}
use Rattle.sva_fabric.proofs.Working.{IsWorking}
use Rattle.sva_fabric.proofs.loops.paging.answer_jobs.Given as goal

-- the turns so far took and answered jobs
abbrev pub invariant-loop-turn : goal.invariant-loop-turn
invariant-loop-turn g l = IsWorking l.worker l.turn (is_some l.decided) l.fn.port l.port
