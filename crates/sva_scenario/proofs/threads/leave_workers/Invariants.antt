use Rattle.std.proofs.Common.{◌≡◌, ◌+◌, ◌≤◌, ◌||◌, false, vec_len, vec_capacity}
use Rattle.sva_scenario.specs.Played.{AreEach, IsOfWorker}
use Rattle.sva_scenario.specs.Lacks.{one_lacks}
use Rattle.sva_scenario.proofs.threads.leave_workers.Given as goal

-- want of memory was told of the threads so far, each of which left its port
abbrev pub invariant-loop-thread : goal.invariant-loop-thread
invariant-loop-thread g l = record {
  lacking : (l.lacking || one_lacks l.threads.items) ≡ one_lacks l.fn.threads.items;
  played : l.lacking ≡ false → AreEach (IsOfWorker g.C.Ledgers.config g.S.Plan.turns) l.ports.items;
  ports : vec_len l.ports + vec_len l.threads ≡ vec_len l.fn.threads;
  room : vec_len l.fn.threads ≤ vec_capacity l.ports;
}

abbrev pub decreases-loop-thread : goal.decreases-loop-thread
decreases-loop-thread g l = vec_len l.threads
