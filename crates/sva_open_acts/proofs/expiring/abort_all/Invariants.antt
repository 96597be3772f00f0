use Rattle.std.proofs.Common.{◌≡◌, ◌++◌, take}
use Rattle.sva_open.specs.Units.{waits_of}
use Rattle.sva_open_acts.proofs.expiring.abort_all.Given as goal

abbrev pub invariant-loop-one : goal.invariant-loop-one
invariant-loop-one l = l.aborted.items ≡ l.initial.aborted.items ++ waits_of (take l.one-index l.queue)
