-- the table keeps a place for each unit
use Rattle.std.proofs.Common.{◌≡◌, length}
use Rattle.sva_tests_of_parts.proofs.frames.twin_pools.some_waits.Given as goal

abbrev pub invariant-loop-unit : goal.invariant-loop-unit
invariant-loop-unit l = length l.targets ≡ 8
