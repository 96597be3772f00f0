-- the table keeps a place for each unit
use Rattle.std.proofs.Common.{◌≡◌, length}
use Rattle.sva_tests_of_parts.proofs.frames.pools.waits_for.Given as goal

abbrev pub invariant-loop-pair : goal.invariant-loop-pair
invariant-loop-pair l = length l.targets ≡ 8
