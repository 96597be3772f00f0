-- no unit from this one on has a target yet
use Rattle.std.proofs.Common.{◌≡◌, ◌≤◌, ◌<◌, ℕ, Some, None, slice_get}
use Rattle.sva_tests_of_parts.proofs.frames.pools.waits_of.Given as goal

abbrev pub invariant-loop-unit : goal.invariant-loop-unit
invariant-loop-unit l = (k : ℕ) → l.unit ≤ k → k < 8 → slice_get l.waits k ≡ Some None
