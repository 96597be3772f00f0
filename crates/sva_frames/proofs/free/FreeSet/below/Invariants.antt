-- the numbers so far are in the set, and no others
use Rattle.std.proofs.Common.{◌≡◌, ℕ, ◌<◌, ◌≤◌, ◌*◌, length}
use Rattle.sva_frames.specs.Numbers.{has}
use Rattle.sva_frames.proofs.free.FreeSet.below.Given as goal

abbrev pub invariant-loop-number : goal.invariant-loop-number
invariant-loop-number l = record {
  below : (number : ℕ) → number < l.number → has l.set number ≡ 1;
  above : (number : ℕ) → l.number ≤ number → has l.set number ≡ 0;
  room : l.bound ≤ 64 * length l.set;
}
