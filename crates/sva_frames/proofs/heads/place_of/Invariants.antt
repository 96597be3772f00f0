-- no entry from this place on has the cookie
use Rattle.std.proofs.Common.{◌≡◌, ◌≢◌, ℕ, ◌≤◌, Some, slice_get}
use Rattle.sva_frames.specs.declared.heads.Pending.{Pending}
use Rattle.sva_frames.proofs.heads.place_of.Given as goal

abbrev pub invariant-loop-place : goal.invariant-loop-place
invariant-loop-place l = (place : ℕ) (entry : Pending) → l.place ≤ place → slice_get l.pending place ≡ Some entry → entry.cookie ≢ l.cookie
