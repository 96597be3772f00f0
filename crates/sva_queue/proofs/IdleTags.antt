-- No tag is busy exactly where the vector of the busy tags is 0.
use Rattle.std.proofs.Common.{◌≡◌, ◌≢◌, ℕ, zero, suc, slice_get, ◌+◌, ◌*◌, ◌==◌, Bool, true, false, Option, Some, None, List, [], ◌∷◌, refl, arith}
use Rattle.std.proofs.lemmas.Bool.Decides.{nat_tests}
use Rattle.sva_itags.specs.Tags.{busy_vector}
use Rattle.sva_itags.specs.declared.itags.Busy.{Busy}
use Rattle.sva_queue.specs.Queue.{is_idle}

doubled : (n : ℕ) (b : Bool) → (n == 0) ≡ b → (0 + 2 * n == 0) ≡ b
doubled n true h = grind (arith, nat_tests)
doubled n false h = grind (arith, nat_tests)

odd : (n : ℕ) → (1 + 2 * n == 0) ≡ false
odd n = grind (arith, nat_tests)

pub idle : (tags : List (Option Busy)) → (busy_vector tags == 0) ≡ is_idle tags
idle [] = refl
idle (None ∷ tags) = doubled (busy_vector tags) (is_idle tags) (idle tags)
idle (Some b ∷ tags) = odd (busy_vector tags)

-- an idle unit has no busy tag
pub idle_none : (tags : List (Option Busy)) (tag : ℕ) (b : Busy) → is_idle tags ≡ true → slice_get tags tag ≢ Some (Some b)
idle_none [] tag b h = λ k. cc
idle_none (None ∷ tags) zero b h = λ k. cc
idle_none (None ∷ tags) (suc tag) b h = idle_none tags tag b h
idle_none (Some x ∷ tags) tag b h = absurd (cc)

pub none_idle : (tags : List (Option Busy)) → ((tag : ℕ) (b : Busy) → slice_get tags tag ≢ Some (Some b)) → is_idle tags ≡ true
none_idle [] h = refl
none_idle (None ∷ tags) h = none_idle tags (λ tag b. h (suc tag) b)
none_idle (Some x ∷ tags) h = absurd (h 0 x refl)
