-- Which tags are busy, and which of them a completion frees.
use Rattle.std.proofs.Common.{◌≡◌, ℕ, zero, suc, ◌+◌, ◌↔◌, Bool, true, false, Option, Some, None, List, [], ◌∷◌, map, is_some, is_none, slice_get}
use Rattle.std.proofs.Common.{option_map, IsTrue, refl, ap, sym, ◌∙◌, subst, arith}
use Rattle.std.specs.Prelude.{unwrap_or}
use Rattle.std.proofs.lemmas.Bool.Decides.{nat_tests}
use Rattle.sva_itags.specs.Vector.{is_named}
use Rattle.sva_itags.specs.Tags.{IsBusy, IsLast, Completes, one_more, completed, completed_from, after_completion, is_freed, freed_places, freed_vector}
use Rattle.sva_itags.specs.Tags.{busy_vector}
use Rattle.sva_itags.specs.declared.itags.Busy.{Busy}
use Rattle.sva_itags.specs.declared.itags.Busy.TheVariants.{Fresh, Counting}
use Rattle.sva_itags.proofs.VectorLemmas.{is_named-vector_of}

-- a place after a completion
pub completed_from-get : (s v n : ℕ) (xs : List (Option Busy)) (t : ℕ) → slice_get (completed_from s v n xs) t
    ≡ option_map (after_completion (is_named v (s + t)) n) (slice_get xs t)
completed_from-get s v n [] t = refl
completed_from-get s v n (x ∷ xs) zero =
    let same : s + 0 ≡ s = omega arith in rw same refl
completed_from-get s v n (x ∷ xs) (suc t) =
    let same : s + suc t ≡ suc s + t = omega arith in rw same (completed_from-get (suc s) v n xs t)

pub completed-get : (v n : ℕ) (xs : List (Option Busy)) (t : ℕ) → slice_get (completed v n xs) t
    ≡ option_map (after_completion (is_named v t) n) (slice_get xs t)
completed-get v n xs t =
    let same : 0 + t ≡ t = omega arith in
    subst (λ k. slice_get (completed v n xs) t ≡ option_map (after_completion (is_named v k) n) (slice_get xs t)) same (completed_from-get 0 v n xs t)

-- whether a place is freed
freed_at : Option (Option Busy) → Bool → ℕ → Bool
freed_at None named n = false
freed_at (Some x) named n = is_freed x (after_completion named n x)

freed_from-get : (s v n : ℕ) (xs : List (Option Busy)) (t : ℕ) → unwrap_or (slice_get (freed_places xs (completed_from s v n xs)) t) false
    ≡ freed_at (slice_get xs t) (is_named v (s + t)) n
unfolding freed_at
freed_from-get s v n [] t = refl
freed_from-get s v n (x ∷ xs) zero =
    let same : s + 0 ≡ s = omega arith in rw same refl
freed_from-get s v n (x ∷ xs) (suc t) =
    let same : s + suc t ≡ suc s + t = omega arith in rw same (freed_from-get (suc s) v n xs t)

freed-get : (v n : ℕ) (xs : List (Option Busy)) (t : ℕ) → is_named (freed_vector v n xs) t ≡ freed_at (slice_get xs t) (is_named v t) n
freed-get v n xs t =
    let same : 0 + t ≡ t = omega arith in
    is_named-vector_of (freed_places xs (completed v n xs)) t
    ∙ subst (λ k. unwrap_or (slice_get (freed_places xs (completed v n xs)) t) false ≡ freed_at (slice_get xs t) (is_named v k) n) same
    (freed_from-get 0 v n xs t)

-- a busy tag is free after its last completion, and only then
is_last : (n : ℕ) (b : Busy) → IsTrue (is_none (one_more n b)) → IsLast n b
is_last n Fresh h = grind (arith, nat_tests)
is_last n (Counting fixed arrived) h = grind (arith, nat_tests)

is_free : (n : ℕ) (b : Busy) → IsLast n b → IsTrue (is_none (one_more n b))
is_free n Fresh h = grind (arith, nat_tests)
is_free n (Counting fixed arrived) h = grind (arith, nat_tests)

from_freed : (o : Option (Option Busy)) (named : Bool) (n : ℕ) → IsTrue (freed_at o named n) → (busy : Busy) × (o ≡ Some (Some busy)) × IsTrue named
    × IsLast n busy
unfolding freed_at
from_freed None named n h = absurd (cc)
from_freed (Some None) named n h = absurd (cc)
from_freed (Some (Some b)) false n h = absurd (cc)
from_freed (Some (Some b)) true n h = (b, refl, refl, is_last n b h)

to_freed : (busy : Busy) (named : Bool) (n : ℕ) → IsTrue named → IsLast n busy → IsTrue (freed_at (Some (Some busy)) named n)
unfolding freed_at
to_freed b false n h l = absurd (cc)
to_freed b true n h l = is_free n b l

-- the bits of the vector of the freed tags
pub freed_exactly : (v n : ℕ) (xs : List (Option Busy)) (t : ℕ) → IsTrue (is_named (freed_vector v n xs) t) ↔ Completes v n xs t
freed_exactly v n xs t = (
  λ h. from_freed (slice_get xs t) (is_named v t) n (subst IsTrue (freed-get v n xs t) h),
  λ (busy, is_busy, named, last). subst IsTrue (sym (freed-get v n xs t))
      (subst (λ o. IsTrue (freed_at o (is_named v t) n)) (sym is_busy) (to_freed busy (is_named v t) n named last)),
)

map-get : (xs : List (Option Busy)) (t : ℕ) → slice_get (map is_some xs) t ≡ option_map is_some (slice_get xs t)
map-get [] t = refl
map-get (x ∷ xs) zero = refl
map-get (x ∷ xs) (suc t) = map-get xs t

busy_at : (xs : List (Option Busy)) (t : ℕ) → is_named (busy_vector xs) t ≡ unwrap_or (option_map is_some (slice_get xs t)) false
busy_at xs t = is_named-vector_of (map is_some xs) t ∙ ap (λ o. unwrap_or o false) (map-get xs t)

from_busy : (o : Option (Option Busy)) → IsTrue (unwrap_or (option_map is_some o) false) → (busy : Busy) × (o ≡ Some (Some busy))
from_busy None h = absurd (cc)
from_busy (Some None) h = absurd (cc)
from_busy (Some (Some b)) h = (b, refl)

-- the bits of the vector of the busy tags
pub busy_exactly : (xs : List (Option Busy)) (t : ℕ) → IsTrue (is_named (busy_vector xs) t) ↔ IsBusy xs t
busy_exactly xs t = (
  λ h. from_busy (slice_get xs t) (subst IsTrue (busy_at xs t) h),
  λ (busy, is_busy). subst IsTrue (sym (busy_at xs t)) (subst (λ o. IsTrue (unwrap_or (option_map is_some o) false)) (sym is_busy) refl),
)
