-- What a list weighs, element by element, once one is taken out or put in its place, some are left out, or each is changed.
use Rattle.std.proofs.Common.{◌≡◌, ◌∙◌, ◌<◌, ◌≤◌, ℕ, zero, suc, ◌+◌, ◌-◌, Bool, true, false, cond, List, [], ◌∷◌, map, drop, length, get_or}
use Rattle.std.proofs.Common.{Some, None, refl, ap, arith}
use Rattle.std.proofs.lemmas.Bool.{lt-ltb, ltb-true}
use Rattle.std.proofs.lemmas.List.{drop-drop}
use Rattle.std.proofs.lemmas.List.Filters.{sum_by-filter_both}
use Rattle.std.proofs.lemmas.List.Sums.{sum_by-cons, sum_by-take-drop}
use Rattle.std.proofs.lemmas.Option.{cond_some, same_Some, slice_get-get_or}
use Rattle.std.specs.Prelude.{◌||◌, not, nat_lt, if◌then◌else◌, filter, position, remove, slice_get, slice_set, sum_by}
use Rattle.std.specs.List.{list_any, position_or_len}

-- ---- one is taken out

pub out : {X : Type 0} (at : X → ℕ) (xs : List X) (k : ℕ) (x : X) → slice_get xs k ≡ Some x → sum_by at (remove xs k) + at x ≡ sum_by at xs
out at [] k x h = absurd (cc)
out at (y ∷ xs) zero x h =
    let same : at y ≡ at x = ap at (same_Some y x h) in
    let whole = sum_by-cons at y xs in
    omega (arith, whole, same)
out at (y ∷ xs) (suc k) x h =
    let rest = out at xs k x h in
    let whole = sum_by-cons at y xs in
    let left = sum_by-cons at y (remove xs k) in
    omega (arith, rest, whole, left)

pub less_out : {X : Type 0} (at : X → ℕ) (xs : List X) (k : ℕ) → sum_by at (remove xs k) ≤ sum_by at xs
less_out at [] zero = omega arith
less_out at [] (suc k) = omega arith
less_out at (y ∷ xs) zero =
    let whole = sum_by-cons at y xs in
    omega (arith, whole)
less_out at (y ∷ xs) (suc k) =
    let rest = less_out at xs k in
    let whole = sum_by-cons at y xs in
    let left = sum_by-cons at y (remove xs k) in
    omega (arith, rest, whole, left)

-- ---- one is put in its place

pub put_in : {X : Type 0} (at : X → ℕ) (xs : List X) (k : ℕ) (x y : X) → slice_get xs k ≡ Some x
    → sum_by at (slice_set xs k y) + at x ≡ sum_by at xs + at y
put_in at [] k x y h = absurd (cc)
put_in at (z ∷ xs) zero x y h =
    let same : at z ≡ at x = ap at (same_Some z x h) in
    let whole = sum_by-cons at z xs in
    let new = sum_by-cons at y xs in
    omega (arith, whole, new, same)
put_in at (z ∷ xs) (suc k) x y h =
    let rest = put_in at xs k x y h in
    let whole = sum_by-cons at z xs in
    let new = sum_by-cons at z (slice_set xs k y) in
    omega (arith, rest, whole, new)

-- wherever it is, it adds no more than itself
pub put_most : {X : Type 0} (at : X → ℕ) (xs : List X) (k : ℕ) (y : X) → sum_by at (slice_set xs k y) ≤ sum_by at xs + at y
put_most at [] k y = omega arith
put_most at (z ∷ xs) zero y =
    let whole = sum_by-cons at z xs in
    let new = sum_by-cons at y xs in
    omega (arith, whole, new)
put_most at (z ∷ xs) (suc k) y =
    let rest = put_most at xs k y in
    let whole = sum_by-cons at z xs in
    let new = sum_by-cons at z (slice_set xs k y) in
    omega (arith, rest, whole, new)

-- ---- some are left out, or all are changed

pub left_in : {X : Type 0} (at : X → ℕ) (p : X → Bool) (xs : List X) → sum_by at (filter p xs) ≤ sum_by at xs
left_in at p xs =
    let both = sum_by-filter_both p (λ x. not (p x)) (λ x. refl) at xs in
    omega (arith, both)

pub behind : {X : Type 0} (at : X → ℕ) (xs : List X) (k : ℕ) → sum_by at (drop k xs) ≤ sum_by at xs
behind at xs k =
    let both = sum_by-take-drop at xs k in
    omega (arith, both)

pub further_behind : {X : Type 0} (at : X → ℕ) (xs : List X) (k n : ℕ) → k ≤ n → sum_by at (drop n xs) ≤ sum_by at (drop k xs)
further_behind at xs k n low =
    let whole : k + (n - k) ≡ n = omega (arith, low) in
    let same : sum_by at (drop (n - k) (drop k xs)) ≡ sum_by at (drop n xs) = ap (sum_by at) (drop-drop (n - k) k xs ∙ ap (λ m. drop m xs) whole) in
    let less = behind at (drop k xs) (n - k) in
    omega (arith, same, less)

pub changed : {X Y : Type 0} (at : X → ℕ) (other : Y → ℕ) (f : X → Y) → ((x : X) → other (f x) ≤ at x) → (xs : List X)
    → sum_by other (map f xs) ≤ sum_by at xs
changed at other f less [] = omega arith
changed at other f less (x ∷ xs) =
    let rest = changed at other f less xs in
    let whole = sum_by-cons at x xs in
    let new = sum_by-cons other (f x) (map f xs) in
    let one = less x in
    omega (arith, rest, whole, new, one)

-- ---- where one that passes a test is left out, less is there

either : (a b : Bool) → a || b ≡ true → a ≡ false → b ≡ true
either true b h k = absurd (cc)
either false b h k = h

pub left_less : {X : Type 0} (at : X → ℕ) (p q : X → Bool) → ((x : X) → q x ≡ true → p x ≡ false) → ((x : X) → q x ≡ true → 0 < at x)
    → (xs : List X) → list_any q xs ≡ true → sum_by at (filter p xs) < sum_by at xs
left_less at p q gone weighs [] h = absurd (cc)
left_less {X} at p q gone weighs (x ∷ xs) h =
    by_test (q x) (p x) refl refl (λ is. left_less at p q gone weighs xs (either (q x) (list_any q xs) h is))
  where
    whole : sum_by at (x ∷ xs) ≡ at x + sum_by at xs
    whole = sum_by-cons at x xs

    by_test : (a b : Bool) → q x ≡ a → p x ≡ b → (q x ≡ false → sum_by at (filter p xs) < sum_by at xs)
        → sum_by at (if b then (x ∷ filter p xs) else filter p xs) < sum_by at (x ∷ xs)
    by_test true false is so rest =
        let one = weighs x is in
        let left = left_in at p xs in
        omega (arith, whole, one, left)
    by_test true true is so rest =
        let never : p x ≡ false = gone x is in
        absurd (cc)
    by_test false true is so rest =
        let less = rest is in
        let new = sum_by-cons at x (filter p xs) in
        omega (arith, whole, new, less)
    by_test false false is so rest =
        let less = rest is in
        omega (arith, whole, less)

-- ---- the first that passes a test

within_by : (b rest : Bool) (n m : ℕ) → b || rest ≡ true → (rest ≡ true → n < m) → cond (not b) (1 + n) 0 < suc m
within_by true rest n m h k = omega arith
within_by false rest n m h k =
    let low = k h in
    omega (arith, low)

within : {X : Type 0} (p : X → Bool) (xs : List X) → list_any p xs ≡ true → position_or_len p xs < length xs
within p [] h = absurd (cc)
within p (x ∷ xs) h = within_by (p x) (list_any p xs) (position_or_len p xs) (length xs) h (within p xs)

pub there : {X : Type 0} (p : X → Bool) (xs : List X) → list_any p xs ≡ true
    → (place : ℕ) × (x : X) × (position p xs ≡ Some place) × (slice_get xs place ≡ Some x)
there p [] h = absurd (cc)
there p (x ∷ xs) h =
    let low = within p (x ∷ xs) h in
    let place = position_or_len p (x ∷ xs) in (
      place,
      get_or (x ∷ xs) place x,
      ap (λ (b : Bool). cond b (Some place) None) (lt-ltb place (length (x ∷ xs)) low),
      slice_get-get_or (x ∷ xs) place x low,
    )

pub any_at : {X : Type 0} (p : X → Bool) (xs : List X) (k : ℕ) (x : X) → slice_get xs k ≡ Some x → p x ≡ true → list_any p xs ≡ true
any_at p [] k x h is = absurd (cc)
any_at p (y ∷ xs) zero x h is =
    let so : p y ≡ true = ap p (same_Some y x h) ∙ is in
    ap (λ b. b || list_any p xs) so
any_at p (y ∷ xs) (suc k) x h is =
    let so = any_at p xs k x h is in
    by_test (p y) so
  where
    by_test : (b : Bool) → list_any p xs ≡ true → b || list_any p xs ≡ true
    by_test true so = refl
    by_test false so = so

some_at : {X : Type 0} (xs : List X) (k : ℕ) → k < length xs → (x : X) × (slice_get xs k ≡ Some x)
some_at [] k low = absurd (omega (arith, low))
some_at (x ∷ xs) zero low = (x, refl)
some_at (x ∷ xs) (suc k) low = some_at xs k (omega (arith, low))

-- what is found by its test stands there
pub placed : {X : Type 0} (p : X → Bool) (xs : List X) (place : ℕ) → position p xs ≡ Some place → (x : X) × (slice_get xs place ≡ Some x)
placed p xs place h =
    let its = cond_some (nat_lt (position_or_len p xs) (length xs)) (position_or_len p xs) place h in
    let low = ltb-true (position_or_len p xs) (length xs) its.0 in
    some_at xs place (omega (arith, low, its.1))
