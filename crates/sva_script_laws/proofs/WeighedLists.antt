-- What a list weighs, element by element, once one is put in its place, some are left out, or each is changed.
use Rattle.std.proofs.Common.{◌≡◌, ◌∙◌, ◌≤◌, ℕ, zero, suc, ◌+◌, Bool, true, false, List, [], ◌∷◌, ◌++◌, map, drop, take, length, get_or}
use Rattle.std.proofs.Common.{Option, Some, None, inl, inr, refl, ap, arith}
use Rattle.std.proofs.lemmas.List.{take_all, get_or_past}
use Rattle.std.proofs.lemmas.List.Filters.{sum_by-filter_both}
use Rattle.std.proofs.lemmas.List.Sums.{sum_by-cons, sum_by_more, sum_by_push, sum_by-take-le}
use Rattle.std.proofs.lemmas.Option.{same_Some}
use Rattle.std.proofs.lemmas.Bool.{cases_lt}
use Rattle.std.specs.Prelude.{◌&&◌, not, if◌then◌else◌, filter, find, is_none, slice_set, sum_by}
use Rattle.sva_model.specs.Words.{any_below, tabulate}
use Rattle.sva_model.specs.Wire.{insert_by}

-- one in the place of another, or of the default past the end, which weighs nothing
pub put_or : {X : Type 0} (at : X → ℕ) (xs : List X) (k : ℕ) (y d : X) → at d ≡ 0
    → sum_by at (slice_set xs k y) + at (get_or xs k d) ≤ sum_by at xs + at y
put_or at [] k y d h = omega (arith, h)
put_or at (x ∷ xs) zero y d h =
    let whole = sum_by-cons at x xs in
    let new = sum_by-cons at y xs in
    omega (arith, whole, new)
put_or at (x ∷ xs) (suc k) y d h =
    let rest = put_or at xs k y d h in
    let whole = sum_by-cons at x xs in
    let new = sum_by-cons at x (slice_set xs k y) in
    omega (arith, rest, whole, new)

pub put_most : {X : Type 0} (at : X → ℕ) (xs : List X) (k : ℕ) (y : X) → sum_by at (slice_set xs k y) ≤ sum_by at xs + at y
put_most at [] k y = omega arith
put_most at (x ∷ xs) zero y =
    let whole = sum_by-cons at x xs in
    let new = sum_by-cons at y xs in
    omega (arith, whole, new)
put_most at (x ∷ xs) (suc k) y =
    let rest = put_most at xs k y in
    let whole = sum_by-cons at x xs in
    let new = sum_by-cons at x (slice_set xs k y) in
    omega (arith, rest, whole, new)

pub left_in : {X : Type 0} (at : X → ℕ) (p : X → Bool) (xs : List X) → sum_by at (filter p xs) ≤ sum_by at xs
left_in at p xs =
    let both = sum_by-filter_both p (λ x. not (p x)) (λ x. refl) at xs in
    omega (arith, both)

pub changed : {X Y : Type 0} (at : X → ℕ) (other : Y → ℕ) (f : X → Y) → ((x : X) → other (f x) ≤ at x) → (xs : List X)
    → sum_by other (map f xs) ≤ sum_by at xs
changed at other f less [] = omega arith
changed at other f less (x ∷ xs) =
    let rest = changed at other f less xs in
    let whole = sum_by-cons at x xs in
    let new = sum_by-cons other (f x) (map f xs) in
    let one = less x in
    omega (arith, rest, whole, new, one)

-- the first is taken away
pub head_out : {X : Type 0} (at : X → ℕ) (xs : List X) (x : X) (rest : List X) → xs ≡ x ∷ rest → sum_by at (drop 1 xs) + at x ≡ sum_by at xs
head_out at [] x rest h = absurd (cc)
head_out at (y ∷ xs) x rest h =
    let whole = sum_by-cons at y xs in
    let same : at y ≡ at x = cc in
    omega (arith, whole, same)

-- all that pass a test are left out, one of which was found
pub found_out : {X : Type 0} (at : X → ℕ) (p : X → Bool) (xs : List X) (x : X) → find p xs ≡ Some x
    → sum_by at (filter (λ one. not (p one)) xs) + at x ≤ sum_by at xs
found_out at p [] x h = absurd (cc)
found_out {X} at p (y ∷ xs) x h = by_test (p y) h (λ k. found_out at p xs x k)
  where
    whole : sum_by at (y ∷ xs) ≡ at y + sum_by at xs
    whole = sum_by-cons at y xs

    by_test : (b : Bool) → (if b then Some y else find p xs) ≡ Some x
        → (find p xs ≡ Some x → sum_by at (filter (λ one. not (p one)) xs) + at x ≤ sum_by at xs)
        → sum_by at (if not b then (y ∷ filter (λ one. not (p one)) xs) else filter (λ one. not (p one)) xs) + at x ≤ sum_by at (y ∷ xs)
    by_test true is rest =
        let same : at y ≡ at x = ap at (same_Some y x is) in
        let left = left_in at (λ one. not (p one)) xs in
        omega (arith, whole, same, left)
    by_test false is rest =
        let more = rest is in
        let new = sum_by-cons at y (filter (λ one. not (p one)) xs) in
        omega (arith, whole, more, new)

-- one more, in order
pub inserted : {X : Type 0} (at : X → ℕ) (below : X → X → Bool) (x : X) (xs : List X) → sum_by at (insert_by below x xs) ≡ at x + sum_by at xs
inserted at below x [] = sum_by-cons at x []
inserted {X} at below x (y ∷ xs) = by_test (below y x) (inserted at below x xs)
  where
    by_test : (b : Bool) → sum_by at (insert_by below x xs) ≡ at x + sum_by at xs
        → sum_by at (if b then (y ∷ insert_by below x xs) else (x ∷ y ∷ xs)) ≡ at x + sum_by at (y ∷ xs)
    by_test true rest =
        let new = sum_by-cons at y (insert_by below x xs) in
        let whole = sum_by-cons at y xs in
        omega (arith, rest, new, whole)
    by_test false rest = sum_by-cons at x (y ∷ xs)

-- ---- tables

pub no_weight : {X : Type 0} (at : X → ℕ) (f : ℕ → X) → ((k : ℕ) → at (f k) ≡ 0) → (n : ℕ) → sum_by at (tabulate n f) ≡ 0
unfolding tabulate
no_weight at f h zero = refl
no_weight at f h (suc n) =
    let rest = no_weight at f h n in
    let more = sum_by_push at (tabulate n f) (f n) in
    let one = h n in
    omega (arith, rest, more, one)

-- what a table has below a number is no more than all of it
read_most : {X : Type 0} (at : Option X → ℕ) → at None ≡ 0 → (xs : List (Option X)) (n : ℕ)
    → sum_by at (tabulate n (λ k. get_or xs k None)) ≤ sum_by at (take n xs)
unfolding tabulate
read_most at none xs zero = omega arith
read_most {X} at none xs (suc n) = elim (cases_lt n (length xs)) [
  | inl low ↦
      let rest = read_most at none xs n in
      let more = sum_by_push at (tabulate n (λ k. get_or xs k None)) (get_or xs n None) in
      let taken = sum_by_more at xs n None low in
      let next : n + 1 ≡ suc n = omega arith in
      let same : sum_by at (take (n + 1) xs) ≡ sum_by at (take (suc n) xs) = ap (λ k. sum_by at (take k xs)) next in
      omega (arith, rest, more, taken, same)
  | inr past ↦
      let rest = read_most at none xs n in
      let more = sum_by_push at (tabulate n (λ k. get_or xs k None)) (get_or xs n None) in
      let gone : at (get_or xs n None) ≡ 0 = ap at (get_or_past xs n None past) ∙ none in
      let one : sum_by at (take n xs) ≡ sum_by at xs = ap (sum_by at) (take_all n xs past) in
      let all : sum_by at (take (suc n) xs) ≡ sum_by at xs = ap (sum_by at) (take_all (suc n) xs (omega (arith, past))) in
      omega (arith, rest, more, gone, one, all)
]

-- those that are named are left out of a table
abbrev pub left_at : {X : Type 0} → (named : ℕ → Bool) → List (Option X) → ℕ → Option X
left_at named xs k = if named k then None else get_or xs k None

left_most : {X : Type 0} (at : Option X → ℕ) (named : ℕ → Bool) (xs : List (Option X)) (k : ℕ) → at None ≡ 0
    → at (left_at named xs k) ≤ at (get_or xs k None)
left_most at named xs k none = by_test (named k)
  where
    by_test : (b : Bool) → at (if b then None else get_or xs k None) ≤ at (get_or xs k None)
    by_test true = omega (arith, none)
    by_test false = omega arith

all_left_most : {X : Type 0} (at : Option X → ℕ) (named : ℕ → Bool) (xs : List (Option X)) → at None ≡ 0 → (n : ℕ)
    → sum_by at (tabulate n (left_at named xs)) ≤ sum_by at (tabulate n (λ k. get_or xs k None))
unfolding tabulate
all_left_most at named xs none zero = omega arith
all_left_most at named xs none (suc n) =
    let rest = all_left_most at named xs none n in
    let new = sum_by_push at (tabulate n (left_at named xs)) (left_at named xs n) in
    let old = sum_by_push at (tabulate n (λ k. get_or xs k None)) (get_or xs n None) in
    let one = left_most at named xs n none in
    omega (arith, rest, new, old, one)

-- where one is named, and each that is named is there, that is less
named_less : {X : Type 0} (at : Option X → ℕ) (named : ℕ → Bool) (xs : List (Option X)) → at None ≡ 0 → ((x : X) → 2 ≤ at (Some x)) → (n : ℕ)
    → any_below n named ≡ true → any_below n (λ k. named k && is_none (get_or xs k None)) ≡ false
    → sum_by at (tabulate n (left_at named xs)) + 2 ≤ sum_by at (tabulate n (λ k. get_or xs k None))
unfolding any_below tabulate
named_less at named xs none some zero is there = absurd (cc is)
named_less {X} at named xs none some (suc n) is there =
    by_test (named n) (get_or xs n None) refl refl is there (λ one rest. named_less at named xs none some n one rest)
  where
    new : sum_by at (tabulate n (left_at named xs) ++ left_at named xs n ∷ []) ≡ sum_by at (tabulate n (left_at named xs)) + at (left_at named xs n)
    new = sum_by_push at (tabulate n (left_at named xs)) (left_at named xs n)

    old : sum_by at (tabulate n (λ k. get_or xs k None) ++ get_or xs n None ∷ [])
        ≡ sum_by at (tabulate n (λ k. get_or xs k None)) + at (get_or xs n None)
    old = sum_by_push at (tabulate n (λ k. get_or xs k None)) (get_or xs n None)

    by_test : (b : Bool) (o : Option X) → named n ≡ b → get_or xs n None ≡ o → (if b then true else any_below n named) ≡ true
        → (if b && is_none o then true else any_below n (λ k. named k && is_none (get_or xs k None))) ≡ false
        → (any_below n named ≡ true → any_below n (λ k. named k && is_none (get_or xs k None)) ≡ false
        → sum_by at (tabulate n (left_at named xs)) + 2 ≤ sum_by at (tabulate n (λ k. get_or xs k None)))
        → sum_by at (tabulate n (left_at named xs) ++ left_at named xs n ∷ []) + 2
        ≤ sum_by at (tabulate n (λ k. get_or xs k None) ++ get_or xs n None ∷ [])
    by_test true None b o is there rest = absurd (cc there)
    by_test true (Some x) b o is there rest =
        let below = all_left_most at named xs none n in
        let gone : at (left_at named xs n) ≡ 0 = ap (λ (c : Bool). at (if c then None else get_or xs n None)) b ∙ none in
        let here : at (get_or xs n None) ≡ at (Some x) = ap at o in
        let much = some x in
        omega (arith, new, old, below, gone, here, much)
    by_test false o b at_it is there rest =
        let less = rest is there in
        let one = left_most at named xs n none in
        omega (arith, new, old, less, one)

pub named_out : {X : Type 0} (at : Option X → ℕ) (named : ℕ → Bool) (xs : List (Option X)) → at None ≡ 0 → ((x : X) → 2 ≤ at (Some x)) → (n : ℕ)
    → any_below n named ≡ true → any_below n (λ k. named k && is_none (get_or xs k None)) ≡ false
    → sum_by at (tabulate n (left_at named xs)) + 2 ≤ sum_by at xs
named_out at named xs none some n is there =
    let less = named_less at named xs none some n is there in
    let read = read_most at none xs n in
    let part = sum_by-take-le at xs n in
    omega (arith, less, read, part)
