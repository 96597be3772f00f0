-- Tables of labels, seen place by place.
use Rattle.std.proofs.Common.{◌≡◌, refl, ap, ℕ, zero, suc, ◌+◌, Bool, true, false}
use Rattle.std.specs.Prelude.{cond, ◌||◌, not, nat_lt, if◌then◌else◌, is_none, Option, Some, None, List, [], ◌∷◌, map, length, slice_index_or, position}
use Rattle.std.specs.List.{position_or_len, list_any, count_by}
use Rattle.std.proofs.lemmas.List.{length-map}
use Rattle.std.proofs.lemmas.List.Sums.{sum_by-cons}

-- the lowest free place
pub first_place : {A B : Type 0} (see : A → Option B) (is_free : A → Bool) → ((a : A) → is_none (see a) ≡ is_free a) → (xs : List A)
    → position_or_len (λ b. is_none b) (map see xs) ≡ position_or_len is_free xs
first_place see is_free h [] = refl
first_place see is_free h (x ∷ xs) = λ i. cond (not (h x i)) (1 + first_place see is_free h xs i) 0

pub lowest_place : {A B : Type 0} (see : A → Option B) (is_free : A → Bool) → ((a : A) → is_none (see a) ≡ is_free a) → (xs : List A)
    → position (λ b. is_none b) (map see xs) ≡ position is_free xs
lowest_place see is_free h xs =
    let same = first_place see is_free h xs in
    let long = length-map xs see in
    λ i. cond (nat_lt (same i) (long i)) (Some (same i)) None

-- a position that is there is the place itself
pub place_there : {A : Type 0} (p : A → Bool) (xs : List A) → is_none (position p xs) ≡ false → position p xs ≡ Some (position_or_len p xs)
place_there p xs h = go (nat_lt (position_or_len p xs) (length xs)) h
  where
    go : (b : Bool) → is_none (cond b (Some (position_or_len p xs)) None) ≡ false → cond b (Some (position_or_len p xs)) None ≡ Some (position_or_len p xs)
    go true h = refl
    go false h = absurd (cc (h))

-- what stands at a place
pub seen_at : {A B : Type 0} (see : A → B) (xs : List A) (k : ℕ) (d : A) → slice_index_or (map see xs) k (see d) ≡ see (slice_index_or xs k d)
seen_at see [] k d = refl
seen_at see (x ∷ xs) zero d = refl
seen_at see (x ∷ xs) (suc k) d = seen_at see xs k d

-- a map that changes each place
pub seen_each : {A B : Type 0} (see : A → B) (f : A → A) (g : B → B) → ((a : A) → see (f a) ≡ g (see a)) → (xs : List A)
    → map see (map f xs) ≡ map g (map see xs)
seen_each see f g h [] = refl
seen_each see f g h (x ∷ xs) = λ i. h x i ∷ seen_each see f g h xs i

pub seen_any : {A B : Type 0} (see : A → B) (p : A → Bool) (q : B → Bool) → ((a : A) → p a ≡ q (see a)) → (xs : List A)
    → list_any p xs ≡ list_any q (map see xs)
seen_any see p q h [] = refl
seen_any see p q h (x ∷ xs) = λ i. h x i || seen_any see p q h xs i

pub seen_any_at : {A : Type 0} (p q : A → Bool) → ((a : A) → p a ≡ q a) → (xs : List A) → list_any p xs ≡ list_any q xs
seen_any_at p q h [] = refl
seen_any_at p q h (x ∷ xs) = λ i. h x i || seen_any_at p q h xs i

-- what is seen of what is seen
pub map_twice : {A B C : Type 0} (f : A → B) (g : B → C) (xs : List A) → map g (map f xs) ≡ map (λ a. g (f a)) xs
map_twice f g [] = refl
map_twice f g (x ∷ xs) = ap (λ l. g (f x) ∷ l) (map_twice f g xs)

-- a count, from its first entry on
pub count_first : {A : Type 0} (p : A → Bool) (x : A) (xs : List A) → count_by p (x ∷ xs) ≡ (if p x then 1 else 0) + count_by p xs
count_first p x xs = sum_by-cons (λ y. cond (p y) 1 0) x xs
