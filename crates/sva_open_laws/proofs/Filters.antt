-- What a filter leaves of a list: beside another filter, behind one more element, and at a place.
use Rattle.std.proofs.Common.{arith, ◌≡◌, ◌+◌, ℕ, zero, suc, Bool, true, false, List, [], ◌∷◌, ◌++◌, take, length}
use Rattle.std.proofs.Common.{Option, Some, None, refl, ap, sym, ◌∙◌}
use Rattle.std.specs.Prelude.{◌||◌, not, nat_lt, if◌then◌else◌, remove, filter, slice_get, find, position, option_map}
use Rattle.std.specs.List.{list_all, list_any, position_or_len}
use Rattle.std.proofs.lemmas.Bool.{and_from, and_parts}
use Rattle.std.proofs.lemmas.Bool.Decides.{nat_tests}
use Rattle.std.proofs.lemmas.List.{append-nil}
use Rattle.std.proofs.lemmas.List.Elements.{filter-append}
use Rattle.sva_open_laws.specs.Pages.{place_in}

pub left : {A : Type 0} (p : A → Bool) (x : A) (xs : List A) → p x ≡ true → filter p (x ∷ xs) ≡ x ∷ filter p xs
left p x xs h = ap (λ (b : Bool). if b then (x ∷ filter p xs) else filter p xs) h

pub gone : {A : Type 0} (p : A → Bool) (x : A) (xs : List A) → p x ≡ false → filter p (x ∷ xs) ≡ filter p xs
gone p x xs h = ap (λ (b : Bool). if b then (x ∷ filter p xs) else filter p xs) h

-- ---- all that is left passes; and where all pass, all are left

all_left_by : {A : Type 0} (p : A → Bool) (x : A) (xs : List A) (b : Bool) → p x ≡ b → list_all p xs ≡ true
    → list_all p (if b then (x ∷ xs) else xs) ≡ true
all_left_by p x xs true h rest = and_from (p x) (list_all p xs) h rest
all_left_by p x xs false h rest = rest

pub all_left : {A : Type 0} (p : A → Bool) (xs : List A) → list_all p (filter p xs) ≡ true
all_left p [] = refl
all_left p (x ∷ xs) = all_left_by p x (filter p xs) (p x) refl (all_left p xs)

pub filter_all : {A : Type 0} (p : A → Bool) (xs : List A) → list_all p xs ≡ true → filter p xs ≡ xs
filter_all p [] h = refl
filter_all p (x ∷ xs) h =
    let each = and_parts (p x) (list_all p xs) h in
    left p x xs each.0 ∙ ap (λ l. x ∷ l) (filter_all p xs each.1)

-- ---- two filters, in whatever order

both_by : {A : Type 0} (p q : A → Bool) (x : A) (xs : List A) (a b : Bool) → p x ≡ a → q x ≡ b
    → filter p (filter q xs) ≡ filter q (filter p xs)
    → filter p (if b then (x ∷ filter q xs) else filter q xs) ≡ filter q (if a then (x ∷ filter p xs) else filter p xs)
both_by p q x xs true true h k rest = left p x (filter q xs) h ∙ ap (λ l. x ∷ l) rest ∙ sym (left q x (filter p xs) k)
both_by p q x xs true false h k rest = rest ∙ sym (gone q x (filter p xs) k)
both_by p q x xs false true h k rest = gone p x (filter q xs) h ∙ rest
both_by p q x xs false false h k rest = rest

pub filter_both : {A : Type 0} (p q : A → Bool) (xs : List A) → filter p (filter q xs) ≡ filter q (filter p xs)
filter_both p q [] = refl
filter_both p q (x ∷ xs) = both_by p q x xs (p x) (q x) refl refl (filter_both p q xs)

-- what one leaves the other does too
inner_by : {A : Type 0} (p q : A → Bool) (x : A) (xs : List A) (a b : Bool) → p x ≡ a → q x ≡ b → (p x ≡ true → q x ≡ true)
    → filter p (filter q xs) ≡ filter p xs
    → filter p (if b then (x ∷ filter q xs) else filter q xs) ≡ (if a then (x ∷ filter p xs) else filter p xs)
inner_by p q x xs true true h k so rest = left p x (filter q xs) h ∙ ap (λ l. x ∷ l) rest
inner_by p q x xs false true h k so rest = gone p x (filter q xs) h ∙ rest
inner_by p q x xs false false h k so rest = rest
inner_by p q x xs true false h k so rest = let never : q x ≡ true = so h in absurd (cc)

pub filter_inner : {A : Type 0} (p q : A → Bool) → ((x : A) → p x ≡ true → q x ≡ true) → (xs : List A) → filter p (filter q xs) ≡ filter p xs
filter_inner p q so [] = refl
filter_inner p q so (x ∷ xs) = inner_by p q x xs (p x) (q x) refl refl (so x) (filter_inner p q so xs)

-- ---- one more behind all

pub filter_left : {A : Type 0} (p : A → Bool) (xs : List A) (x : A) → p x ≡ true → filter p (xs ++ x ∷ []) ≡ filter p xs ++ x ∷ []
filter_left p xs x h = filter-append p xs (x ∷ []) ∙ ap (λ l. filter p xs ++ l) (left p x [] h)

pub filter_without : {A : Type 0} (p : A → Bool) (xs : List A) (x : A) → p x ≡ false → filter p (xs ++ x ∷ []) ≡ filter p xs
filter_without p xs x h = filter-append p xs (x ∷ []) ∙ ap (λ l. filter p xs ++ l) (gone p x [] h) ∙ append-nil (filter p xs)

-- ---- places

get_by : {A : Type 0} (p : A → Bool) (x y : A) (xs : List A) (k : ℕ) (b : Bool) → slice_get (filter p xs) (place_in p xs k) ≡ Some y
    → slice_get (if b then (x ∷ filter p xs) else filter p xs) (if b then suc (place_in p xs k) else place_in p xs k) ≡ Some y
get_by p x y xs k true rest = rest
get_by p x y xs k false rest = rest

-- what is left stands at its place in what is left
pub get_in : {A : Type 0} (p : A → Bool) (xs : List A) (k : ℕ) (y : A) → slice_get xs k ≡ Some y → p y ≡ true
    → slice_get (filter p xs) (place_in p xs k) ≡ Some y
get_in p [] zero y h k = absurd (cc)
get_in p [] (suc n) y h k = absurd (cc)
get_in p (x ∷ xs) zero y h k =
    let same : x ≡ y = cc in
    ap (λ (l : List _). slice_get l 0) (left p x xs (ap p same ∙ k)) ∙ h
get_in p (x ∷ xs) (suc n) y h k = get_by p x y xs n (p x) (get_in p xs n y h k)

out_by : {A : Type 0} (p : A → Bool) (x : A) (xs : List A) (k : ℕ) (b : Bool) → filter p (remove xs k) ≡ remove (filter p xs) (place_in p xs k)
    → (if b then (x ∷ filter p (remove xs k)) else filter p (remove xs k))
    ≡ remove (if b then (x ∷ filter p xs) else filter p xs) (if b then suc (place_in p xs k) else place_in p xs k)
out_by p x xs k true rest = ap (λ l. x ∷ l) rest
out_by p x xs k false rest = rest

pub remove_in : {A : Type 0} (p : A → Bool) (xs : List A) (k : ℕ) (y : A) → slice_get xs k ≡ Some y → p y ≡ true
    → filter p (remove xs k) ≡ remove (filter p xs) (place_in p xs k)
remove_in p [] zero y h k = refl
remove_in p [] (suc n) y h k = refl
remove_in p (x ∷ xs) zero y h k =
    let same : x ≡ y = cc in
    sym (ap (λ (l : List _). remove l 0) (left p x xs (ap p same ∙ k)))
remove_in p (x ∷ xs) (suc n) y h k = out_by p x xs n (p x) (remove_in p xs n y h k)

-- without what isn't left anyway
pub remove_gone : {A : Type 0} (p : A → Bool) (xs : List A) (k : ℕ) (y : A) → slice_get xs k ≡ Some y → p y ≡ false
    → filter p (remove xs k) ≡ filter p xs
remove_gone p [] zero y h k = refl
remove_gone p [] (suc n) y h k = refl
remove_gone p (x ∷ xs) zero y h k =
    let same : x ≡ y = cc in
    sym (gone p x xs (ap p same ∙ k))
remove_gone p (x ∷ xs) (suc n) y h k = ap (λ (l : List _). if p x then (x ∷ l) else l) (remove_gone p xs n y h k)

before_by : {A : Type 0} (p : A → Bool) (x : A) (xs : List A) (k : ℕ) (b : Bool) → take (place_in p xs k) (filter p xs) ≡ filter p (take k xs)
    → take (if b then suc (place_in p xs k) else place_in p xs k) (if b then (x ∷ filter p xs) else filter p xs)
    ≡ (if b then (x ∷ filter p (take k xs)) else filter p (take k xs))
before_by p x xs k true rest = ap (λ l. x ∷ l) rest
before_by p x xs k false rest = rest

take_none : {A : Type 0} (xs : List A) → take 0 xs ≡ []
take_none [] = refl
take_none (x ∷ xs) = refl

-- what stands before it, of what is left
pub take_in : {A : Type 0} (p : A → Bool) (xs : List A) (k : ℕ) → take (place_in p xs k) (filter p xs) ≡ filter p (take k xs)
take_in p [] zero = refl
take_in p [] (suc n) = refl
take_in p (x ∷ xs) zero = take_none (filter p (x ∷ xs))
take_in p (x ∷ xs) (suc n) = before_by p x xs n (p x) (take_in p xs n)

next_by : {A : Type 0} (p : A → Bool) (xs : List A) (k : ℕ) (b : Bool) → suc (place_in p xs k) ≡ place_in p xs (suc k)
    → suc (if b then suc (place_in p xs k) else place_in p xs k) ≡ (if b then suc (place_in p xs (suc k)) else place_in p xs (suc k))
next_by p xs k true rest = ap suc rest
next_by p xs k false rest = rest

first_place : {A : Type 0} (p : A → Bool) (xs : List A) → place_in p xs 0 ≡ 0
first_place p [] = refl
first_place p (x ∷ xs) = refl

next_place : {A : Type 0} (p : A → Bool) (xs : List A) (k : ℕ) (y : A) → slice_get xs k ≡ Some y → p y ≡ true
    → suc (place_in p xs k) ≡ place_in p xs (suc k)
next_place p [] zero y h k = absurd (cc)
next_place p [] (suc n) y h k = absurd (cc)
next_place p (x ∷ xs) zero y h k =
    let same : x ≡ y = cc in
    sym (ap (λ (b : Bool). if b then suc (place_in p xs 0) else place_in p xs 0) (ap p same ∙ k) ∙ ap suc (first_place p xs))
next_place p (x ∷ xs) (suc n) y h k = next_by p xs n (p x) (next_place p xs n y h k)

-- what stands up to it
pub up_to : {A : Type 0} (p : A → Bool) (xs : List A) (k : ℕ) (y : A) → slice_get xs k ≡ Some y → p y ≡ true
    → take (suc (place_in p xs k)) (filter p xs) ≡ filter p (take (suc k) xs)
up_to p xs k y h is = ap (λ n. take n (filter p xs)) (next_place p xs k y h is) ∙ take_in p xs (suc k)

-- ---- tests

fewer_by : {A : Type 0} (p q : A → Bool) (x : A) (xs : List A) (b : Bool) → q x || list_any q xs ≡ false
    → list_any q (filter p xs) ≡ false → list_any q (if b then (x ∷ filter p xs) else filter p xs) ≡ false
fewer_by p q x xs true h rest = grind (arith, nat_tests)
fewer_by p q x xs false h rest = rest

-- none among all: none among what is left
pub fewer : {A : Type 0} (p q : A → Bool) (xs : List A) → list_any q xs ≡ false → list_any q (filter p xs) ≡ false
fewer p q [] h = refl
fewer p q (x ∷ xs) h = fewer_by p q x xs (p x) h (fewer p q xs (grind (arith, nat_tests)))

-- ---- the first that passes a test, where all that pass it are left

found_by : {A : Type 0} (p q : A → Bool) (x : A) (xs : List A) (a b : Bool) → p x ≡ a → q x ≡ b → (q x ≡ true → p x ≡ true)
    → find q (filter p xs) ≡ find q xs → find q (if a then (x ∷ filter p xs) else filter p xs) ≡ (if b then Some x else find q xs)
found_by p q x xs true true h k so rest = ap (λ (b : Bool). if b then Some x else find q (filter p xs)) k
found_by p q x xs true false h k so rest = ap (λ (b : Bool). if b then Some x else find q (filter p xs)) k ∙ rest
found_by p q x xs false false h k so rest = rest
found_by p q x xs false true h k so rest = let never : p x ≡ true = so k in absurd (cc)

pub find_in : {A : Type 0} (p q : A → Bool) → ((x : A) → q x ≡ true → p x ≡ true) → (xs : List A) → find q (filter p xs) ≡ find q xs
find_in p q so [] = refl
find_in p q so (x ∷ xs) = found_by p q x xs (p x) (q x) refl refl (so x) (find_in p q so xs)

none_by : {A : Type 0} (p q : A → Bool) (x : A) (xs : List A) (a b : Bool) → p x ≡ a → q x ≡ b → (q x ≡ true → p x ≡ false)
    → find q (filter p xs) ≡ None → find q (if a then (x ∷ filter p xs) else filter p xs) ≡ None
none_by p q x xs false b h k so rest = rest
none_by p q x xs true false h k so rest = ap (λ (b : Bool). if b then Some x else find q (filter p xs)) k ∙ rest
none_by p q x xs true true h k so rest = let never : p x ≡ false = so k in absurd (cc)

-- nor is one found where none that passes is left
pub find_none : {A : Type 0} (p q : A → Bool) → ((x : A) → q x ≡ true → p x ≡ false) → (xs : List A) → find q (filter p xs) ≡ None
find_none p q so [] = refl
find_none p q so (x ∷ xs) = none_by p q x xs (p x) (q x) refl refl (so x) (find_none p q so xs)

passes_by : {A : Type 0} (q : A → Bool) (x y : A) (xs : List A) (b : Bool) → q x ≡ b → (find q xs ≡ Some y → q y ≡ true)
    → (if b then Some x else find q xs) ≡ Some y → q y ≡ true
passes_by q x y xs true h rest k = let same : x ≡ y = cc in ap q (sym same) ∙ h
passes_by q x y xs false h rest k = rest k

pub find_passes : {A : Type 0} (q : A → Bool) (xs : List A) (y : A) → find q xs ≡ Some y → q y ≡ true
find_passes q [] y h = absurd (cc)
find_passes q (x ∷ xs) y h = passes_by q x y xs (q x) refl (find_passes q xs y) h

-- ---- its place

first_by : (b c : Bool) (n len : ℕ) → nat_lt n len ≡ c
    → (if nat_lt (if not b then 1 + n else 0) (suc len) then Some (if not b then 1 + n else 0) else None)
    ≡ (if b then Some 0 else option_map suc (if c then Some n else None))
first_by true c n len h =
    let within : nat_lt 0 (suc len) ≡ true = grind (arith, nat_tests) in
    ap (λ (b : Bool). if b then Some 0 else None) within
first_by false true n len h =
    let within : nat_lt (1 + n) (suc len) ≡ true = grind (arith, nat_tests) in
    let same : 1 + n ≡ suc n = omega arith in
    ap (λ (b : Bool). if b then Some (1 + n) else None) within ∙ ap Some same
first_by false false n len h =
    let within : nat_lt (1 + n) (suc len) ≡ false = grind (arith, nat_tests) in
    ap (λ (b : Bool). if b then Some (1 + n) else None) within

-- it is found one by one
pub position_next : {A : Type 0} (q : A → Bool) (x : A) (xs : List A)
    → position q (x ∷ xs) ≡ (if q x then Some 0 else option_map suc (position q xs))
position_next q x xs = first_by (q x) _ (position_or_len q xs) (length xs) refl

place_after : {A : Type 0} (p : A → Bool) (x : A) (xs : List A) (o : Option ℕ) → p x ≡ true
    → option_map suc (option_map (place_in p xs) o) ≡ option_map (place_in p (x ∷ xs)) (option_map suc o)
place_after p x xs None h = refl
place_after p x xs (Some k) h = ap (λ (b : Bool). Some (if b then suc (place_in p xs k) else place_in p xs k)) (sym h)

place_gone : {A : Type 0} (p : A → Bool) (x : A) (xs : List A) (o : Option ℕ) → p x ≡ false
    → option_map (place_in p xs) o ≡ option_map (place_in p (x ∷ xs)) (option_map suc o)
place_gone p x xs None h = refl
place_gone p x xs (Some k) h = ap (λ (b : Bool). Some (if b then suc (place_in p xs k) else place_in p xs k)) (sym h)

at_by : {A : Type 0} (p q : A → Bool) (x : A) (xs : List A) (a b : Bool) → p x ≡ a → q x ≡ b → (q x ≡ true → p x ≡ true)
    → position q (filter p xs) ≡ option_map (place_in p xs) (position q xs)
    → position q (if a then (x ∷ filter p xs) else filter p xs)
    ≡ option_map (place_in p (x ∷ xs)) (if b then Some 0 else option_map suc (position q xs))
at_by p q x xs true true h k so rest =
    position_next q x (filter p xs) ∙ ap (λ (b : Bool). if b then Some 0 else option_map suc (position q (filter p xs))) k
at_by p q x xs true false h k so rest =
    position_next q x (filter p xs) ∙ ap (λ (b : Bool). if b then Some 0 else option_map suc (position q (filter p xs))) k
    ∙ ap (option_map suc) rest ∙ place_after p x xs (position q xs) h
at_by p q x xs false false h k so rest = rest ∙ place_gone p x xs (position q xs) h
at_by p q x xs false true h k so rest = let never : p x ≡ true = so k in absurd (cc)

pub position_in : {A : Type 0} (p q : A → Bool) → ((x : A) → q x ≡ true → p x ≡ true) → (xs : List A)
    → position q (filter p xs) ≡ option_map (place_in p xs) (position q xs)
position_in p q so [] = refl
position_in p q so (x ∷ xs) =
    at_by p q x xs (p x) (q x) refl refl (so x) (position_in p q so xs) ∙ ap (option_map (place_in p (x ∷ xs))) (sym (position_next q x xs))

-- what stands there passes it
abbrev pub StandsAt : {A : Type 0} → (A → Bool) → List A → ℕ → Type 0
StandsAt {A} q xs place = (y : A) × (slice_get xs place ≡ Some y) × (q y ≡ true)

next_stands : {A : Type 0} (q : A → Bool) (x : A) (xs : List A) (place : ℕ) (o : Option ℕ)
    → ((k : ℕ) → o ≡ Some k → StandsAt q xs k) → option_map suc o ≡ Some place → StandsAt q (x ∷ xs) place
next_stands q x xs place None rest h = absurd (cc)
next_stands q x xs zero (Some k) rest h = absurd (cc)
next_stands q x xs (suc place) (Some k) rest h = let same : k ≡ place = cc in rest place (ap Some same)

stands_by : {A : Type 0} (q : A → Bool) (x : A) (xs : List A) (place : ℕ) (b : Bool) → q x ≡ b
    → ((k : ℕ) → position q xs ≡ Some k → StandsAt q xs k)
    → (if b then Some 0 else option_map suc (position q xs)) ≡ Some place → StandsAt q (x ∷ xs) place
stands_by q x xs zero true h rest k = (x, refl, h)
stands_by q x xs (suc place) true h rest k = absurd (cc)
stands_by q x xs place false h rest k = next_stands q x xs place (position q xs) rest k

pub position_get : {A : Type 0} (q : A → Bool) (xs : List A) (place : ℕ) → position q xs ≡ Some place → StandsAt q xs place
position_get q [] place h = absurd (cc)
position_get q (x ∷ xs) place h = stands_by q x xs place (q x) refl (position_get q xs) (sym (position_next q x xs) ∙ h)
