use Rattle.std.proofs.Common.{◌≡◌, ◌≢◌, ℕ, ◌+◌, ◌<◌, ◌≤◌, Bool, false, cond, List, Some, None, [], ◌∷◌, length, get_or, set, map, slice_get, refl, sym, ap}
use Rattle.std.proofs.Common.{◌∙◌, arith, zero, suc, replicate, count_by}
use Rattle.std.specs.List.{position, position_or_len}
use Rattle.std.proofs.lemmas.Bool.Decides.{nat_tests}
use Rattle.std.proofs.lemmas.List.Sums.{fails_before_first, sum_by-cons}
use Rattle.std.proofs.lemmas.List.Quantifiers.{position-Some}
use Rattle.std.proofs.lemmas.Option.{get_or_from_slice_get}
use Rattle.sva_frames.specs.Frames.{Holding, Free, Mapped, Withheld, is_free, is_mapped, is_withheld}

-- ---- lists with one element written

pub slice_get-set_same : {A : Type 0} (xs : List A) (i : ℕ) (y : A) → i < length xs → slice_get (set xs i y) i ≡ Some y
slice_get-set_same [] i y within = absurd (omega arith)
slice_get-set_same (x ∷ xs) zero y within = refl
slice_get-set_same (x ∷ xs) (suc i) y within = slice_get-set_same xs i y (omega arith)

pub slice_get-set_other : {A : Type 0} (xs : List A) (i j : ℕ) (y : A) → j ≢ i → slice_get (set xs i y) j ≡ slice_get xs j
slice_get-set_other [] i j y apart = refl
slice_get-set_other (x ∷ xs) zero zero y apart = absurd (apart refl)
slice_get-set_other (x ∷ xs) zero (suc j) y apart = refl
slice_get-set_other (x ∷ xs) (suc i) zero y apart = refl
slice_get-set_other (x ∷ xs) (suc i) (suc j) y apart = slice_get-set_other xs i j y (λ same. apart (ap suc same))

-- of two writes at one place the later counts
pub set_again : {A : Type 0} (xs : List A) (i : ℕ) (y z : A) → set (set xs i y) i z ≡ set xs i z
set_again [] i y z = refl
set_again (x ∷ xs) zero y z = refl
set_again (x ∷ xs) (suc i) y z = ap (λ rest. x ∷ rest) (set_again xs i y z)

-- one element copied is one element copied after a function of it
pub map-replicate : {A B : Type 0} (f : A → B) (n : ℕ) (x : A) → map f (replicate n x) ≡ replicate n (f x)
map-replicate f zero x = refl
map-replicate f (suc n) x = ap (λ xs. f x ∷ xs) (map-replicate f n x)

-- ---- holdings

-- no frame whose number is below the bound is free
abbrev pub NoneFree : ℕ → List Holding → Type 0
NoneFree bound frames = (number : ℕ) (frame : Holding) → number < bound → slice_get frames number ≡ Some frame → is_free frame ≡ false

-- nothing is free below the first free frame, or at all where there is none
pub none_free_first : (xs : List Holding) (i : ℕ) → position is_free xs ≡ Some i → NoneFree i xs
none_free_first xs i first k x within found =
    let below : is_free (get_or xs k Free) ≡ false = (position-Some is_free xs i Free first).2 k within in
    ap is_free (sym (get_or_from_slice_get xs k x Free found)) ∙ below

pub none_free_none : (xs : List Holding) → position is_free xs ≡ None → NoneFree (length xs) xs
none_free_none xs none k x within found =
    let all : length xs ≤ position_or_len is_free xs = grind (arith, nat_tests) in
    ap is_free (sym (get_or_from_slice_get xs k x Free found)) ∙ fails_before_first is_free xs k Free (omega arith)

-- each frame is free, mapped or withheld
pub count_by-divided : (xs : List Holding) → count_by is_free xs + count_by is_mapped xs + count_by is_withheld xs ≡ length xs
count_by-divided [] = refl
count_by-divided (x ∷ xs) =
    let rest : count_by is_free xs + count_by is_mapped xs + count_by is_withheld xs ≡ length xs = count_by-divided xs in
    let here : cond (is_free x) 1 0 + cond (is_mapped x) 1 0 + cond (is_withheld x) 1 0 ≡ 1 = one x in
    let on : (p : Holding → Bool) → count_by p (x ∷ xs) ≡ cond (p x) 1 0 + count_by p xs = λ p. sum_by-cons (λ (y : Holding). cond (p y) 1 0) x xs in
    omega (arith, on is_free, on is_mapped, on is_withheld)
  where
    one : (x : Holding) → cond (is_free x) 1 0 + cond (is_mapped x) 1 0 + cond (is_withheld x) 1 0 ≡ 1
    one Free = refl
    one Mapped = refl
    one (Withheld waits) = refl
