-- A completion, place by place.
use Rattle.std.proofs.Common.{◌≡◌, ℕ, zero, suc, ◌+◌, ◌<◌, ◌≤◌, ◌==◌, Bool, true, false, List, [], ◌∷◌, ◌++◌, Option, Some, None, length, take, drop}
use Rattle.std.proofs.Common.{slice_index_or, slice_set, if◌then◌else◌, refl, ap, sym, ◌∙◌, subst, zero-add, add-one, ◌^◌, arith}
use Rattle.sva_itags.specs.Vector.{is_named, vector_of}
use Rattle.std.proofs.Math.Seq.{take-length}
use Rattle.std.proofs.lemmas.List.{length-take-le}
use Rattle.std.specs.List.{AllByRecursion as ByRecursion}
use Rattle.std.proofs.lemmas.List.Elements.{All-from_recursion, recursion_from_All}
use Rattle.std.proofs.lemmas.Bool.Decides.{nat_tests}
use Rattle.sva_itags.specs.Tags.{IsPlace, AreTags, counted, completed, completed_from, after_completion, is_freed, freed_places, freed_vector}
use Rattle.sva_itags.proofs.VectorLemmas.{with_tag, vector_of-push, take_lt}
use Rattle.sva_itags.specs.declared.itags.Busy.{Busy}
use Rattle.sva_itags.specs.declared.itags.Busy.TheVariants.{Fresh, Counting}

-- the places while a completion is being counted: those below i are done
abbrev pub done_below : ℕ → ℕ → ℕ → ℕ → List (Option Busy) → List (Option Busy)
done_below i tag vector count places = take i (completed_from tag vector count places) ++ drop i places

pub length-completed : (tag v c : ℕ) (xs : List (Option Busy)) → length (completed_from tag v c xs) ≡ length xs
length-completed tag v c [] = refl
length-completed tag v c (x ∷ xs) = ap suc (length-completed (suc tag) v c xs)

pub length-freed : (tag v c : ℕ) (xs : List (Option Busy)) → length (freed_places xs (completed_from tag v c xs)) ≡ length xs
length-freed tag v c [] = refl
length-freed tag v c (x ∷ xs) = ap suc (length-freed (suc tag) v c xs)

-- the place that is next is as it was
pub done_below-get : (i tag v c : ℕ) (xs : List (Option Busy)) (d : Option Busy) → slice_index_or (done_below i tag v c xs) i d ≡ slice_index_or xs i d
done_below-get zero tag v c xs d = refl
done_below-get (suc i) tag v c [] d = refl
done_below-get (suc i) tag v c (x ∷ xs) d = done_below-get i (suc tag) v c xs d

-- one place more
pub done_below-suc : (i tag v c : ℕ) (xs : List (Option Busy)) (d : Option Busy) → i < length xs
    → slice_set (done_below i tag v c xs) i (after_completion (is_named v (tag + i)) c (slice_index_or xs i d)) ≡ done_below (suc i) tag v c xs
done_below-suc i tag v c [] d h = absurd (omega arith)
done_below-suc zero tag v c (x ∷ xs) d h =
    let same : tag + 0 ≡ tag = omega arith in ap (λ t. after_completion (is_named v t) c x ∷ xs) same
done_below-suc (suc i) tag v c (x ∷ xs) d h =
    let same : tag + suc i ≡ suc tag + i = omega arith in
    rw same (ap (λ ys. after_completion (is_named v tag) c x ∷ ys) (done_below-suc i (suc tag) v c xs d (omega arith)))

-- whether the next place is freed
pub freed-suc : (i tag v c : ℕ) (xs : List (Option Busy)) (d : Option Busy) → i < length xs
    → take (suc i) (freed_places xs (completed_from tag v c xs)) ≡ take i (freed_places xs (completed_from tag v c xs))
    ++ is_freed (slice_index_or xs i d) (after_completion (is_named v (tag + i)) c (slice_index_or xs i d)) ∷ []
freed-suc i tag v c [] d h = absurd (omega arith)
freed-suc zero tag v c (x ∷ xs) d h =
    let same : tag + 0 ≡ tag = omega arith in rw same refl
freed-suc (suc i) tag v c (x ∷ xs) d h =
    let same : tag + suc i ≡ suc tag + i = omega arith in
    rw same (ap (λ ys. is_freed x (after_completion (is_named v tag) c x) ∷ ys) (freed-suc i (suc tag) v c xs d (omega arith)))

pub length-done_below : (i tag v c : ℕ) (xs : List (Option Busy)) → length (done_below i tag v c xs) ≡ length xs
length-done_below zero tag v c xs = refl
length-done_below (suc i) tag v c [] = refl
length-done_below (suc i) tag v c (x ∷ xs) = ap suc (length-done_below i (suc tag) v c xs)

-- all places are done
pub done_below-length : (tag v c : ℕ) (xs : List (Option Busy)) → done_below (length xs) tag v c xs ≡ completed_from tag v c xs
done_below-length tag v c [] = refl
done_below-length tag v c (x ∷ xs) = ap (λ ys. after_completion (is_named v tag) c x ∷ ys) (done_below-length (suc tag) v c xs)

-- a place stays a place
pub counted-place : (count arrived : ℕ) → 0 < arrived → arrived ≤ count → count ≤ 8 → IsPlace (counted count arrived)
counted-place count arrived some most small = by_test (arrived == count) refl
  where
    by_test : (b : Bool) → (arrived == count) ≡ b → IsPlace (if b then None else Some (Counting count arrived))
    by_test true e = tt
    by_test false e = (some, grind (arith, nat_tests), small)

pub after_completion-place : (named : Bool) (count : ℕ) (place : Option Busy) → 0 < count → count ≤ 8 → IsPlace place
    → IsPlace (after_completion named count place)
after_completion-place named count None l h p = tt
after_completion-place false count (Some busy) l h p = p
after_completion-place true count (Some Fresh) l h p = counted-place count 1 (omega arith) (omega arith) h
after_completion-place true count (Some (Counting fixed arrived)) l h p = counted-place fixed (arrived + 1) (omega arith) (omega (arith, p.1)) p.2

pub completed-places : (tag v c : ℕ) (xs : List (Option Busy)) → 0 < c → c ≤ 8 → ByRecursion IsPlace xs → ByRecursion IsPlace (completed_from tag v c xs)
completed-places tag v c [] l h p = tt
completed-places tag v c (x ∷ xs) l h p = (after_completion-place (is_named v tag) c x l h p.0, completed-places (suc tag) v c xs l h p.1)

pub completed-tags : (v c : ℕ) (xs : List (Option Busy)) → 0 < c → c ≤ 8 → AreTags xs → AreTags (completed v c xs)
completed-tags v c xs l h p =
    (length-completed 0 v c xs ∙ p.0, All-from_recursion IsPlace (completed v c xs) (completed-places 0 v c xs l h (recursion_from_All IsPlace xs p.1)))

-- a turn of the loop over the places, and its end; ys are the places so far
pub completed-step : (v n i : ℕ) (xs ys : List (Option Busy)) (d after : Option Busy) (named : Bool) → i < length xs → ys ≡ done_below i 0 v n xs
    → named ≡ is_named v i → after ≡ after_completion named n (slice_index_or ys i d) → slice_set ys i after ≡ done_below (i + 1) 0 v n xs
completed-step v n i xs ys d after named h so_far is_name is_after =
    let same : 0 + i ≡ i = zero-add i in
    let turn : slice_set (done_below i 0 v n xs) i (after_completion (is_named v (0 + i)) n (slice_index_or xs i d)) ≡ done_below (suc i) 0 v n xs =
    done_below-suc i 0 v n xs d h in
    rw (is_after, is_name, so_far, done_below-get i 0 v n xs d, add-one)
    (subst (λ t. slice_set (done_below i 0 v n xs) i (after_completion (is_named v t) n (slice_index_or xs i d)) ≡ done_below (suc i) 0 v n xs) same turn)

pub completed-end : (v n i : ℕ) (xs ys : List (Option Busy)) → i ≡ length xs → ys ≡ done_below i 0 v n xs → ys ≡ completed v n xs
completed-end v n i xs ys all so_far = so_far ∙ ap (λ k. done_below k 0 v n xs) all ∙ done_below-length 0 v n xs

-- the vector of the places freed below i
abbrev pub freed_below : ℕ → ℕ → ℕ → List (Option Busy) → ℕ
freed_below i v n xs = vector_of (take i (freed_places xs (completed v n xs)))

pub freed_below-lt : (v n i : ℕ) (xs : List (Option Busy)) → i ≤ length xs → freed_below i v n xs < 2 ^ i
freed_below-lt v n i xs h = let within : i ≤ length (freed_places xs (completed v n xs)) =
    omega (arith, length-freed 0 v n xs) in take_lt (freed_places xs (completed v n xs)) i within

pub freed-step : (v n i : ℕ) (xs ys : List (Option Busy)) (d after : Option Busy) (named : Bool) → i < length xs → ys ≡ done_below i 0 v n xs → named
    ≡ is_named v i → after ≡ after_completion named n (slice_index_or ys i d)
    → with_tag (freed_below i v n xs) i (is_freed (slice_index_or ys i d) after) ≡ freed_below (i + 1) v n xs
freed-step v n i xs ys d after named h so_far is_name is_after =
    let same : 0 + i ≡ i = zero-add i in
    let is_next : slice_index_or ys i d ≡ slice_index_or xs i d = ap (λ zs. slice_index_or zs i d) so_far ∙ done_below-get i 0 v n xs d in
    let fs : List Bool = freed_places xs (completed v n xs) in
    let next : Bool = is_freed (slice_index_or xs i d) (after_completion (is_named v (0 + i)) n (slice_index_or xs i d)) in
    let parts : take (suc i) fs ≡ take i fs ++ next ∷ [] = freed-suc i 0 v n xs d h in
    let within : i ≤ length fs = omega (arith, length-freed 0 v n xs) in
    let count : length (take i fs) ≡ i = length-take-le i fs within in
    let sum : vector_of (take (suc i) fs) ≡ with_tag (vector_of (take i fs)) (length (take i fs)) next =
    ap vector_of parts ∙ vector_of-push (take i fs) next in
    let tagged : vector_of (take (suc i) fs) ≡ with_tag (vector_of (take i fs)) i next = sum ∙ ap (λ k. with_tag (vector_of (take i fs)) k next) count in
    let is_freeing : is_freed (slice_index_or ys i d) after ≡ next =
    rw (is_after, is_name, is_next) (ap (λ t. is_freed (slice_index_or xs i d) (after_completion (is_named v t) n (slice_index_or xs i d))) (sym same)) in
    rw (is_freeing, add-one) (sym tagged)

pub freed-end : (v n i : ℕ) (xs : List (Option Busy)) → i ≡ length xs → freed_below i v n xs ≡ freed_vector v n xs
freed-end v n i xs all =
    let whole : i ≡ length (freed_places xs (completed v n xs)) = all ∙ sym (length-freed 0 v n xs) in
    ap (λ k. freed_below k v n xs) whole ∙ ap vector_of (take-length (freed_places xs (completed v n xs)))
