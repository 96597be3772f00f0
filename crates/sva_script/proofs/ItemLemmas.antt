-- The items of a list, taken off one after another.
use Rattle.std.proofs.Common.{◌≡◌, ◌+◌, ◌-◌, ◌∙◌, ap, sym, arith, ℕ, suc, List, [], ◌∷◌, Bool, true, false, cond, length, take, drop, refl, Some, None}
use Rattle.std.proofs.Common.{ltb, not, ◌≤◌}
use Rattle.std.specs.Prelude.{Result, Ok, Err}
use Rattle.sva_grammar.specs.Grammar.{◌>>=◌, number}
use Rattle.sva_grammar.proofs.PlaceLemmas.{not_found}
use Rattle.sva_script.specs.declared.faults.Wrong.{Wrong}
use Rattle.sva_script.specs.Names.{Known}
use Rattle.sva_script.specs.Resolve.{with_item, with_items}
use Rattle.std.specs.List.{onto_first, position, position_or_len, slice_split}
use Rattle.std.proofs.lemmas.Bool.{le-ltb, ltb-false, ltb-true}
use Rattle.std.proofs.lemmas.List.{length-drop}
use Rattle.std.proofs.Math.Seq.{take-length}
use Rattle.std.proofs.lemmas.List.Splits.{slice_split_first}

pub found_at : (t : Bool) (p i : ℕ) → cond t (Some p) None ≡ Some i → (t ≡ true) × (p ≡ i)
found_at true p i h = (refl, cc)
found_at false p i h = absurd (cc h)

-- the first item, where a separator is found behind it
pub split_found : (p : ℕ → Bool) (xs : List ℕ) (i : ℕ) → position p xs ≡ Some i → slice_split p xs ≡ take i xs ∷ slice_split p (drop (i + 1) xs)
split_found p xs i h =
    let at = found_at _ _ i h in
    slice_split_first p xs 0 (ltb-true _ _ at.0) ∙ ap (λ k. take k xs ∷ slice_split p (drop (k + 1) xs)) at.1

beyond : (n count : ℕ) → ltb (1 + n) (suc count) ≡ false → ltb n count ≡ false
beyond n count h = le-ltb _ _ (let past : suc count ≤ 1 + n = ltb-false _ _ h in omega (arith, past))

last_by : (p : ℕ → Bool) (x : ℕ) (xs : List ℕ) (t : Bool) → (ltb (position_or_len p xs) (length xs) ≡ false → slice_split p xs ≡ xs ∷ [])
    → ltb (cond (not t) (1 + position_or_len p xs) 0) (suc (length xs)) ≡ false
    → cond t ([] ∷ slice_split p xs) (onto_first x (slice_split p xs)) ≡ (x ∷ xs) ∷ []
last_by p x xs true next h = absurd (let past = ltb-false 0 (suc (length xs)) h in omega (arith, past))
last_by p x xs false next h = ap (onto_first x) (next (beyond (position_or_len p xs) (length xs) h))

last : (p : ℕ → Bool) (xs : List ℕ) → ltb (position_or_len p xs) (length xs) ≡ false → slice_split p xs ≡ xs ∷ []
last p [] h = refl
last p (x ∷ xs) h = last_by p x xs (p x) (last p xs) h

-- the last item, behind which there is no separator
pub split_last : (p : ℕ → Bool) (xs : List ℕ) → position p xs ≡ None → slice_split p xs ≡ xs ∷ []
split_last p xs h = last p xs (not_found _ _ h)

-- ---- The vector of a list

same : (read : Result ℕ Wrong) → (read >>= λ more. Ok more) ≡ read
same (Ok value) = refl
same (Err fault) = refl

-- an item is taken, and more follow
pub with_first : (at : ℕ) (known : Known) (mask more : ℕ) (items rest : List (List ℕ)) (item : List ℕ) → items ≡ item ∷ rest
    → with_item at known mask item (number item) ≡ Ok more → with_items at known mask items ≡ with_items at known more rest
unfolding with_items
with_first at known mask more items rest item split read =
    ap (with_items at known mask) split ∙ ap (λ r. r >>= λ next. with_items at known next rest) read

-- an item that is wrong
pub with_wrong : (at : ℕ) (known : Known) (mask : ℕ) (fault : Wrong) (items rest : List (List ℕ)) (item : List ℕ) → items ≡ item ∷ rest
    → with_item at known mask item (number item) ≡ Err fault → with_items at known mask items ≡ Err fault
unfolding with_items
with_wrong at known mask fault items rest item split read =
    ap (with_items at known mask) split ∙ ap (λ r. r >>= λ next. with_items at known next rest) read

-- the last item
pub with_last : (at : ℕ) (known : Known) (mask : ℕ) (items : List (List ℕ)) (item : List ℕ) → items ≡ item ∷ []
    → with_items at known mask items ≡ with_item at known mask item (number item)
unfolding with_items
with_last at known mask items item split = ap (with_items at known mask) split ∙ same (with_item at known mask item (number item))

-- a slice to the end is what is left behind its start
pub to_end : {A : Type 0} (k : ℕ) (xs : List A) → take (length xs - k) (drop k xs) ≡ drop k xs
to_end k xs = ap (λ n. take n (drop k xs)) (sym (length-drop k xs)) ∙ take-length (drop k xs)
