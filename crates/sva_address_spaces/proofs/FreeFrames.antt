-- The free frames, lowest first.
use Rattle.std.proofs.Common.{◌≡◌, ℕ, zero, suc, ◌+◌, Bool, true, false, cond, List, Some, [], ◌∷◌, length, set, slice_get, refl, sym, ap, ◌∙◌, arith}
use Rattle.std.proofs.Common.{count_by, if◌then◌else◌}
use Rattle.std.proofs.lemmas.List.Sums.{sum_by-cons}
use Rattle.sva_model.specs.Wire.{PlaceWire}
use Rattle.sva_model.specs.Wire.PlaceWire.{FreeWire, MappedWire, WithheldWire}
use Rattle.sva_labels.specs.Finding.{is_free, lowest_free, free_from}

pub free_count : (k : ℕ) (places : List PlaceWire) → length (free_from k places) ≡ count_by is_free places
free_count k [] = refl
free_count k (p ∷ ps) = go (is_free p) (free_count (suc k) ps) ∙ sym (sum_by-cons (λ (x : PlaceWire). cond (is_free x) 1 0) p ps)
  where
    go :
        (b : Bool) → length (free_from (suc k) ps) ≡ count_by is_free ps
        → length (if b then k ∷ free_from (suc k) ps else free_from (suc k) ps) ≡ cond b 1 0 + count_by is_free ps
    go true rest = omega (arith, rest)
    go false rest = omega (arith, rest)

-- the first of them, and the others
pub record IsFirst (k : ℕ) (places : List PlaceWire) (frame : ℕ) (later : List ℕ) : Type 0 where
  pub place : ℕ
  pub number : frame ≡ k + place
  pub lowest : lowest_free places ≡ place
  pub free : slice_get places place ≡ Some FreeWire
  pub others : free_from k (set places place MappedWire) ≡ later

pub first_is : (k : ℕ) (places : List PlaceWire) (f : ℕ) (fs : List ℕ) → free_from k places ≡ f ∷ fs → IsFirst k places f fs
first_is k [] f fs is = absurd (cc)
first_is k (FreeWire ∷ ps) f fs is =
    let same : k ≡ f = cc in
    let rest : free_from (suc k) ps ≡ fs = cc in
    record { place = 0; number = omega (arith, same); lowest = refl; free = refl; others = rest }
first_is k (MappedWire ∷ ps) f fs is =
    let r = first_is (suc k) ps f fs is in
    let number = r.number in
    record { place = suc r.place; number = omega (arith, number); lowest = ap suc r.lowest; free = r.free; others = r.others }
first_is k (WithheldWire targets ∷ ps) f fs is =
    let r = first_is (suc k) ps f fs is in
    let number = r.number in
    record { place = suc r.place; number = omega (arith, number); lowest = ap suc r.lowest; free = r.free; others = r.others }

-- what was free is free again
pub free_again : (places : List PlaceWire) (f : ℕ) → slice_get places f ≡ Some FreeWire → set (set places f MappedWire) f FreeWire ≡ places
free_again [] f free = refl
free_again (p ∷ ps) zero free = ap (λ x. x ∷ ps) (same free)
  where
    same : Some p ≡ Some FreeWire → FreeWire ≡ p
    same e = cc
free_again (p ∷ ps) (suc f) free = ap (λ xs. p ∷ xs) (free_again ps f free)
