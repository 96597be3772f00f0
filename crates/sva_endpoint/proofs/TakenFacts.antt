-- Facts on the invalidations that were taken.
use Rattle.std.proofs.Common.{◌≡◌, ◌≢◌, ℕ, ◌+◌, ◌<◌, ◌≤◌, List, length, get_or, set, sym, ◌∙◌, ap, subst, refl, cond, Bool, true, false, Option, None, inl}
use Rattle.std.proofs.Common.{inr, arith, get_or-set_same, get_or-set_other, zero-add}
use Rattle.std.specs.List.{enumerate_from}
use Rattle.std.proofs.lemmas.List.{get_or-map, get_or_past, length-map, ext_get_or}
use Rattle.std.proofs.lemmas.List.FromFn.{length-enumerate_from, get_or-enumerate_from}
use Rattle.std.proofs.lemmas.Bool.{cases_order, cases_lt}
use Rattle.std.proofs.Math.ListN.{length-set}
use Rattle.sva_endpoint.specs.declared.taken_table.Taken.{Taken}
use Rattle.sva_itags.specs.Vector.{is_named}
use Rattle.sva_endpoint.specs.Taken.{without_named}

-- ys is xs where those below i that the vector names are gone
pub record IsCompletedBelow (vector i : ℕ) (xs ys : List (Option Taken)) : Type 0 where
  pub long : length ys ≡ length xs
  pub below : (k : ℕ) → k < i → get_or ys k None ≡ cond (is_named vector k) None (get_or xs k None)
  pub above : (k : ℕ) → i ≤ k → get_or ys k None ≡ get_or xs k None

pub completed_more : (vector i : ℕ) (xs ys : List (Option Taken)) (y : Option Taken) → i < length xs → IsCompletedBelow vector i xs ys
    → y ≡ cond (is_named vector i) None (get_or ys i None) → IsCompletedBelow vector (i + 1) xs (set ys i y)
completed_more vector i xs ys y within done is =
    record {
      long = length-set ys i y ∙ done.long;
      below = λ k low. elim (cases_order i k) [
        | inl same ↦ subst (λ j. get_or (set ys i y) j None ≡ cond (is_named vector j) None (get_or xs j None)) same here
        | inr (inl less) ↦ absurd (omega arith)
        | inr (inr more) ↦ get_or-set_other ys i k y None (other k more) ∙ done.below k more
      ];
      above = λ k high. get_or-set_other ys i k y None (omega arith) ∙ done.above k (omega arith);
    }
  where
    other : (k : ℕ) → k < i → k ≢ i
    other k less = omega arith

    here : get_or (set ys i y) i None ≡ cond (is_named vector i) None (get_or xs i None)
    here = get_or-set_same ys i y None (omega (arith, done.long)) ∙ is ∙ ap (cond (is_named vector i) None) (done.above i (omega arith))

pub completed_all : (vector : ℕ) (xs ys : List (Option Taken)) → IsCompletedBelow vector (length xs) xs ys → ys ≡ without_named vector xs
completed_all vector xs ys done =
    ext_get_or None ys (without_named vector xs) (done.long ∙ sym (length-map (enumerate_from 0 xs) _ ∙ length-enumerate_from 0 xs)) (λ k low.
    done.below k (omega (arith, done.long)) ∙ sym (
    get_or-map (λ (place : ℕ × Option Taken). cond (is_named vector place.0) None place.1) (enumerate_from 0 xs) k (0, None) None
    (omega (arith, done.long, length-enumerate_from 0 xs))
    ∙ ap (λ (place : ℕ × Option Taken). cond (is_named vector place.0) None place.1) (get_or-enumerate_from 0 xs k (0, None) (omega (arith, done.long)))
    ∙ ap (λ j. cond (is_named vector j) None (get_or xs k None)) (zero-add k)))

nothing_left : (b : Bool) → ◌≡◌ {A = Option Taken} None (cond b None None)
nothing_left true = refl
nothing_left false = refl

-- what is left at an ITag
pub get_or-without_named : (vector : ℕ) (xs : List (Option Taken)) (k : ℕ) → get_or (without_named vector xs) k None
    ≡ cond (is_named vector k) None (get_or xs k None)
get_or-without_named vector xs k = elim (cases_lt k (length xs)) [
  | inl within ↦
      get_or-map (λ (place : ℕ × Option Taken). cond (is_named vector place.0) None place.1) (enumerate_from 0 xs) k (0, None) None
      (omega (arith, length-enumerate_from 0 xs))
      ∙ ap (λ (place : ℕ × Option Taken). cond (is_named vector place.0) None place.1) (get_or-enumerate_from 0 xs k (0, None) within)
      ∙ ap (λ j. cond (is_named vector j) None (get_or xs k None)) (zero-add k)
  | inr past ↦
      get_or_past (without_named vector xs) k None
      (omega (
        arith,
        length-map (enumerate_from 0 xs) (λ (place : ℕ × Option Taken). cond (is_named vector place.0) None place.1),
        length-enumerate_from 0 xs,
      ))
      ∙ nothing_left (is_named vector k)
      ∙ ap (cond (is_named vector k) None) (sym (get_or_past xs k None past))
]
