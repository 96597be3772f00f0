-- First searches at the places of their texts.
use Rattle.std.proofs.Common.{◌≡◌, ◌∙◌, ◌==◌, ◌<◌, ap, refl, sym, subst, ℕ, Bool, true, false, List, Option, Some, None, Result, get_or, length}
use Rattle.std.proofs.Common.{get_or-set_other, get_or-set_same, length-set, replicate, set}
use Rattle.std.proofs.lemmas.List.{get_or-replicate, length-replicate}
use Rattle.std.proofs.lemmas.Bool.{eqb-false, eqb-true}
use Rattle.std.specs.declared.alloc.AllocError.{AllocError}
use Rattle.sva_several.specs.declared.given.Given.{Given}
use Rattle.sva_several.specs.declared.searching.Search.{Search}
use Rattle.sva_several.specs.declared.sharing.First.{First}
use Rattle.sva_several.specs.declared.working.Answer.{Answer}
use Rattle.sva_several.specs.Sharing.{AreSlots, IsAnswer, IsSlot}

module _ (search : Search) (jobs : ℕ) (texts : List Given) where
  -- no search was made
  pub none_made : (slots : List (Option (Result First AllocError))) → slots ≡ replicate (length texts) None → AreSlots search jobs texts slots
  none_made slots is = record {
    count = ap length is ∙ length-replicate (length texts) None;
    each = λ place text inside it.
        let none = ap (λ (all : List (Option (Result First AllocError))). get_or all place None) is ∙ get_or-replicate (length texts) place None None inside in
        subst (IsSlot search jobs text) (sym none) tt;
  }

  -- one was put at its place
  pub one_put : (slots new : List (Option (Result First AllocError))) (answer : Answer) → AreSlots search jobs texts slots
      → IsAnswer search jobs texts answer → new ≡ set slots answer.place (Some answer.began) → AreSlots search jobs texts new
  one_put slots new answer are answers is = record {
    count = ap length is ∙ length-set slots answer.place (Some answer.began) ∙ are.count;
    each = λ place text inside it. by_place place text inside it (place == answer.place) refl;
  }
    where
      within : answer.place < length slots
      within = subst (λ n. answer.place < n) (sym are.count) answers.0

      by_place : (place : ℕ) (text : Given) → place < length texts → text ≡ get_or texts place text → (same : Bool)
          → (place == answer.place) ≡ same → IsSlot search jobs text (get_or new place None)
      by_place place text inside it true same =
          let here : place ≡ answer.place = eqb-true place answer.place same in
          let put = ap (λ (all : List (Option (Result First AllocError))). get_or all place None) is
          ∙ ap (λ at. get_or (set slots answer.place (Some answer.began)) at None) here
          ∙ get_or-set_same slots answer.place (Some answer.began) None within in
          subst (IsSlot search jobs text) (sym put) (answers.1 text (it ∙ ap (λ at. get_or texts at text) here))
      by_place place text inside it false other =
          let kept = ap (λ (all : List (Option (Result First AllocError))). get_or all place None) is
          ∙ get_or-set_other slots answer.place place (Some answer.began) None (eqb-false place answer.place other) in
          subst (IsSlot search jobs text) (sym kept) (are.each place text inside it)

  -- one was taken from its place
  pub one_taken : (slots new : List (Option (Result First AllocError))) (at : ℕ) → AreSlots search jobs texts slots → at < length texts
      → new ≡ set slots at None → AreSlots search jobs texts new
  one_taken slots new at are within is = record {
    count = ap length is ∙ length-set slots at None ∙ are.count;
    each = λ place text inside it. by_place place text inside it (place == at) refl;
  }
    where
      by_place : (place : ℕ) (text : Given) → place < length texts → text ≡ get_or texts place text → (same : Bool)
          → (place == at) ≡ same → IsSlot search jobs text (get_or new place None)
      by_place place text inside it true same =
          let here : place ≡ at = eqb-true place at same in
          let none = ap (λ (all : List (Option (Result First AllocError))). get_or all place None) is
          ∙ ap (λ where_it_is. get_or (set slots at None) where_it_is None) here
          ∙ get_or-set_same slots at None None (subst (λ n. at < n) (sym are.count) within) in
          subst (IsSlot search jobs text) (sym none) tt
      by_place place text inside it false other =
          let kept = ap (λ (all : List (Option (Result First AllocError))). get_or all place None) is
          ∙ get_or-set_other slots at place None None (eqb-false place at other) in
          subst (IsSlot search jobs text) (sym kept) (are.each place text inside it)
