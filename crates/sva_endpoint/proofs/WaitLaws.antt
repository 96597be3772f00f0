-- An invalidation isn't completed while a use runs that it covered when it was taken.
use Rattle.std.proofs.Common.{◌≡◌, ◌≢◌, ℕ, ◌+◌, ◌<◌, List, length, get_or, Bool, true, false, cond, refl, ap, subst, sym, ◌∙◌, get_or-set_same}
use Rattle.std.proofs.Common.{get_or-set_other, ◌&&◌, Option, Some, None, inl, inr, arith, zero-add}
use Rattle.std.specs.Prelude.{is_ok}
use Rattle.std.specs.List.{list_any, enumerate_from}
use Rattle.std.proofs.Math.ListN.{get_or-map}
use Rattle.std.proofs.lemmas.Bool.{eqb-false, cases_lt}
use Rattle.std.proofs.lemmas.List.{get_or_past}
use Rattle.std.proofs.lemmas.List.Folds.{list_any_at}
use Rattle.std.proofs.lemmas.List.FromFn.{length-enumerate_from, get_or-enumerate_from}
use Rattle.sva_msg.specs.declared.messages.Kind.{Kind}
use Rattle.sva_msg.specs.declared.messages.Kind.TheVariants.{Reset, Invalidate}
use Rattle.sva_endpoint.specs.declared.coverage.Invalidation.{Invalidation}
use Rattle.sva_endpoint.specs.Coverage.{covers}
use Rattle.sva_endpoint.specs.declared.use_slots.Use.{Use}
use Rattle.sva_endpoint.specs.declared.use_slots.UseSlot.TheVariants.{Free, Running}
use Rattle.sva_endpoint.specs.declared.taken_table.Taken.{Taken}
use Rattle.sva_endpoint.specs.UseSlots.{slot_at, is_free, runs_covered}
use Rattle.sva_itags.specs.Vector.{is_named}
use Rattle.sva_endpoint.specs.Taken.{waits, is_one_waiting, without_note}
use Rattle.sva_endpoint.specs.Tables.{Tables}
use Rattle.sva_endpoint.specs.Steps.{lowest_slot, finishing, refusals_of_use, refusals_of_finish}
use Rattle.sva_endpoint.specs.Deliveries.{after_receive, after_invalidate}
use Rattle.sva_endpoint.specs.Calls.{Call, BeginUse, EndUse, Finish, Receive, is_permitted, after, run, ArePermitted}
use Rattle.sva_endpoint.specs.Laws.{is_noted, takes_itag, ends_wait, FinishWaits}
use Rattle.sva_endpoint.proofs.CallFacts.{are_clear, lowest, lasts}
use Rattle.sva_endpoint.proofs.TagLaws.{clash, told_is}
use Rattle.sva_endpoint.proofs.TakenFacts.{get_or-without_named}

some_noted : (noted : List Bool) (slot : ℕ) → get_or noted slot false ≡ true → list_any (λ b. b) noted ≡ true
some_noted noted slot is = elim (cases_lt slot (length noted)) [
  | inl within ↦ list_any_at (λ b. b) noted slot false within is
  | inr past ↦ clash (get_or noted slot false) is (get_or_past noted slot false past)
]

pub notes-waits : (slot : ℕ) (place : Option Taken) → is_noted slot place ≡ true → waits place ≡ true
notes-waits slot None is = absurd (cc)
notes-waits slot (Some taken) is = some_noted taken.noted slot is

notes-without_note : (slot other : ℕ) (place : Option Taken) → slot ≢ other → is_noted slot (without_note other place) ≡ is_noted slot place
notes-without_note slot other None apart = refl
notes-without_note slot other (Some taken) apart = get_or-set_other taken.noted other slot false false apart

-- a named invalidation that waits is one that waits
pub one_waiting : (vector itag : ℕ) (taken : List (Option Taken)) → itag < length taken → is_named vector itag ≡ true
    → waits (get_or taken itag None) ≡ true → is_one_waiting vector taken ≡ true
one_waiting vector itag taken within named waiting =
    let test : ℕ × Option Taken → Bool = λ place. is_named vector place.0 && waits place.1 in
    let at : get_or (enumerate_from 0 taken) itag (0, None) ≡ (0 + itag, get_or taken itag None) = get_or-enumerate_from 0 taken itag (0, None) within in
    list_any_at test (enumerate_from 0 taken) itag (0, None) (omega (arith, length-enumerate_from 0 taken))
    (ap test at ∙ ap (λ k. is_named vector k && waits (get_or taken itag None)) (zero-add itag) ∙ ap (λ b. b && waits (get_or taken itag None)) named
    ∙ waiting)

pub within_table : (slot itag : ℕ) (taken : List (Option Taken)) → is_noted slot (get_or taken itag None) ≡ true → itag < length taken
within_table slot itag taken is = elim (cases_lt itag (length taken)) [
  | inl within ↦ within
  | inr past ↦ clash (is_noted slot (get_or taken itag None)) is (ap (is_noted slot) (get_or_past taken itag None past))
]

not_named : (vector itag slot : ℕ) (taken : List (Option Taken)) → is_one_waiting vector taken ≡ false → is_noted slot (get_or taken itag None)
    ≡ true → (b : Bool) → is_named vector itag ≡ b → b ≡ false
not_named vector itag slot taken none noted true named =
    clash (is_one_waiting vector taken)
    (one_waiting vector itag taken (within_table slot itag taken noted) named (notes-waits slot (get_or taken itag None) noted)) none
not_named vector itag slot taken none noted false named = refl

-- ---- the use runs on and stays noted

module _ (itag slot : ℕ) (running : Use) where
  abbrev Waits : Tables → Type 0
  Waits s = (slot_at s.uses slot ≡ Running running) × (is_noted slot (get_or s.taken itag None) ≡ true)

  received : (s : Tables) (kind : Kind) → takes_itag itag kind ≡ false → Waits s → Waits (after_receive s kind)
  received s Reset stays w = absurd (cc)
  received s (Invalidate other pasid scope) stays w =
      let apart : itag ≢ other = λ same. eqb-false other itag stays (sym same) in
      (w.0, ap (is_noted slot) (get_or-set_other s.taken other itag _ None apart) ∙ w.1)
  received s _ stays w = w

  stepped : (s : Tables) (call : Call) → is_permitted s call ≡ true → ends_wait itag slot call ≡ false → Waits s → Waits (after s call)
  stepped s (BeginUse pasid page write) may stays w =
      let clear = are_clear (refusals_of_use s pasid page write) _ may in
      let free = lowest is_free s.uses Free clear.1.1.1.1.0 in
      let apart : slot ≢ lowest_slot s =
      λ same. clash (is_free (slot_at s.uses slot)) (ap (λ k. is_free (slot_at s.uses k)) same ∙ free.1) (ap is_free w.0) in
      (get_or-set_other s.uses (lowest_slot s) slot _ Free apart ∙ w.0, w.1)
  stepped s (EndUse other) may stays w =
      let apart : slot ≢ other = λ same. eqb-false other slot stays (sym same) in (
        get_or-set_other s.uses other slot Free Free apart ∙ w.0,
        ap (is_noted slot) (get_or-map (without_note other) s.taken itag None) ∙ notes-without_note slot other (get_or s.taken itag None) apart ∙ w.1,
      )
  stepped s (Finish vector count) may stays w =
      let clear = are_clear (refusals_of_finish s vector count) _ may in
      let other = not_named vector itag slot s.taken clear.1.0 w.1 (is_named vector itag) refl in
      (w.0, ap (is_noted slot) (get_or-without_named vector s.taken itag ∙ ap (λ b. cond b None (get_or s.taken itag None)) other) ∙ w.1)
  stepped s (Receive kind) may stays w = received s kind stays w
  stepped s _ may stays w = w

refused : (s : Tables) (itag slot vector count : ℕ) → is_noted slot (get_or s.taken itag None) ≡ true → is_named vector itag ≡ true → (b : Bool)
    → is_ok (finishing s vector count) ≡ b → b ≡ false
refused s itag slot vector count noted named true may =
    let clear = are_clear (refusals_of_finish s vector count) _ may in
    clash (is_named vector itag) named (not_named vector itag slot s.taken clear.1.0 noted (is_named vector itag) refl)
refused s itag slot vector count noted named false may = refl

abbrev IsRefused : Tables → (itag slot : ℕ) → Use → (vector count : ℕ) → Type 0
IsRefused late itag slot running vector count =
    (slot_at late.uses slot ≡ Running running) × (is_named vector itag ≡ true → is_ok (finishing late vector count) ≡ false)

waits_after : (s : Tables) (itag slot : ℕ) (running : Use) (invalidation : Invalidation) (calls : List Call) (vector count : ℕ)
    → itag < length s.taken → slot_at s.uses slot ≡ Running running → covers invalidation running.pasid running.page ≡ true
    → ArePermitted (after_invalidate s itag invalidation) calls → list_any (ends_wait itag slot) calls ≡ false
    → IsRefused (run (after_invalidate s itag invalidation) calls) itag slot running vector count
waits_after s itag slot running invalidation calls vector count within runs covered permitted none =
    let told = after_invalidate s itag invalidation in
    let noted : is_noted slot (get_or told.taken itag None) ≡ true =
    ap (is_noted slot) (get_or-set_same s.taken itag _ None within)
    ∙ get_or-map (runs_covered invalidation) s.uses slot Free ∙ ap (runs_covered invalidation) runs ∙ covered in
    let end = lasts (Waits itag slot running) (ends_wait itag slot) (stepped itag slot running) told calls permitted none (runs, noted) in
    (end.0, λ named. refused (run told calls) itag slot vector count end.1 named (is_ok (finishing (run told calls) vector count)) refl)

pub finish_waits : FinishWaits
finish_waits s itag slot running scope invalidation calls vector count names within runs covered permitted none =
    let told = told_is s itag scope invalidation names in
    subst (λ t. IsRefused (run t calls) itag slot running vector count) (sym told)
    (waits_after s itag slot running invalidation calls vector count within runs covered (subst (λ t. ArePermitted t calls) told permitted) none)
