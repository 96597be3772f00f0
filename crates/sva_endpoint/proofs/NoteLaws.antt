-- An invalidation waits for exactly the uses that ran and that it covered when it was taken, until each has ended.
use Rattle.std.proofs.Common.{◌≡◌, ◌≢◌, ℕ, ◌<◌, List, [], ◌∷◌, length, get_or, set, Bool, true, false, cond, Option, Some, None, Result, Err, not, suc}
use Rattle.std.proofs.Common.{refl, ap, subst, ◌↔◌, sym, ◌∙◌, ◌&&◌, ◌||◌, eqb, inl, inr, arith, get_or-set_same, get_or-set_other, zero-add}
use Rattle.std.specs.Prelude.{is_some}
use Rattle.std.specs.List.{list_any, enumerate_from}
use Rattle.std.proofs.Math.ListN.{get_or-map, length-set}
use Rattle.std.proofs.lemmas.Bool.{eqb-false, eqb-true, cases_lt, cases_eq, and_parts, and_from, or_parts, or_from, or_left, or_right}
use Rattle.std.proofs.lemmas.List.{get_or_past, get_or_default}
use Rattle.std.proofs.lemmas.List.Folds.{Any-from_list_any}
use Rattle.std.proofs.lemmas.List.Sums.{list_all-from_AllPass}
use Rattle.std.proofs.lemmas.List.FromFn.{length-enumerate_from, get_or-enumerate_from}
use Rattle.std.proofs.lemmas.Nat.Bits.{bit_at-zero}
use Rattle.sva_step.specs.declared.refusals.Refusal.{Refusal}
use Rattle.sva_step.specs.declared.refusals.Refusal.TheVariants.{NotPending, InUse, BadCount}
use Rattle.sva_msg.specs.declared.messages.Kind.{Kind}
use Rattle.sva_msg.specs.declared.messages.Kind.TheVariants.{Reset, Invalidate}
use Rattle.sva_endpoint.specs.declared.coverage.Invalidation.{Invalidation}
use Rattle.sva_endpoint.specs.declared.use_slots.UseSlot.TheVariants.{Free}
use Rattle.sva_endpoint.specs.declared.taken_table.Taken.{Taken}
use Rattle.sva_endpoint.specs.UseSlots.{slot_at, runs_covered}
use Rattle.sva_itags.specs.Vector.{is_named}
use Rattle.sva_endpoint.specs.Taken.{waits, are_pending, is_one_waiting, without_note}
use Rattle.sva_endpoint.specs.Tables.{Tables}
use Rattle.sva_endpoint.specs.Steps.{finishing}
use Rattle.sva_model.specs.Refusals.{unless_refused}
use Rattle.sva_endpoint.specs.Deliveries.{after_receive, after_invalidate}
use Rattle.sva_endpoint.specs.Calls.{Call, EndUse, Finish, Receive, after, run}
use Rattle.sva_endpoint.specs.Laws.{takes_itag, is_noted, is_end_of_use, ends_taking, NotesExactly, NamesAlone, InUseExactly}
use Rattle.sva_endpoint.proofs.TagLaws.{clash, told_is}
use Rattle.sva_endpoint.proofs.WaitLaws.{notes-waits, one_waiting, within_table}
use Rattle.sva_endpoint.proofs.TakenFacts.{get_or-without_named}

-- ---- what is noted after each call

and-true : (b : Bool) → b ≡ (b && true)
and-true true = refl
and-true false = refl

and-none : (b : Bool) → false ≡ (b && false)
and-none true = refl
and-none false = refl

pub set_false : (noted : List Bool) (slot : ℕ) → get_or (set noted slot false) slot false ≡ false
set_false noted slot = elim (cases_lt slot (length noted)) [
  | inl within ↦ get_or-set_same noted slot false false within
  | inr past ↦ get_or_past (set noted slot false) slot false (omega (arith, length-set noted slot false))
]

-- the end of a use takes its slot from what is noted
ended : (slot other : ℕ) (place : Option Taken) → is_noted slot (without_note other place) ≡ (is_noted slot place && not (eqb other slot))
ended slot other None = refl
ended slot other (Some taken) = by (eqb other slot) refl
  where
    by : (b : Bool) → eqb other slot ≡ b → get_or (set taken.noted other false) slot false ≡ (get_or taken.noted slot false && not b)
    by true is = ap (λ k. get_or (set taken.noted k false) slot false) (eqb-true other slot is) ∙ set_false taken.noted slot
        ∙ and-none (get_or taken.noted slot false)
    by false is =
        let apart : slot ≢ other = λ same. eqb-false other slot is (sym same) in
        get_or-set_other taken.noted other slot false false apart ∙ and-true (get_or taken.noted slot false)

module _ (itag : ℕ) where
  abbrev place : Tables → Option Taken
  place s = get_or s.taken itag None

  received : (s : Tables) (kind : Kind) → takes_itag itag kind ≡ false → place (after_receive s kind) ≡ place s
  received s Reset goes = absurd (cc)
  received s (Invalidate other pasid scope) goes =
      let apart : itag ≢ other = λ same. eqb-false other itag goes (sym same) in
      get_or-set_other s.taken other itag _ None apart
  received s _ goes = refl

  stepped : (slot : ℕ) (s : Tables) (call : Call) → ends_taking itag call ≡ false → is_noted slot (place (after s call))
      ≡ (is_noted slot (place s) && not (is_end_of_use slot call))
  stepped slot s (EndUse other) goes = ap (is_noted slot) (get_or-map (without_note other) s.taken itag None) ∙ ended slot other (place s)
  stepped slot s (Finish vector count) goes =
      ap (is_noted slot) (get_or-without_named vector s.taken itag ∙ ap (λ b. cond b None (place s)) goes) ∙ and-true (is_noted slot (place s))
  stepped slot s (Receive kind) goes = ap (is_noted slot) (received s kind goes) ∙ and-true (is_noted slot (place s))
  stepped slot s _ goes = and-true (is_noted slot (place s))

  chained : (noted now later : Bool) → ((noted && not now) && not later) ≡ (noted && not (now || later))
  chained true true later = refl
  chained true false later = refl
  chained false now later = refl

  noted_run : (slot : ℕ) (s : Tables) (calls : List Call) → list_any (ends_taking itag) calls ≡ false
      → is_noted slot (place (run s calls)) ≡ (is_noted slot (place s) && not (list_any (is_end_of_use slot) calls))
  noted_run slot s [] none = and-true (is_noted slot (place s))
  noted_run slot s (call ∷ calls) none =
      let parts = or_parts (ends_taking itag call) (list_any (ends_taking itag) calls) none in
      noted_run slot (after s call) calls parts.1
      ∙ ap (λ b. b && not (list_any (is_end_of_use slot) calls)) (stepped slot s call parts.0)
      ∙ chained (is_noted slot (place s)) (is_end_of_use slot call) (list_any (is_end_of_use slot) calls)

  -- something is taken under the ITag as long as nothing ends that
  some_note : (other : ℕ) (there : Option Taken) → is_some there ≡ true → is_some (without_note other there) ≡ true
  some_note other None is = is
  some_note other (Some taken) is = refl

  some_step : (s : Tables) (call : Call) → ends_taking itag call ≡ false → is_some (place s) ≡ true → is_some (place (after s call)) ≡ true
  some_step s (EndUse other) goes is = ap is_some (get_or-map (without_note other) s.taken itag None) ∙ some_note other (place s) is
  some_step s (Finish vector count) goes is = ap is_some (get_or-without_named vector s.taken itag ∙ ap (λ b. cond b None (place s)) goes) ∙ is
  some_step s (Receive kind) goes is = ap is_some (received s kind goes) ∙ is
  some_step s _ goes is = is

  some_run : (s : Tables) (calls : List Call) → list_any (ends_taking itag) calls ≡ false → is_some (place s) ≡ true → is_some (place (run s calls)) ≡ true
  some_run s [] none is = is
  some_run s (call ∷ calls) none is =
      let parts = or_parts (ends_taking itag call) (list_any (ends_taking itag) calls) none in
      some_run (after s call) calls parts.1 (some_step s call parts.0 is)

notes_after : (s : Tables) (itag slot : ℕ) (invalidation : Invalidation) (calls : List Call) → itag < length s.taken
    → list_any (ends_taking itag) calls ≡ false
    → is_noted slot (place itag (run (after_invalidate s itag invalidation) calls))
    ≡ (runs_covered invalidation (slot_at s.uses slot) && not (list_any (is_end_of_use slot) calls))
notes_after s itag slot invalidation calls within none =
    noted_run itag slot (after_invalidate s itag invalidation) calls none
    ∙ ap (λ place. is_noted slot place && not (list_any (is_end_of_use slot) calls)) (get_or-set_same s.taken itag _ None within)
    ∙ ap (λ b. b && not (list_any (is_end_of_use slot) calls)) (get_or-map (runs_covered invalidation) s.uses slot Free)

pub notes_exactly : NotesExactly
notes_exactly s itag slot scope invalidation calls names within permitted none =
    ap (λ t. is_noted slot (place itag (run t calls))) (told_is s itag scope invalidation names) ∙ notes_after s itag slot invalidation calls within none

-- ---- in use exactly while one of them runs

true_of : (b : Bool) → not b ≡ true → b ≡ false
true_of true is = absurd (cc)
true_of false is = refl

not_of : (b : Bool) → b ≡ false → not b ≡ true
not_of true is = absurd (cc)
not_of false is = refl

-- which of three causes is the first
second : {A : Type 0} (pending waiting count : Bool) (answer : A)
    → ◌≡◌ {A = Result A Refusal} (unless_refused ((pending, NotPending) ∷ (waiting, InUse) ∷ (count, BadCount) ∷ []) answer) (Err InUse) → waiting ≡ true
second true waiting count answer is = absurd (cc)
second false true count answer is = refl
second false false true answer is = absurd (cc)
second false false false answer is = absurd (cc)

first_of : {A : Type 0} (pending waiting count : Bool) (answer : A) → pending ≡ false → waiting ≡ true
    → ◌≡◌ {A = Result A Refusal} (unless_refused ((pending, NotPending) ∷ (waiting, InUse) ∷ (count, BadCount) ∷ []) answer) (Err InUse)
first_of true waiting count answer none one = absurd (cc)
first_of false true count answer none one = refl
first_of false false count answer none one = absurd (cc)

-- a slot that an invalidation noted which waits
noted_slot : (noted : List Bool) → list_any (λ b. b) noted ≡ true → (slot : ℕ) × (get_or noted slot false ≡ true)
noted_slot [] is = absurd (cc)
noted_slot (true ∷ noted) is = (0, refl)
noted_slot (false ∷ noted) is = let later = noted_slot noted is in (suc later.0, later.1)

waits-notes : (there : Option Taken) → waits there ≡ true → (slot : ℕ) × (is_noted slot there ≡ true)
waits-notes None is = absurd (cc)
waits-notes (Some taken) is = noted_slot taken.noted is

-- a named invalidation that waits
one_that_waits : (vector : ℕ) (taken : List (Option Taken)) → is_one_waiting vector taken ≡ true → (k : ℕ) × (is_named vector k ≡ true)
    × (waits (get_or taken k None) ≡ true)
one_that_waits vector taken is =
    let test : ℕ × Option Taken → Bool = λ place. is_named vector place.0 && waits place.1 in
    let found = Any-from_list_any test (enumerate_from 0 taken) is in
    let within : found.0 < length taken = omega (arith, found.2, length-enumerate_from 0 taken) in
    let at = get_or-enumerate_from 0 taken found.0 found.1 within in
    let both : (is_named vector found.0 && waits (get_or taken found.0 None)) ≡ true =
    sym (ap test at ∙ ap (λ k. is_named vector k && waits (get_or taken found.0 found.1.1)) (zero-add found.0)
    ∙ ap (λ place. is_named vector found.0 && waits place) (get_or_default taken found.0 found.1.1 None within)) ∙ ap test found.3 ∙ found.4 in
    let parts = and_parts (is_named vector found.0) (waits (get_or taken found.0 None)) both in
    (found.0, parts.0, parts.1)

the_one : (vector itag k : ℕ) → NamesAlone vector itag → is_named vector k ≡ true → k ≡ itag
the_one vector itag k alone named = elim (cases_eq k itag) [
  | inl same ↦ same
  | inr other ↦ clash (is_named vector k) named (alone.1 k other)
]

pending : (vector itag : ℕ) (taken : List (Option Taken)) → NamesAlone vector itag → is_some (get_or taken itag None) ≡ true → are_pending vector taken ≡ true
pending vector itag taken alone is =
    let test : ℕ × Option Taken → Bool = λ place. not (is_named vector place.0) || is_some place.1 in
    list_all-from_AllPass test (enumerate_from 0 taken) (λ k d low.
    let within : k < length taken = omega (arith, low, length-enumerate_from 0 taken) in
    ap test (get_or-enumerate_from 0 taken k d within) ∙ ap (λ j. not (is_named vector j) || is_some (get_or taken k d.1)) (zero-add k)
    ∙ ap (λ place. not (is_named vector k) || is_some place) (get_or_default taken k d.1 None within) ∙ each k)
  where
    each : (k : ℕ) → (not (is_named vector k) || is_some (get_or taken k None)) ≡ true
    each k = elim (cases_eq k itag) [
      | inl same ↦ or_right (not (is_named vector k)) (is_some (get_or taken k None)) (ap (λ j. is_some (get_or taken j None)) same ∙ is)
      | inr other ↦ or_left (not (is_named vector k)) (is_some (get_or taken k None)) (not_of (is_named vector k) (alone.1 k other))
    ]

not_empty : (vector itag : ℕ) → is_named vector itag ≡ true → (b : Bool) → eqb vector 0 ≡ b → b ≡ false
not_empty vector itag named true empty =
    clash (is_named vector itag) named (ap (λ v. is_named v itag) (eqb-true vector 0 empty) ∙ ap (λ n. eqb n 1) (bit_at-zero itag))
not_empty vector itag named false empty = refl

abbrev IsInUse : Tables → (s : Tables) → Invalidation → List Call → (vector count : ℕ) → Type 0
IsInUse late s invalidation calls vector count =
    (finishing late vector count ≡ Err InUse) ↔ ((slot : ℕ) × (runs_covered invalidation (slot_at s.uses slot) ≡ true)
    × (list_any (is_end_of_use slot) calls ≡ false))

in_use_after : (s : Tables) (itag : ℕ) (invalidation : Invalidation) (calls : List Call) (vector count : ℕ) → itag < length s.taken → NamesAlone vector itag
    → list_any (ends_taking itag) calls ≡ false → IsInUse (run (after_invalidate s itag invalidation) calls) s invalidation calls vector count
in_use_after s itag invalidation calls vector count within alone none = (running, in_use)
  where
    told : Tables
    told = after_invalidate s itag invalidation

    late : Tables
    late = run told calls

    exactly : (slot : ℕ) → is_noted slot (get_or late.taken itag None)
        ≡ (runs_covered invalidation (slot_at s.uses slot) && not (list_any (is_end_of_use slot) calls))
    exactly slot = notes_after s itag slot invalidation calls within none

    running : finishing late vector count ≡ Err InUse → (slot : ℕ) × (runs_covered invalidation (slot_at s.uses slot) ≡ true)
        × (list_any (is_end_of_use slot) calls ≡ false)
    running refused =
        let one = one_that_waits vector late.taken (second _ (is_one_waiting vector late.taken) _ _ refused) in
        let waiting : waits (get_or late.taken itag None) ≡ true =
        ap (λ k. waits (get_or late.taken k None)) (sym (the_one vector itag one.0 alone one.1)) ∙ one.2 in
        let noted = waits-notes (get_or late.taken itag None) waiting in
        let parts = and_parts (runs_covered invalidation (slot_at s.uses noted.0)) (not (list_any (is_end_of_use noted.0) calls))
        (sym (exactly noted.0) ∙ noted.1) in
        (noted.0, parts.0, true_of (list_any (is_end_of_use noted.0) calls) parts.1)

    there : is_some (get_or late.taken itag None) ≡ true
    there = some_run itag told calls none (ap is_some (get_or-set_same s.taken itag _ None within))

    in_use : (slot : ℕ) × (runs_covered invalidation (slot_at s.uses slot) ≡ true) × (list_any (is_end_of_use slot) calls ≡ false)
        → finishing late vector count ≡ Err InUse
    in_use (slot, runs, still) =
        let noted : is_noted slot (get_or late.taken itag None) ≡ true =
        exactly slot ∙ and_from (runs_covered invalidation (slot_at s.uses slot)) (not (list_any (is_end_of_use slot) calls)) runs
        (not_of (list_any (is_end_of_use slot) calls) still) in
        first_of _ (is_one_waiting vector late.taken) _ _
        (or_from (eqb vector 0) (not (are_pending vector late.taken)) (not_empty vector itag alone.0 (eqb vector 0) refl)
        (ap not (pending vector itag late.taken alone there)))
        (one_waiting vector itag late.taken (within_table slot itag late.taken noted) alone.0 (notes-waits slot (get_or late.taken itag None) noted))

pub in_use_exactly : InUseExactly
in_use_exactly s itag scope invalidation calls vector count names within alone permitted none =
    subst (λ t. IsInUse (run t calls) s invalidation calls vector count) (sym (told_is s itag scope invalidation names))
    (in_use_after s itag invalidation calls vector count within alone none)
