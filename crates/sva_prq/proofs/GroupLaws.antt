-- What every history keeps of the open groups: how many requests they have, and which bindings are open.
use Rattle.std.proofs.Common.{◌≡◌, ℕ, ◌+◌, ◌<◌, ◌≤◌, Bool, true, false, ◌&&◌, ◌||◌, not, cond, eqb, List, [], ◌∷◌, ◌++◌, length, filter, All, Some}
use Rattle.std.proofs.Common.{MatchOption, unwrap_or, refl, sym, ap, ◌∙◌, subst, arith, inl, inr, length-append}
use Rattle.std.proofs.lemmas.Bool.{and_parts, and_from, or_parts, or_cases, or_left, or_right, eqb-true, eq-eqb, ne_eqb, not-true, not-false, true≢false}
use Rattle.std.proofs.lemmas.Bool.{false≢true, false_from_ne_true}
use Rattle.std.proofs.lemmas.List.Elements.{All-nil, All-cons}
use Rattle.std.proofs.lemmas.Map.Views.{any-filter_same}
use Rattle.std.specs.List.{find, list_any}
use Rattle.sva_msg.specs.declared.messages.PageRequest.{PageRequest}
use Rattle.sva_prq.specs.Groups.{OpenGroup, is_collecting, is_of_serial, is_of_binding, is_of_other_unit, has_job, new_group, with_request, filed_among}
use Rattle.sva_prq.specs.Groups.{serial_for, answered_among}
use Rattle.sva_prq.specs.GroupCalls.{GroupCall, Reserve, File, Answered, DropUnit, groups_after, IsGroupHistory, GroupsAreBounded, was_filed, was_made}
use Rattle.sva_prq.specs.GroupCalls.{is_pending, OpenGroupsAreSeen, SerialsAreNew, SerialsDiffer, OpenIsExact}
use Rattle.sva_prq.proofs.Filing.{count-one}
use Rattle.sva_prq.proofs.Searches.{filed_among-none, answered_among-none, find-none}
use Rattle.sva_prq.proofs.Tests.{or_swap, or_twice, unfinished_name, unfinished_part, filter_none, answered_any, answered_none, AtMostOne}
use Rattle.sva_prq.proofs.Tests.{AtMostOne-filter, AtMostOne-answered}

-- at most 32 requests in each group
abbrev AreSmall : List OpenGroup → Type 0
AreSmall [] = Unit {0}
AreSmall (g ∷ gs) = (length g.asks ≤ 32) × AreSmall gs

AreSmall-filed : (n u b : ℕ) (request : PageRequest) (P : Type 0) (gs : List OpenGroup)
    → MatchOption (find (is_collecting u b request.index) gs) P (λ g. length g.asks < 32) → AreSmall gs → AreSmall (filed_among n u b request gs)
AreSmall-filed n u b request P [] room small = (omega arith, tt)
AreSmall-filed n u b request P (g ∷ gs) room small =
    (elim (is_collecting u b request.index g)
    as (λ t. MatchOption (cond t (Some g) (find (is_collecting u b request.index) gs)) P (λ g. length g.asks < 32)
    → AreSmall (cond t (with_request g request ∷ gs) (g ∷ filed_among n u b request gs))) [
      | true ↦ λ few. (let longer = length-append g.asks ((with_request (new_group 0 0 0 0) request).asks) in omega arith, small.1)
      | false ↦ λ rest. (small.0, AreSmall-filed n u b request P gs rest small.1)
    ]) room

AreSmall-answered : (serial : ℕ) (gs : List OpenGroup) → AreSmall gs → AreSmall (answered_among serial gs)
AreSmall-answered serial [] small = tt
AreSmall-answered serial (g ∷ gs) small =
    elim (has_job serial g) as (λ t. AreSmall (cond t gs (g ∷ answered_among serial gs))) [
      | true ↦ small.1
      | false ↦ (small.0, AreSmall-answered serial gs small.1)
    ]

AreSmall-filter : (q : OpenGroup → Bool) (gs : List OpenGroup) → AreSmall gs → AreSmall (filter q gs)
AreSmall-filter q [] small = tt
AreSmall-filter q (g ∷ gs) small =
    elim (q g) as (λ t. AreSmall (cond t (g ∷ filter q gs) (filter q gs))) [
      | true ↦ (small.0, AreSmall-filter q gs small.1)
      | false ↦ AreSmall-filter q gs small.1
    ]

small_groups : (history : List GroupCall) → IsGroupHistory history → AreSmall (groups_after history).groups
small_groups [] h = tt
small_groups (Reserve _ ∷ earlier) h = small_groups earlier h
small_groups (File u b request ∷ earlier) h =
    AreSmall-filed (groups_after earlier).next u b request _ (groups_after earlier).groups h.0 (small_groups earlier h.1)
small_groups (Answered job ∷ earlier) h =
    AreSmall-answered job.serial (groups_after earlier).groups (small_groups earlier h)
small_groups (DropUnit u ∷ earlier) h =
    AreSmall-filter (is_of_other_unit u) (groups_after earlier).groups (small_groups earlier h)

all_small : (gs : List OpenGroup) → AreSmall gs → All (λ g. length g.asks ≤ 32) gs
all_small [] small = All-nil (λ (g : OpenGroup). length g.asks ≤ 32)
all_small (g ∷ gs) small = All-cons (λ (g : OpenGroup). length g.asks ≤ 32) g gs small.0 (all_small gs small.1)

pub groups_are_bounded : GroupsAreBounded
groups_are_bounded history h = all_small _ (small_groups history h)

-- tests of which one says the other
any_more : (p q : OpenGroup → Bool) → ((g : OpenGroup) → p g ≡ true → q g ≡ true) → (gs : List OpenGroup) → list_any p gs ≡ true → list_any q gs ≡ true
any_more p q more [] some = some
any_more p q more (g ∷ gs) some =
    elim (or_cases (p g) (list_any p gs) some) [
      | inl here ↦ ap (λ t. t || list_any q gs) (more g here)
      | inr later ↦ or_right (q g) (list_any q gs) (any_more p q more gs later)
    ]

-- so a test passes before where it passes after
back_from : (x y : Bool) → (x ≡ false → y ≡ false) → y ≡ true → x ≡ true
back_from x y none some =
    (elim x as (λ t. x ≡ t → t ≡ true) [
      | true ↦ λ _. refl
      | false ↦ λ e. absurd (true≢false (sym some ∙ none e))
    ]) refl

-- the name of a group: serial, unit and binding
abbrev is_of : ℕ → ℕ → ℕ → OpenGroup → Bool
is_of serial unit binding g = eqb g.serial serial && eqb g.unit unit && eqb g.binding binding

-- the group with this serial, its job not being made
abbrev is_part : ℕ → OpenGroup → Bool
is_part serial g = is_of_serial serial g && not g.last

of_serial : (serial unit binding : ℕ) (g : OpenGroup) → is_of serial unit binding g ≡ true → is_of_serial serial g ≡ true
of_serial serial unit binding g h = (and_parts _ _ (and_parts _ _ h).0).0

of_binding : (serial unit binding : ℕ) (g : OpenGroup) → is_of serial unit binding g ≡ true → is_of_binding binding g ≡ true
of_binding serial unit binding g h = (and_parts _ _ h).1

part_serial : (s : ℕ) (gs : List OpenGroup) → list_any (is_of_serial s) gs ≡ false → list_any (is_part s) gs ≡ false
part_serial s gs none =
    false_from_ne_true _ (λ some. true≢false (sym (any_more (is_part s) (is_of_serial s) (λ g h. (and_parts _ _ h).0) gs some) ∙ none))

-- what filing a request does to the tests of serials
module _ (n u b : ℕ) (request : PageRequest) where
  -- the serial of the group to which the request goes
  abbrev serial_in : List OpenGroup → ℕ
  serial_in gs = (unwrap_or (find (is_collecting u b request.index) gs) (new_group n u b request.index)).serial

  filed_of : (serial unit binding : ℕ) (gs : List OpenGroup)
      → list_any (is_of serial unit binding) (filed_among n u b request gs) ≡
      ((eqb (serial_in gs) serial && eqb u unit && eqb b binding) || list_any (is_of serial unit binding) gs)
  filed_of serial unit binding [] = refl
  filed_of serial unit binding (g ∷ gs) =
      let p = is_collecting u b request.index in
      let q = is_of serial unit binding in
      (elim (p g)
      as (λ t. p g ≡ t
      → list_any q (cond t (with_request g request ∷ gs) (g ∷ filed_among n u b request gs))
      ≡ ((eqb (unwrap_or (cond t (Some g) (find p gs)) (new_group n u b request.index)).serial serial && eqb u unit && eqb b binding) ||
      (q g || list_any q gs))) [
        | true ↦ λ e.
            let name = unfinished_name u b request.index g e in
            or_twice (q g) (list_any q gs)
            ∙ (λ j. (eqb g.serial serial && eqb (name.units j) unit && eqb (name.bindings j) binding) || (q g || list_any q gs))
        | false ↦ λ e.
            ap (λ t. q g || t) (filed_of serial unit binding gs)
            ∙ or_swap (q g) (eqb (serial_in gs) serial && eqb u unit && eqb b binding) (list_any q gs)
      ]) refl

  filed_whole : (serial : ℕ) (gs : List OpenGroup)
      → list_any (has_job serial) (filed_among n u b request gs) ≡ ((eqb (serial_in gs) serial && request.last) || list_any (has_job serial) gs)
  filed_whole serial [] = refl
  filed_whole serial (g ∷ gs) =
      let p = is_collecting u b request.index in
      let q = has_job serial in
      (elim (p g)
      as (λ t. p g ≡ t
      → list_any q (cond t (with_request g request ∷ gs) (g ∷ filed_among n u b request gs))
      ≡ ((eqb (unwrap_or (cond t (Some g) (find p gs)) (new_group n u b request.index)).serial serial && request.last) || (q g || list_any q gs))) [
        | true ↦ λ e.
            let open_part : q g ≡ false = false_from_ne_true _ (λ whole. true≢false (sym (and_parts _ _ whole).1 ∙ unfinished_part u b request.index g e)) in
            ap (λ t. (eqb g.serial serial && request.last) || (t || list_any q gs)) (sym open_part)
        | false ↦ λ e.
            ap (λ t. q g || t) (filed_whole serial gs)
            ∙ or_swap (q g) (eqb (serial_in gs) serial && request.last) (list_any q gs)
      ]) refl

  -- where an unfinished group takes the request, each keeps its serial
  joined_any : (s : ℕ) (gs : List OpenGroup) → list_any (is_collecting u b request.index) gs ≡ true
      → list_any (is_of_serial s) (filed_among n u b request gs) ≡ list_any (is_of_serial s) gs
  joined_any s [] some = absurd (false≢true some)
  joined_any s (g ∷ gs) some =
      (elim (is_collecting u b request.index g)
      as (λ t. (t || list_any (is_collecting u b request.index) gs) ≡ true
      → list_any (is_of_serial s) (cond t (with_request g request ∷ gs) (g ∷ filed_among n u b request gs)) ≡
      (is_of_serial s g || list_any (is_of_serial s) gs)) [
        | true ↦ λ _. refl
        | false ↦ λ later. ap (λ t. is_of_serial s g || t) (joined_any s gs later)
      ]) some

  joined_one : (s : ℕ) (gs : List OpenGroup) → list_any (is_collecting u b request.index) gs ≡ true → AtMostOne (is_of_serial s) gs
      → AtMostOne (is_of_serial s) (filed_among n u b request gs)
  joined_one s [] some one = absurd (false≢true some)
  joined_one s (g ∷ gs) some one =
      (elim (is_collecting u b request.index g)
      as (λ t. (t || list_any (is_collecting u b request.index) gs) ≡ true
      → AtMostOne (is_of_serial s) (cond t (with_request g request ∷ gs) (g ∷ filed_among n u b request gs))) [
        | true ↦ λ _. one
        | false ↦ λ later. (λ passes. joined_any s gs later ∙ one.0 passes, joined_one s gs later one.1)
      ]) some

  joined_serial : (gs : List OpenGroup) → list_any (is_collecting u b request.index) gs ≡ true → list_any (is_of_serial (serial_in gs)) gs ≡ true
  joined_serial [] some = absurd (false≢true some)
  joined_serial (g ∷ gs) some =
      let p = is_collecting u b request.index in
      (elim (p g)
      as (λ t. (t || list_any p gs) ≡ true
      → (eqb g.serial (unwrap_or (cond t (Some g) (find p gs)) (new_group n u b request.index)).serial
      || list_any (is_of_serial (unwrap_or (cond t (Some g) (find p gs)) (new_group n u b request.index)).serial) gs) ≡ true) [
        | true ↦ λ _. or_left (eqb g.serial g.serial) _ (eq-eqb g.serial g.serial refl)
        | false ↦ λ later. or_right (eqb g.serial (serial_in gs)) _ (joined_serial gs later)
      ]) some

  joined_with : (s : ℕ) (gs : List OpenGroup) → list_any (is_collecting u b request.index) gs ≡ true → eqb (serial_in gs) s ≡ true
      → list_any (is_of_serial s) gs ≡ true
  joined_with s gs some same =
      ap (λ k. list_any (is_of_serial k) gs) (sym (eqb-true (serial_in gs) s same)) ∙ joined_serial gs some

  -- the group that takes its last request is a part no more, and the others are what they were
  joined_last : (s : ℕ) (gs : List OpenGroup) → list_any (is_collecting u b request.index) gs ≡ true → AtMostOne (is_of_serial s) gs
      → eqb (serial_in gs) s ≡ true → request.last ≡ true → list_any (is_part s) (filed_among n u b request gs) ≡ false
  joined_last s [] some one same last = absurd (false≢true some)
  joined_last s (g ∷ gs) some one same last =
      let p = is_collecting u b request.index in
      (elim (p g)
      as (λ t. (t || list_any p gs) ≡ true
      → eqb (unwrap_or (cond t (Some g) (find p gs)) (new_group n u b request.index)).serial s ≡ true
      → list_any (is_part s) (cond t (with_request g request ∷ gs) (g ∷ filed_among n u b request gs)) ≡ false) [
        | true ↦ λ _ mine.
            (λ j. (mine j && not (last j)) || list_any (is_part s) gs) ∙ part_serial s gs (one.0 mine)
        | false ↦ λ later mine.
            let other : is_part s g ≡ false =
            false_from_ne_true _ (λ part. true≢false (sym (joined_with s gs later mine) ∙ one.0 (and_parts _ _ part).0)) in
            ap (λ t. t || list_any (is_part s) (filed_among n u b request gs)) other ∙ joined_last s gs later one.1 mine last
      ]) some same

  joined_part : (s : ℕ) (gs : List OpenGroup) → list_any (is_collecting u b request.index) gs ≡ true → list_any (is_part s) gs ≡ false
      → list_any (is_part s) (filed_among n u b request gs) ≡ false
  joined_part s [] some none = absurd (false≢true some)
  joined_part s (g ∷ gs) some none =
      let p = is_collecting u b request.index in
      let parts = or_parts (is_part s g) (list_any (is_part s) gs) none in
      (elim (p g)
      as (λ t. p g ≡ t → (t || list_any p gs) ≡ true
      → list_any (is_part s) (cond t (with_request g request ∷ gs) (g ∷ filed_among n u b request gs)) ≡ false) [
        | true ↦ λ e _.
            let other : is_of_serial s g ≡ false =
            false_from_ne_true _ (λ mine. true≢false (sym (and_from (is_of_serial s g) (not g.last) mine
            (ap not (unfinished_part u b request.index g e))) ∙ parts.0)) in
            ap (λ t. (t && not request.last) || list_any (is_part s) gs) other ∙ parts.1
        | false ↦ λ e later.
            ap (λ t. t || list_any (is_part s) (filed_among n u b request gs)) parts.0 ∙ joined_part s gs later parts.1
      ]) refl some

-- a group more
any_pushed : (p : OpenGroup → Bool) (gs : List OpenGroup) (g : OpenGroup) → list_any p gs ≡ false → p g ≡ false → list_any p (gs ++ g ∷ []) ≡ false
any_pushed p [] g none new = ap (λ t. t || false) new
any_pushed p (h ∷ gs) g none new =
    let parts = or_parts (p h) (list_any p gs) none in
    ap (λ t. t || list_any p (gs ++ g ∷ [])) parts.0 ∙ any_pushed p gs g parts.1 new

one_pushed : (p : OpenGroup → Bool) (gs : List OpenGroup) (g : OpenGroup) → AtMostOne p gs → (p g ≡ true → list_any p gs ≡ false) → AtMostOne p (gs ++ g ∷ [])
one_pushed p [] g one new = (λ _. refl, tt)
one_pushed p (h ∷ gs) g one new = (
  λ passes.
      any_pushed p gs g (one.0 passes)
      (false_from_ne_true _ (λ mine. true≢false (sym (ap (λ t. t || list_any p gs) passes) ∙ new mine))),
  one_pushed p gs g one.1 (λ mine. (or_parts (p h) (list_any p gs) (new mine)).1),
)

-- a group is whole only where its job was made
whole_made : (history : List GroupCall) (serial : ℕ) → list_any (has_job serial) (groups_after history).groups ≡ true → was_made serial history ≡ true
whole_made [] serial h = h
whole_made (Reserve _ ∷ earlier) serial h = whole_made earlier serial h
whole_made (File u b request ∷ earlier) serial h =
    let s = groups_after earlier in
    let mine : Bool = eqb (serial_for s u b request.index) serial && request.last in
    elim (or_cases mine (list_any (has_job serial) s.groups) (sym (filed_whole s.next u b request serial s.groups) ∙ h)) [
      | inl here ↦ or_left mine (was_made serial earlier) here
      | inr before ↦ or_right mine (was_made serial earlier) (whole_made earlier serial before)
    ]
whole_made (Answered job ∷ earlier) serial h =
    let gs = (groups_after earlier).groups in
    whole_made earlier serial (back_from _ _ (answered_none (has_job serial) job.serial gs) h)
whole_made (DropUnit u ∷ earlier) serial h =
    let gs = (groups_after earlier).groups in
    whole_made earlier serial (back_from _ _ (filter_none (has_job serial) (is_of_other_unit u) gs) h)

-- an answer to another group, and the drop of a unit
answered_apart : (n serial unit binding : ℕ) → eqb n serial ≡ false → (gs : List OpenGroup)
    → list_any (is_of serial unit binding) (answered_among n gs) ≡ list_any (is_of serial unit binding) gs
answered_apart n serial unit binding apart gs =
    answered_any (is_of serial unit binding) n
    (λ g whole. false_from_ne_true _ (λ mine.
    let has : g.serial ≡ n = eqb-true g.serial n (and_parts _ _ whole).0 in
    let is : g.serial ≡ serial = eqb-true g.serial serial (of_serial serial unit binding g mine) in
    true≢false (sym (eq-eqb n serial (sym has ∙ is)) ∙ apart))) gs

dropped_of : (u serial unit binding : ℕ) (gs : List OpenGroup)
    → list_any (is_of serial unit binding) (filter (is_of_other_unit u) gs) ≡ (not (eqb unit u) && list_any (is_of serial unit binding) gs)
dropped_of u serial unit binding gs =
    any-filter_same (is_of serial unit binding) (is_of_other_unit u) (not (eqb unit u))
    (λ g h. ap (λ x. not (eqb x u)) (eqb-true g.unit unit (and_parts _ _ (and_parts _ _ h).0).1)) gs

-- a request that was filed and not ended has its group
named_if_pending : (history : List GroupCall) (serial unit binding : ℕ) → is_pending serial unit binding history ≡ true
    → list_any (is_of serial unit binding) (groups_after history).groups ≡ true
named_if_pending [] serial unit binding h = h
named_if_pending (Reserve _ ∷ earlier) serial unit binding h = named_if_pending earlier serial unit binding h
named_if_pending (File u b request ∷ earlier) serial unit binding h =
    let s = groups_after earlier in
    let same : Bool = eqb (serial_for s u b request.index) serial && eqb u unit && eqb b binding in
    filed_of s.next u b request serial unit binding s.groups
    ∙ (elim (or_cases same (is_pending serial unit binding earlier) h) [
      | inl here ↦ or_left same (list_any (is_of serial unit binding) s.groups) here
      | inr before ↦ or_right same (list_any (is_of serial unit binding) s.groups) (named_if_pending earlier serial unit binding before)
    ])
named_if_pending (Answered job ∷ earlier) serial unit binding h =
    let gs = (groups_after earlier).groups in
    let own : Bool = eqb job.serial serial && was_made serial earlier in
    let parts = and_parts (not own) (is_pending serial unit binding earlier) h in
    let before = named_if_pending earlier serial unit binding parts.1 in
    (elim (eqb job.serial serial)
    as (λ t. eqb job.serial serial ≡ t → (t && was_made serial earlier) ≡ false
    → list_any (is_of serial unit binding) (answered_among job.serial gs) ≡ true) [
      | true ↦ λ e unmade.
          let none : list_any (has_job serial) gs ≡ false =
          false_from_ne_true _ (λ some. true≢false (sym (whole_made earlier serial some) ∙ unmade)) in
          ap (λ n. list_any (is_of serial unit binding) (answered_among n gs)) (eqb-true job.serial serial e)
          ∙ ap (list_any (is_of serial unit binding)) (answered_among-none serial gs none) ∙ before
      | false ↦ λ e unmade. answered_apart job.serial serial unit binding e gs ∙ before
    ]) refl (not-true own parts.0)
named_if_pending (DropUnit u ∷ earlier) serial unit binding h =
    let parts = and_parts (not (eqb unit u)) (is_pending serial unit binding earlier) h in
    dropped_of u serial unit binding (groups_after earlier).groups
    ∙ and_from (not (eqb unit u)) _ parts.0 (named_if_pending earlier serial unit binding parts.1)

pub open_groups_are_seen : OpenGroupsAreSeen
open_groups_are_seen history serial unit binding h =
    any_more _ (is_of_binding binding) (of_binding serial unit binding) (groups_after history).groups (named_if_pending history serial unit binding h)

-- serials rise, so each group has its own, and a whole group is a part no more
record Kept (history : List GroupCall) : Type 0 where
  fresh : (s : ℕ) → (groups_after history).next ≤ s → list_any (is_of_serial s) (groups_after history).groups ≡ false
  unfiled : (s : ℕ) → (groups_after history).next ≤ s → was_filed s history ≡ false
  unmade : (s : ℕ) → (groups_after history).next ≤ s → was_made s history ≡ false
  single : (s : ℕ) → AtMostOne (is_of_serial s) (groups_after history).groups
  whole : (s : ℕ) → was_made s history ≡ true → list_any (is_part s) (groups_after history).groups ≡ false

-- a group takes the request
module _ (earlier : List GroupCall) (u b : ℕ) (request : PageRequest) (k : Kept earlier)
    (some : list_any (is_collecting u b request.index) (groups_after earlier).groups ≡ true) where
  next_joined : (groups_after (File u b request ∷ earlier)).next ≡ (groups_after earlier).next
  next_joined = ap (λ t. cond t (groups_after earlier).next ((groups_after earlier).next + 1)) some

  apart_joined : (s : ℕ) → (groups_after earlier).next ≤ s → eqb (serial_for (groups_after earlier) u b request.index) s ≡ false
  apart_joined s past =
      let gs = (groups_after earlier).groups in
      false_from_ne_true _ (λ same. true≢false (sym (joined_with (groups_after earlier).next u b request s gs some same) ∙ k.fresh s past))

  unfiled_joined : (s : ℕ) → (groups_after earlier).next ≤ s → was_filed s (File u b request ∷ earlier) ≡ false
  unfiled_joined s past = ap (λ t. t || was_filed s earlier) (apart_joined s past) ∙ k.unfiled s past

  unmade_joined : (s : ℕ) → (groups_after earlier).next ≤ s → was_made s (File u b request ∷ earlier) ≡ false
  unmade_joined s past =
      ap (λ t. (t && request.last) || was_made s earlier) (apart_joined s past) ∙ k.unmade s past

  whole_joined : (s : ℕ) → was_made s (File u b request ∷ earlier) ≡ true → list_any (is_part s) (groups_after (File u b request ∷ earlier)).groups ≡ false
  whole_joined s made =
      let n = (groups_after earlier).next in
      let gs = (groups_after earlier).groups in
      let mine : Bool = eqb (serial_for (groups_after earlier) u b request.index) s && request.last in
      elim (or_cases mine (was_made s earlier) made) [
        | inl here ↦ let both = and_parts _ _ here in joined_last n u b request s gs some (k.single s) both.0 both.1
        | inr before ↦ joined_part n u b request s gs some (k.whole s before)
      ]

  kept_joined : Kept (File u b request ∷ earlier)
  kept_joined =
      let n = (groups_after earlier).next in
      let gs = (groups_after earlier).groups in
      record {
        fresh = λ s past. joined_any n u b request s gs some ∙ k.fresh s (omega (arith, next_joined, past));
        unfiled = λ s past. unfiled_joined s (omega (arith, next_joined, past));
        unmade = λ s past. unmade_joined s (omega (arith, next_joined, past));
        single = λ s. joined_one n u b request s gs some (k.single s);
        whole = whole_joined;
      }

-- a group begins with the request
module _ (earlier : List GroupCall) (u b : ℕ) (request : PageRequest) (k : Kept earlier)
    (none : list_any (is_collecting u b request.index) (groups_after earlier).groups ≡ false) where
  abbrev n : ℕ
  n = (groups_after earlier).next

  abbrev gs : List OpenGroup
  gs = (groups_after earlier).groups

  abbrev begun : OpenGroup
  begun = with_request (new_group n u b request.index) request

  next_begun : (groups_after (File u b request ∷ earlier)).next ≡ n + 1
  next_begun = ap (λ t. cond t n (n + 1)) none

  groups_begun : (groups_after (File u b request ∷ earlier)).groups ≡ gs ++ begun ∷ []
  groups_begun = filed_among-none n u b request gs none

  serial_begun : serial_for (groups_after earlier) u b request.index ≡ n
  serial_begun = ap (λ o. (unwrap_or o (new_group n u b request.index)).serial) (find-none (is_collecting u b request.index) gs none)

  apart : (s : ℕ) → n + 1 ≤ s → eqb n s ≡ false
  apart s past = ne_eqb n s (λ e. absurd (omega (arith, e, past)))

  unfiled_begun : (s : ℕ) → n + 1 ≤ s → was_filed s (File u b request ∷ earlier) ≡ false
  unfiled_begun s past =
      ap (λ x. eqb x s || was_filed s earlier) serial_begun
      ∙ ap (λ t. t || was_filed s earlier) (apart s past)
      ∙ k.unfiled s (omega (arith, past))

  unmade_begun : (s : ℕ) → n + 1 ≤ s → was_made s (File u b request ∷ earlier) ≡ false
  unmade_begun s past =
      ap (λ x. (eqb x s && request.last) || was_made s earlier) serial_begun
      ∙ ap (λ t. (t && request.last) || was_made s earlier) (apart s past)
      ∙ k.unmade s (omega (arith, past))

  whole_begun : (s : ℕ) → was_made s (File u b request ∷ earlier) ≡ true → list_any (is_part s) (gs ++ begun ∷ []) ≡ false
  whole_begun s made =
      let mine : Bool = eqb n s && request.last in
      elim (or_cases mine (was_made s earlier) (ap (λ x. (eqb x s && request.last) || was_made s earlier) (sym serial_begun) ∙ made)) [
        | inl here ↦
            let both = and_parts _ _ here in
            let same = eqb-true n s both.0 in
            any_pushed (is_part s) gs begun (part_serial s gs (k.fresh s (omega (arith, same)))) (λ j. both.0 j && not (both.1 j))
        | inr before ↦
            any_pushed (is_part s) gs begun (k.whole s before)
            (false_from_ne_true _ (λ part.
            let same = eqb-true n s (and_parts _ _ part).0 in
            true≢false (sym before ∙ k.unmade s (omega (arith, same)))))
      ]

  kept_begun : Kept (File u b request ∷ earlier)
  kept_begun =
      record {
        fresh = λ s past.
            let later : n + 1 ≤ s = omega (arith, next_begun, past) in
            ap (list_any (is_of_serial s)) groups_begun ∙ any_pushed (is_of_serial s) gs begun (k.fresh s (omega (arith, later))) (apart s later);
        unfiled = λ s past. unfiled_begun s (omega (arith, next_begun, past));
        unmade = λ s past. unmade_begun s (omega (arith, next_begun, past));
        single = λ s.
            subst (AtMostOne (is_of_serial s)) (sym groups_begun)
            (one_pushed (is_of_serial s) gs begun (k.single s) (λ mine. let same = eqb-true n s mine in k.fresh s (omega (arith, same))));
        whole = λ s made. ap (list_any (is_part s)) groups_begun ∙ whole_begun s made;
      }

kept : (history : List GroupCall) → Kept history
kept [] = record { fresh = λ s past. refl; unfiled = λ s past. refl; unmade = λ s past. refl; single = λ s. tt; whole = λ s made. refl }
kept (Reserve _ ∷ earlier) =
    let k = kept earlier in
    record { fresh = k.fresh; unfiled = k.unfiled; unmade = k.unmade; single = k.single; whole = k.whole }
kept (File u b request ∷ earlier) =
    let k = kept earlier in
    (elim (list_any (is_collecting u b request.index) (groups_after earlier).groups)
    as (λ t. list_any (is_collecting u b request.index) (groups_after earlier).groups ≡ t → Kept (File u b request ∷ earlier)) [
      | true ↦ λ some. kept_joined earlier u b request k some
      | false ↦ λ none. kept_begun earlier u b request k none
    ]) refl
kept (Answered job ∷ earlier) =
    let k = kept earlier in
    let gs = (groups_after earlier).groups in
    record {
      fresh = λ s past. answered_none (is_of_serial s) job.serial gs (k.fresh s past);
      unfiled = k.unfiled;
      unmade = k.unmade;
      single = λ s. AtMostOne-answered (is_of_serial s) job.serial gs (k.single s);
      whole = λ s made. answered_none (is_part s) job.serial gs (k.whole s made);
    }
kept (DropUnit u ∷ earlier) =
    let k = kept earlier in
    let gs = (groups_after earlier).groups in
    record {
      fresh = λ s past. filter_none (is_of_serial s) (is_of_other_unit u) gs (k.fresh s past);
      unfiled = k.unfiled;
      unmade = k.unmade;
      single = λ s. AtMostOne-filter (is_of_serial s) (is_of_other_unit u) gs (k.single s);
      whole = λ s made. filter_none (is_part s) (is_of_other_unit u) gs (k.whole s made);
    }

pub serials_are_new : SerialsAreNew
serials_are_new history unit binding index none =
    let s = groups_after history in
    ap (λ o. was_filed (unwrap_or o (new_group s.next unit binding index)).serial history) (find-none (is_collecting unit binding index) s.groups none)
    ∙ (kept history).unfiled s.next (omega arith)

pub serials_differ : SerialsDiffer
serials_differ history serial =
    count-one (is_of_serial serial) (groups_after history).groups ((kept history).single serial)

-- the answer to the one group of a serial leaves none
serial-answered : (s : ℕ) (gs : List OpenGroup) → list_any (is_part s) gs ≡ false → AtMostOne (is_of_serial s) gs
    → list_any (is_of_serial s) (answered_among s gs) ≡ false
serial-answered s [] whole one = refl
serial-answered s (g ∷ gs) whole one =
    let parts = or_parts (is_part s g) (list_any (is_part s) gs) whole in
    (elim (has_job s g)
    as (λ t. has_job s g ≡ t → list_any (is_of_serial s) (cond t gs (g ∷ answered_among s gs)) ≡ false) [
      | true ↦ λ e. one.0 (and_parts _ _ e).0
      | false ↦ λ e.
          let other : is_of_serial s g ≡ false =
          false_from_ne_true _ (λ has.
          let last : g.last ≡ true = not-false _ (ap (λ t. t && not g.last) (sym has) ∙ parts.0) in
          true≢false (sym (and_from _ _ has last) ∙ e)) in
          ap (λ t. t || list_any (is_of_serial s) (answered_among s gs)) other ∙ serial-answered s gs parts.1 one.1
    ]) refl

-- so a group is open just where its request was filed and not ended
pending_if_named : (history : List GroupCall) (serial unit binding : ℕ) → list_any (is_of serial unit binding) (groups_after history).groups ≡ true
    → is_pending serial unit binding history ≡ true
pending_if_named [] serial unit binding h = h
pending_if_named (Reserve _ ∷ earlier) serial unit binding h =
    pending_if_named earlier serial unit binding h
pending_if_named (File u b request ∷ earlier) serial unit binding h =
    let s = groups_after earlier in
    let same : Bool = eqb (serial_for s u b request.index) serial && eqb u unit && eqb b binding in
    elim (or_cases same (list_any (is_of serial unit binding) s.groups) (sym (filed_of s.next u b request serial unit binding s.groups) ∙ h)) [
      | inl here ↦ or_left same (is_pending serial unit binding earlier) here
      | inr before ↦ or_right same (is_pending serial unit binding earlier) (pending_if_named earlier serial unit binding before)
    ]
pending_if_named (Answered job ∷ earlier) serial unit binding h =
    let gs = (groups_after earlier).groups in
    let before = pending_if_named earlier serial unit binding (back_from _ _ (answered_none (is_of serial unit binding) job.serial gs) h) in
    let other : (eqb job.serial serial && was_made serial earlier) ≡ false =
    false_from_ne_true _ (λ own.
    let both = and_parts _ _ own in
    let k = kept earlier in
    let left = any_more (is_of serial unit binding) (is_of_serial serial) (of_serial serial unit binding) (answered_among job.serial gs) h in
    let none = serial-answered serial gs (k.whole serial both.1) (k.single serial) in
    true≢false (sym left ∙ ap (λ n. list_any (is_of_serial serial) (answered_among n gs)) (eqb-true job.serial serial both.0) ∙ none)) in
    and_from _ _ (ap not other) before
pending_if_named (DropUnit u ∷ earlier) serial unit binding h =
    let gs = (groups_after earlier).groups in
    let both = and_parts (not (eqb unit u)) (list_any (is_of serial unit binding) gs) (sym (dropped_of u serial unit binding gs) ∙ h) in
    and_from (not (eqb unit u)) (is_pending serial unit binding earlier) both.0 (pending_if_named earlier serial unit binding both.1)

-- an open binding has a group with a name
name_of_open : (binding : ℕ) (gs : List OpenGroup) → list_any (is_of_binding binding) gs ≡ true
    → (serial : ℕ) × (unit : ℕ) × (list_any (is_of serial unit binding) gs ≡ true)
name_of_open binding [] none = absurd (true≢false (sym none))
name_of_open binding (g ∷ gs) some =
    elim (or_cases _ _ some) [
      | inl here ↦
          let mine : is_of g.serial g.unit binding g ≡ true =
          and_from _ _ (and_from _ _ (eq-eqb g.serial g.serial refl) (eq-eqb g.unit g.unit refl)) here in
          (g.serial, g.unit, or_left _ _ mine)
      | inr later ↦
          let rest = name_of_open binding gs later in
          (rest.0, rest.1, or_right _ _ rest.2)
    ]

pub open_is_exact : OpenIsExact
open_is_exact history binding = (
  λ open_now.
      let name = name_of_open binding (groups_after history).groups open_now in
      (name.0, name.1, pending_if_named history name.0 name.1 binding name.2),
  λ filed. open_groups_are_seen history filed.0 filed.1 binding filed.2,
)
