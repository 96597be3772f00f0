-- The limits of an endpoint hold after every list of permitted calls.
use Rattle.std.proofs.Common.{◌≡◌, ◌≢◌, ℕ, zero, suc, ◌+◌, ◌-◌, ◌<◌, ◌≤◌, List, [], ◌∷◌, length, map, set, replicate, ◌⊎◌, get_or, Bool, true, false, cond}
use Rattle.std.proofs.Common.{not, subst, refl, ap, sym, ◌∙◌, get_or-set_other, ◌||◌, Option, Some, None, inl, inr, arith}
use Rattle.std.specs.Prelude.{nat_lt, position, IsSome}
use Rattle.std.specs.List.{enumerate_from}
use Rattle.std.specs.FinMap as finite
use Rattle.std.specs.FinMap.{len-insert, len-remove, len-empty}
use Rattle.std.proofs.Math.ListN.{get_or-map, length-set}
use Rattle.std.proofs.lemmas.Bool.{cases_lt, ltb-true}
use Rattle.std.proofs.lemmas.List.{set_past, length-map}
use Rattle.std.proofs.lemmas.List.Sums.{sum_by-set}
use Rattle.std.proofs.lemmas.List.FromFn.{length-enumerate_from}
use Rattle.sva_msg.specs.declared.messages.Kind.{Kind}
use Rattle.sva_msg.specs.declared.messages.Kind.TheVariants.{Start, Stop, Reset, Completion, Invalidate, Response}
use Rattle.sva_endpoint.specs.declared.pasid_states.PasidState.{PasidState}
use Rattle.sva_endpoint.specs.declared.pasid_states.PasidState.TheVariants.{Off, On, Stopping}
use Rattle.sva_endpoint.specs.declared.coverage.Invalidation.{Invalidation}
use Rattle.sva_endpoint.specs.declared.cached.Translation.{Translation}
use Rattle.sva_endpoint.specs.declared.request_tags.RequestTag.{RequestTag}
use Rattle.sva_endpoint.specs.declared.request_tags.RequestTag.TheVariants.{Free, Out, Doomed}
use Rattle.sva_endpoint.specs.declared.use_slots.UseSlot.{UseSlot}
use Rattle.sva_endpoint.specs.declared.use_slots.UseSlot.TheVariants.{Free as FreeSlot, Running, Dead}
use Rattle.sva_endpoint.specs.declared.taken_table.Taken.{Taken}
use Rattle.sva_endpoint.specs.declared.groups.GroupPlace.{GroupPlace}
use Rattle.sva_endpoint.specs.declared.groups.GroupPlace.TheVariants.{Free as NoGroup, Collecting, Out as GroupOut, Stale}
use Rattle.sva_endpoint.specs.declared.permitted.Fault.{Fault}
use Rattle.sva_endpoint.specs.Coverage.{covers}
use Rattle.sva_msg.specs.Extents.{extent_of}
use Rattle.sva_endpoint.specs.Cache.{Key, Translations, key_cmp, key_cmp_total, has_room_for}
use Rattle.sva_endpoint.specs.PasidStates.{state_of}
use Rattle.sva_endpoint.specs.RequestTags.{request_at, doomed_by}
use Rattle.sva_endpoint.specs.UseSlots.{slot_at, is_free as is_free_slot, runs_covered, cut_off}
use Rattle.sva_itags.specs.Vector.{is_named}
use Rattle.sva_endpoint.specs.Taken.{without_note}
use Rattle.sva_endpoint.specs.Groups.{is_free, group_at, group_of, with_request, requests_of, outstanding, stale_of, HaveRequests}
use Rattle.sva_endpoint.specs.Tables.{Tables, fresh}
use Rattle.sva_endpoint.specs.Steps.{lowest_slot, refusals_of_use, refusals_of_fault, index_for, group_after}
use Rattle.sva_endpoint.specs.Deliveries.{after_invalidate, after_receive, cache_after}
use Rattle.sva_endpoint.specs.Calls.{Call, Ask, BeginUse, EndUse, Evict, SendFault, Finish, Quit, Receive, is_permitted, after, run, ArePermitted}
use Rattle.sva_endpoint.specs.Laws.{NotesRun, IsSound, AlwaysSound}
use Rattle.sva_endpoint.proofs.Facts.{len-retain_keys-le}
use Rattle.sva_endpoint.proofs.GroupFacts.{outstanding-stale_of, HaveRequests-replicate, HaveRequests-set, HaveRequests-at, HaveRequests-stale_of}
use Rattle.sva_endpoint.proofs.GroupFacts.{requests_of-group_of, requests_of-with_request, index_with_credit}
use Rattle.sva_endpoint.proofs.TakenFacts.{get_or-without_named}
use Rattle.sva_endpoint.proofs.CallFacts.{are_clear, lowest}
use Rattle.sva_endpoint.proofs.TagLaws.{clash}
use Rattle.sva_endpoint.proofs.NoteLaws.{set_false as get_or-set_false}

-- ---- the lengths of the tables

length-with_state : (b : Bool) (states : List PasidState) (pasid : ℕ) (state : PasidState) → length (cond b (set states pasid state) states) ≡ length states
length-with_state true states pasid state = length-set states pasid state
length-with_state false states pasid state = refl

pasids_received : (s : Tables) (kind : Kind) → length s.pasids ≡ 33 → length (after_receive s kind).pasids ≡ 33
pasids_received s (Start pasid) h = length-with_state (nat_lt 0 pasid) s.pasids pasid On ∙ h
pasids_received s (Stop pasid) h = length-with_state (nat_lt 0 pasid) s.pasids pasid Stopping ∙ h
pasids_received s Reset h = refl
pasids_received s _ h = h

pasids_after : (s : Tables) (call : Call) → length s.pasids ≡ 33 → length (after s call).pasids ≡ 33
pasids_after s (Quit pasid) h = length-with_state (nat_lt 0 pasid) s.pasids pasid Off ∙ h
pasids_after s (Receive kind) h = pasids_received s kind h
pasids_after s _ h = h

tags_received : (s : Tables) (kind : Kind) → length s.tags ≡ 32 → length (after_receive s kind).tags ≡ 32
tags_received s (Completion tag frame read write) h = length-set s.tags tag Free ∙ h
tags_received s (Invalidate itag pasid scope) h = length-map s.tags (doomed_by (record { pasid = pasid; extent = extent_of scope })) ∙ h
tags_received s Reset h = refl
tags_received s _ h = h

tags_after : (s : Tables) (call : Call) → length s.tags ≡ 32 → length (after s call).tags ≡ 32
tags_after s (Ask pasid page) h = length-set s.tags _ (Out pasid page) ∙ h
tags_after s (Receive kind) h = tags_received s kind h
tags_after s _ h = h

uses_received : (s : Tables) (kind : Kind) → length s.uses ≡ 16 → length (after_receive s kind).uses ≡ 16
uses_received s Reset h = length-map s.uses cut_off ∙ h
uses_received s _ h = h

uses_after : (s : Tables) (call : Call) → length s.uses ≡ 16 → length (after s call).uses ≡ 16
uses_after s (BeginUse pasid page write) h = length-set s.uses _ _ ∙ h
uses_after s (EndUse slot) h = length-set s.uses slot FreeSlot ∙ h
uses_after s (Receive kind) h = uses_received s kind h
uses_after s _ h = h

taken_received : (s : Tables) (kind : Kind) → length s.taken ≡ 32 → length (after_receive s kind).taken ≡ 32
taken_received s (Invalidate itag pasid scope) h = length-set s.taken itag _ ∙ h
taken_received s Reset h = refl
taken_received s _ h = h

taken_after : (s : Tables) (call : Call) → length s.taken ≡ 32 → length (after s call).taken ≡ 32
taken_after s (EndUse slot) h = length-map s.taken (without_note slot) ∙ h
taken_after s (Finish vector count) h = length-map (enumerate_from 0 s.taken) _ ∙ length-enumerate_from 0 s.taken ∙ h
taken_after s (Receive kind) h = taken_received s kind h
taken_after s _ h = h

groups_received : (s : Tables) (kind : Kind) → length s.groups ≡ 32 → length (after_receive s kind).groups ≡ 32
groups_received s (Response pasid index code) h = length-set s.groups index NoGroup ∙ h
groups_received s Reset h = refl
groups_received s _ h = h

groups_after : (s : Tables) (call : Call) → length s.groups ≡ 32 → length (after s call).groups ≡ 32
groups_after s (SendFault fault) h = length-set s.groups _ _ ∙ h
groups_after s (Quit pasid) h = length-map s.groups (stale_of pasid) ∙ h
groups_after s (Receive kind) h = groups_received s kind h
groups_after s _ h = h

-- ---- there is no PASID 0

state_of-zero : (states : List PasidState) (pasid : ℕ) (state : PasidState) → state_of states 0 ≡ Off → (b : Bool) → nat_lt 0 pasid ≡ b
    → state_of (cond b (set states pasid state) states) 0 ≡ Off
state_of-zero states pasid state h true above =
    let positive = ltb-true 0 pasid above in
    let apart : 0 ≢ pasid = omega arith in
    get_or-set_other states pasid 0 state Off apart ∙ h
state_of-zero states pasid state h false above = h

no_zero_received : (s : Tables) (kind : Kind) → state_of s.pasids 0 ≡ Off → state_of (after_receive s kind).pasids 0 ≡ Off
no_zero_received s (Start pasid) h = state_of-zero s.pasids pasid On h (nat_lt 0 pasid) refl
no_zero_received s (Stop pasid) h = state_of-zero s.pasids pasid Stopping h (nat_lt 0 pasid) refl
no_zero_received s Reset h = refl
no_zero_received s _ h = h

no_zero_after : (s : Tables) (call : Call) → state_of s.pasids 0 ≡ Off → state_of (after s call).pasids 0 ≡ Off
no_zero_after s (Quit pasid) h = state_of-zero s.pasids pasid Off h (nat_lt 0 pasid) refl
no_zero_after s (Receive kind) h = no_zero_received s kind h
no_zero_after s _ h = h

-- ---- at most 64 translations are cached

one_less : (b : Bool) (n : ℕ) → n ≤ 64 → cond b (n - 1) n ≤ 64
one_less true n h = let bound : n - 1 ≤ 64 = omega arith in bound
one_less false n h = h

in_room : (b : Bool) (n : ℕ) → n ≤ 64 → (b || nat_lt n 64) ≡ true → cond b n (n + 1) ≤ 64
in_room true n h room = h
in_room false n h room =
    let below = ltb-true n 64 room in
    let bound : n + 1 ≤ 64 = omega arith in bound

inserted : (cache : Translations) (key : Key) (translation : Translation) (b : Bool) → has_room_for cache key ≡ b → finite.len cache ≤ 64
    → finite.len (cond b (finite.insert cache key translation) cache) ≤ 64
inserted cache key translation true room h =
    subst (λ (n : ℕ). n ≤ 64) (sym (len-insert key_cmp_total cache key translation)) (in_room (finite.contains_key cache key) (finite.len cache) h room)
inserted cache key translation false room h = h

completed : (cache : Translations) (frame : ℕ) (read write : Bool) (place : RequestTag) → finite.len cache ≤ 64
    → finite.len (cache_after cache frame read write place) ≤ 64
completed cache frame read write Free h = h
completed cache frame true write (Out pasid page) h =
    inserted cache (pasid, page) (record { frame = frame; write = write }) (has_room_for cache (pasid, page)) refl h
completed cache frame false write (Out pasid page) h = h
completed cache frame read write (Doomed pasid page) h = h

cached_received : (s : Tables) (kind : Kind) → finite.len s.cache ≤ 64 → finite.len (after_receive s kind).cache ≤ 64
cached_received s (Completion tag frame read write) h = completed s.cache frame read write (request_at s.tags tag) h
cached_received s (Invalidate itag pasid scope) h =
    let few = len-retain_keys-le s.cache (λ key. not (covers (record { pasid = pasid; extent = extent_of scope }) key.0 key.1)) in
    omega arith
cached_received s Reset h = let none = len-empty key_cmp Translation in omega arith
cached_received s _ h = h

cached_after : (s : Tables) (call : Call) → finite.len s.cache ≤ 64 → finite.len (after s call).cache ≤ 64
cached_after s (Evict pasid page) h =
    subst (λ (n : ℕ). n ≤ 64) (sym (len-remove key_cmp_total s.cache (pasid, page)))
    (one_less (finite.contains_key s.cache (pasid, page)) (finite.len s.cache) h)
cached_after s (Receive kind) h = cached_received s kind h
cached_after s _ h = h

-- ---- at most 32 page requests are outstanding, and each group has one

requests_of-with_request-le : (last : Bool) (place : GroupPlace) → requests_of (with_request last place) ≤ requests_of place + 1
requests_of-with_request-le last NoGroup = omega arith
requests_of-with_request-le last (Collecting pasid requests) = let same = requests_of-group_of pasid (requests + 1) last in omega arith
requests_of-with_request-le last (GroupOut pasid requests) = omega arith
requests_of-with_request-le last (Stale pasid requests) = omega arith

outstanding-set : (groups : List GroupPlace) (i : ℕ) (place : GroupPlace) → requests_of place ≤ requests_of (get_or groups i NoGroup) + 1
    → outstanding (set groups i place) ≤ outstanding groups + 1
outstanding-set groups i place h = elim (cases_lt i (length groups)) [
  | inl within ↦ let sum = sum_by-set requests_of groups i place NoGroup within in omega arith
  | inr past ↦ let same : outstanding (set groups i place) ≡ outstanding groups = ap outstanding (set_past groups i place past) in omega arith
]

outstanding-free : (groups : List GroupPlace) (i : ℕ) → outstanding (set groups i NoGroup) ≤ outstanding groups
outstanding-free groups i = elim (cases_lt i (length groups)) [
  | inl within ↦ let sum = sum_by-set requests_of groups i NoGroup NoGroup within in omega arith
  | inr past ↦ let same : outstanding (set groups i NoGroup) ≡ outstanding groups = ap outstanding (set_past groups i NoGroup past) in omega arith
]

not-false : (b : Bool) → not b ≡ false → b ≡ true
not-false true is = refl
not-false false is = absurd (cc)

faulted : (s : Tables) (fault : Fault) (group : Option ℕ) → outstanding s.groups < 32
    → outstanding (set s.groups (index_for s group) (group_after s fault group)) ≤ 32
faulted s fault None credit =
    let one = requests_of-group_of fault.pasid 1 fault.last in
    let more = outstanding-set s.groups (index_for s None) (group_of fault.pasid 1 fault.last) (omega arith) in
    omega arith
faulted s fault (Some index) credit =
    let more = outstanding-set s.groups index (with_request fault.last (group_at s.groups index))
    (requests_of-with_request-le fault.last (group_at s.groups index)) in
    omega arith

credit_received : (s : Tables) (kind : Kind) → outstanding s.groups ≤ 32 → outstanding (after_receive s kind).groups ≤ 32
credit_received s (Response pasid index code) h = let few = outstanding-free s.groups index in omega arith
credit_received s Reset h = let none : outstanding fresh.groups ≡ 0 = refl in omega arith
credit_received s _ h = h

credit_after : (s : Tables) (call : Call) → is_permitted s call ≡ true → outstanding s.groups ≤ 32 → outstanding (after s call).groups ≤ 32
credit_after s (SendFault fault) may h =
    let clear = are_clear (refusals_of_fault s fault) _ may in
    faulted s fault fault.group (ltb-true (outstanding s.groups) 32 (not-false (nat_lt (outstanding s.groups) 32) clear.1.1.0))
credit_after s (Quit pasid) may h = let same = outstanding-stale_of pasid s.groups in omega arith
credit_after s (Receive kind) may h = credit_received s kind h
credit_after s _ may h = h

requested : (s : Tables) (fault : Fault) (group : Option ℕ) → HaveRequests s.groups
    → HaveRequests (set s.groups (index_for s group) (group_after s fault group))
requested s fault None have =
    HaveRequests-set s.groups (index_for s None) (group_of fault.pasid 1 fault.last) have (λ taken. let one =
    requests_of-group_of fault.pasid 1 fault.last in omega arith)
requested s fault (Some index) have =
    HaveRequests-set s.groups index (with_request fault.last (group_at s.groups index)) have
    (requests_of-with_request fault.last (group_at s.groups index) (HaveRequests-at s.groups index have))

requests_received : (s : Tables) (kind : Kind) → HaveRequests s.groups → HaveRequests (after_receive s kind).groups
requests_received s (Response pasid index code) have = HaveRequests-set s.groups index NoGroup have (λ taken. absurd (cc))
requests_received s Reset have = HaveRequests-replicate 32
requests_received s _ have = have

requests_after : (s : Tables) (call : Call) → HaveRequests s.groups → HaveRequests (after s call).groups
requests_after s (SendFault fault) have = requested s fault fault.group have
requests_after s (Quit pasid) have = HaveRequests-stale_of pasid s.groups have
requests_after s (Receive kind) have = requests_received s kind have
requests_after s _ have = have

some_index : (groups : List GroupPlace) → HaveRequests groups → length groups ≡ 32 → outstanding groups < 32 → (o : Option ℕ)
    → position is_free groups ≡ o → IsSome o
some_index groups have long credit None is = absurd (index_with_credit groups have long credit is)
some_index groups have long credit (Some index) is = refl

-- ---- a noted slot has a use that runs

get_or-none : (n k : ℕ) → ◌≡◌ {A = Option Taken} (get_or (replicate n None) k None) None
get_or-none zero k = refl
get_or-none (suc n) zero = refl
get_or-none (suc n) (suc k) = get_or-none n k

-- what is read after a write: what was written, or what was there
set_read : (xs : List (Option Taken)) (i : ℕ) (y : Taken) (k : ℕ) (taken : Taken) → get_or (set xs i (Some y)) k None ≡ Some taken
    → ((k ≡ i) × (y ≡ taken)) ⊎ (get_or xs k None ≡ Some taken)
set_read [] i y k taken is = inr is
set_read (x ∷ xs) zero y zero taken is = let same : y ≡ taken = cc in inl (refl, same)
set_read (x ∷ xs) zero y (suc k) taken is = inr is
set_read (x ∷ xs) (suc i) y zero taken is = inr is
set_read (x ∷ xs) (suc i) y (suc k) taken is = elim (set_read xs i y k taken is) [
  | inl h ↦ inl (ap suc h.0, h.1)
  | inr h ↦ inr h
]

free_runs_nothing : (invalidation : Invalidation) (place : UseSlot) → is_free_slot place ≡ true → runs_covered invalidation place ≡ false
free_runs_nothing invalidation FreeSlot is = refl
free_runs_nothing invalidation (Running running) is = absurd (cc)
free_runs_nothing invalidation Dead is = refl

notes_invalidate : (s : Tables) (itag : ℕ) (invalidation : Invalidation) → NotesRun s → NotesRun (after_invalidate s itag invalidation)
notes_invalidate s itag invalidation notes other slot taken is noted =
    elim (set_read s.taken itag (record { invalidation = invalidation; noted = map (runs_covered invalidation) s.uses }) other taken is) [
      | inl h ↦ subst (λ (t : Taken). get_or t.noted slot false ≡ true → runs_covered t.invalidation (slot_at s.uses slot) ≡ true) h.1
          (λ given. sym (get_or-map (runs_covered invalidation) s.uses slot FreeSlot) ∙ given) noted
      | inr h ↦ notes other slot taken h noted
    ]

notes_received : (s : Tables) (kind : Kind) → NotesRun s → NotesRun (after_receive s kind)
notes_received s (Invalidate itag pasid scope) notes = notes_invalidate s itag (record { pasid = pasid; extent = extent_of scope }) notes
notes_received s Reset notes = λ itag slot taken is noted. absurd (none_there (sym (get_or-none 32 itag) ∙ is))
  where
    none_there : {t : Taken} → ◌≡◌ {A = Option Taken} None (Some t) → ⊥
    none_there wrong = cc
notes_received s _ notes = notes

-- of an invalidation that forgets a slot
forgotten : (other slot : ℕ) (uses : List UseSlot) (place : Option Taken) (taken : Taken)
    → ((t : Taken) → place ≡ Some t → get_or t.noted slot false ≡ true → runs_covered t.invalidation (get_or uses slot FreeSlot) ≡ true)
    → without_note other place ≡ Some taken → get_or taken.noted slot false ≡ true
    → runs_covered taken.invalidation (get_or (set uses other FreeSlot) slot FreeSlot) ≡ true
forgotten other slot uses None taken old is noted = absurd (none_there is)
  where
    none_there : ◌≡◌ {A = Option Taken} None (Some taken) → ⊥
    none_there wrong = cc
forgotten other slot uses (Some t) taken old is noted =
    let same : record t { noted = set t.noted other false } ≡ taken = cc in
    subst (λ (u : Taken). get_or u.noted slot false ≡ true → runs_covered u.invalidation (get_or (set uses other FreeSlot) slot FreeSlot) ≡ true)
    same by noted
  where
    by : get_or (set t.noted other false) slot false ≡ true → runs_covered t.invalidation (get_or (set uses other FreeSlot) slot FreeSlot) ≡ true
    by given =
        let apart : slot ≢ other =
        λ equal. clash (get_or (set t.noted other false) slot false) given (ap (λ k. get_or (set t.noted other false) k false) equal
        ∙ get_or-set_false t.noted other) in
        ap (runs_covered t.invalidation) (get_or-set_other uses other slot FreeSlot FreeSlot apart)
        ∙ old t refl (sym (get_or-set_other t.noted other slot false false apart) ∙ given)

notes_end : (s : Tables) (other : ℕ) → NotesRun s → NotesRun (after s (EndUse other))
notes_end s other notes itag slot taken is noted =
    forgotten other slot s.uses (get_or s.taken itag None) taken (λ t there given. notes itag slot t there given)
    (sym (get_or-map (without_note other) s.taken itag None) ∙ is) noted

still_there : (b : Bool) (place : Option Taken) (taken : Taken) → cond b None place ≡ Some taken → place ≡ Some taken
still_there true place taken is = absurd (none_there is)
  where
    none_there : ◌≡◌ {A = Option Taken} None (Some taken) → ⊥
    none_there wrong = cc
still_there false place taken is = is

notes_after : (s : Tables) (call : Call) → is_permitted s call ≡ true → NotesRun s → NotesRun (after s call)
notes_after s (BeginUse pasid page write) may notes = λ itag slot taken is noted.
    let clear = are_clear (refusals_of_use s pasid page write) _ may in
    let free = lowest is_free_slot s.uses FreeSlot clear.1.1.1.1.0 in
    let old = notes itag slot taken is noted in
    let apart : slot ≢ lowest_slot s = λ same. clash (runs_covered taken.invalidation (slot_at s.uses slot)) old
    (free_runs_nothing taken.invalidation (slot_at s.uses slot) (ap (λ k. is_free_slot (slot_at s.uses k)) same ∙ free.1)) in
    ap (runs_covered taken.invalidation) (get_or-set_other s.uses (lowest_slot s) slot _ FreeSlot apart) ∙ old
notes_after s (EndUse slot) may notes = notes_end s slot notes
notes_after s (Finish vector count) may notes = λ itag slot taken is noted.
    notes itag slot taken (still_there (is_named vector itag) (get_or s.taken itag None) taken (sym (get_or-without_named vector s.taken itag) ∙ is)) noted
notes_after s (Receive kind) may notes = notes_received s kind notes
notes_after s _ may notes = notes

-- ---- together

pub sound_after : (s : Tables) (call : Call) → is_permitted s call ≡ true → IsSound s → IsSound (after s call)
sound_after s call may h =
    let long = groups_after s call h.groups in
    let have = requests_after s call h.requests in
    record {
      pasids = pasids_after s call h.pasids;
      tags = tags_after s call h.tags;
      uses = uses_after s call h.uses;
      taken = taken_after s call h.taken;
      groups = long;
      no_zero = no_zero_after s call h.no_zero;
      cached = cached_after s call h.cached;
      credit = credit_after s call may h.credit;
      requests = have;
      index = λ credit. some_index (after s call).groups have long credit (position is_free (after s call).groups) refl;
      notes = notes_after s call may h.notes;
    }

pub sound_fresh : IsSound fresh
sound_fresh = record {
  pasids = refl;
  tags = refl;
  uses = refl;
  taken = refl;
  groups = refl;
  no_zero = refl;
  cached = let none = len-empty key_cmp Translation in omega arith;
  credit = let none : outstanding fresh.groups ≡ 0 = refl in omega arith;
  requests = HaveRequests-replicate 32;
  index = λ credit. some_index fresh.groups (HaveRequests-replicate 32) refl credit (position is_free fresh.groups) refl;
  notes = λ itag slot taken is noted. absurd (none_there (sym (get_or-none 32 itag) ∙ is));
}
  where
    none_there : {t : Taken} → ◌≡◌ {A = Option Taken} None (Some t) → ⊥
    none_there wrong = cc

sound_run : (s : Tables) (calls : List Call) → ArePermitted s calls → IsSound s → IsSound (run s calls)
sound_run s [] permitted h = h
sound_run s (call ∷ calls) permitted h = sound_run (after s call) calls permitted.1 (sound_after s call permitted.0 h)

pub always_sound : AlwaysSound
always_sound calls permitted = sound_run fresh calls permitted sound_fresh
