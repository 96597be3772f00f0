-- What holds of an endpoint after every list of permitted calls.
use Rattle.std.specs.Prelude.{◌≡◌, ◌≢◌, ℕ, suc, ◌<◌, ◌≤◌, ◌↔◌, Bool, true, false, List, Option, Some, None, Ok, Err, length, position, slice_index_or, is_ok}
use Rattle.std.specs.Prelude.{IsSome, ◌==◌, ◌&&◌, nat_le, not}
use Rattle.std.specs.List.{list_any}
use Rattle.std.specs.FinMap.{len}
use Rattle.sva_step.specs.Limits
use Rattle.sva_step.specs.declared.answers.Answer.TheVariants.{Dropped, Dead as EndedDead}
use Rattle.sva_step.specs.declared.refusals.Refusal.TheVariants.{InUse}
use Rattle.sva_msg.specs.declared.messages.Scope.{Scope}
use Rattle.sva_msg.specs.declared.messages.Kind.{Kind}
use Rattle.sva_msg.specs.declared.messages.Kind.TheVariants.{Reset, Completion, Invalidate, Response}
use Rattle.sva_endpoint.specs.declared.pasid_states.PasidState.TheVariants.{Off}
use Rattle.sva_endpoint.specs.declared.coverage.Invalidation.{Invalidation}
use Rattle.sva_endpoint.specs.declared.request_tags.RequestTag.{RequestTag}
use Rattle.sva_endpoint.specs.declared.request_tags.RequestTag.TheVariants.{Free, Out, Doomed}
use Rattle.sva_endpoint.specs.declared.use_slots.Use.{Use}
use Rattle.sva_endpoint.specs.declared.use_slots.UseSlot.TheVariants.{Running, Dead as DeadUse}
use Rattle.sva_endpoint.specs.declared.taken_table.Taken.{Taken}
use Rattle.sva_endpoint.specs.declared.groups.GroupPlace.{GroupPlace}
use Rattle.sva_endpoint.specs.declared.groups.GroupPlace.TheVariants.{Free as NoGroup, Collecting, Out as GroupOut, Stale}
use Rattle.sva_endpoint.specs.Coverage.{covers}
use Rattle.sva_msg.specs.Extents.{extent_of}
use Rattle.sva_endpoint.specs.PasidStates.{state_of}
use Rattle.sva_endpoint.specs.RequestTags.{request_at}
use Rattle.sva_endpoint.specs.UseSlots.{slot_at, is_free as is_free_slot, runs_covered}
use Rattle.sva_itags.specs.Vector.{is_named}
use Rattle.sva_endpoint.specs.Groups.{is_free, group_at, outstanding, HaveRequests}
use Rattle.sva_endpoint.specs.Tables.{Tables, fresh}
use Rattle.sva_endpoint.specs.Steps.{ending, finishing}
use Rattle.sva_endpoint.specs.Deliveries.{answer_to}
use Rattle.sva_endpoint.specs.Calls.{Call, EndUse, Finish, Receive, after, run, ArePermitted}

-- ---- the limits

-- a slot that an invalidation noted has a use that runs and that the invalidation covers
abbrev pub NotesRun : Tables → Type 0
NotesRun tables = (itag slot : ℕ) (taken : Taken) → slice_index_or tables.taken itag None ≡ Some taken → slice_index_or taken.noted slot false ≡ true
    → runs_covered taken.invalidation (slot_at tables.uses slot) ≡ true

-- An endpoint keeps within its limits, whose numbers are this project's own: its tables, its cache and its page request allocation
-- (PCI Express Base 5.0, section 10.5.2). And what a taken invalidation notes still runs.
pub record IsSound (tables : Tables) : Type 0 where
  -- a table for the PASIDs 0 to 32, 32 tags, 16 slots, 32 ITags, 32 indexes
  pub pasids : length tables.pasids ≡ suc Limits.pasids
  pub tags : length tables.tags ≡ Limits.request_tags
  pub uses : length tables.uses ≡ Limits.use_slots
  pub taken : length tables.taken ≡ Limits.itags
  pub groups : length tables.groups ≡ Limits.groups
  -- there is no PASID 0
  pub no_zero : state_of tables.pasids 0 ≡ Off
  -- at most 64 translations are cached, each under its own PASID and page
  pub cached : len tables.cache ≤ Limits.cached
  -- at most 32 page requests are outstanding
  pub credit : outstanding tables.groups ≤ Limits.page_requests
  -- a group has a request, so an index is free while fewer are outstanding
  pub requests : HaveRequests tables.groups
  pub index : outstanding tables.groups < Limits.page_requests → IsSome (position is_free tables.groups)
  pub notes : NotesRun tables

-- after every list of permitted calls
abbrev pub AlwaysSound : Type 0
AlwaysSound = (calls : List Call) → ArePermitted fresh calls → IsSound (run fresh calls)

-- ---- requests

-- is it a completion under this tag, or a reset?
abbrev pub ends_request : ℕ → Kind → Bool
ends_request tag Reset = true
ends_request tag (Completion other frame read write) = other == tag
ends_request tag _ = false

-- does the call bring such a message? Nothing else ends a request: an invalidation only dooms it
abbrev pub is_end_of_request : ℕ → Call → Bool
is_end_of_request tag (Receive kind) = ends_request tag kind
is_end_of_request tag _ = false

-- is it the tag of a request for this page, doomed or not?
abbrev pub asks_for : ℕ → ℕ → RequestTag → Bool
asks_for pasid page Free = false
asks_for pasid page (Out asker asked) = (asker == pasid) && (asked == page)
asks_for pasid page (Doomed asker asked) = (asker == pasid) && (asked == page)

-- the tag of a request stays taken until its completion or a reset comes
abbrev pub TagsStayTaken : Type 0
TagsStayTaken = (tables : Tables) (tag pasid page : ℕ) (calls : List Call) → ArePermitted tables calls → list_any (is_end_of_request tag) calls ≡ false
    → asks_for pasid page (request_at tables.tags tag) ≡ true → asks_for pasid page (request_at (run tables calls).tags tag) ≡ true

-- once an invalidation is taken that covers a request that is out, the answer to that request is thrown away, however
-- late it comes; only a reset before it, or an earlier completion under the tag, ends the request
abbrev pub DoomedNeverHeld : Type 0
DoomedNeverHeld = (tables : Tables) (itag tag pasid page : ℕ) (scope : Scope) (invalidation : Invalidation) (calls : List Call) (frame : ℕ) (read write : Bool)
    → extent_of scope ≡ invalidation.extent → request_at tables.tags tag ≡ Out pasid page → covers invalidation pasid page ≡ true
    → let taken = after tables (Receive (Invalidate itag invalidation.pasid scope)) in
    ArePermitted taken calls → list_any (is_end_of_request tag) calls ≡ false
    → let late = run taken calls in
    (answer_to late (Completion tag frame read write) ≡ Dropped) × ((after late (Receive (Completion tag frame read write))).cache ≡ late.cache)

-- ---- invalidations

-- is it a reset, or another invalidation under this ITag?
abbrev pub takes_itag : ℕ → Kind → Bool
takes_itag itag Reset = true
takes_itag itag (Invalidate other pasid scope) = other == itag
takes_itag itag _ = false

-- is it that, or the end of the use in this slot?
abbrev pub ends_wait : ℕ → ℕ → Call → Bool
ends_wait itag slot (EndUse other) = other == slot
ends_wait itag slot (Receive kind) = takes_itag itag kind
ends_wait itag slot _ = false

-- while a use runs that an invalidation covered when it was taken, no completion may name that invalidation; a reset, or
-- another invalidation under the ITag, ends the waiting
abbrev pub FinishWaits : Type 0
FinishWaits = (tables : Tables) (itag slot : ℕ) (running : Use) (scope : Scope) (invalidation : Invalidation) (calls : List Call) (vector count : ℕ)
    → extent_of scope ≡ invalidation.extent → itag < length tables.taken → slot_at tables.uses slot ≡ Running running
    → covers invalidation running.pasid running.page ≡ true
    → let taken = after tables (Receive (Invalidate itag invalidation.pasid scope)) in
    ArePermitted taken calls → list_any (ends_wait itag slot) calls ≡ false
    → let late = run taken calls in
    (slot_at late.uses slot ≡ Running running) × (is_named vector itag ≡ true → is_ok (finishing late vector count) ≡ false)

-- is the slot one of those that an invalidation waits for?
abbrev pub is_noted : ℕ → Option Taken → Bool
is_noted slot None = false
is_noted slot (Some taken) = slice_index_or taken.noted slot false

-- is it the end of the use in this slot?
abbrev pub is_end_of_use : ℕ → Call → Bool
is_end_of_use slot (EndUse other) = other == slot
is_end_of_use slot _ = false

-- is it a reset, another invalidation under this ITag, or a completion that names it?
abbrev pub ends_taking : ℕ → Call → Bool
ends_taking itag (Finish vector count) = is_named vector itag
ends_taking itag (Receive kind) = takes_itag itag kind
ends_taking itag _ = false

-- until it is completed, an invalidation waits for exactly the uses that ran when it was taken, that it covers and that
-- haven't ended since: a use that begins later is none of them. A reset, or another invalidation under the ITag, ends the
-- waiting
abbrev pub NotesExactly : Type 0
NotesExactly = (tables : Tables) (itag slot : ℕ) (scope : Scope) (invalidation : Invalidation) (calls : List Call)
    → extent_of scope ≡ invalidation.extent → itag < length tables.taken
    → let taken = after tables (Receive (Invalidate itag invalidation.pasid scope)) in
    ArePermitted taken calls → list_any (ends_taking itag) calls ≡ false
    → is_noted slot (slice_index_or (run taken calls).taken itag None)
    ≡ (runs_covered invalidation (slot_at tables.uses slot) && not (list_any (is_end_of_use slot) calls))

-- the vector names this ITag and no other
abbrev pub NamesAlone : ℕ → ℕ → Type 0
NamesAlone vector itag = (is_named vector itag ≡ true) × ((other : ℕ) → other ≢ itag → is_named vector other ≡ false)

-- a completion is refused as in use exactly while one of those uses runs, until a reset or another invalidation under the
-- ITag
abbrev pub InUseExactly : Type 0
InUseExactly = (tables : Tables) (itag : ℕ) (scope : Scope) (invalidation : Invalidation) (calls : List Call) (vector count : ℕ)
    → extent_of scope ≡ invalidation.extent → itag < length tables.taken → NamesAlone vector itag
    → let taken = after tables (Receive (Invalidate itag invalidation.pasid scope)) in
    ArePermitted taken calls → list_any (ends_taking itag) calls ≡ false
    → (finishing (run taken calls) vector count ≡ Err InUse)
    ↔ ((slot : ℕ) × (runs_covered invalidation (slot_at tables.uses slot) ≡ true) × (list_any (is_end_of_use slot) calls ≡ false))

-- ---- uses

-- a dead use keeps its slot until it is told of its end
abbrev pub DeadUsesStay : Type 0
DeadUsesStay = (tables : Tables) (slot : ℕ) (calls : List Call) → ArePermitted tables calls → list_any (is_end_of_use slot) calls ≡ false
    → slot_at tables.uses slot ≡ DeadUse → slot_at (run tables calls).uses slot ≡ DeadUse

-- a use that a reset finds is dead from then on, and its end is answered so
abbrev pub ResetsEndUses : Type 0
ResetsEndUses = (tables : Tables) (slot : ℕ) (calls : List Call) → is_free_slot (slot_at tables.uses slot) ≡ false
    → let reset = after tables (Receive Reset) in
    ArePermitted reset calls → list_any (is_end_of_use slot) calls ≡ false
    → let late = run reset calls in
    (slot_at late.uses slot ≡ DeadUse) × (ending late slot ≡ Ok EndedDead)

-- ---- groups

-- is it a response to the group of this index, or a reset?
abbrev pub ends_group : ℕ → Kind → Bool
ends_group index Reset = true
ends_group index (Response pasid other code) = other == index
ends_group index _ = false

-- does the call bring such a message? A PASID that is quit ends no group, it leaves the group stale
abbrev pub is_end_of_group : ℕ → Call → Bool
is_end_of_group index (Receive kind) = ends_group index kind
is_end_of_group index _ = false

-- a stale group keeps its index and its requests until its response or a reset comes
abbrev pub StaleGroupsStay : Type 0
StaleGroupsStay = (tables : Tables) (index pasid requests : ℕ) (calls : List Call) → ArePermitted tables calls → list_any (is_end_of_group index) calls ≡ false
    → group_at tables.groups index ≡ Stale pasid requests → group_at (run tables calls).groups index ≡ Stale pasid requests

-- is it a group of this PASID, with so many requests at least?
abbrev pub is_group : ℕ → ℕ → GroupPlace → Bool
is_group pasid requests NoGroup = false
is_group pasid requests (Collecting sender sent) = (sender == pasid) && nat_le requests sent
is_group pasid requests (GroupOut sender sent) = (sender == pasid) && nat_le requests sent
is_group pasid requests (Stale sender sent) = (sender == pasid) && nat_le requests sent

-- a group has its index until its response or a reset comes, and its requests stay outstanding until then
abbrev pub GroupsStay : Type 0
GroupsStay = (tables : Tables) (index pasid requests : ℕ) (calls : List Call) → ArePermitted tables calls → list_any (is_end_of_group index) calls ≡ false
    → is_group pasid requests (group_at tables.groups index) ≡ true → is_group pasid requests (group_at (run tables calls).groups index) ≡ true
