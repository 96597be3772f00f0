-- What an endpoint may do, and what each step changes. A step is refused by the first cause in its list that holds. What the test of
-- a step gives is what its call takes, at tables of which the test gives the same still.
use Rattle.std.specs.Prelude.{◌≡◌, ℕ, ◌<◌, ◌^◌, Bool, true, false, List, [], ◌∷◌, map, position, slice_set, Option, Some, None, Result, Ok}
use Rattle.std.specs.Prelude.{is_none, unwrap_or, if◌then◌else◌, ◌==◌, ◌&&◌, ◌||◌, not, nat_lt}
use Rattle.std.specs.List.{list_any, position_or_len}
use Rattle.std.specs.FinMap.{get, remove}
use Rattle.sva_step.specs.Limits
use Rattle.sva_step.specs.declared.refusals.Refusal.{Refusal}
use Rattle.sva_step.specs.declared.refusals.Refusal.TheVariants.{PageRange, NotStarted, NoTag, NotHeld, ReadOnly, NoUseSlot, NoSuchUse, NoCredit}
use Rattle.sva_step.specs.declared.refusals.Refusal.TheVariants.{NoSuchGroup, PriDisabled, NotPending, InUse, BadCount, NotStopping, Busy}
use Rattle.sva_step.specs.declared.answers.Answer.{Answer}
use Rattle.sva_step.specs.declared.answers.Answer.TheVariants.{Ended, Dead}
use Rattle.sva_model.specs.Refusals.{Cause, unless_refused}
use Rattle.sva_endpoint.specs.declared.pasid_states.PasidState.{PasidState}
use Rattle.sva_endpoint.specs.declared.pasid_states.PasidState.TheVariants.{Off}
use Rattle.sva_endpoint.specs.declared.cached.Translation.{Translation}
use Rattle.sva_endpoint.specs.declared.request_tags.RequestTag.TheVariants.{Out}
use Rattle.sva_endpoint.specs.declared.use_slots.Use.{Use}
use Rattle.sva_endpoint.specs.declared.use_slots.UseSlot.{UseSlot}
use Rattle.sva_endpoint.specs.declared.use_slots.UseSlot.TheVariants.{Free as FreeSlot, Running, Dead as DeadUse}
use Rattle.sva_endpoint.specs.declared.groups.GroupPlace.{GroupPlace}
use Rattle.sva_endpoint.specs.declared.permitted.Asking.{Asking}
use Rattle.sva_endpoint.specs.declared.permitted.Using.{Using}
use Rattle.sva_endpoint.specs.declared.permitted.Fault.{Fault}
use Rattle.sva_endpoint.specs.declared.permitted.Faulting.{Faulting}
use Rattle.sva_endpoint.specs.declared.permitted.Finishing.{Finishing}
use Rattle.sva_endpoint.specs.declared.permitted.Quitting.{Quitting}
use Rattle.sva_endpoint.specs.PasidStates.{state_of, with_state, is_on, is_stopping, is_off}
use Rattle.sva_endpoint.specs.RequestTags.{is_free as is_free_tag, asks_under}
use Rattle.sva_endpoint.specs.UseSlots.{is_free as is_free_slot, slot_at, runs_under}
use Rattle.sva_endpoint.specs.Taken.{are_pending, is_one_waiting, without_named, without_note}
use Rattle.sva_endpoint.specs.Groups.{is_free as is_free_index, is_collecting, group_at, group_of, with_request, stale_of, outstanding}
use Rattle.sva_endpoint.specs.Tables.{Tables}

-- the number of a page is below 2^36
abbrev pub is_beyond : ℕ → Bool
is_beyond page = not (nat_lt page (2 ^ 36))

-- ---- to ask for a translation

-- the lowest free request tag, under which the next translation request goes out (PCI Express Base 5.0, section 10.2.2)
abbrev pub lowest_tag : Tables → ℕ
lowest_tag tables = position_or_len is_free_tag tables.tags

-- a translation request needs a page number below 2^36, a PASID that is on, and a free request tag
abbrev pub refusals_of_ask : Tables → ℕ → ℕ → List Cause
refusals_of_ask tables pasid page =
    (is_beyond page, PageRange) ∷ (not (is_on (state_of tables.pasids pasid)), NotStarted) ∷ (is_none (position is_free_tag tables.tags), NoTag) ∷ []

-- the translation request to be sent, with its tag; or why there is none
abbrev pub asking : Tables → ℕ → ℕ → Result Asking Refusal
asking tables pasid page = unless_refused (refusals_of_ask tables pasid page) (record { tag = lowest_tag tables; pasid = pasid; page = page })

-- the request may be sent of these tables: the test gives it
abbrev pub MayAsk : Tables → Asking → Type 0
MayAsk tables permitted = (asking tables permitted.pasid permitted.page ≡ Ok permitted) × (permitted.tag < Limits.request_tags)

-- the request is out: its tag stays taken until its completion, or a reset, comes
abbrev pub after_ask : Tables → ℕ → ℕ → Tables
after_ask tables pasid page = record tables { tags = slice_set tables.tags (lowest_tag tables) (Out pasid page) }

-- ---- to begin a use of a cached translation, and to end it

-- the lowest free use slot, in which the next use begins
abbrev pub lowest_slot : Tables → ℕ
lowest_slot tables = position_or_len is_free_slot tables.uses

-- the cached translation of a page
abbrev pub translation_at : Tables → ℕ → ℕ → Translation
translation_at tables pasid page = unwrap_or (get tables.cache (pasid, page)) (record { frame = 0; write = false })

-- a use needs a PASID that is on, a held translation of the page, which has the bit W set where the use is to write (PCI Express
-- Base 5.0, sections 10.2.1 and 10.2.3), and a free slot
abbrev pub refusals_of_use : Tables → ℕ → ℕ → Bool → List Cause
refusals_of_use tables pasid page write =
    (is_beyond page, PageRange) ∷ (not (is_on (state_of tables.pasids pasid)), NotStarted) ∷ (is_none (get tables.cache (pasid, page)), NotHeld)
    ∷ (write && not (translation_at tables pasid page).write, ReadOnly) ∷ (is_none (position is_free_slot tables.uses), NoUseSlot) ∷ []

-- a use of the held translation: it has the write flag of that, whatever the step asked
abbrev pub use_of : Tables → ℕ → ℕ → Use
use_of tables pasid page =
    record { pasid = pasid; page = page; frame = (translation_at tables pasid page).frame; write = (translation_at tables pasid page).write }

-- a use that may begin, with its slot; or why none may
abbrev pub using : Tables → ℕ → ℕ → Bool → Result Using Refusal
using tables pasid page write =
    unless_refused (refusals_of_use tables pasid page write) (record { slot = lowest_slot tables; begun = use_of tables pasid page })

-- the use may begin at these tables: the test gives it, at least where only reading is asked
abbrev pub MayBeginUse : Tables → Using → Type 0
MayBeginUse tables permitted = (using tables permitted.begun.pasid permitted.begun.page false ≡ Ok permitted) × (permitted.slot < Limits.use_slots)

-- the use runs in the lowest free slot
abbrev pub after_begin_use : Tables → ℕ → ℕ → Tables
after_begin_use tables pasid page = record tables { uses = slice_set tables.uses (lowest_slot tables) (Running (use_of tables pasid page)) }

-- what the end of a use is answered: `dead` where a reset has ended it before
abbrev pub end_of : UseSlot → Answer
end_of FreeSlot = Ended
end_of (Running running) = Ended
end_of DeadUse = Dead

-- only a slot that no use has is refused: a running use may end at any time, and a dead one may too
abbrev pub refusals_of_end : Tables → ℕ → List Cause
refusals_of_end tables slot = (is_free_slot (slot_at tables.uses slot), NoSuchUse) ∷ []

-- the answer to the end of the use in this slot, or its refusal
abbrev pub ending : Tables → ℕ → Result Answer Refusal
ending tables slot = unless_refused (refusals_of_end tables slot) (end_of (slot_at tables.uses slot))

-- the slot is free, and no taken invalidation waits for that use any longer (PCI Express Base 5.0, section 10.3.3)
abbrev pub after_end_use : Tables → ℕ → Tables
after_end_use tables slot = record tables { uses = slice_set tables.uses slot FreeSlot; taken = map (without_note slot) tables.taken }

-- ---- to let go of a cached translation

-- a held translation may go whatever the state of its PASID is: on, stopping or off
abbrev pub refusals_of_evict : Tables → ℕ → ℕ → List Cause
refusals_of_evict tables pasid page = (is_beyond page, PageRange) ∷ (is_none (get tables.cache (pasid, page)), NotHeld) ∷ []

-- a held translation may go, and nothing is sent of that (PCI Express Base 5.0, section 10.1); or why it may not
abbrev pub evicting : Tables → ℕ → ℕ → Result (Unit {0}) Refusal
evicting tables pasid page = unless_refused (refusals_of_evict tables pasid page) tt

-- the page isn't held under the PASID any longer. A use that began through it runs on (this project's own rule)
abbrev pub after_evict : Tables → ℕ → ℕ → Tables
after_evict tables pasid page = record tables { cache = remove tables.cache (pasid, page) }

-- ---- to send a page request: the first of a new group, or one more of an unfinished group

-- a new group needs a PASID that is on; an unfinished group goes on while its PASID stops
abbrev pub may_send : Option ℕ → PasidState → Bool
may_send None state = is_on state
may_send (Some index) state = not (is_off state)

-- may the request join its group? Each may begin a new one; an unfinished one has to be of the same PASID
abbrev pub is_of_group : Tables → ℕ → Option ℕ → Bool
is_of_group tables pasid None = true
is_of_group tables pasid (Some index) = is_collecting pasid (group_at tables.groups index)

-- the Page Request Group Index of the request: the lowest free one where it begins a group, else that of the group
abbrev pub index_for : Tables → Option ℕ → ℕ
index_for tables None = position_or_len is_free_index tables.groups
index_for tables (Some index) = index

-- a page request needs a page number below 2^36, a PASID under which it may go out, fewer than 32 requests outstanding (PCI Express
-- Base 5.0, section 10.5.2), a group that it may join, and an enabled page request interface
abbrev pub refusals_of_fault : Tables → Fault → List Cause
refusals_of_fault tables fault =
    (is_beyond fault.page, PageRange) ∷ (not (may_send fault.group (state_of tables.pasids fault.pasid)), NotStarted)
    ∷ (not (nat_lt (outstanding tables.groups) Limits.page_requests), NoCredit)
    ∷ (not (is_of_group tables fault.pasid fault.group), NoSuchGroup) ∷ (not tables.enabled, PriDisabled) ∷ []

-- the page request to be sent, with its group index (PCI Express Base 5.0, section 10.4.1), and whether it begins a group; or why there is none
abbrev pub faulting : Tables → Fault → Result Faulting Refusal
faulting tables fault =
    unless_refused (refusals_of_fault tables fault)
    (record {
      begins = is_none fault.group;
      request = record {
        pasid = fault.pasid;
        index = index_for tables fault.group;
        page = fault.page;
        read = fault.read;
        write = fault.write;
        last = fault.last;
      };
    })

-- what was asked for by a page request that the test has given
abbrev pub fault_of : Faulting → Fault
fault_of permitted =
    record {
      pasid = permitted.request.pasid;
      page = permitted.request.page;
      read = permitted.request.read;
      write = permitted.request.write;
      group = if permitted.begins then None else Some permitted.request.index;
      last = permitted.request.last;
    }

-- the page request may be sent of these tables: the test gives it
abbrev pub MayFault : Tables → Faulting → Type 0
MayFault tables permitted = (faulting tables (fault_of permitted) ≡ Ok permitted) × (permitted.request.index < Limits.groups)

-- the group of the request once that is sent: with the bit L set it is finished, and awaits its response
abbrev pub group_after : Tables → Fault → Option ℕ → GroupPlace
group_after tables fault None = group_of fault.pasid 1 fault.last
group_after tables fault (Some index) = with_request fault.last (group_at tables.groups index)

-- the request is outstanding, in a group that has its index until the response, or a reset, comes
abbrev pub after_fault : Tables → Fault → Tables
after_fault tables fault = record tables { groups = slice_set tables.groups (index_for tables fault.group) (group_after tables fault fault.group) }

-- ---- to complete invalidations

-- completions need a vector that names an ITag, and none without a taken invalidation; no running use that one of these noted;
-- and a count that the Completion Count field can tell, 1 to 8 (PCI Express Base 5.0, sections 10.3.2 and 10.3.3)
abbrev pub refusals_of_finish : Tables → ℕ → ℕ → List Cause
refusals_of_finish tables vector count =
    ((vector == 0) || not (are_pending vector tables.taken), NotPending) ∷ (is_one_waiting vector tables.taken, InUse)
    ∷ ((count == 0) || nat_lt Limits.most_completions count, BadCount) ∷ []

-- the vector of the Invalidate Completions to be sent, and how many; or why there is none
abbrev pub finishing : Tables → ℕ → ℕ → Result Finishing Refusal
finishing tables vector count = unless_refused (refusals_of_finish tables vector count) (record { vector = vector; count = count })

-- the invalidations may be completed at these tables: the test gives it
abbrev pub MayFinish : Tables → Finishing → Type 0
MayFinish tables permitted = finishing tables permitted.vector permitted.count ≡ Ok permitted

-- what the vector names is completed, so that the endpoint has no taken invalidation under those ITags any more
abbrev pub after_finish : Tables → ℕ → Tables
after_finish tables vector = record tables { taken = without_named vector tables.taken }

-- ---- to stop using a PASID

-- is there under the PASID an unfinished group, a request tag that is taken (a doomed request counts), or a running use?
abbrev pub is_busy : Tables → ℕ → Bool
is_busy tables pasid = list_any (is_collecting pasid) tables.groups || (list_any (asks_under pasid) tables.tags || list_any (runs_under pasid) tables.uses)

-- a PASID can be quit once its stop has come and the endpoint has nothing unfinished under it (this project's own rule)
abbrev pub refusals_of_quit : Tables → ℕ → List Cause
refusals_of_quit tables pasid = (not (is_stopping (state_of tables.pasids pasid)), NotStopping) ∷ (is_busy tables pasid, Busy) ∷ []

-- the PASID of the marker to be sent, by which the endpoint says that no request follows under it (Stop Marker: PCI Express Base 5.0,
-- section 10.4.1); or why there is none
abbrev pub quitting : Tables → ℕ → Result Quitting Refusal
quitting tables pasid = unless_refused (refusals_of_quit tables pasid) (record { pasid = pasid })

-- the PASID may be quit at these tables: the test gives it
abbrev pub MayQuit : Tables → Quitting → Type 0
MayQuit tables permitted = quitting tables permitted.pasid ≡ Ok permitted

-- the PASID is off, and its groups that await their response are stale
abbrev pub after_quit : Tables → ℕ → Tables
after_quit tables pasid = record tables { pasids = with_state tables.pasids pasid Off; groups = map (stale_of pasid) tables.groups }
