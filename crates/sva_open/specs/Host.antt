-- What each act of the host at an endpoint leaves, where it is permitted.
use Rattle.std.specs.Prelude.{ℕ, suc, ◌+◌, ◌==◌, ◌&&◌, ◌||◌, not, nat_le, if◌then◌else◌, Bool, true, false, List, [], ◌∷◌, ◌++◌, filter, length, map}
use Rattle.std.specs.Prelude.{remove, position, slice_get, slice_set, Option, Some, None, is_some}
use Rattle.std.specs.List.{list_any}
use Rattle.sva_step.specs.Limits
use Rattle.sva_open.specs.declared.rows.Row.{Row}
use Rattle.sva_open.specs.declared.messages.Barrier.{Barrier}
use Rattle.sva_open.specs.declared.messages.Message.{Message}
use Rattle.sva_open.specs.declared.messages.Message.TheVariants as message
use Rattle.sva_open.specs.declared.messages.PageRequest.{PageRequest}
use Rattle.sva_open.specs.declared.messages.Sent.{Sent}
use Rattle.sva_open.specs.declared.works.Work.{Work}
use Rattle.sva_open.specs.declared.works.Work.TheVariants.{Use, Taken, Draining}
use Rattle.sva_open.specs.declared.descriptors.Descriptor.{Descriptor}
use Rattle.sva_open.specs.declared.descriptors.Arrived.{Arrived}
use Rattle.sva_open.specs.declared.descriptors.Filed.{Filed}
use Rattle.sva_open.specs.declared.descriptors.Received.{Received}
use Rattle.sva_open.specs.World.{Part, if_so, sent, with_row}
use Rattle.sva_open.specs.Finding.{is_use}
use Rattle.sva_open.specs.Order.{goes_up}
use Rattle.sva_open.specs.Units.{is_drain, is_received, is_wait, is_waiting, taken_out}

-- ---- owners and entries

-- another owner has the PASID: it has no space yet, and what answers the stops of the one before isn't for it
abbrev pub with_next_owner : Row → Row
with_next_owner row = record row { owner = suc row.owner; space = None; answer = None }

-- the entry leads to a space, for the owner that the PASID has
abbrev pub leading_to : Row → (space : ℕ) → Row
leading_to row space = record row { entry = Some (record { space = space; owner = row.owner }); space = Some space }

-- The owner of a PASID is known by its space: where an entry is to lead to another one, the PASID has another owner.
abbrev pub owned_for : Row → (space : ℕ) → Option ℕ → Row
owned_for row space None = row
owned_for row space (Some own) = if own == space then row else with_next_owner row

abbrev pub entered : Row → (space : ℕ) → Row
entered row space = leading_to (owned_for row space row.space) space

abbrev pub set_entry : Part → (pasid space : ℕ) → Option Row → Option Part
set_entry part pasid space None = None
set_entry part pasid space (Some row) = Some (with_row part pasid (entered row space))

-- the same for the owner that the PASID has, whatever space it had
abbrev pub replace : Part → (pasid space : ℕ) → Option Row → Option Part
replace part pasid space None = None
replace part pasid space (Some row) = Some (with_row part pasid (leading_to row space))

abbrev pub clear_entry : Part → (pasid : ℕ) → Option Row → Option Part
clear_entry part pasid None = None
clear_entry part pasid (Some row) = Some (with_row part pasid (record row { entry = None }))

abbrev pub free_pasid : Part → (pasid : ℕ) → Option Row → Option Part
free_pasid part pasid None = None
free_pasid part pasid (Some row) = Some (with_row part pasid (with_next_owner row))

-- ---- messages to the endpoint

abbrev pub start : Part → (pasid : ℕ) → Option Row → Option Part
start part pasid None = None
start part pasid (Some row) = Some (sent part row.owner part.time (message.Start pasid))

-- the answer to an earlier stop isn't the one to this
abbrev pub stop : Part → (pasid : ℕ) → Option Row → Option Part
stop part pasid None = None
stop part pasid (Some row) = Some (sent (with_row part pasid (record row { answer = None })) row.owner part.time (message.Stop pasid))

-- a barrier is known by its name, whoever has its PASID since
abbrev pub barrier : Part → Barrier → Part
barrier part its = sent part 0 part.time (message.Barrier its)

-- a reset is of no PASID
abbrev pub reset : Part → Part
reset part = sent part 0 part.time message.Reset

-- ---- the unit

-- all at once, where the unit is open and its queue has room for all
abbrev pub may_submit : Part → List Descriptor → Bool
may_submit part descriptors = part.is_open && nat_le (length part.queue + length descriptors) Limits.queue_places

abbrev pub submit : Part → List Descriptor → Option Part
submit part descriptors = if_so (may_submit part descriptors) (record part { queue = part.queue ++ descriptors })

-- A unit that is closed has no page request received or queued, and no group filed. What stands in its invalidation queue, and what
-- has left that, stays undone, and is gone when it is opened again: then all ITags are free, and all waits done.
abbrev pub is_drain_of_any : Received → Bool
is_drain_of_any one = not (is_received one)

abbrev pub close : Part → Option Part
close part =
    if_so part.is_open
    (record part { is_open = false; received = filter is_drain_of_any part.received; arrived = []; filed = [] })

abbrev pub reopen : Part → Option Part
reopen part =
    if_so (not part.is_open) (record part { is_open = true; queue = []; issued = []; is_stalled = false; received = [] })

-- The head is taken out of the queue, whatever it is: what it asked for is never done, and a wait is awaited no more. So a driver
-- gets past a descriptor that the unit has refused (Intel VT-d, "Invalidation Queue Error"). What was sent out of order and keeps its
-- place has gone by the head.
abbrev pub skip : Part → Option ℕ → Option Part
skip part None = None
skip part (Some place) = Some (taken_out part place)

-- a unit that has stopped at a time-out goes on, and one whose page request queue has overflowed writes into it again
abbrev pub resume : Part → Part
resume part = record part { is_stalled = false; has_overflowed = false }

-- ---- what the host sees

-- a wait isn't done as long as it stands in the queue, behind an invalidation that has left it, or behind what it drains
abbrev pub is_awaited : Part → (name : ℕ) → Bool
is_awaited part name =
    list_any (is_wait name) part.queue || (list_any (is_waiting name) part.issued || list_any (is_drain name) part.received)

-- was it aborted?
abbrev pub is_aborted : Part → (name : ℕ) → Bool
is_aborted part name = list_any (λ own. own == name) part.aborted

abbrev pub await_wait : Part → (name : ℕ) → Option Part
await_wait part name = if_so (not (is_awaited part name)) part

abbrev pub await_stopped : Part → (pasid : ℕ) → Option Row → Option Part
await_stopped part pasid None = None
await_stopped part pasid (Some row) = if_so (is_some row.answer) (with_row part pasid (record row { answer = None }))

abbrev pub has_arrived : (pasid : ℕ) → Arrived → Bool
has_arrived pasid one = one.request.pasid == pasid

abbrev pub await_queue : Part → Option Part
await_queue part = if_so (length part.arrived == 0) part

abbrev pub await_queue_of : Part → (pasid : ℕ) → Option Part
await_queue_of part pasid = if_so (not (list_any (has_arrived pasid) part.arrived)) part

-- is it a group of the PASID, or of any where none is named?
abbrev pub is_under : Option ℕ → Filed → Bool
is_under None filed = true
is_under (Some pasid) filed = filed.pasid == pasid

abbrev pub is_whole_under : Option ℕ → Filed → Bool
is_whole_under pasid filed = filed.is_whole && is_under pasid filed

abbrev pub is_partial_under : Option ℕ → Filed → Bool
is_partial_under pasid filed = not filed.is_whole && is_under pasid filed

-- Whole groups are what workers have to do: to flush them waits for these, and for no group whose last request hasn't been filed.
abbrev pub await_groups : Part → Option ℕ → Option Part
await_groups part pasid = if_so (not (list_any (is_whole_under pasid) part.filed)) part

-- a reset isn't done as long as it, or its reset-done, is in flight
abbrev pub is_reset : Message → Bool
is_reset message.Reset = true
is_reset message.ResetDone = true
is_reset _ = false

abbrev pub is_of_reset : Sent → Bool
is_of_reset one = is_reset one.message

abbrev pub await_resets : Part → Option Part
await_resets part = if_so (not (list_any is_of_reset part.flight)) part

-- A barrier isn't passed as long as it, or its answer, is in flight, or the endpoint is at it. Those that other threads have sent are
-- for these to await.
abbrev pub is_for : (pasid thread : ℕ) → Barrier → Bool
is_for pasid thread its = (its.pasid == pasid) && ((its.thread == thread) || (its.thread == 0))

abbrev pub brings_one : (pasid thread : ℕ) → Message → Bool
brings_one pasid thread (message.Barrier its) = is_for pasid thread its
brings_one pasid thread (message.Passed its) = is_for pasid thread its
brings_one pasid thread _ = false

abbrev pub is_of_barrier : (pasid thread : ℕ) → Sent → Bool
is_of_barrier pasid thread one = brings_one pasid thread one.message

abbrev pub drains : (pasid thread : ℕ) → Work → Bool
drains pasid thread (Use translation) = false
drains pasid thread (Taken itag scope) = false
drains pasid thread (Draining its) = is_for pasid thread its

abbrev pub await_passed : Part → (pasid thread : ℕ) → Option Part
await_passed part pasid thread =
    if_so (not (list_any (is_of_barrier pasid thread) part.flight || list_any (drains pasid thread) part.works)) part

-- no translation request is out, and no use runs
abbrev pub is_idle : Part → Bool
is_idle part = not (list_any is_some part.requests) && not (list_any is_use part.works)

abbrev pub await_idle : Part → Option Part
await_idle part = if_so (is_idle part) part

-- the endpoint is gone, and nothing that it has sent is on its way up
abbrev pub is_going_up : Sent → Bool
is_going_up one = goes_up one.message

abbrev pub await_gone : Part → Option Part
await_gone part = if_so (part.is_gone && not (list_any is_going_up part.flight)) part

-- ---- page requests

abbrev pub is_group : (pasid index : ℕ) → Filed → Bool
is_group pasid index filed = (filed.pasid == pasid) && (filed.index == index)

-- a page request joins the unfinished group of its PASID and index, or begins one
abbrev pub is_joined : PageRequest → Filed → Bool
is_joined request filed = not filed.is_whole && is_group request.pasid request.index filed

abbrev pub space_of : Option Row → Option ℕ
space_of None = None
space_of (Some row) = row.space

-- a group is served for the owner whose it is, by the space that its PASID had when it was filed
abbrev pub filing : (space : Option ℕ) → Arrived → Filed
filing space one =
    record {
      pasid = one.request.pasid;
      index = one.request.index;
      number = one.number;
      is_whole = one.request.last;
      owner = one.owner;
      space = space;
    }

abbrev pub filed_at : List Filed → Filed → Option ℕ → List Filed
filed_at filed one None = filed ++ one ∷ []
filed_at filed one (Some place) = slice_set filed place one

-- the oldest page request is filed
abbrev pub served : Part → Arrived → (space : Option ℕ) → Part
served part one space =
    record part {
      arrived = remove part.arrived 0;
      filed = filed_at part.filed (filing space one) (position (is_joined one.request) part.filed);
    }

abbrev pub serve : Part → Option Arrived → Option Part
serve part None = None
serve part (Some one) = Some (served part one (space_of (slice_get part.rows one.request.pasid)))

-- a response is sent for the first group that is filed under its PASID and index, which is filed no more; where none is, it is
-- sent for none
abbrev pub responded : Part → (index : ℕ) → (fails : Bool) → (place : ℕ) → Option Filed → Part
responded part index fails place None = sent part 0 0 (message.Response index fails false)
responded part index fails place (Some filed) =
    sent (record part { filed = remove part.filed place }) 0 filed.number (message.Response index fails true)

abbrev pub respond_at : Part → (index : ℕ) → (fails : Bool) → Option ℕ → Part
respond_at part index fails None = sent part 0 0 (message.Response index fails false)
respond_at part index fails (Some place) = responded part index fails place (slice_get part.filed place)

abbrev pub respond : Part → (pasid index : ℕ) → (fails : Bool) → Part
respond part pasid index fails = respond_at part index fails (position (is_group pasid index) part.filed)

-- Each whole group is answered at once, the oldest first; and what isn't whole is dropped, and answered never.
abbrev pub answer_to : (fails : Bool) → Filed → Sent
answer_to fails filed = record { message = message.Response filed.index fails true; owner = 0; number = filed.number }

abbrev pub isnt_whole_under : Option ℕ → Filed → Bool
isnt_whole_under pasid filed = not (is_whole_under pasid filed)

abbrev pub respond_all : Part → Option ℕ → (fails : Bool) → Part
respond_all part pasid fails =
    record part {
      flight = part.flight ++ map (answer_to fails) (filter (is_whole_under pasid) part.filed);
      filed = filter (isnt_whole_under pasid) part.filed;
    }

abbrev pub isnt_partial_under : Option ℕ → Filed → Bool
isnt_partial_under pasid filed = not (is_partial_under pasid filed)

abbrev pub discard : Part → Option ℕ → Part
discard part pasid = record part { filed = filter (isnt_partial_under pasid) part.filed }
