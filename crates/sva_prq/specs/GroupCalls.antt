-- The open groups over every list of calls. A history is the list of the calls so far, the latest first.
use Rattle.std.specs.Prelude.{◌≡◌, ℕ, ◌≤◌, ◌==◌, Bool, true, false, ◌&&◌, ◌||◌, not, if◌then◌else◌, List, [], ◌∷◌, ◌++◌, length, Some, None, All, count_by}
use Rattle.std.specs.Prelude.{◌↔◌}
use Rattle.std.specs.List.{list_any}
use Rattle.sva_step.specs.Limits
use Rattle.sva_msg.specs.declared.messages.PageRequest.{PageRequest}
use Rattle.sva_prq.specs.declared.jobs.Ask.{Ask}
use Rattle.sva_prq.specs.Job.{Job, ask_of}
use Rattle.sva_prq.specs.Groups.{Groups, is_collecting, is_of_serial, no_groups, is_open, CanFile, filed, serial_for, job_made, with_room, after_answer}
use Rattle.sva_prq.specs.Groups.{without_unit}

-- the calls that change the open groups; a `reserve` that memory refuses changes nothing, and is no call here
pub data GroupCall : Type 0 where
  Reserve : (unit : ℕ) → GroupCall
  File : (unit binding : ℕ) (request : PageRequest) → GroupCall
  Answered : (job : Job) → GroupCall
  DropUnit : (unit : ℕ) → GroupCall

-- the open groups after a call
abbrev pub groups_after_call : Groups → GroupCall → Groups
groups_after_call groups (Reserve unit) = with_room groups
groups_after_call groups (File unit binding request) = filed groups unit binding request
groups_after_call groups (Answered job) = after_answer groups job.serial
groups_after_call groups (DropUnit unit) = without_unit groups unit

-- the open groups after a history, from none on
abbrev pub groups_after : List GroupCall → Groups
groups_after [] = no_groups
groups_after (call ∷ earlier) = groups_after_call (groups_after earlier) call

-- each call had its condition
abbrev pub IsGroupHistory : List GroupCall → Type 0
IsGroupHistory [] = Unit {0}
IsGroupHistory (File unit binding request ∷ earlier) =
    CanFile (groups_after earlier) unit binding request.index × IsGroupHistory earlier
IsGroupHistory (_ ∷ earlier) = IsGroupHistory earlier

-- what the requests ask for that were filed under this unit, binding and index, looking back to the last of a group or to
-- the drop of the unit
abbrev pub asks_filed : ℕ → ℕ → ℕ → List GroupCall → List Ask
asks_filed unit binding index [] = []
asks_filed unit binding index (File other_unit other_binding request ∷ earlier) =
    if other_unit == unit && other_binding == binding && request.index == index
    then (if request.last then [] else asks_filed unit binding index earlier ++ ask_of request ∷ [])
    else asks_filed unit binding index earlier
asks_filed unit binding index (DropUnit other_unit ∷ earlier) = if unit == other_unit then [] else asks_filed unit binding index earlier
asks_filed unit binding index (_ ∷ earlier) = asks_filed unit binding index earlier

-- the last request of a group makes a job, and only that. The job names the unit at which its requests came, the binding
-- and the index under which they were filed, and has what they ask for, in order of filing, and the serial of the group to
-- which they went
abbrev pub JobsHoldTheirRequests : Type 0
JobsHoldTheirRequests =
    (history : List GroupCall) (unit binding : ℕ) (request : PageRequest)
    → job_made (groups_after history) unit binding request
    ≡ (if request.last
    then Some (record {
      unit = unit;
      binding = binding;
      index = request.index;
      asks = asks_filed unit binding request.index history ++ ask_of request ∷ [];
      serial = serial_for (groups_after history) unit binding request.index;
    })
    else None)

-- after all permitted calls no group has more than 32 requests
abbrev pub GroupsAreBounded : Type 0
GroupsAreBounded =
    (history : List GroupCall) → IsGroupHistory history → All (λ group. length group.asks ≤ Limits.page_requests) (groups_after history).groups

-- no two unfinished groups share a unit, a binding and an index
abbrev pub UnfinishedGroupsDiffer : Type 0
UnfinishedGroupsDiffer =
    (history : List GroupCall) (unit binding index : ℕ)
    → count_by (is_collecting unit binding index) (groups_after history).groups ≤ 1

-- a request was filed in the group with this serial
abbrev pub was_filed : ℕ → List GroupCall → Bool
was_filed serial [] = false
was_filed serial (File unit binding request ∷ earlier) =
    serial_for (groups_after earlier) unit binding request.index == serial || was_filed serial earlier
was_filed serial (_ ∷ earlier) = was_filed serial earlier

-- a group that begins takes a serial under which no request was filed before, so no job of an earlier group ends it
abbrev pub SerialsAreNew : Type 0
SerialsAreNew =
    (history : List GroupCall) (unit binding index : ℕ)
    → list_any (is_collecting unit binding index) (groups_after history).groups ≡ false
    → was_filed (serial_for (groups_after history) unit binding index) history ≡ false

-- no two open groups share a serial, so the job of a group ends that group and no other
abbrev pub SerialsDiffer : Type 0
SerialsDiffer =
    (history : List GroupCall) (serial : ℕ)
    → count_by (is_of_serial serial) (groups_after history).groups ≤ 1

-- the last request of the group with this serial was filed, so its job was made
abbrev pub was_made : ℕ → List GroupCall → Bool
was_made serial [] = false
was_made serial (File unit binding request ∷ earlier) =
    (serial_for (groups_after earlier) unit binding request.index == serial && request.last) || was_made serial earlier
was_made serial (_ ∷ earlier) = was_made serial earlier

-- a request of this unit and binding was filed in the group with this serial, and since then neither was the job of that
-- group answered nor the unit dropped
abbrev pub is_pending : ℕ → ℕ → ℕ → List GroupCall → Bool
is_pending serial unit binding [] = false
is_pending serial unit binding (Reserve _ ∷ earlier) = is_pending serial unit binding earlier
is_pending serial unit binding (File other_unit other_binding request ∷ earlier) =
    (serial_for (groups_after earlier) other_unit other_binding request.index == serial && other_unit == unit && other_binding == binding)
    || is_pending serial unit binding earlier
is_pending serial unit binding (Answered job ∷ earlier) =
    not (job.serial == serial && was_made serial earlier) && is_pending serial unit binding earlier
is_pending serial unit binding (DropUnit other_unit ∷ earlier) = not (unit == other_unit) && is_pending serial unit binding earlier

-- `open_of` overlooks no group: a binding is open if a request was filed under it, and since then neither was the job of
-- its group answered nor its unit dropped
abbrev pub OpenGroupsAreSeen : Type 0
OpenGroupsAreSeen =
    (history : List GroupCall) (serial unit binding : ℕ)
    → is_pending serial unit binding history ≡ true → is_open binding (groups_after history) ≡ true

-- `open_of` tells exactly whether the binding has a group whose own job isn't answered, and that isn't dropped with its
-- unit, whatever the indexes of the requests
abbrev pub OpenIsExact : Type 0
OpenIsExact =
    (history : List GroupCall) (binding : ℕ)
    → ((is_open binding (groups_after history) ≡ true)
    ↔ ((serial : ℕ) × (unit : ℕ) × (is_pending serial unit binding history ≡ true)))
