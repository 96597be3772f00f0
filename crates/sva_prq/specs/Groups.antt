-- The page request groups that are open at the host: those that are filed in part or whole, and not answered.
use Rattle.std.specs.Prelude.{ℕ, ◌+◌, ◌-◌, ◌^◌, ◌<◌, ◌==◌, Bool, false, ◌&&◌, not, if◌then◌else◌, List, [], ◌∷◌, ◌++◌, length, max, Option, Some, None}
use Rattle.std.specs.Prelude.{MatchOption, unwrap_or, find, filter, count_by}
use Rattle.std.specs.List.{list_any}
use Rattle.sva_msg.specs.declared.messages.PageRequest.{PageRequest}
use Rattle.sva_prq.specs.declared.jobs.Ask.{Ask}
use Rattle.sva_prq.specs.Job.{Job, ask_of}

-- the serial that tells a group from all others, the unit at which the requests came, the binding and the group index
-- under which they are filed, what they ask for in order of filing, and whether the last of them is filed: with it the job
-- is made
pub record OpenGroup : Type 0 where
  pub serial : ℕ
  pub unit : ℕ
  pub binding : ℕ
  pub index : ℕ
  pub asks : List Ask
  pub last : Bool

-- the open groups in the order in which they began, how many more can begin without memory, and the serial of the next
-- one that begins
pub record Groups : Type 0 where
  pub groups : List OpenGroup
  pub room : ℕ
  pub next : ℕ

-- no groups, and no room; serials begin at 0
abbrev pub no_groups : Groups
no_groups = record { groups = []; room = 0; next = 0 }

-- a group of this unit, binding and index whose last request isn't filed
abbrev pub is_collecting : ℕ → ℕ → ℕ → OpenGroup → Bool
is_collecting unit binding index group = group.unit == unit && group.binding == binding && group.index == index && not group.last

-- is it the group with this serial? By it a job leads to its group
abbrev pub is_of_serial : ℕ → OpenGroup → Bool
is_of_serial serial group = group.serial == serial

-- the group with this serial, its job being made
abbrev pub has_job : ℕ → OpenGroup → Bool
has_job serial group = is_of_serial serial group && group.last

-- was the group filed under this binding? While one is open, the PASID of a Draining binding isn't invalidated
abbrev pub is_of_binding : ℕ → OpenGroup → Bool
is_of_binding binding group = group.binding == binding

-- did the requests of the group come at this unit? A reset of the unit drops it
abbrev pub is_of_unit : ℕ → OpenGroup → Bool
is_of_unit unit group = group.unit == unit

-- did the requests of the group come at another unit? A reset of this one leaves it
abbrev pub is_of_other_unit : ℕ → OpenGroup → Bool
is_of_other_unit unit group = not (is_of_unit unit group)

-- a group before its first request is filed
abbrev pub new_group : ℕ → ℕ → ℕ → ℕ → OpenGroup
new_group serial unit binding index =
    record { serial = serial; unit = unit; binding = binding; index = index; asks = []; last = false }

-- a group with one request more
abbrev pub with_request : OpenGroup → PageRequest → OpenGroup
with_request group request = record group { asks = group.asks ++ ask_of request ∷ []; last = request.last }

-- the groups once a request is filed: in the unfinished group of its unit, binding and index, or in a new one with the
-- first of these numbers as its serial
abbrev pub filed_among : ℕ → ℕ → ℕ → PageRequest → List OpenGroup → List OpenGroup
filed_among next unit binding request [] = with_request (new_group next unit binding request.index) request ∷ []
filed_among next unit binding request (group ∷ groups) =
    if is_collecting unit binding request.index group
    then with_request group request ∷ groups
    else group ∷ filed_among next unit binding request groups

-- the same with the room, of which a new group takes one, and the next serial, which a new group takes
abbrev pub filed : Groups → ℕ → ℕ → PageRequest → Groups
filed groups unit binding request =
    record {
      groups = filed_among groups.next unit binding request groups.groups;
      room = if list_any (is_collecting unit binding request.index) groups.groups then groups.room else groups.room - 1;
      next = if list_any (is_collecting unit binding request.index) groups.groups then groups.next else groups.next + 1;
    }

-- what the requests of the unfinished group of this unit, binding and index ask for
abbrev pub unfinished_asks : ℕ → ℕ → ℕ → List OpenGroup → List Ask
unfinished_asks unit binding index groups =
    (unwrap_or (find (is_collecting unit binding index) groups) (new_group 0 unit binding index)).asks

-- the serial of the group to which a request of this unit, binding and index goes
abbrev pub serial_for : Groups → ℕ → ℕ → ℕ → ℕ
serial_for groups unit binding index =
    (unwrap_or (find (is_collecting unit binding index) groups.groups) (new_group groups.next unit binding index)).serial

-- the job of a group whose last request is filed
abbrev pub job_of : OpenGroup → Option Job
job_of group =
    if group.last
    then Some (record { unit = group.unit; binding = group.binding; index = group.index; asks = group.asks; serial = group.serial })
    else None

-- the job that the filing of a request makes, if that is the last of its group
abbrev pub job_made : Groups → ℕ → ℕ → PageRequest → Option Job
job_made groups unit binding request =
    if request.last
    then Some (record {
      unit = unit;
      binding = binding;
      index = request.index;
      asks = unfinished_asks unit binding request.index groups.groups ++ ask_of request ∷ [];
      serial = serial_for groups unit binding request.index;
    })
    else None

-- a request may be filed: a new group has its room, and the serial of the one after it is below 2^64; a group that is there
-- has fewer than 32 requests
abbrev pub CanFile : Groups → ℕ → ℕ → ℕ → Type 0
CanFile groups unit binding index =
    MatchOption (find (is_collecting unit binding index) groups.groups) ((0 < groups.room) × (groups.next + 1 < 2 ^ 64)) (λ group. length group.asks < 32)

-- room for at least one group more
abbrev pub with_room : Groups → Groups
with_room groups = record groups { room = max 1 groups.room }

-- the groups without the one that has this serial and whose job is made
abbrev pub answered_among : ℕ → List OpenGroup → List OpenGroup
answered_among serial [] = []
answered_among serial (group ∷ groups) = if has_job serial group then groups else group ∷ answered_among serial groups

-- the same with the room, of which the ended group gives one back
abbrev pub after_answer : Groups → ℕ → Groups
after_answer groups serial =
    record groups {
      groups = answered_among serial groups.groups;
      room = if list_any (has_job serial) groups.groups then groups.room + 1 else groups.room;
    }

-- no group of the unit is left, and each gives its room back
abbrev pub without_unit : Groups → ℕ → Groups
without_unit groups unit =
    record groups {
      groups = filter (is_of_other_unit unit) groups.groups;
      room = groups.room + count_by (is_of_unit unit) groups.groups;
    }

-- the binding has an open group
abbrev pub is_open : ℕ → Groups → Bool
is_open binding groups = list_any (is_of_binding binding) groups.groups
