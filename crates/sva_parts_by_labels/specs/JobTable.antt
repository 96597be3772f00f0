-- How the table of jobs is seen by the definitions by labels, and what is looked up and changed there.
use Rattle.std.specs.Prelude.{◌≡◌, ℕ, ◌<◌, false, ◌==◌, not, if◌then◌else◌, Option, Some, None, option_map, List, [], ◌∷◌, ◌++◌, map, filter, take, drop}
use Rattle.std.specs.Prelude.{length, slice_index_or, slice_set}
use Rattle.std.specs.List.{list_any}
use Rattle.sva_model.specs.Wire.{HostGroupWire, EndpointWire, JobWire}
use Rattle.sva_labels.specs.Finding.{has_open_group}
use Rattle.sva_labels.specs.Moves as moves
use Rattle.sva_labels.specs.Outcomes.{job_of}
use Rattle.sva_msg.specs.declared.messages.PageRequest.{PageRequest}
use Rattle.sva_msg.specs.Seen.{page_request_seen}
use Rattle.sva_prq.specs.Job.{Job, ask_seen}
use Rattle.sva_prq.specs.Groups.{OpenGroup, Groups, is_of_unit, is_open}
use Rattle.sva_prq.specs.JobTable.{JobTable, filed, hand, taken, without_unit}

-- a group that the host has open, under the binding by which it is filed; it is whole once its last request is filed
abbrev pub group_seen : OpenGroup → HostGroupWire
group_seen group = record { binding = group.binding; index = group.index; asks = map ask_seen group.asks; is_whole = group.last }

-- those of one unit, in the order in which they began
abbrev pub groups_seen : (unit : ℕ) → Groups → List HostGroupWire
groups_seen unit groups = map group_seen (filter (is_of_unit unit) groups.groups)

-- a job as a worker decides it; the serial by which the table of jobs tells jobs apart isn't seen
abbrev pub job_seen : Job → JobWire
job_seen job = record { endpoint = job.unit; binding = job.binding; index = job.index; asks = map ask_seen job.asks }

-- the jobs that no worker has taken, oldest first
abbrev pub jobs_seen : JobTable → List JobWire
jobs_seen job_table = map job_seen job_table.jobs

-- the hands of the workers that there are, of the four that there can be
abbrev pub hands_seen : (workers : ℕ) → JobTable → List (Option JobWire)
hands_seen workers job_table = take workers (map (option_map job_seen) job_table.hands)

-- an open group of a binding, which is at one unit alone
abbrev pub OpenIsSeen : Type 0
OpenIsSeen =
    (groups : Groups) (part : EndpointWire) (unit binding : ℕ) → part.host_groups ≡ groups_seen unit groups
    → ((other : ℕ) → (other == unit) ≡ false → list_any (λ group. group.binding == binding) (groups_seen other groups) ≡ false)
    → is_open binding groups ≡ has_open_group part binding

-- a page request is filed; if it is the last of its group, the job stands behind all others
pub record FilingIsSeen (job_table : JobTable) (unit binding : ℕ) (request : PageRequest) : Type 0 where
  pub groups :
      groups_seen unit (filed job_table unit binding request).groups ≡ moves.filed binding (page_request_seen request) (groups_seen unit job_table.groups)
  pub others : (other : ℕ) → (other == unit) ≡ false → groups_seen other (filed job_table unit binding request).groups ≡ groups_seen other job_table.groups
  pub jobs :
      (part : EndpointWire) → part.host_groups ≡ groups_seen unit job_table.groups
      → jobs_seen (filed job_table unit binding request)
      ≡ (if request.last then jobs_seen job_table ++ job_of part unit binding (page_request_seen request) ∷ [] else jobs_seen job_table)
  pub hands : (workers : ℕ) → hands_seen workers (filed job_table unit binding request) ≡ hands_seen workers job_table

-- what is queued, what a worker holds, and the oldest job that it takes
pub record TakeIsSeen (job_table : JobTable) (worker : ℕ) : Type 0 where
  pub queued : length (jobs_seen job_table) ≡ length job_table.jobs
  pub held : (workers : ℕ) → worker < workers → slice_index_or (hands_seen workers job_table) worker None ≡ option_map job_seen (hand job_table worker)
  pub groups : (unit : ℕ) → groups_seen unit (taken job_table worker).groups ≡ groups_seen unit job_table.groups
  pub jobs : jobs_seen (taken job_table worker) ≡ drop 1 (jobs_seen job_table)
  pub hands :
      (workers : ℕ) (job : JobWire) (later : List JobWire) → jobs_seen job_table ≡ job ∷ later
      → hands_seen workers (taken job_table worker) ≡ slice_set (hands_seen workers job_table) worker (Some job)

-- a reset of a unit
pub record ResetIsSeen (job_table : JobTable) (unit : ℕ) : Type 0 where
  pub groups : groups_seen unit (without_unit job_table unit).groups ≡ []
  pub others : (other : ℕ) → (other == unit) ≡ false → groups_seen other (without_unit job_table unit).groups ≡ groups_seen other job_table.groups
  pub jobs : jobs_seen (without_unit job_table unit) ≡ filter (λ job. not (job.endpoint == unit)) (jobs_seen job_table)
  pub hands : (workers : ℕ) → hands_seen workers (without_unit job_table unit) ≡ hands_seen workers job_table

-- whatever a table of jobs keeps, it finds open groups, files page requests, hands out jobs and is reset as the definitions by labels have it
pub record JobTableIsSeen : Type 0 where
  pub opens : OpenIsSeen
  pub filed : (job_table : JobTable) (unit binding : ℕ) (request : PageRequest) → FilingIsSeen job_table unit binding request
  pub taken : (job_table : JobTable) (worker : ℕ) → TakeIsSeen job_table worker
  pub reset : (job_table : JobTable) (unit : ℕ) → ResetIsSeen job_table unit
