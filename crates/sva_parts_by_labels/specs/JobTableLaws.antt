-- When the table of jobs is sound, that each of its calls keeps it so, and what an answered job leaves of the open
-- groups, as the definitions by labels say it.
use Rattle.std.specs.Prelude.{◌≡◌, ◌⊎◌, ℕ, ◌+◌, ◌<◌, ◌≤◌, Bool, true, false, ◌==◌, not, Option, Some, None, List, [], ◌∷◌, ◌^◌, filter, find, length}
use Rattle.std.specs.Prelude.{slice_set}
use Rattle.std.specs.List.{count_by, list_any}
use Rattle.sva_step.specs.Limits
use Rattle.sva_model.specs.Wire.{EndpointWire}
use Rattle.sva_labels.specs.Moves.{is_begun, is_of_job}
use Rattle.sva_labels.specs.Outcomes.{asks_of}
use Rattle.sva_labels.specs.Sound.{HasNoJob}
use Rattle.sva_msg.specs.declared.messages.PageRequest.{PageRequest}
use Rattle.sva_prq.specs.Job.{Job}
use Rattle.sva_prq.specs.Groups.{OpenGroup}
use Rattle.sva_prq.specs.JobTable.{JobTable, CanFile, no_jobs, with_room, filed, hand, taken, after_answer, without_unit}
use Rattle.sva_parts_by_labels.specs.JobTable.{groups_seen, job_seen, jobs_seen, hands_seen}

-- among the things of a list
abbrev pub IsIn : {A : Type 0} → A → List A → Type 0
IsIn thing [] = ⊥
IsIn thing (first ∷ rest) = (first ≡ thing) ⊎ IsIn thing rest

-- a job is queued, or in the hand of a worker
abbrev pub IsKept : JobTable → Job → Type 0
IsKept job_table job = IsIn job job_table.jobs ⊎ ((worker : ℕ) × (hand job_table worker ≡ Some job))

-- serials rise from one group to the next, and all are below that of the next group that begins
abbrev pub AreRising : (low next : ℕ) → List OpenGroup → Type 0
AreRising low next [] = low ≤ next
AreRising low next (group ∷ groups) = (low ≤ group.serial) × AreRising (group.serial + 1) next groups

-- a group of the unit, binding and index of a job
pub record IsNamed (group : OpenGroup) (job : Job) : Type 0 where
  pub units : group.unit ≡ job.unit
  pub bindings : group.binding ≡ job.binding
  pub indexes : group.index ≡ job.index

-- a whole group, and the job of it
pub record IsWhole (group : OpenGroup) (job : Job) : Type 0 where
  pub named : IsNamed group job
  pub asks : group.asks ≡ job.asks
  pub last : group.last ≡ true

-- two groups of one unit, binding and index
pub record AreNamesakes (group other : OpenGroup) : Type 0 where
  pub units : group.unit ≡ other.unit
  pub bindings : group.binding ≡ other.binding
  pub indexes : group.index ≡ other.index

-- is it the job of the group with this serial?
abbrev pub is_with : (serial : ℕ) → Job → Bool
is_with serial job = job.serial == serial

-- is such a job in this hand?
abbrev pub holds : (serial : ℕ) → Option Job → Bool
holds serial None = false
holds serial (Some job) = is_with serial job

-- how many jobs are kept with this serial, queued and in hands
abbrev pub jobs_with : (serial : ℕ) → JobTable → ℕ
jobs_with serial job_table = count_by (is_with serial) job_table.jobs + count_by (holds serial) job_table.hands

-- A sound table of jobs of so many workers. Serials tell groups apart, each whole group has one job, and a job's group is the only open one
-- of its unit, binding and index, so that an answer ends the right one.
pub record IsSound (workers : ℕ) (job_table : JobTable) : Type 0 where
  pub rising : AreRising 0 job_table.groups.next job_table.groups.groups
  -- no two unfinished groups share a unit, a binding and an index
  pub single :
      (group other : OpenGroup) → IsIn group job_table.groups.groups → IsIn other job_table.groups.groups → group.last ≡ false → other.last ≡ false
      → AreNamesakes group other
      → group.serial ≡ other.serial
  -- a job's group, if it is still there, is whole and asks what the job asks
  pub jobs : (job : Job) (group : OpenGroup) → IsKept job_table job → IsIn group job_table.groups.groups → group.serial ≡ job.serial → IsWhole group job
  -- and no other open group has its unit, binding and index
  pub own : (job : Job) (group : OpenGroup) → IsKept job_table job → IsIn group job_table.groups.groups → IsNamed group job → group.serial ≡ job.serial
  -- a whole group has a job, and no two jobs share a serial
  pub made : (group : OpenGroup) → IsIn group job_table.groups.groups → group.last ≡ true → (job : Job) × IsKept job_table job × (job.serial ≡ group.serial)
  pub once : (serial : ℕ) → jobs_with serial job_table ≤ 1
  pub given : (job : Job) → IsKept job_table job → job.serial < job_table.groups.next
  -- four hands, of which only those of the workers that there are have jobs
  pub four : length job_table.hands ≡ Limits.most_workers
  pub hands : (worker : ℕ) → workers ≤ worker → hand job_table worker ≡ None

-- An index of a binding is given anew only once its group is answered: where a request begins a group, since no unfinished one has its
-- binding and index, no job of the unit has these, queued or held. By labels, since it is so of every host by the definitions.
abbrev pub BeginsAnew : (workers : ℕ) → JobTable → (unit binding index : ℕ) → Type 0
BeginsAnew workers job_table unit binding index =
    list_any (is_begun binding index) (groups_seen unit job_table.groups) ≡ false
    → HasNoJob (jobs_seen job_table) (hands_seen workers job_table) unit binding index

-- a request may be filed where there is room, a serial is left, and its group by labels has fewer than 32 requests
abbrev pub FilingIsPermitted : Type 0
FilingIsPermitted =
    (job_table : JobTable) (part : EndpointWire) (unit binding : ℕ) (request : PageRequest) → part.host_groups ≡ groups_seen unit job_table.groups
    → 0 < job_table.room → 0 < job_table.groups.room → job_table.groups.next + 1 < 2 ^ 64
    → length (asks_of (find (is_begun binding request.index) part.host_groups)) < Limits.page_requests → CanFile job_table unit binding request

-- Each call keeps a table of jobs sound: a filing where no job is like a group that it begins, a take where the worker's hand is empty.
pub record SoundIsKept : Type 0 where
  pub first : (workers : ℕ) → IsSound workers no_jobs
  pub reserved : (workers : ℕ) (job_table : JobTable) → IsSound workers job_table → IsSound workers (with_room job_table)
  pub filed :
      (workers : ℕ) (job_table : JobTable) (unit binding : ℕ) (request : PageRequest) → IsSound workers job_table
      → BeginsAnew workers job_table unit binding request.index → IsSound workers (filed job_table unit binding request)
  pub taken :
      (workers : ℕ) (job_table : JobTable) (worker : ℕ) → IsSound workers job_table → worker < workers
      → worker < Limits.most_workers → hand job_table worker ≡ None
      → IsSound workers (taken job_table worker)
  pub answered : (workers : ℕ) (job_table : JobTable) (worker : ℕ) → IsSound workers job_table → IsSound workers (after_answer job_table worker)
  pub reset : (workers : ℕ) (job_table : JobTable) (unit : ℕ) → IsSound workers job_table → IsSound workers (without_unit job_table unit)

-- a job is answered, or dropped where its group isn't open any more
pub record AnswerIsSeen (job_table : JobTable) (worker : ℕ) (job : Job) : Type 0 where
  pub answered :
      groups_seen job.unit (after_answer job_table worker).groups
      ≡ filter (λ group. not (is_of_job (job_seen job) group)) (groups_seen job.unit job_table.groups)
  pub others : (other : ℕ) → (other == job.unit) ≡ false → groups_seen other (after_answer job_table worker).groups ≡ groups_seen other job_table.groups
  pub dropped :
      list_any (is_of_job (job_seen job)) (groups_seen job.unit job_table.groups) ≡ false
      → (unit : ℕ) → groups_seen unit (after_answer job_table worker).groups ≡ groups_seen unit job_table.groups

-- An answer at a sound table of jobs ends the open group of the job in the hand, if it is still there, and no other; after it the hand is
-- empty, and the queued jobs are the same.
pub record JobTableAnswers : Type 0 where
  pub groups :
      (workers : ℕ) (job_table : JobTable) (worker : ℕ) (job : Job) → IsSound workers job_table
      → hand job_table worker ≡ Some job → AnswerIsSeen job_table worker job
  pub jobs : (job_table : JobTable) (worker : ℕ) → jobs_seen (after_answer job_table worker) ≡ jobs_seen job_table
  pub hands :
      (workers : ℕ) (job_table : JobTable) (worker : ℕ)
      → hands_seen workers (after_answer job_table worker) ≡ slice_set (hands_seen workers job_table) worker None
