-- The page request groups that are open at the host, the jobs that are queued, and those in hands of workers.
use Rattle.std.specs.Prelude.{◌≡◌, ℕ, ◌+◌, ◌-◌, ◌<◌, ◌==◌, Bool, true, not, if◌then◌else◌, List, [], ◌∷◌, ◌++◌, drop, max, Option, Some, None, filter}
use Rattle.std.specs.Prelude.{count_by, slice_get, slice_index_or, slice_set, option_to_list}
use Rattle.sva_msg.specs.declared.messages.PageRequest.{PageRequest}
use Rattle.sva_prq.specs.Job.{Job}
use Rattle.sva_prq.specs.Groups as groups

-- the open groups; the jobs that no worker has taken, in the order in which they were made; how many jobs more can be
-- queued without memory; and the hands of the four workers that there can be, each with a job or empty
pub record JobTable : Type 0 where
  pub groups : groups.Groups
  pub jobs : List Job
  pub room : ℕ
  pub hands : List (Option Job)

-- no groups, no jobs, no room, and empty hands
abbrev pub no_jobs : JobTable
no_jobs = record { groups = groups.no_groups; jobs = []; room = 0; hands = None ∷ None ∷ None ∷ None ∷ [] }

-- room for at least one group and one job more
abbrev pub with_room : JobTable → JobTable
with_room job_table = record job_table { groups = groups.with_room job_table.groups; room = max 1 job_table.room }

-- a page request may be filed: the groups may have it, and if it is the last of its group, the job has room
pub record CanFile (job_table : JobTable) (unit binding : ℕ) (request : PageRequest) : Type 0 where
  pub group : groups.CanFile job_table.groups unit binding request.index
  pub job : request.last ≡ true → 0 < job_table.room

-- once a page request is filed; the last of a group makes its job, which goes behind all others
abbrev pub filed : JobTable → (unit binding : ℕ) → PageRequest → JobTable
filed job_table unit binding request =
    record job_table {
      groups = groups.filed job_table.groups unit binding request;
      jobs = job_table.jobs ++ option_to_list (groups.job_made job_table.groups unit binding request);
      room = if request.last then job_table.room - 1 else job_table.room;
    }

-- the job in a worker's hand
abbrev pub hand : JobTable → (worker : ℕ) → Option Job
hand job_table worker = slice_index_or job_table.hands worker None

-- once a worker has the oldest job in its hand
abbrev pub taken : JobTable → (worker : ℕ) → JobTable
taken job_table worker = record job_table {
  jobs = drop 1 job_table.jobs;
  room = job_table.room + 1;
  hands = slice_set job_table.hands worker (slice_get job_table.jobs 0);
}

-- once the job in a worker's hand is answered: its group is at its end, if it is still there, and the hand is empty
abbrev pub after_answer_of : JobTable → (worker : ℕ) → Option Job → JobTable
after_answer_of job_table worker None = job_table
after_answer_of job_table worker (Some job) =
    record job_table { groups = groups.after_answer job_table.groups job.serial; hands = slice_set job_table.hands worker None }

-- the same for whatever is in the hand; an empty one has nothing to answer
abbrev pub after_answer : JobTable → (worker : ℕ) → JobTable
after_answer job_table worker = after_answer_of job_table worker (hand job_table worker)

-- a job of another unit
abbrev pub is_job_of_other_unit : (unit : ℕ) → Job → Bool
is_job_of_other_unit unit job = not (job.unit == unit)

-- did the page requests of the job come at this unit? A reset of the unit takes such a job out of the queue
abbrev pub is_job_of_unit : (unit : ℕ) → Job → Bool
is_job_of_unit unit job = job.unit == unit

-- no group and no queued job of the unit is left. A job in a hand stays
abbrev pub without_unit : JobTable → (unit : ℕ) → JobTable
without_unit job_table unit =
    record job_table {
      groups = groups.without_unit job_table.groups unit;
      jobs = filter (is_job_of_other_unit unit) job_table.jobs;
      room = job_table.room + count_by (is_job_of_unit unit) job_table.jobs;
    }
