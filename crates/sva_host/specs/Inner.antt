-- What a host and its table of jobs are seen as together, and what holds of them.
use Rattle.std.specs.Prelude.{◌≡◌, ℕ, ◌+◌, ◌≤◌, [], length}
use Rattle.sva_model.specs.Wire.{Wire}
use Rattle.sva_labels.specs.Waiting.{waiting}
use Rattle.sva_prq.specs.JobTable.{JobTable, no_jobs}
use Rattle.sva_parts_by_labels.specs.JobTable.{groups_seen}
use Rattle.sva_parts_by_labels.specs.JobTableLaws.{IsSound}
use Rattle.sva_host.specs.Seen.{with_job_table}
use Rattle.sva_host.specs.declared.host.Host.TheInside.{Inside}

-- what contracts see of both: the wire of the host, with the groups, jobs and hands of its table of jobs in it
abbrev pub wire_of : Inside → Wire
wire_of host = with_job_table host.workers host.job_table host.state

-- no group is open at a unit that isn't there
abbrev pub AreHoused : Wire → JobTable → Type 0
AreHoused world job_table = (endpoint : ℕ) → length world.parts ≤ endpoint → groups_seen endpoint job_table.groups ≡ []

-- what always holds of a host and its table of jobs: the host itself keeps no group, job or hand, and each open group is of a unit that it has
pub record IsHost (host : Inside) : Type 0 where
  -- the host alone keeps no group, no job and no hand
  pub apart : host.state ≡ with_job_table host.workers no_jobs host.state
  pub few : host.workers ≤ 4
  pub sound : IsSound host.workers host.job_table
  -- a group takes a serial where its first request is filed, and each request that waits has taken the number of a message: so
  -- no more serials are taken than numbers
  pub serials : host.job_table.groups.next + waiting host.state ≤ host.state.next_message
  pub housed : AreHoused host.state host.job_table
