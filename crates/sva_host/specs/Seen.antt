-- What a host with its table of jobs keeps, by labels. The host alone keeps no open group, no job and no hand: these
-- are the table of jobs's.
use Rattle.std.specs.Prelude.{ℕ, suc, Option, List, [], ◌∷◌}
use Rattle.sva_model.specs.Wire.{Wire, EndpointWire, HostGroupWire, JobWire}
use Rattle.sva_prq.specs.JobTable.{JobTable}
use Rattle.sva_parts_by_labels.specs.JobTable.{groups_seen, jobs_seen, hands_seen}

-- endpoints in their order, each with the groups that are open for it
abbrev pub parts_with : (groups : ℕ → List HostGroupWire) → List EndpointWire → List EndpointWire
parts_with groups [] = []
parts_with groups (part ∷ parts) = record part { host_groups = groups 0 } ∷ parts_with (λ endpoint. groups (suc endpoint)) parts

-- what a table of jobs keeps, by labels: the open groups for each endpoint, the jobs and the hands
pub record JobTableWire : Type 0 where
  pub groups : (endpoint : ℕ) → List HostGroupWire
  pub jobs : List JobWire
  pub hands : List (Option JobWire)

-- that of so many workers
abbrev pub job_table_seen : (workers : ℕ) → JobTable → JobTableWire
job_table_seen workers job_table = record {
  groups = λ endpoint. groups_seen endpoint job_table.groups;
  jobs = jobs_seen job_table;
  hands = hands_seen workers job_table;
}

-- what is kept by a host together with its table of jobs
abbrev pub serving : JobTableWire → Wire → Wire
serving job_table world = record world { parts = parts_with job_table.groups world.parts; jobs = job_table.jobs; hands = job_table.hands }

-- the same, for so many workers
abbrev pub with_job_table : (workers : ℕ) → JobTable → Wire → Wire
with_job_table workers job_table world = serving (job_table_seen workers job_table) world
