-- What is said of groups of page requests that the host has open, and of the job in a worker's hand.
use Rattle.std.specs.Prelude.{ℕ, ◌==◌, ◌&&◌, if◌then◌else◌, Option, Some, None, List, [], ◌++◌, codes, flat_map}
use Rattle.sva_model.specs.Wire.{AskWire, EndpointWire, GroupWire, HostGroupWire, JobWire, PageWire, Wire}
use Rattle.sva_labels.specs.Finding.{group_at, page_at}
use Rattle.sva_labels.specs.Replying.{is_read_only_at, pages_of_job}
use Rattle.sva_lines.specs.Pieces.{field, line_end}
use Rattle.sva_explain.specs.declared.blockers.levels.Level.{Level}
use Rattle.sva_explain.specs.declared.blockers.levels.Level.TheVariants.{First}
use Rattle.sva_explain.specs.Lines.{below, indent}
use Rattle.sva_explain.specs.Requests.{invalid_text}
use Rattle.sva_explain.specs.Jobs.{job_lines, unfiled_lines}
use Rattle.sva_explain.specs.Tables.{unfinished_if}

-- the group that bears the index at the endpoint, if it isn't finished
abbrev pub unfinished_at : Level → Wire → (endpoint : ℕ) → EndpointWire → (index : ℕ) → Option GroupWire → List ℕ
unfinished_at level wire endpoint part index None = []
unfinished_at level wire endpoint part index (Some group) = unfinished_if level wire endpoint part group.pasid index (Some group)

-- where an open group stands: in a hand, in the job queue, in the page request queue, on the link or at the endpoint
abbrev pub where_lines : Level → Wire → (endpoint : ℕ) → EndpointWire → HostGroupWire → List ℕ
where_lines level wire endpoint part group =
    job_lines level wire group
    ++ unfiled_lines level wire endpoint part group.index
    ++ unfinished_at level wire endpoint part group.index (group_at part.device group.index)

-- each open group of a binding (sva_labels/specs/Finding: `has_open_group`)
abbrev pub open_if : Level → Wire → (endpoint : ℕ) → EndpointWire → (binding : ℕ) → HostGroupWire → List ℕ
open_if level wire endpoint part binding group =
    if group.binding == binding
    then indent level ++ field (codes "group ") group.index ++ field (codes " of binding ") group.binding ++ codes " isn't answered" ++ line_end
    ++ where_lines (below level) wire endpoint part group
    else []

abbrev pub open_lines : Level → Wire → (endpoint : ℕ) → EndpointWire → (binding : ℕ) → List ℕ
open_lines level wire endpoint part binding = flat_map (open_if level wire endpoint part binding) part.host_groups

-- each request to write a page that is mapped read-only (sva_labels/specs/Replying: `writes_read_only`)
abbrev pub read_only_if : Wire → (worker : ℕ) → (pages : List PageWire) → AskWire → List ℕ
read_only_if wire worker pages ask =
    if ask.write && is_read_only_at (page_at pages ask.page)
    then indent First ++ field (codes "page ") ask.page ++ codes " is mapped read-only, and a request asks to write it" ++ invalid_text wire worker ++ line_end
    else []

abbrev pub read_only_lines : Wire → (worker : ℕ) → Option JobWire → List ℕ
read_only_lines wire worker None = []
read_only_lines wire worker (Some job) = flat_map (read_only_if wire worker (pages_of_job wire job)) job.asks
