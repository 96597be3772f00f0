-- What is said of groups of page requests on their way to a response: jobs in hands and in the queue, page requests that aren't filed.
use Rattle.std.specs.Prelude.{ℕ, ◌==◌, ◌&&◌, if◌then◌else◌, Option, Some, None, List, [], ◌++◌, codes, flat_map, is_none}
use Rattle.sva_step.specs.declared.steps.Step.TheVariants as step
use Rattle.sva_model.specs.Wire.{EndpointWire, HostGroupWire, JobWire, PageRequestWire, Wire}
use Rattle.sva_labels.specs.Moves.{is_of_job}
use Rattle.sva_lines.specs.Pieces.{field, line_end, rows}
use Rattle.sva_explain.specs.declared.blockers.levels.Level.{Level}
use Rattle.sva_explain.specs.declared.blockers.link.Topic.TheVariants.{Asks, Responds}
use Rattle.sva_explain.specs.Accepted.{is_accepted}
use Rattle.sva_explain.specs.Lines.{bracket, indent}
use Rattle.sva_explain.specs.Link.{about_lines}
use Rattle.sva_explain.specs.Requests.{invalid_text}

-- `worker 0 has it in hand [answer 0 invalid]`
abbrev pub in_hand_line : Level → Wire → (worker : ℕ) → List ℕ
in_hand_line level wire worker = indent level ++ field (codes "worker ") worker ++ codes " has it in hand" ++ invalid_text wire worker ++ line_end

-- a worker has the job of the group in hand
abbrev pub hand_if : Level → Wire → HostGroupWire → (worker : ℕ) → Option JobWire → List ℕ
hand_if level wire group worker None = []
hand_if level wire group worker (Some job) = if is_of_job job group then in_hand_line level wire worker else []

-- ` [take 0]`, by each worker whose hand is empty, where that is accepted
abbrev pub take_if : Wire → (worker : ℕ) → Option JobWire → List ℕ
take_if wire worker hand = bracket (is_none hand && is_accepted wire (step.Take worker)) (codes " [take ") worker

-- `no worker has taken it [take 0]`
abbrev pub untaken_line : Level → Wire → List ℕ
untaken_line level wire = indent level ++ codes "no worker has taken it" ++ rows (take_if wire) 0 wire.hands ++ line_end

-- its job is queued
abbrev pub job_if : Level → Wire → HostGroupWire → JobWire → List ℕ
job_if level wire group job = if is_of_job job group then untaken_line level wire else []

-- the job of the group: in a hand, or in the job queue
abbrev pub job_lines : Level → Wire → HostGroupWire → List ℕ
job_lines level wire group = rows (hand_if level wire group) 0 wire.hands ++ flat_map (job_if level wire group) wire.jobs

-- `a page request of it waits at unit 0 [serve 0]`
abbrev pub request_line : Level → Wire → (endpoint : ℕ) → List ℕ
request_line level wire endpoint =
    indent level ++ field (codes "a page request of it waits at unit ") endpoint
    ++ bracket (is_accepted wire (step.Serve endpoint)) (codes " [serve ") endpoint ++ line_end

-- a page request of the index waits at the unit
abbrev pub request_if : Level → Wire → (endpoint index : ℕ) → PageRequestWire → List ℕ
request_if level wire endpoint index request = if request.index == index then request_line level wire endpoint else []

-- the page requests of an index that the host hasn't filed: in the page request queue, or on the link
abbrev pub unfiled_lines : Level → Wire → (endpoint : ℕ) → EndpointWire → (index : ℕ) → List ℕ
unfiled_lines level wire endpoint part index =
    flat_map (request_if level wire endpoint index) part.page_queue ++ about_lines level wire endpoint (Asks index)

-- the job of a group that has the index
abbrev pub job_at_if : Level → Wire → (index : ℕ) → HostGroupWire → List ℕ
job_at_if level wire index group = if group.index == index then job_lines level wire group else []

-- where the group of an index stands on the way to its response: its job, its page requests that aren't filed, or the response
abbrev pub on_its_way_lines : Level → Wire → (endpoint : ℕ) → EndpointWire → (index : ℕ) → List ℕ
on_its_way_lines level wire endpoint part index =
    flat_map (job_at_if level wire index) part.host_groups
    ++ unfiled_lines level wire endpoint part index
    ++ about_lines level wire endpoint (Responds index)
