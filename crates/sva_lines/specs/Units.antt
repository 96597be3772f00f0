-- What is said of the units, of jobs and of workers.
use Rattle.std.specs.Prelude.{ℕ, if◌then◌else◌, Option, Some, None, List, [], ◌++◌, codes, flat_map}
use Rattle.sva_model.specs.Wire.{BusyWire, Descriptor, EndpointWire, HostGroupWire, JobWire, PageRequestWire, UnitWire}
use Rattle.sva_model.specs.Wire.Descriptor.{RangeDescriptor, PasidDescriptor, WaitDescriptor}
use Rattle.sva_lines.specs.Pieces.{asks_text, field, head, line_end, padded, range_text, request_text, rows, word_if}
use Rattle.sva_lines.specs.Words.{busy_text}

-- `unit 0      open, waits done below 3`: the wait with a cookie is done where that is below the number
abbrev pub unit_line : (unit : ℕ) → UnitWire → List ℕ
unit_line unit queue =
    head (codes "unit ") unit ++ (if queue.is_open then codes " open" else codes " in reset") ++ field (codes ", waits done below ") queue.front ++ line_end

-- ` page 16 of pasid 1`, ` all pages of pasid 1`, ` wait 3`, ` wait 3 drain`
abbrev pub descriptor_text : Descriptor → List ℕ
descriptor_text (RangeDescriptor pasid range) = range_text range ++ field (codes " of pasid ") pasid
descriptor_text (PasidDescriptor pasid) = field (codes " all pages of pasid ") pasid
descriptor_text (WaitDescriptor cookie drain) = field (codes " wait ") cookie ++ word_if drain (codes " drain")

-- `unit 0      queued page 16 of pasid 1`
abbrev pub queued_line : (unit : ℕ) → Descriptor → List ℕ
queued_line unit descriptor = head (codes "unit ") unit ++ codes " queued" ++ descriptor_text descriptor ++ line_end

-- `unit 0      itag 0 busy, 1 of 3`
abbrev pub busy_lines : (unit itag : ℕ) → Option BusyWire → List ℕ
busy_lines unit itag None = []
busy_lines unit itag (Some busy) = head (codes "unit ") unit ++ field (codes " itag ") itag ++ codes " busy" ++ busy_text busy ++ line_end

-- `unit 0      page-request pasid 1 group 0 page 16 rw last`
abbrev pub request_line : (unit : ℕ) → PageRequestWire → List ℕ
request_line unit request =
    head (codes "unit ") unit ++ codes " page-request"
    ++ request_text request.pasid request.index request.ask.page request.ask.read request.ask.write request.last ++ line_end

-- `unit 0      group 0 binding 0 part: 16 w, 17 r`
abbrev pub filed_line : (unit : ℕ) → HostGroupWire → List ℕ
filed_line unit group =
    head (codes "unit ") unit ++ field (codes " group ") group.index ++ field (codes " binding ") group.binding
    ++ (if group.is_whole then codes " whole" else codes " part") ++ asks_text group.asks ++ line_end

-- a unit: whether it is open, its queue, its ITags, its page requests and the groups that are filed of them
abbrev pub unit_lines : (unit : ℕ) → EndpointWire → List ℕ
unit_lines unit part =
    unit_line unit part.unit
    ++ flat_map (queued_line unit) part.unit.queue
    ++ rows (busy_lines unit) 0 part.unit.busy
    ++ flat_map (request_line unit) part.page_queue
    ++ flat_map (filed_line unit) part.host_groups

-- ` endpoint 0 binding 0 group 0: 16 w`
abbrev pub job_text : JobWire → List ℕ
job_text job =
    field (codes " endpoint ") job.endpoint ++ field (codes " binding ") job.binding ++ field (codes " group ") job.index ++ asks_text job.asks

-- `job         endpoint 0 binding 0 group 0: 16 w`
abbrev pub job_line : JobWire → List ℕ
job_line job = padded (codes "job") ++ job_text job ++ line_end

-- `worker 0    endpoint 0 binding 0 group 0: 16 w`: what the worker has in hand
abbrev pub hand_lines : (worker : ℕ) → Option JobWire → List ℕ
hand_lines worker None = []
hand_lines worker (Some job) = head (codes "worker ") worker ++ job_text job ++ line_end
