-- What a step answers and moves where nothing refuses it, read off what a host keeps: numbers and labels alone. It is the
-- outcome of the definitions, case by case.
use Rattle.std.specs.Prelude.{ℕ, suc, ◌+◌, ◌^◌, Bool, true, false, ◌&&◌, ◌||◌, not, ◌==◌, nat_le, if◌then◌else◌, is_some, Option, Some, None, List}
use Rattle.std.specs.Prelude.{[], ◌∷◌, ◌++◌, length, slice_index_or}
use Rattle.std.specs.List.{count_by, find}
use Rattle.sva_step.specs.declared.answers.Answer.{Answer}
use Rattle.sva_step.specs.declared.answers.Answer.TheVariants as answer
use Rattle.sva_step.specs.declared.steps.Step.{Step}
use Rattle.sva_step.specs.declared.steps.Step.TheVariants as step
use Rattle.sva_step.specs.declared.steps.Verdict.{Verdict}
use Rattle.sva_step.specs.Limits
use Rattle.sva_model.specs.Words.{any_below, count_below}
use Rattle.sva_model.specs.Message.{Code, Message}
use Rattle.sva_model.specs.Message.Message.{StartMessage, StopMessage, ResetMessage, CompletionMessage, InvalidateMessage, ResponseMessage, RequestMessage}
use Rattle.sva_model.specs.Message.Message.{InvalidatedMessage, PageRequestMessage, MarkerMessage, ResetDoneMessage}
use Rattle.sva_model.specs.States.{Extent}
use Rattle.sva_model.specs.States.Extent.{Pages, AllPages}
use Rattle.sva_model.specs.Labels
use Rattle.sva_model.specs.Outcomes.{unmap_answer, unmap_range_answer, response_answer, code_answer}
use Rattle.sva_model.specs.Wire.{Wire, PageWire, PlaceWire, BindingWire, StageWire, EndpointWire, DeviceWire, UnitWire, RequestWire, TranslationWire, UseWire}
use Rattle.sva_model.specs.Wire.{GroupWire, BusyWire, Descriptor, AskWire, PageRequestWire, HostGroupWire, JobWire, FlightWire}
use Rattle.sva_model.specs.Wire.PlaceWire.{FreeWire, MappedWire, WithheldWire}
use Rattle.sva_model.specs.Wire.StageWire.{StoppingWire, DrainingWire, InvalidatingWire, LostWire}
use Rattle.sva_model.specs.Wire.UseWire.{RunningWire}
use Rattle.sva_model.specs.Wire.BusyWire.{Fresh, Counting}
use Rattle.sva_model.specs.Wire.Descriptor.{RangeDescriptor, PasidDescriptor, WaitDescriptor}
pub use Rattle.sva_labels.specs.Places.{count_read}
use Rattle.sva_labels.specs.Finding.{pages_in, page_at, is_mapped, frames_of, lowest_free, free_from, binding_of, bearer, pasid_for, is_live, part_of}
use Rattle.sva_labels.specs.Finding.{device_of, unit_of, lowest_label, is_some_busy, cached, is_at_page, use_at, tag_at, group_at, busy_at, held_by}
use Rattle.sva_labels.specs.Finding.{flight_of}
use Rattle.sva_labels.specs.Replying.{response_to, replies_success, newly_mapped, is_write_asked, space_of_job}
use Rattle.sva_labels.specs.Moves.{Move, targets_of, pasid_or_0, extent_in, is_begun}

-- what is answered, and what is moved
pub record Result : Type 0 where
  pub answer : Answer
  pub moves : List Move

-- an answer with its moves
abbrev pub says : Answer → List Move → Result
says said moves = record { answer = said; moves = moves }

-- one move alone
abbrev pub by_one : Answer → Move → Result
by_one said move = says said (move ∷ [])

-- the label that is there; 0 where none is
abbrev pub label : Option ℕ → ℕ
label None = 0
label (Some there) = there

-- The host.

-- is there something to wait for, where pages of a space are taken out?
abbrev pub waits : Wire → (space : ℕ) → Bool
waits wire space = any_below Limits.most_endpoints (λ endpoint. is_some (slice_index_or (targets_of wire space) endpoint None))

-- an unmapping of single pages, each a range of one: the answer tells their frames, and whether they are withheld or free
abbrev pub unmap_result : Wire → (space page count : ℕ) → Result
unmap_result wire space page count = by_one (unmap_answer (waits wire space) (frames_of (pages_in wire space) page count)) (Move.Unmap space page count 0)

-- an unmapping of the mapped pages of one range: the answer tells how many they are, and whether their frames are withheld or free
abbrev pub unmap_range_result : Wire → (space page order : ℕ) → Result
unmap_range_result wire space page order =
    by_one
    (unmap_range_answer (waits wire space) (count_below (2 ^ order) (λ offset. is_mapped (pages_in wire space) (page + offset))))
    (Move.Unmap space page 1 order)

-- a binding begins under the PASID that its space is given, and its Start is sent
abbrev pub bind_result : Wire → (endpoint space pasid : ℕ) → Result
bind_result wire endpoint space pasid = says (answer.Binding wire.next_binding pasid) (Move.NewBinding ∷ Move.Bind endpoint space wire.next_binding pasid ∷ [])

-- a binding is told to stop; a Lost one is quiet at once
abbrev pub unbind_by : BindingWire → StageWire → Result
unbind_by binding LostWire = by_one answer.Quiet (Move.Quieten binding.binding)
unbind_by binding stage = by_one answer.Stopping (Move.Stop binding.endpoint binding.binding binding.pasid)

-- a binding goes to its next stage: Draining, Invalidating and Quiet one after another, and is released at last
abbrev pub advance_by : BindingWire → StageWire → Result
advance_by binding (StoppingWire marked) = by_one answer.Draining (Move.Drain binding.endpoint binding.binding)
advance_by binding (DrainingWire cookie) = by_one answer.Invalidating (Move.Invalidate binding.endpoint binding.binding binding.pasid)
advance_by binding (InvalidatingWire cookie) = by_one answer.Quiet (Move.Quieten binding.binding)
advance_by binding stage = by_one answer.Released (Move.Release binding.binding)

-- a step of a binding; none is accepted where it isn't there
abbrev pub of_binding : (BindingWire → Result) → Option BindingWire → Result
of_binding result None = says answer.Dropped []
of_binding result (Some binding) = result binding

-- The unit.

-- the wait at the head is done, or blocks
abbrev pub wait_result : (endpoint cookie : ℕ) → Bool → Result
wait_result endpoint cookie true = by_one answer.WaitDone (Move.Pass endpoint cookie)
wait_result endpoint cookie false = says answer.Blocked []

-- the invalidation at the head is sent under the lowest free ITag, or blocks for want of one (PCI Express Base 5.0, section 10.3.1)
abbrev pub send_result : (endpoint pasid : ℕ) → Extent → Option ℕ → Result
send_result endpoint pasid extent None = says answer.Blocked []
send_result endpoint pasid extent (Some itag) = by_one (answer.Itag itag) (Move.Send endpoint itag pasid extent)

-- a wait is taken where no ITag is busy and, if it drains, the page request queue is empty
abbrev pub may_pass : EndpointWire → Bool → Bool
may_pass part drain = not (is_some_busy part.unit) && (not drain || length part.page_queue == 0)

-- a turn of the invalidation queue, by its head (Intel VT-d, "Queued Invalidation Interface"): idle where nothing is queued
abbrev pub pump_result : EndpointWire → (endpoint : ℕ) → List Descriptor → Result
pump_result part endpoint [] = says answer.Idle []
pump_result part endpoint (RangeDescriptor pasid range ∷ queue) = send_result endpoint pasid (Pages range) (lowest_label part.unit.busy)
pump_result part endpoint (PasidDescriptor pasid ∷ queue) = send_result endpoint pasid AllPages (lowest_label part.unit.busy)
pump_result part endpoint (WaitDescriptor cookie drain ∷ queue) = wait_result endpoint cookie (may_pass part drain)

-- what the requests of a group ask that is begun, in order of filing
abbrev pub asks_of : Option HostGroupWire → List AskWire
asks_of None = []
asks_of (Some group) = group.asks

-- the job that a group becomes as its last page request is filed: it asks for what those before asked, and for what this one asks
abbrev pub job_of : EndpointWire → (endpoint binding : ℕ) → PageRequestWire → JobWire
job_of part endpoint binding request =
    record {
      endpoint = endpoint;
      binding = binding;
      index = request.index;
      asks = asks_of (find (is_begun binding request.index) part.host_groups) ++ request.ask ∷ [];
    }

-- a page request is filed under a binding; the last one of its group makes the group a job
abbrev pub file_result : EndpointWire → (endpoint binding : ℕ) → PageRequestWire → Bool → Result
file_result part endpoint binding request true = says answer.Job (Move.File endpoint binding request ∷ Move.NewJob (job_of part endpoint binding request) ∷ [])
file_result part endpoint binding request false = by_one answer.Part (Move.File endpoint binding request)

-- the number of the binding that was found; 0 where none was
abbrev pub binding_or_0 : Option BindingWire → ℕ
binding_or_0 None = 0
binding_or_0 (Some binding) = binding.binding

-- the head of the page request queue is filed under the binding that bears its PASID
abbrev pub serve_result : Wire → EndpointWire → (endpoint : ℕ) → List PageRequestWire → Result
serve_result wire part endpoint [] = says answer.Empty []
serve_result wire part endpoint (request ∷ queue) = file_result part endpoint (binding_or_0 (bearer wire endpoint request.pasid)) request request.last

-- Jobs.

-- a worker takes the oldest job; where there is none the step is refused
abbrev pub take_result : (worker : ℕ) → List JobWire → Result
take_result worker [] = says answer.Dropped []
take_result worker (job ∷ jobs) =
    says (answer.JobTaken job.binding job.index (length job.asks)) (Move.Hand ∷ Move.Hold worker job ∷ [])

-- each page to a frame, in order
abbrev pub maps_to : (space : ℕ) → List AskWire → List ℕ → List ℕ → List Move
maps_to space asks (page ∷ pages) (frame ∷ frames) = Move.Map space page frame (is_write_asked asks page) ∷ maps_to space asks pages frames
maps_to space asks _ _ = []

-- the pages that a reply maps, to the lowest free frames: none but by success
abbrev pub reply_maps : Wire → JobWire → Verdict → List Move
reply_maps wire job verdict =
    if replies_success wire job verdict then maps_to (space_of_job wire job) job.asks (newly_mapped wire job) (free_from 0 wire.places) else []

-- a reply, by the code of its response: what it maps, and the response; where none is sent the job is dropped
abbrev pub reply_by : Wire → (worker : ℕ) → JobWire → List Move → Option Code → Result
reply_by wire worker job maps None = says answer.Dropped (Move.LetGo worker ∷ Move.Discard ∷ [])
reply_by wire worker job maps (Some code) =
    says (code_answer (length maps) code) (maps ++ Move.LetGo worker ∷ Move.Respond job (pasid_or_0 (binding_of wire job.binding)) code ∷ [])

-- a worker's reply to the job that it holds; where it holds none the step is refused
abbrev pub reply_result : Wire → (worker : ℕ) → Verdict → Option JobWire → Result
reply_result wire worker verdict None = says answer.Dropped []
reply_result wire worker verdict (Some job) = reply_by wire worker job (reply_maps wire job verdict) (response_to wire job verdict)

-- The endpoint.

-- a use begins in the slot, with a copy of the cached translation; where none is cached the step is refused
abbrev pub begin_result : (endpoint slot : ℕ) → Option TranslationWire → Result
begin_result endpoint slot None = says answer.Dropped []
begin_result endpoint slot (Some translation) = by_one (answer.Use slot translation.frame) (Move.Begin endpoint slot translation)

-- what the end of a use answers: it ran until now, or a reset had made it dead
abbrev pub end_answer : Option UseWire → Answer
end_answer (Some (RunningWire translation)) = answer.Ended
end_answer _ = answer.Dead

-- a page request is sent, the first of a new group under the lowest free index, or one more of an unfinished group
abbrev pub fault_result : DeviceWire → (endpoint pasid page : ℕ) → (read write last : Bool) → Option ℕ → Result
fault_result device endpoint pasid page read write last None =
    by_one (answer.Group (label (lowest_label device.groups))) (Move.Group endpoint pasid (label (lowest_label device.groups)) page read write last)
fault_result device endpoint pasid page read write last (Some index) = by_one (answer.Group index) (Move.Request endpoint pasid index page read write last)

-- Deliveries, by what the message carries.

-- is the translation of another page or another PASID, so that a new one of this page and PASID doesn't replace it?
abbrev pub is_other : (pasid page : ℕ) → TranslationWire → Bool
is_other pasid page translation = not (is_at_page pasid page translation)

-- the cache keeps 64 translations of other pages
abbrev pub is_full : List TranslationWire → (pasid page : ℕ) → Bool
is_full cache pasid page = nat_le Limits.cached (count_by (is_other pasid page) cache)

-- what a completion brings is kept, unless the cache is full; its request is over either way
abbrev pub keep_result : (endpoint message tag : ℕ) → TranslationWire → Bool → Result
keep_result endpoint message tag translation true = by_one answer.Full (Move.Forget endpoint message tag)
keep_result endpoint message tag translation false = by_one answer.Held (Move.Keep endpoint message tag translation)

-- a translation completion whose request is out (PCI Express Base 5.0, section 10.2.3): what it brings is kept, but not where the request
-- is doomed or R is clear
abbrev pub completion_by : DeviceWire → (endpoint message tag frame : ℕ) → (read write is_doomed : Bool) → RequestWire → Result
completion_by device endpoint message tag frame read write true request = by_one answer.Dropped (Move.Forget endpoint message tag)
completion_by device endpoint message tag frame false write false request = by_one answer.NoTranslation (Move.Forget endpoint message tag)
completion_by device endpoint message tag frame true write false request =
    keep_result endpoint message tag
    (record { pasid = request.pasid; page = request.page; frame = frame; write = write })
    (is_full device.cache request.pasid request.page)

-- a translation completion, by the request that bears its tag; where none does, the endpoint was reset since
abbrev pub completion_result : DeviceWire → (endpoint message tag frame : ℕ) → (read write : Bool) → Option RequestWire → Result
completion_result device endpoint message tag frame read write None = by_one answer.Dropped (Move.Ignore message)
completion_result device endpoint message tag frame read write (Some request) =
    completion_by device endpoint message tag frame read write request.is_doomed request

-- whether a response finds its group awaiting it, or stale
abbrev pub response_said : Option GroupWire → Answer
response_said None = answer.Answered
response_said (Some group) = response_answer group.state

-- a request is answered from the space of the binding that bears its PASID, if that is Live and maps the page
abbrev pub found_for : Wire → (page : ℕ) → Option BindingWire → Option PageWire
found_for wire page None = None
found_for wire page (Some binding) = if is_live binding.stage then page_at (pages_in wire binding.space) page else None

-- the completion of a translation request: the frame, R, and W if the mapping allows writes; or R and W clear where nothing was found (PCI
-- Express Base 5.0, section 10.2.3)
abbrev pub completion_of : (tag : ℕ) → Option PageWire → Message
completion_of tag None = CompletionMessage tag 0 false false
completion_of tag (Some entry) = CompletionMessage tag entry.frame true entry.write

-- a translation request at its unit: answered, or dropped in reset
abbrev pub request_result : Wire → (endpoint message tag pasid page : ℕ) → Bool → Result
request_result wire endpoint message tag pasid page true =
    by_one answer.Completion (Move.Complete endpoint message (completion_of tag (found_for wire page (bearer wire endpoint pasid))))
request_result wire endpoint message tag pasid page false = by_one answer.Dropped (Move.Ignore message)

-- would one completion more of so many free the ITag?
abbrev pub is_last_of : (count : ℕ) → Option BusyWire → Bool
is_last_of count None = false
is_last_of count (Some Fresh) = count == 1
is_last_of count (Some (Counting fixed arrived)) = suc arrived == fixed

-- a completion of invalidations at its unit: counted, with how many ITags it frees, or dropped in reset
abbrev pub count_result : UnitWire → (endpoint message vector count : ℕ) → Bool → Result
count_result unit endpoint message vector count true =
    by_one
    (answer.Freed (count_below Limits.itags (λ itag. Labels.is_set vector itag && is_last_of count (busy_at unit itag))))
    (Move.Count endpoint message vector count)
count_result unit endpoint message vector count false = by_one answer.Dropped (Move.Ignore message)

-- a page request at its unit: queued, or dropped in reset
abbrev pub page_request_result : (endpoint message : ℕ) → PageRequestWire → Bool → Result
page_request_result endpoint message request true = by_one answer.Queued (Move.Arrive endpoint message request)
page_request_result endpoint message request false = by_one answer.Dropped (Move.Ignore message)

-- a Stop Marker at its unit: noted at the binding that sent it, or dropped in reset (this project's own: by PCI Express Base 5.0, section
-- 10.4.1, it is a page request)
abbrev pub marker_result : (endpoint message binding : ℕ) → Bool → Result
marker_result endpoint message binding true = by_one answer.Marked (Move.Mark endpoint message binding)
marker_result endpoint message binding false = by_one answer.Dropped (Move.Ignore message)

-- the delivery of a message, by its kind and its labels
abbrev pub message_result : Wire → (endpoint message : ℕ) → Message → Result
message_result wire endpoint message (StartMessage pasid) = by_one answer.Started (Move.StartArrives endpoint message pasid)
message_result wire endpoint message (StopMessage pasid) = by_one answer.Stopping (Move.StopArrives endpoint message pasid)
message_result wire endpoint message ResetMessage = by_one answer.Reset (Move.ResetArrives endpoint message)
message_result wire endpoint message (CompletionMessage tag frame read write) =
    completion_result (device_of wire endpoint) endpoint message tag frame read write (tag_at (device_of wire endpoint) tag)
message_result wire endpoint message (InvalidateMessage itag pasid scope) = by_one answer.Taken (Move.Take endpoint message itag pasid (extent_in scope))
message_result wire endpoint message (ResponseMessage pasid index code) =
    by_one (response_said (group_at (device_of wire endpoint) index)) (Move.Answered endpoint message index code)
message_result wire endpoint message (RequestMessage tag pasid page) = request_result wire endpoint message tag pasid page (unit_of wire endpoint).is_open
message_result wire endpoint message (InvalidatedMessage vector field) =
    count_result (unit_of wire endpoint) endpoint message vector (count_read field) (unit_of wire endpoint).is_open
message_result wire endpoint message (PageRequestMessage pasid index page read write last) =
    page_request_result endpoint message
    (record { pasid = pasid; index = index; ask = record { page = page; read = read; write = write }; last = last })
    (unit_of wire endpoint).is_open
message_result wire endpoint message (MarkerMessage pasid) =
    marker_result endpoint message (binding_or_0 (bearer wire endpoint pasid)) (unit_of wire endpoint).is_open
message_result wire endpoint message ResetDoneMessage = by_one answer.ResetDone (Move.Reopen endpoint message)

-- the delivery of what is in flight under a number; where nothing is the step is refused
abbrev pub deliver_result : Wire → Option FlightWire → Result
deliver_result wire None = says answer.Dropped []
deliver_result wire (Some flight) = message_result wire flight.endpoint flight.number flight.message

-- where a frame is: free, at a page of a space, or withheld
abbrev pub look_answer : PlaceWire → Answer
look_answer FreeWire = answer.Free
look_answer MappedWire = answer.Mapped
look_answer (WithheldWire targets) = answer.Withheld

-- the space that bears a PASID, if one does, and how many unreleased bindings it has
abbrev pub bearer_answer : Wire → (pasid : ℕ) → Option BindingWire → Answer
bearer_answer wire pasid None = answer.NoBearer
bearer_answer wire pasid (Some binding) = answer.Bearer binding.space (count_by (λ other. other.pasid == pasid) wire.bindings)

-- what every step answers and moves, unless a cause refuses it
abbrev pub result_of : Wire → Step → Result
result_of wire step.Space = by_one (answer.Space wire.next_space) Move.NewSpace
result_of wire (step.DropSpace space) = by_one answer.Gone (Move.DropSpace space)
result_of wire (step.Map space page write) = by_one (answer.Frame (lowest_free wire.places)) (Move.Map space page (lowest_free wire.places) write)
result_of wire (step.Unmap space page count) = unmap_result wire space page count
result_of wire (step.UnmapRange space page order) = unmap_range_result wire space page order
result_of wire (step.Bind endpoint space) = bind_result wire endpoint space (label (pasid_for wire space))
result_of wire (step.Unbind number) = of_binding (λ binding. unbind_by binding binding.stage) (binding_of wire number)
result_of wire (step.Advance number) = of_binding (λ binding. advance_by binding binding.stage) (binding_of wire number)
result_of wire (step.Pump endpoint) = pump_result (part_of wire endpoint) endpoint (unit_of wire endpoint).queue
result_of wire (step.Serve endpoint) = serve_result wire (part_of wire endpoint) endpoint (part_of wire endpoint).page_queue
result_of wire (step.Reset endpoint) = by_one answer.Resetting (Move.Reset endpoint)
result_of wire (step.Take worker) = take_result worker wire.jobs
result_of wire (step.Reply worker verdict) = reply_result wire worker verdict (held_by wire worker)
result_of wire (step.Ask endpoint pasid page) =
    by_one
    (answer.Tag (label (lowest_label (device_of wire endpoint).tags)))
    (Move.Ask endpoint pasid page (label (lowest_label (device_of wire endpoint).tags)))
result_of wire (step.BeginUse endpoint pasid page write) =
    begin_result endpoint (label (lowest_label (device_of wire endpoint).slots)) (cached (device_of wire endpoint) pasid page)
result_of wire (step.EndUse endpoint slot) = by_one (end_answer (use_at (device_of wire endpoint) slot)) (Move.End endpoint slot)
result_of wire (step.Evict endpoint pasid page) = by_one answer.Evicted (Move.Evict endpoint pasid page)
result_of wire (step.Fault endpoint pasid page read write group last) = fault_result (device_of wire endpoint) endpoint pasid page read write last group
result_of wire (step.Finish endpoint vector count) = by_one (answer.Sent count) (Move.Finish endpoint vector count)
result_of wire (step.Quit endpoint pasid) = by_one answer.Marker (Move.Quit endpoint pasid)
result_of wire (step.Deliver message) = deliver_result wire (flight_of wire message)
result_of wire (step.Look frame) = says (look_answer (slice_index_or wire.places frame FreeWire)) []
result_of wire (step.Bearer pasid) = says (bearer_answer wire pasid (find (λ binding. binding.pasid == pasid) wire.bindings)) []
