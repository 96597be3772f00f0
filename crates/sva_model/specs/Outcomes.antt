-- What a step answers and does where nothing refuses it: what its labels mean now, the answer, and the acts by names. The
-- messages are those of PCI Express Base 5.0, chapter 10, beside start, stop, reset and reset-done, which are this project's
-- own; the queues are those of Intel VT-d, "Queued Invalidation Interface" and "Page Request Queue". That a label which is
-- given out is the lowest free one is this project's own.
use Rattle.std.specs.Prelude.{ℕ, ◌+◌, ◌^◌, Bool, true, false, ◌&&◌, ◌||◌, not, ◌==◌, nat_le, if◌then◌else◌, Option, Some, None, List, [], ◌∷◌, ◌++◌}
use Rattle.std.specs.Prelude.{length}
use Rattle.sva_step.specs.declared.answers.Answer.{Answer}
use Rattle.sva_step.specs.declared.answers.Answer.TheVariants as answer
use Rattle.sva_step.specs.declared.steps.Step.{Step}
use Rattle.sva_step.specs.declared.steps.Step.TheVariants as step
use Rattle.sva_step.specs.Limits
use Rattle.sva_model.specs.Words.{any_below, count_below, tabulate, lowest, is_some, the}
use Rattle.sva_model.specs.Message.{Code, Message}
use Rattle.sva_model.specs.Message.Code.{SuccessCode, InvalidCode, FailureCode}
use Rattle.sva_model.specs.Message.Message.{CompletionMessage}
use Rattle.sva_model.specs.State.{Stage, RequestState, GroupState, Order, Subject, Endpoint, World}
use Rattle.sva_model.specs.State.Stage.{Stopping, Draining, Invalidating, Lost}
use Rattle.sva_model.specs.State.RequestState.{Out, Doomed}
use Rattle.sva_model.specs.State.GroupState.{Stale}
use Rattle.sva_model.specs.State.Order.{RangeOf, PasidOf, Wait}
use Rattle.sva_model.specs.State.Subject.{StartOf, StopOf, FunctionReset, CompletionOf, InvalidateOf, ResponseOf, RequestOf, InvalidatedOf, PageRequestOf}
use Rattle.sva_model.specs.State.Subject.{MarkerOf, ResetDone}
use Rattle.sva_model.specs.States.{Place, is_open, is_live_stage, is_running, place}
use Rattle.sva_model.specs.States.Place.{Free, Mapped, Withheld}
use Rattle.sva_model.specs.Unmappings.{waits}
use Rattle.sva_model.specs.StateChanges.{is_replaced, is_last_left}
use Rattle.sva_model.specs.Acts.{Act, LocalAct}
use Rattle.sva_model.specs.Labels
use Rattle.sva_model.specs.Replies.{response_to, reply_maps, job_binding, job_part, job_asks}

-- what is answered, and what is done
pub record Outcome : Type 0 where
  pub answer : Answer
  pub acts : List Act

-- an answer with its acts
abbrev pub says : Answer → List Act → Outcome
says answer acts = record { answer = answer; acts = acts }

-- an act of one endpoint or its unit alone
abbrev pub at_one : Answer → (endpoint : ℕ) → LocalAct → Outcome
at_one answer endpoint local_act = says answer (Act.AtEndpoint endpoint local_act ∷ [])

-- The host.

-- a page is mapped to the lowest free frame
abbrev pub map_outcome : World → (space page : ℕ) → Bool → (frame : ℕ) → Outcome
map_outcome world space page write frame = says (answer.Frame frame) (Act.Map space page frame write ∷ [])

-- the frames of `count` pages from `page` on
abbrev pub frames_at : World → (space page count : ℕ) → List ℕ
frames_at world space page count = tabulate count (λ j. world.mappings.frame (the (world.mappings.at space (page + j))))

-- whether the frames of an unmapping are withheld or free
abbrev pub unmap_answer : Bool → List ℕ → Answer
unmap_answer true frames = answer.WithheldFrames frames
unmap_answer false frames = answer.FreeFrames frames

-- an unmapping of single pages; each is a range of one
abbrev pub unmap_outcome : World → (space page count : ℕ) → Outcome
unmap_outcome world space page count =
    says (unmap_answer (any_below world.config.endpoints (waits world space)) (frames_at world space page count)) (Act.Unmap space page count 0 ∷ [])

-- of the 2^order pages from `page` on, how many are mapped
abbrev pub mapped_in : World → (space page order : ℕ) → ℕ
mapped_in world space page order = count_below (2 ^ order) (λ j. Labels.is_mapped world space (page + j))

-- the same of a range, by their number
abbrev pub unmap_range_answer : Bool → (frames : ℕ) → Answer
unmap_range_answer true frames = answer.RangeWithheld frames
unmap_range_answer false frames = answer.RangeFree frames

-- an unmapping of the mapped pages of one range
abbrev pub unmap_range_outcome : World → (space page order : ℕ) → Outcome
unmap_range_outcome world space page order =
    says (unmap_range_answer (any_below world.config.endpoints (waits world space)) (mapped_in world space page order)) (Act.Unmap space page 1 order ∷ [])

-- a binding begins, and its start is sent
abbrev pub bind_outcome : World → (endpoint space pasid : ℕ) → Outcome
bind_outcome world endpoint space pasid =
    says (answer.Binding (Labels.number world world.bindings) pasid)
    (Act.NewBinding endpoint ∷ Act.AtEndpoint endpoint (LocalAct.Bind world.bindings space pasid) ∷ [])

-- a binding is told to stop; a Lost one is quiet at once
abbrev pub unbind_outcome : (endpoint binding : ℕ) → Stage → Outcome
unbind_outcome endpoint binding Lost = at_one answer.Quiet endpoint (LocalAct.Quieten binding)
unbind_outcome endpoint binding stage = at_one answer.Stopping endpoint (LocalAct.Stop binding)

-- a binding goes to its next stage
abbrev pub advance_outcome : World → (endpoint binding : ℕ) → Stage → Outcome
advance_outcome world endpoint binding (Stopping marked) = at_one answer.Draining endpoint (LocalAct.Drain binding world.cookies)
advance_outcome world endpoint binding (Draining wait) = at_one answer.Invalidating endpoint (LocalAct.Invalidate binding world.cookies)
advance_outcome world endpoint binding (Invalidating invalidation wait) = at_one answer.Quiet endpoint (LocalAct.Quieten binding)
advance_outcome world endpoint binding stage = at_one answer.Released endpoint (LocalAct.Release binding)

-- A wait (Intel VT-d, "Invalidation Wait Descriptor", "Page Request Drain") is taken where no ITag is busy and, if it drains,
-- the page request queue is empty. When it is taken is this project's own.
abbrev pub may_pass : Endpoint → Bool → Bool
may_pass part drain = not (Labels.is_some_busy part) && (not drain || Labels.is_page_queue_empty part)

-- the wait at the head is done, or blocks
abbrev pub wait_outcome : (endpoint order : ℕ) → Bool → Outcome
wait_outcome endpoint order true = at_one answer.WaitDone endpoint (LocalAct.Pass order)
wait_outcome endpoint order false = says answer.Blocked []

-- the invalidation at the head is sent under the tag, or blocks for want of one
abbrev pub send_outcome : (endpoint order itag : ℕ) → Bool → Outcome
send_outcome endpoint order itag true = at_one (answer.Itag itag) endpoint (LocalAct.Send order itag)
send_outcome endpoint order itag false = says answer.Blocked []

-- the head of the invalidation queue
abbrev pub head_outcome : Endpoint → (endpoint order : ℕ) → Order → Outcome
head_outcome part endpoint order (Wait cookie drain) = wait_outcome endpoint order (may_pass part drain)
head_outcome part endpoint order (RangeOf binding range) =
    send_outcome endpoint order (Labels.lowest_label Limits.itags part.at_itag) (not (Labels.lowest_label Limits.itags part.at_itag == Limits.itags))
head_outcome part endpoint order (PasidOf binding) =
    send_outcome endpoint order (Labels.lowest_label Limits.itags part.at_itag) (not (Labels.lowest_label Limits.itags part.at_itag == Limits.itags))

-- a unit's turn: idle where nothing is queued
abbrev pub pump_outcome : Endpoint → (endpoint : ℕ) → Bool → Outcome
pump_outcome part endpoint true = says answer.Idle []
pump_outcome part endpoint false = head_outcome part endpoint (Labels.head part) (part.order (Labels.head part))

-- a page request is filed; the last one of its group makes the group a job
abbrev pub file_outcome : (endpoint page_request group : ℕ) → Bool → Outcome
file_outcome endpoint page_request group true = says answer.Job (Act.AtEndpoint endpoint (LocalAct.File page_request) ∷ Act.NewJob endpoint group ∷ [])
file_outcome endpoint page_request group false = at_one answer.Part endpoint (LocalAct.File page_request)

-- a turn of the page request queue: its oldest is filed
abbrev pub serve_outcome : Endpoint → (endpoint : ℕ) → Bool → Outcome
serve_outcome part endpoint true = says answer.Empty []
serve_outcome part endpoint false =
    file_outcome endpoint (Labels.oldest_arrived part) (part.group_of (Labels.oldest_arrived part)) (part.is_last (Labels.oldest_arrived part))

-- a worker takes the oldest job
abbrev pub take_outcome : World → (worker job : ℕ) → Outcome
take_outcome world worker job =
    says
    (answer.JobTaken
    (Labels.number world (job_binding world job))
    ((job_part world job).index (world.job job).group)
    (length (job_asks world job)))
    (Act.AtEndpoint (world.job job).endpoint (LocalAct.Hand (world.job job).group worker) ∷ Act.Hold worker job ∷ [])

-- what a reply answers, by the code that is sent
abbrev pub code_answer : (mapped : ℕ) → Code → Answer
code_answer mapped SuccessCode = answer.Success mapped
code_answer mapped InvalidCode = answer.Invalid
code_answer mapped FailureCode = answer.Failure

-- a reply: the pages that it maps, and the response if one is sent
abbrev pub reply_outcome : World → (worker job : ℕ) → List Act → Option Code → Outcome
reply_outcome world worker job maps None =
    says answer.Dropped (Act.LetGo worker ∷ Act.AtEndpoint (world.job job).endpoint (LocalAct.Discard (world.job job).group) ∷ [])
reply_outcome world worker job maps (Some code) =
    says (code_answer (length maps) code)
    (maps ++ Act.LetGo worker ∷ Act.AtEndpoint (world.job job).endpoint (LocalAct.Respond (world.job job).group code) ∷ [])

-- The endpoint.

-- a translation request is sent under the tag
abbrev pub ask_outcome : Endpoint → (endpoint pasid page tag : ℕ) → Outcome
ask_outcome part endpoint pasid page tag = at_one (answer.Tag tag) endpoint (LocalAct.Ask (Labels.bearer part pasid) page tag)

-- a use of a cached translation begins in the slot
abbrev pub begin_outcome : World → Endpoint → (endpoint pasid page slot : ℕ) → Outcome
begin_outcome world part endpoint pasid page slot =
    let request = Labels.cached part (Labels.bearer part pasid) page in
    at_one (answer.Use slot (world.mappings.frame (the (part.held request)))) endpoint (LocalAct.Begin request (the (part.held request)) slot)

-- a use ends; one that a reset had ended is dead
abbrev pub end_outcome : Endpoint → (endpoint used : ℕ) → Outcome
end_outcome part endpoint used = at_one (if is_running (part.use_state used) then answer.Ended else answer.Dead) endpoint (LocalAct.End used)

-- a page request is sent, of a new group or of one that still collects
abbrev pub fault_outcome : Endpoint → (endpoint pasid page : ℕ) → (read write last : Bool) → Option ℕ → Outcome
fault_outcome part endpoint pasid page read write last None =
    let index = Labels.lowest_label Limits.groups part.at_index in
    at_one (answer.Group index) endpoint (LocalAct.Group (Labels.bearer part pasid) index page read write last)
fault_outcome part endpoint pasid page read write last (Some index) =
    at_one (answer.Group index) endpoint (LocalAct.Request (the (part.at_index index)) page read write last)

-- Deliveries, each by the names that the message carries.

-- has the cache no place for what this request brings?
abbrev pub is_full : Endpoint → (request : ℕ) → Bool
is_full part request = nat_le Limits.cached (count_below part.requests (λ x. is_some (part.held x) && not (is_replaced part request x)))

-- what a request brings is kept, where there is room
abbrev pub keep_outcome : (endpoint message request mapping : ℕ) → Bool → Outcome
keep_outcome endpoint message request mapping true = at_one answer.Full endpoint (LocalAct.Forget message request)
keep_outcome endpoint message request mapping false = at_one answer.Held endpoint (LocalAct.Keep message request mapping)

-- A translation completion (PCI Express Base 5.0, section 10.2.3): with R and W clear there is no translation. What is
-- doomed, and a cache of 64 translations, are this project's own.
abbrev pub completion_outcome : Endpoint → (endpoint message request : ℕ) → Option ℕ → RequestState → Outcome
completion_outcome part endpoint message request (Some mapping) Out = keep_outcome endpoint message request mapping (is_full part request)
completion_outcome part endpoint message request None Out = at_one answer.NoTranslation endpoint (LocalAct.Forget message request)
completion_outcome part endpoint message request found Doomed = at_one answer.Dropped endpoint (LocalAct.Forget message request)
completion_outcome part endpoint message request found _ = at_one answer.Dropped endpoint (LocalAct.Ignore message)

-- whether a response finds its group awaiting it, or stale
abbrev pub response_answer : GroupState → Answer
response_answer Stale = answer.Stale
response_answer _ = answer.Answered

-- a request is answered from the space of the binding that asked, if that is Live and maps the page
abbrev pub found_for : World → Endpoint → (request : ℕ) → Option ℕ
found_for world part request =
    if is_live_stage (part.stage (part.request_binding request))
    then world.mappings.at (part.space (part.request_binding request)) (part.request_page request)
    else None

-- the completion of a request, with what was found for it
abbrev pub completion_message : World → (tag : ℕ) → Option ℕ → Message
completion_message world tag None = CompletionMessage tag 0 false false
completion_message world tag (Some mapping) = CompletionMessage tag (world.mappings.frame mapping) true (world.mappings.write mapping)

-- a translation request at its unit: answered, or dropped in reset
abbrev pub request_outcome : World → Endpoint → (endpoint message request : ℕ) → Bool → Outcome
request_outcome world part endpoint message request true =
    at_one answer.Completion endpoint
    (LocalAct.Complete message request (found_for world part request) (completion_message world (part.request_tag request) (found_for world part request)))
request_outcome world part endpoint message request false = at_one answer.Dropped endpoint (LocalAct.Ignore message)

-- a completion of invalidations at its unit: counted, or dropped in reset
abbrev pub count_outcome : Endpoint → (endpoint message : ℕ) → (ℕ → Bool) → Bool → Outcome
count_outcome part endpoint message names true =
    at_one (answer.Freed (count_below part.orders (λ k. names k && is_last_left (part.order_state k)))) endpoint (LocalAct.Count message names)
count_outcome part endpoint message names false = at_one answer.Dropped endpoint (LocalAct.Ignore message)

-- a page request at its unit: queued, or dropped in reset
abbrev pub page_request_outcome : (endpoint message page_request : ℕ) → Bool → Outcome
page_request_outcome endpoint message page_request true = at_one answer.Queued endpoint (LocalAct.Arrive message page_request)
page_request_outcome endpoint message page_request false = at_one answer.Dropped endpoint (LocalAct.Miss message page_request)

-- a marker at its unit: noted, or dropped in reset
abbrev pub marker_outcome : (endpoint message binding : ℕ) → Bool → Outcome
marker_outcome endpoint message binding true = at_one answer.Marked endpoint (LocalAct.Mark message binding)
marker_outcome endpoint message binding false = at_one answer.Dropped endpoint (LocalAct.Ignore message)

-- the delivery of a message, by what it speaks of
abbrev pub subject_outcome : World → Endpoint → (endpoint message : ℕ) → Subject → Outcome
subject_outcome world part endpoint message (StartOf binding) = at_one answer.Started endpoint (LocalAct.Start_arrives message binding)
subject_outcome world part endpoint message (StopOf binding) = at_one answer.Stopping endpoint (LocalAct.Stop_arrives message binding)
subject_outcome world part endpoint message FunctionReset = at_one answer.Reset endpoint (LocalAct.Reset_arrives message)
subject_outcome world part endpoint message (CompletionOf request found) = completion_outcome part endpoint message request found (part.request request)
subject_outcome world part endpoint message (InvalidateOf order) = at_one answer.Taken endpoint (LocalAct.Take message order)
subject_outcome world part endpoint message (ResponseOf group code) =
    at_one (response_answer (part.group group)) endpoint (LocalAct.Answered message group code)
subject_outcome world part endpoint message (RequestOf request) = request_outcome world part endpoint message request (is_open part.phase)
subject_outcome world part endpoint message (InvalidatedOf names) = count_outcome part endpoint message names (is_open part.phase)
subject_outcome world part endpoint message (PageRequestOf request) = page_request_outcome endpoint message request (is_open part.phase)
subject_outcome world part endpoint message (MarkerOf binding) = marker_outcome endpoint message binding (is_open part.phase)
subject_outcome world part endpoint message ResetDone = at_one answer.ResetDone endpoint (LocalAct.Reopen message)

-- a message that isn't in flight can't be delivered: the step is refused
abbrev pub deliver_outcome : World → Endpoint → (endpoint message : ℕ) → Option Subject → Outcome
deliver_outcome world part endpoint message None = says answer.Dropped []
deliver_outcome world part endpoint message (Some subject) = subject_outcome world part endpoint message subject

-- where a frame is
abbrev pub look_answer : Place → Answer
look_answer Free = answer.Free
look_answer Mapped = answer.Mapped
look_answer Withheld = answer.Withheld

-- who bears a PASID, if anybody does
abbrev pub bearer_answer : World → (pasid : ℕ) → Bool → Answer
bearer_answer world pasid true = answer.Bearer (Labels.number world (Labels.space_under world pasid)) (Labels.bindings_under world pasid)
bearer_answer world pasid false = answer.NoBearer

-- the outcome of every step
abbrev pub outcome : World → Step → Outcome
outcome world step.Space = says (answer.Space (Labels.number world world.spaces)) (Act.NewSpace ∷ [])
outcome world (step.DropSpace space) = says answer.Gone (Act.DropSpace (Labels.name world space) ∷ [])
outcome world (step.Map space page write) = map_outcome world (Labels.name world space) page write (Labels.lowest_frame world)
outcome world (step.Unmap space page count) = unmap_outcome world (Labels.name world space) page count
outcome world (step.UnmapRange space page order) = unmap_range_outcome world (Labels.name world space) page order
outcome world (step.Bind endpoint space) =
    bind_outcome world endpoint (Labels.name world space) (the (Labels.pasid_for world endpoint (Labels.name world space)))
outcome world (step.Unbind binding) =
    unbind_outcome (world.endpoint_of (Labels.name world binding)) (Labels.name world binding)
    ((world.part (world.endpoint_of (Labels.name world binding))).stage (Labels.name world binding))
outcome world (step.Advance binding) =
    advance_outcome world (world.endpoint_of (Labels.name world binding)) (Labels.name world binding)
    ((world.part (world.endpoint_of (Labels.name world binding))).stage (Labels.name world binding))
outcome world (step.Pump endpoint) = pump_outcome (world.part endpoint) endpoint (Labels.is_queue_empty (world.part endpoint))
outcome world (step.Serve endpoint) = serve_outcome (world.part endpoint) endpoint (Labels.is_page_queue_empty (world.part endpoint))
outcome world (step.Reset endpoint) = at_one answer.Resetting endpoint LocalAct.Reset
outcome world (step.Take worker) = take_outcome world worker (lowest world.jobs (Labels.is_queued_job world))
outcome world (step.Reply worker verdict) =
    reply_outcome world worker (the (world.hand worker)) (reply_maps world (the (world.hand worker)) verdict)
    (response_to world (the (world.hand worker)) verdict)
outcome world (step.Ask endpoint pasid page) =
    ask_outcome (world.part endpoint) endpoint pasid page (Labels.lowest_label Limits.request_tags (world.part endpoint).at_tag)
outcome world (step.BeginUse endpoint pasid page write) =
    begin_outcome world (world.part endpoint) endpoint pasid page (Labels.lowest_label Limits.use_slots (world.part endpoint).at_slot)
outcome world (step.EndUse endpoint slot) = end_outcome (world.part endpoint) endpoint (the ((world.part endpoint).at_slot slot))
outcome world (step.Evict endpoint pasid page) =
    at_one answer.Evicted endpoint (LocalAct.Evict (Labels.cached (world.part endpoint) (Labels.bearer (world.part endpoint) pasid) page))
outcome world (step.Fault endpoint pasid page read write group last) = fault_outcome (world.part endpoint) endpoint pasid page read write last group
outcome world (step.Finish endpoint vector count) =
    at_one (answer.Sent count) endpoint (LocalAct.Finish (Labels.is_named (world.part endpoint) vector) vector count)
outcome world (step.Quit endpoint pasid) = at_one answer.Marker endpoint (LocalAct.Quit (Labels.bearer (world.part endpoint) pasid))
outcome world (step.Deliver message) =
    deliver_outcome world (world.part (world.link_of (Labels.name world message))) (world.link_of (Labels.name world message)) (Labels.name world message)
    ((world.part (world.link_of (Labels.name world message))).message (Labels.name world message))
outcome world (step.Look frame) = says (look_answer (place world frame)) []
outcome world (step.Bearer pasid) = says (bearer_answer world pasid (Labels.is_borne world pasid)) []
