-- What stays at an endpoint whose page requests are disabled, whatever step is taken.
use Rattle.std.proofs.Common.{◌≡◌, ◌≢◌, ◌⊎◌, ◌∙◌, inl, inr, ap, arith, refl, subst, sym, ℕ, zero, suc, true, false, Bool, List}
use Rattle.std.proofs.Common.{[], ◌∷◌, ◌++◌, Option, Some, None}
use Rattle.std.proofs.lemmas.Bool.Decides.{nat_tests}
use Rattle.std.proofs.lemmas.Option.{same_Some}
use Rattle.std.specs.Prelude.{◌==◌, ◌&&◌, if◌then◌else◌, slice_get}
use Rattle.sva_step.specs.declared.refusals.Refusal.TheVariants as refusal
use Rattle.sva_step.specs.declared.steps.Step.{Step}
use Rattle.sva_step.specs.declared.steps.Step.TheVariants as step
use Rattle.sva_step.specs.declared.steps.Verdict.{Verdict}
use Rattle.sva_labels.proofs.Words.{ℕ_cases}
use Rattle.sva_model.specs.Message.{Code, Message}
use Rattle.sva_model.specs.Message.Message.{StartMessage, StopMessage, ResetMessage, CompletionMessage, InvalidateMessage, ResponseMessage, RequestMessage}
use Rattle.sva_model.specs.Message.Message.{InvalidatedMessage, PageRequestMessage, MarkerMessage, ResetDoneMessage}
use Rattle.sva_model.specs.Refusals.{Cause}
use Rattle.sva_model.specs.States.{Extent}
use Rattle.sva_model.specs.Wire.{AskWire, BindingWire, Descriptor, DeviceWire, EndpointWire, FlightWire, GroupWire, JobWire}
use Rattle.sva_model.specs.Wire.{PageRequestWire, RequestWire, StageWire}
use Rattle.sva_model.specs.Wire.{TranslationWire, UnitWire, Wire}
use Rattle.sva_model.specs.Wire.Descriptor.{RangeDescriptor, PasidDescriptor, WaitDescriptor}
use Rattle.sva_model.specs.Wire.StageWire.{LiveWire, StoppingWire, DrainingWire, InvalidatingWire, QuietWire, LostWire}
use Rattle.sva_labels.specs.Causes.{causes_of}
use Rattle.sva_labels.specs.Finding.{binding_of, cached, device_of, flight_of, free_from, held_by, lowest_label, part_of, tag_at, unit_of}
use Rattle.sva_labels.specs.Host.{checked, decide_of, next_of}
use Rattle.sva_labels.specs.Moves.{Move, all_moved, moved}
use Rattle.sva_labels.specs.Outcomes as outcomes
use Rattle.sva_labels.specs.Replying.{newly_mapped, replies_success, response_to, space_of_job}
use Rattle.sva_why.specs.Stuck.{IsOther, IsStuck, StuckStays, helps, is_helped, is_helped_by}
use Rattle.sva_why.proofs.Keeps.{own_part, stays}

-- each of the moves is another than the four
abbrev AreOthers : (endpoint index : ℕ) → List Move → Type 0
AreOthers endpoint index [] = Unit {0}
AreOthers endpoint index (made ∷ moves) = IsOther endpoint index made × AreOthers endpoint index moves

all_stay : (wire : Wire) (endpoint index : ℕ) (group : GroupWire) (moves : List Move) → IsStuck wire endpoint index group
    → AreOthers endpoint index moves → IsStuck (all_moved wire moves) endpoint index group
all_stay wire endpoint index group [] stuck others = stuck
all_stay wire endpoint index group (made ∷ moves) stuck others =
    all_stay (moved wire made) endpoint index group moves (stays wire made endpoint index group stuck others.0) others.1

-- a step that is refused moves nothing
checked_stays : (wire : Wire) (endpoint index : ℕ) (group : GroupWire) (causes : List Cause) (result : outcomes.Result)
    → IsStuck wire endpoint index group → IsStuck (all_moved wire result.moves) endpoint index group
    → IsStuck (all_moved wire (checked causes result).moves) endpoint index group
checked_stays wire endpoint index group [] result stuck behind = behind
checked_stays wire endpoint index group ((true, told) ∷ causes) result stuck behind = stuck
checked_stays wire endpoint index group ((false, told) ∷ causes) result stuck behind =
    checked_stays wire endpoint index group causes result stuck behind

refused_moves : (causes : List Cause) (result : outcomes.Result) (place : ℕ) (cause : Cause) → slice_get causes place ≡ Some cause → cause.0 ≡ true
    → (checked causes result).moves ≡ []
refused_moves [] result place cause there holds = absurd (cc there)
refused_moves ((true, told) ∷ causes) result place cause there holds = refl
refused_moves ((false, told) ∷ causes) result zero cause there holds =
    absurd (cc (ap (λ (c : Cause). c.0) (same_Some (false, told) cause there) ∙ holds))
refused_moves ((false, told) ∷ causes) result (suc place) cause there holds = refused_moves causes result place cause there holds

-- ---- The moves of each step

module _ (endpoint index : ℕ) where
  unbind_others : (binding : BindingWire) (stage : StageWire) → AreOthers endpoint index (outcomes.unbind_by binding stage).moves
  unbind_others binding LiveWire = (tt, tt)
  unbind_others binding (StoppingWire marked) = (tt, tt)
  unbind_others binding (DrainingWire cookie) = (tt, tt)
  unbind_others binding (InvalidatingWire cookie) = (tt, tt)
  unbind_others binding QuietWire = (tt, tt)
  unbind_others binding LostWire = (tt, tt)

  advance_others : (binding : BindingWire) (stage : StageWire) → AreOthers endpoint index (outcomes.advance_by binding stage).moves
  advance_others binding LiveWire = (tt, tt)
  advance_others binding (StoppingWire marked) = (tt, tt)
  advance_others binding (DrainingWire cookie) = (tt, tt)
  advance_others binding (InvalidatingWire cookie) = (tt, tt)
  advance_others binding QuietWire = (tt, tt)
  advance_others binding LostWire = (tt, tt)

  binding_others : (result : BindingWire → outcomes.Result) (found : Option BindingWire)
      → ((binding : BindingWire) → AreOthers endpoint index (result binding).moves) → AreOthers endpoint index (outcomes.of_binding result found).moves
  binding_others result None each = tt
  binding_others result (Some binding) each = each binding

  wait_others : (at cookie : ℕ) (passes : Bool) → AreOthers endpoint index (outcomes.wait_result at cookie passes).moves
  wait_others at cookie true = (tt, tt)
  wait_others at cookie false = tt

  send_others : (at pasid : ℕ) (extent : Extent) (itag : Option ℕ) → AreOthers endpoint index (outcomes.send_result at pasid extent itag).moves
  send_others at pasid extent None = tt
  send_others at pasid extent (Some itag) = (tt, tt)

  pump_others : (part : EndpointWire) (at : ℕ) (queue : List Descriptor) → AreOthers endpoint index (outcomes.pump_result part at queue).moves
  pump_others part at [] = tt
  pump_others part at (RangeDescriptor pasid range ∷ queue) = send_others at pasid _ (lowest_label part.unit.busy)
  pump_others part at (PasidDescriptor pasid ∷ queue) = send_others at pasid _ (lowest_label part.unit.busy)
  pump_others part at (WaitDescriptor cookie drain ∷ queue) = wait_others at cookie (outcomes.may_pass part drain)

  file_others : (part : EndpointWire) (at binding : ℕ) (request : PageRequestWire) (last : Bool)
      → AreOthers endpoint index (outcomes.file_result part at binding request last).moves
  file_others part at binding request true = (tt, (tt, tt))
  file_others part at binding request false = (tt, tt)

  serve_others : (wire : Wire) (part : EndpointWire) (at : ℕ) (queue : List PageRequestWire)
      → AreOthers endpoint index (outcomes.serve_result wire part at queue).moves
  serve_others wire part at [] = tt
  serve_others wire part at (request ∷ queue) = file_others part at _ request request.last

  take_others : (worker : ℕ) (jobs : List JobWire) → AreOthers endpoint index (outcomes.take_result worker jobs).moves
  take_others worker [] = tt
  take_others worker (job ∷ jobs) = (tt, (tt, tt))

  join_others : (moves more : List Move) → AreOthers endpoint index moves → AreOthers endpoint index more → AreOthers endpoint index (moves ++ more)
  join_others [] more others rest = rest
  join_others (made ∷ moves) more others rest = (others.0, join_others moves more others.1 rest)

  maps_others : (space : ℕ) (asks : List AskWire) (pages frames : List ℕ) → AreOthers endpoint index (outcomes.maps_to space asks pages frames)
  maps_others space asks [] frames = tt
  maps_others space asks (page ∷ pages) [] = tt
  maps_others space asks (page ∷ pages) (frame ∷ frames) = (tt, maps_others space asks pages frames)

  mapped_others : (test : Bool) (moves : List Move) → AreOthers endpoint index moves → AreOthers endpoint index (if test then moves else [])
  mapped_others true moves others = others
  mapped_others false moves others = tt

  reply_others : (wire : Wire) (worker : ℕ) (job : JobWire) (maps : List Move) (code : Option Code) → AreOthers endpoint index maps
      → AreOthers endpoint index (outcomes.reply_by wire worker job maps code).moves
  reply_others wire worker job maps None others = (tt, (tt, tt))
  reply_others wire worker job maps (Some code) others = join_others maps _ others (tt, (tt, tt))

  held_others : (wire : Wire) (worker : ℕ) (verdict : Verdict) (held : Option JobWire)
      → AreOthers endpoint index (outcomes.reply_result wire worker verdict held).moves
  held_others wire worker verdict None = tt
  held_others wire worker verdict (Some job) =
      reply_others wire worker job (outcomes.reply_maps wire job verdict) (response_to wire job verdict)
      (mapped_others (replies_success wire job verdict) (outcomes.maps_to (space_of_job wire job) job.asks (newly_mapped wire job) (free_from 0 wire.places))
      (maps_others (space_of_job wire job) job.asks (newly_mapped wire job) (free_from 0 wire.places)))

  begin_others : (at slot : ℕ) (found : Option TranslationWire) → AreOthers endpoint index (outcomes.begin_result at slot found).moves
  begin_others at slot None = tt
  begin_others at slot (Some translation) = (tt, tt)

  keep_others : (at message tag : ℕ) (translation : TranslationWire) (full : Bool)
      → AreOthers endpoint index (outcomes.keep_result at message tag translation full).moves
  keep_others at message tag translation true = (tt, tt)
  keep_others at message tag translation false = (tt, tt)

  completion_others : (device : DeviceWire) (at message tag frame : ℕ) (read write doomed : Bool) (request : RequestWire)
      → AreOthers endpoint index (outcomes.completion_by device at message tag frame read write doomed request).moves
  completion_others device at message tag frame read write true request = (tt, tt)
  completion_others device at message tag frame false write false request = (tt, tt)
  completion_others device at message tag frame true write false request = keep_others at message tag _ _

  answer_others : (device : DeviceWire) (at message tag frame : ℕ) (read write : Bool) (found : Option RequestWire)
      → AreOthers endpoint index (outcomes.completion_result device at message tag frame read write found).moves
  answer_others device at message tag frame read write None = (tt, tt)
  answer_others device at message tag frame read write (Some request) = completion_others device at message tag frame read write request.is_doomed request

  request_others : (wire : Wire) (at message tag pasid page : ℕ) (is_open : Bool)
      → AreOthers endpoint index (outcomes.request_result wire at message tag pasid page is_open).moves
  request_others wire at message tag pasid page true = (tt, tt)
  request_others wire at message tag pasid page false = (tt, tt)

  count_others : (unit : UnitWire) (at message vector count : ℕ) (is_open : Bool)
      → AreOthers endpoint index (outcomes.count_result unit at message vector count is_open).moves
  count_others unit at message vector count true = (tt, tt)
  count_others unit at message vector count false = (tt, tt)

  queued_others : (at message : ℕ) (request : PageRequestWire) (is_open : Bool)
      → AreOthers endpoint index (outcomes.page_request_result at message request is_open).moves
  queued_others at message request true = (tt, tt)
  queued_others at message request false = (tt, tt)

  marker_others : (at message binding : ℕ) (is_open : Bool) → AreOthers endpoint index (outcomes.marker_result at message binding is_open).moves
  marker_others at message binding true = (tt, tt)
  marker_others at message binding false = (tt, tt)

  apart : (at : ℕ) (test : Bool) → test ≡ true → (at == endpoint && test) ≡ false → at ≢ endpoint
  apart at test holds fails same =
      let here : (at == endpoint) ≡ true = grind (arith, nat_tests) in
      absurd (cc (sym fails ∙ (λ i. here i && holds i)))

  apart_at : (at own : ℕ) → (at == endpoint && own == index) ≡ false → at ≡ endpoint → own ≢ index
  apart_at at own fails here same =
      let this : (own == index) ≡ true = grind (arith, nat_tests) in
      apart at (own == index) this fails here

  message_others : (wire : Wire) (at message : ℕ) (carried : Message) → (at == endpoint && helps index carried) ≡ false
      → AreOthers endpoint index (outcomes.message_result wire at message carried).moves
  message_others wire at message (StartMessage pasid) other = (tt, tt)
  message_others wire at message (StopMessage pasid) other = (tt, tt)
  message_others wire at message ResetMessage other = (apart at true refl other, tt)
  message_others wire at message (CompletionMessage tag frame read write) other =
      answer_others (device_of wire at) at message tag frame read write (tag_at (device_of wire at) tag)
  message_others wire at message (InvalidateMessage itag pasid scope) other = (tt, tt)
  message_others wire at message (ResponseMessage pasid own code) other = (apart_at at own other, tt)
  message_others wire at message (RequestMessage tag pasid page) other = request_others wire at message tag pasid page (unit_of wire at).is_open
  message_others wire at message (InvalidatedMessage vector field) other = count_others (unit_of wire at) at message vector _ (unit_of wire at).is_open
  message_others wire at message (PageRequestMessage pasid own page read write last) other = queued_others at message _ (unit_of wire at).is_open
  message_others wire at message (MarkerMessage pasid) other = marker_others at message _ (unit_of wire at).is_open
  message_others wire at message ResetDoneMessage other = (tt, tt)

  flight_others : (wire : Wire) (found : Option FlightWire) → is_helped_by endpoint index found ≡ false
      → AreOthers endpoint index (outcomes.deliver_result wire found).moves
  flight_others wire None other = tt
  flight_others wire (Some flight) other = message_others wire flight.endpoint flight.number flight.message other

  fault_others : (device : DeviceWire) (at pasid page : ℕ) (read write last : Bool) (own : Option ℕ) → at ≢ endpoint
      → AreOthers endpoint index (outcomes.fault_result device at pasid page read write last own).moves
  fault_others device at pasid page read write last None other = (other, tt)
  fault_others device at pasid page read write last (Some own) other = (other, tt)

-- ---- Steps

-- by the moves of its outcome
by_moves : (wire : Wire) (taken : Step) (endpoint index : ℕ) (group : GroupWire) → IsStuck wire endpoint index group
    → AreOthers endpoint index (outcomes.result_of wire taken).moves → IsStuck (next_of wire taken) endpoint index group
by_moves wire taken endpoint index group stuck others =
    checked_stays wire endpoint index group (causes_of wire taken) (outcomes.result_of wire taken) stuck
    (all_stay wire endpoint index group (outcomes.result_of wire taken).moves stuck others)

-- a page request of the endpoint is refused
fault_stays : (wire : Wire) (endpoint index : ℕ) (group : GroupWire) (at pasid page : ℕ) (read write last : Bool) (own : Option ℕ)
    → IsStuck wire endpoint index group → (at ≡ endpoint) ⊎ (at ≢ endpoint)
    → IsStuck (next_of wire (step.Fault at pasid page read write own last)) endpoint index group
fault_stays wire endpoint index group at pasid page read write last own stuck (inl here) =
    let asked = step.Fault at pasid page read write own last in
    let disabled : (device_of wire at).is_disabled ≡ true =
    ap (λ k. (device_of wire k).is_disabled) here ∙ ap (λ (part : EndpointWire). part.device.is_disabled) (own_part wire endpoint index group stuck)
    ∙ stuck.disabled in
    let none = refused_moves (causes_of wire asked) (outcomes.result_of wire asked) 5 ((device_of wire at).is_disabled, refusal.PriDisabled) refl disabled in
    subst (λ moves. IsStuck (all_moved wire moves) endpoint index group) (sym none) stuck
fault_stays wire endpoint index group at pasid page read write last own stuck (inr other) =
    by_moves wire (step.Fault at pasid page read write own last) endpoint index group stuck
    (fault_others endpoint index (device_of wire at) at pasid page read write last own other)

pub step_stays : StuckStays
step_stays wire step.Space endpoint index group stuck other = by_moves wire step.Space endpoint index group stuck (tt, tt)
step_stays wire (step.DropSpace space) endpoint index group stuck other = by_moves wire (step.DropSpace space) endpoint index group stuck (tt, tt)
step_stays wire (step.Map space page write) endpoint index group stuck other = by_moves wire (step.Map space page write) endpoint index group stuck (tt, tt)
step_stays wire (step.Unmap space page count) endpoint index group stuck other = by_moves wire (step.Unmap space page count) endpoint index group stuck (tt, tt)
step_stays wire (step.UnmapRange space page order) endpoint index group stuck other =
    by_moves wire (step.UnmapRange space page order) endpoint index group stuck (tt, tt)
step_stays wire (step.Bind at space) endpoint index group stuck other = by_moves wire (step.Bind at space) endpoint index group stuck (tt, (tt, tt))
step_stays wire (step.Unbind number) endpoint index group stuck other =
    by_moves wire (step.Unbind number) endpoint index group stuck
    (binding_others endpoint index (λ binding. outcomes.unbind_by binding binding.stage) (binding_of wire number)
    (λ binding. unbind_others endpoint index binding binding.stage))
step_stays wire (step.Advance number) endpoint index group stuck other =
    by_moves wire (step.Advance number) endpoint index group stuck
    (binding_others endpoint index (λ binding. outcomes.advance_by binding binding.stage) (binding_of wire number)
    (λ binding. advance_others endpoint index binding binding.stage))
step_stays wire (step.Pump at) endpoint index group stuck other =
    by_moves wire (step.Pump at) endpoint index group stuck (pump_others endpoint index (part_of wire at) at (unit_of wire at).queue)
step_stays wire (step.Serve at) endpoint index group stuck other =
    by_moves wire (step.Serve at) endpoint index group stuck (serve_others endpoint index wire (part_of wire at) at (part_of wire at).page_queue)
step_stays wire (step.Reset at) endpoint index group stuck other = by_moves wire (step.Reset at) endpoint index group stuck (tt, tt)
step_stays wire (step.Take worker) endpoint index group stuck other =
    by_moves wire (step.Take worker) endpoint index group stuck (take_others endpoint index worker wire.jobs)
step_stays wire (step.Reply worker verdict) endpoint index group stuck other =
    by_moves wire (step.Reply worker verdict) endpoint index group stuck (held_others endpoint index wire worker verdict (held_by wire worker))
step_stays wire (step.Ask at pasid page) endpoint index group stuck other = by_moves wire (step.Ask at pasid page) endpoint index group stuck (tt, tt)
step_stays wire (step.BeginUse at pasid page write) endpoint index group stuck other = by_moves wire
    (step.BeginUse at pasid page write) endpoint index group stuck (begin_others endpoint index at _ (cached (device_of wire at) pasid page))
step_stays wire (step.EndUse at slot) endpoint index group stuck other = by_moves wire (step.EndUse at slot) endpoint index group stuck (tt, tt)
step_stays wire (step.Evict at pasid page) endpoint index group stuck other = by_moves wire (step.Evict at pasid page) endpoint index group stuck (tt, tt)
step_stays wire (step.Fault at pasid page read write own last) endpoint index group stuck other =
    fault_stays wire endpoint index group at pasid page read write last own stuck (ℕ_cases at endpoint)
step_stays wire (step.Finish at vector count) endpoint index group stuck other = by_moves wire (step.Finish at vector count) endpoint index group stuck (tt, tt)
step_stays wire (step.Quit at pasid) endpoint index group stuck other = by_moves wire (step.Quit at pasid) endpoint index group stuck (tt, tt)
step_stays wire (step.Deliver number) endpoint index group stuck other =
    by_moves wire (step.Deliver number) endpoint index group stuck (flight_others endpoint index wire (flight_of wire number) other)
step_stays wire (step.Look frame) endpoint index group stuck other = by_moves wire (step.Look frame) endpoint index group stuck tt
step_stays wire (step.Bearer pasid) endpoint index group stuck other = by_moves wire (step.Bearer pasid) endpoint index group stuck tt
