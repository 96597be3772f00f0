-- What each thing weighs that the closed world keeps and that is left to be done: more than all that it may come to.
use Rattle.std.specs.Prelude.{ℕ, ◌+◌, ◌*◌, Bool, true, false, Option, Some, None, sum_by}
use Rattle.sva_model.specs.Message.{Message}
use Rattle.sva_model.specs.Message.Message.{StartMessage, StopMessage, ResetMessage, CompletionMessage, InvalidateMessage, ResponseMessage, RequestMessage}
use Rattle.sva_model.specs.Message.Message.{InvalidatedMessage, PageRequestMessage, MarkerMessage, ResetDoneMessage}
use Rattle.sva_model.specs.State.{PasidState}
use Rattle.sva_model.specs.State.PasidState.{Off, On, Ending}
use Rattle.sva_model.specs.States.{is_collecting}
use Rattle.sva_model.specs.Wire.{Wire, EndpointWire, DeviceWire, TranslationWire, UseWire, TakenWire, GroupWire, Descriptor}
use Rattle.sva_model.specs.Wire.{PageRequestWire, JobWire, FlightWire}
use Rattle.sva_model.specs.Wire.Descriptor.{RangeDescriptor, PasidDescriptor, WaitDescriptor}
use Rattle.sva_race_texts.specs.declared.terms.devices.Budget.{Budget}

-- ---- at an endpoint: a PASID that is to stop comes to its marker, an invalidation that is taken to its completion, and a group of which
-- the last page request is still to come to that

abbrev pub pasid_weight : PasidState → ℕ
pasid_weight Off = 0
pasid_weight On = 0
pasid_weight Ending = 2

abbrev pub translation_weight : TranslationWire → ℕ
translation_weight translation = 1

abbrev pub slot_weight : Option UseWire → ℕ
slot_weight None = 0
slot_weight (Some held) = 1

abbrev pub taken_weight : Option TakenWire → ℕ
taken_weight None = 0
taken_weight (Some taken) = 2

abbrev pub collecting_weight : Bool → ℕ
collecting_weight true = 6
collecting_weight false = 0

abbrev pub group_weight : Option GroupWire → ℕ
group_weight None = 0
group_weight (Some group) = collecting_weight (is_collecting group.state)

abbrev pub device_weight : DeviceWire → ℕ
device_weight device =
    sum_by pasid_weight device.pasids + sum_by translation_weight device.cache + sum_by slot_weight device.slots
    + sum_by taken_weight device.taken + sum_by group_weight device.groups

-- ---- at its unit, and at the host: a page request in the queue comes to a job, that to a worker's hand, and from there to a response

abbrev pub descriptor_weight : Descriptor → ℕ
descriptor_weight (RangeDescriptor pasid range) = 4
descriptor_weight (PasidDescriptor pasid) = 4
descriptor_weight (WaitDescriptor cookie drain) = 1

abbrev pub queued_weight : PageRequestWire → ℕ
queued_weight request = 4

abbrev pub part_weight : EndpointWire → ℕ
part_weight part = device_weight part.device + sum_by descriptor_weight part.unit.queue + sum_by queued_weight part.page_queue

abbrev pub job_weight : JobWire → ℕ
job_weight job = 3

abbrev pub hand_weight : Option JobWire → ℕ
hand_weight None = 0
hand_weight (Some job) = 2

-- ---- in flight

abbrev pub message_weight : Message → ℕ
message_weight (StartMessage pasid) = 1
message_weight (StopMessage pasid) = 3
message_weight ResetMessage = 2
message_weight (CompletionMessage tag frame read write) = 2
message_weight (InvalidateMessage itag pasid scope) = 3
message_weight (ResponseMessage pasid index code) = 1
message_weight (RequestMessage tag pasid page) = 3
message_weight (InvalidatedMessage vector field) = 1
message_weight (PageRequestMessage pasid index page read write last) = 5
message_weight (MarkerMessage pasid) = 1
message_weight ResetDoneMessage = 1

abbrev pub flight_weight : FlightWire → ℕ
flight_weight flight = message_weight flight.message

-- ---- all that is kept; and what is left of the budgets, which pay for what they let in

abbrev pub wire_weight : Wire → ℕ
wire_weight wire =
    sum_by part_weight wire.parts + sum_by job_weight wire.jobs + sum_by hand_weight wire.hands + sum_by flight_weight wire.in_flight

abbrev pub budget_weight : Budget → ℕ
budget_weight left = 4 * left.asks + 2 * left.uses + 12 * left.faults
