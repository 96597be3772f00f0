-- What a move leaves of what the closed world keeps weighs so much at most.
use Rattle.std.proofs.Common.{◌≡◌, ◌∙◌, ◌≤◌, ℕ, zero, suc, ◌+◌, Bool, true, false, List, [], map, get_or}
use Rattle.std.proofs.Common.{Option, Some, None, refl, ap, arith}
use Rattle.std.proofs.lemmas.List.Sums.{sum_by-append, sum_by_push}
use Rattle.std.specs.Prelude.{◌==◌, ◌&&◌, not, filter, find, is_none, slice_set, sum_by}
use Rattle.sva_step.specs.Limits
use Rattle.sva_model.specs.Words.{any_below, tabulate}
use Rattle.sva_model.specs.Message.{Message}
use Rattle.sva_model.specs.State.{GroupState, PasidState}
use Rattle.sva_model.specs.State.GroupState.{Collecting, Awaiting, Stale, Closed}
use Rattle.sva_model.specs.State.PasidState.{Off, Ending}
use Rattle.sva_model.specs.States.{Extent, is_collecting}
use Rattle.sva_model.specs.StateChanges.{sent_as, stale_if}
use Rattle.sva_model.specs.Labels
use Rattle.sva_model.specs.Wire.{Wire, EndpointWire, DeviceWire, UnitWire, TranslationWire, UseWire, TakenWire, GroupWire, FlightWire, is_before}
use Rattle.sva_labels.specs.Finding.{device_of, idle, idle_device, is_at_page, covers, part_of, unit_of}
use Rattle.sva_labels.specs.Moves.{cleared, delivered, ended, is_noted, kept, killed, requested, sent, sent_copies, stale_of, taking, unnoted}
use Rattle.sva_labels.specs.Moves.{with_device, with_part, with_pasid, with_request, with_unit, without_named}
use Rattle.sva_script_laws.specs.Weights.{collecting_weight, descriptor_weight, device_weight, flight_weight, group_weight, message_weight, part_weight}
use Rattle.sva_script_laws.specs.Weights.{pasid_weight, slot_weight, taken_weight, translation_weight, wire_weight}
use Rattle.sva_script_laws.proofs.WeighedLists.{changed, found_out, inserted, left_in, named_out, no_weight, put_most, put_or}

-- ---- an endpoint that isn't there weighs nothing

idle_device_weighs : device_weight idle_device ≡ 0
idle_device_weighs =
    let pasids = no_weight pasid_weight (λ pasid. Off) (λ k. refl) Limits.pasids in
    let slots = no_weight slot_weight (λ slot. None) (λ k. refl) Limits.use_slots in
    let taken = no_weight taken_weight (λ itag. None) (λ k. refl) Limits.itags in
    let groups = no_weight group_weight (λ index. None) (λ k. refl) Limits.groups in
    omega (arith, pasids, slots, taken, groups)

idle_weighs : part_weight idle ≡ 0
idle_weighs =
    let device = idle_device_weighs in
    omega (arith, device)

-- ---- an endpoint in the place of another

pub with_part_most : (wire : Wire) (endpoint : ℕ) (part : EndpointWire)
    → wire_weight (with_part wire endpoint part) + part_weight (part_of wire endpoint) ≤ wire_weight wire + part_weight part
with_part_most wire endpoint part =
    let put = put_or part_weight wire.parts endpoint part idle idle_weighs in
    omega (arith, put)

pub with_device_most : (wire : Wire) (endpoint : ℕ) (device : DeviceWire)
    → wire_weight (with_device wire endpoint device) + device_weight (device_of wire endpoint) ≤ wire_weight wire + device_weight device
with_device_most wire endpoint device =
    let put = with_part_most wire endpoint (record (part_of wire endpoint) { device = device }) in
    omega (arith, put)

pub with_unit_most : (wire : Wire) (endpoint : ℕ) (unit : UnitWire)
    → wire_weight (with_unit wire endpoint unit) + sum_by descriptor_weight (unit_of wire endpoint).queue
    ≤ wire_weight wire + sum_by descriptor_weight unit.queue
with_unit_most wire endpoint unit =
    let put = with_part_most wire endpoint (record (part_of wire endpoint) { unit = unit }) in
    omega (arith, put)

-- ---- messages

pub sent_weighs : (endpoint : ℕ) (message : Message) (wire : Wire) → wire_weight (sent endpoint message wire) ≡ wire_weight wire + message_weight message
sent_weighs endpoint message wire =
    let more = sum_by_push flight_weight wire.in_flight (record { number = wire.next_message; endpoint = endpoint; message = message }) in
    omega (arith, more)

one_of : {X : Type 0} (at : X → ℕ) (f : ℕ → X) → sum_by at (tabulate 1 f) ≡ at (f 0)
unfolding tabulate
one_of at f =
    let one = sum_by_push at [] (f 0) in
    omega (arith, one)

-- one copy
pub one_copy : (wire : Wire) (endpoint : ℕ) (message : Message)
    → wire_weight (sent_copies 1 endpoint message wire) ≡ wire_weight wire + message_weight message
one_copy wire endpoint message =
    let copy : ℕ → FlightWire = λ k. record { number = wire.next_message + k; endpoint = endpoint; message = message } in
    let both = sum_by-append flight_weight wire.in_flight (tabulate 1 copy) in
    let one = one_of flight_weight copy in
    omega (arith, both, one)

pub delivered_less : (wire : Wire) (number : ℕ) (flight : FlightWire) → find (λ (one : FlightWire). one.number == number) wire.in_flight ≡ Some flight
    → wire_weight (delivered number wire) + message_weight flight.message ≤ wire_weight wire
delivered_less wire number flight h =
    let less = found_out flight_weight (λ (one : FlightWire). one.number == number) wire.in_flight flight h in
    omega (arith, less)

-- ---- what an endpoint keeps

pub with_pasid_most : (pasid : ℕ) (state : PasidState) (device : DeviceWire)
    → device_weight (with_pasid pasid state device) ≤ device_weight device + pasid_weight state
with_pasid_most zero state device = omega arith
with_pasid_most (suc place) state device =
    let most = put_most pasid_weight device.pasids place state in
    omega (arith, most)

killed_most : (held : Option UseWire) → slot_weight (killed held) ≤ slot_weight held
killed_most None = omega arith
killed_most (Some held) = omega arith

pub cleared_most : (device : DeviceWire) → device_weight (cleared device) ≤ device_weight device
cleared_most device =
    let pasids = changed pasid_weight pasid_weight (λ state. Off) (λ state. omega arith) device.pasids in
    let slots = changed slot_weight slot_weight killed killed_most device.slots in
    let taken = changed taken_weight taken_weight (λ taken. None) (λ taken. omega arith) device.taken in
    let groups = changed group_weight group_weight (λ group. None) (λ group. omega arith) device.groups in
    omega (arith, pasids, slots, taken, groups)

pub kept_most : (translation : TranslationWire) (cache : List TranslationWire)
    → sum_by translation_weight (kept translation cache) ≤ sum_by translation_weight cache + 1
kept_most translation cache =
    let left = filter (λ older. not (is_at_page translation.pasid translation.page older)) cache in
    let less = left_in translation_weight (λ older. not (is_at_page translation.pasid translation.page older)) cache in
    let more = inserted translation_weight is_before translation left in
    omega (arith, less, more)

pub taking_most : (itag pasid : ℕ) (extent : Extent) (device : DeviceWire) → device_weight (taking itag pasid extent device) ≤ device_weight device + 2
taking_most itag pasid extent device =
    let taken = put_most taken_weight device.taken itag
    (Some (record { pasid = pasid; extent = extent; slots = map (is_noted pasid extent) device.slots })) in
    let cache = left_in translation_weight (λ (one : TranslationWire). not (covers pasid extent one.pasid one.page)) device.cache in
    omega (arith, taken, cache)

unnoted_most : (slot : ℕ) (taken : Option TakenWire) → taken_weight (unnoted slot taken) ≤ taken_weight taken
unnoted_most slot None = omega arith
unnoted_most slot (Some taken) = omega arith

-- the use of a slot that is taken is over
pub ended_less : (slot : ℕ) (device : DeviceWire) (held : UseWire) → get_or device.slots slot None ≡ Some held
    → device_weight (ended slot device) + 1 ≤ device_weight device
ended_less slot device held h =
    let put = put_or slot_weight device.slots slot None None refl in
    let here : slot_weight (get_or device.slots slot None) ≡ 1 = ap slot_weight h in
    let taken = changed taken_weight taken_weight (unnoted slot) (unnoted_most slot) device.taken in
    omega (arith, put, here, taken)

stale_state : (b : Bool) (state : GroupState) → is_collecting (stale_if b state) ≡ is_collecting state
stale_state true Collecting = refl
stale_state true Awaiting = refl
stale_state true Stale = refl
stale_state true Closed = refl
stale_state false Collecting = refl
stale_state false Awaiting = refl
stale_state false Stale = refl
stale_state false Closed = refl

stale_most : (pasid : ℕ) (group : Option GroupWire) → group_weight (stale_of pasid group) ≤ group_weight group
stale_most pasid None = omega arith
stale_most pasid (Some group) =
    let same = ap collecting_weight (stale_state (group.pasid == pasid) group.state) in
    omega (arith, same)

-- one that was to stop has
pub quit_less : (place : ℕ) (device : DeviceWire) → get_or device.pasids place Off ≡ Ending
    → device_weight (with_pasid (suc place) Off (record device { groups = map (stale_of (suc place)) device.groups })) + 2 ≤ device_weight device
quit_less place device h =
    let put = put_or pasid_weight device.pasids place Off Off refl in
    let here : pasid_weight (get_or device.pasids place Off) ≡ 2 = ap pasid_weight h in
    let groups = changed group_weight group_weight (stale_of (suc place)) (stale_most (suc place)) device.groups in
    omega (arith, put, here, groups)

most_collecting : (b : Bool) → collecting_weight b ≤ 6
most_collecting true = omega arith
most_collecting false = omega arith

with_request_most : (last : Bool) (group : Option GroupWire) → group_weight (with_request last group) ≤ 6
with_request_most last None = omega arith
with_request_most last (Some group) = most_collecting (is_collecting (sent_as last))

pub requested_most : (index : ℕ) (last : Bool) (device : DeviceWire) → device_weight (requested index last device) ≤ device_weight device + 6
requested_most index last device =
    let put = put_most group_weight device.groups index (with_request last (get_or device.groups index None)) in
    let most = with_request_most last (get_or device.groups index None) in
    omega (arith, put, most)

-- the last one of a group that goes on
pub finished_less : (index : ℕ) (device : DeviceWire) (group : GroupWire) → get_or device.groups index None ≡ Some group
    → is_collecting group.state ≡ true → device_weight (requested index true device) + 6 ≤ device_weight device
finished_less index device group h is =
    let put = put_or group_weight device.groups index (with_request true (get_or device.groups index None)) None refl in
    let here : group_weight (get_or device.groups index None) ≡ 6 = ap group_weight h ∙ ap collecting_weight is in
    let after : group_weight (with_request true (get_or device.groups index None)) ≡ 0 = ap (λ o. group_weight (with_request true o)) h in
    omega (arith, put, here, after)

pub begun_most : (index pasid : ℕ) (last : Bool) (device : DeviceWire)
    → device_weight (record device { groups = slice_set device.groups index (Some (record { pasid = pasid; state = sent_as last; requests = 1 })) })
    ≤ device_weight device + 6
begun_most index pasid last device =
    let put = put_most group_weight device.groups index (Some (record { pasid = pasid; state = sent_as last; requests = 1 })) in
    let most = most_collecting (is_collecting (sent_as last)) in
    omega (arith, put, most)

pub named_less : (vector : ℕ) (device : DeviceWire) → any_below Limits.itags (Labels.is_set vector) ≡ true
    → any_below Limits.itags (λ itag. Labels.is_set vector itag && is_none (get_or device.taken itag None)) ≡ false
    → device_weight (record device { taken = without_named vector device.taken }) + 2 ≤ device_weight device
named_less vector device is there =
    let less = named_out taken_weight (Labels.is_set vector) device.taken refl (λ taken. omega arith) Limits.itags is there in
    omega (arith, less)
