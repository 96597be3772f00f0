-- What each step of an endpoint's own, and each delivery, leaves weighs less than what was kept before, with its price.
use Rattle.std.proofs.Common.{◌≡◌, ◌∙◌, ◌<◌, ◌≤◌, ℕ, zero, suc, ◌+◌, Bool, true, false, List, [], ◌∷◌, ◌++◌, map, get_or}
use Rattle.std.proofs.Common.{Option, Some, None, refl, ap, sym, arith}
use Rattle.std.proofs.lemmas.Bool.{and_parts, eqb-true, not-false, or_parts}
use Rattle.std.proofs.lemmas.List.Sums.{sum_by_push}
use Rattle.std.proofs.lemmas.Option.{same_Some}
use Rattle.std.specs.Prelude.{◌==◌, ◌&&◌, ◌||◌, not, if◌then◌else◌, filter, find, is_none, slice_set}
use Rattle.sva_step.specs.Limits
use Rattle.sva_model.specs.Words.{any_below}
use Rattle.sva_model.specs.Message.{Message}
use Rattle.sva_model.specs.Message.Message.{StartMessage, StopMessage, ResetMessage, CompletionMessage, InvalidateMessage, ResponseMessage, RequestMessage}
use Rattle.sva_model.specs.Message.Message.{InvalidatedMessage, PageRequestMessage, MarkerMessage, ResetDoneMessage}
use Rattle.sva_model.specs.State.{PasidState}
use Rattle.sva_model.specs.State.PasidState.{Off, On, Ending}
use Rattle.sva_model.specs.States.{is_collecting, is_ending}
use Rattle.sva_model.specs.StateChanges.{count_field, disables, sent_as}
use Rattle.sva_model.specs.Labels
use Rattle.sva_model.specs.Wire.{Wire, PageWire, DeviceWire, RequestWire, TranslationWire, GroupWire}
use Rattle.sva_model.specs.Wire.{PageRequestWire, FlightWire}
use Rattle.sva_model.specs.Wire.UseWire.{RunningWire}
use Rattle.sva_labels.proofs.Steps.{Passed}
use Rattle.sva_labels.specs.Causes as causes
use Rattle.sva_labels.specs.Finding.{bearer, cached, device_of, flight_of, group_at, has_unfinished_group, is_at_page, lowest_label}
use Rattle.sva_labels.specs.Finding.{pasid_state, part_of, tag_at, taken_at, unit_of, use_at}
use Rattle.sva_labels.specs.Moves as moves
use Rattle.sva_labels.specs.Moves.{Move, all_moved, delivered, extent_in, moved, with_device, with_part, with_pasid, with_unit}
use Rattle.sva_labels.specs.Outcomes as outcomes
use Rattle.sva_script_laws.specs.Weights.{device_weight, group_weight, message_weight, queued_weight, slot_weight, translation_weight, wire_weight}
use Rattle.sva_script_laws.proofs.WeighedLists.{found_out, put_most}
use Rattle.sva_script_laws.proofs.MovesWeighed.{begun_most, cleared_most, delivered_less, ended_less, finished_less, kept_most, named_less, one_copy, quit_less}
use Rattle.sva_script_laws.proofs.MovesWeighed.{requested_most, sent_weighs, taking_most, with_device_most, with_part_most, with_pasid_most, with_unit_most}
use Rattle.sva_script_laws.proofs.StepsWeighed.{IsBelow, some_of}

-- ---- an endpoint's own

pub end_below : (wire : Wire) (endpoint slot : ℕ) → Passed (causes.device_causes_of_end (device_of wire endpoint) slot)
    → wire_weight (moved wire (Move.End endpoint slot)) < wire_weight wire
end_below wire endpoint slot passed =
    let device = device_of wire endpoint in
    let held = some_of (use_at device slot) passed.0 in
    let less = ended_less slot device held.0 held.1 in
    let put = with_device_most wire endpoint (moves.ended slot device) in
    omega (arith, less, put)

pub evict_below : (wire : Wire) (endpoint pasid page : ℕ) → Passed (causes.device_causes_of_evict (device_of wire endpoint) pasid page)
    → wire_weight (moved wire (Move.Evict endpoint pasid page)) < wire_weight wire
evict_below wire endpoint pasid page passed =
    let device = device_of wire endpoint in
    let held = some_of (cached device pasid page) passed.1.0 in
    let less = found_out translation_weight (is_at_page pasid page) device.cache held.0 held.1 in
    let put = with_device_most wire endpoint
    (record device { cache = filter (λ translation. not (is_at_page pasid page translation)) device.cache }) in
    omega (arith, less, put)

pub ask_below : (wire : Wire) (endpoint pasid page tag : ℕ) → wire_weight (moved wire (Move.Ask endpoint pasid page tag)) < wire_weight wire + 4
ask_below wire endpoint pasid page tag =
    let device = record (device_of wire endpoint) {
      tags = slice_set (device_of wire endpoint).tags tag (Some (record { pasid = pasid; page = page; is_doomed = false }));
    } in
    let put = with_device_most wire endpoint device in
    let more = sent_weighs endpoint (RequestMessage tag pasid page) (with_device wire endpoint device) in
    omega (arith, put, more)

pub begin_below : (wire : Wire) (endpoint slot : ℕ) (o : Option TranslationWire)
    → IsBelow (wire_weight wire + 2) wire (outcomes.begin_result endpoint slot o)
begin_below wire endpoint slot None = omega arith
begin_below wire endpoint slot (Some translation) =
    let device = device_of wire endpoint in
    let most = put_most slot_weight device.slots slot (Some (RunningWire translation)) in
    let put = with_device_most wire endpoint (record device { slots = slice_set device.slots slot (Some (RunningWire translation)) }) in
    omega (arith, most, put)

group_below : (wire : Wire) (endpoint pasid index page : ℕ) (read write last : Bool)
    → wire_weight (moved wire (Move.Group endpoint pasid index page read write last)) < wire_weight wire + 12
group_below wire endpoint pasid index page read write last =
    let device = device_of wire endpoint in
    let begun = record device { groups = slice_set device.groups index (Some (record { pasid = pasid; state = sent_as last; requests = 1 })) } in
    let most = begun_most index pasid last device in
    let put = with_device_most wire endpoint begun in
    let more = sent_weighs endpoint (PageRequestMessage pasid index page read write last) (with_device wire endpoint begun) in
    omega (arith, most, put, more)

further_below : (wire : Wire) (endpoint pasid index page : ℕ) (read write last : Bool)
    → wire_weight (moved wire (Move.Request endpoint pasid index page read write last)) < wire_weight wire + 12
further_below wire endpoint pasid index page read write last =
    let device = device_of wire endpoint in
    let most = requested_most index last device in
    let put = with_device_most wire endpoint (moves.requested index last device) in
    let more = sent_weighs endpoint (PageRequestMessage pasid index page read write last)
    (with_device wire endpoint (moves.requested index last device)) in
    omega (arith, most, put, more)

pub fault_below : (wire : Wire) (endpoint pasid page : ℕ) (read write last : Bool) (o : Option ℕ)
    → IsBelow (wire_weight wire + 12) wire (outcomes.fault_result (device_of wire endpoint) endpoint pasid page read write last o)
fault_below wire endpoint pasid page read write last None =
    group_below wire endpoint pasid (outcomes.label (lowest_label (device_of wire endpoint).groups)) page read write last
fault_below wire endpoint pasid page read write last (Some index) = further_below wire endpoint pasid index page read write last

unfinished : (pasid : ℕ) (o : Option GroupWire) → has_unfinished_group pasid o ≡ true
    → (group : GroupWire) × (o ≡ Some group) × (is_collecting group.state ≡ true)
unfinished pasid None h = absurd (cc)
unfinished pasid (Some group) h = (group, refl, (and_parts (is_collecting group.state) (group.pasid == pasid) h).0)

-- the last page request of a group is paid by that
pub last_below : (wire : Wire) (endpoint pasid page index : ℕ) (read write : Bool)
    → causes.is_other_group (device_of wire endpoint) pasid (Some index) ≡ false
    → wire_weight (moved wire (Move.Request endpoint pasid index page read write true)) < wire_weight wire
last_below wire endpoint pasid page index read write h =
    let device = device_of wire endpoint in
    let its = unfinished pasid (group_at device index) (not-false (has_unfinished_group pasid (group_at device index)) h) in
    let less = finished_less index device its.0 its.1 its.2 in
    let put = with_device_most wire endpoint (moves.requested index true device) in
    let more = sent_weighs endpoint (PageRequestMessage pasid index page read write true)
    (with_device wire endpoint (moves.requested index true device)) in
    omega (arith, less, put, more)

-- one completion
pub finish_below : (wire : Wire) (endpoint vector : ℕ)
    → (Labels.names_none vector || any_below Limits.itags (λ itag. Labels.is_set vector itag && is_none (taken_at (device_of wire endpoint) itag))) ≡ false
    → wire_weight (moved wire (Move.Finish endpoint vector 1)) < wire_weight wire
finish_below wire endpoint vector passed =
    let device = device_of wire endpoint in
    let its = or_parts (Labels.names_none vector)
    (any_below Limits.itags (λ itag. Labels.is_set vector itag && is_none (taken_at (device_of wire endpoint) itag))) passed in
    let some = not-false (any_below Limits.itags (Labels.is_set vector)) its.0 in
    let less = named_less vector device some its.1 in
    let after = with_device wire endpoint (record device { taken = moves.without_named vector device.taken }) in
    let put = with_device_most wire endpoint (record device { taken = moves.without_named vector device.taken }) in
    let more = one_copy after endpoint (InvalidatedMessage vector (count_field 1)) in
    omega (arith, less, put, more)

quit_by : (wire : Wire) (endpoint pasid : ℕ) → is_ending (pasid_state (device_of wire endpoint) pasid) ≡ true
    → wire_weight (moved wire (Move.Quit endpoint pasid)) < wire_weight wire
quit_by wire endpoint zero h = absurd (cc)
quit_by wire endpoint (suc place) h =
    let device = device_of wire endpoint in
    let quit = with_pasid (suc place) Off (record device { groups = map (moves.stale_of (suc place)) device.groups }) in
    let less = quit_less place device (ending (get_or device.pasids place Off) h) in
    let put = with_device_most wire endpoint quit in
    let more = sent_weighs endpoint (MarkerMessage (suc place)) (with_device wire endpoint quit) in
    omega (arith, less, put, more)
  where
    ending : (state : PasidState) → is_ending state ≡ true → state ≡ Ending
    ending Off is = absurd (cc)
    ending On is = absurd (cc)
    ending Ending is = refl

pub quit_below : (wire : Wire) (endpoint pasid : ℕ) → not (is_ending (pasid_state (device_of wire endpoint) pasid)) ≡ false
    → wire_weight (moved wire (Move.Quit endpoint pasid)) < wire_weight wire
quit_below wire endpoint pasid passed = quit_by wire endpoint pasid (not-false (is_ending (pasid_state (device_of wire endpoint) pasid)) passed)

-- ---- deliveries

-- what comes of a message in flight weighs less than that
abbrev IsUsed : Wire → FlightWire → Wire → Type 0
IsUsed wire flight next = wire_weight next < wire_weight wire

-- an endpoint with what the message makes of it, which is in flight no more
comes : (wire : Wire) (endpoint : ℕ) (flight : FlightWire) (device : DeviceWire) (more : ℕ) → flight_of wire flight.number ≡ Some flight
    → device_weight device ≤ device_weight (device_of wire endpoint) + more
    → wire_weight (delivered flight.number (with_device wire endpoint device)) + message_weight flight.message ≤ wire_weight wire + more
comes wire endpoint flight device more h most =
    let less = delivered_less (with_device wire endpoint device) flight.number flight h in
    let put = with_device_most wire endpoint device in
    omega (arith, less, put, most)

-- a message that only goes
goes : (wire : Wire) (flight : FlightWire) (m : Message) → flight_of wire flight.number ≡ Some flight → flight.message ≡ m → 0 < message_weight m
    → wire_weight (delivered flight.number wire) < wire_weight wire
goes wire flight m h is some =
    let less = delivered_less wire flight.number flight h in
    let same = ap message_weight is in
    omega (arith, less, same, some)

completed : (wire : Wire) (flight : FlightWire) (tag frame : ℕ) (read write doomed : Bool) (request : RequestWire)
    → flight_of wire flight.number ≡ Some flight → message_weight flight.message ≡ 2
    → IsBelow (wire_weight wire) wire
    (outcomes.completion_by (device_of wire flight.endpoint) flight.endpoint flight.number tag frame read write doomed request)
completed wire flight tag frame read write doomed request h is = by_kind read doomed
  where
    forgotten : wire_weight (moved wire (Move.Forget flight.endpoint flight.number tag)) < wire_weight wire
    forgotten =
        let less = comes wire flight.endpoint flight (moves.without_tag tag (device_of wire flight.endpoint)) 0 h (omega arith) in
        omega (arith, less, is)

    by_full : (b : Bool) (translation : TranslationWire)
        → IsBelow (wire_weight wire) wire (outcomes.keep_result flight.endpoint flight.number tag translation b)
    by_full true translation = forgotten
    by_full false translation =
        let device = device_of wire flight.endpoint in
        let most = kept_most translation device.cache in
        let less = comes wire flight.endpoint flight
        (moves.without_tag tag (record device { cache = moves.kept translation device.cache })) 1 h (omega (arith, most)) in
        omega (arith, less, is)

    by_kind : (read doomed : Bool) → IsBelow (wire_weight wire) wire
        (outcomes.completion_by (device_of wire flight.endpoint) flight.endpoint flight.number tag frame read write doomed request)
    by_kind read true = forgotten
    by_kind false false = forgotten
    by_kind true false =
        by_full (outcomes.is_full (device_of wire flight.endpoint).cache request.pasid request.page)
        (record { pasid = request.pasid; page = request.page; frame = frame; write = write })

answered : (wire : Wire) (flight : FlightWire) (tag frame : ℕ) (read write : Bool) (o : Option RequestWire)
    → flight_of wire flight.number ≡ Some flight → flight.message ≡ CompletionMessage tag frame read write
    → IsBelow (wire_weight wire) wire
    (outcomes.completion_result (device_of wire flight.endpoint) flight.endpoint flight.number tag frame read write o)
answered wire flight tag frame read write None h is = goes wire flight (CompletionMessage tag frame read write) h is (omega arith)
answered wire flight tag frame read write (Some request) h is =
    completed wire flight tag frame read write request.is_doomed request h (ap message_weight is)

completion_weighs : (tag : ℕ) (o : Option PageWire) → message_weight (outcomes.completion_of tag o) ≡ 2
completion_weighs tag None = refl
completion_weighs tag (Some entry) = refl

asked : (wire : Wire) (flight : FlightWire) (tag pasid page : ℕ) (b : Bool) → flight_of wire flight.number ≡ Some flight
    → flight.message ≡ RequestMessage tag pasid page
    → IsBelow (wire_weight wire) wire (outcomes.request_result wire flight.endpoint flight.number tag pasid page b)
asked wire flight tag pasid page false h is = goes wire flight (RequestMessage tag pasid page) h is (omega arith)
asked wire flight tag pasid page true h is =
    let found = outcomes.found_for wire page (bearer wire flight.endpoint pasid) in
    let less = delivered_less wire flight.number flight h in
    let same = ap message_weight is in
    let more = sent_weighs flight.endpoint (outcomes.completion_of tag found) (delivered flight.number wire) in
    let weighs = completion_weighs tag found in
    omega (arith, less, same, more, weighs)

counted : (wire : Wire) (flight : FlightWire) (vector field count : ℕ) (b : Bool) → flight_of wire flight.number ≡ Some flight
    → flight.message ≡ InvalidatedMessage vector field
    → IsBelow (wire_weight wire) wire (outcomes.count_result (unit_of wire flight.endpoint) flight.endpoint flight.number vector count b)
counted wire flight vector field count false h is = goes wire flight (InvalidatedMessage vector field) h is (omega arith)
counted wire flight vector field count true h is =
    let unit = unit_of wire flight.endpoint in
    let after = with_unit wire flight.endpoint (record unit { busy = moves.completed vector count unit.busy }) in
    let put = with_unit_most wire flight.endpoint (record unit { busy = moves.completed vector count unit.busy }) in
    let less = delivered_less after flight.number flight h in
    let same = ap message_weight is in
    omega (arith, put, less, same)

queued : (wire : Wire) (flight : FlightWire) (request : PageRequestWire) (b : Bool) → flight_of wire flight.number ≡ Some flight
    → message_weight flight.message ≡ 5
    → IsBelow (wire_weight wire) wire (outcomes.page_request_result flight.endpoint flight.number request b)
queued wire flight request false h is =
    let less = delivered_less wire flight.number flight h in
    omega (arith, less, is)
queued wire flight request true h is =
    let part = part_of wire flight.endpoint in
    let more = sum_by_push queued_weight part.page_queue request in
    let after = with_part wire flight.endpoint (record part { page_queue = part.page_queue ++ request ∷ [] }) in
    let put = with_part_most wire flight.endpoint (record part { page_queue = part.page_queue ++ request ∷ [] }) in
    let less = delivered_less after flight.number flight h in
    omega (arith, more, put, less, is)

marked : (wire : Wire) (flight : FlightWire) (pasid binding : ℕ) (b : Bool) → flight_of wire flight.number ≡ Some flight
    → flight.message ≡ MarkerMessage pasid
    → IsBelow (wire_weight wire) wire (outcomes.marker_result flight.endpoint flight.number binding b)
marked wire flight pasid binding true h is = goes wire flight (MarkerMessage pasid) h is (omega arith)
marked wire flight pasid binding false h is = goes wire flight (MarkerMessage pasid) h is (omega arith)

message_below : (wire : Wire) (flight : FlightWire) (m : Message) → flight_of wire flight.number ≡ Some flight → flight.message ≡ m
    → IsBelow (wire_weight wire) wire (outcomes.message_result wire flight.endpoint flight.number m)
message_below wire flight (StartMessage pasid) h is =
    let most = with_pasid_most pasid On (device_of wire flight.endpoint) in
    let less = comes wire flight.endpoint flight (with_pasid pasid On (device_of wire flight.endpoint)) 0 h (omega (arith, most)) in
    let same = ap message_weight is in
    omega (arith, less, same)
message_below wire flight (StopMessage pasid) h is =
    let most = with_pasid_most pasid Ending (device_of wire flight.endpoint) in
    let less = comes wire flight.endpoint flight (with_pasid pasid Ending (device_of wire flight.endpoint)) 2 h (omega (arith, most)) in
    let same = ap message_weight is in
    omega (arith, less, same)
message_below wire flight ResetMessage h is =
    let cleared = moves.cleared (device_of wire flight.endpoint) in
    let most = cleared_most (device_of wire flight.endpoint) in
    let less = comes wire flight.endpoint flight cleared 0 h (omega (arith, most)) in
    let more = sent_weighs flight.endpoint ResetDoneMessage (delivered flight.number (with_device wire flight.endpoint cleared)) in
    let same = ap message_weight is in
    omega (arith, less, more, same)
message_below wire flight (CompletionMessage tag frame read write) h is =
    answered wire flight tag frame read write (tag_at (device_of wire flight.endpoint) tag) h is
message_below wire flight (InvalidateMessage itag pasid scope) h is =
    let most = taking_most itag pasid (extent_in scope) (device_of wire flight.endpoint) in
    let less = comes wire flight.endpoint flight (moves.taking itag pasid (extent_in scope) (device_of wire flight.endpoint)) 2 h most in
    let same = ap message_weight is in
    omega (arith, less, same)
message_below wire flight (ResponseMessage pasid index code) h is =
    let device = device_of wire flight.endpoint in
    let most = put_most group_weight device.groups index None in
    let less = comes wire flight.endpoint flight
    (record device { groups = slice_set device.groups index None; is_disabled = device.is_disabled || disables code }) 0 h (omega (arith, most)) in
    let same = ap message_weight is in
    omega (arith, less, same)
message_below wire flight (RequestMessage tag pasid page) h is = asked wire flight tag pasid page (unit_of wire flight.endpoint).is_open h is
message_below wire flight (InvalidatedMessage vector field) h is =
    counted wire flight vector field (outcomes.count_read field) (unit_of wire flight.endpoint).is_open h is
message_below wire flight (PageRequestMessage pasid index page read write last) h is =
    queued wire flight (record { pasid = pasid; index = index; ask = record { page = page; read = read; write = write }; last = last })
    (unit_of wire flight.endpoint).is_open h (ap message_weight is)
message_below wire flight (MarkerMessage pasid) h is =
    marked wire flight pasid (outcomes.binding_or_0 (bearer wire flight.endpoint pasid)) (unit_of wire flight.endpoint).is_open h is
message_below wire flight ResetDoneMessage h is =
    let unit = unit_of wire flight.endpoint in
    let opened = record unit { is_open = true; busy = map (λ tag. None) unit.busy; front = unit.waits_end } in
    let put = with_unit_most wire flight.endpoint opened in
    let less = delivered_less (with_unit wire flight.endpoint opened) flight.number flight h in
    let same = ap message_weight is in
    omega (arith, put, less, same)

number_is : (flights : List FlightWire) (number : ℕ) (flight : FlightWire) → find (λ (one : FlightWire). one.number == number) flights ≡ Some flight
    → flight.number ≡ number
number_is [] number flight h = absurd (cc)
number_is (one ∷ flights) number flight h = by_test (one.number == number) refl h (λ rest. number_is flights number flight rest)
  where
    by_test : (b : Bool) → (one.number == number) ≡ b
        → (if b then Some one else find (λ (other : FlightWire). other.number == number) flights) ≡ Some flight
        → (find (λ (other : FlightWire). other.number == number) flights ≡ Some flight → flight.number ≡ number) → flight.number ≡ number
    by_test true is same rest = sym (ap (λ (it : FlightWire). it.number) (same_Some one flight same)) ∙ eqb-true one.number number is
    by_test false is same rest = rest same

pub deliver_below : (wire : Wire) (number : ℕ) (o : Option FlightWire) → flight_of wire number ≡ o → Passed (causes.deliver_causes wire o)
    → IsBelow (wire_weight wire) wire (outcomes.deliver_result wire o)
deliver_below wire number None h passed = absurd (let never = passed.0 in cc never)
deliver_below wire number (Some flight) h passed =
    let same = number_is wire.in_flight number flight h in
    message_below wire flight flight.message (ap (flight_of wire) same ∙ h) refl
