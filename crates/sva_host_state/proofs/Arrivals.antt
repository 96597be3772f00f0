-- Deliveries of messages that a host sends to an endpoint, by labels.
use Rattle.std.proofs.Common.{◌≡◌, refl, ap, sym, ◌∙◌, subst, ℕ, zero, suc, Bool, true, false}
use Rattle.std.specs.Prelude.{◌&&◌, ◌||◌, not, if◌then◌else◌, Ok, Err, Option, Some, None, List, [], ◌∷◌, slice_set, slice_index_or, IsTrue}
use Rattle.std.specs.List.{list_any}
use Rattle.sva_step.specs.declared.answers.Answer.{Answer}
use Rattle.sva_step.specs.declared.answers.Answer.TheVariants as answer
use Rattle.sva_step.specs.declared.refusals.Refusal.TheVariants as refusal
use Rattle.sva_step.specs.declared.steps.Step.TheVariants as step
use Rattle.sva_model.specs.StateChanges.{disables}
use Rattle.sva_model.specs.Range.{Range}
use Rattle.sva_model.specs.State.{PasidState as DeviceState}
use Rattle.sva_model.specs.Wire.{Wire, EndpointWire, DeviceWire, RequestWire, FlightWire}
use Rattle.sva_labels.specs.Finding.{device_of, unit_of, flight_of, may_deliver, holds_back, tag_at, group_at, idle}
use Rattle.sva_labels.specs.Causes.{lacks, delivery_sends, deliver_causes}
use Rattle.sva_labels.specs.Host.{Decision, checked, decide_of}
use Rattle.sva_labels.specs.Moves.{Move, moved, delivered, with_device, with_pasid, taking, extent_in, extent_or_all}
use Rattle.sva_labels.specs.Outcomes.{Result as Outcome, by_one, message_result, deliver_result, completion_result, completion_by, keep_result, is_full}
use Rattle.sva_labels.specs.Outcomes.{response_said}
use Rattle.sva_msg.specs.declared.messages.Code.{Code}
use Rattle.sva_msg.specs.declared.messages.Code.TheVariants.{Success, InvalidRequest, ResponseFailure}
use Rattle.sva_msg.specs.declared.messages.Scope.{Scope}
use Rattle.sva_msg.specs.declared.messages.Scope.TheVariants as scope
use Rattle.sva_msg.specs.declared.messages.Kind.{Kind}
use Rattle.sva_msg.specs.declared.messages.Kind.TheVariants.{Start, Stop, Reset, Completion, Invalidate, Response, Request, Invalidated, PageRequest}
use Rattle.sva_msg.specs.declared.messages.Kind.TheVariants.{Marker, ResetDone}
use Rattle.sva_msg.specs.declared.messages.Message.{Message as Sent}
use Rattle.sva_msg.specs.Bag.{IsNumbered, MayDeliver, message_at, without}
use Rattle.sva_msg.specs.Extents.{extent_of, pages_of}
use Rattle.sva_endpoint.specs.Tables.{Tables}
use Rattle.sva_endpoint.specs.Deliveries.{after_receive, answer_to, is_failure}
use Rattle.sva_parts_by_labels.specs.Device.{device_seen}
use Rattle.sva_msg.specs.Seen.{extent_seen}
use Rattle.sva_parts_by_labels.specs.DeviceLaws.{completion_said, said_by, completed, completed_by, kept_of}
use Rattle.sva_parts_by_labels.specs.Flights.{kind_seen, code_seen, scope_seen, flight_seen, flight_at, flights_seen}
use Rattle.sva_parts_by_labels.proofs.Flights.{flight_laws}
use Rattle.sva_parts_by_labels.proofs.Deliveries.{start_is_seen, stop_is_seen, completion_is_seen, invalidation_is_seen, response_is_seen}
use Rattle.sva_host_state.specs.declared.host_state.HostState.TheInside.{Inside as HostState}
use Rattle.sva_host_state.specs.declared.host_state.Port.{Port}
use Rattle.sva_host_state.specs.Inner.{wire_of}
use Rattle.sva_host_state.specs.Arriving.{IsArriving, answers}
use Rattle.sva_host_state.specs.Steps.{Does, ByLabels, IsDown}
use Rattle.sva_host_state.proofs.Ports.{IsPort, with_tables, with_tables_seen}
use Rattle.sva_host_state.proofs.Devices.{device_there}

-- What is found.

pub flight_found : (host : HostState) (n : ℕ) (sent : Sent) → IsNumbered host.in_flight → Some sent ≡ message_at host.in_flight n
    → flight_of (wire_of host) n ≡ Some (flight_seen (n, sent))
flight_found host n sent numbered found = (flight_laws host.in_flight numbered).by_number n ∙ ap (flight_at n) (sym found)

decided : (host : HostState) (n : ℕ) (o : Option FlightWire) → flight_of (wire_of host) n ≡ o
    → decide_of (wire_of host) (step.Deliver n) ≡ checked (deliver_causes (wire_of host) o) (deliver_result (wire_of host) o)
decided host n o found = ap (λ (f : Option FlightWire). checked (deliver_causes (wire_of host) f) (deliver_result (wire_of host) f)) found

pub no_message : (host : HostState) (v : Wire) (n : ℕ) → wire_of host ≡ v → IsNumbered host.in_flight → None ≡ message_at host.in_flight n
    → ByLabels v (step.Deliver n) (Err refusal.NoSuchMessage) v
no_message host v n view numbered none =
    subst (λ (u : Wire). ByLabels u (step.Deliver n) (Err refusal.NoSuchMessage) u) view
    (subst (λ (d : Decision). Does d (wire_of host) (Err refusal.NoSuchMessage) (wire_of host))
    (sym (decided host n None ((flight_laws host.in_flight numbered).by_number n ∙ ap (flight_at n) (sym none)))) (refl, refl))

-- Whether it may be delivered.

is_not_false : (b : Bool) → (b ≡ false → ⊥) → b ≡ true
is_not_false true h = refl
is_not_false false h = absurd (h refl)

never : false ≡ true → ⊥
never h = cc

pub overtakes : (host : HostState) (v : Wire) (n : ℕ) (sent : Sent) (may : Bool) → wire_of host ≡ v → IsNumbered host.in_flight → Some sent
    ≡ message_at host.in_flight n
    → (MayDeliver host.in_flight n → IsTrue may) → may ≡ false
    → ByLabels v (step.Deliver n) (Err refusal.Overtakes) v
overtakes host v n sent may view numbered found tells not_may =
    subst (λ (u : Wire). ByLabels u (step.Deliver n) (Err refusal.Overtakes) u) view
    (subst (λ (d : Decision). Does d (wire_of host) (Err refusal.Overtakes) (wire_of host))
    (sym (decided host n (Some (flight_seen (n, sent))) (flight_found host n sent numbered found)))
    (go (list_any (holds_back (flight_seen (n, sent))) (flights_seen host.in_flight)) held))
  where
    held : list_any (holds_back (flight_seen (n, sent))) (flights_seen host.in_flight) ≡ true
    held =
        is_not_false _
        (λ free. never (sym not_may ∙ tells (((flight_laws host.in_flight numbered).may_deliver n sent (sym found)).0 free)))

    go : (b : Bool) → b ≡ true
        → Does
        (checked
        ((not (not b), refusal.Overtakes)
        ∷ (delivery_sends (unit_of (wire_of host) sent.endpoint) (kind_seen sent.kind) && lacks (wire_of host).next_message 1, refusal.NumbersSpent)
        ∷ [])
        (message_result (wire_of host) sent.endpoint n (kind_seen sent.kind)))
        (wire_of host) (Err refusal.Overtakes) (wire_of host)
    go true is = (refl, refl)
    go false is = absurd (never is)

pub may_be : (host : HostState) (n : ℕ) (sent : Sent) (may : Bool) → IsNumbered host.in_flight → Some sent ≡ message_at host.in_flight n
    → (IsTrue may → MayDeliver host.in_flight n) → may ≡ true → may_deliver (wire_of host) (flight_seen (n, sent)) ≡ true
may_be host n sent may numbered found tells is =
    ap not (((flight_laws host.in_flight numbered).may_deliver n sent (sym found)).1 (tells is))

-- What is done.

arrived : (host : HostState) (e n : ℕ) (port : Port) (tables : Tables) (a : Answer) (m : Move) (d : DeviceWire) → IsNumbered host.in_flight → IsPort host e port
    → decide_of (wire_of host) (step.Deliver n) ≡ record { reply = Ok a; moves = m ∷ [] }
    → moved (wire_of host) m ≡ delivered n (with_device (wire_of host) e d)
    → device_seen tables ≡ d
    → ByLabels (wire_of host) (step.Deliver n) (Ok a) (wire_of (record (with_tables host e port tables) { in_flight = without host.in_flight n }))
arrived host e n port tables a m d numbered is decides moves same =
    subst (λ (c : Decision). Does c (wire_of host) (Ok a)
    (wire_of (record (with_tables host e port tables) { in_flight = without host.in_flight n }))) (sym decides)
    (refl, after ∙ sym moves)
  where
    after : wire_of (record (with_tables host e port tables) { in_flight = without host.in_flight n }) ≡ delivered n (with_device (wire_of host) e d)
    after = λ i. record (with_tables_seen host e port tables d is same i) { in_flight = (flight_laws host.in_flight numbered).delivered n i }

-- a message to the endpoint that may be delivered
accepted : (host : HostState) (e n : ℕ) (kind : Kind) → flight_of (wire_of host) n ≡ Some (flight_seen (n, record { endpoint = e; kind = kind }))
    → may_deliver (wire_of host) (flight_seen (n, record { endpoint = e; kind = kind })) ≡ true
    → delivery_sends (unit_of (wire_of host) e) (kind_seen kind) ≡ false
    → (r : Outcome) → message_result (wire_of host) e n (kind_seen kind) ≡ r
    → decide_of (wire_of host) (step.Deliver n) ≡ record { reply = Ok r.answer; moves = r.moves }
accepted host e n kind found may quiet r result =
    decided host n _ found
    ∙ go (may_deliver (wire_of host) (flight_seen (n, record { endpoint = e; kind = kind })))
    (delivery_sends (unit_of (wire_of host) e) (kind_seen kind)) may quiet
    ∙ ap (λ (s : Outcome). record { reply = Ok s.answer; moves = s.moves }) result
  where
    go : (b c : Bool) → b ≡ true → c ≡ false
        → checked ((not b, refusal.Overtakes) ∷ (c && lacks (wire_of host).next_message 1, refusal.NumbersSpent) ∷ [])
        (message_result (wire_of host) e n (kind_seen kind))
        ≡ record {
          reply = Ok (message_result (wire_of host) e n (kind_seen kind)).answer;
          moves =
              (message_result (wire_of host) e n (kind_seen kind)).moves;
        }
    go true false b c = refl
    go true true b c = absurd (never (sym c))
    go false c b _ = absurd (never b)

extent_same : (s : Scope) → extent_seen (extent_of s) ≡ extent_in (scope_seen s)
extent_same scope.All = refl
extent_same (scope.Code page s) = go _
  where
    go : (o : Option Range) → extent_seen (pages_of o) ≡ extent_or_all o
    go None = refl
    go (Some range) = refl

failure_same : (code : Code) → is_failure code ≡ disables (code_seen code)
failure_same Success = refl
failure_same InvalidRequest = refl
failure_same ResponseFailure = refl

-- nothing is lost where the same is put back
put_back : (parts : List EndpointWire) (e : ℕ) → parts ≡ slice_set parts e (slice_index_or parts e idle)
put_back [] e = refl
put_back (p ∷ parts) zero = refl
put_back (p ∷ parts) (suc e) = ap (λ ps. p ∷ ps) (put_back parts e)

-- a translation completion, by the request that bears its tag
abbrev pub keep_move : (e n tag f : ℕ) → (x : Bool) → RequestWire → (full : Bool) → Move
keep_move e n tag f x r true = Move.Forget e n tag
keep_move e n tag f x r false = Move.Keep e n tag (record { pasid = r.pasid; page = r.page; frame = f; write = x })

abbrev pub move_by : DeviceWire → (e n tag f : ℕ) → (read x is_doomed : Bool) → RequestWire → Move
move_by d e n tag f read x true r = Move.Forget e n tag
move_by d e n tag f false x false r = Move.Forget e n tag
move_by d e n tag f true x false r = keep_move e n tag f x r (is_full d.cache r.pasid r.page)

abbrev pub completion_move : DeviceWire → (e n tag f : ℕ) → (read x : Bool) → Option RequestWire → Move
completion_move d e n tag f read x None = Move.Ignore n
completion_move d e n tag f read x (Some r) = move_by d e n tag f read x r.is_doomed r

kept_result : (e n tag f : ℕ) (x : Bool) (r : RequestWire) (full : Bool)
    → keep_result e n tag (record { pasid = r.pasid; page = r.page; frame = f; write = x }) full
    ≡ by_one (if full then answer.Full else answer.Held) (keep_move e n tag f x r full)
kept_result e n tag f x r true = refl
kept_result e n tag f x r false = refl

result_by : (d : DeviceWire) (e n tag f : ℕ) (read x is_doomed : Bool) (r : RequestWire)
    → completion_by d e n tag f read x is_doomed r ≡ by_one (said_by d read is_doomed r) (move_by d e n tag f read x is_doomed r)
result_by d e n tag f read x true r = refl
result_by d e n tag f false x false r = refl
result_by d e n tag f true x false r = kept_result e n tag f x r (is_full d.cache r.pasid r.page)

result_seen : (d : DeviceWire) (e n tag f : ℕ) (read x : Bool) (o : Option RequestWire)
    → completion_result d e n tag f read x o ≡ by_one (completion_said d read o) (completion_move d e n tag f read x o)
result_seen d e n tag f read x None = refl
result_seen d e n tag f read x (Some r) = result_by d e n tag f read x r.is_doomed r

kept_moved : (w : Wire) (e n tag f : ℕ) (x : Bool) (r : RequestWire) (full : Bool)
    → moved w (keep_move e n tag f x r full) ≡ delivered n (with_device w e (kept_of (device_of w e) tag f x full r))
kept_moved w e n tag f x r true = refl
kept_moved w e n tag f x r false = refl

moved_by : (w : Wire) (e n tag f : ℕ) (read x is_doomed : Bool) (r : RequestWire)
    → moved w (move_by (device_of w e) e n tag f read x is_doomed r) ≡ delivered n (with_device w e (completed_by (device_of w e) tag f read x is_doomed r))
moved_by w e n tag f read x true r = refl
moved_by w e n tag f false x false r = refl
moved_by w e n tag f true x false r = kept_moved w e n tag f x r (is_full (device_of w e).cache r.pasid r.page)

move_seen : (w : Wire) (e n tag f : ℕ) (read x : Bool) (o : Option RequestWire)
    → moved w (completion_move (device_of w e) e n tag f read x o) ≡ delivered n (with_device w e (completed (device_of w e) tag f read x o))
move_seen w e n tag f read x None = λ i. delivered n (record w { parts = put_back w.parts e i })
move_seen w e n tag f read x (Some r) = moved_by w e n tag f read x r.is_doomed r

-- each kind of message
pub deliver_done : (host : HostState) (e n : ℕ) (kind : Kind) (port : Port) → IsNumbered host.in_flight → IsPort host e port
    → flight_of (wire_of host) n ≡ Some (flight_seen (n, record { endpoint = e; kind = kind }))
    → may_deliver (wire_of host) (flight_seen (n, record { endpoint = e; kind = kind })) ≡ true
    → IsDown (kind_seen kind)
    → ByLabels (wire_of host) (step.Deliver n) (Ok (answer_to port.device kind))
    (wire_of (record (with_tables host e port (after_receive port.device kind)) { in_flight = without host.in_flight n }))
deliver_done host e n (Start t) port numbered is found may down =
    arrived host e n port (after_receive port.device (Start t)) answer.Started (Move.StartArrives e n t)
    (with_pasid t DeviceState.On (device_of (wire_of host) e)) numbered is
    (accepted host e n (Start t) found may refl _ refl) refl
    (start_is_seen port.device t is.sound ∙ ap (with_pasid t DeviceState.On) (sym (device_there host e port is)))
deliver_done host e n (Stop t) port numbered is found may down =
    arrived host e n port (after_receive port.device (Stop t)) answer.Stopping (Move.StopArrives e n t)
    (with_pasid t DeviceState.Ending (device_of (wire_of host) e)) numbered is
    (accepted host e n (Stop t) found may refl _ refl) refl
    (stop_is_seen port.device t is.sound ∙ ap (with_pasid t DeviceState.Ending) (sym (device_there host e port is)))
deliver_done host e n (Completion tag f read x) port numbered is found may down =
    let d = device_of (wire_of host) e in
    let device = device_there host e port is in
    let seen = completion_is_seen port.device tag f read x is.sound in
    arrived host e n port (after_receive port.device (Completion tag f read x)) (answer_to port.device (Completion tag f read x))
    (completion_move d e n tag f read x (tag_at d tag)) (completed d tag f read x (tag_at d tag)) numbered is
    (accepted host e n (Completion tag f read x) found may refl _ (result_seen d e n tag f read x (tag_at d tag))
    ∙ ap (λ (a : Answer). record { reply = Ok a; moves = completion_move d e n tag f read x (tag_at d tag) ∷ [] })
    (ap (λ (c : DeviceWire). completion_said c read (tag_at c tag)) device ∙ sym seen.said))
    (move_seen (wire_of host) e n tag f read x (tag_at d tag))
    (seen.after ∙ ap (λ (c : DeviceWire). completed c tag f read x (tag_at c tag)) (sym device))
deliver_done host e n (Invalidate itag t s) port numbered is found may down =
    arrived host e n port (after_receive port.device (Invalidate itag t s)) answer.Taken (Move.Take e n itag t (extent_in (scope_seen s)))
    (taking itag t (extent_in (scope_seen s)) (device_of (wire_of host) e)) numbered is
    (accepted host e n (Invalidate itag t s) found may refl _ refl) refl
    (invalidation_is_seen port.device itag (record { pasid = t; extent = extent_of s }) is.sound
    ∙ (λ i. taking itag t (extent_same s i) (sym (device_there host e port is) i)))
deliver_done host e n (Response t k code) port numbered is found may down =
    let device = device_there host e port is in
    let seen = response_is_seen port.device t k code is.sound in
    arrived host e n port (after_receive port.device (Response t k code)) (answer_to port.device (Response t k code))
    (Move.Answered e n k (code_seen code)) _ numbered is
    (accepted host e n (Response t k code) found may refl _ refl
    ∙ ap (λ (a : Answer). record { reply = Ok a; moves = Move.Answered e n k (code_seen code) ∷ [] })
    (ap (λ (c : DeviceWire). response_said (group_at c k)) device ∙ sym seen.said))
    refl
    (seen.after ∙ (λ i. record (sym device i) {
      groups = slice_set (sym device i).groups k None;
      is_disabled =
          (sym device i).is_disabled || failure_same code i;
    }))
deliver_done host e n Reset port numbered is found may down = absurd down
deliver_done host e n (Request tag t q) port numbered is found may down = absurd down
deliver_done host e n (Invalidated v c) port numbered is found may down = absurd down
deliver_done host e n (PageRequest r) port numbered is found may down = absurd down
deliver_done host e n (Marker t) port numbered is found may down = absurd down
deliver_done host e n ResetDone port numbered is found may down = absurd down

-- the message that was found arrives
pub arrives : (host : HostState) (v : Wire) (n : ℕ) (sent : Sent) (kind : Kind) (may : Bool) → wire_of host ≡ v → IsNumbered host.in_flight → Some sent
    ≡ message_at host.in_flight n
    → (IsTrue may → MayDeliver host.in_flight n) → may ≡ true → sent.kind ≡ kind → IsArriving v n sent.endpoint kind
arrives host v n sent kind may view numbered found tells is same =
    subst (λ (k : Kind). IsArriving v n sent.endpoint k) same
    (record {
      found = ap (λ (w : Wire). flight_of w n) (sym view) ∙ flight_found host n sent numbered found;
      free = ap (λ (w : Wire). may_deliver w (flight_seen (n, sent))) (sym view) ∙ may_be host n sent may numbered found tells is;
    })

-- what arrives is a Reset, or a translation request
pub reset_answers : (w : Wire) (n e : ℕ) → IsArriving w n e Reset → answers w (flight_of w n) ≡ false → ⊥
reset_answers w n e arriving none = never (sym none ∙ ap (answers w) arriving.found)

pub request_answers : (w : Wire) (n e tag t q : ℕ) → IsArriving w n e (Request tag t q) → answers w (flight_of w n) ≡ false → (unit_of w e).is_open ≡ false
request_answers w n e tag t q arriving none = sym (ap (answers w) arriving.found) ∙ none
