-- Ports whose unit changes, seen.
use Rattle.std.proofs.Common.{◌≡◌, refl, ap, sym, ◌∙◌, subst, ℕ, ◌+◌}
use Rattle.std.specs.Prelude.{Ok, List, [], ◌∷◌, map, length, slice_set, slice_index_or}
use Rattle.std.specs.Vec.{with_item}
use Rattle.std.proofs.lemmas.List.{map-set}
use Rattle.sva_step.specs.declared.answers.Answer.{Answer}
use Rattle.sva_step.specs.declared.steps.Step.{Step}
use Rattle.sva_model.specs.Wire.{Wire, EndpointWire, UnitWire}
use Rattle.sva_labels.specs.Finding.{part_of, unit_of}
use Rattle.sva_labels.specs.Causes.{numbers_spent}
use Rattle.sva_labels.specs.Host.{Decision, checked, decide_of}
use Rattle.sva_labels.specs.Moves.{Move, moved, sent, with_part, with_unit}
use Rattle.sva_labels.specs.Outcomes.{by_one}
use Rattle.sva_msg.specs.declared.messages.Kind.{Kind}
use Rattle.sva_msg.specs.Bag.{InFlight}
use Rattle.sva_iommu.specs.Seen.{UnitSeen}
use Rattle.sva_iommu.specs.Seen as seen
use Rattle.sva_parts_by_labels.specs.Flights.{kind_seen}
use Rattle.sva_endpoint.specs.Laws.{IsSound}
use Rattle.sva_host_state.specs.declared.host_state.Port.{Port}
use Rattle.sva_host_state.specs.declared.host_state.HostState.TheInside.{Inside as HostState}
use Rattle.sva_host_state.specs.Steps.{Does, ByLabels, PortFor, Sends}
use Rattle.sva_host_state.specs.Inner.{part_seen, wire_of, AreStaged, IsHostState}
use Rattle.sva_host_state.proofs.Ports.{IsPort, AllSound, IsFew, few_set, same_port, sound_set}
use Rattle.sva_host_state.proofs.Sent.{sent_seen, sent_decided}

-- the host with another unit at an endpoint
abbrev pub with_unit_in : HostState → (e : ℕ) → Port → UnitSeen → HostState
with_unit_in host e port unit = record host { ports = with_item host.ports e (record port { unit = unit }) }

-- the unit of a part, with its page request queue
abbrev pub unit_in : EndpointWire → UnitSeen
unit_in p = record { unit = p.unit; page_queue = p.page_queue }

-- a part with another unit and page request queue
abbrev pub part_with : EndpointWire → UnitSeen → EndpointWire
part_with p u = record p { unit = u.unit; page_queue = u.page_queue }

pub unit_there : (host : HostState) (e : ℕ) (port : Port) → IsPort host e port → unit_in (part_of (wire_of host) e) ≡ port.unit
unit_there host e port is = ap unit_in is.part

-- how it is seen, where unit and page request queue change
pub with_part_seen : (host : HostState) (e : ℕ) (port : Port) (change : UnitSeen → UnitSeen) → IsPort host e port
    → wire_of (with_unit_in host e port (change port.unit))
    ≡ with_part (wire_of host) e (part_with (part_of (wire_of host) e) (change (unit_in (part_of (wire_of host) e))))
with_part_seen host e port change is = λ i. record (wire_of host) { parts = parts i }
  where
    parts : map part_seen (slice_set host.ports.items e (record port { unit = change port.unit }))
        ≡ slice_set (map part_seen host.ports.items) e (part_with (part_of (wire_of host) e) (change (unit_in (part_of (wire_of host) e))))
    parts =
        map-set part_seen host.ports.items e (record port { unit = change port.unit })
        ∙ ap (λ (p : EndpointWire). slice_set (map part_seen host.ports.items) e (part_with p (change (unit_in p)))) (sym is.part)

-- and where the unit changes alone
pub with_unit_seen : (host : HostState) (e : ℕ) (port : Port) (change : UnitWire → UnitWire) → IsPort host e port
    → wire_of (with_unit_in host e port (seen.with_unit port.unit (change port.unit.unit)))
    ≡ with_unit (wire_of host) e (change (unit_of (wire_of host) e))
with_unit_seen host e port change is = with_part_seen host e port (λ u. seen.with_unit u (change u.unit)) is

-- the invariant stays, since the devices do; where a binding moves as well, its stage is to be in its place
pub with_unit_host : (host after : HostState) (e : ℕ) (port : Port) (unit : UnitSeen) → IsHostState host → IsSound port.device
    → after.ports.items ≡ slice_set host.ports.items e (record port { unit = unit }) → AreStaged after.bindings → IsHostState after
with_unit_host host after e port unit h sound same staged =
    record {
      few = subst IsFew (sym same) (few_set host.ports.items e (record port { unit = unit }) h.few);
      sound = subst AllSound (sym same) (sound_set host.ports.items e (record port { unit = unit }) sound h.sound);
      staged = staged;
    }

-- a port whose unit was changed
pub unit_rewritten : (host : HostState) (w : Wire) (e at : ℕ) (read port : Port) (unit : UnitSeen) (after : UnitSeen → UnitSeen)
    → wire_of host ≡ w → PortFor w e (Ok at)
    → read ≡ slice_index_or host.ports.items at read → port ≡ slice_index_or host.ports.items at port → unit ≡ after port.unit
    → slice_set host.ports.items at (record { device = port.device; unit = unit })
    ≡ slice_set host.ports.items e (record read { unit = after read.unit })
unit_rewritten host w e at read port unit after view for same other is =
    let items = host.ports.items in
    let one = same_port host w e at read port view for same other in
    (λ i. slice_set items (for.0 i) (record { device = port.device; unit = is i }))
    ∙ (λ i. slice_set items e (record (one i) { unit = after (one i).unit }))

-- a step that was done, with its ports as they were written
pub ended_by : (host : HostState) (v : Wire) (s : Step) (a b : Answer) (after : List Port → Wire) (items others : List Port) → wire_of host ≡ v
    → items ≡ others → a ≡ b
    → ByLabels (wire_of host) s (Ok b) (after others) → ByLabels v s (Ok a) (after items)
ended_by host v s a b after items others same changed answered is =
    subst (λ (u : Wire). ByLabels u s (Ok a) (after items)) same
    (subst (λ (ports : List Port). ByLabels (wire_of host) s (Ok a) (after ports)) (sym changed)
    (subst (λ (said : Answer). ByLabels (wire_of host) s (Ok said) (after others)) (sym answered) is))

-- a step that changes the unit and sends one message
pub unit_sent_done : (host : HostState) (s : Step) (e : ℕ) (port : Port) (change : UnitSeen → UnitSeen) (kind : Kind) (bag : InFlight) (a : Answer) (m : Move)
    → IsPort host e port
    → decide_of (wire_of host) s ≡ checked (numbers_spent host.in_flight.next 1 ∷ []) (by_one a m)
    → Sends host.in_flight e kind 1 (Ok tt) bag
    → moved (wire_of host) m
    ≡ sent e (kind_seen kind) (with_part (wire_of host) e (part_with (part_of (wire_of host) e) (change (unit_in (part_of (wire_of host) e)))))
    → ByLabels (wire_of host) s (Ok a) (wire_of (record (with_unit_in host e port (change port.unit)) { in_flight = bag }))
unit_sent_done host s e port change kind bag a m is decided sends moves =
    subst (λ (c : Decision). Does c (wire_of host) (Ok a) (wire_of (record (with_unit_in host e port (change port.unit)) { in_flight = bag })))
    (sym (decided ∙ sent_decided host.in_flight bag e kind 1 (by_one a m) sends))
    (refl, after ∙ sym moves)
  where
    after : wire_of (record (with_unit_in host e port (change port.unit)) { in_flight = bag })
        ≡ sent e (kind_seen kind) (with_part (wire_of host) e (part_with (part_of (wire_of host) e) (change (unit_in (part_of (wire_of host) e)))))
    after =
        ap (λ (b : InFlight). wire_of (record (with_unit_in host e port (change port.unit)) { in_flight = b })) sends.1
        ∙ (λ i. record (with_part_seen host e port change is i) {
          in_flight = sent_seen host.in_flight (record { endpoint = e; kind = kind }) i;
          next_message = host.in_flight.next + 1;
        })
