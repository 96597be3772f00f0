-- What is known of a message that arrives at a host that is sound.
use Rattle.std.proofs.Common.{◌≡◌, refl, sym, subst, ℕ, suc, ◌+◌, ◌<◌, ◌≤◌, arith}
use Rattle.std.specs.Prelude.{Some, List, [], ◌∷◌, map, slice_get, slice_index_or}
use Rattle.sva_model.specs.Wire.{Wire, FlightWire}
use Rattle.sva_labels.specs.Sound.{IsSound, Suits}
use Rattle.sva_msg.specs.declared.messages.Kind.{Kind}
use Rattle.sva_msg.specs.declared.messages.Message.{Message as Sent}
use Rattle.sva_msg.specs.Bag.{AreNumbered, IsNumbered}
use Rattle.sva_parts_by_labels.specs.Flights.{flight_seen, kind_seen}
use Rattle.sva_host_state.specs.declared.host_state.HostState.TheInside.{Inside as HostState}
use Rattle.sva_host_state.specs.declared.host_state.Port.{Port}
use Rattle.sva_host_state.specs.Arriving.{IsArriving}
use Rattle.sva_host_state.specs.Inner.{wire_of, IsHostState}
use Rattle.sva_host_state.proofs.Arriving.{stands, arriving_port}
use Rattle.sva_host_state.proofs.Ports.{IsPort, port_found}

pub here : (host : HostState) (v : Wire) (n e : ℕ) (kind : Kind) → wire_of host ≡ v → IsArriving v n e kind → IsArriving (wire_of host) n e kind
here host v n e kind view arriving = subst (λ (w : Wire). IsArriving w n e kind) (sym view) arriving

-- it finds what it needs
pub suits : (w : Wire) (n e : ℕ) (kind : Kind) → IsSound w → IsArriving w n e kind → Suits w e (kind_seen kind)
suits w n e kind sound arriving =
    let f : FlightWire = flight_seen (n, record { endpoint = e; kind = kind }) in
    let (k, there) = stands n w.in_flight f arriving.found in
    sound.flight_suits k f there

-- the port of its endpoint
pub port_there : (host : HostState) (v : Wire) (n e : ℕ) (kind : Kind) (port : Port) → IsHostState host → wire_of host ≡ v → IsSound v
    → IsArriving v n e kind → port ≡ slice_index_or host.ports.items e port → IsPort host e port
port_there host v n e kind port h view sound arriving same = port_found host v e e port h view (arriving_port v n e kind sound arriving) same

-- The messages in flight are numbered.

rising : (low high : ℕ) (es : List (ℕ × Sent)) → low ≤ high
    → ((k : ℕ) (f : FlightWire) → slice_get (map flight_seen es) k ≡ Some f → (low ≤ f.number) × (f.number < high))
    → ((j k : ℕ) (f g : FlightWire) → j < k → slice_get (map flight_seen es) j ≡ Some f → slice_get (map flight_seen es) k ≡ Some g → f.number < g.number)
    → AreNumbered low high es
rising low high [] within bound rise = within
rising low high (p ∷ es) within bound rise =
    let first = bound 0 (flight_seen p) refl in (
      first.0,
      rising (p.0 + 1) high es (omega (arith, first.1))
          (λ k f is. let above = rise 0 (suc k) (flight_seen p) f (omega arith) refl is in (omega (arith, above), (bound (suc k) f is).1))
          (λ j k f g l a b. rise (suc j) (suc k) f g (omega (arith, l)) a b),
    )

pub numbered : (host : HostState) (v : Wire) → wire_of host ≡ v → IsSound v → IsNumbered host.in_flight
numbered host v view sound =
    let s = subst IsSound (sym view) sound in
    (rising 0 host.in_flight.next host.in_flight.messages (omega arith) (λ k f is. (omega arith, s.message_low k f is)) s.messages_rise, s.messages_end)
