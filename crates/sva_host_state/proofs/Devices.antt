-- The steps of an endpoint's device, by labels.
use Rattle.std.proofs.Common.{◌≡◌, refl, ap, sym, ◌∙◌, subst, ℕ, ◌+◌}
use Rattle.std.specs.Prelude.{Ok, Err, IsErr, IsErrAnd, List, [], ◌∷◌, map}
use Rattle.sva_step.specs.declared.answers.Answer.{Answer}
use Rattle.sva_step.specs.declared.refusals.Refusal.{Refusal}
use Rattle.sva_step.specs.declared.steps.Step.{Step}
use Rattle.sva_model.specs.Steps.{Reply}
use Rattle.sva_model.specs.Wire.{Wire, DeviceWire}
use Rattle.sva_labels.specs.Finding.{device_of}
use Rattle.sva_labels.specs.Causes.{numbers_spent}
use Rattle.sva_labels.specs.Host.{Decision, checked, decide_of}
use Rattle.sva_labels.specs.Moves.{Move, moved, sent, with_device}
use Rattle.sva_labels.specs.Outcomes as outcomes
use Rattle.sva_labels.specs.Outcomes.{by_one}
use Rattle.sva_msg.specs.declared.messages.Kind.{Kind}
use Rattle.sva_msg.specs.Bag.{InFlight}
use Rattle.sva_endpoint.specs.Tables.{Tables}
use Rattle.sva_parts_by_labels.specs.Device.{device_seen}
use Rattle.sva_parts_by_labels.specs.Flights.{kind_seen}
use Rattle.sva_host_state.specs.declared.host_state.HostState.TheInside.{Inside as HostState}
use Rattle.sva_host_state.specs.declared.host_state.Port.{Port}
use Rattle.sva_host_state.specs.Inner.{part_seen, wire_of}
use Rattle.sva_host_state.specs.Steps.{Does, ByLabels, Sends}
use Rattle.sva_host_state.proofs.Ports.{IsPort, with_tables, with_tables_seen}
use Rattle.sva_host_state.proofs.Sent.{sent_seen, unsent_same, unsent, sent_decided}

-- what `?` gives back
pub is_err : (r : Reply) (x : Refusal) → IsErr r × IsErrAnd r (λ y. y ≡ x) → r ≡ Err x
is_err (Ok a) x is = absurd is.1
is_err (Err y) x is = ap (λ (z : Refusal). Err z) is.1

-- a step that is refused, at what is seen of the host
pub kept : (w v : Wire) (s : Step) (r : Reply) (x : Refusal) → w ≡ v → IsErr r × IsErrAnd r (λ y. y ≡ x) → ByLabels w s (Err x) w → ByLabels v s r v
kept w v s r x same answered is =
    subst (λ (u : Wire). ByLabels u s r u) same (subst (λ (a : Reply). ByLabels w s a w) (sym (is_err r x answered)) is)

pub went : (w v after : Wire) (s : Step) (r : Reply) (x : Refusal) → w ≡ v → IsErr r × IsErrAnd r (λ y. y ≡ x) → ByLabels w s (Err x) after
    → ByLabels v s r after
went w v after s r x same answered is =
    subst (λ (u : Wire). ByLabels u s r after) same (subst (λ (a : Reply). ByLabels w s a after) (sym (is_err r x answered)) is)

-- what is seen of a host with other ports and messages
abbrev pub wire_with : HostState → List Port → InFlight → Wire
wire_with host ports bag = record (wire_of (record host { in_flight = bag })) { parts = map part_seen ports }

-- a step that was done, with its ports as they were written
pub ended : (host : HostState) (v : Wire) (s : Step) (a b : Answer) (items others : List Port) (bag : InFlight) → wire_of host ≡ v → items ≡ others → a ≡ b
    → ByLabels (wire_of host) s (Ok b) (wire_with host others bag)
    → ByLabels v s (Ok a) (wire_with host items bag)
ended host v s a b items others bag same changed answered is =
    let after : List Port → Wire = λ ports. wire_with host ports bag in
    subst (λ (u : Wire). ByLabels u s (Ok a) (after items)) same
    (subst (λ (ports : List Port). ByLabels (wire_of host) s (Ok a) (after ports)) (sym changed)
    (subst (λ (said : Answer). ByLabels (wire_of host) s (Ok said) (after others)) (sym answered) is))

-- the device of an endpoint
pub device_there : (host : HostState) (e : ℕ) (port : Port) → IsPort host e port → device_of (wire_of host) e ≡ device_seen port.device
device_there host e port is = ap (λ p. p.device) is.part

-- a step that has no number for its message, or no memory for it, changes nothing
pub unsent_done : (host : HostState) (s : Step) (e : ℕ) (kind : Kind) (copies : ℕ) (bag : InFlight) (x : Refusal) (r : outcomes.Result)
    → decide_of (wire_of host) s ≡ checked (numbers_spent host.in_flight.next copies ∷ []) r
    → Sends host.in_flight e kind copies (Err x) bag
    → ByLabels (wire_of host) s (Err x) (wire_of (record host { in_flight = bag }))
unsent_done host s e kind copies bag x r decided sends =
    subst (λ (w : Wire). ByLabels (wire_of host) s (Err x) w) (ap (λ (b : InFlight). wire_of (record host { in_flight = b }))
    (sym (unsent_same host.in_flight bag e kind copies x sends)))
    (subst (λ (d : Decision). Does d (wire_of host) (Err x) (wire_of host)) (sym decided) (unsent host.in_flight bag e kind copies x (wire_of host) r sends))

-- a step that changes the device and sends one message
pub sent_done : (host : HostState) (s : Step) (e : ℕ) (port : Port) (tables : Tables) (kind : Kind) (bag : InFlight) (a : Answer) (m : Move) (d : DeviceWire)
    → IsPort host e port
    → decide_of (wire_of host) s ≡ checked (numbers_spent host.in_flight.next 1 ∷ []) (by_one a m)
    → Sends host.in_flight e kind 1 (Ok tt) bag
    → moved (wire_of host) m ≡ sent e (kind_seen kind) (with_device (wire_of host) e d)
    → device_seen tables ≡ d
    → ByLabels (wire_of host) s (Ok a) (wire_of (record (with_tables host e port tables) { in_flight = bag }))
sent_done host s e port tables kind bag a m d is decided sends moves same =
    subst (λ (c : Decision). Does c (wire_of host) (Ok a) (wire_of (record (with_tables host e port tables) { in_flight = bag })))
    (sym (decided ∙ sent_decided host.in_flight bag e kind 1 (by_one a m) sends))
    (refl, after ∙ sym moves)
  where
    after : wire_of (record (with_tables host e port tables) { in_flight = bag }) ≡ sent e (kind_seen kind) (with_device (wire_of host) e d)
    after =
        ap (λ (b : InFlight). wire_of (record (with_tables host e port tables) { in_flight = b })) sends.1
        ∙ (λ i. record (with_tables_seen host e port tables d is same i) {
          in_flight =
              sent_seen host.in_flight (record { endpoint = e; kind = kind }) i;
          next_message = host.in_flight.next + 1;
        })

-- a step that changes the device, and sends nothing
pub device_done : (host : HostState) (s : Step) (e : ℕ) (port : Port) (tables : Tables) (a : Answer) (m : Move) (d : DeviceWire)
    → IsPort host e port
    → decide_of (wire_of host) s ≡ checked [] (by_one a m)
    → moved (wire_of host) m ≡ with_device (wire_of host) e d
    → device_seen tables ≡ d
    → ByLabels (wire_of host) s (Ok a) (wire_of (with_tables host e port tables))
device_done host s e port tables a m d is decided moves same =
    subst (λ (c : Decision). Does c (wire_of host) (Ok a) (wire_of (with_tables host e port tables))) (sym decided)
    (refl, with_tables_seen host e port tables d is same ∙ sym moves)
