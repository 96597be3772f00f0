-- Completions of invalidations, by labels.
use Rattle.std.proofs.Common.{◌≡◌, refl, ap, sym, ◌∙◌, subst, ℕ, ◌+◌, ◌<◌, ◌^◌}
use Rattle.std.specs.Prelude.{◌&&◌, ◌||◌, not, nat_le, is_none, Ok, Err, List, [], ◌∷◌, ◌++◌}
use Rattle.sva_step.specs.declared.answers.Answer.TheVariants as answer
use Rattle.sva_step.specs.declared.refusals.Refusal.{Refusal}
use Rattle.sva_step.specs.declared.refusals.Refusal.TheVariants as refusal
use Rattle.sva_step.specs.declared.steps.Step.TheVariants as step
use Rattle.sva_model.specs.Words.{any_below}
use Rattle.sva_model.specs.StateChanges.{count_field}
use Rattle.sva_model.specs.Labels.{is_set, names_none}
use Rattle.sva_model.specs.Message.Message.{InvalidatedMessage}
use Rattle.sva_model.specs.Refusals.{Cause}
use Rattle.sva_model.specs.Wire.{DeviceWire}
use Rattle.sva_labels.specs.Finding.{device_of, taken_at, waits_for_use}
use Rattle.sva_labels.specs.Causes.{numbers_spent}
use Rattle.sva_labels.specs.Host.{Decision, checked, decide_of}
use Rattle.sva_labels.specs.Moves.{Move, sent_copies, with_device, without_named}
use Rattle.sva_labels.specs.Outcomes.{by_one, result_of}
use Rattle.sva_msg.specs.declared.messages.Kind.{Kind}
use Rattle.sva_msg.specs.declared.messages.Kind.TheVariants.{Invalidated}
use Rattle.sva_msg.specs.Bag.{InFlight}
use Rattle.sva_endpoint.specs.declared.permitted.Finishing.{Finishing}
use Rattle.sva_endpoint.specs.Tables.{Tables}
use Rattle.sva_endpoint.specs.Steps.{refusals_of_finish, finishing, after_finish}
use Rattle.sva_parts_by_labels.specs.Device.{device_seen}
use Rattle.sva_parts_by_labels.specs.Flights.{FlightsAreSeen}
use Rattle.sva_parts_by_labels.proofs.Completions.{finish_is_seen}
use Rattle.sva_host_state.specs.declared.host_state.HostState.TheInside.{Inside as HostState}
use Rattle.sva_host_state.specs.declared.host_state.Port.{Port}
use Rattle.sva_host_state.specs.Inner.{wire_of}
use Rattle.sva_host_state.specs.Steps.{Does, ByLabels, Sends}
use Rattle.sva_endpoint.proofs.CallFacts.{given}
use Rattle.sva_host_state.proofs.Deciding.{refused_by, passed, at_endpoint}
use Rattle.sva_host_state.proofs.Ports.{IsPort, with_tables, with_tables_seen}
use Rattle.sva_host_state.proofs.Sent.{sent_decided}
use Rattle.sva_host_state.proofs.Devices.{device_there, unsent_done}

listed : DeviceWire → (v n : ℕ) → List Cause
listed d v n =
    (names_none v || any_below 32 (λ t. is_set v t && is_none (taken_at d t)), refusal.NotPending)
    ∷ (any_below 32 (λ t. is_set v t && waits_for_use (taken_at d t)), refusal.InUse)
    ∷ (not (nat_le 1 n && nat_le n 8), refusal.BadCount)
    ∷ []

causes_seen : (host : HostState) (e v n : ℕ) (port : Port) → v < 2 ^ 32 → IsPort host e port → listed (device_of (wire_of host) e) v n
    ≡ refusals_of_finish port.device v n
unfolding listed
causes_seen host e v n port fits is =
    ap (λ (d : DeviceWire). listed d v n) (device_there host e port is) ∙ sym (finish_is_seen port.device v n fits is.sound).refusals

decided : (host : HostState) (e v n : ℕ) (port : Port) → v < 2 ^ 32 → IsPort host e port
    → decide_of (wire_of host) (step.Finish e v n)
    ≡ checked (refusals_of_finish port.device v n ++ numbers_spent host.in_flight.next n ∷ []) (by_one (answer.Sent n) (Move.Finish e v n))
unfolding listed
decided host e v n port fits is =
    at_endpoint (wire_of host) e _ _ (result_of (wire_of host) (step.Finish e v n)) is.there
    (ap (λ (cs : List Cause). cs ++ numbers_spent host.in_flight.next n ∷ []) (causes_seen host e v n port fits is))

pub finish_refused : (host : HostState) (e v n : ℕ) (port : Port) (x : Refusal) → v < 2 ^ 32 → IsPort host e port → Err x ≡ finishing port.device v n
    → ByLabels (wire_of host) (step.Finish e v n) (Err x) (wire_of host)
finish_refused host e v n port x fits is refuses =
    subst (λ (d : Decision). Does d (wire_of host) (Err x) (wire_of host)) (sym (decided host e v n port fits is))
    (refused_by _ (refusals_of_finish port.device v n) (numbers_spent host.in_flight.next n ∷ []) (by_one (answer.Sent n) (Move.Finish e v n))
    (wire_of host) x (tt, (tt, (tt, tt))) (sym refuses))

may : (host : HostState) (e v n : ℕ) (port : Port) (a : Finishing) → v < 2 ^ 32 → IsPort host e port → Ok a ≡ finishing port.device v n
    → decide_of (wire_of host) (step.Finish e v n) ≡ checked (numbers_spent host.in_flight.next n ∷ []) (by_one (answer.Sent n) (Move.Finish e v n))
may host e v n port a fits is allows =
    decided host e v n port fits is
    ∙ passed _ a (refusals_of_finish port.device v n) (numbers_spent host.in_flight.next n ∷ []) (by_one (answer.Sent n) (Move.Finish e v n)) (sym allows)

-- the completions that are to be sent
pub sending : (tables : Tables) (v n : ℕ) (a : Finishing) → Ok a ≡ finishing tables v n → record { vector = v; count = n } ≡ a
sending tables v n a allows = given _ a (refusals_of_finish tables v n) (sym allows)

-- what they leave is told by their own vector
pub left_by_finish : (before after : Tables) (v n : ℕ) (a : Finishing) (tables : Tables) → Ok a ≡ finishing tables v n → after ≡ after_finish before a.vector
    → after ≡ after_finish before v
left_by_finish before after v n a tables allows is = is ∙ ap (λ (b : Finishing). after_finish before b.vector) (sym (sending tables v n a allows))

pub finish_unsent : (host : HostState) (e v n : ℕ) (port : Port) (a : Finishing) (kind : Kind) (bag : InFlight) (x : Refusal) (m : ℕ) → m ≡ a.count
    → v < 2 ^ 32
    → IsPort host e port → Ok a ≡ finishing port.device v n
    → Sends host.in_flight e kind m (Err x) bag
    → ByLabels (wire_of host) (step.Finish e v n) (Err x) (wire_of (record host { in_flight = bag }))
finish_unsent host e v n port a kind bag x m many fits is allows sends =
    unsent_done host (step.Finish e v n) e kind n bag x _ (may host e v n port a fits is allows)
    (subst (λ (k : ℕ). Sends host.in_flight e kind k (Err x) bag) (many ∙ sym (ap (λ (f : Finishing). f.count) (sending port.device v n a allows))) sends)

pub finish_done : (host : HostState) (e v n : ℕ) (port : Port) (a : Finishing) (kind : Kind) (bag : InFlight) (m : ℕ) → m ≡ a.count → v < 2 ^ 32
    → FlightsAreSeen host.in_flight → IsPort host e port
    → Ok a ≡ finishing port.device v n → kind ≡ Invalidated a.vector (count_field a.count) → Sends host.in_flight e kind m (Ok tt) bag
    → ByLabels (wire_of host) (step.Finish e v n) (Ok (answer.Sent a.count))
    (wire_of (record (with_tables host e port (after_finish port.device v)) { in_flight = bag }))
finish_done host e v n port a kind bag m many fits flights is allows said sends =
    subst (λ (f : Finishing). ByLabels (wire_of host) (step.Finish e v n) (Ok (answer.Sent f.count))
    (wire_of (record (with_tables host e port (after_finish port.device v)) { in_flight = bag })))
    (sending port.device v n a allows)
    (subst (λ (c : Decision). Does c (wire_of host) (Ok (answer.Sent n))
    (wire_of (record (with_tables host e port (after_finish port.device v)) { in_flight = bag })))
    (sym (may host e v n port a fits is allows
    ∙ sent_decided host.in_flight bag e (Invalidated v (count_field n)) n (by_one (answer.Sent n) (Move.Finish e v n)) sent))
    (refl, after))
  where
    sent : Sends host.in_flight e (Invalidated v (count_field n)) n (Ok tt) bag
    sent = subst (λ (f : Finishing). Sends host.in_flight e (Invalidated f.vector (count_field f.count)) f.count (Ok tt) bag)
        (sym (sending port.device v n a allows))
        (subst (λ (k : ℕ). Sends host.in_flight e (Invalidated a.vector (count_field a.count)) k (Ok tt) bag) many
        (subst (λ (k : Kind). Sends host.in_flight e k m (Ok tt) bag) said sends))

    left : DeviceWire
    left = record (device_of (wire_of host) e) { taken = without_named v (device_of (wire_of host) e).taken }

    same : device_seen (after_finish port.device v) ≡ left
    same =
        (finish_is_seen port.device v n fits is.sound).after
        ∙ ap (λ (d : DeviceWire). record d { taken = without_named v d.taken }) (sym (device_there host e port is))

    after : wire_of (record (with_tables host e port (after_finish port.device v)) { in_flight = bag })
        ≡ sent_copies n e (InvalidatedMessage v (count_field n)) (with_device (wire_of host) e left)
    after =
        ap (λ (b : InFlight). wire_of (record (with_tables host e port (after_finish port.device v)) { in_flight = b })) sent.1
        ∙ (λ i. record (with_tables_seen host e port (after_finish port.device v) left is same i) {
          in_flight = flights.copies_sent (record { endpoint = e; kind = Invalidated v (count_field n) }) n i;
          next_message = host.in_flight.next + n;
        })
