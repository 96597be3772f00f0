-- A unit goes on with the head of its invalidation queue, by labels.
use Rattle.std.proofs.Common.{◌≡◌, refl, ap, sym, ◌∙◌, subst, ℕ, ◌<◌, Bool, true, false, arith}
use Rattle.std.specs.Prelude.{◌&&◌, not, nat_lt, is_some, Ok, Err, Option, Some, None, List, [], ◌∷◌, length}
use Rattle.std.proofs.lemmas.Bool.Decides.{nat_tests}
use Rattle.sva_step.specs.declared.answers.Answer.TheVariants as answer
use Rattle.sva_step.specs.declared.refusals.Refusal.{Refusal}
use Rattle.sva_step.specs.declared.refusals.Refusal.TheVariants as refusal
use Rattle.sva_step.specs.declared.steps.Step.TheVariants as step
use Rattle.sva_model.specs.StateChanges.{scope_of}
use Rattle.sva_model.specs.Message.Message.{InvalidateMessage}
use Rattle.sva_model.specs.Refusals.{Cause}
use Rattle.sva_model.specs.Wire.{Wire, EndpointWire, Descriptor}
use Rattle.sva_model.specs.Wire.Descriptor.{RangeDescriptor, PasidDescriptor, WaitDescriptor}
use Rattle.sva_labels.specs.Finding.{part_of, unit_of, lowest_label}
use Rattle.sva_labels.specs.Causes.{lacks, is_invalidation, sends_invalidate}
use Rattle.sva_labels.specs.Host.{Decision, checked, decide_of}
use Rattle.sva_labels.specs.Moves.{Move, moved, sent, with_unit, settled_cookie}
use Rattle.sva_labels.specs.Outcomes.{pump_result, result_of}
use Rattle.sva_address_spaces.specs.Seen.{AddressSpacesSeen}
use Rattle.sva_address_spaces.specs.Unmapping.{settled}
use Rattle.sva_msg.specs.declared.messages.Kind.{Kind}
use Rattle.sva_msg.specs.Bag.{InFlight}
use Rattle.sva_msg.specs.declared.extents.Extent.{Extent}
use Rattle.sva_msg.specs.declared.extents.Extent.TheVariants.{Pages, All}
use Rattle.sva_queue.specs.declared.heads.Sending.{Sending}
use Rattle.sva_queue.specs.declared.heads.Next.{Next}
use Rattle.sva_queue.specs.declared.heads.Next.TheVariants.{Idle, Blocked, Send, Pass}
use Rattle.sva_iommu.specs.Seen.{UnitSeen, with_unit as with_own}
use Rattle.sva_iommu.specs.Pumping.{pass_next, may_pass, next_at, next_of, pumped, unit_sent, unit_passed}
use Rattle.sva_queue.specs.Heads.{send_next}
use Rattle.sva_msg.specs.Seen.{extent_seen}
use Rattle.sva_msg.specs.Extents.{scope_sent}
use Rattle.sva_iommu.proofs.Pumps.{pump_is}
use Rattle.sva_parts_by_labels.specs.Flights.{scope_seen}
use Rattle.sva_host_state.specs.declared.host_state.Port.{Port}
use Rattle.sva_host_state.specs.declared.host_state.HostState.TheInside.{Inside as HostState}
use Rattle.sva_host_state.specs.Heads.{unit_at, IsHead, request_of}
use Rattle.sva_host_state.specs.Steps.{Does, ByLabels, PortFor, Sends}
use Rattle.sva_host_state.specs.Inner.{wire_of}
use Rattle.sva_host_state.proofs.Deciding.{at_endpoint}
use Rattle.sva_host_state.proofs.Ports.{IsPort}
use Rattle.sva_host_state.proofs.Devices.{unsent_done}
use Rattle.sva_host_state.proofs.Units.{unit_in, with_unit_in, with_unit_seen, unit_sent_done}

-- Whether a message is to be sent.

abbrev pub is_sending : Next → Bool
is_sending (Send sending) = true
is_sending _ = false

by_label : (pasid : ℕ) (extent : Extent) (o : Option ℕ) → is_some o ≡ is_sending (send_next pasid extent o)
by_label pasid extent None = refl
by_label pasid extent (Some itag) = refl

by_wait : (cookie : ℕ) (b : Bool) → false ≡ is_sending (pass_next cookie b)
by_wait cookie true = refl
by_wait cookie false = refl

sends_at : (s : UnitSeen) (queue : List Descriptor) → (is_invalidation queue && is_some (lowest_label s.unit.busy)) ≡ is_sending (next_at s queue)
sends_at s [] = refl
sends_at s (RangeDescriptor pasid range ∷ queue) = by_label pasid (Pages range) (lowest_label s.unit.busy)
sends_at s (PasidDescriptor pasid ∷ queue) = by_label pasid All (lowest_label s.unit.busy)
sends_at s (WaitDescriptor cookie drain ∷ queue) = by_wait cookie (may_pass s drain)

sends_seen : (w : Wire) (e : ℕ) (next : Next) → next_of (unit_at w e) ≡ next → sends_invalidate (unit_of w e) ≡ is_sending next
sends_seen w e next is = sends_at (unit_at w e) (unit_of w e).queue ∙ ap is_sending is

-- it is sent only where an invalidation is at the head and an ITag is free
pub sends_there : (w : Wire) (e : ℕ) (s : Sending) → IsHead w e (Send s) → sends_invalidate (unit_of w e) ≡ false → ⊥
sends_there w e s head none = cc (sym (sends_seen w e (Send s) head.heads) ∙ none)

-- What is decided where the endpoint is there.

below_true : (a b : ℕ) → a < b → nat_lt a b ≡ true
below_true a b h = grind (arith, nat_tests)

true_below : (a b : ℕ) → nat_lt a b ≡ true → a < b
true_below a b h = grind (arith, nat_tests)

-- the causes of the unit, by their tests
abbrev pub listed : (is_open sends spent : Bool) → List Cause
listed is_open sends spent = (not is_open, refusal.Resetting) ∷ (sends && spent, refusal.NumbersSpent) ∷ []

decided : (w : Wire) (e : ℕ) (next : Next) → IsHead w e next
    → decide_of w (step.Pump e) ≡ checked ((is_sending next && lacks w.next_message 1, refusal.NumbersSpent) ∷ []) (pumped e next)
decided w e next head =
    at_endpoint w e (listed (unit_of w e).is_open (sends_invalidate (unit_of w e)) (lacks w.next_message 1))
    (listed true (is_sending next) (lacks w.next_message 1))
    (result_of w (step.Pump e)) (below_true e (length w.parts) head.there)
    (λ i. listed (head.opened i) (sends_seen w e next head.heads i) (lacks w.next_message 1))
    ∙ ap (checked ((is_sending next && lacks w.next_message 1, refusal.NumbersSpent) ∷ [])) result
  where
    result : pump_result (part_of w e) e (unit_of w e).queue ≡ pumped e next
    result = pump_is (unit_at w e) e (part_of w e).device (part_of w e).host_groups ∙ ap (pumped e) head.heads

-- a unit in reset refuses it
pub pump_refused : (w : Wire) (e : ℕ) → e < length w.parts → (unit_of w e).is_open ≡ false → ByLabels w (step.Pump e) (Err refusal.Resetting) w
pump_refused w e there closed =
    subst (λ (d : Decision). Does d w (Err refusal.Resetting) w)
    (sym
    (at_endpoint w e (listed (unit_of w e).is_open (sends_invalidate (unit_of w e)) (lacks w.next_message 1))
    (listed false (sends_invalidate (unit_of w e)) (lacks w.next_message 1))
    (result_of w (step.Pump e)) (below_true e (length w.parts) there)
    (ap (λ b. listed b (sends_invalidate (unit_of w e)) (lacks w.next_message 1)) closed)))
    (refl, refl)

-- nothing changes where the queue is empty, or its head has to stay
pub pump_idle : (w : Wire) (e : ℕ) → IsHead w e Idle → ByLabels w (step.Pump e) (Ok answer.Idle) w
pump_idle w e head = subst (λ (d : Decision). Does d w (Ok answer.Idle) w) (sym (decided w e Idle head)) (refl, refl)

pub pump_blocked : (w : Wire) (e : ℕ) → IsHead w e Blocked → ByLabels w (step.Pump e) (Ok answer.Blocked) w
pump_blocked w e head = subst (λ (d : Decision). Does d w (Ok answer.Blocked) w) (sym (decided w e Blocked head)) (refl, refl)

-- What is known where the port was read.

pub place_for : (w : Wire) (e : ℕ) → e < length w.parts → PortFor w e (Ok e)
place_for w e there = (refl, below_true e (length w.parts) there)

pub is_there : (host : HostState) (v : Wire) (e : ℕ) (port : Port) → wire_of host ≡ v → IsPort host e port → e < length v.parts
is_there host v e port view is = true_below e (length v.parts) (ap (λ (w : Wire). nat_lt e (length w.parts)) (sym view) ∙ is.there)

pub is_open_there : (host : HostState) (v : Wire) (e : ℕ) (port : Port) (b c : Bool) → wire_of host ≡ v → IsPort host e port → b ≡ port.unit.unit.is_open
    → b ≡ c → (unit_of v e).is_open ≡ c
is_open_there host v e port b c view is tells same =
    ap (λ (w : Wire). (unit_of w e).is_open) (sym view) ∙ ap (λ (p : EndpointWire). p.unit.is_open) is.part ∙ sym tells ∙ same

pub head_there : (host : HostState) (v : Wire) (e : ℕ) (port : Port) (b : Bool) (next : Next) → wire_of host ≡ v → IsPort host e port
    → b ≡ port.unit.unit.is_open → b ≡ true
    → next ≡ next_of port.unit → IsHead v e next
head_there host v e port b next view is tells opened heads =
    record {
      there = is_there host v e port view is;
      opened = is_open_there host v e port b true view is tells opened;
      heads = ap (λ (w : Wire). next_of (unit_at w e)) (sym view) ∙ ap (λ (p : EndpointWire). next_of (unit_in p)) is.part ∙ sym heads;
    }

pub head_seen : (host : HostState) (v : Wire) (e : ℕ) (next : Next) → wire_of host ≡ v → IsHead v e next → IsHead (wire_of host) e next
head_seen host v e next view head = subst (λ (w : Wire). IsHead w e next) (sym view) head

-- and of the port that is written
pub head_of : (host : HostState) (v : Wire) (e : ℕ) (port : Port) (next : Next) → wire_of host ≡ v → IsPort host e port → IsHead v e next
    → next_of port.unit ≡ next
head_of host v e port next view is head = ap (λ (p : EndpointWire). next_of (unit_in p)) (sym is.part) ∙ (head_seen host v e next view head).heads

-- An invalidation at the head goes to the endpoint.

pub pump_unsent : (host : HostState) (v : Wire) (e : ℕ) (s : Sending) (kind : Kind) (bag : InFlight) (x : Refusal) → wire_of host ≡ v → IsHead v e (Send s)
    → Sends host.in_flight e kind 1 (Err x) bag
    → ByLabels (wire_of host) (step.Pump e) (Err x) (wire_of (record host { in_flight = bag }))
pump_unsent host v e s kind bag x view head sends =
    unsent_done host (step.Pump e) e kind 1 bag x (pumped e (Send s)) (decided (wire_of host) e (Send s) (head_seen host v e (Send s) view head)) sends

scope_same : (extent : Extent) → scope_seen (scope_sent extent) ≡ scope_of (extent_seen extent)
scope_same (Pages range) = refl
scope_same All = refl

abbrev pub after_send : Sending → UnitSeen → UnitSeen
after_send s u = with_own u (unit_sent u.unit s.itag)

pub pump_sent : (host : HostState) (v : Wire) (e : ℕ) (port : Port) (s : Sending) (kind : Kind) (bag : InFlight) → wire_of host ≡ v → IsPort host e port
    → IsHead v e (Send s)
    → kind ≡ request_of s → Sends host.in_flight e kind 1 (Ok tt) bag
    → ByLabels (wire_of host) (step.Pump e) (Ok (answer.Itag s.itag)) (wire_of
    (record (with_unit_in host e port (after_send s port.unit)) { in_flight = bag }))
pump_sent host v e port s kind bag view is head same sends =
    unit_sent_done host (step.Pump e) e port (after_send s) (request_of s) bag (answer.Itag s.itag) (Move.Send e s.itag s.pasid (extent_seen s.extent)) is
    (decided (wire_of host) e (Send s) (head_seen host v e (Send s) view head))
    (subst (λ (k : Kind). Sends host.in_flight e k 1 (Ok tt) bag) same sends)
    (ap (λ scope. sent e (InvalidateMessage s.itag s.pasid scope) (with_unit (wire_of host) e (unit_sent (unit_of (wire_of host) e) s.itag)))
    (sym (scope_same s.extent)))

-- A wait at the head is done.

abbrev pub after_pass : (cookie : ℕ) → UnitSeen → UnitSeen
after_pass cookie u = with_own u (unit_passed u.unit cookie)

pub pump_passed : (host : HostState) (v : Wire) (e : ℕ) (port : Port) (cookie : ℕ) (after : AddressSpacesSeen) → wire_of host ≡ v → IsPort host e port
    → IsHead v e (Pass cookie)
    → after ≡ settled host.address_spaces e (settled_cookie cookie)
    → ByLabels (wire_of host) (step.Pump e) (Ok answer.WaitDone) (wire_of
    (record (with_unit_in host e port (after_pass cookie port.unit)) { address_spaces = after }))
pump_passed host v e port cookie after view is head settles =
    subst (λ (d : Decision). Does d (wire_of host) (Ok answer.WaitDone)
    (wire_of (record (with_unit_in host e port (after_pass cookie port.unit)) { address_spaces = after })))
    (sym (decided (wire_of host) e (Pass cookie) (head_seen host v e (Pass cookie) view head)))
    (refl, same)
  where
    same : wire_of (record (with_unit_in host e port (after_pass cookie port.unit)) { address_spaces = after }) ≡ moved (wire_of host) (Move.Pass e cookie)
    same =
        ap (λ (m : AddressSpacesSeen). wire_of (record (with_unit_in host e port (after_pass cookie port.unit)) { address_spaces = m })) settles
        ∙ (λ i. record (with_unit_seen host e port (λ u. unit_passed u cookie) is i)
        { places = (settled host.address_spaces e (settled_cookie cookie)).places })
