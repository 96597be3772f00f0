-- Page requests, by labels.
use Rattle.std.proofs.Common.{◌≡◌, refl, ap, sym, ◌∙◌, subst, ℕ, ◌<◌, false, arith}
use Rattle.std.specs.Prelude.{not, nat_le, is_none, Ok, Err, Option, Some, None, List, [], ◌∷◌, ◌++◌}
use Rattle.std.proofs.lemmas.Bool.Decides.{nat_tests}
use Rattle.sva_step.specs.declared.answers.Answer.TheVariants as answer
use Rattle.sva_step.specs.declared.refusals.Refusal.{Refusal}
use Rattle.sva_step.specs.declared.refusals.Refusal.TheVariants as refusal
use Rattle.sva_step.specs.declared.steps.Step.{Step}
use Rattle.sva_step.specs.declared.steps.Step.TheVariants as step
use Rattle.sva_model.specs.Refusals.{Cause, page_range, unless_refused}
use Rattle.sva_model.specs.Wire.{DeviceWire}
use Rattle.sva_labels.specs.Finding.{device_of, lowest_label, outstanding}
use Rattle.sva_labels.specs.Causes.{numbers_spent, may_request, is_other_group}
use Rattle.sva_labels.specs.Host.{Decision, checked, decide_of}
use Rattle.sva_model.specs.Message.Message.{PageRequestMessage}
use Rattle.sva_labels.specs.Moves.{Move, moved, sent, with_device}
use Rattle.sva_labels.specs.Outcomes.{by_one, label, fault_result, result_of}
use Rattle.sva_msg.specs.declared.messages.Kind.{Kind}
use Rattle.sva_msg.specs.declared.messages.Kind.TheVariants.{PageRequest}
use Rattle.sva_msg.specs.Bag.{InFlight}
use Rattle.sva_endpoint.specs.declared.permitted.Fault.{Fault}
use Rattle.sva_endpoint.specs.declared.permitted.Faulting.{Faulting}
use Rattle.sva_endpoint.specs.Tables.{Tables}
use Rattle.sva_endpoint.specs.Steps.{refusals_of_fault, faulting, fault_of, index_for, after_fault}
use Rattle.sva_parts_by_labels.specs.Device.{device_seen}
use Rattle.sva_parts_by_labels.specs.DeviceLaws.{faulted}
use Rattle.sva_parts_by_labels.proofs.Groups.{fault_is_seen}
use Rattle.sva_host_state.specs.declared.host_state.HostState.TheInside.{Inside as HostState}
use Rattle.sva_host_state.specs.declared.host_state.Port.{Port}
use Rattle.sva_host_state.specs.Inner.{wire_of}
use Rattle.sva_host_state.specs.Steps.{Does, ByLabels, Sends}
use Rattle.sva_endpoint.proofs.CallFacts.{given}
use Rattle.sva_host_state.proofs.Deciding.{refused_by, passed, all_clear, at_endpoint}
use Rattle.sva_host_state.proofs.Ports.{IsPort, with_tables}
use Rattle.sva_host_state.proofs.Devices.{device_there, unsent_done, sent_done}

abbrev pub step_of : (e : ℕ) → Fault → Step
step_of e fault = step.Fault e fault.pasid fault.page fault.read fault.write fault.group fault.last

listed : DeviceWire → Fault → List Cause
listed d fault =
    page_range fault.page 1
    ∷ (not (may_request d fault.pasid fault.group), refusal.NotStarted)
    ∷ (nat_le 32 (outstanding d.groups), refusal.NoCredit)
    ∷ (is_other_group d fault.pasid fault.group, refusal.NoSuchGroup)
    ∷ (d.is_disabled, refusal.PriDisabled)
    ∷ []

causes_seen : (host : HostState) (e : ℕ) (fault : Fault) (port : Port) → IsPort host e port → listed (device_of (wire_of host) e) fault
    ≡ refusals_of_fault port.device fault
unfolding listed
causes_seen host e fault port is = ap (λ (d : DeviceWire). listed d fault) (device_there host e port is)
    ∙ sym (fault_is_seen port.device fault is.sound).refusals

decided : (host : HostState) (e : ℕ) (fault : Fault) (port : Port) → IsPort host e port
    → decide_of (wire_of host) (step_of e fault)
    ≡ checked (refusals_of_fault port.device fault ++ numbers_spent host.in_flight.next 1 ∷ []) (result_of (wire_of host) (step_of e fault))
unfolding listed
decided host e fault port is =
    at_endpoint (wire_of host) e _ _ (result_of (wire_of host) (step_of e fault)) is.there
    (ap (λ (cs : List Cause). cs ++ numbers_spent host.in_flight.next 1 ∷ []) (causes_seen host e fault port is))

pub fault_refused : (host : HostState) (e : ℕ) (fault : Fault) (port : Port) (x : Refusal) → IsPort host e port → Err x ≡ faulting port.device fault
    → ByLabels (wire_of host) (step_of e fault) (Err x) (wire_of host)
fault_refused host e fault port x is refuses =
    subst (λ (d : Decision). Does d (wire_of host) (Err x) (wire_of host)) (sym (decided host e fault port is))
    (refused_by _ (refusals_of_fault port.device fault) (numbers_spent host.in_flight.next 1 ∷ []) (result_of (wire_of host) (step_of e fault))
    (wire_of host) x (tt, (tt, (tt, (tt, (tt, tt))))) (sym refuses))

may : (host : HostState) (e : ℕ) (fault : Fault) (port : Port) (a : Faulting) → IsPort host e port → Ok a ≡ faulting port.device fault
    → decide_of (wire_of host) (step_of e fault) ≡ checked (numbers_spent host.in_flight.next 1 ∷ []) (result_of (wire_of host) (step_of e fault))
may host e fault port a is allows =
    decided host e fault port is
    ∙ passed _ a (refusals_of_fault port.device fault) (numbers_spent host.in_flight.next 1 ∷ []) (result_of (wire_of host) (step_of e fault)) (sym allows)

pub fault_unsent : (host : HostState) (e : ℕ) (fault : Fault) (port : Port) (a : Faulting) (kind : Kind) (bag : InFlight) (x : Refusal) → IsPort host e port
    → Ok a ≡ faulting port.device fault
    → Sends host.in_flight e kind 1 (Err x) bag
    → ByLabels (wire_of host) (step_of e fault) (Err x) (wire_of (record host { in_flight = bag }))
fault_unsent host e fault port a kind bag x is allows sends =
    unsent_done host (step_of e fault) e kind 1 bag x _ (may host e fault port a is allows) sends

-- the page request that the test gives
requested : Tables → Fault → Faulting
requested tables fault =
    record {
      begins = is_none fault.group;
      request = record {
        pasid = fault.pasid;
        index = index_for tables fault.group;
        page = fault.page;
        read = fault.read;
        write = fault.write;
        last = fault.last;
      };
    }

as_requested : (tables : Tables) (fault : Fault) (a : Faulting) → Ok a ≡ faulting tables fault → requested tables fault ≡ a
unfolding requested
as_requested tables fault a allows = given (requested tables fault) a (refusals_of_fault tables fault) (sym allows)

-- it is the one that was asked for
same_fault : (tables : Tables) (fault : Fault) (a : Faulting) → Ok a ≡ faulting tables fault → fault_of a ≡ fault
unfolding requested
same_fault tables fault a allows = ap fault_of (sym (as_requested tables fault a allows)) ∙ by fault.group
  where
    by : (group : Option ℕ) → fault_of (requested tables (record fault { group = group })) ≡ record fault { group = group }
    by None = refl
    by (Some index) = refl

pub left_by_fault : (before after : Tables) (fault : Fault) (a : Faulting) (tables : Tables) → Ok a ≡ faulting tables fault
    → after ≡ after_fault before (fault_of a)
    → after ≡ after_fault before fault
left_by_fault before after fault a tables allows is = is ∙ ap (after_fault before) (same_fault tables fault a allows)

fewer : (n : ℕ) → nat_le 32 n ≡ false → n < 32
fewer n h = grind (arith, nat_tests)

-- the move, by the group
abbrev moves : (e : ℕ) → Fault → (index : ℕ) → Option ℕ → Move
moves e fault i None = Move.Group e fault.pasid i fault.page fault.read fault.write fault.last
moves e fault i (Some own) = Move.Request e fault.pasid i fault.page fault.read fault.write fault.last

pub fault_done : (host : HostState) (e : ℕ) (fault : Fault) (port : Port) (a : Faulting) (kind : Kind) (bag : InFlight) → IsPort host e port
    → Ok a ≡ faulting port.device fault → kind ≡ PageRequest a.request
    → Sends host.in_flight e kind 1 (Ok tt) bag
    → ByLabels (wire_of host) (step_of e fault) (Ok (answer.Group a.request.index))
    (wire_of (record (with_tables host e port (after_fault port.device fault)) { in_flight = bag }))
unfolding listed requested
fault_done host e fault port a kind bag is allows said sends =
    let device = device_there host e port is in
    let seen = fault_is_seen port.device fault is.sound in
    let i = index_for port.device fault.group in
    let sending = requested port.device fault in
    let same = as_requested port.device fault a allows in
    let clear = all_clear sending a (listed (device_of (wire_of host) e) fault)
    (ap (λ (cs : List Cause). unless_refused cs sending) (causes_seen host e fault port is) ∙ sym allows) in
    let credit = ap (λ (d : DeviceWire). nat_le 32 (outstanding d.groups)) (sym device) ∙ clear.1.1.0 in
    let other = ap (λ (d : DeviceWire). is_other_group d fault.pasid fault.group) (sym device) ∙ clear.1.1.1.0 in
    let index = ap (λ (d : DeviceWire). lowest_label d.groups) device ∙ seen.index (fewer (outstanding (device_seen port.device).groups) credit) in
    subst (λ (b : Faulting). ByLabels (wire_of host) (step_of e fault) (Ok (answer.Group b.request.index))
    (wire_of (record (with_tables host e port (after_fault port.device fault)) { in_flight = bag }))) same
    (sent_done host (step_of e fault) e port (after_fault port.device fault) (PageRequest sending.request) bag (answer.Group i)
    (moves e fault i fault.group)
    (faulted (device_of (wire_of host) e) fault fault.group i) is
    (may host e fault port a is allows ∙ ap (checked (numbers_spent host.in_flight.next 1 ∷ [])) (result (device_of (wire_of host) e) fault.group index))
    (subst (λ (k : Kind). Sends host.in_flight e k 1 (Ok tt) bag) (said ∙ ap (λ (b : Faulting). PageRequest b.request) (sym same)) sends)
    (moved_by fault.group i)
    (seen.after other ∙ ap (λ (d : DeviceWire). faulted d fault fault.group i) (sym device)))
  where
    result : (d : DeviceWire) (group : Option ℕ) → lowest_label d.groups ≡ Some (index_for port.device None)
        → fault_result d e fault.pasid fault.page fault.read fault.write fault.last group
        ≡ by_one (answer.Group (index_for port.device group)) (moves e fault (index_for port.device group) group)
    result d None index =
        ap (λ l. by_one (answer.Group (label l)) (Move.Group e fault.pasid (label l) fault.page fault.read fault.write fault.last)) index
    result d (Some own) index = refl

    moved_by : (group : Option ℕ) (i : ℕ)
        → moved (wire_of host) (moves e fault i group)
        ≡ sent e (PageRequestMessage fault.pasid i fault.page fault.read fault.write fault.last)
        (with_device (wire_of host) e (faulted (device_of (wire_of host) e) fault group i))
    moved_by None i = refl
    moved_by (Some own) i = refl
