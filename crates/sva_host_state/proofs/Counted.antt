-- Completions of invalidations that arrive, by labels.
use Rattle.std.proofs.Common.{◌≡◌, ◌≢◌, refl, ap, sym, ◌∙◌, subst, ℕ, zero, suc, ◌≤◌, Bool, true, false}
use Rattle.std.specs.Prelude.{◌&&◌, not, if◌then◌else◌, Ok, Err, Option, []}
use Rattle.sva_step.specs.declared.answers.Answer.TheVariants as answer
use Rattle.sva_step.specs.declared.refusals.Refusal.TheVariants as refusal
use Rattle.sva_step.specs.declared.steps.Step.TheVariants as step
use Rattle.sva_model.specs.Labels.{is_set}
use Rattle.sva_model.specs.Wire.{Wire, EndpointWire, UnitWire, FlightWire}
use Rattle.sva_labels.proofs.Counting.{count_most}
use Rattle.sva_labels.specs.Finding.{unit_of, busy_at}
use Rattle.sva_labels.specs.Causes.{deliver_causes}
use Rattle.sva_labels.specs.Host.{Decision, checked, decide_of}
use Rattle.sva_labels.specs.Moves.{Move, moved}
use Rattle.sva_labels.specs.Outcomes.{count_result, count_read, deliver_result, is_last_of}
use Rattle.sva_msg.specs.declared.messages.Kind.TheVariants as kind
use Rattle.sva_msg.specs.Bag.{InFlight, IsNumbered, without}
use Rattle.sva_iommu.specs.Changes.{freed_by, unit_completed}
use Rattle.sva_iommu.specs.Seen as seen
use Rattle.sva_iommu.specs.Seen.{UnitSeen}
use Rattle.sva_parts_by_labels.proofs.Flights.{flight_laws}
use Rattle.sva_host_state.specs.declared.host_state.HostState.TheInside.{Inside as HostState}
use Rattle.sva_host_state.specs.declared.host_state.Port.{Port}
use Rattle.sva_host_state.specs.Arriving.{IsArriving}
use Rattle.sva_host_state.specs.Inner.{wire_of}
use Rattle.sva_host_state.specs.Steps.{Does, ByLabels}
use Rattle.sva_host_state.proofs.Arrived.{here}
use Rattle.sva_host_state.proofs.Ports.{IsPort}
use Rattle.sva_host_state.proofs.Units.{with_unit_in, with_unit_seen}

-- a unit that has counted them
abbrev pub with_counted : (vector count : ℕ) → UnitSeen → UnitSeen
with_counted vector count u = seen.with_unit u (unit_completed u.unit vector count)

-- the count that a field stands for
pub read_as : (field count : ℕ) → (field ≡ 0 → count ≡ 8) → (field ≢ 0 → count ≡ field) → count ≡ count_read field
read_as zero count is8 is = is8 refl
read_as (suc n) count is8 is = is (λ wrong. absurd (never wrong))
  where
    never : suc n ≡ 0 → ⊥
    never wrong = cc

-- what is decided, by whether the unit is open
abbrev decision : UnitWire → (n e vector field : ℕ) → Bool → Decision
decision unit n e vector field b =
    record { reply = Ok (count_result unit e n vector (count_read field) b).answer; moves = (count_result unit e n vector (count_read field) b).moves }

decided : (w : Wire) (n e vector field : ℕ) (b : Bool) → IsArriving w n e (kind.Invalidated vector field) → (unit_of w e).is_open ≡ b
    → decide_of w (step.Deliver n) ≡ decision (unit_of w e) n e vector field b
decided w n e vector field b arriving is_open =
    ap (λ (o : Option FlightWire). checked (deliver_causes w o) (deliver_result w o)) arriving.found
    ∙ (λ i. if not (arriving.free i) then record { reply = Err refusal.Overtakes; moves = [] } else decision (unit_of w e) n e vector field (is_open i))

unit_at : (host : HostState) (e : ℕ) (port : Port) → IsPort host e port → unit_of (wire_of host) e ≡ port.unit.unit
unit_at host e port is = ap (λ (p : EndpointWire). p.unit) is.part

pub uncounted : (host : HostState) (v : Wire) (n e vector field : ℕ) (port : Port) (bag : InFlight) → wire_of host ≡ v → IsNumbered host.in_flight
    → IsPort host e port
    → IsArriving v n e (kind.Invalidated vector field) → port.unit.unit.is_open ≡ false → bag ≡ without host.in_flight n
    → ByLabels v (step.Deliver n) (Ok answer.Dropped) (wire_of (record host { in_flight = bag }))
uncounted host v n e vector field port bag view numbered is arriving shut taken =
    subst (λ (u : Wire). ByLabels u (step.Deliver n) (Ok answer.Dropped) (wire_of (record host { in_flight = bag }))) view
    (subst (λ (d : Decision). Does d (wire_of host) (Ok answer.Dropped) (wire_of (record host { in_flight = bag })))
    (sym (decided (wire_of host) n e vector field false (here host v n e (kind.Invalidated vector field) view arriving)
    (ap (λ (u : UnitWire). u.is_open) (unit_at host e port is) ∙ shut))) (
      refl,
      ap (λ (b : InFlight). wire_of (record host { in_flight = b })) taken
          ∙ (λ i. record (wire_of host) { in_flight = (flight_laws host.in_flight numbered).delivered n i }),
    ))

pub counted : (host : HostState) (n e vector field count : ℕ) (port : Port) (bag : InFlight) → IsNumbered host.in_flight → IsPort host e port
    → IsArriving (wire_of host) n e (kind.Invalidated vector field) → port.unit.unit.is_open ≡ true → count ≡ count_read field → bag
    ≡ without host.in_flight n
    → ByLabels (wire_of host) (step.Deliver n) (Ok (answer.Freed (freed_by port.unit.unit vector count)))
    (wire_of (record (with_unit_in host e port (with_counted vector count port.unit)) { in_flight = bag }))
counted host n e vector field count port bag numbered is arriving is_open reads taken =
    subst (λ (d : Decision). Does d (wire_of host) (Ok (answer.Freed (freed_by port.unit.unit vector count)))
    (wire_of (record (with_unit_in host e port (with_counted vector count port.unit)) { in_flight = bag })))
    (sym (decided (wire_of host) n e vector field true arriving (ap (λ (u : UnitWire). u.is_open) (unit_at host e port is) ∙ is_open)))
    ((λ i. Ok (answer.Freed (freed_by (sym (unit_at host e port is) i) vector (reads i)))), after)
  where
    after : wire_of (record (with_unit_in host e port (with_counted vector count port.unit)) { in_flight = bag })
        ≡ moved (wire_of host) (Move.Count e n vector (count_read field))
    after =
        (λ i. wire_of (record (with_unit_in host e port (with_counted vector (reads i) port.unit)) { in_flight = taken i }))
        ∙ (λ i. record (with_unit_seen host e port (λ u. unit_completed u vector (count_read field)) is i) {
          in_flight =
              (flight_laws host.in_flight numbered).delivered n i;
        })

-- one completion frees 32 ITags at most
pub few_freed : (unit : UnitWire) (vector count freed : ℕ) → freed ≡ freed_by unit vector count → freed ≤ 32
few_freed unit vector count freed is =
    subst (λ (n : ℕ). n ≤ 32) (sym is) (count_most 32 (λ t. is_set vector t && is_last_of count (busy_at unit t)))
