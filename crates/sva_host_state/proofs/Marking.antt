-- A Stop Marker arrives, by labels.
use Rattle.std.proofs.Common.{◌≡◌, refl, ap, sym, ◌∙◌, subst, ℕ, zero, suc, ◌<◌, Bool, true, false, arith}
use Rattle.std.specs.Prelude.{cond, ◌==◌, ◌&&◌, not, Ok, Option, Some, None, List, [], ◌∷◌, find, slice_get}
use Rattle.std.proofs.lemmas.Bool.Decides.{nat_tests}
use Rattle.sva_step.specs.declared.answers.Answer.TheVariants as answer
use Rattle.sva_step.specs.declared.refusals.Refusal.TheVariants as refusal
use Rattle.sva_step.specs.declared.steps.Step.TheVariants as step
use Rattle.sva_model.specs.Wire.{Wire, BindingWire, StageWire, FlightWire}
use Rattle.sva_model.specs.Wire.StageWire.{StoppingWire}
use Rattle.sva_labels.specs.Finding.{unit_of, binding_of, bearer, may_deliver}
use Rattle.sva_labels.specs.Causes.{deliver_causes}
use Rattle.sva_labels.specs.Host.{Decision, checked, decide_of}
use Rattle.sva_labels.specs.Moves.{Move, all_moved}
use Rattle.sva_labels.specs.Outcomes.{deliver_result, marker_result, binding_or_0}
use Rattle.sva_labels.specs.Sound.{IsSound, IsMarkable}
use Rattle.sva_msg.specs.declared.messages.Kind.TheVariants.{Marker}
use Rattle.sva_msg.specs.Bag.{InFlight, IsNumbered, without}
use Rattle.sva_pasid.specs.Moves.{Kind}
use Rattle.sva_pasid.specs.Places.{place_under}
use Rattle.sva_pasid.specs.declared.places.TableEntry.{TableEntry}
use Rattle.sva_parts_by_labels.specs.Bindings.{binding_seen}
use Rattle.sva_parts_by_labels.specs.Flights.{flight_seen}
use Rattle.sva_parts_by_labels.proofs.Flights.{flight_laws}
use Rattle.sva_host_state.specs.declared.host_state.HostState.TheInside.{Inside as HostState}
use Rattle.sva_host_state.specs.Arriving.{IsArriving}
use Rattle.sva_host_state.specs.Inner.{wire_of, IsHostState}
use Rattle.sva_host_state.specs.Stages.{IsIn, IsSeenIn, MovesTo}
use Rattle.sva_host_state.specs.Steps.{Does, ByLabels}
use Rattle.sva_host_state.proofs.Arriving.{stands}
use Rattle.sva_host_state.proofs.Bound.{is_found, stage_there, kind_in}
pub use Rattle.sva_host_state.proofs.Requested.{bearer_is as bearer_there}

-- What is decided, by whether the unit is open.

decides : (v : Wire) (n e t : ℕ) (is_open : Bool) → IsArriving v n e (Marker t) → (unit_of v e).is_open ≡ is_open
    → decide_of v (step.Deliver n)
    ≡ record {
      reply = Ok (marker_result e n (binding_or_0 (bearer v e t)) is_open).answer;
      moves =
          (marker_result e n (binding_or_0 (bearer v e t)) is_open).moves;
    }
decides v n e t is_open arriving opened =
    ap (λ (o : Option FlightWire). checked (deliver_causes v o) (deliver_result v o)) arriving.found
    ∙ go (may_deliver v (flight_seen (n, record { endpoint = e; kind = Marker t }))) arriving.free
    ∙ ap (λ (b : Bool). record {
      reply = Ok (marker_result e n (binding_or_0 (bearer v e t)) b).answer;
      moves =
          (marker_result e n (binding_or_0 (bearer v e t)) b).moves;
    }) opened
  where
    go : (free : Bool) → free ≡ true
        → checked ((not free, refusal.Overtakes) ∷ (false, refusal.NumbersSpent) ∷ []) (marker_result e n (binding_or_0 (bearer v e t)) (unit_of v e).is_open)
        ≡ record {
          reply = Ok (marker_result e n (binding_or_0 (bearer v e t)) (unit_of v e).is_open).answer;
          moves = (marker_result e n (binding_or_0 (bearer v e t)) (unit_of v e).is_open).moves;
        }
    go true is = refl
    go false is = absurd (cc (is))

-- The binding that waits for it.

pub markable : (v : Wire) (n e t : ℕ) → IsSound v → IsArriving v n e (Marker t) → (unit_of v e).is_open ≡ true → IsMarkable v e t
markable v n e t sound arriving is_open =
    let (k, there) = stands n v.in_flight (flight_seen (n, record { endpoint = e; kind = Marker t })) arriving.found in
    sound.flight_suits k (flight_seen (n, record { endpoint = e; kind = Marker t })) there is_open

pub none_borne : (v : Wire) (e t : ℕ) → IsMarkable v e t → bearer v e t ≡ None → ⊥
none_borne v e t is none = both (sym none ∙ is.found)
  where
    both : ◌≡◌ {A = Option BindingWire} None (Some is.binding) → ⊥
    both wrong = cc

same_number : (n : ℕ) → (n == n) ≡ true
same_number n = grind (arith, nat_tests)

below_number : (m n : ℕ) → m < n → (m == n) ≡ false
below_number m n l = grind (arith, nat_tests)

-- where numbers rise a binding is found by its own
found_alone :
    (bindings : List BindingWire) (k : ℕ) (b : BindingWire)
    → slice_get bindings k ≡ Some b
    → ((j : ℕ) (d : BindingWire) → j < k → slice_get bindings j ≡ Some d → d.binding < b.binding)
    → find (λ (x : BindingWire). x.binding == b.binding) bindings ≡ Some b
found_alone [] k b is low = absurd (cc (is))
found_alone (x ∷ bindings) zero b is low =
    let same : x ≡ b = cc in
    ap (λ (c : Bool). cond c (Some x) (find (λ (y : BindingWire). y.binding == b.binding) bindings))
    (ap (λ (y : BindingWire). y.binding == b.binding) same ∙ same_number b.binding)
    ∙ is
found_alone (x ∷ bindings) (suc k) b is low =
    ap (λ (c : Bool). cond c (Some x) (find (λ (y : BindingWire). y.binding == b.binding) bindings))
    (below_number x.binding b.binding (low 0 x (omega arith) refl))
    ∙ found_alone bindings k b is (λ j d l at. low (suc j) d (omega arith) at)

pub by_own_number : (v : Wire) (e t : ℕ) (b : BindingWire) → IsSound v → bearer v e t ≡ Some b → binding_of v b.binding ≡ Some b
by_own_number v e t b sound found =
    let at = is_found (λ (x : BindingWire). x.endpoint == e && x.pasid == t) v.bindings b found in
    found_alone v.bindings at.place b at.stands (λ j d l is. sound.bindings_rise j at.place d b l is at.stands)

pub stopping_there : (host : HostState) (v : Wire) (e t : ℕ) (p : TableEntry) → IsHostState host → wire_of host ≡ v → IsSound v → IsMarkable v e t → Some p
    ≡ place_under e t host.bindings
    → IsIn Kind.stopping p.binding host.bindings
stopping_there host v e t p h view sound is found =
    kind_in (StoppingWire false) p.binding host.bindings
    (subst (λ (s : StageWire). IsSeenIn s p.binding host.bindings) stage
    (stage_there host v p.binding (binding_seen p) h view (by_own_number v e t (binding_seen p) sound borne)))
  where
    borne : bearer v e t ≡ Some (binding_seen p)
    borne = bearer_there host v e t (Some p) view found

    stage : (binding_seen p).stage ≡ StoppingWire false
    stage =
        let both : ◌≡◌ {A = Option BindingWire} (Some (binding_seen p)) (Some is.binding) = sym borne ∙ is.found in
        let same : binding_seen p ≡ is.binding = cc in
        ap (λ (b : BindingWire). b.stage) same ∙ is.stopping

-- What is done.

pub dropped : (host : HostState) (v : Wire) (n e t : ℕ) (bag : InFlight) → wire_of host ≡ v → IsNumbered host.in_flight → IsArriving v n e (Marker t)
    → (unit_of v e).is_open ≡ false → bag ≡ without host.in_flight n
    → ByLabels v (step.Deliver n) (Ok answer.Dropped) (wire_of (record host { in_flight = bag }))
dropped host v n e t bag view numbered arriving closed taken =
    subst (λ (d : Decision). Does d v (Ok answer.Dropped) (wire_of (record host { in_flight = bag }))) (sym (decides v n e t false arriving closed))
    (refl, done ∙ ap (λ (w : Wire). all_moved w (Move.Ignore n ∷ [])) view)
  where
    done : wire_of (record host { in_flight = bag }) ≡ all_moved (wire_of host) (Move.Ignore n ∷ [])
    done = ap (λ (b : InFlight). wire_of (record host { in_flight = b })) taken
        ∙ (λ i. record (wire_of host) { in_flight = (flight_laws host.in_flight numbered).delivered n i })

pub marked : (host : HostState) (v : Wire) (n e t : ℕ) (p : TableEntry) (bag : InFlight) (after : List TableEntry)
    → wire_of host ≡ v → IsNumbered host.in_flight
    → IsArriving v n e (Marker t)
    → (unit_of v e).is_open ≡ true → Some p ≡ place_under e t host.bindings → bag ≡ without host.in_flight n
    → MovesTo (StoppingWire true) p.binding host.bindings after
    → ByLabels v (step.Deliver n) (Ok answer.Marked) (wire_of (record host { in_flight = bag; bindings = after }))
marked host v n e t p bag after view numbered arriving is_open found taken moves =
    subst (λ (d : Decision). Does d v (Ok answer.Marked) (wire_of (record host { in_flight = bag; bindings = after }))) (sym decided)
    (refl, done ∙ ap (λ (w : Wire). all_moved w (Move.Mark e n p.binding ∷ [])) view)
  where
    decided : decide_of v (step.Deliver n) ≡ record { reply = Ok answer.Marked; moves = Move.Mark e n p.binding ∷ [] }
    decided =
        decides v n e t true arriving is_open
        ∙ ap (λ (o : Option BindingWire). record { reply = Ok answer.Marked; moves = Move.Mark e n (binding_or_0 o) ∷ [] })
        (bearer_there host v e t (Some p) view found)

    done : wire_of (record host { in_flight = bag; bindings = after }) ≡ all_moved (wire_of host) (Move.Mark e n p.binding ∷ [])
    done =
        ap (λ (b : InFlight). wire_of (record host { in_flight = b; bindings = after })) taken
        ∙ (λ i. record (wire_of host) { in_flight = (flight_laws host.in_flight numbered).delivered n i; bindings = moves.seen i })
