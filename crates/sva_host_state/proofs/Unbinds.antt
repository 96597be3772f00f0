-- A space is unbound, by labels.
use Rattle.std.proofs.Common.{◌≡◌, refl, ap, sym, ◌∙◌, subst, append-nil, ℕ, ◌+◌, ◌<◌, ◌≤◌, ◌^◌, true, false}
use Rattle.std.specs.Prelude.{not, Result, Ok, Err, Option, Some, None, List, [], ◌∷◌}
use Rattle.sva_step.specs.declared.answers.Answer.TheVariants as answer
use Rattle.sva_step.specs.declared.refusals.Refusal.{Refusal}
use Rattle.sva_step.specs.declared.refusals.Refusal.TheVariants as refusal
use Rattle.sva_step.specs.declared.steps.Step.TheVariants as step
use Rattle.sva_model.specs.Refusals.{Cause, unless_refused}
use Rattle.sva_model.specs.Wire.{Wire, BindingWire, StageWire}
use Rattle.sva_model.specs.Wire.StageWire.{LiveWire, StoppingWire, DrainingWire, InvalidatingWire, QuietWire, LostWire}
use Rattle.sva_labels.specs.Finding.{is_live, unit_of, binding_of}
use Rattle.sva_labels.specs.Causes as causes
use Rattle.sva_labels.specs.Causes.{causes_of, lacks, resetting, numbers_spent, unbind_causes}
use Rattle.sva_labels.specs.Host.{Decision, checked, decide_of}
use Rattle.sva_labels.specs.Moves.{Move, all_moved, with_stage}
use Rattle.sva_labels.specs.Outcomes as outcomes
use Rattle.sva_labels.specs.Outcomes.{of_binding, result_of}
use Rattle.sva_msg.specs.declared.messages.Kind.TheVariants.{Stop}
use Rattle.sva_msg.specs.Bag.{InFlight}
use Rattle.sva_pasid.specs.Moves.{Kind}
use Rattle.sva_pasid.specs.declared.places.TableEntry.{TableEntry}
use Rattle.sva_parts_by_labels.specs.Bindings.{bindings_seen}
use Rattle.sva_host_state.specs.declared.host_state.HostState.TheInside.{Inside as HostState}
use Rattle.sva_host_state.specs.declared.unbinding.Ending.{Ending}
use Rattle.sva_host_state.specs.declared.unbinding.Ending.TheVariants.{AtOnce, ByStop}
use Rattle.sva_host_state.specs.Inner.{wire_of, IsHostState}
use Rattle.sva_host_state.specs.Stages.{IsIn, IsSeenIn, MovesTo}
use Rattle.sva_host_state.specs.Steps.{Does, ByLabels, Sends}
use Rattle.sva_host_state.specs.Unbinding.{is_lost, ending_by, ending_of, MayUnbind}
use Rattle.sva_host_state.proofs.Bound.{number_is, stage_there, kind_in}
use Rattle.sva_endpoint.proofs.CallFacts.{given}
use Rattle.sva_host_state.proofs.Deciding.{IsOther, AreOther, all_clear, passed, refused_by}
use Rattle.sva_host_state.proofs.Refusing.{refuses, allows, is_other, spent, left_over}
use Rattle.sva_host_state.proofs.Sent.{sent_seen}
pub use Rattle.sva_host_state.proofs.NeverForMemory.{not_for_memory as not_memory}

-- What refuses it.

of_binding_there : (v : Wire) (n : ℕ) (b : BindingWire) → binding_of v n ≡ Some b
    → unless_refused (causes_of v (step.Unbind n)) (ending_of (binding_of v n)) ≡ unless_refused (causes.unbind_by v b b.stage) (ending_by b b.stage)
of_binding_there v n b found = ap (λ (o : Option BindingWire). unless_refused (unbind_causes v o) (ending_of o)) found

-- of a binding that isn't Lost
by_stop : (v : Wire) (n : ℕ) (b : BindingWire) → binding_of v n ≡ Some b → is_lost b.stage ≡ false
    → unless_refused (causes_of v (step.Unbind n)) (ending_of (binding_of v n))
    ≡ unless_refused ((not (is_live b.stage), refusal.NotLive) ∷ resetting v b.endpoint ∷ numbers_spent v.next_message 1 ∷ []) (ByStop b.endpoint b.pasid)
by_stop v n b found stays = of_binding_there v n b found ∙ go b.stage stays
  where
    go : (s : StageWire) → is_lost s ≡ false
        → unless_refused (causes.unbind_by v b s) (ending_by b s)
        ≡ unless_refused ((not (is_live s), refusal.NotLive) ∷ resetting v b.endpoint ∷ numbers_spent v.next_message 1 ∷ []) (ByStop b.endpoint b.pasid)
    go LiveWire is = refl
    go (StoppingWire marked) is = refl
    go (DrainingWire cookie) is = refl
    go (InvalidatingWire cookie) is = refl
    go QuietWire is = refl
    go LostWire is = absurd (cc (is))

pub no_such_binding : (v : Wire) (n : ℕ) → binding_of v n ≡ None → MayUnbind v n (Err refusal.NoSuchBinding)
no_such_binding v n none = sym (ap (λ (o : Option BindingWire). unless_refused (unbind_causes v o) (ending_of o)) none)

pub lost_ends : (v : Wire) (n : ℕ) (b : BindingWire) → binding_of v n ≡ Some b → is_lost b.stage ≡ true → MayUnbind v n (Ok AtOnce)
lost_ends v n b found lost = sym (of_binding_there v n b found ∙ go b.stage lost)
  where
    go : (s : StageWire) → is_lost s ≡ true → unless_refused (causes.unbind_by v b s) (ending_by b s) ≡ Ok AtOnce
    go LostWire is = refl
    go LiveWire is = absurd (cc (is))
    go (StoppingWire marked) is = absurd (cc (is))
    go (DrainingWire cookie) is = absurd (cc (is))
    go (InvalidatingWire cookie) is = absurd (cc (is))
    go QuietWire is = absurd (cc (is))

pub not_live : (v : Wire) (n : ℕ) (b : BindingWire) → binding_of v n ≡ Some b → is_lost b.stage ≡ false → is_live b.stage ≡ false
    → MayUnbind v n (Err refusal.NotLive)
not_live v n b found stays live =
    sym
    (by_stop v n b found stays
    ∙ refuses (ByStop b.endpoint b.pasid) [] (resetting v b.endpoint ∷ numbers_spent v.next_message 1 ∷ []) (not (is_live b.stage), refusal.NotLive)
    tt (ap not live))

pub in_reset : (v : Wire) (n : ℕ) (b : BindingWire) → binding_of v n ≡ Some b → is_lost b.stage ≡ false → is_live b.stage ≡ true
    → (unit_of v b.endpoint).is_open ≡ false → MayUnbind v n (Err refusal.Resetting)
in_reset v n b found stays live closed =
    sym
    (by_stop v n b found stays
    ∙ refuses (ByStop b.endpoint b.pasid) ((not (is_live b.stage), refusal.NotLive) ∷ []) (numbers_spent v.next_message 1 ∷ [])
    (resetting v b.endpoint) (ap not live, tt)
    (ap not closed))

pub messages_spent : (v : Wire) (n : ℕ) (b : BindingWire) → binding_of v n ≡ Some b → is_lost b.stage ≡ false → is_live b.stage ≡ true
    → (unit_of v b.endpoint).is_open ≡ true → 2 ^ 63 ≤ v.next_message → MayUnbind v n (Err refusal.NumbersSpent)
messages_spent v n b found stays live is_open over =
    sym
    (by_stop v n b found stays
    ∙ refuses (ByStop b.endpoint b.pasid) ((not (is_live b.stage), refusal.NotLive) ∷ resetting v b.endpoint ∷ []) [] (numbers_spent v.next_message 1)
    (ap not live, (ap not is_open, tt)) (spent (2 ^ 63) v.next_message over))

pub is_stopped : (v : Wire) (n : ℕ) (b : BindingWire) → binding_of v n ≡ Some b → is_lost b.stage ≡ false → is_live b.stage ≡ true
    → (unit_of v b.endpoint).is_open ≡ true → v.next_message < 2 ^ 63 → MayUnbind v n (Ok (ByStop b.endpoint b.pasid))
is_stopped v n b found stays live is_open under =
    sym
    (by_stop v n b found stays
    ∙ allows (ByStop b.endpoint b.pasid) ((not (is_live b.stage), refusal.NotLive) ∷ resetting v b.endpoint ∷ numbers_spent v.next_message 1 ∷ [])
    (ap not live, (ap not is_open, (left_over (2 ^ 63) v.next_message under, tt))))

others : (v : Wire) (o : Option BindingWire) → AreOther (unbind_causes v o)
others v None = (tt, tt)
others v (Some b) = go b.stage
  where
    go : (s : StageWire) → AreOther (causes.unbind_by v b s)
    go LiveWire = (tt, (tt, (tt, tt)))
    go (StoppingWire marked) = (tt, (tt, (tt, tt)))
    go (DrainingWire cookie) = (tt, (tt, (tt, tt)))
    go (InvalidatingWire cookie) = (tt, (tt, (tt, tt)))
    go QuietWire = (tt, (tt, (tt, tt)))
    go LostWire = tt

pub unbind_refused : (v : Wire) (n : ℕ) (x : Refusal) → MayUnbind v n (Err x) → ByLabels v (step.Unbind n) (Err x) v
unbind_refused v n x refuses =
    subst (λ (cs : List Cause). Does (checked cs (result_of v (step.Unbind n))) v (Err x) v) (append-nil (causes_of v (step.Unbind n)))
    (refused_by (ending_of (binding_of v n)) (causes_of v (step.Unbind n)) [] (result_of v (step.Unbind n)) v x (others v (binding_of v n)) (sym refuses))

pub refused_otherwise : (v : Wire) (n : ℕ) (x : Refusal) → MayUnbind v n (Err x) → IsOther x
refused_otherwise v n x refuses = is_other (ending_of (binding_of v n)) (causes_of v (step.Unbind n)) x (others v (binding_of v n)) refuses

-- A binding that is Lost.

pub record EndsAtOnce (v : Wire) (n : ℕ) : Type 0 where
  pub binding : BindingWire
  pub found : binding_of v n ≡ Some binding
  pub lost : binding.stage ≡ LostWire

pub ends_at_once : (v : Wire) (n : ℕ) (ending : Ending) → MayUnbind v n (Ok ending) → ending ≡ AtOnce → EndsAtOnce v n
ends_at_once v n ending may is = go (binding_of v n) refl (subst (λ (f : Ending). MayUnbind v n (Ok f)) is may)
  where
    not_this : (b : BindingWire) → ◌≡◌ {A = Ending} (ByStop b.endpoint b.pasid) AtOnce → ⊥
    not_this b wrong = cc

    go : (o : Option BindingWire) → binding_of v n ≡ o → Ok AtOnce ≡ unless_refused (unbind_causes v o) (ending_of o) → EndsAtOnce v n
    go None is may = absurd (none may)
      where
        none : ◌≡◌ {A = Result Ending Refusal} (Ok AtOnce) (Err refusal.NoSuchBinding) → ⊥
        none wrong = cc
    go (Some b) is may = by_stage b.stage refl may
      where
        by_stage : (s : StageWire) → b.stage ≡ s → Ok AtOnce ≡ unless_refused (causes.unbind_by v b s) (ending_by b s) → EndsAtOnce v n
        by_stage LostWire at may = record { binding = b; found = is; lost = at }
        by_stage LiveWire at may = absurd (not_this b (given (ByStop b.endpoint b.pasid) AtOnce (causes.unbind_by v b LiveWire) (sym may)))
        by_stage (StoppingWire marked) at may =
            absurd (not_this b (given (ByStop b.endpoint b.pasid) AtOnce (causes.unbind_by v b (StoppingWire marked)) (sym may)))
        by_stage (DrainingWire cookie) at may =
            absurd (not_this b (given (ByStop b.endpoint b.pasid) AtOnce (causes.unbind_by v b (DrainingWire cookie)) (sym may)))
        by_stage (InvalidatingWire cookie) at may =
            absurd (not_this b (given (ByStop b.endpoint b.pasid) AtOnce (causes.unbind_by v b (InvalidatingWire cookie)) (sym may)))
        by_stage QuietWire at may = absurd (not_this b (given (ByStop b.endpoint b.pasid) AtOnce (causes.unbind_by v b QuietWire) (sym may)))

pub lost_there : (host : HostState) (v : Wire) (n : ℕ) → IsHostState host → wire_of host ≡ v → EndsAtOnce v n → IsIn Kind.lost n host.bindings
lost_there host v n h view ends =
    kind_in LostWire n host.bindings
    (subst (λ (s : StageWire). IsSeenIn s n host.bindings) ends.lost (stage_there host v n ends.binding h view ends.found))

pub ended : (host : HostState) (v : Wire) (n : ℕ) (after : List TableEntry) → wire_of host ≡ v → EndsAtOnce v n → MovesTo QuietWire n host.bindings after
    → ByLabels v (step.Unbind n) (Ok answer.Quiet) (wire_of (record host { bindings = after }))
ended host v n after view ends moves =
    subst (λ (d : Decision). Does d v (Ok answer.Quiet) (wire_of (record host { bindings = after }))) (sym decides)
    (refl, done ∙ ap (λ (w : Wire). record w { bindings = with_stage ends.binding.binding QuietWire w.bindings }) view)
  where
    decides : decide_of v (step.Unbind n) ≡ record { reply = Ok answer.Quiet; moves = Move.Quieten ends.binding.binding ∷ [] }
    decides =
        ap (λ (o : Option BindingWire). checked (unbind_causes v o) (of_binding (λ x. outcomes.unbind_by x x.stage) o)) ends.found
        ∙ ap (λ (s : StageWire). checked (causes.unbind_by v ends.binding s) (outcomes.unbind_by ends.binding s)) ends.lost

    done : wire_of (record host { bindings = after }) ≡ record (wire_of host) { bindings = with_stage ends.binding.binding QuietWire (wire_of host).bindings }
    done = λ i. record (wire_of host) {
      bindings =
          (moves.seen ∙ ap (λ m. with_stage m QuietWire (bindings_seen host.bindings)) (sym (number_is v n ends.binding ends.found))) i;
    }

-- A binding that is Live.

pub record EndsByStop (v : Wire) (n e t : ℕ) : Type 0 where
  pub binding : BindingWire
  pub found : binding_of v n ≡ Some binding
  pub live : binding.stage ≡ LiveWire
  pub left : lacks v.next_message 1 ≡ false
  pub decides : decide_of v (step.Unbind n) ≡ record { reply = Ok answer.Stopping; moves = Move.Stop e n t ∷ [] }

pub ends_by_stop : (v : Wire) (n e t : ℕ) (ending : Ending) → MayUnbind v n (Ok ending) → ending ≡ ByStop e t → EndsByStop v n e t
ends_by_stop v n e t ending may is = go (binding_of v n) refl (subst (λ (f : Ending). MayUnbind v n (Ok f)) is may)
  where
    not_this : (x : Refusal) → ◌≡◌ {A = Result Ending Refusal} (Ok (ByStop e t)) (Err x) → ⊥
    not_this x wrong = cc

    go : (o : Option BindingWire) → binding_of v n ≡ o → Ok (ByStop e t) ≡ unless_refused (unbind_causes v o) (ending_of o) → EndsByStop v n e t
    go None is may = absurd (not_this refusal.NoSuchBinding may)
    go (Some b) is may = by_stage b.stage refl may
      where
        by_stage : (s : StageWire) → b.stage ≡ s → Ok (ByStop e t) ≡ unless_refused (causes.unbind_by v b s) (ending_by b s) → EndsByStop v n e t
        by_stage LiveWire at may =
            let clear = all_clear (ByStop b.endpoint b.pasid) (ByStop e t) (causes.unbind_by v b LiveWire) (sym may) in
            let same : ByStop b.endpoint b.pasid ≡ ByStop e t = given (ByStop b.endpoint b.pasid) (ByStop e t) (causes.unbind_by v b LiveWire) (sym may) in
            let endpoint_of : b.endpoint ≡ e = cc in
            let pasid : b.pasid ≡ t = cc in
            record {
              binding = b;
              found = is;
              live = at;
              left = clear.1.1.0;
              decides =
                  ap (λ (o : Option BindingWire). checked (unbind_causes v o) (of_binding (λ x. outcomes.unbind_by x x.stage) o)) is
                  ∙ ap (λ (s : StageWire). checked (causes.unbind_by v b s) (outcomes.unbind_by b s)) at
                  ∙ passed (ByStop b.endpoint b.pasid) (ByStop e t) (causes.unbind_by v b LiveWire) [] (outcomes.unbind_by b LiveWire) (sym may)
                  ∙ (λ i. record { reply = Ok answer.Stopping; moves = Move.Stop (endpoint_of i) (number_is v n b is i) (pasid i) ∷ [] });
            }
        by_stage (StoppingWire marked) at may = absurd (not_this refusal.NotLive may)
        by_stage (DrainingWire cookie) at may = absurd (not_this refusal.NotLive may)
        by_stage (InvalidatingWire cookie) at may = absurd (not_this refusal.NotLive may)
        by_stage QuietWire at may = absurd (not_this refusal.NotLive may)
        by_stage LostWire at may = absurd (at_once may)
          where
            at_once : ◌≡◌ {A = Result Ending Refusal} (Ok (ByStop e t)) (Ok AtOnce) → ⊥
            at_once wrong = cc

pub live_there : (host : HostState) (v : Wire) (n e t : ℕ) → IsHostState host → wire_of host ≡ v → EndsByStop v n e t → IsIn Kind.live n host.bindings
live_there host v n e t h view ends =
    kind_in LiveWire n host.bindings
    (subst (λ (s : StageWire). IsSeenIn s n host.bindings) ends.live (stage_there host v n ends.binding h view ends.found))

-- no number for the stop is left, which isn't so; or no memory for it
pub unsent : (host : HostState) (v : Wire) (n e t : ℕ) (bag : InFlight) (x : Refusal) → wire_of host ≡ v → EndsByStop v n e t
    → Sends host.in_flight e (Stop t) 1 (Err x) bag
    → ByLabels v (step.Unbind n) (Err x) (wire_of (record host { in_flight = bag }))
unsent host v n e t bag x view ends sends =
    subst (λ (d : Decision). Does d v (Err x) (wire_of (record host { in_flight = bag }))) (sym ends.decides) (go x sends)
  where
    left : lacks host.in_flight.next 1 ≡ false
    left = ap (λ (w : Wire). lacks w.next_message 1) view ∙ ends.left

    go : (x : Refusal) → Sends host.in_flight e (Stop t) 1 (Err x) bag
        → Does (record { reply = Ok answer.Stopping; moves = Move.Stop e n t ∷ [] }) v (Err x) (wire_of (record host { in_flight = bag }))
    go refusal.OutOfMemory sends = (refl, ap (λ (b : InFlight). wire_of (record host { in_flight = b })) sends.1 ∙ view)
    go refusal.NumbersSpent sends = absurd (both (sym sends.0 ∙ left))
      where
        both : true ≡ false → ⊥
        both wrong = cc
    go _ sends = absurd sends

pub stopped : (host : HostState) (v : Wire) (n e t : ℕ) (bag : InFlight) (after : List TableEntry) → wire_of host ≡ v → EndsByStop v n e t
    → Sends host.in_flight e (Stop t) 1 (Ok tt) bag
    → MovesTo (StoppingWire false) n host.bindings after
    → ByLabels v (step.Unbind n) (Ok answer.Stopping) (wire_of (record host { bindings = after; in_flight = bag }))
stopped host v n e t bag after view ends sends moves =
    subst (λ (d : Decision). Does d v (Ok answer.Stopping) (wire_of (record host { bindings = after; in_flight = bag }))) (sym ends.decides)
    (refl, done ∙ ap (λ (w : Wire). all_moved w (Move.Stop e n t ∷ [])) view)
  where
    done : wire_of (record host { bindings = after; in_flight = bag }) ≡ all_moved (wire_of host) (Move.Stop e n t ∷ [])
    done =
        ap (λ (b : InFlight). wire_of (record host { bindings = after; in_flight = b })) sends.1
        ∙ (λ i. record (wire_of host) {
          bindings = moves.seen i;
          in_flight = sent_seen host.in_flight (record { endpoint = e; kind = Stop t }) i;
          next_message = host.in_flight.next + 1;
        })

-- Memory is not wanted of a binding that is Lost.

pub not_lost : (v : Wire) (n e t : ℕ) (b : BindingWire) → EndsByStop v n e t → binding_of v n ≡ Some b → b.stage ≡ LostWire → ⊥
not_lost v n e t b ends found lost =
    let both : ◌≡◌ {A = Option BindingWire} (Some ends.binding) (Some b) = sym ends.found ∙ found in
    let same : ends.binding ≡ b = cc in
    two (sym ends.live ∙ ap (λ (x : BindingWire). x.stage) same ∙ lost)
  where
    two : LiveWire ≡ LostWire → ⊥
    two wrong = cc
