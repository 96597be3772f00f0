-- The steps of bindings by labels: they refuse what the steps by names refuse, and answer and move what these do.
use Rattle.std.proofs.Common.{◌≡◌, refl, ap, sym, ◌∙◌, ℕ, ◌<◌, Bool, true, false, arith}
use Rattle.std.specs.Prelude as prelude
use Rattle.std.specs.Prelude.{Option, Some, None, option_map, ◌&&◌, ◌||◌, not, ◌==◌, nat_lt, nat_le, if◌then◌else◌, is_none, List, [], ◌∷◌}
use Rattle.std.proofs.lemmas.Bool.{not-false}
use Rattle.sva_step.specs.declared.refusals.Refusal.TheVariants as refusal
use Rattle.sva_step.specs.declared.steps.Step.TheVariants as step
use Rattle.sva_model.specs.Words.{is_some, the, find, any_below}
use Rattle.sva_model.specs.State.{Stage, Order, World}
use Rattle.sva_model.specs.State.PasidRule.{PerSpace}
use Rattle.sva_model.specs.State.Stage.{Unbound, Live, Stopping, Draining, Invalidating, Quiet, Lost, Released}
use Rattle.sva_model.specs.States.{is_unreleased, is_wait, drains}
use Rattle.sva_model.specs.Unmappings.{bound}
use Rattle.sva_model.specs.Refusals as names
use Rattle.sva_model.specs.Refusals.{Cause, refusals}
use Rattle.sva_model.specs.Outcomes.{unbind_outcome, advance_outcome}
use Rattle.sva_model.specs.Labels
use Rattle.sva_model.specs.Wire.{BindingWire, number, cookie_number, stage_wire, binding_wire, wire}
use Rattle.sva_laws.specs.Waits.{HasFront}
use Rattle.sva_labels.proofs.Words.{find_passes, find_some, any_below-true, any_below-intro}
use Rattle.sva_laws.proofs.Invariant.{Invariant}
use Rattle.sva_laws.proofs.Passed.{unreleased_bound}
use Rattle.sva_labels.proofs.Tests.{is_less}
use Rattle.sva_labels.specs.Finding.{binding_of, bound_at, pasid_for, has_room, has_open_group, is_wait_done}
use Rattle.sva_labels.specs.Causes.{causes_of, no_such_endpoint, no_such_space, resetting, numbers_spent, bind_causes, unbind_causes, advance_causes}
use Rattle.sva_labels.specs.Causes.{unbind_by, advance_by}
use Rattle.sva_labels.specs.Outcomes as results
use Rattle.sva_labels.specs.Outcomes.{result_of, says, by_one, bind_result, label, of_binding}
use Rattle.sva_refinement.proofs.Alike.{refused_by, IsAlike, alike_same, alike_more, alike_right, alike_held, SaysAlike, result_by}
use Rattle.sva_refinement.proofs.Bound.{binding_seen, bound_is}
use Rattle.sva_refinement.proofs.EndpointViews.{part_seen, unit_seen, endpoint_cause}
use Rattle.sva_refinement.proofs.LookedBindings.{both_ways, is_kept, binding_is, binding_found, binding_missing}
use Rattle.sva_refinement.proofs.HostGroupsFiled.{Filings}
use Rattle.sva_refinement.proofs.LookedGroups.{open_there}
use Rattle.sva_refinement.proofs.LookedPasids.{pasid_there, bearer_said}
use Rattle.sva_refinement.proofs.LookedUnits.{room_there, drained_there, invalidated_there}
use Rattle.sva_refinement.proofs.Lookups.{seen_some}
use Rattle.sva_refinement.proofs.SaysSpaces.{in_space, space_number}

pub bearer_says : (w : World) (t : ℕ) → Invariant w → w.rule ≡ PerSpace → SaysAlike w (step.Bearer t)
bearer_says w t i r = record { alike = refl; result = λ k. ap (λ a. says a []) (bearer_said w t i r) }

-- Binding a space.

pub reset_cause : (w : World) (e : ℕ) → e < w.config.endpoints → resetting (wire w) e ≡ names.resetting w e
reset_cause w e l = ap (λ u. (not u.is_open, refusal.Resetting)) (unit_seen w e l)

found_any : (n : ℕ) (p : ℕ → Bool) → is_some (find n p) ≡ any_below n p
found_any n p =
    both_ways (is_some (find n p)) (any_below n p) (λ h. forth (find n p) refl h) (λ h. let x =
    any_below-true n p h in ap is_some (find_some n p x.0 x.1 x.2))
  where
    forth : (o : Option ℕ) → find n p ≡ o → is_some o ≡ true → any_below n p ≡ true
    forth None e h = absurd (cc (h))
    forth (Some k) e h = let x = find_passes n p k e in any_below-intro n p k x.0 x.1

bound_there_at : (w : World) (e s : ℕ) → Invariant w → prelude.is_some (bound_at (wire w) e (number w.config.first s)) ≡ Labels.is_bound_at w s e
bound_there_at w e s i =
    ap prelude.is_some (bound_is w e s i) ∙ seen_some (binding_wire w.config.first e (w.part e)) (bound w e s)
    ∙ found_any w.bindings (λ b. is_unreleased ((w.part e).stage b) && (w.part e).space b == s)

none_same : (o : Option ℕ) → is_none o ≡ not (is_some o)
none_same None = refl
none_same (Some k) = refl

label_same : (o : Option ℕ) → label o ≡ the o
label_same None = refl
label_same (Some k) = refl

bind_alike : (w : World) (e n : ℕ) → Invariant w → w.rule ≡ PerSpace → IsAlike (causes_of (wire w) (step.Bind e n)) (refusals w (step.Bind e n))
bind_alike w e n i r =
    alike_more (no_such_endpoint (wire w) e) (names.no_such_endpoint w e) (no_such_space (wire w) n ∷ bind_causes (wire w) e n)
    (names.no_such_space w n ∷ names.bind_refusals w e (Labels.name w n))
    (endpoint_cause w e)
    (λ h.
    let l : e < w.config.endpoints = is_less e w.config.endpoints (sym (ap (λ c. c.0) (endpoint_cause w e)) ∙ h) in
    in_space w n (bind_causes (wire w) e n) (names.bind_refusals w e (Labels.name w n))
    (λ s. alike_same (bind_causes (wire w) e n) (names.bind_refusals w e (Labels.name w n))
    (ap (bind_causes (wire w) e) (sym (space_number w n s))
    ∙ (λ k.
    reset_cause w e l k
    ∷ (bound_there_at w e (Labels.name w n) i k, refusal.AlreadyBound)
    ∷ (((ap is_none (pasid_there w e (Labels.name w n) i r)) ∙ none_same (Labels.pasid_for w e (Labels.name w n))) k, refusal.NoPasid)
    ∷ numbers_spent (wire w).next_binding 1
    ∷ numbers_spent (wire w).next_message 1
    ∷ []))))

pub bind_says : (w : World) (e n : ℕ) → Invariant w → w.rule ≡ PerSpace → SaysAlike w (step.Bind e n)
bind_says w e n i r =
    record {
      alike = bind_alike w e n i r;
      result = λ k.
          let num = space_number w n (not-false (Labels.is_space w n) k.1.0) in
          ap (λ t. bind_result (wire w) e n t)
          (ap label (ap (pasid_for (wire w)) (sym num) ∙ pasid_there w e (Labels.name w n) i r) ∙ label_same (Labels.pasid_for w e (Labels.name w n)))
          ∙ ap (λ m. bind_result (wire w) e m (the (Labels.pasid_for w e (Labels.name w n)))) (sym num);
    }

-- Ending one.

home_there : (w : World) (b : ℕ) → Invariant w → is_kept w b ≡ true → w.endpoint_of b < w.config.endpoints
home_there w b i h = (i.parts (w.endpoint_of b)).there b (unreleased_bound (w.part (w.endpoint_of b)) b h)

-- a binding that isn't there is refused first
of_number :
    (w : World) (n : ℕ) (cs : Option BindingWire → List Cause) (ds : List Cause) → cs None ≡ (true, refusal.NoSuchBinding) ∷ []
    → (Labels.is_binding w n ≡ true → IsAlike (cs (Some (binding_seen w (Labels.name w n)))) ds)
    → IsAlike (cs (binding_of (wire w) n)) (names.no_such_binding w n ∷ ds)
of_number w n cs ds none h = go (Labels.is_binding w n) refl
  where
    go : (b : Bool) → Labels.is_binding w n ≡ b → IsAlike (cs (binding_of (wire w) n)) (names.no_such_binding w n ∷ ds)
    go false e =
        ap (λ o. refused_by (cs o)) (binding_missing w n e) ∙ ap refused_by none
        ∙ alike_held (true, refusal.NoSuchBinding) (names.no_such_binding w n) [] ds refl (ap not e) refl
    go true e =
        ap (λ o. refused_by (cs o)) (binding_found w n e)
        ∙ alike_right (names.no_such_binding w n) (cs (Some (binding_seen w (Labels.name w n)))) ds (ap not e) (h e)

unbind_stages :
    (w : World) (b : ℕ) → w.endpoint_of b < w.config.endpoints → (s : Stage)
    → unbind_by (wire w) (binding_seen w b) (stage_wire w.config.first (w.part (w.endpoint_of b)) s) ≡ names.unbind_refusals w (w.endpoint_of b) s
unbind_stages w b l Lost = refl
unbind_stages w b l Unbound = ap (λ c. (true, refusal.NotLive) ∷ c ∷ numbers_spent (wire w).next_message 1 ∷ []) (reset_cause w (w.endpoint_of b) l)
unbind_stages w b l Live = ap (λ c. (false, refusal.NotLive) ∷ c ∷ numbers_spent (wire w).next_message 1 ∷ []) (reset_cause w (w.endpoint_of b) l)
unbind_stages w b l (Stopping marked) = ap (λ c. (true, refusal.NotLive) ∷ c ∷ numbers_spent (wire w).next_message 1 ∷ []) (reset_cause w (w.endpoint_of b) l)
unbind_stages w b l (Draining k) = ap (λ c. (true, refusal.NotLive) ∷ c ∷ numbers_spent (wire w).next_message 1 ∷ []) (reset_cause w (w.endpoint_of b) l)
unbind_stages w b l (Invalidating j k) = ap (λ c. (true, refusal.NotLive) ∷ c ∷ numbers_spent (wire w).next_message 1 ∷ []) (reset_cause w (w.endpoint_of b) l)
unbind_stages w b l Quiet = ap (λ c. (true, refusal.NotLive) ∷ c ∷ numbers_spent (wire w).next_message 1 ∷ []) (reset_cause w (w.endpoint_of b) l)
unbind_stages w b l Released = ap (λ c. (true, refusal.NotLive) ∷ c ∷ numbers_spent (wire w).next_message 1 ∷ []) (reset_cause w (w.endpoint_of b) l)

unbound_by :
    (w : World) (b : ℕ) (s : Stage)
    → results.unbind_by (binding_seen w b) (stage_wire w.config.first (w.part (w.endpoint_of b)) s) ≡ result_by w (unbind_outcome (w.endpoint_of b) b s)
unbound_by w b Lost = refl
unbound_by w b Unbound = refl
unbound_by w b Live = refl
unbound_by w b (Stopping marked) = refl
unbound_by w b (Draining k) = refl
unbound_by w b (Invalidating j k) = refl
unbound_by w b Quiet = refl
unbound_by w b Released = refl

pub unbind_says : (w : World) (n : ℕ) → Invariant w → SaysAlike w (step.Unbind n)
unbind_says w n i =
    record {
      alike =
          of_number w n (unbind_causes (wire w))
          (names.unbind_refusals w (w.endpoint_of (Labels.name w n)) ((w.part (w.endpoint_of (Labels.name w n))).stage (Labels.name w n))) refl
          (λ e. let kept = (binding_is w n e).kept in
          alike_same (unbind_causes (wire w) (Some (binding_seen w (Labels.name w n))))
          (names.unbind_refusals w (w.endpoint_of (Labels.name w n)) ((w.part (w.endpoint_of (Labels.name w n))).stage (Labels.name w n)))
          (unbind_stages w (Labels.name w n) (home_there w (Labels.name w n) i kept) ((w.part (w.endpoint_of (Labels.name w n))).stage (Labels.name w n))));
      result = λ k.
          ap (of_binding (λ b. results.unbind_by b b.stage)) (binding_found w n (not-false (Labels.is_binding w n) k.0))
          ∙ unbound_by w (Labels.name w n) ((w.part (w.endpoint_of (Labels.name w n))).stage (Labels.name w n));
    }

-- Going on with one.

advance_stages :
    (w : World) (b : ℕ) → Invariant w → ((e : ℕ) → HasFront w.cookies (w.part e)) → ((e : ℕ) → Filings (w.part e)) → is_kept w b ≡ true
    → (s : Stage) → (w.part (w.endpoint_of b)).stage b ≡ s
    → advance_by (wire w) (binding_seen w b) (stage_wire w.config.first (w.part (w.endpoint_of b)) s) ≡ names.advance_refusals w (w.endpoint_of b) b s
advance_stages w b i f fi h Unbound e = absurd (cc (sym (ap is_unreleased e) ∙ h))
advance_stages w b i f fi h Released e = absurd (cc (sym (ap is_unreleased e) ∙ h))
advance_stages w b i f fi h Quiet e = refl
advance_stages w b i f fi h Live e = ap (λ c. c ∷ (true, refusal.NotYet) ∷ []) (reset_cause w (w.endpoint_of b) (home_there w b i h))
advance_stages w b i f fi h Lost e = ap (λ c. c ∷ (true, refusal.NotYet) ∷ []) (reset_cause w (w.endpoint_of b) (home_there w b i h))
advance_stages w b i f fi h (Stopping marked) e =
    let l = home_there w b i h in
    λ k.
    reset_cause w (w.endpoint_of b) l k
    ∷ (not marked, refusal.NotYet)
    ∷ ((ap (λ u. not (has_room u 1)) (unit_seen w (w.endpoint_of b) l) ∙ room_there w.config.first 1 (w.part (w.endpoint_of b))) k, refusal.QueueFull)
    ∷ numbers_spent (wire w).next_cookie 1
    ∷ []
advance_stages w b i f fi h (Draining wait) e =
    let l = home_there w b i h in
    let d = (i.parts (w.endpoint_of b)).orders.draining b wait e in
    λ k.
    reset_cause w (w.endpoint_of b) l k
    ∷ (
      not ((ap (λ u. is_wait_done u (cookie_number w.config.first ((w.part (w.endpoint_of b)).order wait))) (unit_seen w (w.endpoint_of b) l)
          ∙ drained_there w.config.first w.cookies b wait (w.part (w.endpoint_of b)) (f (w.endpoint_of b))
          (a_wait ((w.part (w.endpoint_of b)).order wait) d.0) e) k)
          || ((ap (λ p. has_open_group p (number w.config.first b)) (part_seen w (w.endpoint_of b) l)
          ∙ open_there w.config.first w.bindings b w.mappings (w.part (w.endpoint_of b)) (i.parts (w.endpoint_of b)).bounds (fi (w.endpoint_of b))) k),
      refusal.NotYet,
    )
    ∷ ((ap (λ u. not (has_room u 2)) (unit_seen w (w.endpoint_of b) l) ∙ room_there w.config.first 2 (w.part (w.endpoint_of b))) k, refusal.QueueFull)
    ∷ numbers_spent (wire w).next_cookie 1
    ∷ []
  where
    a_wait : (o : Order) → drains o ≡ true → is_wait o ≡ true
    a_wait o h = grind arith
advance_stages w b i f fi h (Invalidating invalidation wait) e =
    let l = home_there w b i h in
    λ k.
    reset_cause w (w.endpoint_of b) l k
    ∷ (
      not ((ap (λ u. is_wait_done u (cookie_number w.config.first ((w.part (w.endpoint_of b)).order wait))) (unit_seen w (w.endpoint_of b) l)
          ∙ invalidated_there w.config.first w.cookies b invalidation wait (w.part (w.endpoint_of b)) (f (w.endpoint_of b))
          ((i.parts (w.endpoint_of b)).orders.invalidating b invalidation wait e).2 e) k),
      refusal.NotYet,
    )
    ∷ []

advanced_by :
    (w : World) (b : ℕ) (s : Stage)
    → results.advance_by (binding_seen w b) (stage_wire w.config.first (w.part (w.endpoint_of b)) s) ≡ result_by w (advance_outcome w (w.endpoint_of b) b s)
advanced_by w b Lost = refl
advanced_by w b Unbound = refl
advanced_by w b Live = refl
advanced_by w b (Stopping marked) = refl
advanced_by w b (Draining k) = refl
advanced_by w b (Invalidating j k) = refl
advanced_by w b Quiet = refl
advanced_by w b Released = refl

pub advance_says : (w : World) (n : ℕ) → Invariant w → ((e : ℕ) → HasFront w.cookies (w.part e)) → ((e : ℕ) → Filings (w.part e))
    → SaysAlike w (step.Advance n)
advance_says w n i f fi =
    record {
      alike =
          of_number w n (advance_causes (wire w))
          (names.advance_refusals w (w.endpoint_of (Labels.name w n)) (Labels.name w n)
          ((w.part (w.endpoint_of (Labels.name w n))).stage (Labels.name w n))) refl
          (λ e.
          alike_same (advance_causes (wire w) (Some (binding_seen w (Labels.name w n))))
          (names.advance_refusals w (w.endpoint_of (Labels.name w n)) (Labels.name w n) ((w.part (w.endpoint_of (Labels.name w n))).stage (Labels.name w n)))
          (advance_stages w (Labels.name w n) i f fi (binding_is w n e).kept ((w.part (w.endpoint_of (Labels.name w n))).stage (Labels.name w n)) refl));
      result = λ k.
          ap (of_binding (λ b. results.advance_by b b.stage)) (binding_found w n (not-false (Labels.is_binding w n) k.0))
          ∙ advanced_by w (Labels.name w n) ((w.part (w.endpoint_of (Labels.name w n))).stage (Labels.name w n));
    }
