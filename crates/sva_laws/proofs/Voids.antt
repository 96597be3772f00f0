-- An order is void only by a reset, also over a list of steps: from one world to a later one.
use Rattle.sva_model.specs.State.{PasidRule}
use Rattle.std.proofs.Common.{◌≡◌, ◌≢◌, ◌⊎◌, inl, inr, refl, sym, subst, ◌∙◌, ℕ, suc, ◌+◌, ◌<◌, ◌≤◌, Bool, true, false, arith}
use Rattle.std.specs.Prelude.{Option, Some, None, List, [], ◌∷◌, ◌++◌}
use Rattle.std.proofs.lemmas.Bool.Decides.{nat_tests}
use Rattle.sva_step.specs.declared.limits.Config.{Config}
use Rattle.sva_step.specs.declared.steps.Step.{Step}
use Rattle.sva_model.specs.State.{Endpoint, Phase, World, opened}
use Rattle.sva_model.specs.State.OrderState.{Void}
use Rattle.sva_model.specs.State.Phase.{Open, ResetSent, Cleared}
use Rattle.sva_model.specs.Unmappings.{submitted, submitted_if, submits, bound, cookie_of}
use Rattle.sva_model.specs.Acts.{Act, LocalAct, act, act_alone}
use Rattle.sva_model.specs.Acts.Act.{NewSpace, DropSpace, Map, Unmap, NewBinding, NewJob, Hold, LetGo, AtEndpoint}
use Rattle.sva_model.specs.Steps.{decide, next, run, after_acts, world_after}
use Rattle.sva_laws.specs.UnitSteps.{IsVoidByReset}
use Rattle.sva_laws.proofs.Keeps.{put_keeps}
use Rattle.sva_laws.proofs.Lookback.{run_append}

pub record Since (p q : Endpoint) : Type 0 where
  pub resets : p.resets ≤ q.resets
  pub opened : q.phase ≡ Open → (p.phase ≡ Open) ⊎ (p.resets < q.resets)
  pub void : (k : ℕ) → k < q.orders → q.order_state k ≡ Void → q.phase ≡ Open → ((k < p.orders) × (p.order_state k ≡ Void)) ⊎ (p.resets < q.resets)

since_same : (p : Endpoint) → Since p p
since_same p = record { resets = omega arith; opened = λ h. inl h; void = λ k lt h o. inl (lt, h) }

since_more : (p q r : Endpoint) → Since p q → Since q r → Since p r
since_more p q r a b =
    record {
      resets = omega (arith, a.resets, b.resets);
      opened = λ h. before (b.opened h);
      void = λ k lt h o. from k (b.void k lt h o) (b.opened o);
    }
  where
    up : q.resets < r.resets → p.resets < r.resets
    up h = omega (arith, h, a.resets)

    on : p.resets < q.resets → p.resets < r.resets
    on h = omega (arith, h, b.resets)

    before : (q.phase ≡ Open) ⊎ (q.resets < r.resets) → (p.phase ≡ Open) ⊎ (p.resets < r.resets)
    before (inr h) = inr (up h)
    before (inl h) = elim (a.opened h) [ inl x ↦ inl x | inr y ↦ inr (on y) ]

    from : (k : ℕ) → ((k < q.orders) × (q.order_state k ≡ Void)) ⊎ (q.resets < r.resets) → (q.phase ≡ Open) ⊎ (q.resets < r.resets)
        → ((k < p.orders) × (p.order_state k ≡ Void)) ⊎ (p.resets < r.resets)
    from k (inr h) o = inr (up h)
    from k (inl h) (inr o) = inr (up o)
    from k (inl h) (inl o) = elim (a.void k h.0 h.1 o) [ inl x ↦ inl x | inr y ↦ inr (on y) ]

since_own : (p : Endpoint) (n : ℕ) (o : LocalAct) → Since p (act_alone p n o)
since_own p n o =
    record {
      resets = grind (arith, nat_tests);
      opened = λ h. grind (arith, nat_tests);
      void = λ k lt h ph. grind (arith, nat_tests);
    }

since_submitted : (t : Bool) (p : Endpoint) (o : Option ℕ) (q count order cookie : ℕ) → Since p (submitted_if t p o q count order cookie)
since_submitted true p (Some b) q count order cookie = record { resets = omega arith; opened = λ h. inl h; void = λ k lt h ph. inl (was_void k lt h) }
  where
    was_void : (k : ℕ) → k < p.orders + suc count → (submitted p b q count order cookie).order_state k ≡ Void → (k < p.orders) × (p.order_state k ≡ Void)
    was_void k lt h = grind (arith, nat_tests)
since_submitted true p None q count order cookie = since_same p
since_submitted false p o q count order cookie = since_same p

since_act : (w : World) (a : Act) (e : ℕ) → Since (w.part e) ((act w a).part e)
since_act w NewSpace e = since_same (w.part e)
since_act w (DropSpace s) e = since_same (w.part e)
since_act w (Map s q f x) e = since_same (w.part e)
since_act w (Unmap s q count order) e = since_submitted (submits w s e) (w.part e) (bound w e s) q count order (cookie_of w s e)
since_act w (NewBinding d) e = since_same (w.part e)
since_act w (NewJob d g) e = since_same (w.part e)
since_act w (Hold x j) e = since_same (w.part e)
since_act w (LetGo x) e = since_same (w.part e)
since_act w (AtEndpoint d o) e =
    put_keeps (λ x q. Since (w.part x) q) w.part d (act_alone (w.part d) w.messages o) (since_own (w.part d) w.messages o) (λ x. since_same (w.part x)) e

since_acts : (acts : List Act) (w : World) (e : ℕ) → Since (w.part e) ((after_acts w acts).part e)
since_acts [] w e = since_same (w.part e)
since_acts (a ∷ acts) w e = since_more (w.part e) ((act w a).part e) ((after_acts (act w a) acts).part e) (since_act w a e) (since_acts acts (act w a) e)

since_run : (ss : List Step) (w : World) (e : ℕ) → Since (w.part e) ((run w ss).part e)
since_run [] w e = since_same (w.part e)
since_run (s ∷ ss) w e = since_more (w.part e) ((next w s).part e) ((run (next w s) ss).part e) (since_acts (decide w s).acts w e) (since_run ss (next w s) e)

void_by_reset : (p q : Endpoint) → Since p q → IsVoidByReset p q
void_by_reset p q x = record { void = λ k lt h. go k lt h q.phase refl }
  where
    go : (k : ℕ) → k < q.orders → q.order_state k ≡ Void → (f : Phase) → q.phase ≡ f → ((k < p.orders) × (p.order_state k ≡ Void))
        ⊎ ((q.phase ≢ Open) ⊎ (p.resets < q.resets))
    go k lt h Open f = elim (x.void k lt h f) [ inl y ↦ inl y | inr z ↦ inr (inr z) ]
    go k lt h (ResetSent c) f = inr (inl (λ o. absurd (cc (sym o ∙ f))))
    go k lt h (Cleared c) f = inr (inl (λ o. absurd (cc (sym o ∙ f))))

pub always_void : (rule : PasidRule) (config : Config) (before since : List Step) (e : ℕ)
    → IsVoidByReset ((world_after rule config before).part e) ((world_after rule config (before ++ since)).part e)
always_void rule config before since e =
    subst (λ v. IsVoidByReset ((world_after rule config before).part e) (v.part e)) (sym (run_append before since (opened rule config)))
    (void_by_reset ((world_after rule config before).part e) ((run (world_after rule config before) since).part e)
    (since_run since (world_after rule config before) e))
