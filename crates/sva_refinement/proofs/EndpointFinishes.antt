-- Finish by labels is Finish by names: the ITags that a vector names, and the uses that their invalidations noted.
use Rattle.std.proofs.Common.{◌≡◌, refl, ap, sym, ◌∙◌, ℕ, ◌<◌, Bool, true, false, arith}
use Rattle.std.specs.Prelude.{Option, Some, None, ◌&&◌, ◌||◌, not, nat_lt, is_none}
use Rattle.std.specs.List.{list_any}
use Rattle.std.proofs.lemmas.Bool.{and_from, lt-ltb, ltb-true}
use Rattle.sva_step.specs.declared.refusals.Refusal.TheVariants as refusal
use Rattle.sva_step.specs.declared.steps.Step.TheVariants as step
use Rattle.sva_model.specs.Words.{any_below, tabulate, holds_of}
use Rattle.sva_model.specs.State.{Mappings, Endpoint, World, OrderState}
use Rattle.sva_model.specs.State.OrderState.{Queued, Sent, Taken, Lapsed, Completing, Done, Void}
use Rattle.sva_model.specs.States.{is_taken, is_running, uses_noted, covers}
use Rattle.sva_model.specs.Labels
use Rattle.sva_model.specs.Refusals.{refusals}
use Rattle.sva_model.specs.Wire.{chain, is_noted, taken_by, wire}
use Rattle.sva_laws.proofs.Labels.{running_slot}
use Rattle.sva_laws.proofs.Invariant.{Invariant}
use Rattle.sva_laws.proofs.Orders.{taken_busy}
use Rattle.sva_labels.proofs.Tests.{first_holds, second_holds}
use Rattle.sva_labels.specs.Finding.{device_of, taken_at, waits_for_use}
use Rattle.sva_labels.specs.Causes.{causes_of}
use Rattle.sva_refinement.proofs.Lookups.{any_table, any_same}
use Rattle.sva_refinement.proofs.EndpointViews.{device_seen, endpoint_cause, same_alike}
use Rattle.sva_refinement.proofs.EndpointLookups.{taken_seen}
use Rattle.sva_refinement.proofs.EndpointSays.{below_seen}
use Rattle.sva_refinement.proofs.EndpointQuits.{any_both}
use Rattle.sva_refinement.proofs.Alike.{SaysAlike}

-- an ITag has an invalidation in the endpoint's hands where its order is taken
none_taken :
    (ms : Mappings) (p : Endpoint) (o : Option ℕ)
    → is_none (chain (λ k. taken_by ms p k (p.order_state k)) o) ≡ not (holds_of (λ k. is_taken (p.order_state k)) o)
none_taken ms p None = refl
none_taken ms p (Some k) = go (p.order_state k)
  where
    go : (s : OrderState) → is_none (taken_by ms p k s) ≡ not (is_taken s)
    go Queued = refl
    go Sent = refl
    go (Taken uses) = refl
    go Lapsed = refl
    go (Completing count left) = refl
    go Done = refl
    go Void = refl

pub pending_seen :
    (w : World) (e t : ℕ) → Invariant w → e < w.config.endpoints
    → is_none (taken_at (device_of (wire w) e) t) ≡ not (Labels.is_pending (w.part e) t)
pending_seen w e t i l =
    ap (λ d. is_none (taken_at d t)) (device_seen w e l)
    ∙ ap is_none (taken_seen w.mappings (w.part e) (i.parts e).labels t)
    ∙ none_taken w.mappings (w.part e) ((w.part e).at_itag t)

-- what an invalidation waits for is a use that it noted and that runs
noted_seen :
    (w : World) (e k uses : ℕ) → Invariant w
    → list_any (λ b. b) (tabulate 16 (λ t. holds_of (is_noted w.mappings (w.part e) k uses) ((w.part e).at_slot t)))
    ≡ any_below uses (Labels.is_noted_running w.mappings (w.part e) k)
noted_seen w e k uses i =
    any_table 16 (λ t. holds_of (is_noted w.mappings p k uses) (p.at_slot t)) (λ b. b)
    ∙ any_both 16 uses (λ t. holds_of (is_noted w.mappings p k uses) (p.at_slot t)) (Labels.is_noted_running w.mappings p k)
    (λ t l h. forth (p.at_slot t) h) back
  where
    p : Endpoint
    p = w.part e

    forth : (o : Option ℕ) → holds_of (is_noted w.mappings p k uses) o ≡ true → (u : ℕ) × (u < uses) × (Labels.is_noted_running w.mappings p k u ≡ true)
    forth None h = absurd (cc)
    forth (Some u) h = (
      u,
      ltb-true u uses (first_holds (nat_lt u uses) (Labels.is_noted_running w.mappings p k u) h),
      second_holds (nat_lt u uses)
          (Labels.is_noted_running w.mappings p k u) h,
    )

    back :
        (u : ℕ) → u < uses → Labels.is_noted_running w.mappings p k u ≡ true
        → (t : ℕ) × (t < 16) × (holds_of (is_noted w.mappings p k uses) (p.at_slot t) ≡ true)
    back u l h =
        let there : p.at_slot (p.use_slot u) ≡ Some u =
        (i.parts e).labels.bears_slot u
        (running_slot (p.use_state u)
        (first_holds (is_running (p.use_state u)) (covers (p.order k) (p.use_binding u) (w.mappings.page (p.use_mapping u))) h)) in (
          p.use_slot u,
          (i.parts e).labels.slot_low (p.use_slot u) u there,
          ap (holds_of (is_noted w.mappings p k uses)) there ∙ and_from (nat_lt u uses) (Labels.is_noted_running w.mappings p k u) (lt-ltb u uses l) h,
        )

-- by the state of the order
waits_seen :
    (w : World) (e k : ℕ) → Invariant w → (s : OrderState)
    → waits_for_use (taken_by w.mappings (w.part e) k s) ≡ (is_taken s && any_below (uses_noted s) (Labels.is_noted_running w.mappings (w.part e) k))
waits_seen w e k i Queued = refl
waits_seen w e k i Sent = refl
waits_seen w e k i (Taken uses) = noted_seen w e k uses i
waits_seen w e k i Lapsed = refl
waits_seen w e k i (Completing count left) = refl
waits_seen w e k i Done = refl
waits_seen w e k i Void = refl

pub in_use_seen :
    (w : World) (e vector : ℕ) → Invariant w → e < w.config.endpoints
    → any_below 32 (λ t. Labels.is_set vector t && waits_for_use (taken_at (device_of (wire w) e) t))
    ≡ any_below (w.part e).orders (λ k. Labels.is_named (w.part e) vector k && Labels.is_in_use w (w.part e) k)
in_use_seen w e vector i l =
    any_same 32 (λ t. Labels.is_set vector t && waits_for_use (taken_at (device_of (wire w) e) t))
    (λ t. Labels.is_set vector t && waits_for_use (chain (λ k. taken_by w.mappings p k (p.order_state k)) (p.at_itag t)))
    (λ t m. ap (λ o. Labels.is_set vector t && waits_for_use o) (ap (λ d. taken_at d t) (device_seen w e l) ∙ taken_seen w.mappings p (i.parts e).labels t))
    ∙ any_both 32 p.orders (λ t. Labels.is_set vector t && waits_for_use (chain (λ k. taken_by w.mappings p k (p.order_state k)) (p.at_itag t)))
    (λ k. Labels.is_named p vector k && Labels.is_in_use w p k)
    (λ t m h. forth t (p.at_itag t) refl h) back
  where
    p : Endpoint
    p = w.part e

    made : (k : ℕ) → is_taken (p.order_state k) ≡ true → k < p.orders
    made k t = grind (arith, (i.parts e).bounds.order_state k)

    forth :
        (t : ℕ) (o : Option ℕ) → p.at_itag t ≡ o
        → (Labels.is_set vector t && waits_for_use (chain (λ k. taken_by w.mappings p k (p.order_state k)) o)) ≡ true
        → (k : ℕ) × (k < p.orders) × ((Labels.is_named p vector k && Labels.is_in_use w p k) ≡ true)
    forth t None m h = absurd (nothing (Labels.is_set vector t) h)
      where
        nothing : (a : Bool) → (a && false) ≡ true → ⊥
        nothing a h = grind arith
    forth t (Some k) m h =
        let set : Labels.is_set vector t ≡ true = first_holds (Labels.is_set vector t) (waits_for_use (taken_by w.mappings p k (p.order_state k))) h in
        let waits : (is_taken (p.order_state k) && Labels.is_in_use w p k) ≡ true =
        sym (waits_seen w e k i (p.order_state k)) ∙ second_holds (Labels.is_set vector t) (waits_for_use (taken_by w.mappings p k (p.order_state k))) h in
        let taken = first_holds (is_taken (p.order_state k)) (Labels.is_in_use w p k) waits in (
          k,
          made k taken,
          and_from (Labels.is_named p vector k) (Labels.is_in_use w p k)
              (and_from (is_taken (p.order_state k)) (Labels.is_set vector (p.itag k)) taken
              (ap (Labels.is_set vector) ((i.parts e).labels.itag_bears t k m).0 ∙ set))
              (second_holds (is_taken (p.order_state k)) (Labels.is_in_use w p k) waits),
        )

    back :
        (k : ℕ) → k < p.orders → (Labels.is_named p vector k && Labels.is_in_use w p k) ≡ true
        → (t : ℕ) × (t < 32) × ((Labels.is_set vector t && waits_for_use (chain (λ k. taken_by w.mappings p k (p.order_state k)) (p.at_itag t))) ≡ true)
    back k m h =
        let named = first_holds (Labels.is_named p vector k) (Labels.is_in_use w p k) h in
        let taken = first_holds (is_taken (p.order_state k)) (Labels.is_set vector (p.itag k)) named in
        let there : p.at_itag (p.itag k) ≡ Some k = (i.parts e).labels.bears_itag k (taken_busy (p.order_state k) taken) in (
          p.itag k,
          (i.parts e).labels.itag_low (p.itag k) k there,
          ap (λ o. Labels.is_set vector (p.itag k) && waits_for_use (chain (λ k. taken_by w.mappings p k (p.order_state k)) o)) there
              ∙ and_from (Labels.is_set vector (p.itag k)) (waits_for_use (taken_by w.mappings p k (p.order_state k)))
              (second_holds (is_taken (p.order_state k)) (Labels.is_set vector (p.itag k)) named)
              (waits_seen w e k i (p.order_state k)
              ∙ and_from (is_taken (p.order_state k)) (Labels.is_in_use w p k) taken (second_holds (Labels.is_named p vector k) (Labels.is_in_use w p k) h)),
        )

pub finish_says : (w : World) (e vector count : ℕ) → Invariant w → SaysAlike w (step.Finish e vector count)
finish_says w e vector count i =
    record {
      alike =
          same_alike (causes_of (wire w) (step.Finish e vector count)) (refusals w (step.Finish e vector count)) (
            endpoint_cause w e,
            λ f. (
              ap (λ b. (Labels.names_none vector || b, refusal.NotPending))
                  (any_same 32 (λ t. Labels.is_set vector t && is_none (taken_at (device_of (wire w) e) t))
                  (λ t. Labels.is_set vector t && not (Labels.is_pending (w.part e) t))
                  (λ t m. ap (λ b. Labels.is_set vector t && b) (pending_seen w e t i (below_seen w e f)))),
              λ f1. (ap (λ b. (b, refusal.InUse)) (in_use_seen w e vector i (below_seen w e f)), λ f2. (refl, λ f3. (refl, λ f4. tt))),
            ),
          );
      result = λ h. refl;
    }
