-- The endpoint's steps by labels refuse, answer and move as the steps by names: a translation that is asked for, used and
-- given up.
use Rattle.std.proofs.Common.{◌≡◌, refl, ap, ap₂, sym, ◌∙◌, ℕ, ◌<◌, Bool, true, false, arith}
use Rattle.std.specs.Prelude.{Option, Some, None, ◌&&◌, not, ◌==◌, nat_lt, if◌then◌else◌, option_map, is_none, length}
use Rattle.std.proofs.lemmas.Bool.Decides.{nat_tests}
use Rattle.std.proofs.lemmas.Bool.{not-false}
use Rattle.sva_step.specs.declared.answers.Answer.TheVariants as answer
use Rattle.sva_step.specs.declared.refusals.Refusal.TheVariants as refusal
use Rattle.sva_step.specs.declared.steps.Step.TheVariants as step
use Rattle.sva_model.specs.Words as words
use Rattle.sva_model.specs.Words.{the}
use Rattle.sva_model.specs.State.{World}
use Rattle.sva_model.specs.States.{is_on, is_running}
use Rattle.sva_model.specs.Labels
use Rattle.sva_model.specs.Refusals as names
use Rattle.sva_model.specs.Refusals.{refusals}
use Rattle.sva_model.specs.Wire.{DeviceWire, UseWire, translation_wire, cached_wire, request_wire, use_wire, wire}
use Rattle.sva_labels.proofs.Words.{some_the}
use Rattle.sva_laws.proofs.Invariant.{Invariant}
use Rattle.sva_laws.proofs.Passed.{bearer_of}
use Rattle.sva_laws.proofs.LegalEndpoint.{cached_is}
use Rattle.sva_labels.proofs.Tests.{and_no, is_less, second_holds}
use Rattle.sva_labels.specs.Finding.{device_of, lowest_label, cached, use_at}
use Rattle.sva_labels.specs.Causes.{causes_of, not_started, not_held, is_read_only}
use Rattle.sva_labels.specs.Moves.{Move}
use Rattle.sva_labels.specs.Outcomes.{by_one, label, begin_result, end_answer}
use Rattle.sva_refinement.proofs.Lookups.{no_label, label_is, seen_none}
use Rattle.sva_refinement.proofs.EndpointViews.{device_seen, endpoints_seen, endpoint_cause, same_alike}
use Rattle.sva_refinement.proofs.EndpointLookups.{started_seen, use_seen, cached_seen, is_cached_seen}
use Rattle.sva_refinement.proofs.Alike.{SaysAlike}

-- where the endpoint is there
pub below_seen : (w : World) (e : ℕ) → not (nat_lt e (length (wire w).parts)) ≡ false → e < w.config.endpoints
below_seen w e f = is_less e w.config.endpoints (sym (ap (λ n. not (nat_lt e n)) (endpoints_seen w)) ∙ f)

pub not_started_cause :
    (w : World) (e t : ℕ) → Invariant w → e < w.config.endpoints
    → not_started (device_of (wire w) e) t ≡ (not (Labels.is_started (w.part e) t), refusal.NotStarted)
not_started_cause w e t i l =
    ap (λ d. not_started d t) (device_seen w e l)
    ∙ ap (λ b. (not b, refusal.NotStarted)) (started_seen w.mappings (w.part e) (i.parts e).labels t)

pub not_held_cause : (w : World) (e t q : ℕ) → Invariant w → e < w.config.endpoints → not_held (device_of (wire w) e) t q ≡ names.not_held (w.part e) t q
not_held_cause w e t q i l =
    ap (λ d. not_held d t q) (device_seen w e l)
    ∙ ap (λ b. (b, refusal.NotHeld)) (is_cached_seen w.mappings w.config.endpoints w.bindings w.messages e (w.part e) (i.parts e) t q)

-- the bearer of a PASID that is on bears it
pub bearer_pasid : (w : World) (e t : ℕ) → Invariant w → Labels.is_started (w.part e) t ≡ true → (w.part e).pasid (Labels.bearer (w.part e) t) ≡ t
bearer_pasid w e t i h =
    ((i.parts e).labels.pasid_bears t (Labels.bearer (w.part e) t) (bearer_of (w.part e) t (λ b. is_on ((w.part e).pasid_state b)) h).0).0

-- Ask.

no_tag : (w : World) (e : ℕ) → e < w.config.endpoints → is_none (lowest_label (device_of (wire w) e).tags) ≡ (Labels.lowest_label 32 (w.part e).at_tag == 32)
no_tag w e l =
    ap (λ (d : DeviceWire). is_none (lowest_label d.tags)) (device_seen w e l)
    ∙ no_label 32 (w.part e).at_tag (λ t. option_map (request_wire (w.part e)) ((w.part e).at_tag t))
    (λ t. seen_none (request_wire (w.part e)) ((w.part e).at_tag t))

tag_is :
    (w : World) (e : ℕ) → e < w.config.endpoints → (Labels.lowest_label 32 (w.part e).at_tag == 32) ≡ false
    → label (lowest_label (device_of (wire w) e).tags) ≡ Labels.lowest_label 32 (w.part e).at_tag
tag_is w e l h =
    ap (λ (d : DeviceWire). label (lowest_label d.tags)) (device_seen w e l)
    ∙ label_is 32 (w.part e).at_tag (λ t. option_map (request_wire (w.part e)) ((w.part e).at_tag t))
    (λ t. seen_none (request_wire (w.part e)) ((w.part e).at_tag t)) h

pub ask_says : (w : World) (e t q : ℕ) → Invariant w → SaysAlike w (step.Ask e t q)
ask_says w e t q i =
    record {
      alike =
          same_alike (causes_of (wire w) (step.Ask e t q)) (refusals w (step.Ask e t q)) (
            endpoint_cause w e,
            λ f. (
              refl,
              λ f1. (
                not_started_cause w e t i (below_seen w e f),
                λ f2. (ap (λ b. (b, refusal.NoTag)) (no_tag w e (below_seen w e f)), λ f3. (refl, λ f4. tt)),
              ),
            ),
          );
      result = λ h.
          ap₂ (λ k u. by_one (answer.Tag k) (Move.Ask e u q k)) (tag_is w e (is_less e w.config.endpoints h.0) h.1.1.1.0)
          (sym (bearer_pasid w e t i (not-false (Labels.is_started (w.part e) t) h.1.1.0)));
    }

-- BeginUse.

no_slot : (w : World) (e : ℕ) → e < w.config.endpoints → is_none (lowest_label (device_of (wire w) e).slots)
    ≡ (Labels.lowest_label 16 (w.part e).at_slot == 16)
no_slot w e l =
    ap (λ (d : DeviceWire). is_none (lowest_label d.slots)) (device_seen w e l)
    ∙ no_label 16 (w.part e).at_slot (λ t. option_map (use_wire w.mappings (w.part e)) ((w.part e).at_slot t))
    (λ t. seen_none (use_wire w.mappings (w.part e)) ((w.part e).at_slot t))

slot_is :
    (w : World) (e : ℕ) → e < w.config.endpoints → (Labels.lowest_label 16 (w.part e).at_slot == 16) ≡ false
    → label (lowest_label (device_of (wire w) e).slots) ≡ Labels.lowest_label 16 (w.part e).at_slot
slot_is w e l h =
    ap (λ (d : DeviceWire). label (lowest_label d.slots)) (device_seen w e l)
    ∙ label_is 16 (w.part e).at_slot (λ t. option_map (use_wire w.mappings (w.part e)) ((w.part e).at_slot t))
    (λ t. seen_none (use_wire w.mappings (w.part e)) ((w.part e).at_slot t)) h

held_seen :
    (w : World) (e t q : ℕ) → Invariant w → e < w.config.endpoints → Labels.is_cached (w.part e) t q ≡ true
    → cached (device_of (wire w) e) t q ≡ Some (cached_wire w.mappings (w.part e) (Labels.cached (w.part e) (Labels.bearer (w.part e) t) q))
held_seen w e t q i l h =
    ap (λ d. cached d t q) (device_seen w e l) ∙ cached_seen w.mappings w.config.endpoints w.bindings w.messages e (w.part e) (i.parts e) t q h

-- what passes the test of what isn't held is cached
passed_held :
    (w : World) (e t q : ℕ) → Invariant w → e < w.config.endpoints → is_none (cached (device_of (wire w) e) t q) ≡ false
    → Labels.is_cached (w.part e) t q ≡ true
passed_held w e t q i l f = not-false (Labels.is_cached (w.part e) t q) (sym (ap (λ c. c.0) (not_held_cause w e t q i l)) ∙ f)

pub begin_says : (w : World) (e t q : ℕ) (x : Bool) → Invariant w → SaysAlike w (step.BeginUse e t q x)
begin_says w e t q x i =
    record {
      alike =
          same_alike (causes_of (wire w) (step.BeginUse e t q x)) (refusals w (step.BeginUse e t q x)) (
            endpoint_cause w e,
            λ f. (
              refl,
              λ f1. (
                not_started_cause w e t i (below_seen w e f),
                λ f2. (
                  not_held_cause w e t q i (below_seen w e f),
                  λ f3. (
                    ap (λ o. (x && is_read_only o, refusal.ReadOnly)) (held_seen w e t q i (below_seen w e f) (passed_held w e t q i (below_seen w e f) f3)),
                    λ f4. (ap (λ b. (b, refusal.NoUseSlot)) (no_slot w e (below_seen w e f)), λ f5. tt),
                  ),
                ),
              ),
            ),
          );
      result = λ h.
          ap₂ (begin_result e) (slot_is w e (is_less e w.config.endpoints h.0) h.1.1.1.1.1.0)
          (held_seen w e t q i (is_less e w.config.endpoints h.0) (not-false (Labels.is_cached (w.part e) t q) h.1.1.1.0));
    }

-- EndUse.

no_use :
    (w : World) (e u : ℕ) → Invariant w → e < w.config.endpoints
    → is_none (use_at (device_of (wire w) e) u) ≡ not (nat_lt u 16 && words.is_some ((w.part e).at_slot u))
no_use w e u i l =
    ap (λ d. is_none (use_at d u)) (device_seen w e l)
    ∙ ap is_none (use_seen w.mappings (w.part e) (i.parts e).labels u)
    ∙ go ((w.part e).at_slot u) refl
  where
    low : u < 16 → (nat_lt u 16 && true) ≡ true
    low k = grind (arith, nat_tests)

    go : (o : Option ℕ) → (w.part e).at_slot u ≡ o → is_none (option_map (use_wire w.mappings (w.part e)) o) ≡ not (nat_lt u 16 && words.is_some o)
    go None k = sym (ap not (and_no (nat_lt u 16)))
    go (Some v) k = sym (ap not (low ((i.parts e).labels.slot_low u v k)))

pub end_says : (w : World) (e u : ℕ) → Invariant w → SaysAlike w (step.EndUse e u)
end_says w e u i =
    record {
      alike =
          same_alike (causes_of (wire w) (step.EndUse e u)) (refusals w (step.EndUse e u)) (
            endpoint_cause w e,
            λ f. (ap (λ b. (b, refusal.NoSuchUse)) (no_use w e u i (below_seen w e f)), λ f1. tt),
          );
      result = λ h.
          let there =
          some_the ((w.part e).at_slot u)
          (second_holds (nat_lt u 16) (words.is_some ((w.part e).at_slot u)) (not-false (nat_lt u 16 && words.is_some ((w.part e).at_slot u)) h.1.0)) in
          ap₂ (λ a v. by_one a (Move.End e v))
          (ap (λ d. end_answer (use_at d u)) (device_seen w e (is_less e w.config.endpoints h.0))
          ∙ ap end_answer (use_seen w.mappings (w.part e) (i.parts e).labels u)
          ∙ ap (λ o. end_answer (option_map (use_wire w.mappings (w.part e)) o)) there
          ∙ answered (the ((w.part e).at_slot u)) (is_running ((w.part e).use_state (the ((w.part e).at_slot u)))))
          (sym ((i.parts e).labels.slot_bears u (the ((w.part e).at_slot u)) there).0);
    }
  where
    answered :
        (v : ℕ) (b : Bool)
        → end_answer
        (Some (if b then UseWire.RunningWire
        (translation_wire w.mappings (w.part e) ((w.part e).use_binding v) (w.mappings.page ((w.part e).use_mapping v)) ((w.part e).use_mapping v))
        else UseWire.DeadWire)) ≡ (if b then answer.Ended else answer.Dead)
    answered v true = refl
    answered v false = refl

-- Evict.

pub evict_says : (w : World) (e t q : ℕ) → Invariant w → SaysAlike w (step.Evict e t q)
evict_says w e t q i =
    record {
      alike =
          same_alike (causes_of (wire w) (step.Evict e t q)) (refusals w (step.Evict e t q)) (
            endpoint_cause w e,
            λ f. (refl, λ f1. (not_held_cause w e t q i (below_seen w e f), λ f2. tt)),
          );
      result = λ h.
          let is = not-false (Labels.is_cached (w.part e) t q) h.1.1.0 in
          let c = cached_is (w.part e) t q is in
          let bears = bearer_of (w.part e) t (λ d. words.any_below (w.part e).requests (Labels.is_held_at (w.part e) d q)) is in
          ap₂ (λ u v. by_one answer.Evicted (Move.Evict e u v))
          (sym (ap (w.part e).pasid c.binding ∙ ((i.parts e).labels.pasid_bears t (Labels.bearer (w.part e) t) bears.0).0)) (sym c.page);
    }
