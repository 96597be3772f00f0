-- Quit by labels is Quit by names: what is busy of a PASID is what is busy of its bearer.
use Rattle.std.proofs.Common.{◌≡◌, inl, refl, ap, sym, ◌∙◌, ℕ, ◌<◌, Bool, true, false, arith}
use Rattle.std.specs.Prelude.{Option, Some, None, option_map, ◌&&◌, ◌||◌, not, ◌==◌, if◌then◌else◌}
use Rattle.std.specs.List.{list_any}
use Rattle.std.proofs.lemmas.Bool.Decides.{nat_tests}
use Rattle.std.proofs.lemmas.Bool.{eq-eqb, eqb-true, not-false}
use Rattle.sva_step.specs.declared.answers.Answer.TheVariants as answer
use Rattle.sva_step.specs.declared.refusals.Refusal.TheVariants as refusal
use Rattle.sva_step.specs.declared.steps.Step.TheVariants as step
use Rattle.sva_model.specs.Words.{any_below}
use Rattle.sva_model.specs.State.{Mappings, Endpoint, World, GroupState, UseState}
use Rattle.sva_model.specs.State.UseState.{Running}
use Rattle.sva_model.specs.States.{is_ending, is_out, is_running, is_collecting, is_outstanding}
use Rattle.sva_model.specs.Claims.{IsBearer}
use Rattle.sva_model.specs.Labels
use Rattle.sva_model.specs.Refusals.{refusals}
use Rattle.sva_model.specs.Wire.{UseWire, request_wire, use_wire, group_wire, translation_wire, device_wire, wire}
use Rattle.sva_labels.proofs.Words.{any_below-true, any_below-intro}
use Rattle.sva_laws.proofs.Labels.{running_slot}
use Rattle.sva_laws.proofs.Invariant.{Invariant}
use Rattle.sva_laws.proofs.Found.{found}
use Rattle.sva_laws.proofs.Passed.{bearer_of}
use Rattle.sva_labels.specs.Finding.{device_of, pasid_state, is_request_of, is_use_of, has_unfinished_group}
use Rattle.sva_labels.specs.Causes.{causes_of, is_busy_pasid}
use Rattle.sva_labels.specs.Moves.{Move}
use Rattle.sva_labels.specs.Outcomes.{by_one}
use Rattle.sva_refinement.proofs.Lookups.{any_table}
use Rattle.sva_refinement.proofs.EndpointViews.{device_seen, endpoint_cause, same_alike}
use Rattle.sva_refinement.proofs.EndpointLookups.{ending_seen}
use Rattle.sva_refinement.proofs.EndpointSays.{below_seen}
use Rattle.sva_refinement.proofs.Alike.{SaysAlike}
use Rattle.sva_laws.proofs.LegalEndpoint.{unfinished_is}

-- two searches each of which finds where the other does
pub any_both :
    (n m : ℕ) (p q : ℕ → Bool) → ((i : ℕ) → i < n → p i ≡ true → (j : ℕ) × (j < m) × (q j ≡ true))
    → ((j : ℕ) → j < m → q j ≡ true → (i : ℕ) × (i < n) × (p i ≡ true)) → any_below n p ≡ any_below m q
any_both n m p q f g = go (any_below n p) (any_below m q) refl refl
  where
    go : (b c : Bool) → any_below n p ≡ b → any_below m q ≡ c → b ≡ c
    go true true h k = refl
    go false false h k = refl
    go true false h k =
        let x = any_below-true n p h in
        let y = f x.0 x.1 x.2 in
        absurd (cc (sym k ∙ any_below-intro m q y.0 y.1 y.2))
    go false true h k =
        let x = any_below-true m q k in
        let y = g x.0 x.1 x.2 in
        absurd (cc (sym h ∙ any_below-intro n p y.0 y.1 y.2))

both : (a : Bool) (x y : ℕ) → a ≡ true → x ≡ y → (a && x == y) ≡ true
both a x y h k = grind (arith, nat_tests)

parts : (a : Bool) (x y : ℕ) → (a && x == y) ≡ true → (a ≡ true) × (x ≡ y)
parts a x y h = grind (arith, nat_tests)

-- a binding that bears its PASID, which is t, is the bearer of t
is_bearer : (p : Endpoint) (t b d : ℕ) → p.at_pasid t ≡ Some b → IsBearer p d → p.pasid d ≡ t → d ≡ b
is_bearer p t b d h i same =
    let row : p.at_pasid (p.pasid d) ≡ p.at_pasid t = ap p.at_pasid same in
    let own : p.at_pasid (p.pasid d) ≡ Some d = i.bears in
    cc

unfinished_out : (s : GroupState) → is_collecting s ≡ true → is_outstanding s ≡ true
unfinished_out s h = grind arith

pub groups_busy :
    (w : World) (e t b : ℕ) → Invariant w → (w.part e).at_pasid t ≡ Some b
    → list_any (has_unfinished_group t) (device_wire w.mappings (w.part e)).groups ≡ Labels.has_unfinished_group (w.part e) b
groups_busy w e t b i h =
    any_table 32 (λ x. option_map (group_wire p) (p.at_index x)) (has_unfinished_group t)
    ∙ any_both 32 p.groups (λ x. has_unfinished_group t (option_map (group_wire p) (p.at_index x))) (λ g. is_collecting (p.group g) && p.asker g == b)
    (λ x l k. forth (p.at_index x) k) back
  where
    p : Endpoint
    p = w.part e

    made : (g : ℕ) → is_collecting (p.group g) ≡ true → g < p.groups
    made g k = grind (arith, (i.parts e).bounds.group g)

    forth :
        (o : Option ℕ) → has_unfinished_group t (option_map (group_wire p) o) ≡ true
        → (g : ℕ) × (g < p.groups) × ((is_collecting (p.group g) && p.asker g == b) ≡ true)
    forth None k = absurd (cc)
    forth (Some g) k =
        let x = parts (is_collecting (p.group g)) (p.pasid (p.asker g)) t k in (
          g,
          made g x.0,
          both (is_collecting (p.group g)) (p.asker g) b x.0
              (is_bearer p t b (p.asker g) h ((found w e i).asker g (inl (unfinished_is (p.group g) x.0))).0 x.1),
        )

    back :
        (g : ℕ) → g < p.groups → (is_collecting (p.group g) && p.asker g == b) ≡ true
        → (x : ℕ) × (x < 32) × (has_unfinished_group t (option_map (group_wire p) (p.at_index x)) ≡ true)
    back g l k =
        let x = parts (is_collecting (p.group g)) (p.asker g) b k in
        let there : p.at_index (p.index g) ≡ Some g = (i.parts e).groups.bears_index g (unfinished_out (p.group g) x.0) in (
          p.index g,
          (i.parts e).groups.index_low (p.index g) g there,
          ap (λ o. has_unfinished_group t (option_map (group_wire p) o)) there
              ∙ both (is_collecting (p.group g)) (p.pasid (p.asker g)) t x.0 (ap p.pasid x.1 ∙ ((i.parts e).labels.pasid_bears t b h).0),
        )

pub tags_busy :
    (w : World) (e t b : ℕ) → Invariant w → (w.part e).at_pasid t ≡ Some b
    → list_any (is_request_of t) (device_wire w.mappings (w.part e)).tags ≡ Labels.is_request_out_of (w.part e) b
tags_busy w e t b i h =
    any_table 32 (λ x. option_map (request_wire p) (p.at_tag x)) (is_request_of t)
    ∙ any_both 32 p.requests (λ x. is_request_of t (option_map (request_wire p) (p.at_tag x))) (λ r. is_out (p.request r) && p.request_binding r == b)
    (λ x l k. forth x (p.at_tag x) refl k) back
  where
    p : Endpoint
    p = w.part e

    made : (r : ℕ) → is_out (p.request r) ≡ true → r < p.requests
    made r k = grind (arith, (i.parts e).bounds.request r)

    forth :
        (x : ℕ) (o : Option ℕ) → p.at_tag x ≡ o → is_request_of t (option_map (request_wire p) o) ≡ true
        → (r : ℕ) × (r < p.requests) × ((is_out (p.request r) && p.request_binding r == b) ≡ true)
    forth x None m k = absurd (cc)
    forth x (Some r) m k =
        let out = ((i.parts e).labels.tag_bears x r m).1 in (
          r,
          made r out,
          both (is_out (p.request r)) (p.request_binding r) b out
              (is_bearer p t b (p.request_binding r) h ((found w e i).out r out).0 (eqb-true (p.pasid (p.request_binding r)) t k)),
        )

    back :
        (r : ℕ) → r < p.requests → (is_out (p.request r) && p.request_binding r == b) ≡ true
        → (x : ℕ) × (x < 32) × (is_request_of t (option_map (request_wire p) (p.at_tag x)) ≡ true)
    back r l k =
        let x = parts (is_out (p.request r)) (p.request_binding r) b k in
        let there : p.at_tag (p.request_tag r) ≡ Some r = (i.parts e).labels.bears_tag r x.0 in (
          p.request_tag r,
          (i.parts e).labels.tag_low (p.request_tag r) r there,
          ap (λ o. is_request_of t (option_map (request_wire p) o)) there
              ∙ eq-eqb (p.pasid (p.request_binding r)) t (ap p.pasid x.1 ∙ ((i.parts e).labels.pasid_bears t b h).0),
        )

running_is : (s : UseState) → is_running s ≡ true → s ≡ Running
running_is s h = grind arith

-- a use is of the PASID where it runs, and is of its bearer
use_of : (t : ℕ) (ms : Mappings) (p : Endpoint) (u : ℕ) → is_use_of t (Some (use_wire ms p u)) ≡ (is_running (p.use_state u) && p.pasid (p.use_binding u) == t)
use_of t ms p u = go (is_running (p.use_state u))
  where
    go :
        (b : Bool)
        → is_use_of t
        (Some (if b then UseWire.RunningWire (translation_wire ms p (p.use_binding u) (ms.page (p.use_mapping u)) (p.use_mapping u))
        else UseWire.DeadWire)) ≡ (b && p.pasid (p.use_binding u) == t)
    go true = refl
    go false = refl

pub slots_busy :
    (w : World) (e t b : ℕ) → Invariant w → (w.part e).at_pasid t ≡ Some b
    → list_any (is_use_of t) (device_wire w.mappings (w.part e)).slots ≡ Labels.is_use_of (w.part e) b
slots_busy w e t b i h =
    any_table 16 (λ x. option_map (use_wire w.mappings p) (p.at_slot x)) (is_use_of t)
    ∙ any_both 16 p.uses (λ x. is_use_of t (option_map (use_wire w.mappings p) (p.at_slot x)))
    (λ u. is_running (p.use_state u) && p.use_binding u == b) (λ x l k. forth (p.at_slot x) k) back
  where
    p : Endpoint
    p = w.part e

    made : (u : ℕ) → is_running (p.use_state u) ≡ true → u < p.uses
    made u k = grind (arith, (i.parts e).bounds.use_state u)

    forth :
        (o : Option ℕ) → is_use_of t (option_map (use_wire w.mappings p) o) ≡ true
        → (u : ℕ) × (u < p.uses) × ((is_running (p.use_state u) && p.use_binding u == b) ≡ true)
    forth None k = absurd (cc)
    forth (Some u) k =
        let x = parts (is_running (p.use_state u)) (p.pasid (p.use_binding u)) t (sym (use_of t w.mappings p u) ∙ k) in (
          u,
          made u x.0,
          both (is_running (p.use_state u)) (p.use_binding u) b x.0
              (is_bearer p t b (p.use_binding u) h ((found w e i).in_use u (running_is (p.use_state u) x.0)) x.1),
        )

    back :
        (u : ℕ) → u < p.uses → (is_running (p.use_state u) && p.use_binding u == b) ≡ true
        → (x : ℕ) × (x < 16) × (is_use_of t (option_map (use_wire w.mappings p) (p.at_slot x)) ≡ true)
    back u l k =
        let x = parts (is_running (p.use_state u)) (p.use_binding u) b k in
        let there : p.at_slot (p.use_slot u) ≡ Some u = (i.parts e).labels.bears_slot u (running_slot (p.use_state u) x.0) in (
          p.use_slot u,
          (i.parts e).labels.slot_low (p.use_slot u) u there,
          ap (λ o. is_use_of t (option_map (use_wire w.mappings p) o)) there
              ∙ use_of t w.mappings p u
              ∙ both (is_running (p.use_state u)) (p.pasid (p.use_binding u)) t x.0 (ap p.pasid x.1 ∙ ((i.parts e).labels.pasid_bears t b h).0),
        )

stopping_cause :
    (w : World) (e t : ℕ) → Invariant w → e < w.config.endpoints
    → is_ending (pasid_state (device_of (wire w) e) t) ≡ Labels.is_told_to_stop (w.part e) t
stopping_cause w e t i l = ap (λ d. is_ending (pasid_state d t)) (device_seen w e l) ∙ ending_seen w.mappings (w.part e) (i.parts e).labels t

busy_cause :
    (w : World) (e t b : ℕ) → Invariant w → e < w.config.endpoints → (w.part e).at_pasid t ≡ Some b
    → is_busy_pasid (device_of (wire w) e) t
    ≡ (Labels.has_unfinished_group (w.part e) b || Labels.is_request_out_of (w.part e) b || Labels.is_use_of (w.part e) b)
busy_cause w e t b i l h =
    ap (λ d. is_busy_pasid d t) (device_seen w e l)
    ∙ (λ j. (groups_busy w e t b i h j || tags_busy w e t b i h j || slots_busy w e t b i h j))

-- a PASID that is told to stop has a bearer
ending_bearer : (w : World) (e t : ℕ) → Labels.is_told_to_stop (w.part e) t ≡ true → (w.part e).at_pasid t ≡ Some (Labels.bearer (w.part e) t)
ending_bearer w e t h = (bearer_of (w.part e) t (λ b. is_ending ((w.part e).pasid_state b)) h).0

pub quit_says : (w : World) (e t : ℕ) → Invariant w → SaysAlike w (step.Quit e t)
quit_says w e t i =
    record {
      alike =
          same_alike (causes_of (wire w) (step.Quit e t)) (refusals w (step.Quit e t)) (
            endpoint_cause w e,
            λ f. (
              ap (λ b. (not b, refusal.NotStopping)) (stopping_cause w e t i (below_seen w e f)),
              λ f1. (
                ap (λ b. (b, refusal.Busy))
                    (busy_cause w e t (Labels.bearer (w.part e) t) i (below_seen w e f)
                    (ending_bearer w e t (sym (stopping_cause w e t i (below_seen w e f)) ∙ not-false (is_ending (pasid_state (device_of (wire w) e) t)) f1))),
                λ f2. (refl, λ f3. tt),
              ),
            ),
          );
      result = λ h.
          ap (λ u. by_one answer.Marker (Move.Quit e u))
          (sym ((i.parts e).labels.pasid_bears t (Labels.bearer (w.part e) t)
          (ending_bearer w e t (not-false (Labels.is_told_to_stop (w.part e) t) h.1.0))).0);
    }
