-- A refused step leaves the world, and has its refusal's cause: what a test that holds says, and the steps of the host.
use Rattle.std.proofs.Common.{◌≡◌, ◌≢◌, ◌⊎◌, inl, inr, refl, ap, sym, subst, ◌∙◌, ℕ, ◌+◌, ◌%◌, ◌^◌, ◌<◌, ◌≤◌, Bool, true, false, arith}
use Rattle.std.specs.Prelude.{Option, Some, None, ◌-◌, ◌&&◌, ◌||◌, not, ◌==◌, nat_lt, nat_le, if◌then◌else◌, List, [], ◌∷◌, ◌++◌, Err}
use Rattle.std.proofs.lemmas.Bool.Decides.{nat_tests}
use Rattle.std.proofs.lemmas.Bool.{and_from, not-true, not-false, eqb-true, eqb-false}
use Rattle.sva_step.specs.declared.limits.Config.{Config}
use Rattle.sva_step.specs.declared.refusals.Refusal.{Refusal}
use Rattle.sva_step.specs.declared.steps.Step.{Step}
use Rattle.sva_step.specs.declared.steps.Step.TheVariants as step
use Rattle.sva_step.specs.Limits
use Rattle.sva_model.specs.Words.{any_below, all_below, lowest, is_some, holds_of, the}
use Rattle.sva_model.specs.State.{PasidRule, Endpoint, World, Stage, Phase, OrderState}
use Rattle.sva_model.specs.State.PasidRule.{PerEndpoint, PerSpace}
use Rattle.sva_model.specs.State.Stage.{Unbound, Live, Stopping, Draining, Invalidating, Quiet, Lost, Released}
use Rattle.sva_model.specs.State.OrderState.{Queued, Done}
use Rattle.sva_model.specs.State.Phase.{Open}
use Rattle.sva_model.specs.States.{is_open, is_unreleased, is_before_invalidating, is_open_group, is_done, is_wait, is_free, is_free_place, place}
use Rattle.sva_model.specs.States.Place.{Free}
use Rattle.sva_model.specs.Unmappings.{submits, submits_at, bound}
use Rattle.sva_model.specs.Labels
use Rattle.sva_model.specs.Refusals.{Cause, refusals, unbind_refusals, advance_refusals, is_queue_short, sends_invalidate, resetting, messages_spent}
use Rattle.sva_model.specs.Outcomes.{Outcome, outcome}
use Rattle.sva_model.specs.Steps.{Reply, checked, reply, next, after_acts, world_after}
use Rattle.sva_laws.specs.Causes.{IsUnitFull, IsWaitingFor, LacksPlaces, LacksPlacesFor, AreSpent, AreAllBorne}
use Rattle.sva_laws.specs.EndpointCauses.{HasCause}
use Rattle.sva_labels.proofs.Words.{none_is, some_the, lowest_cases, find_passes, any_below-false, any_below-true, all_below_cases}
use Rattle.sva_labels.proofs.Tests.{first_holds, second_holds, one_holds, taken_off}
use Rattle.sva_laws.proofs.Resets.{open_is}
use Rattle.sva_laws.proofs.Invariant.{Invariant}
use Rattle.sva_laws.proofs.Lookback.{after_one}
use Rattle.sva_laws.proofs.LegalUnit.{head_is}
use Rattle.sva_laws.proofs.Passed.{unreleased_made}
use Rattle.sva_laws.proofs.Pasids.{none_lowest}

-- From a refusal to its cause.

-- each cause that holds, where none ahead of it does, gives this of its refusal
abbrev pub EachHas : (Refusal → Type 0) → List Cause → Type 0
EachHas P [] = Unit {0}
EachHas P (c ∷ cs) = (c.0 ≡ true → P c.1) × (c.0 ≡ false → EachHas P cs)

abbrev refused : Refusal → Reply
refused r = Err r

same_refusal : (a b : Refusal) → refused a ≡ refused b → a ≡ b
same_refusal a b h = cc

pub has_cause : (P : Refusal → Type 0) (cs : List Cause) (o : Outcome) (r : Refusal) → EachHas P cs → (checked cs o).reply ≡ Err r → P r
has_cause P [] o r each h = absurd (cc)
has_cause P (c ∷ cs) o r each h = go c.0 refl h (λ e k. has_cause P cs o r e k)
  where
    go : (b : Bool) → c.0 ≡ b → (if b then record { reply = Err c.1; acts = [] } else checked cs o).reply ≡ Err r
        → (EachHas P cs → (checked cs o).reply ≡ Err r → P r) → P r
    go true t k rest = subst P (same_refusal c.1 r k) (each.0 t)
    go false t k rest = rest (each.1 t) k

no_acts : (cs : List Cause) (o : Outcome) (r : Refusal) → (checked cs o).reply ≡ Err r → (checked cs o).acts ≡ []
no_acts [] o r h = absurd (cc)
no_acts (c ∷ cs) o r h = go c.0 h (λ k. no_acts cs o r k)
  where
    go : (b : Bool) → (if b then record { reply = Err c.1; acts = [] } else checked cs o).reply ≡ Err r
        → ((checked cs o).reply ≡ Err r → (checked cs o).acts ≡ [])
        → (if b then record { reply = Err c.1; acts = [] } else checked cs o).acts ≡ []
    go true k rest = refl
    go false k rest = rest k

pub stays : (w : World) (s : Step) (r : Refusal) → reply w s ≡ Err r → next w s ≡ w
stays w s r h = ap (after_acts w) (no_acts (refusals w s) (outcome w s) r h)

pub always_stays : (rule : PasidRule) (config : Config) (steps : List Step) (s : Step) (r : Refusal)
    → reply (world_after rule config steps) s ≡ Err r
    → world_after rule config (steps ++ s ∷ []) ≡ world_after rule config steps
always_stays rule config steps s r h = after_one rule config steps s ∙ stays (world_after rule config steps) s r h

-- What a test that holds says.

pub not_lower : (a b : ℕ) → not (nat_lt a b) ≡ true → b ≤ a
not_lower a b h = grind (arith, nat_tests)

pub is_lower : (a b : ℕ) → nat_lt a b ≡ true → a < b
is_lower a b h = grind (arith, nat_tests)

pub is_at_most : (a b : ℕ) → nat_le a b ≡ true → a ≤ b
is_at_most a b h = grind (arith, nat_tests)

pub out_of : (count most : ℕ) → not (nat_le 1 count && nat_le count most) ≡ true → (count ≡ 0) ⊎ (most < count)
out_of count most h = grind (arith, nat_tests)

pub in_reset : (x : Phase) → not (is_open x) ≡ true → x ≢ Open
in_reset x h e = absurd (cc (sym (ap (λ y. not (is_open y)) e) ∙ h))

pub not_holding : (test : ℕ → Bool) (o : Option ℕ) (k : ℕ) → holds_of test o ≡ false → o ≡ Some k → test k ≡ false
not_holding test o k h e = sym (ap (holds_of test) e) ∙ h

pub none_passes : (n : ℕ) (p : ℕ → Bool) → (lowest n p == n) ≡ true → (j : ℕ) → j < n → p j ≡ false
none_passes n p h = go (lowest_cases n p) (eqb-true (lowest n p) n h)
  where
    go : ((lowest n p ≡ n) × ((j : ℕ) → j < n → p j ≡ false))
        ⊎ ((lowest n p < n) × (p (lowest n p) ≡ true) × ((j : ℕ) → j < lowest n p → p j ≡ false))
        → lowest n p ≡ n → (j : ℕ) → j < n → p j ≡ false
    go (inl x) e = x.1
    go (inr x) e = absurd (omega (arith, x.0, e))

-- each label of so many is borne
pub all_taken : (n : ℕ) (at : ℕ → Option ℕ) → (Labels.lowest_label n at == n) ≡ true → (t : ℕ) → t < n → (k : ℕ) × (at t ≡ Some k)
all_taken n at h t l = (the (at t), some_the (at t) (not-false (is_some (at t)) (none_passes n (λ j. not (is_some (at j))) h t l)))

-- Numbers and names.

numbered : (first count k n : ℕ) → first + k ≡ n → k < count → (nat_le first n && nat_lt (n - first) count) ≡ true
numbered first count k n e l = let back : n - first ≡ k = taken_off first n k e in grind (arith, nat_tests)

pub is_numbered : (w : World) (count k n : ℕ) → Labels.number w k ≡ n → k < count → (Labels.is_number w count n ≡ true) × (Labels.name w n ≡ k)
is_numbered w count k n e l = (numbered w.config.first count k n e l, taken_off w.config.first n k e)

pub no_space : (w : World) (n : ℕ) → Invariant w → not (Labels.is_space w n) ≡ true → (s : ℕ) → Labels.number w s ≡ n → w.is_live s ≢ true
no_space w n i h s e live =
    let x = is_numbered w w.spaces s n e (i.mapped.live s live) in
    let yes = and_from (Labels.is_number w w.spaces n) (w.is_live (Labels.name w n)) x.0 (ap w.is_live x.1 ∙ live) in
    absurd (cc (sym (not-true (Labels.is_space w n) h) ∙ yes))

pub no_binding : (w : World) (n : ℕ) → Invariant w → not (Labels.is_binding w n) ≡ true → (b : ℕ) → Labels.number w b ≡ n
    → is_unreleased ((w.part (w.endpoint_of b)).stage b) ≢ true
no_binding w n i h b e u =
    let lt = unreleased_made w.bindings (w.part (w.endpoint_of b)) b (i.parts (w.endpoint_of b)).bounds.stage u in
    let x = is_numbered w w.bindings b n e lt in
    let yes =
    and_from (Labels.is_number w w.bindings n) (is_unreleased ((w.part (w.endpoint_of (Labels.name w n))).stage (Labels.name w n))) x.0
    (ap (λ z. is_unreleased ((w.part (w.endpoint_of z)).stage z)) x.1 ∙ u)
    in
    absurd (cc (sym (not-true (Labels.is_binding w n) h) ∙ yes))

-- Bindings of a space.

pub is_bound_there : (w : World) (s e : ℕ) → Labels.is_bound_at w s e ≡ true
    → (b : ℕ) × (is_unreleased ((w.part e).stage b) ≡ true) × ((w.part e).space b ≡ s)
is_bound_there w s e h =
    let x = any_below-true w.bindings (λ b. is_unreleased ((w.part e).stage b) && (w.part e).space b == s) h in (
      x.0,
      first_holds (is_unreleased ((w.part e).stage x.0)) ((w.part e).space x.0 == s) x.2,
      eqb-true ((w.part e).space x.0) s (second_holds (is_unreleased ((w.part e).stage x.0)) ((w.part e).space x.0 == s) x.2),
    )

is_bound_somewhere : (w : World) (s : ℕ) → Labels.is_bound w s ≡ true
    → (e : ℕ) × (b : ℕ) × (is_unreleased ((w.part e).stage b) ≡ true) × ((w.part e).space b ≡ s)
is_bound_somewhere w s h =
    let x = any_below-true w.config.endpoints (Labels.is_bound_at w s) h in
    let y = is_bound_there w s x.0 x.2 in
    (x.0, y.0, y.1, y.2)

-- what an unmapping submits at a unit, it submits for a binding of the space
submits_is : (w : World) (s e : ℕ) → submits w s e ≡ true
    → ((w.part e).phase ≡ Open) × ((b : ℕ) × ((w.part e).space b ≡ s) × (is_before_invalidating ((w.part e).stage b) ≡ true))
submits_is w s e h = go (bound w e s) refl h
  where
    go : (o : Option ℕ) → bound w e s ≡ o → submits_at (w.part e) o ≡ true
        → ((w.part e).phase ≡ Open) × ((b : ℕ) × ((w.part e).space b ≡ s) × (is_before_invalidating ((w.part e).stage b) ≡ true))
    go None f k = absurd (cc)
    go (Some b) f k =
        let x = find_passes w.bindings (λ d. is_unreleased ((w.part e).stage d) && (w.part e).space d == s) b f in (
          open_is (w.part e) (first_holds (is_open (w.part e).phase) (is_before_invalidating ((w.part e).stage b)) k),
          (
            b,
            eqb-true ((w.part e).space b) s (second_holds (is_unreleased ((w.part e).stage b)) ((w.part e).space b == s) x.1),
            second_holds (is_open (w.part e).phase) (is_before_invalidating ((w.part e).stage b)) k,
          ),
        )

unit_full : (w : World) (s count : ℕ) → any_below w.config.endpoints (λ e. submits w s e && is_queue_short (w.part e) count) ≡ true → IsUnitFull w s count
unit_full w s count h =
    let x = any_below-true w.config.endpoints (λ e. submits w s e && is_queue_short (w.part e) count) h in
    let y = submits_is w s x.0 (first_holds (submits w s x.0) (is_queue_short (w.part x.0) count) x.2) in
    (x.0, x.1, y.0, y.1, short (w.part x.0) count (second_holds (submits w s x.0) (is_queue_short (w.part x.0) count) x.2))
  where
    short : (p : Endpoint) (k : ℕ) → is_queue_short p k ≡ true → LacksPlaces p k
    short p k h = is_lower Limits.queue_places (Labels.queue_length p + k) h

-- A PASID for a new binding.

pub borne_there : (p : Endpoint) (t : ℕ) → not (Labels.is_borne_at p t) ≢ true → (b : ℕ) × (p.at_pasid t ≡ Some b)
borne_there p t h = go (p.at_pasid t) refl
  where
    go : (o : Option ℕ) → p.at_pasid t ≡ o → (b : ℕ) × (p.at_pasid t ≡ Some b)
    go (Some b) e = (b, e)
    go None e = absurd (h (ap (λ z. not (is_some z)) e))

isnt : (b : Bool) → b ≢ true → b ≡ false
isnt false h = refl
isnt true h = absurd (h refl)

other_space : (w : World) (s t e b : ℕ) → Labels.is_borne_by w s t ≢ true → e < w.config.endpoints → (w.part e).at_pasid t ≡ Some b → (w.part e).space b ≢ s
other_space w s t e b h l at same =
    let f = any_below-false w.config.endpoints (λ d. holds_of (λ c. (w.part d).space c == s) ((w.part d).at_pasid t)) (isnt (Labels.is_borne_by w s t) h) e l in
    eqb-false ((w.part e).space b) s (not_holding (λ c. (w.part e).space c == s) ((w.part e).at_pasid t) b f at) same

no_pasid : (rule : PasidRule) (w : World) (e s : ℕ) → not (is_some (Labels.pasid_by rule w e s)) ≡ true → AreAllBorne rule w e s
no_pasid PerEndpoint w e s h =
    λ t pos low. borne_there (w.part e) t
    (none_lowest (λ k. not (Labels.is_borne_at (w.part e) k)) t
    (none_is (Labels.pasid_by PerEndpoint w e s) (not-true (is_some (Labels.pasid_by PerEndpoint w e s)) h)) pos low)
no_pasid PerSpace w e s h = λ t pos low. borne t pos low
    (neither (Labels.lowest_pasid (Labels.is_borne_by w s)) (Labels.lowest_pasid (λ k. not (Labels.is_borne w k)))
    (none_is (Labels.pasid_by PerSpace w e s) (not-true (is_some (Labels.pasid_by PerSpace w e s)) h)))
  where
    neither : (a b : Option ℕ) → Labels.or_else a b ≡ None → (a ≡ None) × (b ≡ None)
    neither None b k = (refl, k)
    neither (Some x) b k = absurd (cc)

    yes : (b : Bool) → not b ≢ true → b ≡ true
    yes true k = refl
    yes false k = absurd (k refl)

    borne : (t : ℕ) → 0 < t → t ≤ 32
        → (Labels.lowest_pasid (Labels.is_borne_by w s) ≡ None) × (Labels.lowest_pasid (λ k. not (Labels.is_borne w k)) ≡ None)
        → (d : ℕ) × (b : ℕ) × ((w.part d).at_pasid t ≡ Some b) × ((w.part d).space b ≢ s)
    borne t pos low n =
        let x = any_below-true w.config.endpoints (λ d. Labels.is_borne_at (w.part d) t)
        (yes (Labels.is_borne w t) (none_lowest (λ k. not (Labels.is_borne w k)) t n.1 pos low)) in
        let at = some_the ((w.part x.0).at_pasid t) x.2 in (
          x.0,
          the ((w.part x.0).at_pasid t),
          at,
          other_space w s t x.0 (the ((w.part x.0).at_pasid t)) (none_lowest (Labels.is_borne_by w s) t n.0 pos low) x.1 at,
        )

-- Stages.

pub spent : (w : World) (given needed : ℕ) → Labels.lacks w given needed ≡ true → AreSpent w given needed
spent w given needed h = is_lower Limits.label_numbers (w.config.first + given + needed) h

unbind_each : (w : World) (n : ℕ) (st : Stage) → (w.part (w.endpoint_of (Labels.name w n))).stage (Labels.name w n) ≡ st
    → EachHas (HasCause w (step.Unbind n)) (unbind_refusals w (w.endpoint_of (Labels.name w n)) st)
unbind_each w n st e = go st e
  where
    b : ℕ
    b = Labels.name w n

    d : ℕ
    d = w.endpoint_of (Labels.name w n)

    rest : EachHas (HasCause w (step.Unbind n)) (resetting w d ∷ messages_spent w 1 ∷ [])
    rest = ((λ t. in_reset (w.part d).phase t), λ f. ((λ t. spent w w.messages 1 t), λ f. tt))

    told : (x : Stage) → (w.part d).stage b ≡ x → x ≢ Live → x ≢ Lost → ((w.part d).stage b ≢ Live) × ((w.part d).stage b ≢ Lost)
    told x h live lost = ((λ k. live (sym h ∙ k)), (λ k. lost (sym h ∙ k)))

    go : (x : Stage) → (w.part d).stage b ≡ x → EachHas (HasCause w (step.Unbind n)) (unbind_refusals w d x)
    go Lost h = tt
    go Live h = ((λ t. absurd (cc)), λ f. rest)
    go Unbound h = ((λ t. told Unbound h (λ k. absurd (cc)) (λ k. absurd (cc))), λ f. rest)
    go (Stopping m) h = ((λ t. told (Stopping m) h (λ k. absurd (cc)) (λ k. absurd (cc))), λ f. rest)
    go (Draining x) h = ((λ t. told (Draining x) h (λ k. absurd (cc)) (λ k. absurd (cc))), λ f. rest)
    go (Invalidating k x) h = ((λ t. told (Invalidating k x) h (λ k. absurd (cc)) (λ k. absurd (cc))), λ f. rest)
    go Quiet h = ((λ t. told Quiet h (λ k. absurd (cc)) (λ k. absurd (cc))), λ f. rest)
    go Released h = ((λ t. told Released h (λ k. absurd (cc)) (λ k. absurd (cc))), λ f. rest)

isnt_done : (x : OrderState) → not (is_done x) ≡ true → x ≢ Done
isnt_done x h e = absurd (cc (sym (ap (λ y. not (is_done y)) e) ∙ h))

open_there : (p : Endpoint) (b : ℕ) → Labels.has_open_group p b ≡ true → (g : ℕ) × (is_open_group (p.host_group g) ≡ true) × (p.filed_under g ≡ b)
open_there p b h =
    let x = any_below-true p.groups (λ g. is_open_group (p.host_group g) && p.filed_under g == b) h in (
      x.0,
      first_holds (is_open_group (p.host_group x.0)) (p.filed_under x.0 == b) x.2,
      eqb-true (p.filed_under x.0) b (second_holds (is_open_group (p.host_group x.0)) (p.filed_under x.0 == b) x.2),
    )

advance_each : (w : World) (n : ℕ) (st : Stage) → (w.part (w.endpoint_of (Labels.name w n))).stage (Labels.name w n) ≡ st → is_unreleased st ≡ true
    → EachHas (HasCause w (step.Advance n)) (advance_refusals w (w.endpoint_of (Labels.name w n)) (Labels.name w n) st)
advance_each w n st e u = go st e u
  where
    b : ℕ
    b = Labels.name w n

    p : Endpoint
    p = w.part (w.endpoint_of (Labels.name w n))

    waits : (x : Stage) → p.stage b ≡ x → IsWaitingFor p b x → IsWaitingFor p b (p.stage b)
    waits x h k = subst (IsWaitingFor p b) (sym h) k

    lacks : (x : Stage) → p.stage b ≡ x → LacksPlacesFor p x → LacksPlacesFor p (p.stage b)
    lacks x h k = subst (LacksPlacesFor p) (sym h) k

    drained : (x : ℕ) → (not (is_done (p.order_state x)) || Labels.has_open_group p b) ≡ true → IsWaitingFor p b (Draining x)
    drained x t =
        elim (one_holds (not (is_done (p.order_state x))) (Labels.has_open_group p b) t)
        [ inl k ↦ inl (isnt_done (p.order_state x) k) | inr k ↦ inr (open_there p b k) ]

    go : (x : Stage) → p.stage b ≡ x → is_unreleased x ≡ true
        → EachHas (HasCause w (step.Advance n)) (advance_refusals w (w.endpoint_of (Labels.name w n)) (Labels.name w n) x)
    go Quiet h v = tt
    go (Stopping m) h v = (
      (λ t. in_reset p.phase t),
      λ f. (
        (λ t. waits (Stopping m) h (not-true m t)),
        λ f. (
          (λ t. lacks (Stopping m) h (is_lower Limits.queue_places (Labels.queue_length p + 1) t)),
          λ f. ((λ t. spent w w.cookies 1 t), λ f. tt),
        ),
      ),
    )
    go (Draining x) h v = (
      (λ t. in_reset p.phase t),
      λ f. (
        (λ t. waits (Draining x) h (drained x t)),
        λ f. (
          (λ t. lacks (Draining x) h (is_lower Limits.queue_places (Labels.queue_length p + 2) t)),
          λ f. ((λ t. spent w w.cookies 1 t), λ f. tt),
        ),
      ),
    )
    go (Invalidating k x) h v =
        ((λ t. in_reset p.phase t), λ f. ((λ t. waits (Invalidating k x) h (isnt_done (p.order_state x) t)), λ f. tt))
    go Live h v = ((λ t. in_reset p.phase t), λ f. ((λ t. waits Live h tt), λ f. tt))
    go Lost h v = ((λ t. in_reset p.phase t), λ f. ((λ t. waits Lost h tt), λ f. tt))
    go Unbound h v = absurd (cc)
    go Released h v = absurd (cc)

-- The steps of the host.

pub not_free : (w : World) (f : ℕ) → is_free w f ≡ false → place w f ≢ Free
not_free w f h e = absurd (cc (sym (ap is_free_place e) ∙ h))

one_unmapped : (w : World) (s q count : ℕ) → not (all_below count (λ j. Labels.is_mapped w s (q + j))) ≡ true
    → (j : ℕ) × (j < count) × (w.mappings.at s (q + j) ≡ None)
one_unmapped w s q count h = go (all_below_cases count (λ j. Labels.is_mapped w s (q + j)))
  where
    go : (all_below count (λ j. Labels.is_mapped w s (q + j)) ≡ true) ⊎ ((j : ℕ) × (j < count) × (Labels.is_mapped w s (q + j) ≡ false))
        → (j : ℕ) × (j < count) × (w.mappings.at s (q + j) ≡ None)
    go (inl x) = absurd (cc (sym (ap not x) ∙ h))
    go (inr x) = (x.0, x.1, none_is (w.mappings.at s (q + x.0)) x.2)

pub space_each : (w : World) → EachHas (HasCause w step.Space) (refusals w step.Space)
space_each w = ((λ t. is_at_most Limits.most_spaces (Labels.live_spaces w) t), λ f. ((λ t. spent w w.spaces 1 t), λ f. tt))

pub drop_each : (w : World) (n : ℕ) → Invariant w → EachHas (HasCause w (step.DropSpace n)) (refusals w (step.DropSpace n))
drop_each w n i = ((λ t. no_space w n i t), λ f. ((λ t. is_bound_somewhere w (Labels.name w n) t), λ f. tt))

pub map_each : (w : World) (n q : ℕ) (x : Bool) → Invariant w → EachHas (HasCause w (step.Map n q x)) (refusals w (step.Map n q x))
map_each w n q x i = (
  (λ t. no_space w n i t),
  λ f. (
    (λ t. is_lower Limits.page_numbers (q + 1) t),
    λ f. (
      (λ t. (the (w.mappings.at (Labels.name w n) q), some_the (w.mappings.at (Labels.name w n) q) t)),
      λ f. (
        (λ t. is_at_most Limits.most_mapped (Labels.pages_of w (Labels.name w n)) t),
        λ f. ((λ t. (λ g l. not_free w g (none_passes w.config.frames (is_free w) t g l))), λ f. tt),
      ),
    ),
  ),
)

pub unmap_each : (w : World) (n q count : ℕ) → Invariant w → EachHas (HasCause w (step.Unmap n q count)) (refusals w (step.Unmap n q count))
unmap_each w n q count i = (
  (λ t. no_space w n i t),
  λ f. (
    (λ t. out_of count Limits.most_pages t),
    λ f. (
      (λ t. is_lower Limits.page_numbers (q + count) t),
      λ f. (
        (λ t. one_unmapped w (Labels.name w n) q count t),
        λ f. ((λ t. unit_full w (Labels.name w n) (count + 1) t), λ f. ((λ t. spent w w.cookies _ t), λ f. tt)),
      ),
    ),
  ),
)

pub unmap_range_each : (w : World) (n q order : ℕ) → Invariant w
    → EachHas (HasCause w (step.UnmapRange n q order)) (refusals w (step.UnmapRange n q order))
unmap_range_each w n q order i = (
  (λ t. no_space w n i t),
  λ f. (
    (λ t. is_lower Limits.most_order order t),
    λ f. (
      (λ t. is_lower Limits.page_numbers (q + 2 ^ order) t),
      λ f. (
        (λ t. eqb-false (q % 2 ^ order) 0 (not-true (q % 2 ^ order == 0) t)),
        λ f. (
          (λ t. none_there t),
          λ f. ((λ t. unit_full w (Labels.name w n) 2 t), λ f. ((λ t. spent w w.cookies _ t), λ f. tt)),
        ),
      ),
    ),
  ),
)
  where
    none_there : not (any_below (2 ^ order) (λ j. Labels.is_mapped w (Labels.name w n) (q + j))) ≡ true
        → (j : ℕ) → j < 2 ^ order → w.mappings.at (Labels.name w n) (q + j) ≡ None
    none_there h j l =
        none_is (w.mappings.at (Labels.name w n) (q + j))
        (any_below-false (2 ^ order) (λ k. Labels.is_mapped w (Labels.name w n) (q + k))
        (not-true (any_below (2 ^ order) (λ k. Labels.is_mapped w (Labels.name w n) (q + k))) h) j l)

pub bind_each : (w : World) (e n : ℕ) → Invariant w → EachHas (HasCause w (step.Bind e n)) (refusals w (step.Bind e n))
bind_each w e n i = (
  (λ t. not_lower e w.config.endpoints t),
  λ f. (
    (λ t. no_space w n i t),
    λ f. (
      (λ t. in_reset (w.part e).phase t),
      λ f. (
        (λ t. is_bound_there w (Labels.name w n) e t),
        λ f. (
          (λ t. no_pasid w.rule w e (Labels.name w n) t),
          λ f. ((λ t. inl (spent w w.bindings 1 t)), λ f. ((λ t. inr (spent w w.messages 1 t)), λ f. tt)),
        ),
      ),
    ),
  ),
)

its_stage : (w : World) (n : ℕ) → not (Labels.is_binding w n) ≡ false
    → is_unreleased ((w.part (w.endpoint_of (Labels.name w n))).stage (Labels.name w n)) ≡ true
its_stage w n f =
    second_holds (Labels.is_number w w.bindings n) (is_unreleased ((w.part (w.endpoint_of (Labels.name w n))).stage (Labels.name w n)))
    (not-false (Labels.is_binding w n) f)

pub unbind_step_each : (w : World) (n : ℕ) → Invariant w → EachHas (HasCause w (step.Unbind n)) (refusals w (step.Unbind n))
unbind_step_each w n i =
    ((λ t. no_binding w n i t), λ f. unbind_each w n ((w.part (w.endpoint_of (Labels.name w n))).stage (Labels.name w n)) refl)

pub advance_step_each : (w : World) (n : ℕ) → Invariant w → EachHas (HasCause w (step.Advance n)) (refusals w (step.Advance n))
advance_step_each w n i = (
  (λ t. no_binding w n i t),
  λ f. advance_each w n ((w.part (w.endpoint_of (Labels.name w n))).stage (Labels.name w n)) refl (its_stage w n f),
)

-- a unit sends only where an invalidation is at the head of its queue
pub pump_each : (w : World) (e : ℕ) → EachHas (HasCause w (step.Pump e)) (refusals w (step.Pump e))
pump_each w e = (
  (λ t. not_lower e w.config.endpoints t),
  λ f. (
    (λ t. in_reset (w.part e).phase t),
    λ f. (
      (λ t. (
        spent w w.messages 1 (second_holds (sends_invalidate (w.part e)) (Labels.lacks w w.messages 1) t),
        sent (first_holds (sends_invalidate (w.part e)) (Labels.lacks w w.messages 1) t),
      )),
      λ f. tt,
    ),
  ),
)
  where
    first : (x y z : Bool) → (not x && not y && not z) ≡ true → (not x ≡ true) × (y ≡ false)
    first x y z h = grind arith

    sent : sends_invalidate (w.part e) ≡ true
        → (k : ℕ) × ((w.part e).order_state k ≡ Queued) × (is_wait ((w.part e).order k) ≡ false)
    sent h =
        let x = first (Labels.is_queue_empty (w.part e)) (is_wait ((w.part e).order (Labels.head (w.part e))))
        (Labels.lowest_label 32 (w.part e).at_itag == 32) h in
        (Labels.head (w.part e), (head_is (w.part e) (not-true (Labels.is_queue_empty (w.part e)) x.0)).queued, x.1)

pub serve_each : (w : World) (e : ℕ) → EachHas (HasCause w (step.Serve e)) (refusals w (step.Serve e))
serve_each w e = ((λ t. not_lower e w.config.endpoints t), λ f. ((λ t. in_reset (w.part e).phase t), λ f. tt))

pub reset_each : (w : World) (e : ℕ) → EachHas (HasCause w (step.Reset e)) (refusals w (step.Reset e))
reset_each w e = (
  (λ t. not_lower e w.config.endpoints t),
  λ f. ((λ t. in_reset (w.part e).phase t), λ f. ((λ t. spent w w.messages 1 t), λ f. tt)),
)

pub look_each : (w : World) (g : ℕ) → EachHas (HasCause w (step.Look g)) (refusals w (step.Look g))
look_each w g = ((λ t. not_lower g w.config.frames t), λ f. tt)

pub bearer_each : (w : World) (t : ℕ) → EachHas (HasCause w (step.Bearer t)) (refusals w (step.Bearer t))
bearer_each w t = ((λ h. out_of t Limits.pasids h), λ f. tt)
