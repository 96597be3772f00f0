-- What the host's steps have tested.
use Rattle.std.proofs.Common.{◌≡◌, ◌≢◌, inl, inr, refl, ap, ◌∙◌, ℕ, suc, ◌<◌, Bool, true, false, arith}
use Rattle.std.specs.Prelude.{◌&&◌, not, ◌==◌, nat_le}
use Rattle.std.proofs.lemmas.Bool.Decides.{nat_tests}
use Rattle.std.proofs.lemmas.Bool.{not-false}
use Rattle.sva_step.specs.declared.steps.Step.TheVariants as step
use Rattle.sva_model.specs.Words.{is_some, the}
use Rattle.sva_model.specs.State.{Endpoint, World, Stage, OrderState}
use Rattle.sva_model.specs.State.Stage.{Unbound, Live, Stopping, Draining, Invalidating, Quiet, Lost, Released}
use Rattle.sva_model.specs.State.OrderState.{Done}
use Rattle.sva_model.specs.States.{is_unreleased, is_done, is_free, is_open_group}
use Rattle.sva_model.specs.Refusals.{refusals, unbind_refusals, advance_refusals, is_queue_short}
use Rattle.sva_model.specs.Outcomes.{outcome, unbind_outcome, advance_outcome}
use Rattle.sva_model.specs.Labels
use Rattle.sva_labels.proofs.Words.{put-same, none_is, some_the, lowest_passes, any_below-false}
use Rattle.sva_laws.proofs.Bounds.{Bounds}
use Rattle.sva_laws.proofs.Invariant.{Invariant}
use Rattle.sva_laws.proofs.Pasids.{every_rule}
use Rattle.sva_laws.proofs.Passed.{Passed, LegalAll, opened_is, unreleased_bound, not_bound_at, not_bound}
use Rattle.sva_labels.proofs.Tests.{first_fails, is_less, second_fails, second_holds}

pub drop : (w : World) (n : ℕ) → Invariant w → Passed (refusals w (step.DropSpace n)) → LegalAll w (outcome w (step.DropSpace n)).acts
drop w n i h = (not_bound w (Labels.name w n) i h.1.0, tt)

pub map_page : (w : World) (n q : ℕ) (x : Bool) → Invariant w → Passed (refusals w (step.Map n q x)) → LegalAll w (outcome w (step.Map n q x)).acts
map_page w n q x i h = (
  (
    second_holds (Labels.is_number w w.spaces n) (w.is_live (Labels.name w n)) (not-false (Labels.is_space w n) h.0),
    none_is (w.mappings.at (Labels.name w n) q) h.1.1.0,
    (lowest_passes w.config.frames (is_free w) h.1.1.1.1.0).1,
    (lowest_passes w.config.frames (is_free w) h.1.1.1.1.0).0,
  ),
  tt,
)

pub bind : (w : World) (e n : ℕ) → Invariant w → Passed (refusals w (step.Bind e n)) → LegalAll w (outcome w (step.Bind e n)).acts
bind w e n i h =
    let s = Labels.name w n in
    let t = the (Labels.pasid_for w e s) in
    let there = is_less e w.config.endpoints h.0 in
    let none = not_bound_at w s e i h.1.1.1.0 in
    let given = some_the (Labels.pasid_for w e s) (not-false (is_some (Labels.pasid_for w e s)) h.1.1.1.1.0) in
    let is = every_rule w.rule in (
      tt,
      (
        (
          there,
          (
            (
              omega arith,
              opened_is (w.part e) h.1.1.0,
              (i.parts e).bounds.stage w.bindings (omega arith),
              is.free w e s t refl i there none given,
              (is.low w e s t given).0,
              (is.low w e s t given).1,
              none,
            ),
            (
              second_holds (Labels.is_number w w.spaces n) (w.is_live s) (not-false (Labels.is_space w n) h.1.0),
              λ r. is.its w e s t r refl i given,
              put-same w.endpoint_of w.bindings e,
            ),
          ),
          tt,
        ),
        tt,
      ),
    )

-- the binding of a step by its number
home_there : (w : World) (n : ℕ) → Invariant w → not (Labels.is_binding w n) ≡ false → w.endpoint_of (Labels.name w n) < w.config.endpoints
home_there w n i h =
    let b = Labels.name w n in
    (i.parts (w.endpoint_of b)).there b
    (unreleased_bound (w.part (w.endpoint_of b)) b
    (second_holds (Labels.is_number w w.bindings n) (is_unreleased ((w.part (w.endpoint_of b)).stage b)) (not-false (Labels.is_binding w n) h)))

unbind_at : (w : World) (e b : ℕ) (s : Stage) → e < w.config.endpoints → (w.part e).stage b ≡ s → Passed (unbind_refusals w e s)
    → LegalAll w (unbind_outcome e b s).acts
unbind_at w e b Lost l f h = ((l, (inl f, tt), tt), tt)
unbind_at w e b Live l f h = ((l, ((opened_is (w.part e) h.1.0, f), tt), tt), tt)
unbind_at w e b Unbound l f h = absurd (cc h.0)
unbind_at w e b (Stopping m) l f h = absurd (cc h.0)
unbind_at w e b (Draining x) l f h = absurd (cc h.0)
unbind_at w e b (Invalidating k x) l f h = absurd (cc h.0)
unbind_at w e b Quiet l f h = absurd (cc h.0)
unbind_at w e b Released l f h = absurd (cc h.0)

pub unbind : (w : World) (n : ℕ) → Invariant w → Passed (refusals w (step.Unbind n)) → LegalAll w (outcome w (step.Unbind n)).acts
unbind w n i h = unbind_at w (w.endpoint_of (Labels.name w n)) (Labels.name w n) ((w.part (w.endpoint_of (Labels.name w n))).stage (Labels.name w n))
    (home_there w n i h.0) refl h.1

done_is : (s : OrderState) → is_done s ≡ true → s ≡ Done
done_is s h = grind arith

short_one : (p : Endpoint) → is_queue_short p 1 ≡ false → Labels.queue_length p < 64
short_one p h = grind (arith, nat_tests)

short_two : (p : Endpoint) → is_queue_short p 2 ≡ false → suc (Labels.queue_length p) < 64
short_two p h = grind (arith, nat_tests)

-- no group of the binding is open
no_open_group : (g : ℕ) (p : Endpoint) (b : ℕ) → Bounds g p → Labels.has_open_group p b ≡ false → (x : ℕ) → is_open_group (p.host_group x) ≡ true
    → p.filed_under x ≢ b
no_open_group g p b bo h x o same =
    let lt = made x o in
    let f = any_below-false p.groups (λ y. is_open_group (p.host_group y) && p.filed_under y == b) h x lt in
    absurd (both x o same f)
  where
    made : (x : ℕ) → is_open_group (p.host_group x) ≡ true → x < p.groups
    made x o = grind (arith, bo.host_group x)

    both : (x : ℕ) → is_open_group (p.host_group x) ≡ true → p.filed_under x ≡ b → (is_open_group (p.host_group x) && p.filed_under x == b) ≢ false
    both x o same f = grind (arith, nat_tests)

advance_at : (w : World) (e b : ℕ) (s : Stage) → Invariant w → e < w.config.endpoints → (w.part e).stage b ≡ s → Passed (advance_refusals w e b s)
    → LegalAll w (advance_outcome w e b s).acts
advance_at w e b Quiet i l f h = ((l, (f, tt), tt), tt)
advance_at w e b (Stopping m) i l f h =
    let yes : m ≡ true = not-false m h.1.0 in
    ((l, ((opened_is (w.part e) h.0, f ∙ ap (λ x. Stopping x) yes, short_one (w.part e) h.1.1.0), refl), tt), tt)
advance_at w e b (Draining x) i l f h =
    let done : is_done ((w.part e).order_state x) ≡ true =
    not-false (is_done ((w.part e).order_state x)) (first_fails (not (is_done ((w.part e).order_state x))) (Labels.has_open_group (w.part e) b) h.1.0) in
    let none = second_fails (not (is_done ((w.part e).order_state x))) (Labels.has_open_group (w.part e) b) h.1.0 in (
      (
        l,
        (
          (
            opened_is (w.part e) h.0,
            (x, f, done_is ((w.part e).order_state x) done),
            short_two (w.part e) h.1.1.0,
            no_open_group w.bindings (w.part e) b (i.parts e).bounds none,
          ),
          refl,
        ),
        tt,
      ),
      tt,
    )
advance_at w e b (Invalidating k x) i l f h =
    let done : is_done ((w.part e).order_state x) ≡ true = not-false (is_done ((w.part e).order_state x)) h.1.0 in
    ((l, (inr (k, x, opened_is (w.part e) h.0, f, done_is ((w.part e).order_state x) done), tt), tt), tt)
advance_at w e b Unbound i l f h = absurd (cc h.1.0)
advance_at w e b Live i l f h = absurd (cc h.1.0)
advance_at w e b Lost i l f h = absurd (cc h.1.0)
advance_at w e b Released i l f h = absurd (cc h.1.0)

pub advance : (w : World) (n : ℕ) → Invariant w → Passed (refusals w (step.Advance n)) → LegalAll w (outcome w (step.Advance n)).acts
advance w n i h = advance_at w (w.endpoint_of (Labels.name w n)) (Labels.name w n) ((w.part (w.endpoint_of (Labels.name w n))).stage (Labels.name w n)) i
    (home_there w n i h.0) refl h.1

-- an unmapping takes out at least one page
pub unmap : (w : World) (n q count : ℕ) → Passed (refusals w (step.Unmap n q count)) → LegalAll w (outcome w (step.Unmap n q count)).acts
unmap w n q count h = (some_pages h.1.0, tt)
  where
    some_pages : not (nat_le 1 count && nat_le count 48) ≡ false → 0 < count
    some_pages k = grind (arith, nat_tests)
