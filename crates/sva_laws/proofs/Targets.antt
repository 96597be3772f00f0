-- Waits and fronts as a reader wants them, and what an endpoint that hasn't answered waits for.
use Rattle.sva_model.specs.State.{PasidRule}
use Rattle.std.proofs.Common.{◌≡◌, ◌≢◌, ◌⊎◌, inl, inr, refl, ap, sym, ◌∙◌, ℕ, suc, ◌+◌, ◌<◌, ◌≤◌, Bool, true, false, arith}
use Rattle.std.specs.Prelude.{◌&&◌, nat_lt, List}
use Rattle.std.proofs.lemmas.Bool.Decides.{nat_tests}
use Rattle.std.proofs.lemmas.Bool.{cases_lt}
use Rattle.sva_step.specs.declared.limits.Config.{Config}
use Rattle.sva_step.specs.declared.steps.Step.{Step}
use Rattle.sva_model.specs.Words.{all_below}
use Rattle.sva_model.specs.State.{Owed, Order, OrderState, Endpoint}
use Rattle.sva_model.specs.State.Owed.{Nothing, Ranges, Pasid, NextReset}
use Rattle.sva_model.specs.State.MappingState.{Gone}
use Rattle.sva_model.specs.State.Order.{RangeOf, PasidOf, Wait}
use Rattle.sva_model.specs.State.OrderState.{Queued, Done, Void}
use Rattle.sva_model.specs.State.Phase.{Open}
use Rattle.sva_model.specs.States.{is_done, is_wait, answered}
use Rattle.sva_model.specs.Steps.{world_after}
use Rattle.sva_laws.specs.Waits.{HasFront, IsBehind, FitsDebt, IsAwaited, AwaitsTarget}
use Rattle.sva_labels.proofs.Words.{all_below-intro}
use Rattle.sva_laws.proofs.Orders.{Orders}
use Rattle.sva_laws.proofs.Fronts.{Fronts, always_fronts}
use Rattle.sva_laws.proofs.Debts.{always_debts}
use Rattle.sva_laws.proofs.Runs.{always}
use Rattle.sva_laws.proofs.Fronts.{is_queued as queued_apart}
use Rattle.sva_labels.proofs.Tests.{first_fails, second_fails}

done_apart : (z : OrderState) → z ≡ Done → (z ≡ Queued) ⊎ (z ≡ Void) → ⊥
done_apart z h (inl e) = absurd (cc (sym h ∙ e))
done_apart z h (inr e) = absurd (cc (sym h ∙ e))

-- what is queued isn't below the front; what is done is
pub queued_front : (n : ℕ) (p : Endpoint) → Fronts n p → (k c : ℕ) (x : Bool) → k < p.orders → p.order k ≡ Wait c x → p.order_state k ≡ Queued → p.front ≤ c
queued_front n p f k c x made h q = go (cases_lt c p.front)
  where
    go : (c < p.front) ⊎ (p.front ≤ c) → p.front ≤ c
    go (inl l) = absurd (queued_apart (p.order_state k) q (f.passed k c x made h l))
    go (inr l) = l

pub done_below : (n : ℕ) (p : Endpoint) → Fronts n p → (k c : ℕ) (x : Bool) → k < p.orders → p.order k ≡ Wait c x → p.order_state k ≡ Done → c < p.front
done_below n p f k c x made h d = go (cases_lt c p.front)
  where
    either : (p.order_state k ≡ Queued) ⊎ ((p.order_state k ≡ Void) × (p.phase ≢ Open)) → (p.order_state k ≡ Queued) ⊎ (p.order_state k ≡ Void)
    either (inl e) = inl e
    either (inr e) = inr e.0

    go : (c < p.front) ⊎ (p.front ≤ c) → c < p.front
    go (inl l) = l
    go (inr l) = absurd (done_apart (p.order_state k) d (either (f.at_front k c x made h l)))

below_done : (n : ℕ) (p : Endpoint) → Fronts n p → (k c : ℕ) (x : Bool) → k < p.orders → p.order k ≡ Wait c x → (p.order_state k ≡ Void → p.front ≤ c)
    → c < p.front → p.order_state k ≡ Done
below_done n p f k c x made h nv l = go (f.passed k c x made h l)
  where
    go : (p.order_state k ≡ Done) ⊎ (p.order_state k ≡ Void) → p.order_state k ≡ Done
    go (inl d) = d
    go (inr v) = let z = nv v in absurd (omega (arith, z, l))

pub has_front : (n : ℕ) (p : Endpoint) → Orders p → Fronts n p → HasFront n p
has_front n p or f =
    record {
      rise = f.rise;
      below = f.below;
      greatest = f.greatest;
      given = f.given;
      front_low = f.front_low;
      at_front = λ k c x made h. ((λ a. forth k c x made h a (f.at_front k c x made h a)), (λ z. back k c x made h z));
      passed = λ k c x made h nv. ((λ d. done_below n p f k c x made h d), (λ l. below_done n p f k c x made h (λ v. absurd (nv v)) l));
      draining = λ b w c x st h. let d =
          or.draining b w st in ((λ e. done_below n p f w c x d.1 h e), (λ l. below_done n p f w c x d.1 h (λ v. f.draining b w c x st h v) l));
      invalidating = λ b k w c x st h. let d =
          or.invalidating b k w st in ((λ e. done_below n p f w c x d.3 h e), (λ l. below_done n p f w c x d.3 h (λ v. f.invalidating b k w c x st h v) l));
    }
  where
    forth : (k c : ℕ) (x : Bool) → k < p.orders → p.order k ≡ Wait c x → p.front ≤ c → (p.order_state k ≡ Queued)
        ⊎ ((p.order_state k ≡ Void) × (p.phase ≢ Open)) → (p.order_state k ≡ Queued) ⊎ ((p.order_state k ≡ Void) × (p.phase ≢ Open) × (p.front ≤ c))
    forth k c x made h a (inl q) = inl q
    forth k c x made h a (inr v) = inr (v.0, v.1, a)

    back : (k c : ℕ) (x : Bool) → k < p.orders → p.order k ≡ Wait c x → (p.order_state k ≡ Queued)
        ⊎ ((p.order_state k ≡ Void) × (p.phase ≢ Open) × (p.front ≤ c)) → p.front ≤ c
    back k c x made h (inl q) = queued_front n p f k c x made h q
    back k c x made h (inr v) = v.2

pub always_front : (rule : PasidRule) (config : Config) (steps : List Step) (e : ℕ)
    → HasFront (world_after rule config steps).cookies ((world_after rule config steps).part e)
always_front rule config steps e =
    has_front (world_after rule config steps).cookies ((world_after rule config steps).part e) ((always rule config steps).parts e).orders
    (always_fronts rule config steps e)

-- What isn't answered.

awaited : (n : ℕ) (p : Endpoint) (first x resets : ℕ) → Fronts n p → IsBehind p first x resets → resets ≡ p.resets → p.order_state x ≢ Done → IsAwaited p x
awaited n p first x resets f b same nd = let y = go (p.order x) refl b.is_a_wait in (b.made, y.0, y.1, y.2, y.3, y.4)
  where
    front : (c : ℕ) (y : Bool) → p.order x ≡ Wait c y → (c < p.front) ⊎ (p.front ≤ c) → p.front ≤ c
    front c y h (inl l) = absurd (nd (below_done n p f x c y b.made h (λ v. b.void same v c y h) l))
    front c y h (inr l) = l

    go : (o : Order) → p.order x ≡ o → is_wait o ≡ true → (c : ℕ) × (y : Bool) × (p.order x ≡ Wait c y) × (p.front ≤ c)
        × ((p.order_state x ≡ Queued) ⊎ ((p.order_state x ≡ Void) × (p.phase ≢ Open)))
    go (Wait c y) h w = let a = front c y h (cases_lt c p.front) in (c, y, h, a, f.at_front x c y b.made h a)
    go (RangeOf d r) h w = absurd (cc (w))
    go (PasidOf d) h w = absurd (cc (w))

pub no_reset : (p : Endpoint) (resets : ℕ) → resets ≤ p.resets → nat_lt resets p.resets ≡ false → resets ≡ p.resets
no_reset p resets low h = grind (arith, nat_tests)

is_done_of : (z : OrderState) → z ≡ Done → is_done z ≡ true
is_done_of z h = ap is_done h

pub both_done : (a b : OrderState) → a ≡ Done → b ≡ Done → (is_done a && is_done b) ≡ true
both_done a b h k = grind arith

pub awaits : (n : ℕ) (p : Endpoint) (v : Owed) → Fronts n p → FitsDebt p v → answered p v ≡ false → AwaitsTarget p v
awaits n p Nothing f d h = absurd (cc (h))
awaits n p (Ranges first count resets) f d h =
    let same = no_reset p resets d.1.counted (second_fails (all_below (suc count) (λ j. is_done (p.order_state (first + j)))) (nat_lt resets p.resets) h) in
    let left = first_fails (all_below (suc count) (λ j. is_done (p.order_state (first + j)))) (nat_lt resets p.resets) h in
    awaited n p first (first + count) resets f d.1 same
    (λ e. absurd (cc (sym left
    ∙ all_below-intro (suc count) (λ j. is_done (p.order_state (first + j)))
    (λ j l. is_done_of (p.order_state (first + j)) (d.1.done same e (first + j) (omega arith) (omega (arith, l)))))))
awaits n p (Pasid k x resets false) f d h =
    let same = no_reset p resets d.1.counted (second_fails (is_done (p.order_state k) && is_done (p.order_state x)) (nat_lt resets p.resets) h) in
    let left = first_fails (is_done (p.order_state k) && is_done (p.order_state x)) (nat_lt resets p.resets) h in
    awaited n p k x resets f d.1 same
    (λ e. absurd (cc (sym left ∙ both_done (p.order_state k) (p.order_state x) (d.1.done same e k (omega arith) d.1.low) e)))
awaits n p (Pasid k x resets true) f d h =
    d.2 refl (no_reset p resets d.1.counted (second_fails (is_done (p.order_state k) && is_done (p.order_state x)) (nat_lt resets p.resets) h))
awaits n p (NextReset resets) f d h = d.1 (no_reset p resets d.0 h)

pub always_awaits : (rule : PasidRule) (config : Config) (steps : List Step) (m e : ℕ) (owed : ℕ → Owed)
    → (world_after rule config steps).mappings.state m ≡ Gone owed → answered ((world_after rule config steps).part e) (owed e) ≡ false
    → AwaitsTarget ((world_after rule config steps).part e) (owed e)
always_awaits rule config steps m e owed g h =
    awaits (world_after rule config steps).cookies ((world_after rule config steps).part e) (owed e) (always_fronts rule config steps e)
    (always_debts rule config steps m e owed g) h
