-- What the link and the service ask, a call more.
use Rattle.std.proofs.Common.{◌≡◌, ◌∙◌, ◌≤◌, ℕ, ◌+◌, Bool, true, false, List, [], ◌∷◌, ◌++◌, if◌then◌else◌}
use Rattle.std.proofs.Common.{length, ap, sym, subst, arith, refl, inl, inr, ◌⊎◌, append_assoc, append-nil, length-append}
use Rattle.sva_step.specs.declared.limits.Config.{Config}
use Rattle.sva_step.specs.declared.steps.Step.{Step}
use Rattle.sva_step.specs.declared.steps.Step.TheVariants.{Deliver}
use Rattle.sva_core.specs.declared.receipts.Receipt.{Receipt}
use Rattle.sva_fabric.specs.Receipts.{PortState}
use Rattle.sva_fabric.specs.Plays.{is_accepted, is_memory}
use Rattle.sva_fabric.specs.Asks.{due_after, due_at_last, AreDeliveries, HasDelivered, service_at, AreServices, HasServed, HasAsked, IsAsked}
use Rattle.sva_fabric.specs.declared.loops.endings.Turn.{Turn}
use Rattle.sva_fabric.specs.declared.loops.endings.Turn.TheVariants.{Accepted, Again}
use Rattle.sva_fabric.proofs.Ending.{IsLast, same_at_last, spent_by_last}

pub deliveries_more : (message : ℕ) (calls : List Receipt) (r : Receipt)
    → AreDeliveries message calls → r.step ≡ Deliver (due_at_last message calls) → AreDeliveries message (calls ++ r ∷ [])
deliveries_more message [] r all step = (step, tt)
deliveries_more message (c ∷ calls) r all step = (all.0, deliveries_more (due_after message c) calls r all.1 step)

pub due_more : (message : ℕ) (calls : List Receipt) (r : Receipt)
    → due_at_last message (calls ++ r ∷ []) ≡ due_after (due_at_last message calls) r
due_more message [] r = refl
due_more message (c ∷ calls) r = due_more (due_after message c) calls r

-- the link under way: so many calls in so many turns, and the message that is due
pub record IsDelivering (message turn : ℕ) (before after : PortState) : Type 0 where
  pub calls : List Receipt
  pub number : after.number ≡ before.number
  pub kept : after.receipts ≡ before.receipts ++ calls
  pub deliveries : AreDeliveries 0 calls
  pub due : due_at_last 0 calls ≡ message
  pub below : message ≤ turn
  pub count : length calls ≡ turn

-- nothing was delivered yet
pub delivering_none : (state : PortState) → IsDelivering 0 0 state state
delivering_none state =
    record { calls = []; number = refl; kept = sym (append-nil state.receipts); deliveries = tt; due = refl; below = omega arith; count = refl }

below_more : (message turn : ℕ) (done : Bool) → message ≤ turn → (if done then message + 1 else message) ≤ turn + 1
below_more message turn true h = omega arith
below_more message turn false h = omega arith

-- a turn more: the next message is due where this one was accepted
pub delivering_more : (message turn : ℕ) (before after next : PortState) (done : Bool)
    → IsDelivering message turn before after → HasAsked (Deliver message) after next done
    → IsDelivering (if done then message + 1 else message) (turn + 1) before next
delivering_more message turn before after next done d h =
    let r = h.receipt in
    let count = d.count in
    record {
      calls = d.calls ++ r ∷ [];
      number = ap (λ (s : PortState). s.number) h.kept ∙ d.number;
      kept = ap (λ (s : PortState). s.receipts) h.kept ∙ ap (λ l. l ++ r ∷ []) d.kept ∙ append_assoc before.receipts d.calls (r ∷ []);
      deliveries = deliveries_more 0 d.calls r d.deliveries (h.of_step ∙ ap Deliver (sym d.due));
      due = due_more 0 d.calls r ∙ ap (λ m. if is_accepted r.answer then m + 1 else m) d.due ∙ ap (λ b. if b then message + 1 else message) h.answered;
      below = below_more message turn done d.below;
      count = omega (arith, length-append d.calls (r ∷ []));
    }

-- what the link has delivered when all its turns are used
pub has_delivered : (config : Config) (message turn used left : ℕ) (before after : PortState)
    → IsDelivering message turn before after → used ≡ turn → left ≡ 0 → HasDelivered config used left false before after
has_delivered config message turn used left before after d all none = record {
  calls = d.calls;
  number = d.number;
  kept = d.kept;
  deliveries = d.deliveries;
  few = let count = d.count in omega arith;
  each = let count = d.count in omega arith;
  spent = inl (all ∙ sym d.count, none);
}

-- and when its last turn made no call
pub delivered_last : (config : Config) (message turn used left : ℕ) (before after next : PortState) (t : Turn)
    → IsDelivering message turn before after → IsLast config after next t → used ≡ turn + 1
    → HasDelivered config used left (is_memory t) before next
delivered_last config message turn used left before after next t d l one =
    let e = same_at_last config after next t l in
    let count = d.count in
    record {
      calls = d.calls;
      number = ap (λ (s : PortState). s.number) e ∙ d.number;
      kept = ap (λ (s : PortState). s.receipts) e ∙ d.kept;
      deliveries = d.deliveries;
      few = omega arith;
      each = omega arith;
      spent = spent_by_last config (length d.calls) used left after next t l (omega arith);
    }

pub services_more : (turn endpoints : ℕ) (calls : List Receipt) (r : Receipt)
    → AreServices turn endpoints calls → r.step ≡ service_at (turn + length calls) endpoints → AreServices turn endpoints (calls ++ r ∷ [])
services_more turn endpoints [] r all step = (step ∙ ap (λ n. service_at n endpoints) (omega arith), tt)
services_more turn endpoints (c ∷ calls) r all step =
    let next : turn + length (c ∷ calls) ≡ turn + 1 + length calls = omega arith in
    (all.0, services_more (turn + 1) endpoints calls r all.1 (step ∙ ap (λ n. service_at n endpoints) next))

-- the service under way: a call in each turn so far
pub record IsServing (endpoints turn : ℕ) (before after : PortState) : Type 0 where
  pub calls : List Receipt
  pub number : after.number ≡ before.number
  pub kept : after.receipts ≡ before.receipts ++ calls
  pub services : AreServices 0 endpoints calls
  pub count : length calls ≡ turn

-- nothing was served yet
pub serving_none : (endpoints : ℕ) (state : PortState) → IsServing endpoints 0 state state
serving_none endpoints state = record { calls = []; number = refl; kept = sym (append-nil state.receipts); services = tt; count = refl }

-- a turn more, accepted or not
pub serving_more : (endpoints turn : ℕ) (before after next : PortState) (done : Bool)
    → IsServing endpoints turn before after → HasAsked (service_at turn endpoints) after next done
    → IsServing endpoints (turn + 1) before next
serving_more endpoints turn before after next done s h =
    let r = h.receipt in
    let count = s.count in
    let here : turn ≡ 0 + length s.calls = omega arith in
    record {
      calls = s.calls ++ r ∷ [];
      number = ap (λ (s : PortState). s.number) h.kept ∙ s.number;
      kept = ap (λ (s : PortState). s.receipts) h.kept ∙ ap (λ l. l ++ r ∷ []) s.kept ∙ append_assoc before.receipts s.calls (r ∷ []);
      services = services_more 0 endpoints s.calls r s.services (h.of_step ∙ ap (λ n. service_at n endpoints) here);
      count = omega (arith, length-append s.calls (r ∷ []));
    }

-- a turn after which the service goes on
pub serving_after : (config : Config) (endpoints turn : ℕ) (before after next : PortState) (step : Step) (t : Turn)
    → IsServing endpoints turn before after → step ≡ service_at turn endpoints → IsAsked config step after next t → (t ≡ Accepted) ⊎ (t ≡ Again)
    → IsServing endpoints (turn + 1) before next
serving_after config endpoints turn before after next step t s same h (inl is) =
    serving_more endpoints turn before after next true s
    (subst (λ x. HasAsked x after next true) same (subst (λ o. IsAsked config step after next o) is h))
serving_after config endpoints turn before after next step t s same h (inr is) =
    serving_more endpoints turn before after next false s
    (subst (λ x. HasAsked x after next false) same (subst (λ o. IsAsked config step after next o) is h))

-- what the service has served when all its turns are used
pub has_served : (config : Config) (endpoints turn used left : ℕ) (before after : PortState)
    → IsServing endpoints turn before after → used ≡ turn → left ≡ 0 → HasServed config endpoints used left false before after
has_served config endpoints turn used left before after s all none = record {
  calls = s.calls;
  number = s.number;
  kept = s.kept;
  services = s.services;
  few = let count = s.count in omega arith;
  each = let count = s.count in omega arith;
  spent = inl (all ∙ sym s.count, none);
}

-- and when its last turn made no call
pub served_last : (config : Config) (endpoints turn used left : ℕ) (before after next : PortState) (t : Turn)
    → IsServing endpoints turn before after → IsLast config after next t → used ≡ turn + 1
    → HasServed config endpoints used left (is_memory t) before next
served_last config endpoints turn used left before after next t s l one =
    let e = same_at_last config after next t l in
    let count = s.count in
    record {
      calls = s.calls;
      number = ap (λ (s : PortState). s.number) e ∙ s.number;
      kept = ap (λ (s : PortState). s.receipts) e ∙ s.kept;
      services = s.services;
      few = omega arith;
      each = omega arith;
      spent = spent_by_last config (length s.calls) used left after next t l (omega arith);
    }
