-- The front of a unit: the cookies of its waits rise in order of submission, and what is below the front is done or void.
use Rattle.std.proofs.Common.{◌≡◌, ◌≢◌, ◌⊎◌, inl, inr, refl, ap, sym, subst, ◌∙◌, ℕ, suc, ◌+◌, ◌<◌, ◌≤◌, Bool, true, false, arith}
use Rattle.std.specs.Prelude.{Option, Some, None, List, [], ◌∷◌}
use Rattle.std.proofs.lemmas.Bool.Decides.{nat_tests}
use Rattle.std.proofs.lemmas.Bool.{cases_lt}
use Rattle.sva_step.specs.declared.limits.Config.{Config}
use Rattle.sva_step.specs.declared.steps.Step.{Step}
use Rattle.sva_model.specs.Words.{put, put_range, count_below}
use Rattle.sva_model.specs.State.{PasidRule, Mappings, Order, OrderState, Endpoint, World, opened}
use Rattle.sva_model.specs.State.Order.{RangeOf, PasidOf, Wait}
use Rattle.sva_model.specs.State.OrderState.{Queued, Done, Void}
use Rattle.sva_model.specs.State.Stage.{Draining, Invalidating}
use Rattle.sva_model.specs.State.Phase.{Open}
use Rattle.sva_model.specs.States.{is_busy, is_wait}
use Rattle.sva_model.specs.Unmappings.{submitted, submitted_if, range_at, submits, bound, cookie_of}
use Rattle.sva_model.specs.StateChanges.{end_of}
use Rattle.sva_model.specs.Acts.{Act, LocalAct, act, act_alone, cookies_of}
use Rattle.sva_model.specs.Acts.Act.{NewSpace, DropSpace, Map, Unmap, NewBinding, NewJob, Hold, LetGo, AtEndpoint}
use Rattle.sva_model.specs.Steps.{decide, next, run, after_acts, world_after}
use Rattle.sva_labels.proofs.Words.{put-same, put-other, ℕ_cases}
use Rattle.sva_laws.proofs.Legal.{LegalLocalAct}
use Rattle.sva_laws.proofs.Bounds.{Bounds}
use Rattle.sva_laws.proofs.Labels.{Labels}
use Rattle.sva_laws.proofs.Orders.{Orders, SentOnly, is_queued_or_done}
use Rattle.sva_laws.proofs.Invariant.{Invariant}
use Rattle.sva_laws.proofs.Keeps.{Legal, SuitsWorld, act_keeps, put_keeps}
use Rattle.sva_laws.proofs.Passed.{LegalAll}
use Rattle.sva_laws.proofs.Cookies.{HasCookie, own_old, count_strict, submits_there}
use Rattle.sva_laws.proofs.Runs.{step_legal, next_keeps, opened_invariant}

-- the end of the cookies is one more than the greatest, and 0 where none was submitted
abbrev pub HasGreatest : Endpoint → Type 0
HasGreatest p = (p.waits_end ≡ 0) ⊎ ((k c : ℕ) × (x : Bool) × (k < p.orders) × (p.order k ≡ Wait c x) × (p.waits_end ≡ suc c))

pub record Fronts (cookies : ℕ) (p : Endpoint) : Type 0 where
  -- the cookies of waits rise in order of submission; each is below the end of them
  pub rise : (k j c d : ℕ) (x y : Bool) → k < j → j < p.orders → p.order k ≡ Wait c x → p.order j ≡ Wait d y → c < d
  pub below : (k c : ℕ) (x : Bool) → k < p.orders → p.order k ≡ Wait c x → c < p.waits_end
  pub greatest : HasGreatest p
  pub given : p.waits_end ≤ cookies
  pub front_low : p.front ≤ p.waits_end
  -- what is at the front or behind it is queued, or void while the unit is in reset; what is below it is done or void
  pub at_front : (k c : ℕ) (x : Bool) → k < p.orders → p.order k ≡ Wait c x → p.front ≤ c → (p.order_state k ≡ Queued)
      ⊎ ((p.order_state k ≡ Void) × (p.phase ≢ Open))
  pub passed : (k c : ℕ) (x : Bool) → k < p.orders → p.order k ≡ Wait c x → c < p.front → (p.order_state k ≡ Done) ⊎ (p.order_state k ≡ Void)
  -- the wait of a binding isn't void by a reset that has ended
  pub draining : (b w c : ℕ) (x : Bool) → p.stage b ≡ Draining w → p.order w ≡ Wait c x → p.order_state w ≡ Void → p.front ≤ c
  pub invalidating : (b k w c : ℕ) (x : Bool) → p.stage b ≡ Invalidating k w → p.order w ≡ Wait c x → p.order_state w ≡ Void → p.front ≤ c

rise_kept : (ms : Mappings) (g n cookies : ℕ) (p : Endpoint) (o : LocalAct) → LegalLocalAct ms g p o → HasCookie cookies o → p.waits_end ≤ cookies
    → (k j c d : ℕ) (x y : Bool) → (k < j → j < p.orders → p.order k ≡ Wait c x → p.order j ≡ Wait d y → c < d)
    → (k < p.orders → p.order k ≡ Wait c x → c < p.waits_end) → k < j → j < (act_alone p n o).orders
    → (act_alone p n o).order k ≡ Wait c x → (act_alone p n o).order j ≡ Wait d y → c < d
rise_kept ms g n cookies p o l hc given k j c d x y old below lt made h i = grind (arith, nat_tests)

below_kept : (ms : Mappings) (g n cookies : ℕ) (p : Endpoint) (o : LocalAct) → LegalLocalAct ms g p o → HasCookie cookies o → p.waits_end ≤ cookies
    → (k c : ℕ) (x : Bool) → (k < p.orders → p.order k ≡ Wait c x → c < p.waits_end) → k < (act_alone p n o).orders → (act_alone p n o).order k ≡ Wait c x → c
    < (act_alone p n o).waits_end
below_kept ms g n cookies p o l hc given k c x old made h = grind (arith, nat_tests)

given_kept : (ms : Mappings) (g n cookies : ℕ) (p : Endpoint) (o : LocalAct) → LegalLocalAct ms g p o → HasCookie cookies o → p.waits_end ≤ cookies
    → (act_alone p n o).waits_end ≤ cookies + cookies_of o
given_kept ms g n cookies p o l hc given = grind (arith, nat_tests)

-- one more than the cookie of the wait that is passed is within the end
front_low_kept : (ms : Mappings) (g n cookies : ℕ) (p : Endpoint) (o : LocalAct) → LegalLocalAct ms g p o → HasCookie cookies o → Bounds g p → p.waits_end
    ≤ cookies → ((k c : ℕ) (x : Bool) → k < p.orders → p.order k ≡ Wait c x → c < p.waits_end) → p.front ≤ p.waits_end → (act_alone p n o).front
    ≤ (act_alone p n o).waits_end
front_low_kept ms g n cookies p (LocalAct.Pass k) l hc bo given below low = go (p.order k) refl l.2
  where
    made : k < p.orders
    made = grind (arith, bo.order_state k)

    go : (o : Order) → p.order k ≡ o → is_wait o ≡ true → end_of o ≤ p.waits_end
    go o h w = grind (arith, nat_tests)
front_low_kept ms g n cookies p o l hc bo given below low = grind (arith, nat_tests)

-- the wait that is passed is the first that is queued, so its cookie is between those that are passed and those that aren't
pub is_queued : (z : OrderState) → z ≡ Queued → (z ≡ Done) ⊎ (z ≡ Void) → ⊥
is_queued z h (inl e) = absurd (cc (sym h ∙ e))
is_queued z h (inr e) = absurd (cc (sym h ∙ e))

same_cookie : (o : Order) (c d : ℕ) (x y : Bool) → o ≡ Wait c x → o ≡ Wait d y → c ≡ d
same_cookie o c d x y h i = cc

-- at an open unit
record IsFirst (p : Endpoint) (j d : ℕ) (y : Bool) : Type 0 where
  opened : p.phase ≡ Open
  queued : p.order_state j ≡ Queued
  first : (i : ℕ) → i < j → p.order_state i ≢ Queued
  made : j < p.orders
  cookie : p.order j ≡ Wait d y

at_front_of : (cookies : ℕ) (p : Endpoint) → Fronts cookies p → p.phase ≡ Open → (k c : ℕ) (x : Bool) → k < p.orders → p.order k ≡ Wait c x → p.front ≤ c
    → p.order_state k ≡ Queued
at_front_of cookies p f ph k c x made h a = elim (f.at_front k c x made h a) [ inl q ↦ q | inr v ↦ absurd (v.1 ph) ]

not_passed : (cookies : ℕ) (p : Endpoint) (j d : ℕ) (y : Bool) → Fronts cookies p → IsFirst p j d y → p.front ≤ d
not_passed cookies p j d y f is =
    elim (cases_lt d p.front) [ inl l ↦ absurd (is_queued (p.order_state j) is.queued (f.passed j d y is.made is.cookie l)) | inr m ↦ m ]

pass_at : (cookies : ℕ) (p : Endpoint) (j d : ℕ) (y : Bool) → Fronts cookies p → IsFirst p j d y → (k c : ℕ) (x : Bool) → k < p.orders → p.order k
    ≡ Wait c x → d < c → put p.order_state j Done k ≡ Queued
pass_at cookies p j d y f is k c x made h lt = go (ℕ_cases k j) (cases_lt k j)
  where
    go : (k ≡ j) ⊎ (k ≢ j) → (k < j) ⊎ (j ≤ k) → put p.order_state j Done k ≡ Queued
    go (inl e) z = let s = same_cookie (p.order j) c d x y (sym (ap p.order e) ∙ h) is.cookie in absurd (omega (arith, s, lt))
    go (inr ne) (inl l) = let r = f.rise k j c d x y l is.made h is.cookie in absurd (omega (arith, r, lt))
    go (inr ne) (inr l) =
        let low = not_passed cookies p j d y f is in
        put-other p.order_state j Done k ne ∙ at_front_of cookies p f is.opened k c x made h (omega (arith, low, lt))

pass_below : (cookies : ℕ) (p : Endpoint) (j d : ℕ) (y : Bool) → Fronts cookies p → IsFirst p j d y → (k c : ℕ) (x : Bool) → k < p.orders → p.order k
    ≡ Wait c x → c ≤ d → (put p.order_state j Done k ≡ Done) ⊎ (put p.order_state j Done k ≡ Void)
pass_below cookies p j d y f is k c x made h le = go (ℕ_cases k j) (cases_lt k j)
  where
    before : p.order_state k ≢ Queued → (p.front ≤ c) ⊎ (c < p.front) → (p.order_state k ≡ Done) ⊎ (p.order_state k ≡ Void)
    before nq (inl a) = absurd (nq (at_front_of cookies p f is.opened k c x made h a))
    before nq (inr b) = f.passed k c x made h b

    still : k ≢ j → (p.order_state k ≡ Done) ⊎ (p.order_state k ≡ Void) → (put p.order_state j Done k ≡ Done) ⊎ (put p.order_state j Done k ≡ Void)
    still ne (inl a) = inl (put-other p.order_state j Done k ne ∙ a)
    still ne (inr a) = inr (put-other p.order_state j Done k ne ∙ a)

    turned : (c < p.front) ⊎ (p.front ≤ c) → (p.front ≤ c) ⊎ (c < p.front)
    turned (inl a) = inr a
    turned (inr a) = inl a

    go : (k ≡ j) ⊎ (k ≢ j) → (k < j) ⊎ (j ≤ k) → (put p.order_state j Done k ≡ Done) ⊎ (put p.order_state j Done k ≡ Void)
    go (inl e) z = inl (subst (λ i. put p.order_state j Done i ≡ Done) (sym e) (put-same p.order_state j Done))
    go (inr ne) (inl l) = still ne (before (is.first k l) (turned (cases_lt c p.front)))
    go (inr ne) (inr l) = let r = f.rise j k d c y x (omega (arith, l, ne)) made is.cookie h in absurd (omega (arith, r, le))

abbrev pub passes : LocalAct → Bool
passes (LocalAct.Pass k) = true
passes _ = false

-- what a pump that passes a wait has tested
first_wait : (ms : Mappings) (g n : ℕ) (p : Endpoint) (j : ℕ) → LegalLocalAct ms g p (LocalAct.Pass j) → Bounds g p → (o : Order) → p.order j ≡ o → is_wait o
    ≡ true → (d : ℕ) × (y : Bool) × (end_of o ≡ suc d) × IsFirst p j d y
first_wait ms g n p j l bo (Wait d y) e w = (d, y, refl, record { opened = l.0; queued = l.1; first = l.3; made = made; cookie = e })
  where
    made : j < p.orders
    made = grind (arith, bo.order_state j)
first_wait ms g n p j l bo (RangeOf b r) e w = absurd (cc (w))
first_wait ms g n p j l bo (PasidOf b) e w = absurd (cc (w))

other_front : (ms : Mappings) (g n cookies : ℕ) (p : Endpoint) (o : LocalAct) → LegalLocalAct ms g p o → passes o ≡ false → HasCookie cookies o → SentOnly p
    → (k c : ℕ) (x : Bool) → (is_busy (p.order_state k) ≡ true → is_wait (p.order k) ≡ false)
    → (k < p.orders → p.order k ≡ Wait c x → c < p.waits_end)
    → (k < p.orders → p.order k ≡ Wait c x → p.front ≤ c → (p.order_state k ≡ Queued) ⊎ ((p.order_state k ≡ Void) × (p.phase ≢ Open))) → k
    < (act_alone p n o).orders → (act_alone p n o).order k ≡ Wait c x → (act_alone p n o).front ≤ c → ((act_alone p n o).order_state k ≡ Queued)
    ⊎ (((act_alone p n o).order_state k ≡ Void) × ((act_alone p n o).phase ≢ Open))
other_front ms g n cookies p o l np hc sent k c x nw below old made h f = grind (arith, nat_tests)

other_passed : (ms : Mappings) (g n cookies : ℕ) (p : Endpoint) (o : LocalAct) → LegalLocalAct ms g p o → passes o ≡ false → HasCookie cookies o → SentOnly p
    → (k c : ℕ) (x : Bool) → (is_busy (p.order_state k) ≡ true → is_wait (p.order k) ≡ false) → p.waits_end ≤ cookies → p.front ≤ p.waits_end
    → (k < p.orders → p.order k ≡ Wait c x → p.front ≤ c → (p.order_state k ≡ Queued) ⊎ ((p.order_state k ≡ Void) × (p.phase ≢ Open)))
    → (k < p.orders → p.order k ≡ Wait c x → c < p.front → (p.order_state k ≡ Done) ⊎ (p.order_state k ≡ Void)) → k < (act_alone p n o).orders
    → (act_alone p n o).order k ≡ Wait c x → c < (act_alone p n o).front → ((act_alone p n o).order_state k ≡ Done) ⊎ ((act_alone p n o).order_state k ≡ Void)
other_passed ms g n cookies p o l np hc sent k c x nw given low at old made h f = grind (arith, nat_tests, at, old)

at_front_kept : (ms : Mappings) (g n cookies : ℕ) (p : Endpoint) (o : LocalAct) (b : Bool) → passes o ≡ b → LegalLocalAct ms g p o → HasCookie cookies o
    → Bounds g p → SentOnly p → Orders p → Fronts cookies p → (k c : ℕ) (x : Bool) → k < (act_alone p n o).orders → (act_alone p n o).order k ≡ Wait c x
    → (act_alone p n o).front ≤ c → ((act_alone p n o).order_state k ≡ Queued) ⊎ (((act_alone p n o).order_state k ≡ Void) × ((act_alone p n o).phase ≢ Open))
at_front_kept ms g n cookies p o false e l hc bo sent or f k c x =
    other_front ms g n cookies p o l e hc sent k c x (or.no_wait k) (f.below k c x) (f.at_front k c x)
at_front_kept ms g n cookies p (LocalAct.Pass j) true e l hc bo sent or f k c x =
    let w = first_wait ms g n p j l bo (p.order j) refl l.2 in
    λ made h a. let is = w.2 in inl (pass_at cookies p j w.0 w.1 f w.3 k c x made h (omega (arith, is, a)))
at_front_kept ms g n cookies p o true e l hc bo sent or f k c x = absurd (grind arith)

passed_kept : (ms : Mappings) (g n cookies : ℕ) (p : Endpoint) (o : LocalAct) (b : Bool) → passes o ≡ b → LegalLocalAct ms g p o → HasCookie cookies o
    → Bounds g p
    → SentOnly p → Orders p → Fronts cookies p → (k c : ℕ) (x : Bool) → k < (act_alone p n o).orders → (act_alone p n o).order k ≡ Wait c x → c
    < (act_alone p n o).front → ((act_alone p n o).order_state k ≡ Done) ⊎ ((act_alone p n o).order_state k ≡ Void)
passed_kept ms g n cookies p o false e l hc bo sent or f k c x =
    other_passed ms g n cookies p o l e hc sent k c x (or.no_wait k) f.given f.front_low (f.at_front k c x) (f.passed k c x)
passed_kept ms g n cookies p (LocalAct.Pass j) true e l hc bo sent or f k c x =
    let w = first_wait ms g n p j l bo (p.order j) refl l.2 in
    λ made h a. let is = w.2 in pass_below cookies p j w.0 w.1 f w.3 k c x made h (omega (arith, is, a))
passed_kept ms g n cookies p o true e l hc bo sent or f k c x = absurd (grind arith)

-- The end of the cookies is one more than the greatest.

abbrev pub submits_wait : LocalAct → Bool
submits_wait (LocalAct.Drain b cookie) = true
submits_wait (LocalAct.Invalidate b cookie) = true
submits_wait _ = false

same_end : (p : Endpoint) (n : ℕ) (o : LocalAct) → submits_wait o ≡ false → (act_alone p n o).waits_end ≡ p.waits_end
same_end p n o h = grind arith

pub more_orders : (p : Endpoint) (n : ℕ) (o : LocalAct) → p.orders ≤ (act_alone p n o).orders
more_orders p n o = grind (arith, nat_tests)

greatest_kept : (p : Endpoint) (n : ℕ) (o : LocalAct) (b : Bool) → submits_wait o ≡ b → HasGreatest p → HasGreatest (act_alone p n o)
greatest_kept p n o false e (inl h) = inl (same_end p n o e ∙ h)
greatest_kept p n o false e (inr (k, c, x, made, h, i)) = let m =
    more_orders p n o in inr (k, c, x, omega (arith, made, m), own_old p n o k made ∙ h, same_end p n o e ∙ i)
greatest_kept p n (LocalAct.Drain b cookie) true e h = inr (p.orders, cookie, true, omega arith, put-same p.order p.orders (Wait cookie true), refl)
greatest_kept p n (LocalAct.Invalidate b cookie) true e h =
    inr (suc p.orders, cookie, false, omega arith, put-same (put p.order p.orders (PasidOf b)) (suc p.orders) (Wait cookie false), refl)
greatest_kept p n o true e h = absurd (grind arith)

-- no wait that a binding waits for is void at an open unit; what a Reset makes void was queued
draining_kept : (ms : Mappings) (g n cookies : ℕ) (p : Endpoint) (o : LocalAct) → LegalLocalAct ms g p o → SentOnly p → (b w c : ℕ) (x : Bool)
    → (p.stage b ≡ Draining w → w < p.orders) → (p.stage b ≡ Draining w → p.phase ≡ Open → is_queued_or_done (p.order_state w) ≡ true)
    → (w < p.orders → p.order w ≡ Wait c x → c < p.front → (p.order_state w ≡ Done) ⊎ (p.order_state w ≡ Void))
    → (p.stage b ≡ Draining w → p.order w ≡ Wait c x → p.order_state w ≡ Void → p.front ≤ c)
    → (act_alone p n o).stage b ≡ Draining w → (act_alone p n o).order w ≡ Wait c x → (act_alone p n o).order_state w ≡ Void → (act_alone p n o).front ≤ c
draining_kept ms g n cookies p o l sent b w c x made state passed old h i v = grind (arith, nat_tests)

invalidating_kept : (ms : Mappings) (g n cookies : ℕ) (p : Endpoint) (o : LocalAct) → LegalLocalAct ms g p o → SentOnly p → (b k w c : ℕ) (x : Bool)
    → (p.stage b ≡ Invalidating k w → w < p.orders) → (p.stage b ≡ Invalidating k w → p.phase ≡ Open → is_queued_or_done (p.order_state w) ≡ true)
    → (w < p.orders → p.order w ≡ Wait c x → c < p.front → (p.order_state w ≡ Done) ⊎ (p.order_state w ≡ Void))
    → (p.stage b ≡ Invalidating k w → p.order w ≡ Wait c x → p.order_state w ≡ Void → p.front ≤ c) → (act_alone p n o).stage b ≡ Invalidating k w
    → (act_alone p n o).order w ≡ Wait c x → (act_alone p n o).order_state w ≡ Void → (act_alone p n o).front ≤ c
invalidating_kept ms g n cookies p o l sent b k w c x made state passed old h i v = grind (arith, nat_tests)

pub every : (ms : Mappings) (g n cookies : ℕ) (p : Endpoint) (o : LocalAct) → LegalLocalAct ms g p o → HasCookie cookies o → Bounds g p → Labels p → Orders p
    → Fronts cookies p → Fronts (cookies + cookies_of o) (act_alone p n o)
every ms g n cookies p o l hc bo la or f =
    record {
      rise = λ k j c d x y. rise_kept ms g n cookies p o l hc f.given k j c d x y (f.rise k j c d x y) (f.below k c x);
      below = λ k c x. below_kept ms g n cookies p o l hc f.given k c x (f.below k c x);
      given = given_kept ms g n cookies p o l hc f.given;
      front_low = front_low_kept ms g n cookies p o l hc bo f.given f.below f.front_low;
      at_front = λ k c x. at_front_kept ms g n cookies p o (passes o) refl l hc bo la.sent or f k c x;
      passed = λ k c x. passed_kept ms g n cookies p o (passes o) refl l hc bo la.sent or f k c x;
      greatest = greatest_kept p n o (submits_wait o) refl f.greatest;
      draining = λ b w c x. draining_kept ms g n cookies p o l la.sent b w c x (λ h. (or.draining b w h).1) (or.draining_state b w) (f.passed w c x)
          (f.draining b w c x);
      invalidating = λ b k w c x. invalidating_kept ms g n cookies p o l la.sent b k w c x (λ h. (or.invalidating b k w h).3)
          (or.invalidating_state b k w) (f.passed w c x) (f.invalidating b k w c x);
    }

-- more cookies given out to other units
more_cookies : (n m : ℕ) (p : Endpoint) → n ≤ m → Fronts n p → Fronts m p
more_cookies n m p l f =
    record {
      rise = f.rise;
      below = f.below;
      greatest = f.greatest;
      given = let z = f.given in omega (arith, l, z);
      front_low =
          f.front_low;
      at_front = f.at_front;
      passed = f.passed;
      draining = f.draining;
      invalidating = f.invalidating;
    }

-- the unit gets ranges and a wait with a cookie that is above all before
submitted_fronts : (g m : ℕ) (p : Endpoint) (b q count order cookie : ℕ) → p.waits_end ≤ cookie → cookie < m → Bounds g p → Orders p → Fronts cookie p
    → Fronts m (submitted p b q count order cookie)
submitted_fronts g m p b q count order cookie low high bo or f =
    record {
      rise = λ k j c d x y lt made h i. rise k j c d x y lt made h i;
      below = λ k c x made h. below k c x made h;
      given = omega (arith, high);
      greatest = inr (
        p.orders + count,
        cookie,
        false,
        omega arith,
        put-same (put_range p.order p.orders count (λ j. RangeOf b (range_at q order j))) (p.orders + count) (Wait cookie false),
        refl,
      );
      front_low = let z = f.front_low in omega (arith, z, low);
      at_front = λ k c x made h i. at_front k c x made h i;
      passed = λ k c x made h i. passed k c x made h i;
      draining = λ d w c x h i v. draining d w c x h i v;
      invalidating = λ d k w c x h i v. invalidating d k w c x h i v;
    }
  where
    rise : (k j c d : ℕ) (x y : Bool) → k < j → j < p.orders + suc count → (submitted p b q count order cookie).order k ≡ Wait c x
        → (submitted p b q count order cookie).order j ≡ Wait d y → c < d
    rise k j c d x y lt made h i = grind (arith, nat_tests, f.rise k j c d x y lt, f.below k c x, low)

    below : (k c : ℕ) (x : Bool) → k < p.orders + suc count → (submitted p b q count order cookie).order k ≡ Wait c x → c < suc cookie
    below k c x made h = grind (arith, nat_tests, f.below k c x, low)

    at_front : (k c : ℕ) (x : Bool) → k < p.orders + suc count → (submitted p b q count order cookie).order k ≡ Wait c x → p.front ≤ c
        → ((submitted p b q count order cookie).order_state k ≡ Queued) ⊎ (((submitted p b q count order cookie).order_state k ≡ Void) × (p.phase ≢ Open))
    at_front k c x made h i = grind (arith, nat_tests, f.at_front k c x)

    passed : (k c : ℕ) (x : Bool) → k < p.orders + suc count → (submitted p b q count order cookie).order k ≡ Wait c x → c < p.front
        → ((submitted p b q count order cookie).order_state k ≡ Done) ⊎ ((submitted p b q count order cookie).order_state k ≡ Void)
    passed k c x made h i = grind (arith, nat_tests, f.passed k c x, f.front_low, low)

    draining : (d w c : ℕ) (x : Bool) → p.stage d ≡ Draining w → (submitted p b q count order cookie).order w ≡ Wait c x
        → (submitted p b q count order cookie).order_state w ≡ Void → p.front ≤ c
    draining d w c x h i v = grind (arith, nat_tests, f.draining d w c x, or.draining d w)

    invalidating : (d k w c : ℕ) (x : Bool) → p.stage d ≡ Invalidating k w → (submitted p b q count order cookie).order w ≡ Wait c x
        → (submitted p b q count order cookie).order_state w ≡ Void → p.front ≤ c
    invalidating d k w c x h i v = grind (arith, nat_tests, f.invalidating d k w c x, or.invalidating d k w)

abbrev pub AllFronts : World → Type 0
AllFronts w = (e : ℕ) → Fronts w.cookies (w.part e)

unmapped_fronts : (g n m : ℕ) (t : Bool) (p : Endpoint) (o : Option ℕ) (q count order cookie : ℕ) → n ≤ cookie → n ≤ m → (t ≡ true → cookie < m)
    → Bounds g p → Orders p → Fronts n p → Fronts m (submitted_if t p o q count order cookie)
unmapped_fronts g n m true p (Some b) q count order cookie low more high bo or f =
    submitted_fronts g m p b q count order cookie (let z = f.given in omega (arith, z, low)) (high refl) bo or (more_cookies n cookie p low f)
unmapped_fronts g n m true p None q count order cookie low more high bo or f = more_cookies n m p more f
unmapped_fronts g n m false p o q count order cookie low more high bo or f = more_cookies n m p more f

suits_cookie : (w : World) (e : ℕ) (o : LocalAct) → SuitsWorld w e o → HasCookie w.cookies o
suits_cookie w e (LocalAct.Drain b cookie) s = s
suits_cookie w e (LocalAct.Invalidate b cookie) s = s
suits_cookie w e _ s = tt

pub act_fronts : (w : World) (a : Act) → Legal w a → Invariant w → AllFronts w → AllFronts (act w a)
act_fronts w NewSpace l i h = h
act_fronts w (DropSpace s) l i h = h
act_fronts w (Map s q f x) l i h = h
act_fronts w (Unmap s q count order) l i h =
    λ e.
    unmapped_fronts w.bindings w.cookies (w.cookies + count_below w.config.endpoints (submits w s)) (submits w s e) (w.part e) (bound w e s) q count
    order (cookie_of w s e)
    (omega arith) (omega arith)
    (λ t. let z = count_strict e w.config.endpoints (submits w s) (submits_there w s e i t) t in omega (arith, z))
    (i.parts e).bounds (i.parts e).orders (h e)
act_fronts w (NewBinding e) l i h = h
act_fronts w (NewJob e g) l i h = h
act_fronts w (Hold x j) l i h = h
act_fronts w (LetGo x) l i h = h
act_fronts w (AtEndpoint e o) l i h =
    put_keeps (λ k p. Fronts (w.cookies + cookies_of o) p) w.part e (act_alone (w.part e) w.messages o)
    (every w.mappings w.bindings w.messages w.cookies (w.part e) o l.1.0 (suits_cookie w e o l.1.1) (i.parts e).bounds (i.parts e).labels
    (i.parts e).orders (h e))
    (λ d. more_cookies w.cookies (w.cookies + cookies_of o) (w.part d) (omega arith) (h d))

pub acts_fronts : (acts : List Act) (w : World) → LegalAll w acts → Invariant w → AllFronts w → AllFronts (after_acts w acts)
acts_fronts [] w l i h = h
acts_fronts (a ∷ acts) w l i h = acts_fronts acts (act w a) l.1 (act_keeps w a l.0 i) (act_fronts w a l.0 i h)

run_fronts : (ss : List Step) (w : World) → Invariant w → AllFronts w → AllFronts (run w ss)
run_fronts [] w i h = h
run_fronts (s ∷ ss) w i h = run_fronts ss (next w s) (next_keeps w s i) (acts_fronts (decide w s).acts w (step_legal w s i) i h)

pub opened_fronts : (rule : PasidRule) (c : Config) → AllFronts (opened rule c)
opened_fronts rule c e =
    record {
      rise = grind arith;
      below = grind arith;
      given = grind arith;
      greatest = inl refl;
      front_low = grind arith;
      at_front = grind arith;
      passed = grind arith;
      draining = grind arith;
      invalidating = grind arith;
    }

pub always_fronts : (rule : PasidRule) (c : Config) (ss : List Step) → AllFronts (world_after rule c ss)
always_fronts rule c ss = run_fronts ss (opened rule c) (opened_invariant rule c) (opened_fronts rule c)
