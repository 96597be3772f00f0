-- The front of a unit, exactly: one more than the greatest cookie of a wait that was taken, or is void by a reset that has ended.
use Rattle.std.proofs.Common.{◌≡◌, ◌≢◌, ◌⊎◌, inl, inr, refl, ap, sym, subst, ◌∙◌, ℕ, suc, ◌+◌, ◌<◌, ◌≤◌, Bool, true, false, arith, append_assoc}
use Rattle.std.specs.Prelude.{Option, Some, None, List, [], ◌∷◌, ◌++◌, if◌then◌else◌}
use Rattle.std.proofs.lemmas.Bool.Decides.{nat_tests}
use Rattle.std.proofs.lemmas.Bool.{cases_lt}
use Rattle.std.proofs.lemmas.List.{append-nil}
use Rattle.sva_step.specs.declared.limits.Config.{Config}
use Rattle.sva_step.specs.declared.steps.Step.{Step}
use Rattle.sva_model.specs.State.{PasidRule, Mappings, Order, OrderState, Endpoint, World, opened}
use Rattle.sva_model.specs.State.Order.{RangeOf, PasidOf, Wait}
use Rattle.sva_model.specs.State.OrderState.{Queued, Done, Void}
use Rattle.sva_model.specs.State.Phase.{Open, Cleared}
use Rattle.sva_model.specs.States.{is_open, is_wait}
use Rattle.sva_model.specs.Unmappings.{submitted, submitted_if, submits, bound, cookie_of}
use Rattle.sva_model.specs.StateChanges.{end_of, void_queued, void_undone}
use Rattle.sva_model.specs.Acts.{Act, LocalAct, act, act_alone}
use Rattle.sva_model.specs.Acts.Act.{NewSpace, DropSpace, Map, Unmap, NewBinding, NewJob, Hold, LetGo, AtEndpoint}
use Rattle.sva_model.specs.Steps.{decide, next, after_acts, world_after}
use Rattle.sva_laws.specs.Waits.{IsBehind}
use Rattle.sva_laws.specs.Fronts.{IsVoidByPastReset, IsVoidByPresentReset, IsPast, IsAhead, IsFrontOf, part_after}
use Rattle.sva_laws.proofs.Legal.{LegalLocalAct}
use Rattle.sva_laws.proofs.Bounds.{Bounds}
use Rattle.sva_laws.proofs.Invariant.{Invariant, PartInvariant}
use Rattle.sva_laws.proofs.Keeps.{put_keeps}
use Rattle.sva_laws.proofs.Passed.{LegalAll}
use Rattle.sva_laws.proofs.Cookies.{own_old}
use Rattle.sva_laws.proofs.Fronts.{Fronts, AllFronts, HasGreatest, more_orders, always_fronts}
use Rattle.sva_laws.proofs.Targets.{queued_front, done_below}
use Rattle.sva_laws.proofs.Debts.{counted_kept, behind_kept, behind_submitted}
use Rattle.sva_laws.proofs.Submitted.{old_order, old_state}
use Rattle.sva_laws.proofs.PartRuns.{IsKeptByParts, run_part}
use Rattle.sva_laws.proofs.StepKinds.{Kind, is_calm, is_calm_own, are_calm, step_kind}
use Rattle.sva_laws.proofs.StepKinds.Kind.{calm, single, unmapping}
use Rattle.sva_laws.proofs.Lookback.{run_append, after_one}
use Rattle.sva_laws.proofs.Runs.{always, step_legal}

-- The front doesn't fall.

abbrev passes_wait : LocalAct → Bool
passes_wait (LocalAct.Pass k) = true
passes_wait _ = false

other_up : (ms : Mappings) (g n : ℕ) (p : Endpoint) (o : LocalAct) → LegalLocalAct ms g p o → passes_wait o ≡ false → p.front ≤ p.waits_end → p.front
    ≤ (act_alone p n o).front
other_up ms g n p o l e low = grind (arith, nat_tests)

front_up : (ms : Mappings) (g n cookies : ℕ) (p : Endpoint) (o : LocalAct) (b : Bool) → passes_wait o ≡ b → LegalLocalAct ms g p o → Bounds g p
    → Fronts cookies p
    → p.front ≤ (act_alone p n o).front
front_up ms g n cookies p o false e l bo f = other_up ms g n p o l e f.front_low
front_up ms g n cookies p (LocalAct.Pass k) true e l bo f = go (p.order k) refl l.2
  where
    made : k < p.orders
    made = grind (arith, bo.order_state k)

    go : (o : Order) → p.order k ≡ o → is_wait o ≡ true → p.front ≤ end_of o
    go (Wait d y) h w = let a = queued_front cookies p f k d y made h l.1 in omega (arith, a)
    go (RangeOf b r) h w = absurd (cc (w))
    go (PasidOf b) h w = absurd (cc (w))
front_up ms g n cookies p o true e l bo f = absurd (grind arith)

-- A wait that was submitted when so many reset-dones had come has its cookie below the front once one more has.

record IsOver (k c : ℕ) (x : Bool) (resets : ℕ) (p : Endpoint) : Type 0 where
  made : k < p.orders
  cookie : p.order k ≡ Wait c x
  counted : resets ≤ p.resets
  over : resets < p.resets → c < p.front

over_kept : (ms : Mappings) (g n : ℕ) (p : Endpoint) (o : LocalAct) → LegalLocalAct ms g p o → (resets c : ℕ) → resets ≤ p.resets → c < p.waits_end
    → p.front ≤ (act_alone p n o).front → (resets < p.resets → c < p.front) → resets < (act_alone p n o).resets → c < (act_alone p n o).front
over_kept ms g n p o l resets c low below up old h = grind (arith, nat_tests)

over_parts : (k c : ℕ) (x : Bool) (resets : ℕ) → IsKeptByParts (IsOver k c x resets)
over_parts k c x resets =
    record {
      kept = λ w e o l i f h. record {
        made = let m = more_orders (w.part e) w.messages o in let z = h.made in omega (arith, m, z);
        cookie = own_old (w.part e) w.messages o k h.made ∙ h.cookie;
        counted = counted_kept (w.part e) w.messages o resets h.counted;
        over = over_kept w.mappings w.bindings w.messages (w.part e) o l resets c h.counted (f.below k c x h.made h.cookie)
            (front_up w.mappings w.bindings w.messages w.cookies (w.part e) o (passes_wait o) refl l i.bounds f) h.over;
      };
      more = λ p b q count order cookie h. record {
        made = let z = h.made in omega (arith, z);
        cookie = old_order p b q count order cookie k h.made ∙ h.cookie;
        counted = h.counted;
        over = h.over;
      };
    }

-- A wait that was queued when so many reset-dones had come is void by the present reset alone while no more have.

record IsHere (k c : ℕ) (x : Bool) (resets : ℕ) (p : Endpoint) : Type 0 where
  behind : IsBehind p k k resets
  cookie : p.order k ≡ Wait c x

here_parts : (k c : ℕ) (x : Bool) (resets : ℕ) → IsKeptByParts (IsHere k c x resets)
here_parts k c x resets =
    record {
      kept = λ w e o l i f h. record {
        behind = behind_kept w.mappings w.bindings w.messages w.cookies (w.part e) o l i.bounds i.labels i.orders f k k resets h.behind;
        cookie = own_old (w.part e) w.messages o k h.behind.made ∙ h.cookie;
      };
      more = λ p b q count order cookie h. record {
        behind = behind_submitted p b q count order cookie k k resets h.behind;
        cookie = old_order p b q count order cookie k h.behind.made ∙ h.cookie;
      };
    }

queued_behind : (p : Endpoint) (k c : ℕ) (x : Bool) → k < p.orders → p.order k ≡ Wait c x → p.order_state k ≡ Queued → IsBehind p k k p.resets
queued_behind p k c x made h q =
    record {
      low = omega arith;
      made = made;
      is_a_wait = ap is_wait h;
      ahead = λ j a b. absurd (omega (arith, a, b));
      counted = omega arith;
      not_void = λ same ph j a b v. let e : j ≡ k = omega (arith, a, b) in absurd (cc (sym q ∙ sym (ap p.order_state e) ∙ v));
      done = λ same d j a b. absurd (cc (sym q ∙ d));
      void = λ same v d y i. absurd (cc (sym q ∙ v));
    }

-- The front is 0, or one more than the cookie of a wait.

abbrev IsEndOfWait : Endpoint → Type 0
IsEndOfWait p = (p.front ≡ 0) ⊎ ((k c : ℕ) × (x : Bool) × (k < p.orders) × (p.order k ≡ Wait c x) × (p.front ≡ suc c))

abbrev moves_front : LocalAct → Bool
moves_front (LocalAct.Pass k) = true
moves_front (LocalAct.Reopen c) = true
moves_front _ = false

same_front : (p : Endpoint) (n : ℕ) (o : LocalAct) → moves_front o ≡ false → (act_alone p n o).front ≡ p.front
same_front p n o e = grind arith

end_kept : (ms : Mappings) (g n : ℕ) (p : Endpoint) (o : LocalAct) (b : Bool) → moves_front o ≡ b → LegalLocalAct ms g p o → Bounds g p → HasGreatest p
    → IsEndOfWait p → IsEndOfWait (act_alone p n o)
end_kept ms g n p o false e l bo gr (inl h) = inl (same_front p n o e ∙ h)
end_kept ms g n p o false e l bo gr (inr (k, c, x, made, h, i)) =
    let m = more_orders p n o in
    inr (k, c, x, omega (arith, made, m), own_old p n o k made ∙ h, same_front p n o e ∙ i)
end_kept ms g n p (LocalAct.Pass k) true e l bo gr h = go (p.order k) refl l.2
  where
    made : k < p.orders
    made = grind (arith, bo.order_state k)

    go : (o : Order) → p.order k ≡ o → is_wait o ≡ true → IsEndOfWait (act_alone p n (LocalAct.Pass k))
    go (Wait d y) i w = inr (k, d, y, made, i, ap end_of i)
    go (RangeOf b r) i w = absurd (cc (w))
    go (PasidOf b) i w = absurd (cc (w))
end_kept ms g n p (LocalAct.Reopen c) true e l bo gr h = gr
end_kept ms g n p o true e l bo gr h = absurd (grind arith)

end_parts : IsKeptByParts IsEndOfWait
end_parts =
    record {
      kept = λ w e o l i f h. end_kept w.mappings w.bindings w.messages (w.part e) o (moves_front o) refl l i.bounds f.greatest h;
      more = more;
    }
  where
    more : (p : Endpoint) (b q count order cookie : ℕ) → IsEndOfWait p → IsEndOfWait (submitted p b q count order cookie)
    more p b q count order cookie (inl h) = inl h
    more p b q count order cookie (inr (k, c, x, made, h, i)) = inr (k, c, x, omega (arith, made), old_order p b q count order cookie k made ∙ h, i)

-- What one step does to a wait that is void after it: it was void before on the same side of the front; or the step is the Reset
-- that made it void, or ends the reset.

record Turns (p q : Endpoint) : Type 0 where
  ahead : (k c : ℕ) (x : Bool) → k < q.orders → q.order k ≡ Wait c x → q.order_state k ≡ Void → q.front ≤ c → (k < p.orders) × (p.order k ≡ Wait c x)
      × (p.resets ≡ q.resets) × ((p.order_state k ≡ Queued) ⊎ ((p.order_state k ≡ Void) × (p.front ≤ c)))
  past : (k c : ℕ) (x : Bool) → k < q.orders → q.order k ≡ Wait c x → q.order_state k ≡ Void → c < q.front → (k < p.orders) × (p.order k ≡ Wait c x)
      × (p.order_state k ≡ Void) × (((c < p.front) × (p.resets ≤ q.resets)) ⊎ (p.resets < q.resets))

-- nothing of this changes
record Still (p q : Endpoint) : Type 0 where
  orders : q.orders ≡ p.orders
  order : (k : ℕ) → q.order k ≡ p.order k
  state : (k : ℕ) → q.order_state k ≡ p.order_state k
  front : q.front ≡ p.front
  resets : q.resets ≡ p.resets

still_turns : (p q : Endpoint) → Still p q → Turns p q
still_turns p q s =
    record {
      ahead = λ k c x made h v a. (
        subst (λ z. k < z) s.orders made,
        sym (s.order k) ∙ h,
        sym s.resets,
        inr (sym (s.state k) ∙ v, subst (λ z. z ≤ c) s.front a),
      );
      past = λ k c x made h v b. (
        subst (λ z. k < z) s.orders made,
        sym (s.order k) ∙ h,
        sym (s.state k) ∙ v,
        inl (subst (λ z. c < z) s.front b, let z = s.resets in omega (arith, z)),
      );
    }

still_same : (p : Endpoint) → Still p p
still_same p = record { orders = refl; order = λ k. refl; state = λ k. refl; front = refl; resets = refl }

still_more : (p q r : Endpoint) → Still p q → Still q r → Still p r
still_more p q r a b =
    record {
      orders = b.orders ∙ a.orders;
      order = λ k. b.order k ∙ a.order k;
      state = λ k. b.state k ∙ a.state k;
      front = b.front ∙ a.front;
      resets = b.resets ∙ a.resets;
    }

still_own : (p : Endpoint) (n : ℕ) (o : LocalAct) → is_calm_own o ≡ true → Still p (act_alone p n o)
still_own p n o h =
    record {
      orders = grind (arith, nat_tests);
      order = λ k. grind (arith, nat_tests);
      state = λ k. grind (arith, nat_tests);
      front = grind (arith, nat_tests);
      resets = grind (arith, nat_tests);
    }

still_act : (w : World) (a : Act) → is_calm a ≡ true → (e : ℕ) → Still (w.part e) ((act w a).part e)
still_act w NewSpace h e = still_same (w.part e)
still_act w (DropSpace s) h e = still_same (w.part e)
still_act w (Map s q f x) h e = still_same (w.part e)
still_act w (Unmap s q count order) h e = absurd (cc)
still_act w (NewBinding d) h e = still_same (w.part e)
still_act w (NewJob d g) h e = still_same (w.part e)
still_act w (Hold x j) h e = still_same (w.part e)
still_act w (LetGo x) h e = still_same (w.part e)
still_act w (AtEndpoint d o) h e =
    put_keeps (λ x q. Still (w.part x) q) w.part d (act_alone (w.part d) w.messages o) (still_own (w.part d) w.messages o h) (λ x. still_same (w.part x)) e

still_acts : (acts : List Act) (w : World) → are_calm acts ≡ true → (e : ℕ) → Still (w.part e) ((after_acts w acts).part e)
still_acts [] w h e = still_same (w.part e)
still_acts (a ∷ acts) w h e = go (is_calm a) refl h (λ k. still_acts acts (act w a) k e)
  where
    go : (b : Bool) → is_calm a ≡ b → (if b then are_calm acts else false) ≡ true
        → (are_calm acts ≡ true → Still ((act w a).part e) ((after_acts (act w a) acts).part e)) → Still (w.part e) ((after_acts (act w a) acts).part e)
    go true c h rest = still_more (w.part e) ((act w a).part e) ((after_acts (act w a) acts).part e) (still_act w a c e) (rest h)
    go false c h rest = absurd (cc)

-- one act of an endpoint
abbrev resets_unit : LocalAct → Bool
resets_unit LocalAct.Reset = true
resets_unit (LocalAct.Reopen c) = true
resets_unit _ = false

void_made : (ms : Mappings) (g n : ℕ) (p : Endpoint) (o : LocalAct) → LegalLocalAct ms g p o → (k : ℕ) → k < (act_alone p n o).orders
    → (act_alone p n o).order_state k ≡ Void → k < p.orders
void_made ms g n p o l k made v = grind (arith, nat_tests)

was_void : (ms : Mappings) (g n : ℕ) (p : Endpoint) (o : LocalAct) → LegalLocalAct ms g p o → resets_unit o ≡ false → (k : ℕ) → k < p.orders
    → (act_alone p n o).order_state k
    ≡ Void → p.order_state k ≡ Void
was_void ms g n p o l e k made v = grind (arith, nat_tests)

same_resets : (p : Endpoint) (n : ℕ) (o : LocalAct) → resets_unit o ≡ false → (act_alone p n o).resets ≡ p.resets
same_resets p n o e = grind arith

-- in reset the front moves by the reset-done alone
front_in_reset : (ms : Mappings) (g n : ℕ) (p : Endpoint) (o : LocalAct) → LegalLocalAct ms g p o → resets_unit o ≡ false → p.phase ≢ Open
    → (act_alone p n o).front ≡ p.front
front_in_reset ms g n p o l e closed = grind arith

queued_or_void : (z : OrderState) → void_queued z ≡ Void → (z ≡ Queued) ⊎ (z ≡ Void)
queued_or_void z h = grind arith

was_undone : (z : OrderState) → void_undone z ≡ Void → z ≢ Done
was_undone z h e = absurd (cc (sym (ap void_undone e) ∙ h))

not_queued : (z : OrderState) → void_queued z ≡ Void → z ≢ Done
not_queued z h e = absurd (cc (sym (ap void_queued e) ∙ h))

closed_by : (p : Endpoint) (c : ℕ) → p.phase ≡ Cleared c → is_open p.phase ≡ false
closed_by p c h = ap is_open h

own_turns : (w : World) (e : ℕ) (o : LocalAct) (b : Bool) → resets_unit o ≡ b → LegalLocalAct w.mappings w.bindings (w.part e) o
    → PartInvariant w.mappings w.config.endpoints w.bindings w.messages e (w.part e) → Fronts w.cookies (w.part e)
    → Turns (w.part e) (act_alone (w.part e) w.messages o)
own_turns w e o false z l i f =
    record {
      ahead = λ k c x m h v a.
          let made = void_made w.mappings w.bindings w.messages (w.part e) o l k m v in
          let up = front_up w.mappings w.bindings w.messages w.cookies (w.part e) o (passes_wait o) refl l i.bounds f in (
            made,
            sym (own_old (w.part e) w.messages o k made) ∙ h,
            sym (same_resets (w.part e) w.messages o z),
            inr (was_void w.mappings w.bindings w.messages (w.part e) o l z k made v, omega (arith, up, a)),
          );
      past = λ k c x m h v a.
          let made = void_made w.mappings w.bindings w.messages (w.part e) o l k m v in
          let old = sym (own_old (w.part e) w.messages o k made) ∙ h in
          let void = was_void w.mappings w.bindings w.messages (w.part e) o l z k made v in
          let same = same_resets (w.part e) w.messages o z in
          (made, old, void, inl (side k c x made old void a (cases_lt c (w.part e).front), omega (arith, same)));
    }
  where
    contrary : (k c : ℕ) → (w.part e).order_state k ≡ Void → c < (act_alone (w.part e) w.messages o).front → (w.part e).front ≤ c
        → ((w.part e).order_state k ≡ Queued) ⊎ (((w.part e).order_state k ≡ Void) × ((w.part e).phase ≢ Open)) → ⊥
    contrary k c void a high (inl q) = absurd (cc (sym q ∙ void))
    contrary k c void a high (inr y) =
        let s = front_in_reset w.mappings w.bindings w.messages (w.part e) o l z y.1 in
        omega (arith, s, a, high)

    side : (k c : ℕ) (x : Bool) → k < (w.part e).orders → (w.part e).order k ≡ Wait c x → (w.part e).order_state k ≡ Void
        → c < (act_alone (w.part e) w.messages o).front → (c < (w.part e).front) ⊎ ((w.part e).front ≤ c) → c < (w.part e).front
    side k c x made h void a (inl low) = low
    side k c x made h void a (inr high) = absurd (contrary k c void a high (f.at_front k c x made h high))
own_turns w e LocalAct.Reset true z l i f =
    record {
      ahead = λ k c x m h v a. (m, h, refl, either k c (queued_or_void ((w.part e).order_state k) v) a);
      past = λ k c x m h v a. (m, h, void k (not_queued ((w.part e).order_state k) v) (f.passed k c x m h a), inl (a, omega arith));
    }
  where
    either : (k c : ℕ) → ((w.part e).order_state k ≡ Queued) ⊎ ((w.part e).order_state k ≡ Void) → (w.part e).front ≤ c
        → ((w.part e).order_state k ≡ Queued) ⊎ (((w.part e).order_state k ≡ Void) × ((w.part e).front ≤ c))
    either k c (inl q) a = inl q
    either k c (inr v) a = inr (v, a)

    void : (k : ℕ) → (w.part e).order_state k ≢ Done → ((w.part e).order_state k ≡ Done) ⊎ ((w.part e).order_state k ≡ Void) → (w.part e).order_state k ≡ Void
    void k nd (inl d) = absurd (nd d)
    void k nd (inr v) = v
own_turns w e (LocalAct.Reopen c) true z l i f =
    record {
      ahead = λ k d x m h v a. let low = f.below k d x m h in absurd (omega (arith, low, a));
      past = λ k d x m h v a. (m, h, void k d x m h (was_undone ((w.part e).order_state k) v) (cases_lt d (w.part e).front), inr (omega arith));
    }
  where
    closed : is_open (w.part e).phase ≡ false
    closed = closed_by (w.part e) c (i.resets.up c l.0)

    at_front : (k : ℕ) → ((w.part e).order_state k ≡ Queued) ⊎ (((w.part e).order_state k ≡ Void) × ((w.part e).phase ≢ Open)) → (w.part e).order_state k ≡ Void
    at_front k (inl q) = absurd (i.resets.unqueued k closed q)
    at_front k (inr y) = y.0

    passed : (k : ℕ) → (w.part e).order_state k ≢ Done → ((w.part e).order_state k ≡ Done) ⊎ ((w.part e).order_state k ≡ Void) → (w.part e).order_state k ≡ Void
    passed k nd (inl d) = absurd (nd d)
    passed k nd (inr y) = y

    void : (k d : ℕ) (x : Bool) → k < (w.part e).orders → (w.part e).order k ≡ Wait d x → (w.part e).order_state k ≢ Done
        → (d < (w.part e).front) ⊎ ((w.part e).front ≤ d) → (w.part e).order_state k ≡ Void
    void k d x m h nd (inl low) = passed k nd (f.passed k d x m h low)
    void k d x m h nd (inr high) = at_front k (f.at_front k d x m h high)
own_turns w e o true z l i f = absurd (grind arith)

submitted_turns : (t : Bool) (p : Endpoint) (o : Option ℕ) (q count order cookie : ℕ) → Turns p (submitted_if t p o q count order cookie)
submitted_turns true p (Some b) q count order cookie =
    record {
      ahead = λ k c x m h v a. let made = old_void k m v in
          (made, sym (old_order p b q count order cookie k made) ∙ h, refl, inr (sym (old_state p b q count order cookie k made) ∙ v, a));
      past = λ k c x m h v a. let made = old_void k m v in
          (made, sym (old_order p b q count order cookie k made) ∙ h, sym (old_state p b q count order cookie k made) ∙ v, inl (a, omega arith));
    }
  where
    old_void : (k : ℕ) → k < p.orders + suc count → (submitted p b q count order cookie).order_state k ≡ Void → k < p.orders
    old_void k m v = grind (arith, nat_tests)
submitted_turns true p None q count order cookie = still_turns p p (still_same p)
submitted_turns false p o q count order cookie = still_turns p p (still_same p)

step_turns : (w : World) (s : Step) → Invariant w → AllFronts w → (e : ℕ) → Turns (w.part e) ((next w s).part e)
step_turns w s i f e = go (decide w s).acts (step_legal w s i) (step_kind w s)
  where
    one : (d : ℕ) (o : LocalAct) → LegalAll w (AtEndpoint d o ∷ []) → Turns (w.part e) ((act w (AtEndpoint d o)).part e)
    one d o l =
        put_keeps (λ x q. Turns (w.part x) q) w.part d (act_alone (w.part d) w.messages o)
        (own_turns w d o (resets_unit o) refl l.0.1.0 (i.parts d) (f d)) (λ x. still_turns (w.part x) (w.part x) (still_same (w.part x))) e

    go : (acts : List Act) → LegalAll w acts → Kind w s (decide w s) → Turns (w.part e) ((next w s).part e)
    go acts l (calm h) = still_turns (w.part e) ((next w s).part e) (still_acts (decide w s).acts w h e)
    go acts l (single d o a h r by) =
        subst (λ z. Turns (w.part e) ((after_acts w z).part e)) (sym h) (one d o (subst (LegalAll w) h (step_legal w s i)))
    go acts l (unmapping t q count order h) =
        subst (λ z. Turns (w.part e) ((after_acts w z).part e)) (sym h)
        (submitted_turns (submits w t e) (w.part e) (bound w e t) q count order (cookie_of w t e))

-- Over the list of steps: a wait that is void has a moment at which it was so before, or was queued yet.

-- at an earlier moment it was queued, since which no reset-done was delivered
record WasQueued (rule : PasidRule) (config : Config) (steps : List Step) (e wait : ℕ) : Type 0 where
  before : List Step
  since : List Step
  steps_are : steps ≡ before ++ since
  submitted : wait < (part_after rule config before e).orders
  queued : (part_after rule config before e).order_state wait ≡ Queued
  goes_on : (part_after rule config before e).resets ≡ (part_after rule config steps e).resets

record HasMoments (rule : PasidRule) (config : Config) (steps : List Step) (e : ℕ) : Type 0 where
  past : (k c : ℕ) (x : Bool) → k < (part_after rule config steps e).orders → (part_after rule config steps e).order k ≡ Wait c x
      → (part_after rule config steps e).order_state k ≡ Void → c < (part_after rule config steps e).front → IsVoidByPastReset rule config steps e k
  ahead : (k c : ℕ) (x : Bool) → k < (part_after rule config steps e).orders → (part_after rule config steps e).order k ≡ Wait c x
      → (part_after rule config steps e).order_state k ≡ Void → (part_after rule config steps e).front ≤ c → WasQueued rule config steps e k

past_more : (rule : PasidRule) (c : Config) (ss : List Step) (s : Step) (e k : ℕ) → (part_after rule c ss e).resets
    ≤ (part_after rule c (ss ++ s ∷ []) e).resets → IsVoidByPastReset rule c ss e k → IsVoidByPastReset rule c (ss ++ s ∷ []) e k
past_more rule c ss s e k up x =
    record {
      before = x.before;
      since = x.since ++ s ∷ [];
      steps_are = ap (λ z. z ++ s ∷ []) x.steps_are ∙ append_assoc x.before x.since (s ∷ []);
      submitted = x.submitted;
      void = x.void;
      ended = let z = x.ended in omega (arith, z, up);
    }

queued_more : (rule : PasidRule) (c : Config) (ss : List Step) (s : Step) (e k : ℕ) → (part_after rule c ss e).resets
    ≡ (part_after rule c (ss ++ s ∷ []) e).resets → WasQueued rule c ss e k → WasQueued rule c (ss ++ s ∷ []) e k
queued_more rule c ss s e k same x =
    record {
      before = x.before;
      since = x.since ++ s ∷ [];
      steps_are = ap (λ z. z ++ s ∷ []) x.steps_are ∙ append_assoc x.before x.since (s ∷ []);
      submitted = x.submitted;
      queued = x.queued;
      goes_on = x.goes_on ∙ same;
    }

moments_next : (rule : PasidRule) (c : Config) (ss : List Step) (s : Step) (e : ℕ) → HasMoments rule c ss e → HasMoments rule c (ss ++ s ∷ []) e
moments_next rule c ss s e old =
    record { past = λ k d x m h v a. past k d x (turns.past k d x m h v a); ahead = λ k d x m h v a. ahead k d x (turns.ahead k d x m h v a) }
  where
    turns : Turns (part_after rule c ss e) (part_after rule c (ss ++ s ∷ []) e)
    turns = subst (λ v. Turns (part_after rule c ss e) (v.part e)) (sym (after_one rule c ss s))
        (step_turns (world_after rule c ss) s (always rule c ss) (always_fronts rule c ss) e)

    past : (k d : ℕ) (x : Bool) → (k < (part_after rule c ss e).orders) × ((part_after rule c ss e).order k ≡ Wait d x)
        × ((part_after rule c ss e).order_state k ≡ Void)
        × (((d < (part_after rule c ss e).front) × ((part_after rule c ss e).resets ≤ (part_after rule c (ss ++ s ∷ []) e).resets))
        ⊎ ((part_after rule c ss e).resets < (part_after rule c (ss ++ s ∷ []) e).resets)) → IsVoidByPastReset rule c (ss ++ s ∷ []) e k
    past k d x (m, h, v, inl (low, up)) = past_more rule c ss s e k up (old.past k d x m h v low)
    past k d x (m, h, v, inr more) = record { before = ss; since = s ∷ []; steps_are = refl; submitted = m; void = v; ended = more }

    ahead : (k d : ℕ) (x : Bool) → (k < (part_after rule c ss e).orders) × ((part_after rule c ss e).order k ≡ Wait d x)
        × ((part_after rule c ss e).resets ≡ (part_after rule c (ss ++ s ∷ []) e).resets)
        × (((part_after rule c ss e).order_state k ≡ Queued)
        ⊎ (((part_after rule c ss e).order_state k ≡ Void) × ((part_after rule c ss e).front ≤ d))) → WasQueued rule c (ss ++ s ∷ []) e k
    ahead k d x (m, h, same, inl q) = record { before = ss; since = s ∷ []; steps_are = refl; submitted = m; queued = q; goes_on = same }
    ahead k d x (m, h, same, inr (v, low)) = queued_more rule c ss s e k same (old.ahead k d x m h v low)

moments_along : (rule : PasidRule) (c : Config) (rest before : List Step) (e : ℕ) → HasMoments rule c before e → HasMoments rule c (before ++ rest) e
moments_along rule c [] before e old = subst (λ z. HasMoments rule c z e) (sym (append-nil before)) old
moments_along rule c (s ∷ rest) before e old =
    subst (λ z. HasMoments rule c z e) (append_assoc before (s ∷ []) rest)
    (moments_along rule c rest (before ++ s ∷ []) e (moments_next rule c before s e old))

moments : (rule : PasidRule) (c : Config) (steps : List Step) (e : ℕ) → HasMoments rule c steps e
moments rule c steps e =
    moments_along rule c steps [] e (record {
      past = λ k d x m h v a. absurd (omega (arith, m));
      ahead = λ k d x m h v a. absurd (omega (arith, m));
    })

-- From an earlier moment.

pub part_later : (P : Endpoint → Type 0) → IsKeptByParts P → (rule : PasidRule) (c : Config) (before since : List Step) (e : ℕ)
    → P (part_after rule c before e) → P (part_after rule c (before ++ since) e)
part_later P k rule c before since e h =
    subst (λ v. P (v.part e)) (sym (run_append before since (opened rule c)))
    (run_part P k since (world_after rule c before) (always rule c before) (always_fronts rule c before) e h)

-- an order stays what it was submitted as
abbrev IsOrder : (k : ℕ) → Order → Endpoint → Type 0
IsOrder k o p = (k < p.orders) × (p.order k ≡ o)

order_parts : (k : ℕ) (o : Order) → IsKeptByParts (IsOrder k o)
order_parts k o =
    record {
      kept = λ w e a l i f h.
          let m = more_orders (w.part e) w.messages a in
          let z = h.0 in
          (omega (arith, m, z), own_old (w.part e) w.messages a k h.0 ∙ h.1);
      more = λ p b q count order cookie h. let z = h.0 in (omega (arith, z), old_order p b q count order cookie k h.0 ∙ h.1);
    }

pub same_order : (rule : PasidRule) (c : Config) (before since : List Step) (e k : ℕ) → k < (part_after rule c before e).orders
    → (k < (part_after rule c (before ++ since) e).orders)
    × ((part_after rule c (before ++ since) e).order k ≡ (part_after rule c before e).order k)
same_order rule c before since e k made =
    part_later (IsOrder k ((part_after rule c before e).order k)) (order_parts k ((part_after rule c before e).order k)) rule c before since e (made, refl)

over_later : (rule : PasidRule) (c : Config) (before since : List Step) (e k d : ℕ) (x : Bool) → k < (part_after rule c before e).orders
    → (part_after rule c (before ++ since) e).order k ≡ Wait d x
    → (part_after rule c before e).resets < (part_after rule c (before ++ since) e).resets → d < (part_after rule c (before ++ since) e).front
over_later rule c before since e k d x made h more =
    let same = same_order rule c before since e k made in
    let over = part_later (IsOver k d x (part_after rule c before e).resets) (over_parts k d x (part_after rule c before e).resets) rule c before since e
    (record { made = made; cookie = sym same.1 ∙ h; counted = omega arith; over = λ l. absurd (omega (arith, l)) }) in
    over.over more

here_later : (rule : PasidRule) (c : Config) (before since : List Step) (e k d : ℕ) (x : Bool) → k < (part_after rule c before e).orders
    → (part_after rule c (before ++ since) e).order k ≡ Wait d x → (part_after rule c before e).order_state k ≡ Queued
    → (part_after rule c before e).resets ≡ (part_after rule c (before ++ since) e).resets → (part_after rule c (before ++ since) e).order_state k ≡ Void
    → (part_after rule c (before ++ since) e).front ≤ d
here_later rule c before since e k d x made h q same v =
    let old = sym (same_order rule c before since e k made).1 ∙ h in
    let here = part_later (IsHere k d x (part_after rule c before e).resets) (here_parts k d x (part_after rule c before e).resets) rule c before since e
    (record { behind = queued_behind (part_after rule c before e) k d x made old q; cookie = old }) in
    here.behind.void same v d x h

past_below : (rule : PasidRule) (c : Config) (steps : List Step) (e k d : ℕ) (x : Bool) → (part_after rule c steps e).order k ≡ Wait d x
    → IsVoidByPastReset rule c steps e k → d < (part_after rule c steps e).front
past_below rule c steps e k d x h y =
    go steps y.steps_are h y.ended
  where
    go : (ss : List Step) → ss ≡ y.before ++ y.since → (part_after rule c ss e).order k ≡ Wait d x
        → (part_after rule c y.before e).resets < (part_after rule c ss e).resets → d < (part_after rule c ss e).front
    go ss same i more =
        subst (λ z. d < (part_after rule c z e).front) (sym same)
        (over_later rule c y.before y.since e k d x y.submitted (subst (λ z. (part_after rule c z e).order k ≡ Wait d x) same i)
        (subst (λ z. (part_after rule c y.before e).resets < (part_after rule c z e).resets) same more))

present_ahead : (rule : PasidRule) (c : Config) (steps : List Step) (e k d : ℕ) (x : Bool) → (part_after rule c steps e).order k ≡ Wait d x
    → IsVoidByPresentReset rule c steps e k → (part_after rule c steps e).front ≤ d
present_ahead rule c steps e k d x h y =
    go steps y.steps_are h y.goes_on y.void
  where
    go : (ss : List Step) → ss ≡ y.before ++ y.since → (part_after rule c ss e).order k ≡ Wait d x
        → (part_after rule c y.before e).resets ≡ (part_after rule c ss e).resets → (part_after rule c ss e).order_state k ≡ Void
        → (part_after rule c ss e).front ≤ d
    go ss same i goes v =
        subst (λ z. (part_after rule c z e).front ≤ d) (sym same)
        (here_later rule c y.before y.since e k d x y.submitted (subst (λ z. (part_after rule c z e).order k ≡ Wait d x) same i) y.queued
        (subst (λ z. (part_after rule c y.before e).resets ≡ (part_after rule c z e).resets) same goes)
        (subst (λ z. (part_after rule c z e).order_state k ≡ Void) same v))

-- The law.

is_past : (rule : PasidRule) (c : Config) (steps : List Step) (e k d : ℕ) (x : Bool) → k < (part_after rule c steps e).orders
    → (part_after rule c steps e).order k ≡ Wait d x → d < (part_after rule c steps e).front → IsPast rule c steps e k
is_past rule c steps e k d x made h low = go ((always_fronts rule c steps e).passed k d x made h low)
  where
    go : ((part_after rule c steps e).order_state k ≡ Done) ⊎ ((part_after rule c steps e).order_state k ≡ Void) → IsPast rule c steps e k
    go (inl done) = inl done
    go (inr v) = inr ((moments rule c steps e).past k d x made h v low)

past_low : (rule : PasidRule) (c : Config) (steps : List Step) (e k d : ℕ) (x : Bool) → k < (part_after rule c steps e).orders
    → (part_after rule c steps e).order k ≡ Wait d x → IsPast rule c steps e k → d < (part_after rule c steps e).front
past_low rule c steps e k d x made h (inl done) =
    done_below (world_after rule c steps).cookies (part_after rule c steps e) (always_fronts rule c steps e) k d x made h done
past_low rule c steps e k d x made h (inr y) = past_below rule c steps e k d x h y

pub is_ahead : (rule : PasidRule) (c : Config) (steps : List Step) (e k d : ℕ) (x : Bool) → k < (part_after rule c steps e).orders
    → (part_after rule c steps e).order k ≡ Wait d x → (part_after rule c steps e).front ≤ d → IsAhead rule c steps e k
is_ahead rule c steps e k d x made h high = go ((always_fronts rule c steps e).at_front k d x made h high)
  where
    present : (part_after rule c steps e).order_state k ≡ Void → (part_after rule c steps e).phase ≢ Open → WasQueued rule c steps e k
        → IsVoidByPresentReset rule c steps e k
    present v closed y =
        record {
          void = v;
          in_reset = closed;
          before = y.before;
          since = y.since;
          steps_are = y.steps_are;
          submitted = y.submitted;
          queued = y.queued;
          goes_on = y.goes_on;
        }

    go : ((part_after rule c steps e).order_state k ≡ Queued) ⊎ (((part_after rule c steps e).order_state k ≡ Void)
        × ((part_after rule c steps e).phase ≢ Open)) → IsAhead rule c steps e k
    go (inl q) = inl q
    go (inr (v, closed)) = inr (present v closed ((moments rule c steps e).ahead k d x made h v high))

ahead_high : (rule : PasidRule) (c : Config) (steps : List Step) (e k d : ℕ) (x : Bool) → k < (part_after rule c steps e).orders
    → (part_after rule c steps e).order k ≡ Wait d x → IsAhead rule c steps e k → (part_after rule c steps e).front ≤ d
ahead_high rule c steps e k d x made h (inl q) =
    queued_front (world_after rule c steps).cookies (part_after rule c steps e) (always_fronts rule c steps e) k d x made h q
ahead_high rule c steps e k d x made h (inr y) = present_ahead rule c steps e k d x h y

pub always_front_of : (rule : PasidRule) (config : Config) (steps : List Step) (e : ℕ) → IsFrontOf rule config steps e
always_front_of rule config steps e =
    record {
      past = λ k d x made h. ((λ low. is_past rule config steps e k d x made h low), (λ y. past_low rule config steps e k d x made h y));
      ahead = λ k d x made h. ((λ high. is_ahead rule config steps e k d x made h high), (λ y. ahead_high rule config steps e k d x made h y));
      greatest = go (part_later IsEndOfWait end_parts rule config [] steps e (inl refl));
    }
  where
    go : IsEndOfWait (part_after rule config steps e)
        → ((part_after rule config steps e).front ≡ 0)
        ⊎ ((k d : ℕ) × (x : Bool) × (k < (part_after rule config steps e).orders) × ((part_after rule config steps e).order k ≡ Wait d x)
        × ((part_after rule config steps e).front ≡ suc d) × IsPast rule config steps e k)
    go (inl z) = inl z
    go (inr (k, d, x, made, h, i)) = inr (k, d, x, made, h, i, is_past rule config steps e k d x made h (omega (arith, i)))
