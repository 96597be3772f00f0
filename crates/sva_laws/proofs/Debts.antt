-- What an endpoint owes for a mapping that was taken out fits the orders of its unit.
use Rattle.std.proofs.Common.{◌≡◌, ◌≢◌, ◌⊎◌, inl, inr, refl, ap, sym, subst, ◌∙◌, ℕ, suc, ◌+◌, ◌*◌, ◌^◌, ◌<◌, ◌≤◌, Bool, true, false, arith}
use Rattle.std.specs.Prelude.{Option, Some, None, List, [], ◌∷◌, ◌&&◌, ◌==◌, not}
use Rattle.std.proofs.lemmas.Bool.Decides.{nat_tests}
use Rattle.sva_step.specs.declared.limits.Config.{Config}
use Rattle.sva_step.specs.declared.steps.Step.{Step}
use Rattle.sva_model.specs.State.{PasidRule, Owed, Mappings, Endpoint, World, Stage, opened}
use Rattle.sva_model.specs.State.Owed.{Nothing, Ranges, Pasid, NextReset}
use Rattle.sva_model.specs.State.MappingState.{Present, Gone}
use Rattle.sva_model.specs.State.Stage.{Unbound, Live, Stopping, Draining, Invalidating, Quiet, Lost, Released}
use Rattle.sva_model.specs.State.Order.{Wait}
use Rattle.sva_model.specs.State.OrderState.{Queued, Done, Void}
use Rattle.sva_model.specs.State.Phase.{Open}
use Rattle.sva_model.specs.States.{is_open, is_busy, is_wait, is_before_invalidating}
use Rattle.sva_model.specs.Words.{put}
use Rattle.sva_model.specs.Unmappings.{owed_by, owed_by_stage, owed_by_unit, submits, submits_at, submitted, submitted_if, bound, cookie_of, in_range}
use Rattle.sva_model.specs.Acts.{Act, LocalAct, act, act_alone}
use Rattle.sva_model.specs.Acts.Act.{NewSpace, DropSpace, Map, Unmap, NewBinding, NewJob, Hold, LetGo, AtEndpoint}
use Rattle.sva_model.specs.Steps.{decide, next, run, after_acts, world_after}
use Rattle.sva_laws.specs.Waits.{IsBehind, FitsDebt}
use Rattle.sva_labels.proofs.Words.{ℕ_cases}
use Rattle.sva_laws.proofs.Legal.{LegalLocalAct}
use Rattle.sva_laws.proofs.Bounds.{Bounds}
use Rattle.sva_laws.proofs.Resets.{closed_is}
use Rattle.sva_laws.proofs.Labels.{Labels}
use Rattle.sva_laws.proofs.Submitted.{old_order, old_state}
use Rattle.sva_laws.proofs.Orders.{Orders, SentOnly, is_queued_or_done}
use Rattle.sva_laws.proofs.Invariant.{Invariant}
use Rattle.sva_laws.proofs.Keeps.{Legal, act_keeps, put_keeps}
use Rattle.sva_laws.proofs.Passed.{LegalAll}
use Rattle.sva_laws.proofs.Lookback.{gone_from}
use Rattle.sva_laws.proofs.Fronts.{Fronts, AllFronts, act_fronts, acts_fronts, opened_fronts}
use Rattle.sva_laws.proofs.Runs.{step_legal, next_keeps, opened_invariant}

-- An act of the endpoint keeps a debt.

made_kept : (p : Endpoint) (n : ℕ) (o : LocalAct) (x : ℕ) → x < p.orders → x < (act_alone p n o).orders
made_kept p n o x h = grind (arith, nat_tests)

wait_kept : (p : Endpoint) (n : ℕ) (o : LocalAct) (x : ℕ) (b : Bool) → x < p.orders → is_wait (p.order x) ≡ b → is_wait ((act_alone p n o).order x) ≡ b
wait_kept p n o x b made w = grind (arith, nat_tests)

pub counted_kept : (p : Endpoint) (n : ℕ) (o : LocalAct) (resets : ℕ) → resets ≤ p.resets → resets ≤ (act_alone p n o).resets
counted_kept p n o resets h = grind (arith, nat_tests)

not_void_kept : (ms : Mappings) (g n : ℕ) (p : Endpoint) (o : LocalAct) → LegalLocalAct ms g p o → Bounds g p → SentOnly p → (resets k : ℕ)
    → resets ≤ p.resets → k
    < p.orders → (resets ≡ p.resets → p.phase ≡ Open → p.order_state k ≢ Void) → resets ≡ (act_alone p n o).resets → (act_alone p n o).phase ≡ Open
    → (act_alone p n o).order_state k ≢ Void
not_void_kept ms g n p o l bo sent resets k low made old same ph = grind (arith, nat_tests, old)

-- a wait becomes done at an open unit, where nothing ahead of it is undone
done_kept : (ms : Mappings) (g n : ℕ) (p : Endpoint) (o : LocalAct) → LegalLocalAct ms g p o → SentOnly p → (resets x k : ℕ) → resets ≤ p.resets → k ≤ x → x
    < p.orders → is_wait (p.order x) ≡ true → (is_busy (p.order_state x) ≡ true → is_wait (p.order x) ≡ false)
    → (resets ≡ p.resets → p.phase ≡ Open → p.order_state k ≢ Void) → (resets ≡ p.resets → p.order_state x ≡ Done → p.order_state k ≡ Done) → resets
    ≡ (act_alone p n o).resets → (act_alone p n o).order_state x ≡ Done → (act_alone p n o).order_state k ≡ Done
done_kept ms g n p o l sent resets x k low le made w nw not_void old same d = grind (arith, nat_tests, not_void, old)

-- a wait becomes void by a Reset, where it was queued and so wasn't below the front; then it stays as it is till the reset-done
void_kept : (ms : Mappings) (g n : ℕ) (p : Endpoint) (o : LocalAct) → LegalLocalAct ms g p o → SentOnly p → (resets x c : ℕ) (y : Bool) → resets ≤ p.resets → x
    < p.orders → (resets ≡ p.resets → p.phase ≡ Open → p.order_state x ≢ Void)
    → (p.order x ≡ Wait c y → c < p.front → (p.order_state x ≡ Done) ⊎ (p.order_state x ≡ Void))
    → (resets ≡ p.resets → p.order_state x ≡ Void → p.order x ≡ Wait c y → p.front ≤ c) → resets ≡ (act_alone p n o).resets → (act_alone p n o).order_state x
    ≡ Void → (act_alone p n o).order x ≡ Wait c y → (act_alone p n o).front ≤ c
void_kept ms g n p o l sent resets x c y low made not_void passed old same v h = grind (arith, nat_tests, not_void, old)

pub behind_kept : (ms : Mappings) (g n cookies : ℕ) (p : Endpoint) (o : LocalAct) → LegalLocalAct ms g p o → Bounds g p → Labels p → Orders p → Fronts cookies p
    → (first x resets : ℕ) → IsBehind p first x resets → IsBehind (act_alone p n o) first x resets
behind_kept ms g n cookies p o l bo la or f first x resets h =
    record {
      low = h.low;
      made = made_kept p n o x h.made;
      is_a_wait = wait_kept p n o x true h.made h.is_a_wait;
      ahead = λ k a b. wait_kept p n o k false (let m = h.made in omega (arith, b, m)) (h.ahead k a b);
      counted = counted_kept p n o resets h.counted;
      not_void = λ same ph k a b. not_void_kept ms g n p o l bo la.sent resets k h.counted (let m = h.made in omega (arith, b, m))
          (λ s q. h.not_void s q k a b) same ph;
      done = λ same d k a b. done_kept ms g n p o l la.sent resets x k h.counted b h.made h.is_a_wait (or.no_wait x) (λ s q. h.not_void s q k a b)
          (λ s e. h.done s e k a b) same d;
      void = λ same v c y i. void_kept ms g n p o l la.sent resets x c y h.counted h.made (λ s q. h.not_void s q x h.low (omega arith))
          (f.passed x c y h.made) (λ s e j. h.void s e c y j) same v i;
    }

closed_kept : (ms : Mappings) (g n : ℕ) (p : Endpoint) (o : LocalAct) → LegalLocalAct ms g p o → (resets : ℕ) → resets ≤ p.resets
    → (resets ≡ p.resets → p.phase ≢ Open) → resets ≡ (act_alone p n o).resets → (act_alone p n o).phase ≢ Open
closed_kept ms g n p o l resets low old same ph = grind (arith, nat_tests)

own_debt : (ms : Mappings) (g n cookies : ℕ) (p : Endpoint) (o : LocalAct) → LegalLocalAct ms g p o → Bounds g p → Labels p → Orders p → Fronts cookies p
    → (v : Owed) → FitsDebt p v → FitsDebt (act_alone p n o) v
own_debt ms g n cookies p o l bo la or f Nothing h = tt
own_debt ms g n cookies p o l bo la or f (Ranges first count resets) h = (h.0, behind_kept ms g n cookies p o l bo la or f first (first + count) resets h.1)
own_debt ms g n cookies p o l bo la or f (Pasid k x resets in_reset) h =
    (h.0, behind_kept ms g n cookies p o l bo la or f k x resets h.1, λ t same. closed_kept ms g n p o l resets h.1.counted (h.2 t) same)
own_debt ms g n cookies p o l bo la or f (NextReset resets) h = (counted_kept p n o resets h.0, closed_kept ms g n p o l resets h.0 h.1)

-- So does what an unmapping submits.

pub behind_submitted : (p : Endpoint) (b q count order cookie first x resets : ℕ) → IsBehind p first x resets
    → IsBehind (submitted p b q count order cookie) first x resets
behind_submitted p b q count order cookie first x resets h =
    record {
      low = h.low;
      made = let m = h.made in omega (arith, m);
      is_a_wait = old_wait x true h.made h.is_a_wait;
      ahead = λ k a z. old_wait k false (let m = h.made in omega (arith, z, m)) (h.ahead k a z);
      counted = h.counted;
      not_void = λ same ph k a z v. h.not_void same ph k a z (sym (old_state p b q count order cookie k (let m = h.made in omega (arith, z, m))) ∙ v);
      done = λ same d k a z.
          old_state p b q count order cookie k (let m = h.made in omega (arith, z, m))
          ∙ h.done same (sym (old_state p b q count order cookie x h.made) ∙ d) k a z;
      void = λ same v c y i. h.void same (sym (old_state p b q count order cookie x h.made) ∙ v) c y (sym (old_order p b q count order cookie x h.made) ∙ i);
    }
  where
    old_wait : (k : ℕ) (t : Bool) → k < p.orders → is_wait (p.order k) ≡ t → is_wait ((submitted p b q count order cookie).order k) ≡ t
    old_wait k t made w = ap is_wait (old_order p b q count order cookie k made) ∙ w

submitted_debt : (t : Bool) (p : Endpoint) (o : Option ℕ) (q count order cookie : ℕ) (v : Owed) → FitsDebt p v
    → FitsDebt (submitted_if t p o q count order cookie) v
submitted_debt true p (Some b) q count order cookie Nothing h = tt
submitted_debt true p (Some b) q count order cookie (Ranges first n resets) h = (h.0, behind_submitted p b q count order cookie first (first + n) resets h.1)
submitted_debt true p (Some b) q count order cookie (Pasid k x resets in_reset) h = (h.0, behind_submitted p b q count order cookie k x resets h.1, h.2)
submitted_debt true p (Some b) q count order cookie (NextReset resets) h = h
submitted_debt true p None q count order cookie v h = h
submitted_debt false p o q count order cookie v h = h

-- The debts that an unmapping makes.

new_ranges : (p : Endpoint) (b q count order cookie : ℕ) → IsBehind (submitted p b q count order cookie) p.orders (p.orders + count) p.resets
new_ranges p b q count order cookie =
    record {
      low = omega arith;
      made = omega arith;
      is_a_wait = is_last;
      ahead = λ k a z. is_range k a z;
      counted = omega arith;
      not_void = λ same ph k a z v. absurd (cc (sym (is_queued k a z) ∙ v));
      done = λ same d k a z. absurd (cc (sym (is_queued (p.orders + count) (omega arith) (omega arith)) ∙ d));
      void = λ same v c y i. absurd (cc (sym (is_queued (p.orders + count) (omega arith) (omega arith)) ∙ v));
    }
  where
    is_last : is_wait ((submitted p b q count order cookie).order (p.orders + count)) ≡ true
    is_last = grind (arith, nat_tests)

    is_range : (k : ℕ) → p.orders ≤ k → k < p.orders + count → is_wait ((submitted p b q count order cookie).order k) ≡ false
    is_range k low high = grind (arith, nat_tests)

    is_queued : (k : ℕ) → p.orders ≤ k → k ≤ p.orders + count → (submitted p b q count order cookie).order_state k ≡ Queued
    is_queued k low high = grind (arith, nat_tests)

new_pasid : (cookies : ℕ) (p : Endpoint) (b k w : ℕ) → Orders p → Fronts cookies p → p.stage b ≡ Invalidating k w → IsBehind p k w p.resets
new_pasid cookies p b k w or f h =
    let i = or.invalidating b k w h in
    record {
      low = omega (arith, i.0);
      made = i.3;
      is_a_wait = i.2;
      ahead = λ j a z. let same : j ≡ k = omega (arith, i.0, a, z) in ap is_wait (ap p.order same ∙ i.1);
      counted = omega arith;
      not_void = λ same ph j a z. none_void i.0 j a z (or.invalidation_state b k w h ph) (or.invalidating_state b k w h ph);
      done = λ same d j a z. both_done i.0 j a z (or.invalidation_done b k w h d) d;
      void = λ same v c y e. f.invalidating b k w c y h e v;
    }
  where
    none_void : w ≡ suc k → (j : ℕ) → k ≤ j → j ≤ w → p.order_state k ≢ Void → is_queued_or_done (p.order_state w) ≡ true → p.order_state j ≢ Void
    none_void e j a z nv qd v = go (ℕ_cases j k)
      where
        go : (j ≡ k) ⊎ (j ≢ k) → ⊥
        go (inl s) = nv (sym (ap p.order_state s) ∙ v)
        go (inr ne) =
            let s : j ≡ w = omega (arith, e, a, z, ne) in
            absurd (cc (sym (ap is_queued_or_done (sym (ap p.order_state s) ∙ v)) ∙ qd))

    both_done : w ≡ suc k → (j : ℕ) → k ≤ j → j ≤ w → p.order_state k ≡ Done → p.order_state w ≡ Done → p.order_state j ≡ Done
    both_done e j a z dk dw = go (ℕ_cases j k)
      where
        go : (j ≡ k) ⊎ (j ≢ k) → p.order_state j ≡ Done
        go (inl s) = ap p.order_state s ∙ dk
        go (inr ne) = let s : j ≡ w = omega (arith, e, a, z, ne) in ap p.order_state s ∙ dw

unit_debt : (p : Endpoint) (b q count order cookie : ℕ) → 0 < count → (o : Bool) → is_open p.phase ≡ o
    → FitsDebt (submitted_if (o && true) p (Some b) q count order cookie) (owed_by_unit p count o)
unit_debt p b q count order cookie pos true h = (pos, new_ranges p b q count order cookie)
unit_debt p b q count order cookie pos false h = (omega arith, λ same. closed_is p h)

stage_debt : (cookies : ℕ) (p : Endpoint) (b q count order cookie : ℕ) → 0 < count → Orders p → Fronts cookies p → (s : Stage) → p.stage b ≡ s
    → FitsDebt (submitted_if (is_open p.phase && is_before_invalidating s) p (Some b) q count order cookie) (owed_by_stage p count s)
stage_debt cookies p b q count order cookie pos or f Live st = unit_debt p b q count order cookie pos (is_open p.phase) refl
stage_debt cookies p b q count order cookie pos or f (Stopping marked) st = unit_debt p b q count order cookie pos (is_open p.phase) refl
stage_debt cookies p b q count order cookie pos or f (Draining wait) st = unit_debt p b q count order cookie pos (is_open p.phase) refl
stage_debt cookies p b q count order cookie pos or f (Invalidating k w) st = go (is_open p.phase) refl
  where
    never_open : not (is_open p.phase) ≡ true → p.phase ≢ Open
    never_open h e = absurd (cc (sym (ap (λ z. not (is_open z)) e) ∙ h))

    go : (x : Bool) → is_open p.phase ≡ x → FitsDebt (submitted_if (x && false) p (Some b) q count order cookie) (Pasid k w p.resets (not (is_open p.phase)))
    go true h = ((or.invalidating b k w st).0, new_pasid cookies p b k w or f st, λ t same. never_open t)
    go false h = ((or.invalidating b k w st).0, new_pasid cookies p b k w or f st, λ t same. never_open t)
stage_debt cookies p b q count order cookie pos or f Unbound st = tt
stage_debt cookies p b q count order cookie pos or f Quiet st = tt
stage_debt cookies p b q count order cookie pos or f Lost st = tt
stage_debt cookies p b q count order cookie pos or f Released st = tt

new_debt : (cookies : ℕ) (p : Endpoint) (o : Option ℕ) (q count order cookie : ℕ) → 0 < count → Orders p → Fronts cookies p
    → FitsDebt (submitted_if (submits_at p o) p o q count order cookie) (owed_by p count o)
new_debt cookies p None q count order cookie pos or f = tt
new_debt cookies p (Some b) q count order cookie pos or f = stage_debt cookies p b q count order cookie pos or f (p.stage b) refl

-- Of every mapping that is gone, and every endpoint.

abbrev pub AllDebts : World → Type 0
AllDebts w = (m e : ℕ) (owed : ℕ → Owed) → w.mappings.state m ≡ Gone owed → FitsDebt (w.part e) (owed e)

old_gone : (w : World) (s q f : ℕ) (x : Bool) (m : ℕ) (owed : ℕ → Owed) → put w.mappings.state w.mappings.made Present m ≡ Gone owed
    → w.mappings.state m ≡ Gone owed
old_gone w s q f x m owed h = grind (arith, nat_tests)

pub act_debts : (w : World) (a : Act) → Legal w a → Invariant w → AllFronts w → AllDebts w → AllDebts (act w a)
act_debts w NewSpace l i f h = h
act_debts w (DropSpace s) l i f h = λ m e owed g. go m e owed (gone_from (w.mappings.space m == s && true) (λ x. Nothing) (w.mappings.state m) owed g)
  where
    go : (m e : ℕ) (owed : ℕ → Owed) → (w.mappings.state m ≡ Gone owed)
        ⊎ ((w.mappings.state m ≡ Present) × ((w.mappings.space m == s && true) ≡ true) × ((λ x. Nothing) ≡ owed)) → FitsDebt (w.part e) (owed e)
    go m e owed (inl g) = h m e owed g
    go m e owed (inr g) = subst (λ v. FitsDebt (w.part e) (v e)) g.2 tt
act_debts w (Map s q f x) l i fs h = λ m e owed g. h m e owed (old_gone w s q f x m owed g)
act_debts w (Unmap s q count order) l i fs h =
    λ m e owed g. go m e owed
    (gone_from (w.mappings.space m == s && in_range q (count * 2 ^ order) (w.mappings.page m)) (λ x. owed_by (w.part x) count (bound w x s))
    (w.mappings.state m) owed g)
  where
    go :
        (m e : ℕ) (owed : ℕ → Owed)
        → (w.mappings.state m ≡ Gone owed)
        ⊎ ((w.mappings.state m ≡ Present) × ((w.mappings.space m == s && in_range q (count * 2 ^ order) (w.mappings.page m)) ≡ true)
        × ((λ x. owed_by (w.part x) count (bound w x s)) ≡ owed))
        → FitsDebt ((act w (Unmap s q count order)).part e) (owed e)
    go m e owed (inl g) = submitted_debt (submits w s e) (w.part e) (bound w e s) q count order (cookie_of w s e) (owed e) (h m e owed g)
    go m e owed (inr g) =
        subst (λ v. FitsDebt ((act w (Unmap s q count order)).part e) (v e)) g.2
        (new_debt w.cookies (w.part e) (bound w e s) q count order (cookie_of w s e) l (i.parts e).orders (fs e))
act_debts w (NewBinding d) l i f h = h
act_debts w (NewJob d g) l i f h = h
act_debts w (Hold x j) l i f h = h
act_debts w (LetGo x) l i f h = h
act_debts w (AtEndpoint d o) l i f h = λ m e owed g.
    put_keeps (λ x p. FitsDebt p (owed x)) w.part d (act_alone (w.part d) w.messages o)
    (own_debt w.mappings w.bindings w.messages w.cookies (w.part d) o l.1.0 (i.parts d).bounds (i.parts d).labels (i.parts d).orders (f d) (owed d)
    (h m d owed g))
    (λ x. h m x owed g) e

acts_debts : (acts : List Act) (w : World) → LegalAll w acts → Invariant w → AllFronts w → AllDebts w → AllDebts (after_acts w acts)
acts_debts [] w l i f h = h
acts_debts (a ∷ acts) w l i f h = acts_debts acts (act w a) l.1 (act_keeps w a l.0 i) (act_fronts w a l.0 i f) (act_debts w a l.0 i f h)

run_debts : (ss : List Step) (w : World) → Invariant w → AllFronts w → AllDebts w → AllDebts (run w ss)
run_debts [] w i f h = h
run_debts (s ∷ ss) w i f h =
    run_debts ss (next w s) (next_keeps w s i) (acts_fronts (decide w s).acts w (step_legal w s i) i f)
    (acts_debts (decide w s).acts w (step_legal w s i) i f h)

pub always_debts : (rule : PasidRule) (c : Config) (ss : List Step) → AllDebts (world_after rule c ss)
always_debts rule c ss = run_debts ss (opened rule c) (opened_invariant rule c) (opened_fronts rule c) (λ m e owed g. absurd (cc (g)))
