-- The orders of a unit: what is ahead of a wait that is done is done or void, and an order that isn't done or void is of
-- a binding that isn't quiet yet.
use Rattle.std.proofs.Common.{◌≡◌, ◌≢◌, ◌⊎◌, inl, inr, refl, ℕ, suc, ◌<◌, Bool, true, false, arith}
use Rattle.std.specs.Prelude.{Some}
use Rattle.std.proofs.lemmas.Bool.Decides.{nat_tests}
use Rattle.sva_model.specs.State.{Mappings, Endpoint, Stage, Order, OrderState}
use Rattle.sva_model.specs.State.Stage.{Live, Stopping, Draining, Invalidating}
use Rattle.sva_model.specs.State.Order.{RangeOf, PasidOf, Wait}
use Rattle.sva_model.specs.State.OrderState.{Queued, Sent, Done, Void}
use Rattle.sva_model.specs.State.Subject.{InvalidateOf, ResetDone}
use Rattle.sva_model.specs.State.Phase.{Open, Cleared}
use Rattle.sva_model.specs.States.{is_busy, is_wait, drains, is_unreleased, is_taken, is_queued}
use Rattle.sva_model.specs.StateChanges.{binding_of}
use Rattle.sva_model.specs.Acts.{act_alone, LocalAct}
use Rattle.sva_laws.proofs.Legal.{LegalLocalAct}
use Rattle.sva_laws.proofs.Resets.{Resets}
use Rattle.sva_laws.proofs.Bounds.{Bounds}
use Rattle.sva_laws.proofs.Labels.{Labels}

-- Live, Stopping, Draining or Invalidating
abbrev pub is_active : Stage → Bool
is_active Live = true
is_active (Stopping m) = true
is_active (Draining w) = true
is_active (Invalidating k w) = true
is_active _ = false

abbrev pub is_undone : OrderState → Bool
is_undone Done = false
is_undone Void = false
is_undone _ = true

abbrev pub is_queued_or_done : OrderState → Bool
is_queued_or_done Queued = true
is_queued_or_done Done = true
is_queued_or_done _ = false

-- What one state says of an order or a binding.
pub active_unreleased : (s : Stage) → is_active s ≡ true → is_unreleased s ≡ true
active_unreleased s h = grind arith

pub taken_busy : (s : OrderState) → is_taken s ≡ true → is_busy s ≡ true
taken_busy s h = grind arith

pub queued_not : (s : OrderState) → is_queued s ≡ false → s ≢ Queued
queued_not s h e = absurd (cc)

pub not_queued : (s : OrderState) → s ≢ Queued → is_queued s ≡ false
not_queued s h = grind arith

pub record Orders (p : Endpoint) : Type 0 where
  pub no_wait : (k : ℕ) → is_busy (p.order_state k) ≡ true → is_wait (p.order k) ≡ false
  pub ahead : (w k : ℕ) → p.order_state w ≡ Done → is_wait (p.order w) ≡ true → k < w → is_undone (p.order_state k) ≡ false
  pub draining : (b w : ℕ) → p.stage b ≡ Draining w → (drains (p.order w) ≡ true) × (w < p.orders)
  pub draining_state : (b w : ℕ) → p.stage b ≡ Draining w → p.phase ≡ Open → is_queued_or_done (p.order_state w) ≡ true
  pub invalidating : (b k w : ℕ) → p.stage b ≡ Invalidating k w → (w ≡ suc k) × (p.order k ≡ PasidOf b) × (is_wait (p.order w) ≡ true) × (w < p.orders)
  pub invalidating_state : (b k w : ℕ) → p.stage b ≡ Invalidating k w → p.phase ≡ Open → is_queued_or_done (p.order_state w) ≡ true
  pub invalidation_state : (b k w : ℕ) → p.stage b ≡ Invalidating k w → p.phase ≡ Open → p.order_state k ≢ Void
  pub invalidation_done : (b k w : ℕ) → p.stage b ≡ Invalidating k w → p.order_state w ≡ Done → p.order_state k ≡ Done
  pub void : (k : ℕ) → k < p.orders → p.order_state k ≡ Void → p.phase ≡ Open → 0 < p.resets
  pub undone_before : (b k w x : ℕ) → p.stage b ≡ Invalidating k w → is_undone (p.order_state x) ≡ true → is_wait (p.order x) ≡ false
      → binding_of (p.order x) ≡ b → x < w
  pub undone_stage : (k : ℕ) → is_undone (p.order_state k) ≡ true → is_wait (p.order k) ≡ false → is_active (p.stage (binding_of (p.order k))) ≡ true

-- an invalidate in flight is of an order that was sent
abbrev pub SentOnly : Endpoint → Type 0
SentOnly p = (c k : ℕ) → p.message c ≡ Some (InvalidateOf k) → p.order_state k ≡ Sent

-- what is done or void stays so
stays_done : (ms : Mappings) (g n : ℕ) (p : Endpoint) (o : LocalAct) → LegalLocalAct ms g p o → SentOnly p → (k : ℕ) → k < p.orders
    → is_undone (p.order_state k)
    ≡ false → is_undone ((act_alone p n o).order_state k) ≡ false
stays_done ms g n p o l sent k b h = grind (arith, nat_tests)

-- a wait is done since before, or since now, and then nothing ahead of it is undone
was_done : (ms : Mappings) (g n : ℕ) (p : Endpoint) (o : LocalAct) → LegalLocalAct ms g p o → (w k : ℕ) → k < w
    → (is_busy (p.order_state w) ≡ true → is_wait (p.order w) ≡ false) → (w < p.orders ⊎ (p.order_state w ≡ Void)) → (act_alone p n o).order_state w ≡ Done
    → is_wait ((act_alone p n o).order w) ≡ true → ((p.order_state w ≡ Done) × (is_wait (p.order w) ≡ true)) ⊎ (is_undone (p.order_state k) ≡ false)
was_done ms g n p o l w k b nw made h i = grind (arith, nat_tests)

made_or_void : (p : Endpoint) (g w : ℕ) → Bounds g p → (w < p.orders) ⊎ (p.order_state w ≡ Void)
made_or_void p g w bo = grind (arith, nat_tests, bo.order_state w)

done_made : (ms : Mappings) (g n : ℕ) (p : Endpoint) (o : LocalAct) → LegalLocalAct ms g p o → SentOnly p → (w : ℕ) → (w < p.orders) ⊎ (p.order_state w ≡ Void)
    → (act_alone p n o).order_state w ≡ Done → w < p.orders
done_made ms g n p o l sent w made h = grind (arith, nat_tests)

ahead_kept : (ms : Mappings) (g n : ℕ) (p : Endpoint) (o : LocalAct) → LegalLocalAct ms g p o → Bounds g p → SentOnly p → Orders p → (w k : ℕ)
    → (act_alone p n o).order_state w ≡ Done → is_wait ((act_alone p n o).order w) ≡ true → k < w → is_undone ((act_alone p n o).order_state k) ≡ false
ahead_kept ms g n p o l bo sent or w k h i b =
    let made : w < p.orders = done_made ms g n p o l sent w (made_or_void p g w bo) h in
    let old : is_undone (p.order_state k) ≡ false =
    elim (was_done ms g n p o l w k b (or.no_wait w) (made_or_void p g w bo) h i) [ inl x ↦ or.ahead w k x.0 x.1 b | inr x ↦ x ]
    in
    stays_done ms g n p o l sent k (omega arith) old

no_wait_kept : (ms : Mappings) (g n : ℕ) (p : Endpoint) (o : LocalAct) → LegalLocalAct ms g p o → SentOnly p → (k : ℕ) → (k < p.orders)
    ⊎ (p.order_state k ≡ Void)
    → (is_busy (p.order_state k) ≡ true → is_wait (p.order k) ≡ false) → is_busy ((act_alone p n o).order_state k) ≡ true
    → is_wait ((act_alone p n o).order k) ≡ false
no_wait_kept ms g n p o l sent k made old h = grind (arith, nat_tests)

draining_kept : (ms : Mappings) (g n : ℕ) (p : Endpoint) (o : LocalAct) → LegalLocalAct ms g p o → (b w : ℕ)
    → (p.stage b ≡ Draining w → (drains (p.order w) ≡ true) × (w < p.orders)) → (act_alone p n o).stage b ≡ Draining w
    → (drains ((act_alone p n o).order w) ≡ true) × (w < (act_alone p n o).orders)
draining_kept ms g n p o l b w old h = grind (arith, nat_tests)

-- a wait that a binding waits for is queued or done at an open unit
wait_state_kept : (ms : Mappings) (g n : ℕ) (p : Endpoint) (o : LocalAct) → LegalLocalAct ms g p o → SentOnly p
    → ((c : ℕ) → p.message c ≡ Some ResetDone → p.phase ≡ Cleared c) → (w : ℕ) → w < p.orders → is_wait (p.order w) ≡ true
    → (p.phase ≡ Open → is_queued_or_done (p.order_state w) ≡ true) → p.phase ≡ Open → (act_alone p n o).phase ≡ Open
    → is_queued_or_done ((act_alone p n o).order_state w) ≡ true
wait_state_kept ms g n p o l sent up w b wt old q h = grind (arith, nat_tests)

-- a binding that drains or invalidates did so before, at an open unit, or begins to now
begins_to_drain : (ms : Mappings) (g n : ℕ) (p : Endpoint) (o : LocalAct) → LegalLocalAct ms g p o → (b w : ℕ) → (act_alone p n o).stage b ≡ Draining w
    → (act_alone p n o).phase ≡ Open → ((p.stage b ≡ Draining w) × (p.phase ≡ Open)) ⊎ ((w ≡ p.orders) × ((act_alone p n o).order_state w ≡ Queued))
begins_to_drain ms g n p o l b w h i = grind (arith, nat_tests)

invalidates : (ms : Mappings) (g n : ℕ) (p : Endpoint) (o : LocalAct) → LegalLocalAct ms g p o → (b k w : ℕ) → (act_alone p n o).stage b ≡ Invalidating k w
    → (act_alone p n o).phase ≡ Open → ((p.stage b ≡ Invalidating k w) × (p.phase ≡ Open)) ⊎ ((act_alone p n o).order_state w ≡ Queued)
invalidates ms g n p o l b k w h i = grind (arith, nat_tests)

drain_is_wait : (o : Order) → drains o ≡ true → is_wait o ≡ true
drain_is_wait (Wait cookie drain) h = refl
drain_is_wait (RangeOf b q) h = absurd (cc)
drain_is_wait (PasidOf b) h = absurd (cc)

queued_is : (s : OrderState) → s ≡ Queued → is_queued_or_done s ≡ true
queued_is s h = grind arith

draining_state_kept : (ms : Mappings) (g n : ℕ) (p : Endpoint) (o : LocalAct) → LegalLocalAct ms g p o → SentOnly p → Resets n p → Orders p → (b w : ℕ)
    → (act_alone p n o).stage b ≡ Draining w → (act_alone p n o).phase ≡ Open → is_queued_or_done ((act_alone p n o).order_state w) ≡ true
draining_state_kept ms g n p o l sent re or b w h i =
    elim (begins_to_drain ms g n p o l b w h i) [
      | inl x ↦ let d = or.draining b w x.0 in wait_state_kept ms g n p o l sent re.up w d.1 (drain_is_wait (p.order w) d.0) (or.draining_state b w x.0) x.1 i
      | inr x ↦ queued_is ((act_alone p n o).order_state w) x.1
    ]

invalidating_kept : (ms : Mappings) (g n : ℕ) (p : Endpoint) (o : LocalAct) → LegalLocalAct ms g p o → (b k w : ℕ)
    → (p.stage b ≡ Invalidating k w → (w ≡ suc k) × (p.order k ≡ PasidOf b) × (is_wait (p.order w) ≡ true) × (w < p.orders)) → (act_alone p n o).stage b
    ≡ Invalidating k w → (w ≡ suc k) × ((act_alone p n o).order k ≡ PasidOf b) × (is_wait ((act_alone p n o).order w) ≡ true) × (w < (act_alone p n o).orders)
invalidating_kept ms g n p o l b k w old h = grind (arith, nat_tests)

invalidating_state_kept : (ms : Mappings) (g n : ℕ) (p : Endpoint) (o : LocalAct) → LegalLocalAct ms g p o → SentOnly p → Resets n p → Orders p → (b k w : ℕ)
    → (act_alone p n o).stage b ≡ Invalidating k w → (act_alone p n o).phase ≡ Open → is_queued_or_done ((act_alone p n o).order_state w) ≡ true
invalidating_state_kept ms g n p o l sent re or b k w h i =
    elim (invalidates ms g n p o l b k w h i) [
      | inl x ↦ let d = or.invalidating b k w x.0 in wait_state_kept ms g n p o l sent re.up w d.3 d.2 (or.invalidating_state b k w x.0) x.1 i
      | inr x ↦ queued_is ((act_alone p n o).order_state w) x
    ]

-- a binding's invalidation isn't void at an open unit, so it is done where the wait behind it is
begins_to_invalidate : (ms : Mappings) (g n : ℕ) (p : Endpoint) (o : LocalAct) → LegalLocalAct ms g p o → (b k w : ℕ)
    → (act_alone p n o).stage b ≡ Invalidating k w
    → (p.stage b ≡ Invalidating k w) ⊎ (((act_alone p n o).order_state k ≡ Queued) × ((act_alone p n o).order_state w ≡ Queued))
begins_to_invalidate ms g n p o l b k w h = grind (arith, nat_tests)

not_void_kept : (ms : Mappings) (g n : ℕ) (p : Endpoint) (o : LocalAct) → LegalLocalAct ms g p o → (b k w : ℕ) → p.stage b ≡ Invalidating k w
    → (p.phase ≡ Open → p.order_state k ≢ Void) → (act_alone p n o).stage b ≡ Invalidating k w → (act_alone p n o).phase ≡ Open
    → (act_alone p n o).order_state k ≢ Void
not_void_kept ms g n p o l b k w st old h i = grind (arith, nat_tests)

queued_apart : (s z : OrderState) → s ≡ Queued → is_undone z ≡ false → s ≢ z
queued_apart s z h u = grind arith

invalidation_state_kept : (ms : Mappings) (g n : ℕ) (p : Endpoint) (o : LocalAct) → LegalLocalAct ms g p o → Orders p → (b k w : ℕ) → (act_alone p n o).stage b
    ≡ Invalidating k w → (act_alone p n o).phase ≡ Open → (act_alone p n o).order_state k ≢ Void
invalidation_state_kept ms g n p o l or b k w h i =
    elim (begins_to_invalidate ms g n p o l b k w h) [
      | inl x ↦ not_void_kept ms g n p o l b k w x (or.invalidation_state b k w x) h i
      | inr x ↦ queued_apart ((act_alone p n o).order_state k) Void x.0 refl
    ]

done_behind : (ms : Mappings) (g n : ℕ) (p : Endpoint) (o : LocalAct) → LegalLocalAct ms g p o → SentOnly p → (k w : ℕ) → k < w → w < p.orders
    → is_wait (p.order w) ≡ true → (is_busy (p.order_state w) ≡ true → is_wait (p.order w) ≡ false) → (p.phase ≡ Open → p.order_state k ≢ Void)
    → (p.order_state w ≡ Done → p.order_state k ≡ Done) → (act_alone p n o).order_state w ≡ Done → (act_alone p n o).order_state k ≡ Done
done_behind ms g n p o l sent k w lt made wt nw not_void old h = grind (arith, nat_tests)

invalidation_done_kept : (ms : Mappings) (g n : ℕ) (p : Endpoint) (o : LocalAct) → LegalLocalAct ms g p o → SentOnly p → Orders p → (b k w : ℕ)
    → (act_alone p n o).stage b ≡ Invalidating k w → (act_alone p n o).order_state w ≡ Done → (act_alone p n o).order_state k ≡ Done
invalidation_done_kept ms g n p o l sent or b k w h i =
    elim (begins_to_invalidate ms g n p o l b k w h) [
      | inl x ↦ let d = or.invalidating b k w x in done_behind ms g n p o l sent k w (omega (arith, d.0)) d.3 d.2 (or.no_wait w)
          (or.invalidation_state b k w x) (or.invalidation_done b k w x) i
      | inr x ↦ absurd (queued_apart ((act_alone p n o).order_state w) Done x.1 refl i)
    ]

-- an order is void only by a reset
void_kept : (ms : Mappings) (g n : ℕ) (p : Endpoint) (o : LocalAct) → LegalLocalAct ms g p o → (k : ℕ)
    → (k < p.orders → p.order_state k ≡ Void → p.phase ≡ Open → 0 < p.resets) → k < (act_alone p n o).orders → (act_alone p n o).order_state k ≡ Void
    → (act_alone p n o).phase ≡ Open → 0 < (act_alone p n o).resets
void_kept ms g n p o l k old lt h i = grind (arith, nat_tests)

undone_before_kept : (ms : Mappings) (g n : ℕ) (p : Endpoint) (o : LocalAct) → LegalLocalAct ms g p o → SentOnly p → (b k w x : ℕ) → (x < p.orders)
    ⊎ (p.order_state x ≡ Void)
    → (p.stage b ≡ Invalidating k w → is_undone (p.order_state x) ≡ true → is_wait (p.order x) ≡ false → binding_of (p.order x) ≡ b → x < w)
    → (act_alone p n o).stage b ≡ Invalidating k w → is_undone ((act_alone p n o).order_state x) ≡ true → is_wait ((act_alone p n o).order x) ≡ false
    → binding_of ((act_alone p n o).order x) ≡ b → x < w
undone_before_kept ms g n p o l sent b k w x made old h i j e = grind (arith, nat_tests)

-- when its wait is done, nothing is undone of a binding that invalidates
pub quiet_now : (p : Endpoint) → Orders p → (b k w x : ℕ) → p.stage b ≡ Invalidating k w → p.order_state w ≡ Done → is_undone (p.order_state x) ≡ true
    → is_wait (p.order x) ≡ false → binding_of (p.order x) ≢ b
quiet_now p or b k w x h d u nw e =
    let i = or.invalidating b k w h in
    let lt = or.undone_before b k w x h u nw e in
    let dn = or.ahead w x d i.2 lt in
    absurd (cc)

undone_stage_kept : (ms : Mappings) (g n : ℕ) (p : Endpoint) (o : LocalAct) → LegalLocalAct ms g p o → SentOnly p → (x : ℕ) → (x < p.orders)
    ⊎ (p.order_state x ≡ Void)
    → ((b k w : ℕ) → p.stage b ≡ Invalidating k w → p.order_state w ≡ Done → is_undone (p.order_state x) ≡ true → is_wait (p.order x) ≡ false
    → binding_of (p.order x) ≢ b)
    → (is_undone (p.order_state x) ≡ true → is_wait (p.order x) ≡ false → is_active (p.stage (binding_of (p.order x))) ≡ true)
    → is_undone ((act_alone p n o).order_state x) ≡ true → is_wait ((act_alone p n o).order x) ≡ false
    → is_active ((act_alone p n o).stage (binding_of ((act_alone p n o).order x))) ≡ true
undone_stage_kept ms g n p o l sent x made quiet old h i = grind (arith, nat_tests)

pub every : (ms : Mappings) (g n : ℕ) (p : Endpoint) (o : LocalAct) → LegalLocalAct ms g p o → Resets n p → Bounds g p → Labels p → Orders p
    → Orders (act_alone p n o)
every ms g n p o l re bo la or =
    record {
      no_wait = λ k h. no_wait_kept ms g n p o l la.sent k (made_or_void p g k bo) (or.no_wait k) h;
      ahead = λ w k h i j. ahead_kept ms g n p o l bo la.sent or w k h i j;
      draining = λ b w h. draining_kept ms g n p o l b w (or.draining b w) h;
      draining_state = λ b w h i. draining_state_kept ms g n p o l la.sent re or b w h i;
      invalidating = λ b k w h. invalidating_kept ms g n p o l b k w (or.invalidating b k w) h;
      invalidating_state = λ b k w h i. invalidating_state_kept ms g n p o l la.sent re or b k w h i;
      invalidation_state = λ b k w h i. invalidation_state_kept ms g n p o l or b k w h i;
      invalidation_done = λ b k w h i. invalidation_done_kept ms g n p o l la.sent or b k w h i;
      void = λ k lt h i. void_kept ms g n p o l k (or.void k) lt h i;
      undone_before = λ b k w x h i j e. undone_before_kept ms g n p o l la.sent b k w x (made_or_void p g x bo) (or.undone_before b k w x) h i j e;
      undone_stage = λ x h i. undone_stage_kept ms g n p o l la.sent x (made_or_void p g x bo) (λ b k w. quiet_now p or b k w x) (or.undone_stage x) h i;
    }
