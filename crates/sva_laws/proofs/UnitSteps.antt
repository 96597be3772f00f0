-- What one step does to the orders of a unit, to the counter of its reset-dones, and to the markers noted.
use Rattle.sva_model.specs.State.{PasidRule}
use Rattle.std.proofs.Common.{◌≡◌, ◌≢◌, ◌⊎◌, inl, inr, refl, ap, sym, subst, ◌∙◌, ℕ, zero, suc, ◌+◌, ◌<◌, ◌≤◌, Bool, true, false, arith}
use Rattle.std.specs.Prelude.{Option, Some, None, List, [], ◌∷◌, ◌++◌, if◌then◌else◌, Ok}
use Rattle.std.proofs.lemmas.Bool.Decides.{nat_tests}
use Rattle.sva_step.specs.declared.answers.Answer.{Answer}
use Rattle.sva_step.specs.declared.answers.Answer.TheVariants as answer
use Rattle.sva_step.specs.declared.limits.Config.{Config}
use Rattle.sva_step.specs.declared.steps.Step.{Step}
use Rattle.sva_step.specs.declared.steps.Step.TheVariants as step
use Rattle.sva_model.specs.Words.{put}
use Rattle.sva_model.specs.State.{Subject, Mappings, Order, OrderState, Endpoint, World}
use Rattle.sva_model.specs.State.Subject.{InvalidateOf, InvalidatedOf, MarkerOf, ResetDone}
use Rattle.sva_model.specs.State.Order.{RangeOf, PasidOf, Wait}
use Rattle.sva_model.specs.State.Phase.{Open}
use Rattle.sva_model.specs.State.Stage.{Stopping}
use Rattle.sva_model.specs.State.OrderState.{Queued, Sent, Taken, Lapsed, Completing, Done, Void}
use Rattle.sva_model.specs.States.{is_open}
use Rattle.sva_model.specs.Unmappings.{submitted, submitted_if, submits, bound, cookie_of}
use Rattle.sva_model.specs.StateChanges.{counted, counted_if, void_queued, void_undone, marked}
use Rattle.sva_model.specs.Acts.{Act, LocalAct, act, act_alone}
use Rattle.sva_model.specs.Acts.Act.{NewSpace, DropSpace, Map, Unmap, NewBinding, NewJob, Hold, LetGo, AtEndpoint}
use Rattle.sva_model.specs.Labels
use Rattle.sva_model.specs.Refusals.{refusals}
use Rattle.sva_model.specs.Outcomes.{outcome, pump_outcome, head_outcome, wait_outcome, send_outcome, may_pass, subject_outcome, deliver_outcome}
use Rattle.sva_model.specs.Outcomes.{count_outcome, marker_outcome}
use Rattle.sva_model.specs.Steps.{reply, decide, next, after_acts, world_after}
use Rattle.sva_laws.specs.UnitSteps.{Delivers, OrdersReset, PassesWait, CompletesOrder, CountsResetDones, ChangesOrders, NotesMarkers}
use Rattle.sva_labels.proofs.Words.{put-same, put-other, ℕ_cases}
use Rattle.sva_laws.proofs.Legal.{LegalLocalAct}
use Rattle.sva_laws.proofs.Invariant.{Invariant}
use Rattle.sva_laws.proofs.Keeps.{put_keeps}
use Rattle.sva_laws.proofs.Runs.{always, act_legal}
use Rattle.sva_laws.proofs.Lookback.{after_one}
use Rattle.sva_laws.proofs.Told.{accepted}
use Rattle.sva_laws.proofs.StepKinds.{IsDelivery, IsBy, Kind, is_calm, is_calm_own, are_calm, step_kind}
use Rattle.sva_laws.proofs.StepKinds.Kind.{calm, single, unmapping}

-- From the step to what has changed: of a part p before the step and q after it.
pub record Changes (w : World) (s : Step) (e : ℕ) (p q : Endpoint) : Type 0 where
  pub resets : (Delivers w s e ResetDone → ⊥) → q.resets ≡ p.resets
  pub done : (k : ℕ) → q.order_state k ≡ Done → (p.order_state k ≡ Done) ⊎ (PassesWait w s e k ⊎ CompletesOrder w s e k)
  pub done_on : (k : ℕ) → p.order_state k ≡ Done → q.order_state k ≡ Done
  pub void :
      (k : ℕ)
      → k < p.orders
      → q.order_state k ≡ Void
      → (p.order_state k ≡ Void) ⊎ (((p.order_state k ≡ Queued) × OrdersReset w s e) ⊎ ((p.order_state k ≢ Done) × Delivers w s e ResetDone))
  pub void_on : (k : ℕ) → k < p.orders → p.order_state k ≡ Void → q.order_state k ≡ Void
  pub submitted : (k : ℕ) → p.orders ≤ k → k < q.orders → q.order_state k ≡ Queued
  pub noted : (b : ℕ) → q.stage b ≡ Stopping true → (p.stage b ≡ Stopping true) ⊎ ((p.phase ≡ Open) × Delivers w s e (MarkerOf b))

-- what leaves all this
pub record Same (p q : Endpoint) : Type 0 where
  pub orders : q.orders ≡ p.orders
  pub state : (k : ℕ) → q.order_state k ≡ p.order_state k
  pub resets : q.resets ≡ p.resets
  pub noted : (b : ℕ) → q.stage b ≡ Stopping true → p.stage b ≡ Stopping true

same_part : (p : Endpoint) → Same p p
same_part p = record { orders = refl; state = λ k. refl; resets = refl; noted = λ b h. h }

same_more : (p q r : Endpoint) → Same p q → Same q r → Same p r
same_more p q r a b =
    record { orders = b.orders ∙ a.orders; state = λ k. b.state k ∙ a.state k; resets = b.resets ∙ a.resets; noted = λ x h. a.noted x (b.noted x h) }

same_own : (p : Endpoint) (n : ℕ) (o : LocalAct) → is_calm_own o ≡ true → Same p (act_alone p n o)
same_own p n o h =
    record {
      orders = grind (arith, nat_tests);
      state = λ k. grind (arith, nat_tests);
      resets = grind (arith, nat_tests);
      noted = λ b x. grind (arith, nat_tests);
    }

same_act : (w : World) (a : Act) → is_calm a ≡ true → (e : ℕ) → Same (w.part e) ((act w a).part e)
same_act w NewSpace h e = same_part (w.part e)
same_act w (DropSpace s) h e = same_part (w.part e)
same_act w (Map s q f x) h e = same_part (w.part e)
same_act w (Unmap s q count order) h e = absurd (cc)
same_act w (NewBinding d) h e = same_part (w.part e)
same_act w (NewJob d g) h e = same_part (w.part e)
same_act w (Hold x j) h e = same_part (w.part e)
same_act w (LetGo x) h e = same_part (w.part e)
same_act w (AtEndpoint d o) h e =
    put_keeps (λ x q. Same (w.part x) q) w.part d (act_alone (w.part d) w.messages o) (same_own (w.part d) w.messages o h) (λ x. same_part (w.part x)) e

pub same_acts : (acts : List Act) (w : World) → are_calm acts ≡ true → (e : ℕ) → Same (w.part e) ((after_acts w acts).part e)
same_acts [] w h e = same_part (w.part e)
same_acts (a ∷ acts) w h e = go (is_calm a) refl h (λ k. same_acts acts (act w a) k e)
  where
    go : (b : Bool) → is_calm a ≡ b → (if b then are_calm acts else false) ≡ true
        → (are_calm acts ≡ true → Same ((act w a).part e) ((after_acts (act w a) acts).part e)) → Same (w.part e) ((after_acts (act w a) acts).part e)
    go true c h rest = same_more (w.part e) ((act w a).part e) ((after_acts (act w a) acts).part e) (same_act w a c e) (rest h)
    go false c h rest = absurd (cc)

changes_nothing : (w : World) (s : Step) (e : ℕ) (p q : Endpoint) → Same p q → Changes w s e p q
changes_nothing w s e p q x =
    record {
      resets = λ none. x.resets;
      done = λ k h. inl (sym (x.state k) ∙ h);
      done_on = λ k h. x.state k ∙ h;
      void = λ k lt h. inl (sym (x.state k) ∙ h);
      void_on = λ k lt h. x.state k ∙ h;
      submitted = λ k low high. let o = x.orders in absurd (omega (arith, o, low, high));
      noted = λ b h. inl (x.noted b h);
    }

-- an unmapping
submitted_changes : (w : World) (s : Step) (e g : ℕ) (t : Bool) (p : Endpoint) (o : Option ℕ) (q count order cookie : ℕ)
    → ((k : ℕ) → p.orders ≤ k → p.order_state k ≡ Void) → Changes w s e p (submitted_if t p o q count order cookie)
submitted_changes w s e g true p (Some b) q count order cookie bo =
    record {
      resets = λ none. refl;
      done = λ k h. inl (was_done k h);
      done_on = λ k h. done_still k h;
      void = λ k lt h. inl (was_void k lt h);
      void_on = λ k lt h. void_still k lt h;
      submitted = λ k low high. queued k low high;
      noted = λ x h. inl h;
    }
  where
    was_done : (k : ℕ) → (submitted p b q count order cookie).order_state k ≡ Done → p.order_state k ≡ Done
    was_done k h = grind (arith, nat_tests)

    done_still : (k : ℕ) → p.order_state k ≡ Done → (submitted p b q count order cookie).order_state k ≡ Done
    done_still k h = grind (arith, nat_tests, bo k)

    was_void : (k : ℕ) → k < p.orders → (submitted p b q count order cookie).order_state k ≡ Void → p.order_state k ≡ Void
    was_void k lt h = grind (arith, nat_tests)

    void_still : (k : ℕ) → k < p.orders → p.order_state k ≡ Void → (submitted p b q count order cookie).order_state k ≡ Void
    void_still k lt h = grind (arith, nat_tests)

    queued : (k : ℕ) → p.orders ≤ k → k < p.orders + suc count → (submitted p b q count order cookie).order_state k ≡ Queued
    queued k low high = grind (arith, nat_tests)
submitted_changes w s e g true p None q count order cookie bo = changes_nothing w s e p p (same_part p)
submitted_changes w s e g false p o q count order cookie bo = changes_nothing w s e p p (same_part p)

-- One act of an endpoint.

-- what the step delivers, by the message that the act takes
pub delivers : (w : World) (s : Step) (e c : ℕ) (a : Answer) (subject : Subject) → reply w s ≡ Ok a → IsDelivery w s e c → (w.part e).message c
    ≡ Some subject → Delivers w s e subject
delivers w s e c a subject h d m =
    record {
      number = d.number;
      step_is = d.step_is;
      answer = a;
      accepted = h;
      link_is = ap w.link_of d.name_is ∙ d.link_is;
      speaks =
          ap (w.part e).message d.name_is ∙ m;
    }

own_resets : (w : World) (s : Step) (e : ℕ) (a : Answer) (o : LocalAct) → reply w s ≡ Ok a → IsBy w s e o a → LegalLocalAct w.mappings w.bindings (w.part e) o
    → (Delivers w s e ResetDone → ⊥) → (act_alone (w.part e) w.messages o).resets ≡ (w.part e).resets
own_resets w s e a (LocalAct.Reopen c) h by l none = absurd (none (delivers w s e c a ResetDone h by l.0))
own_resets w s e a _ h by l none = refl

count_done : (b : Bool) (x : OrderState) → counted_if b x ≡ Done → (x ≡ Done) ⊎ ((b ≡ true) × ((count : ℕ) × (x ≡ Completing count 1)))
count_done false x h = inl h
count_done true Done h = inl refl
count_done true (Completing count (suc zero)) h = inr (refl, (count, refl))
count_done true (Completing count zero) h = absurd (cc)
count_done true (Completing count (suc (suc l))) h = absurd (cc)
count_done true Queued h = absurd (cc)
count_done true Sent h = absurd (cc)
count_done true (Taken u) h = absurd (cc)
count_done true Lapsed h = absurd (cc)
count_done true Void h = absurd (cc)

-- the acts by which an order becomes done, or void
abbrev pub ends_order : LocalAct → Bool
ends_order (LocalAct.Pass k) = true
ends_order (LocalAct.Count c names) = true
ends_order LocalAct.Reset = true
ends_order (LocalAct.Reopen c) = true
ends_order _ = false

other_done : (ms : Mappings) (g n : ℕ) (p : Endpoint) (o : LocalAct) → LegalLocalAct ms g p o → ends_order o ≡ false → (k : ℕ) → (act_alone p n o).order_state k
    ≡ Done
    → p.order_state k ≡ Done
other_done ms g n p o l e k h = grind (arith, nat_tests)

own_done : (w : World) (s : Step) (e : ℕ) (a : Answer) (o : LocalAct) (b : Bool) → ends_order o ≡ b → reply w s ≡ Ok a → IsBy w s e o a
    → LegalLocalAct w.mappings w.bindings (w.part e) o → (k : ℕ) → (act_alone (w.part e) w.messages o).order_state k ≡ Done → ((w.part e).order_state k ≡ Done)
    ⊎ (PassesWait w s e k ⊎ CompletesOrder w s e k)
own_done w s e a o false x h by l k d = inl (other_done w.mappings w.bindings w.messages (w.part e) o l x k d)
own_done w s e a (LocalAct.Pass j) true x h by l k d = go (ℕ_cases k j)
  where
    go : (k ≡ j) ⊎ (k ≢ j) → ((w.part e).order_state k ≡ Done) ⊎ (PassesWait w s e k ⊎ CompletesOrder w s e k)
    go (inl same) =
        inr (inl (subst (λ z. PassesWait w s e z) (sym same)
        (record { step_is = by.0; answered = h ∙ ap (λ z. Ok z) by.1; at_head = by.2; is_a_wait = l.2; queued = l.1 })))
    go (inr ne) = inl (sym (put-other (w.part e).order_state j Done k ne) ∙ d)
own_done w s e a (LocalAct.Count c names) true x h by l k d = go (count_done (names k) ((w.part e).order_state k) d)
  where
    go : ((w.part e).order_state k ≡ Done) ⊎ ((names k ≡ true) × ((count : ℕ) × ((w.part e).order_state k ≡ Completing count 1)))
        → ((w.part e).order_state k ≡ Done) ⊎ (PassesWait w s e k ⊎ CompletesOrder w s e k)
    go (inl y) = inl y
    go (inr y) = inr (inr (record {
      names = names;
      delivers = delivers w s e c a (InvalidatedOf names) h by l.0;
      is_open = l.1;
      named = y.0;
      count =
          y.1.0;
      one_left = y.1.1;
    }))
own_done w s e a LocalAct.Reset true x h by l k d = inl (before ((w.part e).order_state k) d)
  where
    before : (z : OrderState) → void_queued z ≡ Done → z ≡ Done
    before z y = grind arith
own_done w s e a (LocalAct.Reopen c) true x h by l k d = inl (before ((w.part e).order_state k) d)
  where
    before : (z : OrderState) → void_undone z ≡ Done → z ≡ Done
    before z y = grind arith
own_done w s e a o true x h by l k d = absurd (grind arith)

-- an invalidate in flight is of an order that was sent
done_still : (ms : Mappings) (g n : ℕ) (p : Endpoint) (o : LocalAct) → LegalLocalAct ms g p o
    → ((c k : ℕ) → p.message c ≡ Some (InvalidateOf k) → p.order_state k ≡ Sent) → (k : ℕ) → (p.orders ≤ k → p.order_state k ≡ Void)
    → p.order_state k ≡ Done → (act_alone p n o).order_state k ≡ Done
done_still ms g n p o l sent k bo h = grind (arith, nat_tests)

void_still : (ms : Mappings) (g n : ℕ) (p : Endpoint) (o : LocalAct) → LegalLocalAct ms g p o
    → ((c k : ℕ) → p.message c ≡ Some (InvalidateOf k) → p.order_state k ≡ Sent) → (k : ℕ) → k < p.orders → p.order_state k ≡ Void
    → (act_alone p n o).order_state k ≡ Void
void_still ms g n p o l sent k lt h = grind (arith, nat_tests)

other_void : (ms : Mappings) (g n : ℕ) (p : Endpoint) (o : LocalAct) → LegalLocalAct ms g p o → ends_order o ≡ false → (k : ℕ) → k < p.orders
    → (act_alone p n o).order_state k ≡ Void → p.order_state k ≡ Void
other_void ms g n p o l e k lt h = grind (arith, nat_tests)

void_from_queued : (x : OrderState) → void_queued x ≡ Void → (x ≡ Void) ⊎ (x ≡ Queued)
void_from_queued Queued h = inr refl
void_from_queued Void h = inl refl
void_from_queued Sent h = absurd (cc)
void_from_queued (Taken u) h = absurd (cc)
void_from_queued Lapsed h = absurd (cc)
void_from_queued (Completing c l) h = absurd (cc)
void_from_queued Done h = absurd (cc)

void_from_undone : (x : OrderState) → void_undone x ≡ Void → x ≢ Done
void_from_undone x h e = absurd (cc (sym (ap void_undone e) ∙ h))

count_void : (b : Bool) (x : OrderState) → counted_if b x ≡ Void → x ≡ Void
count_void b x h = grind (arith, nat_tests)

own_void : (w : World) (s : Step) (e : ℕ) (a : Answer) (o : LocalAct) (b : Bool) → ends_order o ≡ b → reply w s ≡ Ok a → IsBy w s e o a
    → LegalLocalAct w.mappings w.bindings (w.part e) o → (k : ℕ) → k < (w.part e).orders → (act_alone (w.part e) w.messages o).order_state k ≡ Void
    → ((w.part e).order_state k ≡ Void)
    ⊎ ((((w.part e).order_state k ≡ Queued) × OrdersReset w s e) ⊎ (((w.part e).order_state k ≢ Done) × Delivers w s e ResetDone))
own_void w s e a o false x h by l k lt d = inl (other_void w.mappings w.bindings w.messages (w.part e) o l x k lt d)
own_void w s e a (LocalAct.Pass j) true x h by l k lt d = go (ℕ_cases k j)
  where
    go : (k ≡ j) ⊎ (k ≢ j) → ((w.part e).order_state k ≡ Void)
        ⊎ ((((w.part e).order_state k ≡ Queued) × OrdersReset w s e) ⊎ (((w.part e).order_state k ≢ Done) × Delivers w s e ResetDone))
    go (inl same) = absurd (cc (sym (subst (λ z. put (w.part e).order_state j Done z ≡ Done) (sym same) (put-same (w.part e).order_state j Done)) ∙ d))
    go (inr ne) = inl (sym (put-other (w.part e).order_state j Done k ne) ∙ d)
own_void w s e a (LocalAct.Count c names) true x h by l k lt d = inl (count_void (names k) ((w.part e).order_state k) d)
own_void w s e a LocalAct.Reset true x h by l k lt d = go (void_from_queued ((w.part e).order_state k) d)
  where
    go : ((w.part e).order_state k ≡ Void) ⊎ ((w.part e).order_state k ≡ Queued) → ((w.part e).order_state k ≡ Void)
        ⊎ ((((w.part e).order_state k ≡ Queued) × OrdersReset w s e) ⊎ (((w.part e).order_state k ≢ Done) × Delivers w s e ResetDone))
    go (inl y) = inl y
    go (inr y) = inr (inl (y, record { step_is = by; answer = a; accepted = h }))
own_void w s e a (LocalAct.Reopen c) true x h by l k lt d = inr (inr (void_from_undone ((w.part e).order_state k) d, delivers w s e c a ResetDone h by l.0))
own_void w s e a o true x h by l k lt d = absurd (grind arith)

new_queued : (ms : Mappings) (g n : ℕ) (p : Endpoint) (o : LocalAct) → LegalLocalAct ms g p o → (k : ℕ) → p.orders ≤ k → k < (act_alone p n o).orders
    → (act_alone p n o).order_state k ≡ Queued
new_queued ms g n p o l k low high = grind (arith, nat_tests)

abbrev pub notes_marker : LocalAct → Bool
notes_marker (LocalAct.Mark c b) = true
notes_marker _ = false

other_noted : (p : Endpoint) (n : ℕ) (o : LocalAct) → notes_marker o ≡ false → (b : ℕ) → (act_alone p n o).stage b ≡ Stopping true → p.stage b ≡ Stopping true
other_noted p n o e b h = grind (arith, nat_tests)

own_noted : (w : World) (s : Step) (e : ℕ) (a : Answer) (o : LocalAct) (t : Bool) → notes_marker o ≡ t → reply w s ≡ Ok a → IsBy w s e o a
    → LegalLocalAct w.mappings w.bindings (w.part e) o → (b : ℕ) → (act_alone (w.part e) w.messages o).stage b ≡ Stopping true
    → ((w.part e).stage b ≡ Stopping true) ⊎ (((w.part e).phase ≡ Open) × Delivers w s e (MarkerOf b))
own_noted w s e a o false x h by l b d = inl (other_noted (w.part e) w.messages o x b d)
own_noted w s e a (LocalAct.Mark c i) true x h by l b d = go (ℕ_cases b i)
  where
    go : (b ≡ i) ⊎ (b ≢ i) → ((w.part e).stage b ≡ Stopping true) ⊎ (((w.part e).phase ≡ Open) × Delivers w s e (MarkerOf b))
    go (inl same) = inr (l.1, subst (λ z. Delivers w s e (MarkerOf z)) (sym same) (delivers w s e c a (MarkerOf i) h by l.0))
    go (inr ne) = inl (sym (put-other (w.part e).stage i (marked ((w.part e).stage i)) b ne) ∙ d)
own_noted w s e a o true x h by l b d = absurd (grind arith)

own_changes : (w : World) (s : Step) (e : ℕ) (a : Answer) (o : LocalAct) → Invariant w → reply w s ≡ Ok a → IsBy w s e o a
    → LegalLocalAct w.mappings w.bindings (w.part e) o → Changes w s e (w.part e) (act_alone (w.part e) w.messages o)
own_changes w s e a o i h by l =
    record {
      resets = own_resets w s e a o h by l;
      done = λ k d. own_done w s e a o (ends_order o) refl h by l k d;
      done_on = λ k d. done_still w.mappings w.bindings w.messages (w.part e) o l (i.parts e).labels.sent k ((i.parts e).bounds.order_state k) d;
      void = λ k lt d. own_void w s e a o (ends_order o) refl h by l k lt d;
      void_on = λ k lt d. void_still w.mappings w.bindings w.messages (w.part e) o l (i.parts e).labels.sent k lt d;
      submitted = λ k low high. new_queued w.mappings w.bindings w.messages (w.part e) o l k low high;
      noted = λ b d. own_noted w s e a o (notes_marker o) refl h by l b d;
    }

-- The step.
pub changes : (w : World) (s : Step) (e : ℕ) → Invariant w → Changes w s e (w.part e) ((next w s).part e)
changes w s e i = go (step_kind w s)
  where
    go : Kind w s (decide w s) → Changes w s e (w.part e) ((next w s).part e)
    go (calm h) = changes_nothing w s e (w.part e) ((next w s).part e) (same_acts (decide w s).acts w h e)
    go (single d o a x h by) =
        subst (λ z. Changes w s e (w.part e) ((after_acts w z).part e)) (sym x)
        (put_keeps (λ k q. Changes w s k (w.part k) q) w.part d (act_alone (w.part d) w.messages o)
        (own_changes w s d a o i h by (act_legal w s d o i x).1.0)
        (λ k. changes_nothing w s k (w.part k) (w.part k) (same_part (w.part k)))
        e)
    go (unmapping t q count order x) =
        subst (λ z. Changes w s e (w.part e) ((after_acts w z).part e)) (sym x)
        (submitted_changes w s e 0 (submits w t e) (w.part e) (bound w e t) q count order (cookie_of w t e) (i.parts e).bounds.order_state)

-- And back: from what the step is to its act.

pub delivered : (w : World) (s : Step) (e : ℕ) (subject : Subject) → (d : Delivers w s e subject) → (decide w s).acts
    ≡ (subject_outcome w (w.part e) e (Labels.name w d.number) subject).acts
delivered w s e subject d =
    ap (λ z. (decide w z).acts) d.step_is
    ∙ (accepted (refusals w (step.Deliver d.number)) (outcome w (step.Deliver d.number)) d.answer (sym (ap (reply w) d.step_is) ∙ d.accepted)).2
    ∙ ap (λ z. (deliver_outcome w (w.part z) z c ((w.part z).message c)).acts) d.link_is
    ∙ ap (λ z. (deliver_outcome w (w.part e) e c z).acts) d.speaks
  where
    c : ℕ
    c = Labels.name w d.number

pub part_after : (w : World) (s : Step) (e : ℕ) (o : LocalAct) → (decide w s).acts ≡ AtEndpoint e o ∷ [] → (next w s).part e ≡ act_alone (w.part e) w.messages o
part_after w s e o h = ap (λ z. (after_acts w z).part e) h ∙ put-same w.part e (act_alone (w.part e) w.messages o)

pub reopens : (w : World) (s : Step) (e : ℕ) → (d : Delivers w s e ResetDone) → (next w s).part e
    ≡ act_alone (w.part e) w.messages (LocalAct.Reopen (Labels.name w d.number))
reopens w s e d = part_after w s e (LocalAct.Reopen (Labels.name w d.number)) (delivered w s e ResetDone d)

completes : (w : World) (s : Step) (e k : ℕ) → CompletesOrder w s e k → ((next w s).part e).order_state k ≡ Done
completes w s e k x =
    ap (λ p. p.order_state k)
    (part_after w s e (LocalAct.Count c x.names) (delivered w s e (InvalidatedOf x.names) x.delivers
    ∙ ap (λ b. (count_outcome (w.part e) e c x.names b).acts) (ap is_open x.is_open)))
    ∙ ap (λ b. counted_if b ((w.part e).order_state k)) x.named
    ∙ ap counted x.one_left
  where
    c : ℕ
    c = Labels.name w x.delivers.number

waits : (e k : ℕ) (b : Bool) → (wait_outcome e k b).answer ≡ answer.WaitDone → (wait_outcome e k b).acts ≡ AtEndpoint e (LocalAct.Pass k) ∷ []
waits e k true h = refl
waits e k false h = absurd (cc)

no_wait : (e k t : ℕ) (b : Bool) → (send_outcome e k t b).answer ≡ answer.WaitDone → (send_outcome e k t b).acts ≡ AtEndpoint e (LocalAct.Pass k) ∷ []
no_wait e k t true h = absurd (cc)
no_wait e k t false h = absurd (cc)

head_waits : (p : Endpoint) (e k : ℕ) (o : Order) → (head_outcome p e k o).answer ≡ answer.WaitDone → (head_outcome p e k o).acts
    ≡ AtEndpoint e (LocalAct.Pass k) ∷ []
head_waits p e k (Wait cookie drain) h = waits e k (may_pass p drain) h
head_waits p e k (RangeOf b q) h = no_wait e k (Labels.lowest_label 32 p.at_itag) _ h
head_waits p e k (PasidOf b) h = no_wait e k (Labels.lowest_label 32 p.at_itag) _ h

pump_waits : (p : Endpoint) (e : ℕ) (b : Bool) → (pump_outcome p e b).answer ≡ answer.WaitDone → (pump_outcome p e b).acts
    ≡ AtEndpoint e (LocalAct.Pass (Labels.head p)) ∷ []
pump_waits p e true h = absurd (cc)
pump_waits p e false h = head_waits p e (Labels.head p) (p.order (Labels.head p)) h

passes : (w : World) (s : Step) (e k : ℕ) → PassesWait w s e k → ((next w s).part e).order_state k ≡ Done
passes w s e k x =
    ap (λ p. p.order_state k) (part_after w s e (LocalAct.Pass (Labels.head (w.part e))) acts)
    ∙ ap (λ z. put (w.part e).order_state z Done k) x.at_head
    ∙ put-same (w.part e).order_state k Done
  where
    done : (outcome w (step.Pump e)).answer ≡ answer.WaitDone × ((decide w (step.Pump e)).acts ≡ (outcome w (step.Pump e)).acts)
    done = let y = accepted (refusals w (step.Pump e)) (outcome w (step.Pump e)) answer.WaitDone (sym (ap (reply w) x.step_is) ∙ x.answered) in (y.1, y.2)

    acts : (decide w s).acts ≡ AtEndpoint e (LocalAct.Pass (Labels.head (w.part e))) ∷ []
    acts = ap (λ z. (decide w z).acts) x.step_is ∙ done.1 ∙ pump_waits (w.part e) e (Labels.is_queue_empty (w.part e)) done.0

resets_queued : (w : World) (s : Step) (e k : ℕ) → (w.part e).order_state k ≡ Queued → OrdersReset w s e → ((next w s).part e).order_state k ≡ Void
resets_queued w s e k q x =
    ap (λ p. p.order_state k) (part_after w s e LocalAct.Reset acts) ∙ ap void_queued q
  where
    acts : (decide w s).acts ≡ AtEndpoint e LocalAct.Reset ∷ []
    acts = ap (λ z. (decide w z).acts) x.step_is
        ∙ (accepted (refusals w (step.Reset e)) (outcome w (step.Reset e)) x.answer (sym (ap (reply w) x.step_is) ∙ x.accepted)).2

undone_void : (x : OrderState) → x ≢ Done → void_undone x ≡ Void
undone_void Done h = absurd (h refl)
undone_void Queued h = refl
undone_void Sent h = refl
undone_void (Taken u) h = refl
undone_void Lapsed h = refl
undone_void (Completing c l) h = refl
undone_void Void h = refl

marks : (w : World) (s : Step) (e b : ℕ) → Invariant w → (w.part e).phase ≡ Open → (d : Delivers w s e (MarkerOf b)) → ((next w s).part e).stage b
    ≡ Stopping true
marks w s e b i ph d =
    ap (λ p. p.stage b) (part_after w s e (LocalAct.Mark c b) (delivered w s e (MarkerOf b) d ∙ ap (λ t. (marker_outcome e c b t).acts) (ap is_open ph)))
    ∙ put-same (w.part e).stage b (marked ((w.part e).stage b))
    ∙ ap marked ((i.parts e).bindings.marker_stage c b d.speaks)
  where
    c : ℕ
    c = Labels.name w d.number

-- The laws.

counts : (w : World) (s : Step) (e : ℕ) → Invariant w → CountsResetDones w s e ((next w s).part e)
counts w s e i = record { rises = λ d. ap (λ p. p.resets) (reopens w s e d); stays = (changes w s e i).resets }

orders_change : (w : World) (s : Step) (e : ℕ) → Invariant w → ChangesOrders w s e ((next w s).part e)
orders_change w s e i =
    record {
      done = λ k. (c.done k, λ x. elim x [ inl d ↦ c.done_on k d | inr y ↦ elim y [ inl p ↦ passes w s e k p | inr q ↦ completes w s e k q ] ]);
      void = λ k lt. (
        c.void k lt,
        λ x. elim x [
          | inl v ↦ c.void_on k lt v
          | inr y ↦ elim y
              [ inl q ↦ resets_queued w s e k q.0 q.1 | inr d ↦ ap (λ p. p.order_state k) (reopens w s e d.1) ∙ undone_void ((w.part e).order_state k) d.0 ]
        ],
      );
      submitted = c.submitted;
    }
  where
    c : Changes w s e (w.part e) ((next w s).part e)
    c = changes w s e i

notes : (w : World) (s : Step) (e : ℕ) → Invariant w → NotesMarkers w s e ((next w s).part e)
notes w s e i = record { noted = (changes w s e i).noted; notes = λ b ph d. marks w s e b i ph d }

pub always_counts : (rule : PasidRule) (config : Config) (steps : List Step) (s : Step) (e : ℕ)
    → CountsResetDones (world_after rule config steps) s e ((world_after rule config (steps ++ s ∷ [])).part e)
always_counts rule config steps s e =
    subst (λ v. CountsResetDones (world_after rule config steps) s e (v.part e)) (sym (after_one rule config steps s))
    (counts (world_after rule config steps) s e (always rule config steps))

pub always_changes : (rule : PasidRule) (config : Config) (steps : List Step) (s : Step) (e : ℕ)
    → ChangesOrders (world_after rule config steps) s e ((world_after rule config (steps ++ s ∷ [])).part e)
always_changes rule config steps s e =
    subst (λ v. ChangesOrders (world_after rule config steps) s e (v.part e)) (sym (after_one rule config steps s))
    (orders_change (world_after rule config steps) s e (always rule config steps))

pub always_notes : (rule : PasidRule) (config : Config) (steps : List Step) (s : Step) (e : ℕ)
    → NotesMarkers (world_after rule config steps) s e ((world_after rule config (steps ++ s ∷ [])).part e)
always_notes rule config steps s e =
    subst (λ v. NotesMarkers (world_after rule config steps) s e (v.part e)) (sym (after_one rule config steps s))
    (notes (world_after rule config steps) s e (always rule config steps))
