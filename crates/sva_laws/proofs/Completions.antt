-- Each completion that an order is owed is in flight, and no other that names it.
use Rattle.sva_model.specs.State.{PasidRule}
use Rattle.std.proofs.Common.{◌≡◌, ◌≢◌, ◌⊎◌, inl, inr, refl, ap, sym, ◌∙◌, ℕ, zero, suc, ◌+◌, ◌<◌, ◌≤◌, Bool, true, false, arith}
use Rattle.std.specs.Prelude.{Option, Some, None, List, [], ◌∷◌}
use Rattle.std.proofs.lemmas.Bool.Decides.{nat_tests}
use Rattle.sva_step.specs.declared.limits.Config.{Config}
use Rattle.sva_step.specs.declared.steps.Step.{Step}
use Rattle.sva_model.specs.Words.{count_below}
use Rattle.sva_model.specs.State.{Subject, Mappings, OrderState, Endpoint, World, opened}
use Rattle.sva_model.specs.State.OrderState.{Queued, Sent, Taken, Lapsed, Completing, Done, Void}
use Rattle.sva_model.specs.State.Subject.{InvalidatedOf}
use Rattle.sva_model.specs.State.Phase.{Open, Cleared}
use Rattle.sva_model.specs.States.{is_taken}
use Rattle.sva_model.specs.Unmappings.{submitted, submitted_if, submits, bound, cookie_of}
use Rattle.sva_model.specs.StateChanges.{counted, counted_if, completing_if}
use Rattle.sva_model.specs.Acts.{Act, LocalAct, act, act_alone, sends}
use Rattle.sva_model.specs.Acts.Act.{NewSpace, DropSpace, Map, Unmap, NewBinding, NewJob, Hold, LetGo, AtEndpoint}
use Rattle.sva_model.specs.Steps.{decide, next, run, after_acts, world_after}
use Rattle.sva_laws.specs.UnderWay.{names_order, completions, left_of}
use Rattle.sva_labels.proofs.Words.{ℕ_cases}
use Rattle.sva_labels.proofs.Counting.{count_same, count_zero, count_more, count_all, count_off}
use Rattle.sva_laws.proofs.Legal.{LegalLocalAct}
use Rattle.sva_laws.proofs.Resets.{Resets}
use Rattle.sva_laws.proofs.Bounds.{Bounds}
use Rattle.sva_laws.proofs.Labels.{Labels}
use Rattle.sva_laws.proofs.Invariant.{PartInvariant, Invariant}
use Rattle.sva_laws.proofs.Keeps.{Legal, act_keeps, put_keeps}
use Rattle.sva_laws.proofs.Passed.{LegalAll}
use Rattle.sva_laws.proofs.Runs.{step_legal, next_keeps, opened_invariant}

pub record Owed (n : ℕ) (p : Endpoint) : Type 0 where
  pub owed : (k : ℕ) → p.phase ≡ Open → completions n p k ≡ left_of (p.order_state k)
  pub completing : (k count left : ℕ) → p.order_state k ≡ Completing count left → (0 < left) × (left ≤ count) × (count ≤ 8)

owing_kept : (ms : Mappings) (g n : ℕ) (p : Endpoint) (o : LocalAct) → LegalLocalAct ms g p o → (k count left : ℕ)
    → (p.order_state k ≡ Completing count (suc left) → (suc left ≤ count) × (count ≤ 8))
    → (p.order_state k ≡ Completing count left → (0 < left) × (left ≤ count) × (count ≤ 8)) → (act_alone p n o).order_state k ≡ Completing count left
    → (0 < left)
    × (left ≤ count) × (count ≤ 8)
owing_kept ms g n p o l k count left more old h = grind (arith, nat_tests)

-- all acts but these leave the completions of an open unit
abbrev pub counts_completions : LocalAct → Bool
counts_completions (LocalAct.Finish names vector count) = true
counts_completions (LocalAct.Count c names) = true
counts_completions (LocalAct.Reopen c) = true
counts_completions _ = false

old_same : (ms : Mappings) (g n : ℕ) (p : Endpoint) (o : LocalAct) → LegalLocalAct ms g p o → counts_completions o ≡ false → p.phase ≡ Open → (k c : ℕ) → c < n
    → names_order k ((act_alone p n o).message c) ≡ names_order k (p.message c)
old_same ms g n p o l e ph k c lt = grind (arith, nat_tests)

new_none : (ms : Mappings) (g n : ℕ) (p : Endpoint) (o : LocalAct) → LegalLocalAct ms g p o → counts_completions o ≡ false → (k c : ℕ) → n ≤ c
    → p.message c ≡ None
    → names_order k ((act_alone p n o).message c) ≡ false
new_none ms g n p o l e k c lt un = grind (arith, nat_tests)

left_same : (ms : Mappings) (g n : ℕ) (p : Endpoint) (o : LocalAct) → LegalLocalAct ms g p o → counts_completions o ≡ false
    → ((c k : ℕ) → p.message c ≡ Some (Subject.InvalidateOf k) → p.order_state k ≡ Sent) → (k : ℕ) → (p.orders ≤ k → p.order_state k ≡ Void)
    → (act_alone p n o).phase ≡ Open → left_of ((act_alone p n o).order_state k) ≡ left_of (p.order_state k)
left_same ms g n p o l e sent k bo ph = grind (arith, nat_tests)

stays_open : (ms : Mappings) (g n : ℕ) (p : Endpoint) (o : LocalAct) → counts_completions o ≡ false → (act_alone p n o).phase ≡ Open → p.phase ≡ Open
stays_open ms g n p o e ph = grind arith

-- Count over the messages of an act that neither sends nor takes in a completion of an open unit.
plain_owed : (ms : Mappings) (g n : ℕ) (p : Endpoint) (o : LocalAct) → LegalLocalAct ms g p o → counts_completions o ≡ false → Resets n p → Bounds g p
    → Labels p
    → Owed n p → (k : ℕ) → (act_alone p n o).phase ≡ Open → completions (n + sends o) (act_alone p n o) k ≡ left_of ((act_alone p n o).order_state k)
plain_owed ms g n p o l e re bo la ow k ph =
    count_more n (sends o) (λ c. names_order k ((act_alone p n o).message c)) (λ c lt m. new_none ms g n p o l e k c lt (re.unsent c lt))
    ∙ count_same n (λ c. names_order k ((act_alone p n o).message c)) (λ c. names_order k (p.message c)) (λ c lt. old_same ms g n p o l e was k c lt)
    ∙ ow.owed k was
    ∙ sym (left_same ms g n p o l e la.sent k (bo.order_state k) ph)
  where
    was : p.phase ≡ Open
    was = stays_open ms g n p o e ph

-- the endpoint sends `count` completions of the orders that it names
finish_old : (n : ℕ) (p : Endpoint) (names : ℕ → Bool) (vector count k c : ℕ) → c < n
    → names_order k ((act_alone p n (LocalAct.Finish names vector count)).message c) ≡ names_order k (p.message c)
finish_old n p names vector count k c lt = grind (arith, nat_tests)

pub finish_new : (n : ℕ) (p : Endpoint) (names : ℕ → Bool) (vector count k c : ℕ) → n ≤ c → c < n + count
    → names_order k ((act_alone p n (LocalAct.Finish names vector count)).message c) ≡ names k
finish_new n p names vector count k c lt up = grind (arith, nat_tests)

taken_left : (s : OrderState) → is_taken s ≡ true → left_of s ≡ 0
taken_left s h = grind arith

finish_owed : (ms : Mappings) (g n : ℕ) (p : Endpoint) (names : ℕ → Bool) (vector count : ℕ) → LegalLocalAct ms g p (LocalAct.Finish names vector count)
    → Owed n p
    → (k : ℕ) → p.phase ≡ Open
    → completions (n + count) (act_alone p n (LocalAct.Finish names vector count)) k ≡ left_of (completing_if (names k) count (p.order_state k))
finish_owed ms g n p names vector count l ow k ph = go (names k) refl
  where
    f : ℕ → Bool
    f c = names_order k ((act_alone p n (LocalAct.Finish names vector count)).message c)

    below : count_below n f ≡ left_of (p.order_state k)
    below = count_same n f (λ c. names_order k (p.message c)) (λ c lt. finish_old n p names vector count k c lt) ∙ ow.owed k ph

    go : (b : Bool) → names k ≡ b → count_below (n + count) f ≡ left_of (completing_if b count (p.order_state k))
    go true e =
        let none : left_of (p.order_state k) ≡ 0 = taken_left (p.order_state k) (l.1 k e) in
        omega (arith, below, none, count_all n count f (λ c lt up. finish_new n p names vector count k c lt up ∙ e))
    go false e = count_more n count f (λ c lt up. finish_new n p names vector count k c lt up ∙ e) ∙ below

-- a completion that arrives at an open unit is counted
count_taken : (n : ℕ) (p : Endpoint) (c : ℕ) (names : ℕ → Bool) (k : ℕ) → names_order k ((act_alone p n (LocalAct.Count c names)).message c) ≡ false
count_taken n p c names k = grind (arith, nat_tests)

count_other : (n : ℕ) (p : Endpoint) (c : ℕ) (names : ℕ → Bool) (k d : ℕ) → d ≢ c → names_order k ((act_alone p n (LocalAct.Count c names)).message d)
    ≡ names_order k (p.message d)
count_other n p c names k d ne = grind (arith, nat_tests)

left_counted : (s : OrderState) (x : ℕ) → suc x ≡ left_of s → x ≡ left_of (counted s)
left_counted Queued x e = absurd (omega (arith, e))
left_counted Sent x e = absurd (omega (arith, e))
left_counted (Taken u) x e = absurd (omega (arith, e))
left_counted Lapsed x e = absurd (omega (arith, e))
left_counted (Completing count zero) x e = absurd (omega (arith, e))
left_counted (Completing count (suc zero)) x e = omega (arith, e)
left_counted (Completing count (suc (suc l))) x e = omega (arith, e)
left_counted Done x e = absurd (omega (arith, e))
left_counted Void x e = absurd (omega (arith, e))

count_owed : (n : ℕ) (p : Endpoint) (c : ℕ) (names : ℕ → Bool) → c < n → p.message c ≡ Some (InvalidatedOf names) → Owed n p → (k : ℕ) → p.phase ≡ Open
    → completions (n + 0) (act_alone p n (LocalAct.Count c names)) k ≡ left_of (counted_if (names k) (p.order_state k))
count_owed n p c names lt me ow k ph = go (names k) refl
  where
    f : ℕ → Bool
    f d = names_order k (p.message d)

    after : ℕ → Bool
    after d = names_order k ((act_alone p n (LocalAct.Count c names)).message d)

    more : count_below (n + 0) after ≡ count_below n after
    more = count_more n 0 after (λ d a b. absurd (omega arith))

    named : f c ≡ names k
    named = ap (names_order k) me

    go : (b : Bool) → names k ≡ b → count_below (n + 0) after ≡ left_of (counted_if b (p.order_state k))
    go true e =
        more ∙ left_counted (p.order_state k) (count_below n after)
        (sym (count_off n f after c lt (named ∙ e) (count_taken n p c names k) (λ d ne. sym (count_other n p c names k d ne))) ∙ ow.owed k ph)
    go false e =
        more
        ∙ count_same n after f (λ d m. same d (ℕ_cases d c))
        ∙ ow.owed k ph
      where
        same : (d : ℕ) → (d ≡ c) ⊎ (d ≢ c) → after d ≡ f d
        same d (inl x) = ap after x ∙ count_taken n p c names k ∙ sym (ap f x ∙ named ∙ e)
        same d (inr ne) = count_other n p c names k d ne

-- at the end of a reset nothing is in flight, and nothing is owed
reopen_none : (ms : Mappings) (g n : ℕ) (p : Endpoint) (c k d : ℕ) → LegalLocalAct ms g p (LocalAct.Reopen c) → p.phase ≡ Cleared c
    → ((a : Subject) → p.message d ≡ Some a → d ≤ c) → names_order k ((act_alone p n (LocalAct.Reopen c)).message d) ≡ false
reopen_none ms g n p c k d l ph old = grind (arith, nat_tests)

reopen_left : (n : ℕ) (p : Endpoint) (c k : ℕ) → left_of ((act_alone p n (LocalAct.Reopen c)).order_state k) ≡ 0
reopen_left n p c k = grind arith

reopen_owed : (ms : Mappings) (g n : ℕ) (p : Endpoint) (c : ℕ) → LegalLocalAct ms g p (LocalAct.Reopen c) → Resets n p → (k : ℕ)
    → completions (n + 0) (act_alone p n (LocalAct.Reopen c)) k ≡ left_of ((act_alone p n (LocalAct.Reopen c)).order_state k)
reopen_owed ms g n p c l re k =
    count_zero (n + 0) (λ d. names_order k ((act_alone p n (LocalAct.Reopen c)).message d))
    (λ d lt. reopen_none ms g n p c k d l (re.up c l.0) (λ a h. re.older c d a (re.up c l.0) h))
    ∙ sym (reopen_left n p c k)

pub sent_below : (n c : ℕ) (p : Endpoint) (a : Subject) → (n ≤ c → p.message c ≡ None) → p.message c ≡ Some a → c < n
sent_below n c p a un h = grind (arith, nat_tests)

owed_kept : (ms : Mappings) (g n : ℕ) (p : Endpoint) (o : LocalAct) → LegalLocalAct ms g p o → Resets n p → Bounds g p → Labels p → Owed n p → (b : Bool)
    → counts_completions o ≡ b → (k : ℕ) → (act_alone p n o).phase ≡ Open
    → completions (n + sends o) (act_alone p n o) k ≡ left_of ((act_alone p n o).order_state k)
owed_kept ms g n p o l re bo la ow false e k ph = plain_owed ms g n p o l e re bo la ow k ph
owed_kept ms g n p (LocalAct.Finish names vector count) l re bo la ow true e k ph = finish_owed ms g n p names vector count l ow k ph
owed_kept ms g n p (LocalAct.Count c names) l re bo la ow true e k ph =
    count_owed n p c names (sent_below n c p (InvalidatedOf names) (re.unsent c) l.0) l.0 ow k l.1
owed_kept ms g n p (LocalAct.Reopen c) l re bo la ow true e k ph = reopen_owed ms g n p c l re k
owed_kept ms g n p o l re bo la ow true e k ph = absurd (grind arith)

pub every : (ms : Mappings) (x g n e : ℕ) (p : Endpoint) (o : LocalAct) → LegalLocalAct ms g p o → PartInvariant ms x g n e p → Owed n p
    → Owed (n + sends o) (act_alone p n o)
every ms x g n e p o l i ow =
    record {
      owed = λ k ph. owed_kept ms g n p o l i.resets i.bounds i.labels ow (counts_completions o) refl k ph;
      completing = λ k count left h. owing_kept ms g n p o l k count left (λ s. let x = ow.completing k count (suc left) s in (x.1, x.2))
          (ow.completing k count left) h;
    }

-- messages of other endpoints don't count
more_messages : (n s : ℕ) (p : Endpoint) → Resets n p → Owed n p → Owed (n + s) p
more_messages n s p re ow =
    record {
      owed = λ k ph. count_more n s (λ c. names_order k (p.message c)) (λ c lt up. ap (names_order k) (re.unsent c lt)) ∙ ow.owed k ph;
      completing = ow.completing;
    }

submitted_left : (g b q count order cookie k : ℕ) (p : Endpoint) → Bounds g p → left_of ((submitted p b q count order cookie).order_state k)
    ≡ left_of (p.order_state k)
submitted_left g b q count order cookie k p bo = grind (arith, nat_tests, bo.order_state k)

submitted_owing : (b q count order cookie k c left : ℕ) (p : Endpoint) → (submitted p b q count order cookie).order_state k ≡ Completing c left
    → p.order_state k ≡ Completing c left
submitted_owing b q count order cookie k c left p h = grind (arith, nat_tests)

submitted_owed : (g n : ℕ) (t : Bool) (p : Endpoint) (o : Option ℕ) (q count order cookie : ℕ) → Bounds g p → Owed n p
    → Owed n (submitted_if t p o q count order cookie)
submitted_owed g n true p (Some b) q count order cookie bo ow =
    record {
      owed = λ k ph. ow.owed k ph ∙ sym (submitted_left g b q count order cookie k p bo);
      completing = λ k c left h. ow.completing k c left (submitted_owing b q count order cookie k c left p h);
    }
submitted_owed g n true p None q count order cookie bo ow = ow
submitted_owed g n false p o q count order cookie bo ow = ow

abbrev pub AllOwed : World → Type 0
AllOwed w = (e : ℕ) → Owed w.messages (w.part e)

pub act_owed : (w : World) (a : Act) → Legal w a → Invariant w → AllOwed w → AllOwed (act w a)
act_owed w NewSpace l i h = h
act_owed w (DropSpace s) l i h = h
act_owed w (Map s q f x) l i h = h
act_owed w (Unmap s q count order) l i h =
    λ e. submitted_owed w.bindings w.messages (submits w s e) (w.part e) (bound w e s) q count order (cookie_of w s e) (i.parts e).bounds (h e)
act_owed w (NewBinding e) l i h = h
act_owed w (NewJob e g) l i h = h
act_owed w (Hold x j) l i h = h
act_owed w (LetGo x) l i h = h
act_owed w (AtEndpoint e o) l i h =
    put_keeps (λ k p. Owed (w.messages + sends o) p) w.part e (act_alone (w.part e) w.messages o)
    (every w.mappings w.config.endpoints w.bindings w.messages e (w.part e) o l.1.0 (i.parts e) (h e))
    (λ d. more_messages w.messages (sends o) (w.part d) (i.parts d).resets (h d))

pub acts_owed : (acts : List Act) (w : World) → LegalAll w acts → Invariant w → AllOwed w → AllOwed (after_acts w acts)
acts_owed [] w l i h = h
acts_owed (a ∷ acts) w l i h = acts_owed acts (act w a) l.1 (act_keeps w a l.0 i) (act_owed w a l.0 i h)

run_owed : (ss : List Step) (w : World) → Invariant w → AllOwed w → AllOwed (run w ss)
run_owed [] w i h = h
run_owed (s ∷ ss) w i h = run_owed ss (next w s) (next_keeps w s i) (acts_owed (decide w s).acts w (step_legal w s i) i h)

pub opened_owed : (rule : PasidRule) (c : Config) → AllOwed (opened rule c)
opened_owed rule c e =
    record {
      owed = λ k ph. count_zero (opened rule c).messages (λ d. names_order k (((opened rule c).part e).message d)) (λ d lt. refl);
      completing = λ k count left h. absurd (cc);
    }

pub always_owed : (rule : PasidRule) (c : Config) (ss : List Step) (e : ℕ) → Owed (world_after rule c ss).messages ((world_after rule c ss).part e)
always_owed rule c ss = run_owed ss (opened rule c) (opened_invariant rule c) (opened_owed rule c)
