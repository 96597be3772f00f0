-- How many bindings are unreleased, and how many use slots of an endpoint are taken; and what each step changes of it.
use Rattle.std.proofs.Common.{◌≡◌, ◌≢◌, ◌⊎◌, inl, inr, refl, ap, sym, subst, ◌∙◌, ℕ, suc, ◌+◌, ◌<◌, Bool, true, false, arith}
use Rattle.std.specs.Prelude.{Option, Some, None, if◌then◌else◌, ◌==◌, List, [], ◌∷◌, ◌++◌, Ok, Err}
use Rattle.std.proofs.lemmas.Bool.Decides.{nat_tests}
use Rattle.sva_step.specs.declared.answers.Answer.TheVariants as answer
use Rattle.sva_step.specs.declared.limits.Config.{Config}
use Rattle.sva_step.specs.declared.refusals.Refusal.{Refusal}
use Rattle.sva_step.specs.declared.steps.Step.{Step}
use Rattle.sva_step.specs.declared.steps.Step.TheVariants as step
use Rattle.sva_model.specs.Words.{put, count_below, is_some, the}
use Rattle.sva_model.specs.State.{PasidRule, Mappings, Endpoint, World, Stage}
use Rattle.sva_model.specs.State.Stage.{Unbound, Live, Stopping, Draining, Invalidating, Quiet, Lost, Released}
use Rattle.sva_model.specs.States.{is_unreleased}
use Rattle.sva_model.specs.Unmappings.{submitted_if, submits, bound, cookie_of}
use Rattle.sva_model.specs.Acts.{Act, LocalAct, act, act_alone}
use Rattle.sva_model.specs.Acts.Act.{NewSpace, DropSpace, Map, Unmap, NewBinding, NewJob, Hold, LetGo, AtEndpoint}
use Rattle.sva_model.specs.Labels
use Rattle.sva_model.specs.Refusals.{Cause, refusals}
use Rattle.sva_model.specs.Outcomes.{Outcome, outcome, advance_outcome}
use Rattle.sva_model.specs.Steps.{Reply, checked, decide, reply, next, after_acts, world_after}
use Rattle.sva_laws.specs.Steps.{unreleased, slots, bound_by, released_by, begun_by, ended_by, KeepsBooks}
use Rattle.sva_labels.proofs.Words.{put-same, put-other, ℕ_cases}
use Rattle.sva_labels.proofs.Counting.{bit, count_next, count_same, count_off}
use Rattle.sva_laws.proofs.Legal.{LegalLocalAct}
use Rattle.sva_laws.proofs.Invariant.{Invariant}
use Rattle.sva_laws.proofs.Keeps.{Legal, act_keeps, put_keeps}
use Rattle.sva_laws.proofs.Passed.{LegalAll}
use Rattle.sva_laws.proofs.Runs.{always, step_legal}
use Rattle.sva_laws.proofs.Lookback.{after_one}
use Rattle.sva_laws.proofs.StepActs.{may, AllMay, step_may, is_binding, is_advancing, is_beginning, is_ending}

-- Acts that begin and release no binding.

abbrev is_bound_by : LocalAct → Bool
is_bound_by (LocalAct.Bind b s t) = true
is_bound_by (LocalAct.Release b) = true
is_bound_by _ = false

stage_same : (ms : Mappings) (g n : ℕ) (p : Endpoint) (o : LocalAct) → LegalLocalAct ms g p o → is_bound_by o ≡ false → (b : ℕ)
    → is_unreleased ((act_alone p n o).stage b) ≡ is_unreleased (p.stage b)
stage_same ms g n p o l h b = grind (arith, nat_tests)

pub submitted_stage : (t : Bool) (p : Endpoint) (o : Option ℕ) (q count order cookie b : ℕ) → (submitted_if t p o q count order cookie).stage b ≡ p.stage b
submitted_stage true p (Some d) q count order cookie b = refl
submitted_stage true p None q count order cookie b = refl
submitted_stage false p o q count order cookie b = refl

abbrev binds_or_releases : Act → Bool
binds_or_releases (AtEndpoint e o) = is_bound_by o
binds_or_releases _ = false

new_unbound : (w : World) (e : ℕ) → Invariant w → unreleased (act w (NewBinding e)) ≡ unreleased w
unfolding bit
new_unbound w e i =
    let now : ℕ → Bool = λ b. is_unreleased ((w.part (put w.endpoint_of w.bindings e b)).stage b) in
    let new : bit (now w.bindings) ≡ 0 =
    ap (λ x. bit (is_unreleased x)) ((i.parts (put w.endpoint_of w.bindings e w.bindings)).bounds.stage w.bindings (omega arith)) in
    let old : count_below w.bindings now ≡ unreleased w =
    count_same w.bindings now (λ b. is_unreleased ((w.part (w.endpoint_of b)).stage b))
    (λ b l. ap (λ z. is_unreleased ((w.part z).stage b)) (put-other w.endpoint_of w.bindings e b (omega (arith, l))))
    in
    omega (arith, count_next w.bindings now, new, old)

act_same : (w : World) (a : Act) → Legal w a → Invariant w → binds_or_releases a ≡ false → unreleased (act w a) ≡ unreleased w
act_same w NewSpace l i h = refl
act_same w (DropSpace s) l i h = refl
act_same w (Map s q f x) l i h = refl
act_same w (Unmap s q count order) l i h =
    count_same w.bindings (λ b. is_unreleased (((act w (Unmap s q count order)).part (w.endpoint_of b)).stage b))
    (λ b. is_unreleased ((w.part (w.endpoint_of b)).stage b))
    (λ b k. ap is_unreleased (submitted_stage (submits w s (w.endpoint_of b)) (w.part (w.endpoint_of b)) (bound w (w.endpoint_of b) s) q count order
    (cookie_of w s (w.endpoint_of b)) b))
act_same w (NewBinding e) l i h = new_unbound w e i
act_same w (NewJob e g) l i h = refl
act_same w (Hold x j) l i h = refl
act_same w (LetGo x) l i h = refl
act_same w (AtEndpoint e o) l i h =
    count_same w.bindings (λ b. is_unreleased (((act w (AtEndpoint e o)).part (w.endpoint_of b)).stage b))
    (λ b. is_unreleased ((w.part (w.endpoint_of b)).stage b))
    (λ b k. put_keeps (λ x p. (d : ℕ) → is_unreleased (p.stage d) ≡ is_unreleased ((w.part x).stage d)) w.part e (act_alone (w.part e) w.messages o)
    (λ d. stage_same w.mappings w.bindings w.messages (w.part e) o l.1.0 h d) (λ x d. refl) (w.endpoint_of b) b)

quiet : (z : Step) (a : Act) → is_binding z ≡ false → is_advancing z ≡ false → may a z ≡ true → binds_or_releases a ≡ false
quiet z (AtEndpoint e (LocalAct.Bind b s t)) x y h = absurd (cc)
quiet z (AtEndpoint e (LocalAct.Release b)) x y h = absurd (cc)
quiet z a x y h = grind arith

acts_same : (z : Step) (acts : List Act) (w : World) → is_binding z ≡ false → is_advancing z ≡ false → AllMay z acts → LegalAll w acts → Invariant w
    → unreleased (after_acts w acts) ≡ unreleased w
acts_same z [] w x y m l i = refl
acts_same z (a ∷ acts) w x y m l i = acts_same z acts (act w a) x y m.1 l.1 (act_keeps w a l.0 i) ∙ act_same w a l.0 i (quiet z a x y m.0)

next_same : (w : World) (s : Step) → Invariant w → is_binding s ≡ false → is_advancing s ≡ false → unreleased (next w s) ≡ unreleased w
next_same w s i x y = acts_same s (decide w s).acts w x y (step_may w s) (step_legal w s i) i

-- A binding that begins, and one that is released.

begins : (w : World) (e b s t : ℕ) → Invariant w → Legal w (AtEndpoint e (LocalAct.Bind b s t)) → unreleased (act w (AtEndpoint e (LocalAct.Bind b s t)))
    ≡ suc (unreleased w)
begins w e b s t i l =
    count_off w.bindings now was b l.1.0.0 (ap (λ z. is_unreleased (((act w (AtEndpoint e (LocalAct.Bind b s t))).part z).stage b)) endpoint_of
    ∙ ap (λ p. is_unreleased (p.stage b)) here ∙ ap is_unreleased (put-same (w.part e).stage b Live))
    (ap (λ z. is_unreleased ((w.part z).stage b)) endpoint_of ∙ ap is_unreleased l.1.0.2)
    (λ d ne. put_keeps (λ x p. (c : ℕ) → c ≢ b → is_unreleased (p.stage c) ≡ is_unreleased ((w.part x).stage c)) w.part e
    (act_alone (w.part e) w.messages (LocalAct.Bind b s t)) (λ c k. ap is_unreleased (put-other (w.part e).stage b Live c k)) (λ x c k. refl) (w.endpoint_of d)
    d ne)
  where
    now : ℕ → Bool
    now d = is_unreleased (((act w (AtEndpoint e (LocalAct.Bind b s t))).part (w.endpoint_of d)).stage d)

    was : ℕ → Bool
    was d = is_unreleased ((w.part (w.endpoint_of d)).stage d)

    endpoint_of : w.endpoint_of b ≡ e
    endpoint_of = l.1.1.2

    here : (act w (AtEndpoint e (LocalAct.Bind b s t))).part e ≡ act_alone (w.part e) w.messages (LocalAct.Bind b s t)
    here = put-same w.part e (act_alone (w.part e) w.messages (LocalAct.Bind b s t))

releases : (w : World) (e b : ℕ) → Invariant w → Legal w (AtEndpoint e (LocalAct.Release b)) → unreleased w
    ≡ suc (unreleased (act w (AtEndpoint e (LocalAct.Release b))))
releases w e b i l =
    count_off w.bindings was now b made
    (ap (λ z. is_unreleased ((w.part z).stage b)) endpoint_of ∙ ap is_unreleased l.1.0)
    (ap (λ z. is_unreleased (((act w (AtEndpoint e (LocalAct.Release b))).part z).stage b)) endpoint_of ∙ ap (λ p. is_unreleased (p.stage b)) here
    ∙ ap is_unreleased (put-same (w.part e).stage b Released))
    (λ d ne. put_keeps (λ x p. (c : ℕ) → c ≢ b → is_unreleased ((w.part x).stage c) ≡ is_unreleased (p.stage c)) w.part e
    (act_alone (w.part e) w.messages (LocalAct.Release b)) (λ c k. sym (ap is_unreleased (put-other (w.part e).stage b Released c k)))
    (λ x c k. refl) (w.endpoint_of d) d ne)
  where
    now : ℕ → Bool
    now d = is_unreleased (((act w (AtEndpoint e (LocalAct.Release b))).part (w.endpoint_of d)).stage d)

    was : ℕ → Bool
    was d = is_unreleased ((w.part (w.endpoint_of d)).stage d)

    not_unbound : (w.part e).stage b ≢ Unbound
    not_unbound h = absurd (cc (sym h ∙ l.1.0))

    endpoint_of : w.endpoint_of b ≡ e
    endpoint_of = i.one_endpoint e b not_unbound

    made : b < w.bindings
    made = grind (arith, nat_tests, (i.parts e).bounds.stage b)

    here : (act w (AtEndpoint e (LocalAct.Release b))).part e ≡ act_alone (w.part e) w.messages (LocalAct.Release b)
    here = put-same w.part e (act_alone (w.part e) w.messages (LocalAct.Release b))

-- What is said of an answer and its acts holds of a decision, where it holds of a refusal and of what is done where none holds.
by_checked : (P : Reply → List Act → Type 0) (cs : List Cause) (o : Outcome) → ((r : Refusal) → P (Err r) []) → P (Ok o.answer) o.acts
    → P (checked cs o).reply (checked cs o).acts
by_checked P [] o none some = some
by_checked P (c ∷ cs) o none some = go c.0 (by_checked P cs o none some)
  where
    go : (b : Bool) → P (checked cs o).reply (checked cs o).acts
        → P (if b then record { reply = Err c.1; acts = [] } else checked cs o).reply (if b then record { reply = Err c.1; acts = [] } else checked cs o).acts
    go true k = none c.1
    go false k = k

-- Bindings, step by step.

abbrev Books : World → Step → Reply → List Act → Type 0
Books w s r acts = LegalAll w acts → unreleased (after_acts w acts) + released_by s r ≡ unreleased w + bound_by s r

bind_books : (w : World) (e n : ℕ) → Invariant w → Books w (step.Bind e n) (decide w (step.Bind e n)).reply (decide w (step.Bind e n)).acts
bind_books w e n i =
    by_checked (Books w (step.Bind e n)) (refusals w (step.Bind e n)) (outcome w (step.Bind e n)) (λ r l. refl)
    (λ l.
    let one = act_same w (NewBinding e) l.0 i refl in
    let two = begins (act w (NewBinding e)) e w.bindings (Labels.name w n) (the (Labels.pasid_for w e (Labels.name w n)))
    (act_keeps w (NewBinding e) l.0 i) l.1.0 in
    omega (arith, one, two))

kept_books : (w : World) (n e : ℕ) (o : LocalAct) (r : Reply) → Invariant w → is_bound_by o ≡ false → released_by (step.Advance n) r ≡ 0
    → Books w (step.Advance n) r (AtEndpoint e o ∷ [])
kept_books w n e o r i h z l = let one = act_same w (AtEndpoint e o) l.0 i h in omega (arith, one, z)

released_books : (w : World) (n e b : ℕ) → Invariant w → Books w (step.Advance n) (Ok answer.Released) (AtEndpoint e (LocalAct.Release b) ∷ [])
released_books w n e b i l = let one = releases w e b i l.0 in omega (arith, one)

stage_books : (w : World) (n e b : ℕ) (s : Stage) → Invariant w
    → Books w (step.Advance n) (Ok (advance_outcome w e b s).answer) (advance_outcome w e b s).acts
stage_books w n e b (Stopping marked) i = kept_books w n e (LocalAct.Drain b w.cookies) (Ok answer.Draining) i refl refl
stage_books w n e b (Draining wait) i = kept_books w n e (LocalAct.Invalidate b w.cookies) (Ok answer.Invalidating) i refl refl
stage_books w n e b (Invalidating k wait) i = kept_books w n e (LocalAct.Quieten b) (Ok answer.Quiet) i refl refl
stage_books w n e b Unbound i = released_books w n e b i
stage_books w n e b Live i = released_books w n e b i
stage_books w n e b Quiet i = released_books w n e b i
stage_books w n e b Lost i = released_books w n e b i
stage_books w n e b Released i = released_books w n e b i

advance_books : (w : World) (n : ℕ) → Invariant w → Books w (step.Advance n) (decide w (step.Advance n)).reply (decide w (step.Advance n)).acts
advance_books w n i =
    by_checked (Books w (step.Advance n)) (refusals w (step.Advance n)) (outcome w (step.Advance n)) (λ r l. refl)
    (stage_books w n (w.endpoint_of (Labels.name w n)) (Labels.name w n) ((w.part (w.endpoint_of (Labels.name w n))).stage (Labels.name w n)) i)

none_bound : (s : Step) (r : Reply) → is_binding s ≡ false → bound_by s r ≡ 0
none_bound s r h = grind arith

none_released : (s : Step) (r : Reply) → is_advancing s ≡ false → released_by s r ≡ 0
none_released s r h = grind arith

pub next_books : (w : World) (s : Step) → Invariant w → unreleased (next w s) + released_by s (reply w s) ≡ unreleased w + bound_by s (reply w s)
next_books w s i = go s (is_binding s) (is_advancing s) refl refl
  where
    go : (z : Step) (b a : Bool) → is_binding z ≡ b → is_advancing z ≡ a → unreleased (next w z) + released_by z (reply w z)
        ≡ unreleased w + bound_by z (reply w z)
    go (step.Bind e n) b a x y = bind_books w e n i (step_legal w (step.Bind e n) i)
    go (step.Advance n) b a x y = advance_books w n i (step_legal w (step.Advance n) i)
    go z false false x y =
        let same = next_same w z i x y in
        let n = none_bound z (reply w z) x in
        let m = none_released z (reply w z) y in
        omega (arith, same, n, m)
    go z true a x y = absurd (grind arith)
    go z false true x y = absurd (grind arith)

-- Use slots.

abbrev uses_slot : LocalAct → Bool
uses_slot (LocalAct.Begin r m t) = true
uses_slot (LocalAct.End u) = true
uses_slot _ = false

slot_same : (p : Endpoint) (n : ℕ) (o : LocalAct) → uses_slot o ≡ false → (t : ℕ) → (act_alone p n o).at_slot t ≡ p.at_slot t
slot_same p n o h t = grind (arith, nat_tests)

pub submitted_slot : (t : Bool) (p : Endpoint) (o : Option ℕ) (q count order cookie k : ℕ) → (submitted_if t p o q count order cookie).at_slot k ≡ p.at_slot k
submitted_slot true p (Some d) q count order cookie k = refl
submitted_slot true p None q count order cookie k = refl
submitted_slot false p o q count order cookie k = refl

slots_same : (p q : Endpoint) → ((t : ℕ) → q.at_slot t ≡ p.at_slot t) → count_below 16 (λ t. is_some (q.at_slot t))
    ≡ count_below 16 (λ t. is_some (p.at_slot t))
slots_same p q h = count_same 16 (λ t. is_some (q.at_slot t)) (λ t. is_some (p.at_slot t)) (λ t l. ap is_some (h t))

abbrev slots_used : Act → Bool
slots_used (AtEndpoint e o) = uses_slot o
slots_used _ = false

act_slots : (w : World) (a : Act) (e : ℕ) → slots_used a ≡ false → slots (act w a) e ≡ slots w e
act_slots w NewSpace e h = refl
act_slots w (DropSpace s) e h = refl
act_slots w (Map s q f x) e h = refl
act_slots w (Unmap s q count order) e h =
    slots_same (w.part e) ((act w (Unmap s q count order)).part e)
    (λ k. submitted_slot (submits w s e) (w.part e) (bound w e s) q count order (cookie_of w s e) k)
act_slots w (NewBinding d) e h = refl
act_slots w (NewJob d g) e h = refl
act_slots w (Hold x j) e h = refl
act_slots w (LetGo x) e h = refl
act_slots w (AtEndpoint d o) e h =
    put_keeps (λ x p. count_below 16 (λ t. is_some (p.at_slot t)) ≡ slots w x) w.part d (act_alone (w.part d) w.messages o)
    (slots_same (w.part d) (act_alone (w.part d) w.messages o) (slot_same (w.part d) w.messages o h)) (λ x. refl) e

still : (z : Step) (a : Act) → is_beginning z ≡ false → is_ending z ≡ false → may a z ≡ true → slots_used a ≡ false
still z (AtEndpoint e (LocalAct.Begin r m t)) x y h = absurd (cc)
still z (AtEndpoint e (LocalAct.End u)) x y h = absurd (cc)
still z a x y h = grind arith

acts_slots : (z : Step) (acts : List Act) (w : World) (e : ℕ) → is_beginning z ≡ false → is_ending z ≡ false → AllMay z acts
    → slots (after_acts w acts) e ≡ slots w e
acts_slots z [] w e x y m = refl
acts_slots z (a ∷ acts) w e x y m = acts_slots z acts (act w a) e x y m.1 ∙ act_slots w a e (still z a x y m.0)

begun : (w : World) (d r m t e : ℕ) → Legal w (AtEndpoint d (LocalAct.Begin r m t)) → slots (act w (AtEndpoint d (LocalAct.Begin r m t))) e
    ≡ slots w e + (if d == e then 1 else 0)
begun w d r m t e l = go (ℕ_cases e d)
  where
    p : Endpoint
    p = w.part d

    new : count_below 16 (λ k. is_some (put p.at_slot t (Some p.uses) k)) ≡ suc (slots w d)
    new = count_off 16 (λ k. is_some (put p.at_slot t (Some p.uses) k)) (λ k. is_some (p.at_slot k)) t l.1.0.3
        (ap is_some (put-same p.at_slot t (Some p.uses))) (ap is_some l.1.0.2) (λ k ne. ap is_some (put-other p.at_slot t (Some p.uses) k ne))

    here : (n : ℕ) → n ≡ suc (slots w d) → n ≡ slots w d + (if d == d then 1 else 0)
    here n h = grind (arith, nat_tests)

    there : e ≢ d → slots w e ≡ slots w e + (if d == e then 1 else 0)
    there ne = grind (arith, nat_tests)

    go : (e ≡ d) ⊎ (e ≢ d) → slots (act w (AtEndpoint d (LocalAct.Begin r m t))) e ≡ slots w e + (if d == e then 1 else 0)
    go (inl h) =
        subst (λ x. slots (act w (AtEndpoint d (LocalAct.Begin r m t))) x ≡ slots w x + (if d == x then 1 else 0)) (sym h)
        (ap (λ q. count_below 16 (λ k. is_some (q.at_slot k))) (put-same w.part d (act_alone p w.messages (LocalAct.Begin r m t)))
        ∙ here (count_below 16 (λ k. is_some (put p.at_slot t (Some p.uses) k))) new)
    go (inr ne) = ap (λ q. count_below 16 (λ k. is_some (q.at_slot k))) (put-other w.part d (act_alone p w.messages (LocalAct.Begin r m t)) e ne) ∙ there ne

ended : (w : World) (d u e : ℕ) → Invariant w → Legal w (AtEndpoint d (LocalAct.End u))
    → slots (act w (AtEndpoint d (LocalAct.End u))) e + (if d == e then 1 else 0) ≡ slots w e
ended w d u e i l = go (ℕ_cases e d)
  where
    p : Endpoint
    p = w.part d

    t : ℕ
    t = p.use_slot u

    old : slots w d ≡ suc (count_below 16 (λ k. is_some (put p.at_slot t None k)))
    old =
        count_off 16 (λ k. is_some (p.at_slot k)) (λ k. is_some (put p.at_slot t None k)) t ((i.parts d).labels.slot_low t u l.1.0)
        (ap is_some l.1.0) (ap is_some (put-same p.at_slot t None))
        (λ k ne. sym (ap is_some (put-other p.at_slot t None k ne)))

    here : (n : ℕ) → slots w d ≡ suc n → n + (if d == d then 1 else 0) ≡ slots w d
    here n h = grind (arith, nat_tests)

    there : e ≢ d → slots w e + (if d == e then 1 else 0) ≡ slots w e
    there ne = grind (arith, nat_tests)

    go : (e ≡ d) ⊎ (e ≢ d) → slots (act w (AtEndpoint d (LocalAct.End u))) e + (if d == e then 1 else 0) ≡ slots w e
    go (inl h) =
        subst (λ x. slots (act w (AtEndpoint d (LocalAct.End u))) x + (if d == x then 1 else 0) ≡ slots w x) (sym h)
        (ap (λ q. count_below 16 (λ k. is_some (q.at_slot k)) + (if d == d then 1 else 0)) (put-same w.part d (act_alone p w.messages (LocalAct.End u)))
        ∙ here (count_below 16 (λ k. is_some (put p.at_slot t None k))) old)
    go (inr ne) = ap (λ q. count_below 16 (λ k. is_some (q.at_slot k)) + (if d == e then 1 else 0))
        (put-other w.part d (act_alone p w.messages (LocalAct.End u)) e ne) ∙ there ne

abbrev Slots : World → ℕ → Step → Reply → List Act → Type 0
Slots w e s r acts = LegalAll w acts → slots (after_acts w acts) e + ended_by e s r ≡ slots w e + begun_by e s r

begin_slots : (w : World) (e d t q : ℕ) (x : Bool)
    → Slots w e (step.BeginUse d t q x) (decide w (step.BeginUse d t q x)).reply (decide w (step.BeginUse d t q x)).acts
begin_slots w e d t q x =
    by_checked (Slots w e (step.BeginUse d t q x)) (refusals w (step.BeginUse d t q x)) (outcome w (step.BeginUse d t q x)) (λ r l. refl)
    (λ l. let one = begun w d (Labels.cached (w.part d) (Labels.bearer (w.part d) t) q)
    (the ((w.part d).held (Labels.cached (w.part d) (Labels.bearer (w.part d) t) q))) (Labels.lowest_label 16 (w.part d).at_slot) e l.0 in omega
    (arith, one))

end_slots : (w : World) (e d u : ℕ) → Invariant w → Slots w e (step.EndUse d u) (decide w (step.EndUse d u)).reply (decide w (step.EndUse d u)).acts
end_slots w e d u i =
    by_checked (Slots w e (step.EndUse d u)) (refusals w (step.EndUse d u)) (outcome w (step.EndUse d u)) (λ r l. refl)
    (λ l. let one = ended w d (the ((w.part d).at_slot u)) e i l.0 in omega (arith, one))

none_begun : (e : ℕ) (s : Step) (r : Reply) → is_beginning s ≡ false → begun_by e s r ≡ 0
none_begun e s r h = grind arith

none_ended : (e : ℕ) (s : Step) (r : Reply) → is_ending s ≡ false → ended_by e s r ≡ 0
none_ended e s r h = grind arith

pub next_slots : (w : World) (s : Step) (e : ℕ) → Invariant w → slots (next w s) e + ended_by e s (reply w s) ≡ slots w e + begun_by e s (reply w s)
next_slots w s e i = go s (is_beginning s) (is_ending s) refl refl
  where
    go : (z : Step) (b a : Bool) → is_beginning z ≡ b → is_ending z ≡ a → slots (next w z) e + ended_by e z (reply w z) ≡ slots w e + begun_by e z (reply w z)
    go (step.BeginUse d t q x) b a y z = begin_slots w e d t q x (step_legal w (step.BeginUse d t q x) i)
    go (step.EndUse d u) b a y z = end_slots w e d u i (step_legal w (step.EndUse d u) i)
    go z false false x y =
        let same = acts_slots z (decide w z).acts w e x y (step_may w z) in
        let n = none_begun e z (reply w z) x in
        let m = none_ended e z (reply w z) y in
        omega (arith, same, n, m)
    go z true a x y = absurd (grind arith)
    go z false true x y = absurd (grind arith)

pub always_books : (rule : PasidRule) (config : Config) (steps : List Step) (s : Step)
    → KeepsBooks (world_after rule config steps) (world_after rule config (steps ++ s ∷ [])) s
always_books rule config steps s =
    let w = world_after rule config steps in
    subst (λ v. KeepsBooks w v s) (sym (after_one rule config steps s))
    (record { bindings = next_books w s (always rule config steps); uses = λ e. next_slots w s e (always rule config steps) })
