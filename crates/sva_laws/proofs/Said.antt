-- What the answers to a finish, a use, a look and a counted completion tell.
use Rattle.std.proofs.Common.{◌≡◌, refl, ap, sym, subst, ◌∙◌, ℕ, zero, suc, ◌+◌, ◌<◌, Bool, true, false, arith}
use Rattle.std.specs.Prelude.{◌↔◌, Some, ◌&&◌, not, List, [], ◌∷◌, ◌++◌, Ok}
use Rattle.std.proofs.lemmas.Bool.Decides.{nat_tests}
use Rattle.std.proofs.lemmas.Bool.{not-false}
use Rattle.sva_step.specs.declared.answers.Answer.{Answer}
use Rattle.sva_step.specs.declared.answers.Answer.TheVariants as answer
use Rattle.sva_step.specs.declared.limits.Config.{Config}
use Rattle.sva_step.specs.declared.steps.Step.{Step}
use Rattle.sva_step.specs.declared.steps.Step.TheVariants as step
use Rattle.sva_model.specs.Words.{put_range, count_below, the}
use Rattle.sva_model.specs.State.{PasidRule, OrderState, World}
use Rattle.sva_model.specs.State.Subject.{InvalidatedOf}
use Rattle.sva_model.specs.State.OrderState.{Queued, Sent, Taken, Lapsed, Completing, Done, Void}
use Rattle.sva_model.specs.State.UseState.{Running}
use Rattle.sva_model.specs.State.Phase.{Open}
use Rattle.sva_model.specs.States.{Place, is_open, is_done, place}
use Rattle.sva_model.specs.States.Place.{Free, Mapped, Withheld}
use Rattle.sva_model.specs.StateChanges.{completing_if, counted_if, is_last_left}
use Rattle.sva_model.specs.Acts.{LocalAct, act, act_alone}
use Rattle.sva_model.specs.Acts.Act.{AtEndpoint}
use Rattle.sva_model.specs.Labels
use Rattle.sva_model.specs.Refusals.{refusals}
use Rattle.sva_model.specs.Outcomes.{outcome, look_answer, count_outcome, deliver_outcome}
use Rattle.sva_model.specs.Steps.{decide, reply, after_acts, world_after}
use Rattle.sva_laws.specs.UnitSteps.{Delivers}
use Rattle.sva_laws.specs.Answers.{Finishes, Uses, Looks, made_done}
use Rattle.sva_labels.proofs.Words.{put-same}
use Rattle.sva_labels.proofs.Counting.{count_same}
use Rattle.sva_laws.proofs.Passed.{label_low}
use Rattle.sva_laws.proofs.LegalEndpoint.{cached_is}
use Rattle.sva_laws.proofs.Lookback.{after_one}
use Rattle.sva_laws.proofs.Told.{accepted}
use Rattle.sva_laws.proofs.UnitSteps.{delivered}

-- after one act of an endpoint
part_at : (w : World) (e : ℕ) (o : LocalAct) → (act w (AtEndpoint e o)).part e ≡ act_alone (w.part e) w.messages o
part_at w e o = put-same w.part e (act_alone (w.part e) w.messages o)

-- A finish.

owed_now : (b : Bool) (count : ℕ) (s : OrderState) → b ≡ true → completing_if b count s ≡ Completing count count
owed_now b count s h = ap (λ z. completing_if z count s) h

as_before : (b : Bool) (count : ℕ) (s : OrderState) → b ≡ false → completing_if b count s ≡ s
as_before b count s h = ap (λ z. completing_if z count s) h

in_new : {A : Type 0} (f : ℕ → A) (n count j : ℕ) (g : ℕ → A) (v : A) → ((i : ℕ) → g i ≡ v) → j < count → put_range f n count g (n + j) ≡ v
in_new f n count j g v same l = grind (arith, nat_tests, same)

finishes : (w : World) (e vector count : ℕ) (said : Answer) → said ≡ answer.Sent count
    → Finishes w (act w (AtEndpoint e (LocalAct.Finish (Labels.is_named (w.part e) vector) vector count))) e vector count said
finishes w e vector count said h =
    let names = Labels.is_named (w.part e) vector in
    let o = LocalAct.Finish (Labels.is_named (w.part e) vector) vector count in
    let same = part_at w e (LocalAct.Finish (Labels.is_named (w.part e) vector) vector count) in
    record {
      answered = h;
      completing = λ k named. ap (λ p. p.order_state k) same ∙ owed_now (names k) count ((w.part e).order_state k) named;
      others = λ k named. ap (λ p. p.order_state k) same ∙ as_before (names k) count ((w.part e).order_state k) named;
      messages = refl;
      sent = λ j l. (
        ap (λ p. p.message (w.messages + j)) same
            ∙ in_new (w.part e).message w.messages count j (λ i. Some (InvalidatedOf names)) (Some (InvalidatedOf names)) (λ i. refl) l,
        in_new w.link_of w.messages count j (λ i. e) e (λ i. refl) l,
      );
    }

pub always_finishes : (rule : PasidRule) (config : Config) (steps : List Step) (e vector count : ℕ) (said : Answer)
    → reply (world_after rule config steps) (step.Finish e vector count) ≡ Ok said
    → Finishes (world_after rule config steps) (world_after rule config (steps ++ step.Finish e vector count ∷ [])) e vector count said
always_finishes rule config steps e vector count said h =
    let w = world_after rule config steps in
    let yes = accepted (refusals w (step.Finish e vector count)) (outcome w (step.Finish e vector count)) said h in
    subst (λ v. Finishes w v e vector count said) (sym (after_one rule config steps (step.Finish e vector count) ∙ ap (after_acts w) yes.2))
    (finishes w e vector count said (sym yes.1))

-- A use.

uses : (w : World) (e t q slot r m : ℕ) (said : Answer) → slot < 16 → (w.part e).held r ≡ Some m → (w.part e).request_binding r
    ≡ Labels.bearer (w.part e) t → (w.part e).request_page r ≡ q → said ≡ answer.Use slot (w.mappings.frame m)
    → Uses w (act w (AtEndpoint e (LocalAct.Begin r m slot))) e t q said
uses w e t q slot r m said low h b pg a =
    let same = part_at w e (LocalAct.Begin r m slot) in
    let p = w.part e in
    record {
      slot = slot;
      low = low;
      request = r;
      mapping = m;
      held = h;
      of_bearer = b;
      of_page = pg;
      answered = a;
      used = p.uses;
      in_slot = ap (λ z. z.at_slot slot) same ∙ put-same p.at_slot slot (Some p.uses);
      runs = ap (λ z. z.use_state p.uses) same ∙ put-same p.use_state p.uses Running;
      by = ap (λ z. z.use_mapping p.uses) same ∙ put-same p.use_mapping p.uses m;
    }

pub always_uses : (rule : PasidRule) (config : Config) (steps : List Step) (e t q : ℕ) (x : Bool) (said : Answer)
    → reply (world_after rule config steps) (step.BeginUse e t q x) ≡ Ok said
    → Uses (world_after rule config steps) (world_after rule config (steps ++ step.BeginUse e t q x ∷ [])) e t q said
always_uses rule config steps e t q x said h =
    let w = world_after rule config steps in
    let p = w.part e in
    let yes = accepted (refusals w (step.BeginUse e t q x)) (outcome w (step.BeginUse e t q x)) said h in
    let c = cached_is p t q (not-false (Labels.is_cached p t q) yes.0.1.1.1.0) in
    let r = Labels.cached p (Labels.bearer p t) q in
    subst (λ v. Uses w v e t q said) (sym (after_one rule config steps (step.BeginUse e t q x) ∙ ap (after_acts w) yes.2))
    (uses w e t q (Labels.lowest_label 16 p.at_slot) r (the (p.held r)) said (label_low 16 p.at_slot yes.0.1.1.1.1.1.0) c.held c.binding c.page (sym yes.1))

-- A look.

look_free : (x : Place) (said : Answer) → look_answer x ≡ said → (said ≡ answer.Free) ↔ (x ≡ Free)
look_free Free said h = (λ y. refl, λ y. sym h)
look_free Mapped said h = (λ y. absurd (cc), λ y. absurd (cc))
look_free Withheld said h = (λ y. absurd (cc), λ y. absurd (cc))

look_mapped : (x : Place) (said : Answer) → look_answer x ≡ said → (said ≡ answer.Mapped) ↔ (x ≡ Mapped)
look_mapped Mapped said h = (λ y. refl, λ y. sym h)
look_mapped Free said h = (λ y. absurd (cc), λ y. absurd (cc))
look_mapped Withheld said h = (λ y. absurd (cc), λ y. absurd (cc))

look_withheld : (x : Place) (said : Answer) → look_answer x ≡ said → (said ≡ answer.Withheld) ↔ (x ≡ Withheld)
look_withheld Withheld said h = (λ y. refl, λ y. sym h)
look_withheld Free said h = (λ y. absurd (cc), λ y. absurd (cc))
look_withheld Mapped said h = (λ y. absurd (cc), λ y. absurd (cc))

pub always_looks : (rule : PasidRule) (config : Config) (steps : List Step) (f : ℕ) (said : Answer)
    → reply (world_after rule config steps) (step.Look f) ≡ Ok said → Looks (world_after rule config steps) f said
always_looks rule config steps f said h =
    let w = world_after rule config steps in
    let yes = accepted (refusals w (step.Look f)) (outcome w (step.Look f)) said h in
    record { free = look_free (place w f) said yes.1; mapped = look_mapped (place w f) said yes.1; withheld = look_withheld (place w f) said yes.1 }

-- A completion that is counted.

newly_done : (b : Bool) (s : OrderState) → (b && is_last_left s) ≡ (is_done (counted_if b s) && not (is_done s))
newly_done false Queued = refl
newly_done false Sent = refl
newly_done false (Taken u) = refl
newly_done false Lapsed = refl
newly_done false (Completing c l) = refl
newly_done false Done = refl
newly_done false Void = refl
newly_done true Queued = refl
newly_done true Sent = refl
newly_done true (Taken u) = refl
newly_done true Lapsed = refl
newly_done true (Completing c zero) = refl
newly_done true (Completing c (suc zero)) = refl
newly_done true (Completing c (suc (suc l))) = refl
newly_done true Done = refl
newly_done true Void = refl

counts : (w : World) (e c : ℕ) (names : ℕ → Bool) → count_below (w.part e).orders (λ k. names k && is_last_left ((w.part e).order_state k))
    ≡ made_done (w.part e) ((act w (AtEndpoint e (LocalAct.Count c names))).part e)
counts w e c names =
    count_same (w.part e).orders (λ k. names k && is_last_left ((w.part e).order_state k))
    (λ k. is_done (counted_if (names k) ((w.part e).order_state k)) && not (is_done ((w.part e).order_state k)))
    (λ k l. newly_done (names k) ((w.part e).order_state k))
    ∙ ap (λ p. made_done (w.part e) p) (sym (part_at w e (LocalAct.Count c names)))

pub always_frees : (rule : PasidRule) (config : Config) (steps : List Step) (s : Step) (e : ℕ) (names : ℕ → Bool)
    → ((world_after rule config steps).part e).phase ≡ Open → Delivers (world_after rule config steps) s e (InvalidatedOf names)
    → reply (world_after rule config steps) s
    ≡ Ok (answer.Freed (made_done ((world_after rule config steps).part e) ((world_after rule config (steps ++ s ∷ [])).part e)))
always_frees rule config steps s e names ph d =
    let w = world_after rule config steps in
    let c = Labels.name w d.number in
    let yes = accepted (refusals w (step.Deliver d.number)) (outcome w (step.Deliver d.number)) d.answer (sym (ap (reply w) d.step_is) ∙ d.accepted) in
    let is_answer : (outcome w (step.Deliver d.number)).answer
    ≡ answer.Freed (count_below (w.part e).orders (λ k. names k && is_last_left ((w.part e).order_state k))) =
    ap (λ z. (deliver_outcome w (w.part z) z c ((w.part z).message c)).answer) d.link_is
    ∙ ap (λ z. (deliver_outcome w (w.part e) e c z).answer) d.speaks
    ∙ ap (λ b. (count_outcome (w.part e) e c names b).answer) (ap is_open ph)
    in
    let acts : (decide w s).acts ≡ AtEndpoint e (LocalAct.Count c names) ∷ [] = delivered w s e (InvalidatedOf names) d
    ∙ ap (λ b. (count_outcome (w.part e) e c names b).acts) (ap is_open ph) in
    d.accepted
    ∙ ap (λ z. Ok z)
    (sym yes.1 ∙ is_answer
    ∙ ap (λ k. answer.Freed k) (counts w e c names
    ∙ ap (λ v. made_done (w.part e) (v.part e)) (sym (after_one rule config steps s ∙ ap (after_acts w) acts))))
