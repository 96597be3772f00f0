-- What an endpoint does itself, and what comes to it, is answered in a reset of its unit as where that is open.
use Rattle.std.proofs.Common.{◌≡◌, ◌≢◌, refl, ap, sym, subst, ◌∙◌, ℕ, Bool, true, false, arith}
use Rattle.std.proofs.lemmas.Option.{same_Some}
use Rattle.std.specs.Prelude.{Option, Some, None, not, ◌&&◌, if◌then◌else◌, List, [], ◌∷◌, Err}
use Rattle.sva_step.specs.declared.limits.Config.{Config}
use Rattle.sva_step.specs.declared.refusals.Refusal.{Refusal}
use Rattle.sva_step.specs.declared.refusals.Refusal.TheVariants as refusal
use Rattle.sva_step.specs.declared.steps.Step.{Step}
use Rattle.sva_step.specs.declared.steps.Step.TheVariants as step
use Rattle.sva_model.specs.Words.{is_some}
use Rattle.sva_model.specs.LinkOrder.{MessageKind, stays_behind}
use Rattle.sva_model.specs.State.{PasidRule, RequestState, Subject, Endpoint, World}
use Rattle.sva_model.specs.State.RequestState.{Out, Doomed, Over}
use Rattle.sva_model.specs.State.Subject.{StartOf, StopOf, FunctionReset, CompletionOf, InvalidateOf, ResponseOf, RequestOf, InvalidatedOf, PageRequestOf}
use Rattle.sva_model.specs.State.Subject.{MarkerOf, ResetDone}
use Rattle.sva_model.specs.State.Phase.{Open}
use Rattle.sva_model.specs.Labels
use Rattle.sva_model.specs.Refusals.{Cause, delivery_sends, refusals}
use Rattle.sva_model.specs.Outcomes.{Outcome, completion_outcome, deliver_outcome, outcome}
use Rattle.sva_model.specs.Steps.{Reply, checked, reply, world_after}
use Rattle.sva_laws.specs.Causes.{named_endpoint}
use Rattle.sva_laws.specs.InReset.{AnswersInReset, is_to_unit, with_open}
use Rattle.sva_laws.specs.Untouched.{is_of_endpoint}
use Rattle.sva_labels.proofs.Lists.{any_same}
use Rattle.sva_labels.proofs.Words.{put-same}

-- No act of an endpoint, and no delivery, is refused Resetting.

abbrev AllOther : List Cause → Type 0
AllOther [] = Unit {0}
AllOther (c ∷ cs) = (c.1 ≢ refusal.Resetting) × AllOther cs

abbrev refused : Refusal → Reply
refused r = Err r

same_refusal : (a b : Refusal) → refused a ≡ refused b → a ≡ b
same_refusal a b h = cc

other_refusals : (cs : List Cause) (o : Outcome) → AllOther cs → (checked cs o).reply ≢ Err refusal.Resetting
other_refusals [] o a h = absurd (cc)
other_refusals (c ∷ cs) o a h = go c.0 h (other_refusals cs o a.1)
  where
    go : (b : Bool) → (if b then record { reply = Err c.1; acts = [] } else checked cs o).reply ≡ Err refusal.Resetting
        → ((checked cs o).reply ≢ Err refusal.Resetting) → ⊥
    go true k rest = a.0 (same_refusal c.1 refusal.Resetting k)
    go false k rest = rest k

endpoint_other : (w : World) (s : Step) → is_of_endpoint s ≡ true → AllOther (refusals w s)
endpoint_other w (step.Ask e t q) h = ((λ k. absurd (cc)), ((λ k. absurd (cc)), ((λ k. absurd (cc)), ((λ k. absurd (cc)), ((λ k. absurd (cc)), tt)))))
endpoint_other w (step.BeginUse e t q x) h =
    ((λ k. absurd (cc)), ((λ k. absurd (cc)), ((λ k. absurd (cc)), ((λ k. absurd (cc)), ((λ k. absurd (cc)), ((λ k. absurd (cc)), tt))))))
endpoint_other w (step.EndUse e u) h = ((λ k. absurd (cc)), ((λ k. absurd (cc)), tt))
endpoint_other w (step.Evict e t q) h = ((λ k. absurd (cc)), ((λ k. absurd (cc)), ((λ k. absurd (cc)), tt)))
endpoint_other w (step.Fault e t q r x group l) h = (
  (λ k. absurd (cc)),
  ((λ k. absurd (cc)), ((λ k. absurd (cc)), ((λ k. absurd (cc)), ((λ k. absurd (cc)), ((λ k. absurd (cc)), ((λ k. absurd (cc)), tt)))))),
)
endpoint_other w (step.Finish e vector count) h =
    ((λ k. absurd (cc)), ((λ k. absurd (cc)), ((λ k. absurd (cc)), ((λ k. absurd (cc)), ((λ k. absurd (cc)), tt)))))
endpoint_other w (step.Quit e t) h = ((λ k. absurd (cc)), ((λ k. absurd (cc)), ((λ k. absurd (cc)), ((λ k. absurd (cc)), tt))))
endpoint_other w (step.Deliver n) h = ((λ k. absurd (cc)), ((λ k. absurd (cc)), ((λ k. absurd (cc)), tt)))
endpoint_other w s h = absurd (grind arith)

pub always_goes_on : (rule : PasidRule) (config : Config) (steps : List Step) (s : Step) → is_of_endpoint s ≡ true
    → reply (world_after rule config steps) s ≢ Err refusal.Resetting
always_goes_on rule config steps s h k =
    other_refusals (refusals (world_after rule config steps) s) (outcome (world_after rule config steps) s)
    (endpoint_other (world_after rule config steps) s h) k

-- What is answered.

-- a world of which each endpoint is this one, and an endpoint whose unit is open
abbrev at : World → Endpoint → World
at w p = record w { part = λ e. p }

abbrev reopened : Endpoint → Endpoint
reopened p = record p { phase = Open }

there : (w : World) (e : ℕ) → reopened (w.part e) ≡ (with_open w e).part e
there w e = sym (put-same w.part e (reopened (w.part e)))

-- a step reads its own endpoint alone
done : (w : World) (s : Step) (e : ℕ) → is_of_endpoint s ≡ true → named_endpoint s ≡ Some e → reply w s ≡ reply (with_open w e) s
done w (step.Ask d t q) e own names =
    subst (λ x. reply w (step.Ask d t q) ≡ reply (with_open w x) (step.Ask d t q)) (same_Some d e names)
    (ap (λ p. reply (at w p) (step.Ask d t q)) (there w d))
done w (step.BeginUse d t q x) e own names =
    subst (λ y. reply w (step.BeginUse d t q x) ≡ reply (with_open w y) (step.BeginUse d t q x)) (same_Some d e names)
    (ap (λ p. reply (at w p) (step.BeginUse d t q x)) (there w d))
done w (step.EndUse d t) e own names =
    subst (λ x. reply w (step.EndUse d t) ≡ reply (with_open w x) (step.EndUse d t)) (same_Some d e names)
    (ap (λ p. reply (at w p) (step.EndUse d t)) (there w d))
done w (step.Evict d t q) e own names =
    subst (λ x. reply w (step.Evict d t q) ≡ reply (with_open w x) (step.Evict d t q)) (same_Some d e names)
    (ap (λ p. reply (at w p) (step.Evict d t q)) (there w d))
done w (step.Fault d t q r x None l) e own names =
    subst (λ y. reply w (step.Fault d t q r x None l) ≡ reply (with_open w y) (step.Fault d t q r x None l)) (same_Some d e names)
    (ap (λ p. reply (at w p) (step.Fault d t q r x None l)) (there w d))
done w (step.Fault d t q r x (Some g) l) e own names =
    subst (λ y. reply w (step.Fault d t q r x (Some g) l) ≡ reply (with_open w y) (step.Fault d t q r x (Some g) l)) (same_Some d e names)
    (ap (λ p. reply (at w p) (step.Fault d t q r x (Some g) l)) (there w d))
done w (step.Finish d vector count) e own names =
    subst (λ x. reply w (step.Finish d vector count) ≡ reply (with_open w x) (step.Finish d vector count)) (same_Some d e names)
    (ap (λ p. reply (at w p) (step.Finish d vector count)) (there w d))
done w (step.Quit d t) e own names =
    subst (λ x. reply w (step.Quit d t) ≡ reply (with_open w x) (step.Quit d t)) (same_Some d e names)
    (ap (λ p. reply (at w p) (step.Quit d t)) (there w d))
done w (step.Deliver n) e own names = absurd (cc)
done w s e own names = absurd (grind arith)

-- what the order of the link reads
kind_same : (p : Endpoint) (x : Subject) → Labels.kind_of p x ≡ Labels.kind_of (reopened p) x
kind_same p (StartOf b) = refl
kind_same p (StopOf b) = refl
kind_same p FunctionReset = refl
kind_same p (CompletionOf r found) = refl
kind_same p (InvalidateOf k) = refl
kind_same p (ResponseOf g code) = refl
kind_same p (RequestOf r) = refl
kind_same p (InvalidatedOf names) = refl
kind_same p (PageRequestOf r) = refl
kind_same p (MarkerOf b) = refl
kind_same p ResetDone = refl

held_same : (p : Endpoint) (newer : MessageKind) (older : Option Subject) → Labels.holds_back p newer older ≡ Labels.holds_back (reopened p) newer older
held_same p newer None = refl
held_same p newer (Some x) = ap (stays_behind newer) (kind_same p x)

permitted_same : (p : Endpoint) (c : ℕ) (x : Subject) → Labels.is_permitted p c x ≡ Labels.is_permitted (reopened p) c x
permitted_same p c x =
    ap not
    (any_same c (λ d. Labels.holds_back p (Labels.kind_of p x) (p.message d))
    (λ d. Labels.holds_back (reopened p) (Labels.kind_of (reopened p) x) (p.message d))
    (λ d l. held_same p (Labels.kind_of p x) (p.message d) ∙ ap (λ k. Labels.holds_back (reopened p) k (p.message d)) (kind_same p x)))

-- what comes of it
came_same : (w : World) (p : Endpoint) (e c : ℕ) (x : Subject) → is_to_unit x ≡ false
    → deliver_outcome (at w p) p e c (Some x) ≡ deliver_outcome (at w (reopened p)) (reopened p) e c (Some x)
came_same w p e c (StartOf b) h = refl
came_same w p e c (StopOf b) h = refl
came_same w p e c FunctionReset h = refl
came_same w p e c (CompletionOf r found) h = completed found (p.request r)
  where
    completed : (o : Option ℕ) (s : RequestState) → completion_outcome p e c r o s ≡ completion_outcome (reopened p) e c r o s
    completed None Out = refl
    completed (Some m) Out = refl
    completed None Doomed = refl
    completed (Some m) Doomed = refl
    completed None Over = refl
    completed (Some m) Over = refl
came_same w p e c (InvalidateOf k) h = refl
came_same w p e c (ResponseOf g code) h = refl
came_same w p e c (RequestOf r) h = absurd (cc)
came_same w p e c (InvalidatedOf names) h = absurd (cc)
came_same w p e c (PageRequestOf r) h = absurd (cc)
came_same w p e c (MarkerOf b) h = absurd (cc)
came_same w p e c ResetDone h = refl

sends_same : (p : Endpoint) (x : Subject) → is_to_unit x ≡ false → delivery_sends p (Some x) ≡ delivery_sends (reopened p) (Some x)
sends_same p (StartOf b) h = refl
sends_same p (StopOf b) h = refl
sends_same p FunctionReset h = refl
sends_same p (CompletionOf r found) h = refl
sends_same p (InvalidateOf k) h = refl
sends_same p (ResponseOf g code) h = refl
sends_same p (RequestOf r) h = absurd (cc)
sends_same p (InvalidatedOf names) h = absurd (cc)
sends_same p (PageRequestOf r) h = absurd (cc)
sends_same p (MarkerOf b) h = absurd (cc)
sends_same p ResetDone h = refl

-- a delivery's reply, by what is in flight, what is permitted, what is sent and what comes of it
abbrev delivery : World → (number : ℕ) → (flies permitted sends : Bool) → Outcome → Reply
delivery w n flies permitted sends o =
    (checked
    ((not (Labels.is_number w w.messages n && flies), refusal.NoSuchMessage)
    ∷ (not permitted, refusal.Overtakes)
    ∷ (sends && Labels.lacks w w.messages 1, refusal.NumbersSpent)
    ∷ [])
    o).reply

abbrev delivery_of : World → (number : ℕ) → Endpoint → Option Subject → Reply
delivery_of w n p x =
    delivery w n (is_some x) (Labels.is_permitted_now p (Labels.name w n) x) (delivery_sends p x)
    (deliver_outcome (at w p) p (w.link_of (Labels.name w n)) (Labels.name w n) x)

delivered_same : (w : World) (n : ℕ) (p : Endpoint) (x : Subject) → is_to_unit x ≡ false
    → delivery_of w n p (Some x) ≡ delivery_of w n (reopened p) (Some x)
delivered_same w n p x h =
    let c = Labels.name w n in
    let e = w.link_of c in
    ap (λ b. delivery w n true b (delivery_sends p (Some x)) (deliver_outcome (at w p) p e c (Some x))) (permitted_same p c x)
    ∙ ap (λ b. delivery w n true (Labels.is_permitted (reopened p) c x) b (deliver_outcome (at w p) p e c (Some x))) (sends_same p x h)
    ∙ ap (λ o. delivery w n true (Labels.is_permitted (reopened p) c x) (delivery_sends (reopened p) (Some x)) o) (came_same w p e c x h)

came : (w : World) (n e : ℕ) (x : Subject) → w.link_of (Labels.name w n) ≡ e → (w.part e).message (Labels.name w n) ≡ Some x → is_to_unit x ≡ false
    → reply w (step.Deliver n) ≡ reply (with_open w e) (step.Deliver n)
came w n e x link speaks down =
    subst (λ d. reply w (step.Deliver n) ≡ reply (with_open w d) (step.Deliver n)) link
    (at_its_endpoint (subst (λ d. (w.part d).message (Labels.name w n) ≡ Some x) (sym link) speaks))
  where
    d : ℕ
    d = w.link_of (Labels.name w n)

    at_its_endpoint : (w.part d).message (Labels.name w n) ≡ Some x → reply w (step.Deliver n) ≡ reply (with_open w d) (step.Deliver n)
    at_its_endpoint flies =
        ap (delivery_of w n (w.part d)) flies ∙ delivered_same w n (w.part d) x down
        ∙ ap (delivery_of w n (reopened (w.part d))) (sym flies)
        ∙ ap (λ p. reply (at w p) (step.Deliver n)) (there w d)

pub always_answers : (rule : PasidRule) (config : Config) (steps : List Step) (e : ℕ) → AnswersInReset (world_after rule config steps) e
always_answers rule config steps e =
    let w = world_after rule config steps in
    record { done = λ s own names. done w s e own names; delivered = λ n x link speaks down. came w n e x link speaks down }
