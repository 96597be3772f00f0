-- The first cause that holds is answered; and what a step names that isn't there comes first.
use Rattle.std.proofs.Common.{◌≡◌, ◌≢◌, ◌⊎◌, ◌↔◌, inl, inr, refl, ap, sym, ◌∙◌, ℕ, ◌+◌, ◌<◌, ◌≤◌, Bool, true, false, arith}
use Rattle.std.proofs.lemmas.Bool.{cases_lt}
use Rattle.std.proofs.lemmas.Bool.Decides.{nat_tests}
use Rattle.std.specs.Prelude.{None, ◌^◌, not, nat_lt, nat_le, if◌then◌else◌, List, [], ◌∷◌, Err}
use Rattle.sva_step.specs.declared.limits.Config.{Config}
use Rattle.sva_step.specs.declared.refusals.Refusal.{Refusal}
use Rattle.sva_step.specs.declared.refusals.Refusal.TheVariants as refusal
use Rattle.sva_step.specs.declared.steps.Step.{Step}
use Rattle.sva_step.specs.declared.steps.Step.TheVariants as step
use Rattle.sva_step.specs.Limits
use Rattle.sva_model.specs.Words.{is_some}
use Rattle.sva_model.specs.State.{PasidRule, World}
use Rattle.sva_model.specs.States.{is_unreleased}
use Rattle.sva_model.specs.Labels
use Rattle.sva_model.specs.Refusals.{Cause, no_such_binding, no_such_endpoint, no_such_space, no_such_worker, refusals}
use Rattle.sva_model.specs.Outcomes.{Outcome, outcome}
use Rattle.sva_model.specs.Steps.{Reply, checked, reply, world_after}
use Rattle.sva_laws.specs.Causes.{IsNoBinding, IsNoEndpoint, IsNoSpace, IsNoWorker, IsPastPages}
use Rattle.sva_laws.specs.EndpointCauses.{IsNoMessage}
use Rattle.sva_laws.specs.FirstCauses.{AnswersFirst, DoesHold, IsFirst}
use Rattle.sva_labels.proofs.Tests.{first_holds, second_holds}
use Rattle.sva_laws.proofs.Refused.{is_at_most}

-- Lists of causes.

abbrev refused : Refusal → Reply
refused r = Err r

same_refusal : (a b : Refusal) → refused a ≡ refused b → a ≡ b
same_refusal a b h = cc

-- what is answered of a list, once its first cause was asked
abbrev answered : Bool → Cause → List Cause → Outcome → Reply
answered b c cs o = (if b then record { reply = Err c.1; acts = [] } else checked cs o).reply

first_is : (cs : List Cause) (o : Outcome) (r : Refusal) → ((checked cs o).reply ≡ Err r) ↔ IsFirst r cs
first_is [] o r = ((λ h. absurd (cc)), (λ h. absurd h))
first_is (c ∷ cs) o r = go c.0 refl (first_is cs o r)
  where
    held : c.0 ≡ true → ((c.0 ≡ true) × (c.1 ≡ r)) ⊎ ((c.0 ≡ false) × IsFirst r cs) → refused c.1 ≡ refused r
    held e (inl h) = ap refused h.1
    held e (inr h) = absurd (cc (sym e ∙ h.0))

    passed : c.0 ≡ false → (IsFirst r cs → (checked cs o).reply ≡ Err r) → ((c.0 ≡ true) × (c.1 ≡ r)) ⊎ ((c.0 ≡ false) × IsFirst r cs)
        → (checked cs o).reply ≡ Err r
    passed e rest (inl h) = absurd (cc (sym e ∙ h.0))
    passed e rest (inr h) = rest h.1

    go : (b : Bool) → c.0 ≡ b → (((checked cs o).reply ≡ Err r) ↔ IsFirst r cs) → (answered b c cs o ≡ Err r) ↔ IsFirst r (c ∷ cs)
    go true e rest = ((λ h. inl (e, same_refusal c.1 r h)), (λ h. held e h))
    go false e rest = ((λ h. inr (e, rest.0 h)), (λ h. passed e rest.1 h))

holding : (r : Refusal) (cs : List Cause) → IsFirst r cs → DoesHold cs
holding r [] h = absurd h
holding r (c ∷ cs) (inl h) = inl h.0
holding r (c ∷ cs) (inr h) = inr (holding r cs h.1)

refuses : (cs : List Cause) (o : Outcome) → DoesHold cs → (r : Refusal) × ((checked cs o).reply ≡ Err r)
refuses [] o h = absurd h
refuses (c ∷ cs) o h = go c.0 refl (refuses cs o)
  where
    rest_holds : c.0 ≡ false → (c.0 ≡ true) ⊎ DoesHold cs → DoesHold cs
    rest_holds e (inl k) = absurd (cc (sym e ∙ k))
    rest_holds e (inr k) = k

    go : (b : Bool) → c.0 ≡ b → (DoesHold cs → (r : Refusal) × ((checked cs o).reply ≡ Err r)) → (r : Refusal) × (answered b c cs o ≡ Err r)
    go true e rest = (c.1, refl)
    go false e rest = rest (rest_holds e h)

-- The first cause of a step, and its second.

first_of : (w : World) (s : Step) (c : Cause) (cs : List Cause) → refusals w s ≡ c ∷ cs → c.0 ≡ true → reply w s ≡ Err c.1
first_of w s c cs is h = ap (λ l. (checked l (outcome w s)).reply) is ∙ ap (λ b. answered b c cs (outcome w s)) h

second_of : (w : World) (s : Step) (c d : Cause) (cs : List Cause) → refusals w s ≡ c ∷ d ∷ cs → c.0 ≡ false → d.0 ≡ true → reply w s ≡ Err d.1
second_of w s c d cs is h k =
    ap (λ l. (checked l (outcome w s)).reply) is
    ∙ ap (λ b. answered b c (d ∷ cs) (outcome w s)) h
    ∙ ap (λ b. answered b d cs (outcome w s)) k

-- What a name says.

past : (a b : ℕ) → b ≤ a → not (nat_lt a b) ≡ true
past a b h = grind (arith, nat_tests)

within : (a b : ℕ) → (b ≤ a → ⊥) → not (nat_lt a b) ≡ false
within a b h = go (cases_lt a b)
  where
    go : (a < b) ⊎ (b ≤ a) → not (nat_lt a b) ≡ false
    go (inl l) = grind (arith, nat_tests)
    go (inr l) = absurd (h l)

-- a test that gives a contradiction where it holds
never : (b : Bool) → (b ≡ true → ⊥) → not b ≡ true
never true h = absurd (h refl)
never false h = refl

renamed : (w : World) (count n : ℕ) → Labels.is_number w count n ≡ true → Labels.number w (Labels.name w n) ≡ n
renamed w count n h =
    let l : w.config.first ≤ n =
    is_at_most w.config.first n (first_holds (nat_le w.config.first n) (nat_lt (Labels.name w n) count) h) in
    omega (arith, l)

no_space : (w : World) (n : ℕ) → ((s : ℕ) → Labels.number w s ≡ n → w.is_live s ≢ true) → not (Labels.is_space w n) ≡ true
no_space w n none =
    never (Labels.is_space w n)
    (λ h. none (Labels.name w n) (renamed w w.spaces n (first_holds (Labels.is_number w w.spaces n) (w.is_live (Labels.name w n)) h))
    (second_holds (Labels.is_number w w.spaces n) (w.is_live (Labels.name w n)) h))

no_binding : (w : World) (n : ℕ) → ((b : ℕ) → Labels.number w b ≡ n → is_unreleased ((w.part (w.endpoint_of b)).stage b) ≢ true)
    → not (Labels.is_binding w n) ≡ true
no_binding w n none =
    let b = Labels.name w n in
    let live = is_unreleased ((w.part (w.endpoint_of b)).stage b) in
    never (Labels.is_binding w n)
    (λ h. none b (renamed w w.bindings n (first_holds (Labels.is_number w w.bindings n) live h)) (second_holds (Labels.is_number w w.bindings n) live h))

no_message : (w : World) (n : ℕ) → ((c : ℕ) → Labels.number w c ≡ n → (w.part (w.link_of c)).message c ≡ None) → not (Labels.is_in_flight w n) ≡ true
no_message w n none =
    let c = Labels.name w n in
    let flies = is_some ((w.part (w.link_of c)).message c) in
    never (Labels.is_in_flight w n)
    (λ h. absurd (cc (sym (second_holds (Labels.is_number w w.messages n) flies h)
    ∙ ap is_some (none c (renamed w w.messages n (first_holds (Labels.is_number w w.messages n) flies h))))))

-- Each step.

endpoint : (w : World) (s : Step) → IsNoEndpoint w s → reply w s ≡ Err refusal.NoSuchEndpoint
endpoint w (step.Bind e t) h = first_of w (step.Bind e t) (no_such_endpoint w e) _ refl (past e w.config.endpoints h)
endpoint w (step.Pump e) h = first_of w (step.Pump e) (no_such_endpoint w e) _ refl (past e w.config.endpoints h)
endpoint w (step.Serve e) h = first_of w (step.Serve e) (no_such_endpoint w e) _ refl (past e w.config.endpoints h)
endpoint w (step.Reset e) h = first_of w (step.Reset e) (no_such_endpoint w e) _ refl (past e w.config.endpoints h)
endpoint w (step.Ask e t q) h = first_of w (step.Ask e t q) (no_such_endpoint w e) _ refl (past e w.config.endpoints h)
endpoint w (step.BeginUse e t q x) h = first_of w (step.BeginUse e t q x) (no_such_endpoint w e) _ refl (past e w.config.endpoints h)
endpoint w (step.EndUse e t) h = first_of w (step.EndUse e t) (no_such_endpoint w e) _ refl (past e w.config.endpoints h)
endpoint w (step.Evict e t q) h = first_of w (step.Evict e t q) (no_such_endpoint w e) _ refl (past e w.config.endpoints h)
endpoint w (step.Fault e t q r x g l) h = first_of w (step.Fault e t q r x g l) (no_such_endpoint w e) _ refl (past e w.config.endpoints h)
endpoint w (step.Finish e v n) h = first_of w (step.Finish e v n) (no_such_endpoint w e) _ refl (past e w.config.endpoints h)
endpoint w (step.Quit e t) h = first_of w (step.Quit e t) (no_such_endpoint w e) _ refl (past e w.config.endpoints h)
endpoint w s h = absurd (grind arith)

binding : (w : World) (s : Step) → IsNoBinding w s → reply w s ≡ Err refusal.NoSuchBinding
binding w (step.Unbind n) h = first_of w (step.Unbind n) (no_such_binding w n) _ refl (no_binding w n h)
binding w (step.Advance n) h = first_of w (step.Advance n) (no_such_binding w n) _ refl (no_binding w n h)
binding w s h = absurd (grind arith)

worker : (w : World) (s : Step) → IsNoWorker w s → reply w s ≡ Err refusal.NoSuchWorker
worker w (step.Take x) h = first_of w (step.Take x) (no_such_worker w x) _ refl (past x w.config.workers h)
worker w (step.Reply x v) h = first_of w (step.Reply x v) (no_such_worker w x) _ refl (past x w.config.workers h)
worker w s h = absurd (grind arith)

message : (w : World) (s : Step) → IsNoMessage w s → reply w s ≡ Err refusal.NoSuchMessage
message w (step.Deliver n) h = first_of w (step.Deliver n) (not (Labels.is_in_flight w n), refusal.NoSuchMessage) _ refl (no_message w n h)
message w s h = absurd (grind arith)

space : (w : World) (s : Step) → IsNoSpace w s → (IsNoEndpoint w s → ⊥) → reply w s ≡ Err refusal.NoSuchSpace
space w (step.DropSpace n) h there = first_of w (step.DropSpace n) (no_such_space w n) _ refl (no_space w n h)
space w (step.Map n q x) h there = first_of w (step.Map n q x) (no_such_space w n) _ refl (no_space w n h)
space w (step.Unmap n q c) h there = first_of w (step.Unmap n q c) (no_such_space w n) _ refl (no_space w n h)
space w (step.UnmapRange n q o) h there = first_of w (step.UnmapRange n q o) (no_such_space w n) _ refl (no_space w n h)
space w (step.Bind e n) h there =
    second_of w (step.Bind e n) (no_such_endpoint w e) (no_such_space w n) _ refl (within e w.config.endpoints there) (no_space w n h)
space w s h there = absurd (grind arith)

-- more pages than there are
over : (a b : ℕ) → a < b → nat_lt a b ≡ true
over a b h = grind (arith, nat_tests)

pages : (w : World) (s : Step) → IsPastPages s → DoesHold (refusals w s)
pages w (step.Map n q x) h = inr (inl (over Limits.page_numbers (q + 1) h))
pages w (step.Unmap n q c) h = inr (inr (inl (over Limits.page_numbers (q + c) h)))
pages w (step.UnmapRange n q o) h = inr (inr (inl (over Limits.page_numbers (q + 2 ^ o) h)))
pages w (step.Ask e t q) h = inr (inl (over Limits.page_numbers (q + 1) h))
pages w (step.BeginUse e t q x) h = inr (inl (over Limits.page_numbers (q + 1) h))
pages w (step.Evict e t q) h = inr (inl (over Limits.page_numbers (q + 1) h))
pages w (step.Fault e t q r x g l) h = inr (inl (over Limits.page_numbers (q + 1) h))
pages w s h = absurd (grind arith)

answers : (w : World) (s : Step) → AnswersFirst w s
answers w s =
    record {
      refused = ((λ h. holding h.0 (refusals w s) ((first_is (refusals w s) (outcome w s) h.0).0 h.1)), refuses (refusals w s) (outcome w s));
      first = λ r. first_is (refusals w s) (outcome w s) r;
      endpoint = endpoint w s;
      binding = binding w s;
      worker = worker w s;
      message = message w s;
      space = space w s;
      pages = λ h. refuses (refusals w s) (outcome w s) (pages w s h);
    }

pub always_first : (rule : PasidRule) (config : Config) (steps : List Step) (s : Step) → AnswersFirst (world_after rule config steps) s
always_first rule config steps s = answers (world_after rule config steps) s
