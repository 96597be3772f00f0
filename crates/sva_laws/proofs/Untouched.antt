-- What a step at an endpoint leaves as it was.
use Rattle.std.proofs.Common.{◌≡◌, ◌≢◌, ◌⊎◌, inl, inr, refl, ap, sym, subst, ◌∙◌, ℕ, ◌<◌, Bool, true, false, arith}
use Rattle.std.specs.Prelude.{Option, Some, None, ◌&&◌, ◌||◌, ◌==◌, List, [], ◌∷◌, ◌++◌, if◌then◌else◌, Ok}
use Rattle.std.proofs.lemmas.Bool.Decides.{nat_tests}
use Rattle.std.proofs.lemmas.Bool.{not-false}
use Rattle.sva_step.specs.declared.answers.Answer.{Answer}
use Rattle.sva_step.specs.declared.answers.Answer.TheVariants as answer
use Rattle.sva_step.specs.declared.limits.Config.{Config}
use Rattle.sva_step.specs.declared.steps.Step.{Step}
use Rattle.sva_step.specs.declared.steps.Step.TheVariants as step
use Rattle.sva_model.specs.Words.{put, the}
use Rattle.sva_model.specs.Message.{Code}
use Rattle.sva_model.specs.Message.Code.{SuccessCode, InvalidCode, FailureCode}
use Rattle.sva_model.specs.State.{PasidRule, Mappings, Subject, RequestState, GroupState, Stage, Endpoint, World}
use Rattle.sva_model.specs.State.Subject.{StopOf, CompletionOf, InvalidateOf, ResponseOf, RequestOf, MarkerOf, ResetDone}
use Rattle.sva_model.specs.State.RequestState.{Out, Doomed, Over}
use Rattle.sva_model.specs.State.GroupState.{Awaiting, Stale}
use Rattle.sva_model.specs.State.Stage.{Unbound, Invalidating, Quiet, Lost, Released}
use Rattle.sva_model.specs.States.{covers, drains}
use Rattle.sva_model.specs.Unmappings.{submitted_if, submits, bound, cookie_of}
use Rattle.sva_model.specs.StateChanges.{none_if, is_replaced, doom_if, stale_if, disables, cut_off}
use Rattle.sva_model.specs.Acts.{Act, LocalAct, act, act_alone}
use Rattle.sva_model.specs.Acts.Act.{NewSpace, DropSpace, Map, Unmap, NewBinding, NewJob, Hold, LetGo, AtEndpoint}
use Rattle.sva_model.specs.Labels
use Rattle.sva_model.specs.Refusals.{refusals}
use Rattle.sva_model.specs.Outcomes.{outcome, subject_outcome, deliver_outcome, completion_outcome, keep_outcome, is_full}
use Rattle.sva_model.specs.Steps.{reply, decide, next, after_acts, world_after}
use Rattle.sva_laws.specs.UnitSteps.{Delivers}
use Rattle.sva_laws.specs.Untouched.{LosesMessage, Evicts, Takes, Brings, Stops, Quits, Asks, Disables, CutsOff, DrainsOnce}
use Rattle.sva_labels.proofs.Tests.{both_same}
use Rattle.sva_labels.proofs.Words.{put-same, put-other}
use Rattle.sva_laws.proofs.Submitted.{old_order}
use Rattle.sva_laws.proofs.Legal.{LegalLocalAct}
use Rattle.sva_laws.proofs.Invariant.{Invariant}
use Rattle.sva_laws.proofs.Keeps.{put_keeps}
use Rattle.sva_laws.proofs.Runs.{always, act_legal}
use Rattle.sva_laws.proofs.Lookback.{after_one}
use Rattle.sva_laws.proofs.Told.{accepted}
use Rattle.sva_laws.proofs.LegalEndpoint.{Cached, cached_is}
use Rattle.sva_laws.proofs.StepKinds.{IsBy, Kind, is_calm, is_calm_own, are_calm, step_kind}
use Rattle.sva_laws.proofs.StepKinds.Kind.{calm, single, unmapping}
use Rattle.sva_laws.proofs.UnitSteps.{delivered, delivers, part_after, reopens}
use Rattle.sva_laws.proofs.PartRuns.{IsKeptByParts}
use Rattle.sva_laws.proofs.FrontExact.{part_later}

-- a table with one row replaced
abbrev Row : {A : Type 0} → (ℕ → A) → (ℕ → A) → ℕ → A → Type 0
Row f g i v = (g i ≡ v) × ((k : ℕ) → k ≢ i → g k ≡ f k)

row_put : {A : Type 0} (f : ℕ → A) (i : ℕ) (v : A) → Row f (put f i v) i v
row_put f i v = (put-same f i v, λ k ne. put-other f i v k ne)

-- What an accepted step of an endpoint makes of it.

accepted_part : (w : World) (s : Step) (e : ℕ) (o : LocalAct) (said : Answer) → reply w s ≡ Ok said → (outcome w s).acts ≡ AtEndpoint e o ∷ []
    → (next w s).part e ≡ act_alone (w.part e) w.messages o
accepted_part w s e o said h acts = part_after w s e o ((accepted (refusals w s) (outcome w s) said h).2 ∙ acts)

-- at the world after the step
pub later_part : (rule : PasidRule) (config : Config) (steps : List Step) (s : Step) (e : ℕ) (P : Endpoint → Type 0)
    → P ((next (world_after rule config steps) s).part e) → P ((world_after rule config (steps ++ s ∷ [])).part e)
later_part rule config steps s e P h = subst (λ v. P (v.part e)) (sym (after_one rule config steps s)) h

-- The message that is delivered, or sent.

loses : (p q : Endpoint) (c : ℕ) (x : Subject) → p.message c ≡ Some x → q.message ≡ put p.message c None → LosesMessage p q x
loses p q c x m e =
    record {
      number = c;
      spoke = m;
      gone = ap (λ f. f c) e ∙ put-same p.message c None;
      others = λ d ne. ap (λ f. f d) e ∙ put-other p.message c None d ne;
    }

-- a message that isn't sent yet isn't in flight
unsent : (rule : PasidRule) (config : Config) (steps : List Step) (e : ℕ)
    → ((world_after rule config steps).part e).message (world_after rule config steps).messages ≡ None
unsent rule config steps e = ((always rule config steps).parts e).resets.unsent (world_after rule config steps).messages (omega arith)

-- An evict.

own_evicts : (p : Endpoint) (n t q : ℕ) → Cached p t q → Evicts p (act_alone p n (LocalAct.Evict (Labels.cached p (Labels.bearer p t) q))) t q
own_evicts p n t q c =
    let r = Labels.cached p (Labels.bearer p t) q in
    record {
      request = r;
      mapping = the (p.held r);
      was_cached = c.held;
      of_bearer = c.binding;
      of_page = c.page;
      gone = put-same p.held r None;
      others = λ k ne. put-other p.held r None k ne;
      alone = refl;
    }

pub always_evicts : (rule : PasidRule) (config : Config) (steps : List Step) (e t q : ℕ) (said : Answer)
    → reply (world_after rule config steps) (step.Evict e t q) ≡ Ok said
    → Evicts ((world_after rule config steps).part e) ((world_after rule config (steps ++ step.Evict e t q ∷ [])).part e) t q
always_evicts rule config steps e t q said h =
    let w = world_after rule config steps in
    let p = w.part e in
    let yes = accepted (refusals w (step.Evict e t q)) (outcome w (step.Evict e t q)) said h in
    later_part rule config steps (step.Evict e t q) e (λ z. Evicts p z t q)
    (subst (λ z. Evicts p z t q)
    (sym (accepted_part w (step.Evict e t q) e (LocalAct.Evict (Labels.cached p (Labels.bearer p t) q)) said h refl))
    (own_evicts p w.messages t q (cached_is p t q (not-false (Labels.is_cached p t q) yes.0.1.1.0))))

-- An invalidation that is taken.

own_takes : (p : Endpoint) (n c k : ℕ) → p.message c ≡ Some (InvalidateOf k) → Takes p (act_alone p n (LocalAct.Take c k)) k
own_takes p n c k m =
    record {
      dropped = λ r h. ap (λ b. none_if b (p.held r)) h;
      kept = λ r h. ap (λ b. none_if b (p.held r)) h;
      doomed = λ r h o. ap (λ b. doom_if b (p.request r)) h ∙ ap (doom_if true) o;
      not_out = λ r ne. not_doomed (covers (p.order k) (p.request_binding r) (p.request_page r)) (p.request r) ne;
      not_doomed = λ r h. ap (λ b. doom_if b (p.request r)) h;
      taken = put-same p.order_state k _;
      other_orders = λ j ne. put-other p.order_state k _ j ne;
      delivered = loses p (act_alone p n (LocalAct.Take c k)) c (InvalidateOf k) m refl;
      alone = refl;
    }
  where
    not_doomed : (b : Bool) (s : RequestState) → s ≢ Out → doom_if b s ≡ s
    not_doomed true Out ne = absurd (ne refl)
    not_doomed true Doomed ne = refl
    not_doomed true Over ne = refl
    not_doomed false s ne = refl

pub always_takes : (rule : PasidRule) (config : Config) (steps : List Step) (s : Step) (e k : ℕ)
    → Delivers (world_after rule config steps) s e (InvalidateOf k)
    → Takes ((world_after rule config steps).part e) ((world_after rule config (steps ++ s ∷ [])).part e) k
always_takes rule config steps s e k d =
    let w = world_after rule config steps in
    let c = Labels.name w d.number in
    later_part rule config steps s e (λ z. Takes (w.part e) z k)
    (subst (λ z. Takes (w.part e) z k) (sym (part_after w s e (LocalAct.Take c k) (delivered w s e (InvalidateOf k) d)))
    (own_takes (w.part e) w.messages c k d.speaks))

-- A translation completion.

act_alone_keeps : (p : Endpoint) (n c r m : ℕ) → p.message c ≡ Some (CompletionOf r (Some m))
    → Brings p (act_alone p n (LocalAct.Keep c r m)) r (Some m) answer.Held
act_alone_keeps p n c r m flies =
    record {
      kept = λ h. (m, refl, put-same (λ x. none_if (is_replaced p r x) (p.held x)) r (Some m));
      replaced = λ h x ne b q.
          put-other (λ y. none_if (is_replaced p r y) (p.held y)) r (Some m) x ne
          ∙ ap (λ t. none_if t (p.held x)) (both_same (p.request_binding x) (p.request_binding r) (p.request_page x) (p.request_page r) b q);
      others = λ h x ne d.
          put-other (λ y. none_if (is_replaced p r y) (p.held y)) r (Some m) x ne
          ∙ ap (λ t. none_if t (p.held x)) (is_other (p.request_binding x) (p.request_binding r) (p.request_page x) (p.request_page r) d);
      not_kept = λ h. absurd (h refl);
      over = put-same p.request r Over;
      other_requests = λ x ne. put-other p.request r Over x ne;
      freed = λ ne. put-same p.at_tag (p.request_tag r) None;
      other_tags = λ t ne. put-other p.at_tag (p.request_tag r) None t ne;
      delivered = loses p (act_alone p n (LocalAct.Keep c r m)) c (CompletionOf r (Some m)) flies refl;
      alone = refl;
    }
  where
    is_other : (a b x y : ℕ) → (a ≢ b) ⊎ (x ≢ y) → (a == b && x == y) ≡ false
    is_other a b x y h = grind (arith, nat_tests)

own_forgets : (p : Endpoint) (n c r : ℕ) (found : Option ℕ) (said : Answer) → p.message c ≡ Some (CompletionOf r found) → said ≢ answer.Held
    → Brings p (act_alone p n (LocalAct.Forget c r)) r found said
own_forgets p n c r found said flies ne =
    record {
      kept = λ h. absurd (ne h);
      replaced = λ h. absurd (ne h);
      others = λ h. absurd (ne h);
      not_kept = λ h x. refl;
      over = put-same p.request r Over;
      other_requests = λ x d. put-other p.request r Over x d;
      freed = λ out. put-same p.at_tag (p.request_tag r) None;
      other_tags = λ t d. put-other p.at_tag (p.request_tag r) None t d;
      delivered = loses p (act_alone p n (LocalAct.Forget c r)) c (CompletionOf r found) flies refl;
      alone = refl;
    }

own_ignores : (p : Endpoint) (n c r : ℕ) (found : Option ℕ) (said : Answer) → p.message c ≡ Some (CompletionOf r found) → p.request r ≡ Over
    → said ≢ answer.Held → Brings p (act_alone p n (LocalAct.Ignore c)) r found said
own_ignores p n c r found said flies over ne =
    record {
      kept = λ h. absurd (ne h);
      replaced = λ h. absurd (ne h);
      others = λ h. absurd (ne h);
      not_kept = λ h x. refl;
      over = over;
      other_requests = λ x d. refl;
      freed = λ out. absurd (out over);
      other_tags = λ t d. refl;
      delivered = loses p (act_alone p n (LocalAct.Ignore c)) c (CompletionOf r found) flies refl;
      alone = refl;
    }

-- by the act of the outcome
abbrev Leaves : (p q : Endpoint) (n e : ℕ) → List Act → Type 0
Leaves p q n e acts = (o : LocalAct) → acts ≡ AtEndpoint e o ∷ [] → q ≡ act_alone p n o

keep_brings : (p q : Endpoint) (n e c r m : ℕ) (said : Answer) (b : Bool) → p.message c ≡ Some (CompletionOf r (Some m))
    → (keep_outcome e c r m b).answer ≡ said → Leaves p q n e (keep_outcome e c r m b).acts → Brings p q r (Some m) said
keep_brings p q n e c r m said true flies h f =
    subst (λ z. Brings p z r (Some m) said) (sym (f (LocalAct.Forget c r) refl))
    (own_forgets p n c r (Some m) said flies (λ k. absurd (cc (h ∙ k))))
keep_brings p q n e c r m said false flies h f =
    subst (λ z. Brings p q r (Some m) z) h
    (subst (λ z. Brings p z r (Some m) answer.Held) (sym (f (LocalAct.Keep c r m) refl)) (act_alone_keeps p n c r m flies))

completion_brings : (p q : Endpoint) (n e c r : ℕ) (found : Option ℕ) (said : Answer) (x : RequestState) → p.request r ≡ x
    → p.message c ≡ Some (CompletionOf r found) → (completion_outcome p e c r found x).answer ≡ said
    → Leaves p q n e (completion_outcome p e c r found x).acts → Brings p q r found said
completion_brings p q n e c r (Some m) said Out is flies h f = keep_brings p q n e c r m said (is_full p r) flies h f
completion_brings p q n e c r None said Out is flies h f =
    subst (λ z. Brings p z r None said) (sym (f (LocalAct.Forget c r) refl)) (own_forgets p n c r None said flies (λ k. absurd (cc (h ∙ k))))
completion_brings p q n e c r (Some m) said Doomed is flies h f =
    subst (λ z. Brings p z r (Some m) said) (sym (f (LocalAct.Forget c r) refl))
    (own_forgets p n c r (Some m) said flies (λ k. absurd (cc (h ∙ k))))
completion_brings p q n e c r None said Doomed is flies h f =
    subst (λ z. Brings p z r None said) (sym (f (LocalAct.Forget c r) refl)) (own_forgets p n c r None said flies (λ k. absurd (cc (h ∙ k))))
completion_brings p q n e c r (Some m) said Over is flies h f =
    subst (λ z. Brings p z r (Some m) said) (sym (f (LocalAct.Ignore c) refl))
    (own_ignores p n c r (Some m) said flies is (λ k. absurd (cc (h ∙ k))))
completion_brings p q n e c r None said Over is flies h f =
    subst (λ z. Brings p z r None said) (sym (f (LocalAct.Ignore c) refl)) (own_ignores p n c r None said flies is (λ k. absurd (cc (h ∙ k))))

-- what a delivery answers
said_by : (w : World) (s : Step) (e : ℕ) (subject : Subject) (said : Answer) → (d : Delivers w s e subject) → reply w s ≡ Ok said
    → (subject_outcome w (w.part e) e (Labels.name w d.number) subject).answer ≡ said
said_by w s e subject said d h =
    sym (ap (λ z. (deliver_outcome w (w.part z) z (Labels.name w d.number) ((w.part z).message (Labels.name w d.number))).answer) d.link_is
    ∙ ap (λ z. (deliver_outcome w (w.part e) e (Labels.name w d.number) z).answer) d.speaks)
    ∙ (accepted (refusals w (step.Deliver d.number)) (outcome w (step.Deliver d.number)) said (sym (ap (reply w) d.step_is) ∙ h)).1

pub always_brings : (rule : PasidRule) (config : Config) (steps : List Step) (s : Step) (e r : ℕ) (found : Option ℕ) (said : Answer)
    → Delivers (world_after rule config steps) s e (CompletionOf r found) → reply (world_after rule config steps) s ≡ Ok said
    → Brings ((world_after rule config steps).part e) ((world_after rule config (steps ++ s ∷ [])).part e) r found said
always_brings rule config steps s e r found said d h =
    let w = world_after rule config steps in
    let p = w.part e in
    let c = Labels.name w d.number in
    later_part rule config steps s e (λ z. Brings p z r found said)
    (completion_brings p ((next w s).part e) w.messages e c r found said (p.request r) refl d.speaks (said_by w s e (CompletionOf r found) said d h)
    (λ o acts. part_after w s e o (delivered w s e (CompletionOf r found) d ∙ acts)))

-- A Stop that arrives.

own_stops : (p : Endpoint) (n c b : ℕ) → p.message c ≡ Some (StopOf b) → Stops p (act_alone p n (LocalAct.Stop_arrives c b)) b
own_stops p n c b m =
    record {
      ending = put-same p.pasid_state b _;
      others = λ d ne. put-other p.pasid_state b _ d ne;
      delivered = loses p (act_alone p n (LocalAct.Stop_arrives c b)) c (StopOf b) m refl;
      alone = refl;
    }

pub always_stops : (rule : PasidRule) (config : Config) (steps : List Step) (s : Step) (e b : ℕ)
    → Delivers (world_after rule config steps) s e (StopOf b)
    → Stops ((world_after rule config steps).part e) ((world_after rule config (steps ++ s ∷ [])).part e) b
always_stops rule config steps s e b d =
    let w = world_after rule config steps in
    let c = Labels.name w d.number in
    later_part rule config steps s e (λ z. Stops (w.part e) z b)
    (subst (λ z. Stops (w.part e) z b) (sym (part_after w s e (LocalAct.Stop_arrives c b) (delivered w s e (StopOf b) d)))
    (own_stops (w.part e) w.messages c b d.speaks))

-- A quit.

own_quits : (p : Endpoint) (n t : ℕ) → p.message n ≡ None → Quits p (act_alone p n (LocalAct.Quit (Labels.bearer p t))) t
own_quits p n t fresh =
    let b = Labels.bearer p t in
    record {
      off = put-same p.pasid_state b _;
      others = λ d ne. put-other p.pasid_state b _ d ne;
      stale = λ g a w. stale (p.asker g) b (p.group g) a w;
      other_groups = λ g h. other (p.asker g) b (p.group g) h;
      marker = record {
        number = n;
        fresh = fresh;
        speaks = put-same p.message n (Some (MarkerOf b));
        others = λ c ne. (put-other p.message n (Some (MarkerOf b)) c ne, put-other p.carried n _ c ne);
      };
      alone = refl;
    }
  where
    stale : (a b : ℕ) (s : GroupState) → a ≡ b → s ≡ Awaiting → stale_if (a == b) s ≡ Stale
    stale a b s h w = grind (arith, nat_tests)

    other : (a b : ℕ) (s : GroupState) → (a ≢ b) ⊎ (s ≢ Awaiting) → stale_if (a == b) s ≡ s
    other a b s h = grind (arith, nat_tests)

pub always_quits : (rule : PasidRule) (config : Config) (steps : List Step) (e t : ℕ) (said : Answer)
    → reply (world_after rule config steps) (step.Quit e t) ≡ Ok said
    → Quits ((world_after rule config steps).part e) ((world_after rule config (steps ++ step.Quit e t ∷ [])).part e) t
always_quits rule config steps e t said h =
    let w = world_after rule config steps in
    later_part rule config steps (step.Quit e t) e (λ z. Quits (w.part e) z t)
    (subst (λ z. Quits (w.part e) z t)
    (sym (accepted_part w (step.Quit e t) e (LocalAct.Quit (Labels.bearer (w.part e) t)) said h refl))
    (own_quits (w.part e) w.messages t (unsent rule config steps e)))

-- A translation request that is sent.

own_asks : (p : Endpoint) (n t q tag : ℕ) → p.message n ≡ None → Asks p (act_alone p n (LocalAct.Ask (Labels.bearer p t) q tag)) t q
own_asks p n t q tag fresh =
    let given : put p.request_tag p.requests tag p.requests ≡ tag = put-same p.request_tag p.requests tag in
    record {
      out = put-same p.request p.requests _;
      of_bearer = put-same p.request_binding p.requests _;
      of_page = put-same p.request_page p.requests _;
      older = λ r ne. (
        put-other p.request p.requests _ r ne,
        put-other p.request_binding p.requests _ r ne,
        put-other p.request_page p.requests _ r ne,
        put-other p.request_tag p.requests _ r ne,
        put-other p.request_message p.requests _ r ne,
      );
      tagged = ap (put p.at_tag tag (Some p.requests)) given ∙ put-same p.at_tag tag (Some p.requests);
      other_tags = λ k ne. put-other p.at_tag tag (Some p.requests) k (λ same. ne (same ∙ sym given));
      asked = record {
        number = n;
        fresh = fresh;
        speaks = put-same p.message n (Some (RequestOf p.requests));
        others = λ c ne. (put-other p.message n (Some (RequestOf p.requests)) c ne, put-other p.carried n _ c ne);
      };
      alone = refl;
    }

pub always_asks : (rule : PasidRule) (config : Config) (steps : List Step) (e t q : ℕ) (said : Answer)
    → reply (world_after rule config steps) (step.Ask e t q) ≡ Ok said
    → Asks ((world_after rule config steps).part e) ((world_after rule config (steps ++ step.Ask e t q ∷ [])).part e) t q
always_asks rule config steps e t q said h =
    let w = world_after rule config steps in
    let tag = Labels.lowest_label 32 (w.part e).at_tag in
    later_part rule config steps (step.Ask e t q) e (λ z. Asks (w.part e) z t q)
    (subst (λ z. Asks (w.part e) z t q)
    (sym (accepted_part w (step.Ask e t q) e (LocalAct.Ask (Labels.bearer (w.part e) t) q tag) said h refl))
    (own_asks (w.part e) w.messages t q tag (unsent rule config steps e)))

-- The page request interface.

calm_own : (p : Endpoint) (n : ℕ) (o : LocalAct) → is_calm_own o ≡ true → (act_alone p n o).is_disabled ≡ p.is_disabled
calm_own p n o h = grind arith

calm_act : (w : World) (a : Act) → is_calm a ≡ true → (e : ℕ) → ((act w a).part e).is_disabled ≡ (w.part e).is_disabled
calm_act w NewSpace h e = refl
calm_act w (DropSpace s) h e = refl
calm_act w (Map s q f x) h e = refl
calm_act w (Unmap s q count order) h e = absurd (cc)
calm_act w (NewBinding d) h e = refl
calm_act w (NewJob d g) h e = refl
calm_act w (Hold x j) h e = refl
calm_act w (LetGo x) h e = refl
calm_act w (AtEndpoint d o) h e =
    put_keeps (λ x q. q.is_disabled ≡ (w.part x).is_disabled) w.part d (act_alone (w.part d) w.messages o) (calm_own (w.part d) w.messages o h) (λ x. refl) e

pub calm_acts : (acts : List Act) (w : World) → are_calm acts ≡ true → (e : ℕ) → ((after_acts w acts).part e).is_disabled ≡ (w.part e).is_disabled
calm_acts [] w h e = refl
calm_acts (a ∷ acts) w h e = go (is_calm a) refl h (λ k. calm_acts acts (act w a) k e)
  where
    go : (b : Bool) → is_calm a ≡ b → (if b then are_calm acts else false) ≡ true
        → (are_calm acts ≡ true → ((after_acts (act w a) acts).part e).is_disabled ≡ ((act w a).part e).is_disabled)
        → ((after_acts (act w a) acts).part e).is_disabled ≡ (w.part e).is_disabled
    go true c h rest = rest h ∙ calm_act w a c e
    go false c h rest = absurd (cc)

pub same_submitted : (t : Bool) (p : Endpoint) (o : Option ℕ) (q count order cookie : ℕ) → (submitted_if t p o q count order cookie).is_disabled ≡ p.is_disabled
same_submitted true p (Some b) q count order cookie = refl
same_submitted true p None q count order cookie = refl
same_submitted false p o q count order cookie = refl

abbrev answers_group : LocalAct → Bool
answers_group (LocalAct.Answered c g code) = true
answers_group _ = false

other_disabled : (p : Endpoint) (n : ℕ) (o : LocalAct) → answers_group o ≡ false → (act_alone p n o).is_disabled ≡ true → p.is_disabled ≡ true
other_disabled p n o e h = grind arith

by_failure : (b : Bool) (code : Code) → (b || disables code) ≡ true → (b ≡ true) ⊎ (code ≡ FailureCode)
by_failure true code h = inl refl
by_failure false FailureCode h = inr refl
by_failure false SuccessCode h = absurd (cc)
by_failure false InvalidCode h = absurd (cc)

abbrev Disabled : World → Step → ℕ → Endpoint → Type 0
Disabled w s e q = q.is_disabled ≡ true → ((w.part e).is_disabled ≡ true) ⊎ ((g : ℕ) × Delivers w s e (ResponseOf g FailureCode))

own_disabled : (w : World) (s : Step) (e : ℕ) (o : LocalAct) (a : Answer) (b : Bool) → answers_group o ≡ b → reply w s ≡ Ok a → IsBy w s e o a
    → LegalLocalAct w.mappings w.bindings (w.part e) o → Disabled w s e (act_alone (w.part e) w.messages o)
own_disabled w s e o a false z h by l d = inl (other_disabled (w.part e) w.messages o z d)
own_disabled w s e (LocalAct.Answered c g code) a true z h by l d = go (by_failure (w.part e).is_disabled code d)
  where
    go : ((w.part e).is_disabled ≡ true) ⊎ (code ≡ FailureCode) → ((w.part e).is_disabled ≡ true) ⊎ ((x : ℕ) × Delivers w s e (ResponseOf x FailureCode))
    go (inl y) = inl y
    go (inr y) = inr (g, delivers w s e c a (ResponseOf g FailureCode) h by (l ∙ ap (λ k. Some (ResponseOf g k)) y))
own_disabled w s e o a true z h by l d = absurd (grind arith)

step_disabled : (w : World) (s : Step) (e : ℕ) → Invariant w → Disabled w s e ((next w s).part e)
step_disabled w s e i = go (step_kind w s)
  where
    go : Kind w s (decide w s) → Disabled w s e ((next w s).part e)
    go (calm h) = λ d. inl (sym (calm_acts (decide w s).acts w h e) ∙ d)
    go (single d o a x h by) =
        subst (λ z. Disabled w s e ((after_acts w z).part e)) (sym x)
        (put_keeps (λ k q. Disabled w s k q) w.part d (act_alone (w.part d) w.messages o)
        (own_disabled w s d o a (answers_group o) refl h by (act_legal w s d o i x).1.0) (λ k y. inl y) e)
    go (unmapping t q count order x) =
        subst (λ z. Disabled w s e ((after_acts w z).part e)) (sym x)
        (λ d. inl (sym (same_submitted (submits w t e) (w.part e) (bound w e t) q count order (cookie_of w t e)) ∙ d))

disables_now : (w : World) (s : Step) (e g : ℕ) → Delivers w s e (ResponseOf g FailureCode) → ((next w s).part e).is_disabled ≡ true
disables_now w s e g d =
    ap (λ p. p.is_disabled) (part_after w s e (LocalAct.Answered (Labels.name w d.number) g FailureCode) (delivered w s e (ResponseOf g FailureCode) d))
    ∙ or_true (w.part e).is_disabled
  where
    or_true : (b : Bool) → (b || true) ≡ true
    or_true true = refl
    or_true false = refl

pub always_disables : (rule : PasidRule) (config : Config) (steps : List Step) (s : Step) (e : ℕ)
    → Disables (world_after rule config steps) s e ((world_after rule config (steps ++ s ∷ [])).part e)
always_disables rule config steps s e =
    let w = world_after rule config steps in
    later_part rule config steps s e (λ z. Disables w s e z)
    (record { disabled = step_disabled w s e (always rule config steps); disables = λ g d. disables_now w s e g d })

-- A reset-done.

own_cuts_off : (p : Endpoint) (n c : ℕ) → CutsOff p (act_alone p n (LocalAct.Reopen c))
own_cuts_off p n c =
    record {
      live = λ b h. ap cut_off h;
      stopping = λ b m h. ap cut_off h;
      draining = λ b x h. ap cut_off h;
      invalidating = λ b k x h. ap cut_off h;
      others = λ b h. other (p.stage b) h;
    }
  where
    other : (s : Stage) → (s ≡ Unbound) ⊎ ((s ≡ Quiet) ⊎ ((s ≡ Lost) ⊎ (s ≡ Released))) → cut_off s ≡ s
    other s h = grind arith

pub always_cuts_off : (rule : PasidRule) (config : Config) (steps : List Step) (s : Step) (e : ℕ)
    → Delivers (world_after rule config steps) s e ResetDone
    → CutsOff ((world_after rule config steps).part e) ((world_after rule config (steps ++ s ∷ [])).part e)
always_cuts_off rule config steps s e d =
    let w = world_after rule config steps in
    later_part rule config steps s e (λ z. CutsOff (w.part e) z)
    (subst (λ z. CutsOff (w.part e) z) (sym (reopens w s e d)) (own_cuts_off (w.part e) w.messages (Labels.name w d.number)))

-- Waits that drain.

abbrev BehindPasid : Endpoint → Type 0
BehindPasid p = (b k x : ℕ) → p.stage b ≡ Invalidating k x → (x < p.orders) × (drains (p.order x) ≡ false)

behind_own : (ms : Mappings) (g n : ℕ) (p : Endpoint) (o : LocalAct) → LegalLocalAct ms g p o → (b k x : ℕ)
    → (p.stage b ≡ Invalidating k x → (x < p.orders) × (drains (p.order x) ≡ false)) → (act_alone p n o).stage b ≡ Invalidating k x
    → (x < (act_alone p n o).orders) × (drains ((act_alone p n o).order x) ≡ false)
behind_own ms g n p o l b k x old h = grind (arith, nat_tests)

behind_parts : IsKeptByParts BehindPasid
behind_parts =
    record {
      kept = λ w e o l i f h b k x. behind_own w.mappings w.bindings w.messages (w.part e) o l b k x (h b k x);
      more = λ p d q count order cookie h b k x st. let y = h b k x st in let m = y.0 in
          (omega (arith, m), ap drains (old_order p d q count order cookie x y.0) ∙ y.1);
    }

pub always_drains_once : (rule : PasidRule) (config : Config) (steps : List Step) (e : ℕ) → DrainsOnce ((world_after rule config steps).part e)
always_drains_once rule config steps e =
    record {
      draining = λ b x st. (((always rule config steps).parts e).orders.draining b x st).0;
      invalidating = λ b k x st. (part_later BehindPasid behind_parts rule config [] steps e (λ d j y s. absurd (cc)) b k x st).1;
    }
