-- For a config of one endpoint both rules of PASIDs give the same answers.
use Rattle.std.proofs.Common.{◌≡◌, ◌≢◌, refl, ap, sym, ◌∙◌, ℕ, suc, ◌<◌, Bool, true, false, arith}
use Rattle.std.specs.Prelude.{Option, Some, None, option_map, not, ◌+◌, ◌==◌, ◌&&◌, nat_lt, nat_le, length, if◌then◌else◌, List, [], ◌∷◌, Err}
use Rattle.std.proofs.lemmas.Bool.{eqb-true}
use Rattle.sva_step.specs.declared.answers.Answer.TheVariants as answer
use Rattle.sva_step.specs.declared.limits.Config.{Config}
use Rattle.sva_step.specs.declared.refusals.Refusal.TheVariants as refusal
use Rattle.sva_step.specs.declared.steps.Step.{Step}
use Rattle.sva_step.specs.declared.steps.Step.TheVariants as step
use Rattle.sva_model.specs.Words.{find, select, count_below, lowest, is_some, holds_of, the}
use Rattle.sva_model.specs.Message.{Code}
use Rattle.sva_model.specs.State.{MappingState, Stage, Subject, Endpoint, World, opened}
use Rattle.sva_model.specs.State.PasidRule.{PerEndpoint, PerSpace}
use Rattle.sva_model.specs.State.MappingState.{Unmade, Present, Gone}
use Rattle.sva_model.specs.State.Stage.{Unbound, Live, Stopping, Draining, Invalidating, Quiet, Lost, Released}
use Rattle.sva_model.specs.State.Subject.{StartOf, StopOf, FunctionReset, CompletionOf, InvalidateOf, ResponseOf, RequestOf, InvalidatedOf, PageRequestOf}
use Rattle.sva_model.specs.State.Subject.{MarkerOf, ResetDone}
use Rattle.sva_model.specs.States.{is_open, place, place_at, place_by, is_free, is_free_place}
use Rattle.sva_model.specs.Acts.{Act, LocalAct, act}
use Rattle.sva_model.specs.Acts.Act.{NewSpace, DropSpace, Map, Unmap, NewBinding, NewJob, Hold, LetGo, AtEndpoint}
use Rattle.sva_model.specs.Labels
use Rattle.sva_model.specs.Replies.{replies_success, newly_mapped, maps_to, is_write_asked, job_space, response_to, reply_maps, responds}
use Rattle.sva_model.specs.Replies.{is_write_of_read_only}
use Rattle.sva_model.specs.Refusals.{Cause, refusals, page_range, no_such_binding, no_such_worker, no_such_endpoint, no_such_space, resetting}
use Rattle.sva_model.specs.Refusals.{messages_spent, advance_refusals, unbind_refusals}
use Rattle.sva_model.specs.Outcomes.{Outcome, outcome, at_one, found_for, map_outcome, bind_outcome, advance_outcome, reply_outcome, completion_message}
use Rattle.sva_model.specs.Outcomes.{request_outcome, subject_outcome, deliver_outcome, look_answer, says, bearer_answer}
use Rattle.sva_model.specs.Steps.{checked, decide, next, reply, replies, after_acts}
use Rattle.sva_labels.proofs.Words.{find_passes, holds_the, any_below-true, any_below-intro}
use Rattle.sva_laws.proofs.Invariant.{Invariant}
use Rattle.sva_laws.proofs.Passed.{not_bound_at}
use Rattle.sva_laws.proofs.Runs.{next_keeps, opened_invariant}
use Rattle.sva_laws.proofs.Withheld.{config_next, rule_next}
use Rattle.sva_labels.proofs.Tests.{is_less, same_bool}

-- the same world, under the rule of one PASID for each space
abbrev by_space : World → World
by_space w = record w { rule = PerSpace }

-- What doesn't ask the rule is the same.

place_by_same : (w : World) (z : MappingState) → place_by (by_space w) z ≡ place_by w z
place_by_same w Unmade = refl
place_by_same w Present = refl
place_by_same w (Gone owed) = refl

place_at_same : (w : World) (o : Option ℕ) → place_at (by_space w) o ≡ place_at w o
place_at_same w None = refl
place_at_same w (Some m) = place_by_same w (w.mappings.state m)

place_same : (w : World) (f : ℕ) → place (by_space w) f ≡ place w f
place_same w f = place_at_same w (w.mappings.latest f)

free_same : (w : World) → is_free (by_space w) ≡ is_free w
free_same w = λ i f. is_free_place (place_same w f i)

advance_same : (w : World) (e b : ℕ) (s : Stage) → advance_outcome (by_space w) e b s ≡ advance_outcome w e b s
advance_same w e b Unbound = refl
advance_same w e b Live = refl
advance_same w e b (Stopping m) = refl
advance_same w e b (Draining x) = refl
advance_same w e b (Invalidating k x) = refl
advance_same w e b Quiet = refl
advance_same w e b Lost = refl
advance_same w e b Released = refl

reply_same : (w : World) (x j : ℕ) (maps : List Act) (o : Option Code) → reply_outcome (by_space w) x j maps o ≡ reply_outcome w x j maps o
reply_same w x j maps None = refl
reply_same w x j maps (Some code) = refl

completion_same : (w : World) (tag : ℕ) (o : Option ℕ) → completion_message (by_space w) tag o ≡ completion_message w tag o
completion_same w tag None = refl
completion_same w tag (Some m) = refl

request_same : (w : World) (p : Endpoint) (e c r : ℕ) (b : Bool) → request_outcome (by_space w) p e c r b ≡ request_outcome w p e c r b
request_same w p e c r true =
    ap (λ m. at_one answer.Completion e (LocalAct.Complete c r (found_for w p r) m)) (completion_same w (p.request_tag r) (found_for w p r))
request_same w p e c r false = refl

subject_same : (w : World) (p : Endpoint) (e c : ℕ) (a : Subject) → subject_outcome (by_space w) p e c a ≡ subject_outcome w p e c a
subject_same w p e c (StartOf b) = refl
subject_same w p e c (StopOf b) = refl
subject_same w p e c FunctionReset = refl
subject_same w p e c (CompletionOf r found) = refl
subject_same w p e c (InvalidateOf k) = refl
subject_same w p e c (ResponseOf g code) = refl
subject_same w p e c (RequestOf r) = request_same w p e c r (is_open p.phase)
subject_same w p e c (InvalidatedOf names) = refl
subject_same w p e c (PageRequestOf r) = refl
subject_same w p e c (MarkerOf b) = refl
subject_same w p e c ResetDone = refl

deliver_same : (w : World) (p : Endpoint) (e c : ℕ) (o : Option Subject) → deliver_outcome (by_space w) p e c o ≡ deliver_outcome w p e c o
deliver_same w p e c None = refl
deliver_same w p e c (Some a) = subject_same w p e c a

bearer_same : (w : World) (t : ℕ) (b : Bool) → bearer_answer (by_space w) t b ≡ bearer_answer w t b
bearer_same w t true = refl
bearer_same w t false = refl

unbind_refusals_same : (w : World) (e : ℕ) (s : Stage) → unbind_refusals (by_space w) e s ≡ unbind_refusals w e s
unbind_refusals_same w e Unbound = refl
unbind_refusals_same w e Live = refl
unbind_refusals_same w e (Stopping m) = refl
unbind_refusals_same w e (Draining x) = refl
unbind_refusals_same w e (Invalidating k x) = refl
unbind_refusals_same w e Quiet = refl
unbind_refusals_same w e Lost = refl
unbind_refusals_same w e Released = refl

advance_refusals_same : (w : World) (e b : ℕ) (s : Stage) → advance_refusals (by_space w) e b s ≡ advance_refusals w e b s
advance_refusals_same w e b Unbound = refl
advance_refusals_same w e b Live = refl
advance_refusals_same w e b (Stopping m) = refl
advance_refusals_same w e b (Draining x) = refl
advance_refusals_same w e b (Invalidating k x) = refl
advance_refusals_same w e b Quiet = refl
advance_refusals_same w e b Lost = refl
advance_refusals_same w e b Released = refl

-- The PASID of a new binding.

none_passes : (p : ℕ → Bool) → ((t : ℕ) → p t ≢ true) → Labels.lowest_pasid p ≡ None
none_passes p h = go (find 32 (λ t. p (suc t))) refl
  where
    go : (o : Option ℕ) → find 32 (λ t. p (suc t)) ≡ o → option_map suc o ≡ None
    go None e = refl
    go (Some k) e = absurd (h (suc k) (find_passes 32 (λ t. p (suc t)) k e).1)

-- one endpoint: each that is below the number of endpoints is the other
one_of : (n d e : ℕ) → n ≡ 1 → d < n → e < n → d ≡ e
one_of n d e one l m = omega (arith, one, l, m)

no_own : (w : World) (e s : ℕ) → w.config.endpoints ≡ 1 → e < w.config.endpoints → Invariant w → Labels.is_bound_at w s e ≡ false → (t : ℕ)
    → Labels.is_borne_by w s t ≢ true
no_own w e s one there i unbound t h =
    let d = any_below-true w.config.endpoints (λ x. holds_of (λ b. (w.part x).space b == s) ((w.part x).at_pasid t)) h in
    let c = holds_the (λ b. (w.part d.0).space b == s) ((w.part d.0).at_pasid t) d.2 in
    let bears = (i.parts d.0).labels.pasid_bears t (the ((w.part d.0).at_pasid t)) c.0 in
    let same = one_of w.config.endpoints e d.0 one there d.1 in
    not_bound_at w s d.0 i (sym (ap (λ z. Labels.is_bound_at w s z) same) ∙ unbound) (the ((w.part d.0).at_pasid t)) bears.1
    (eqb-true ((w.part d.0).space (the ((w.part d.0).at_pasid t))) s c.1)

borne_there : (w : World) (e t : ℕ) → w.config.endpoints ≡ 1 → e < w.config.endpoints → Labels.is_borne w t ≡ Labels.is_borne_at (w.part e) t
borne_there w e t one there =
    same_bool (Labels.is_borne w t) (Labels.is_borne_at (w.part e) t)
    (λ h. let d = any_below-true w.config.endpoints (λ x. Labels.is_borne_at (w.part x) t) h in ap (λ z. Labels.is_borne_at (w.part z) t)
    (one_of w.config.endpoints e d.0 one there d.1) ∙ d.2)
    (λ h. any_below-intro w.config.endpoints (λ x. Labels.is_borne_at (w.part x) t) e there h)

pasid_same : (w : World) (e s : ℕ) → w.rule ≡ PerEndpoint → w.config.endpoints ≡ 1 → e < w.config.endpoints → Invariant w → Labels.is_bound_at w s e
    ≡ false → Labels.pasid_for (by_space w) e s ≡ Labels.pasid_for w e s
pasid_same w e s r one there i unbound =
    ap (λ o. Labels.or_else o (Labels.lowest_pasid (λ t. not (Labels.is_borne w t))))
    (none_passes (Labels.is_borne_by w s) (no_own w e s one there i unbound))
    ∙ ap Labels.lowest_pasid (λ k t. not (borne_there w e t one there k))
    ∙ ap (λ z. Labels.pasid_by z w e s) (sym r)

-- where an earlier cause holds, the causes behind it don't matter
behind : (c : Cause) (cs ds : List Cause) (o u : Outcome) → (c.0 ≡ false → checked cs o ≡ checked ds u) → checked (c ∷ cs) o ≡ checked (c ∷ ds) u
behind c cs ds o u h = go c.0 refl
  where
    go : (b : Bool) → c.0 ≡ b → (if b then record { reply = Err c.1; acts = [] } else checked cs o)
        ≡ (if b then record { reply = Err c.1; acts = [] } else checked ds u)
    go true e = refl
    go false e = h e

-- the causes of a Bind behind that of a binding that is there
abbrev bind_rest : World → Option ℕ → List Cause
bind_rest w o = (not (is_some o), refusal.NoPasid) ∷ (Labels.lacks w w.bindings 1, refusal.NumbersSpent) ∷ messages_spent w 1 ∷ []

bind_same : (w : World) (e n : ℕ) → w.rule ≡ PerEndpoint → w.config.endpoints ≡ 1 → Invariant w → decide (by_space w) (step.Bind e n)
    ≡ decide w (step.Bind e n)
bind_same w e n r one i =
    let s = Labels.name w n in
    let bound : Cause = (Labels.is_bound_at w s e, refusal.AlreadyBound) in
    let mine = bind_rest w (Labels.pasid_for (by_space w) e s) in
    let its = bind_rest w (Labels.pasid_for w e s) in
    let o = bind_outcome w e s (the (Labels.pasid_for (by_space w) e s)) in
    let u = bind_outcome w e s (the (Labels.pasid_for w e s)) in
    behind (no_such_endpoint w e) (no_such_space w n ∷ resetting w e ∷ bound ∷ mine) (no_such_space w n ∷ resetting w e ∷ bound ∷ its) o u
    (λ there.
    behind (no_such_space w n) (resetting w e ∷ bound ∷ mine) (resetting w e ∷ bound ∷ its) o u
    (λ live.
    behind (resetting w e) (bound ∷ mine) (bound ∷ its) o u
    (λ opened.
    behind bound mine its o u
    (λ unbound. ap (λ z. checked (bind_rest w z) (bind_outcome w e s (the z))) (pasid_same w e s r one (is_less e w.config.endpoints there) i unbound)))))

both : (cs ds : List Cause) (o u : Outcome) → cs ≡ ds → o ≡ u → checked cs o ≡ checked ds u
both cs ds o u h k = ap (λ z. checked z o) h ∙ ap (checked ds) k

decide_same : (w : World) (s : Step) → w.rule ≡ PerEndpoint → w.config.endpoints ≡ 1 → Invariant w → decide (by_space w) s ≡ decide w s
decide_same w step.Space r one i = refl
decide_same w (step.DropSpace n) r one i = refl
decide_same w (step.Map n q x) r one i =
    both (refusals (by_space w) (step.Map n q x)) (refusals w (step.Map n q x)) (outcome (by_space w) (step.Map n q x)) (outcome w (step.Map n q x))
    (ap
    (λ g.
    no_such_space w n ∷ page_range q 1
    ∷ (Labels.is_mapped w (Labels.name w n) q, refusal.Mapped)
    ∷ (nat_le 1024 (Labels.pages_of w (Labels.name w n)), refusal.SpaceFull)
    ∷ (lowest w.config.frames g == w.config.frames, refusal.NoFrame)
    ∷ [])
    (free_same w))
    (ap (λ g. map_outcome w (Labels.name w n) q x (lowest w.config.frames g)) (free_same w))
decide_same w (step.Unmap n q count) r one i = refl
decide_same w (step.UnmapRange n q order) r one i = refl
decide_same w (step.Bind e n) r one i = bind_same w e n r one i
decide_same w (step.Unbind n) r one i =
    both (refusals (by_space w) (step.Unbind n)) (refusals w (step.Unbind n)) (outcome (by_space w) (step.Unbind n)) (outcome w (step.Unbind n))
    (ap (λ z. no_such_binding w n ∷ z)
    (unbind_refusals_same w (w.endpoint_of (Labels.name w n)) ((w.part (w.endpoint_of (Labels.name w n))).stage (Labels.name w n)))) refl
decide_same w (step.Advance n) r one i =
    both (refusals (by_space w) (step.Advance n)) (refusals w (step.Advance n)) (outcome (by_space w) (step.Advance n)) (outcome w (step.Advance n))
    (ap (λ z. no_such_binding w n ∷ z)
    (advance_refusals_same w (w.endpoint_of (Labels.name w n)) (Labels.name w n) ((w.part (w.endpoint_of (Labels.name w n))).stage (Labels.name w n))))
    (advance_same w (w.endpoint_of (Labels.name w n)) (Labels.name w n) ((w.part (w.endpoint_of (Labels.name w n))).stage (Labels.name w n)))
decide_same w (step.Pump e) r one i = refl
decide_same w (step.Serve e) r one i = refl
decide_same w (step.Reset e) r one i = refl
decide_same w (step.Take x) r one i = refl
decide_same w (step.Reply x v) r one i =
    let j = the (w.hand x) in
    both (refusals (by_space w) (step.Reply x v)) (refusals w (step.Reply x v)) (outcome (by_space w) (step.Reply x v)) (outcome w (step.Reply x v))
    (ap
    (λ g.
    no_such_worker w x ∷ (not (is_some (w.hand x)), refusal.NoJob)
    ∷ (replies_success w j v && is_write_of_read_only w j, refusal.BadVerdict)
    ∷ (replies_success w j v && nat_lt (count_below w.config.frames g) (length (newly_mapped w j)), refusal.NoFrame)
    ∷ (replies_success w j v && nat_lt 1024 (Labels.pages_of w (job_space w j) + length (newly_mapped w j)), refusal.SpaceFull)
    ∷ (responds w j && Labels.lacks w w.messages 1, refusal.NumbersSpent)
    ∷ [])
    (free_same w))
    (reply_same w x j (reply_maps (by_space w) j v) (response_to w j v)
    ∙ ap (λ g. reply_outcome w x j
    (if replies_success w j v then maps_to (job_space w j) (is_write_asked w j) (newly_mapped w j) (select w.config.frames g) else [])
    (response_to w j v)) (free_same w))
decide_same w (step.Ask e t q) r one i = refl
decide_same w (step.BeginUse e t q x) r one i = refl
decide_same w (step.EndUse e u) r one i = refl
decide_same w (step.Evict e t q) r one i = refl
decide_same w (step.Fault e t q rd x group l) r one i = refl
decide_same w (step.Finish e vector count) r one i = refl
decide_same w (step.Quit e t) r one i = refl
decide_same w (step.Deliver n) r one i =
    ap (λ z. checked (refusals w (step.Deliver n)) z)
    (deliver_same w (w.part (w.link_of (Labels.name w n))) (w.link_of (Labels.name w n)) (Labels.name w n)
    ((w.part (w.link_of (Labels.name w n))).message (Labels.name w n)))
decide_same w (step.Look f) r one i = ap (λ z. checked (refusals w (step.Look f)) (says (look_answer z) [])) (place_same w f)
decide_same w (step.Bearer t) r one i = ap (λ z. checked (refusals w (step.Bearer t)) (says z [])) (bearer_same w t (Labels.is_borne w t))

-- The next world.

act_same : (w : World) (a : Act) → act (by_space w) a ≡ by_space (act w a)
act_same w NewSpace = refl
act_same w (DropSpace s) = refl
act_same w (Map s q f x) = refl
act_same w (Unmap s q count order) = refl
act_same w (NewBinding e) = refl
act_same w (NewJob e g) = refl
act_same w (Hold x j) = refl
act_same w (LetGo x) = refl
act_same w (AtEndpoint e o) = refl

acts_same : (acts : List Act) (w : World) → after_acts (by_space w) acts ≡ by_space (after_acts w acts)
acts_same [] w = refl
acts_same (a ∷ acts) w = ap (λ v. after_acts v acts) (act_same w a) ∙ acts_same acts (act w a)

next_same : (w : World) (s : Step) → w.rule ≡ PerEndpoint → w.config.endpoints ≡ 1 → Invariant w → next (by_space w) s ≡ by_space (next w s)
next_same w s r one i = ap (λ d. after_acts (by_space w) d.acts) (decide_same w s r one i) ∙ acts_same (decide w s).acts w

replies_same : (ss : List Step) (w : World) → w.rule ≡ PerEndpoint → w.config.endpoints ≡ 1 → Invariant w → replies (by_space w) ss ≡ replies w ss
unfolding replies
replies_same [] w r one i = refl
replies_same (s ∷ ss) w r one i =
    ap (λ z. z ∷ replies (next (by_space w) s) ss) (ap (λ d. d.reply) (decide_same w s r one i))
    ∙ ap (λ v. reply w s ∷ replies v ss) (next_same w s r one i)
    ∙ ap (λ z. reply w s ∷ z) (replies_same ss (next w s) (rule_next w s ∙ r) (ap (λ c. c.endpoints) (config_next w s) ∙ one) (next_keeps w s i))

pub one_endpoint : (c : Config) (steps : List Step) → c.endpoints ≡ 1 → replies (opened PerEndpoint c) steps ≡ replies (opened PerSpace c) steps
one_endpoint c steps one = sym (replies_same steps (opened PerEndpoint c) refl one (opened_invariant PerEndpoint c))
