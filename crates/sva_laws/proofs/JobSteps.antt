-- Jobs, hands and the host's groups agree after every step.
use Rattle.sva_model.specs.State.{PasidRule}
use Rattle.std.proofs.Common.{◌≡◌, ◌≢◌, ◌⊎◌, inl, inr, refl, ap, sym, ◌∙◌, ℕ, ◌<◌, Bool, true, false, arith}
use Rattle.std.specs.Prelude.{Option, Some, None, List, [], ◌∷◌, ◌++◌, if◌then◌else◌, Err}
use Rattle.std.proofs.lemmas.Bool.Decides.{nat_tests}
use Rattle.std.proofs.lemmas.Bool.{not-false}
use Rattle.sva_step.specs.declared.limits.Config.{Config}
use Rattle.sva_step.specs.declared.steps.Step.{Step}
use Rattle.sva_step.specs.declared.steps.Step.TheVariants as step
use Rattle.sva_step.specs.declared.steps.Verdict.{Verdict}
use Rattle.sva_model.specs.Words.{put, the, lowest, is_some}
use Rattle.sva_model.specs.Message.{Code}
use Rattle.sva_model.specs.State.{Endpoint, World, Stage, Order, Subject, RequestState, HostGroupState, opened}
use Rattle.sva_model.specs.State.Phase.{Open}
use Rattle.sva_model.specs.State.PageRequestState.{Arrived}
use Rattle.sva_model.specs.State.HostGroupState.{NotFiled, PartFiled, Job, InHand, Replied, Discarded, InHandDiscarded}
use Rattle.sva_model.specs.State.Stage.{Unbound, Live, Stopping, Draining, Invalidating, Quiet, Lost, Released}
use Rattle.sva_model.specs.State.Order.{RangeOf, PasidOf, Wait}
use Rattle.sva_model.specs.State.RequestState.{Out, Doomed, Over}
use Rattle.sva_model.specs.State.Subject.{StartOf, StopOf, FunctionReset, CompletionOf, InvalidateOf, ResponseOf, RequestOf, InvalidatedOf, PageRequestOf}
use Rattle.sva_model.specs.State.Subject.{MarkerOf, ResetDone}
use Rattle.sva_model.specs.Unmappings.{submitted_if, submits, bound, cookie_of}
use Rattle.sva_model.specs.StateChanges.{filed_as}
use Rattle.sva_model.specs.Acts.{Act, LocalAct, act, act_alone}
use Rattle.sva_model.specs.Acts.Act.{NewSpace, DropSpace, Map, Unmap, NewBinding, NewJob, Hold, LetGo, AtEndpoint}
use Rattle.sva_model.specs.Labels
use Rattle.sva_model.specs.Refusals.{Cause, refusals}
use Rattle.sva_model.specs.Replies.{maps_to, reply_maps, replies_success, newly_mapped, free_list, is_write_asked, job_space, response_to}
use Rattle.sva_model.specs.Outcomes.{Outcome, outcome, unbind_outcome, advance_outcome, pump_outcome, head_outcome, wait_outcome, send_outcome, may_pass}
use Rattle.sva_model.specs.Outcomes.{serve_outcome, file_outcome, take_outcome, reply_outcome, fault_outcome, subject_outcome, deliver_outcome}
use Rattle.sva_model.specs.Outcomes.{completion_outcome, keep_outcome, is_full, request_outcome, count_outcome, page_request_outcome, marker_outcome}
use Rattle.sva_model.specs.States.{is_open, is_outstanding}
use Rattle.sva_model.specs.Steps.{checked, decide, next, run, after_acts, world_after}
use Rattle.sva_labels.proofs.Words.{put-same, put-other, ℕ_cases, none_is, some_the}
use Rattle.sva_laws.proofs.PageRequests.{is_whole}
use Rattle.sva_laws.proofs.Groups.{whole_filed}
use Rattle.sva_laws.proofs.Invariant.{IsHeldBy, Invariant}
use Rattle.sva_laws.proofs.Keeps.{put_keeps}
use Rattle.sva_laws.proofs.Passed.{Passed, LegalAll}
use Rattle.sva_laws.proofs.LegalUnit as Unit_steps
use Rattle.sva_laws.proofs.Runs.{step_legal, next_keeps, opened_invariant}
use Rattle.sva_laws.proofs.OnTheWay.{OnTheWay, AllOn, acts_on, opened_on}
use Rattle.sva_laws.proofs.Jobs.{Jobs, Still, Others, is_past, unchanged, still_jobs, filed, taken, answered, is_answered}

abbrev pub JobsOf : World → Type 0
JobsOf w = Jobs w.jobs w.job w.hand (λ e. (w.part e).host_group)

-- acts that leave jobs and hands as they are
abbrev pub is_calm_own : LocalAct → Bool
is_calm_own (LocalAct.File r) = false
is_calm_own (LocalAct.Hand g x) = false
is_calm_own (LocalAct.Respond g code) = false
is_calm_own (LocalAct.Discard g) = false
is_calm_own _ = true

abbrev pub IsTrue : Bool → Type 0
IsTrue true = Unit {0}
IsTrue false = ⊥

true_is : (b : Bool) → IsTrue b → b ≡ true
true_is true h = refl
true_is false h = absurd h

abbrev pub IsCalm : Act → Type 0
IsCalm (NewJob e g) = ⊥
IsCalm (Hold x j) = ⊥
IsCalm (LetGo x) = ⊥
IsCalm (AtEndpoint e o) = IsTrue (is_calm_own o)
IsCalm _ = Unit {0}

abbrev pub AreCalm : List Act → Type 0
AreCalm [] = Unit {0}
AreCalm (a ∷ acts) = IsCalm a × AreCalm acts

-- a reset drops jobs and open groups, and leaves those in hand in their hands
own_job : (n : ℕ) (p : Endpoint) (o : LocalAct) → is_calm_own o ≡ true → (g : ℕ) → (act_alone p n o).host_group g ≡ Job → p.host_group g ≡ Job
own_job n p o c g h = grind arith

own_held : (n : ℕ) (p : Endpoint) (o : LocalAct) → is_calm_own o ≡ true → (g x : ℕ) → IsHeldBy ((act_alone p n o).host_group g) x → IsHeldBy (p.host_group g) x
own_held n p o c g x h = grind arith

own_past : (n : ℕ) (p : Endpoint) (o : LocalAct) → is_calm_own o ≡ true → (g : ℕ) → is_past (p.host_group g) ≡ true
    → is_past ((act_alone p n o).host_group g) ≡ true
own_past n p o c g h = grind arith

own_still : (n : ℕ) (p : Endpoint) (o : LocalAct) → is_calm_own o ≡ true → Still p.host_group (act_alone p n o).host_group
own_still n p o c = record { job = own_job n p o c; held = own_held n p o c; past = own_past n p o c }

submitted_still : (t : Bool) (p : Endpoint) (o : Option ℕ) (q count order cookie : ℕ) → Still p.host_group (submitted_if t p o q count order cookie).host_group
submitted_still true p (Some b) q count order cookie = unchanged p.host_group
submitted_still true p None q count order cookie = unchanged p.host_group
submitted_still false p o q count order cookie = unchanged p.host_group

act_calm : (w : World) (a : Act) → IsCalm a → JobsOf w → JobsOf (act w a)
act_calm w NewSpace c h = h
act_calm w (DropSpace s) c h = h
act_calm w (Map s q f x) c h = h
act_calm w (Unmap s q count order) c h =
    still_jobs w.jobs w.job w.hand (λ e. (w.part e).host_group) (λ e. ((act w (Unmap s q count order)).part e).host_group)
    (λ e. submitted_still (submits w s e) (w.part e) (bound w e s) q count order (cookie_of w s e)) h
act_calm w (NewBinding e) c h = h
act_calm w (NewJob e g) c h = absurd c
act_calm w (Hold x j) c h = absurd c
act_calm w (LetGo x) c h = absurd c
act_calm w (AtEndpoint e o) c h =
    still_jobs w.jobs w.job w.hand (λ d. (w.part d).host_group) (λ d. ((act w (AtEndpoint e o)).part d).host_group)
    (put_keeps (λ d p. Still (w.part d).host_group p.host_group) w.part e (act_alone (w.part e) w.messages o)
    (own_still w.messages (w.part e) o (true_is (is_calm_own o) c)) (λ d. unchanged (w.part d).host_group))
    h

acts_calm : (acts : List Act) (w : World) → AreCalm acts → JobsOf w → JobsOf (after_acts w acts)
acts_calm [] w c h = h
acts_calm (a ∷ acts) w c h = acts_calm acts (act w a) c.1 (act_calm w a c.0 h)

-- an act at one group of an endpoint
at_group : (part : ℕ → Endpoint) (e : ℕ) (p : Endpoint) (g : ℕ) (s : HostGroupState) → p.host_group ≡ put (part e).host_group g s
    → (put part e p e).host_group g ≡ s
at_group part e p g s i = ap (λ z. z.host_group g) (put-same part e p) ∙ ap (λ z. z g) i ∙ put-same (part e).host_group g s

others : (part : ℕ → Endpoint) (e : ℕ) (p : Endpoint) (g : ℕ) (s : HostGroupState) → p.host_group ≡ put (part e).host_group g s
    → Others (λ d. (part d).host_group) (λ d. (put part e p d).host_group) e g
others part e p g s i d f ne = go (ℕ_cases d e) ne
  where
    go : (d ≡ e) ⊎ (d ≢ e) → (d ≢ e) ⊎ (f ≢ g) → (put part e p d).host_group f ≡ (part d).host_group f
    go (inr a) b = ap (λ z. z.host_group f) (put-other part e p d a)
    go (inl a) (inl b) = absurd (b a)
    go (inl a) (inr b) =
        ap (λ z. (put part e p z).host_group f) a
        ∙ ap (λ z. z.host_group f) (put-same part e p)
        ∙ ap (λ z. z f) i
        ∙ put-other (part e).host_group g s f b
        ∙ sym (ap (λ z. (part z).host_group f) a)

-- Serve. What has arrived is of a group that isn't whole at the host, and that no reset has dropped.
pub not_past : (w : World) (e r : ℕ) → Invariant w → OnTheWay (w.part e) → (w.part e).phase ≡ Open → (w.part e).page_request r ≡ Arrived
    → is_past ((w.part e).host_group ((w.part e).group_of r)) ≡ false
not_past w e r i on ph a = go (p.host_group (p.group_of r)) refl
  where
    p : Endpoint
    p = w.part e

    out : is_outstanding (p.group (p.group_of r)) ≡ true
    out = (i.parts e).lasts.out r ph (inr a)

    whole : is_whole (p.host_group (p.group_of r)) ≡ true → ⊥
    whole h = whole_filed w.bindings p (i.parts e).bounds (i.parts e).lasts (p.group_of r) h r refl a

    go : (s : HostGroupState) → p.host_group (p.group_of r) ≡ s → is_past (p.host_group (p.group_of r)) ≡ false
    go NotFiled h = ap is_past h
    go PartFiled h = ap is_past h
    go Job h = absurd (whole (ap is_whole h))
    go (InHand v) h = absurd (whole (ap is_whole h))
    go Replied h = absurd (whole (ap is_whole h))
    go Discarded h = absurd (cc (sym out ∙ on.discarded (p.group_of r) ph h))
    go (InHandDiscarded v) h = absurd (cc (sym out ∙ (i.parts e).groups.discarded_over (p.group_of r) v ph h))

part_still : (n r : ℕ) (p : Endpoint) → p.is_last r ≡ false → is_past (p.host_group (p.group_of r)) ≡ false
    → Still p.host_group (act_alone p n (LocalAct.File r)).host_group
part_still n r p l e = record { job = λ g h. part_job g h; held = λ g x h. part_held g x h; past = λ g h. part_past g h }
  where
    part_job : (g : ℕ) → (act_alone p n (LocalAct.File r)).host_group g ≡ Job → p.host_group g ≡ Job
    part_job g h = grind (arith, nat_tests)

    part_held : (g x : ℕ) → IsHeldBy ((act_alone p n (LocalAct.File r)).host_group g) x → IsHeldBy (p.host_group g) x
    part_held g x h = grind (arith, nat_tests)

    part_past : (g : ℕ) → is_past (p.host_group g) ≡ true → is_past ((act_alone p n (LocalAct.File r)).host_group g) ≡ true
    part_past g h = grind (arith, nat_tests)

file_jobs : (w : World) (e r : ℕ) (b : Bool) → (w.part e).is_last r ≡ b → Invariant w → OnTheWay (w.part e)
    → LegalAll w (file_outcome e r ((w.part e).group_of r) b).acts → JobsOf w → JobsOf (after_acts w (file_outcome e r ((w.part e).group_of r) b).acts)
file_jobs w e r false last i on l h =
    still_jobs w.jobs w.job w.hand (λ d. (w.part d).host_group) (λ d. ((act w (AtEndpoint e (LocalAct.File r))).part d).host_group)
    (put_keeps (λ d p. Still (w.part d).host_group p.host_group) w.part e (act_alone (w.part e) w.messages (LocalAct.File r))
    (part_still w.messages r (w.part e) last (not_past w e r i on l.0.1.0.0 l.0.1.0.1)) (λ d. unchanged (w.part d).host_group))
    h
file_jobs w e r true last i on l h =
    let p = act_alone (w.part e) w.messages (LocalAct.File r) in
    let g = (w.part e).group_of r in
    let same : p.host_group ≡ put (w.part e).host_group g Job = ap (λ b. put (w.part e).host_group g (filed_as b)) last in
    filed w.jobs w.job w.hand (λ d. (w.part d).host_group) (λ d. (put w.part e p d).host_group) e g i.hands.made
    (not_past w e r i on l.0.1.0.0 l.0.1.0.1) (at_group w.part e p g Job same)
    (others w.part e p g Job same)
    h

serve_jobs : (w : World) (e : ℕ) (b : Bool) → Invariant w → OnTheWay (w.part e) → LegalAll w (serve_outcome (w.part e) e b).acts → JobsOf w
    → JobsOf (after_acts w (serve_outcome (w.part e) e b).acts)
serve_jobs w e true i on l h = h
serve_jobs w e false i on l h = file_jobs w e (Labels.oldest_arrived (w.part e)) ((w.part e).is_last (Labels.oldest_arrived (w.part e))) refl i on l h

-- Take
take_jobs : (w : World) (x j : ℕ) → w.hand x ≡ None → JobsOf w → JobsOf (after_acts w (take_outcome w x j).acts)
take_jobs w x j empty h =
    let e = (w.job j).endpoint in
    let g = (w.job j).group in
    let p = act_alone (w.part e) w.messages (LocalAct.Hand g x) in
    taken w.jobs w.job w.hand (λ d. (w.part d).host_group) (λ d. (put w.part e p d).host_group) x j empty (at_group w.part e p g (InHand x) refl)
    (others w.part e p g (InHand x) refl) h

-- Reply: pages are mapped, then the job is let go and its group answered or dropped
respond_jobs : (w : World) (x j : ℕ) (code : Code) → w.hand x ≡ Some j → JobsOf w
    → JobsOf (after_acts w (LetGo x ∷ AtEndpoint (w.job j).endpoint (LocalAct.Respond (w.job j).group code) ∷ []))
respond_jobs w x j code full h =
    let e = (w.job j).endpoint in
    let g = (w.job j).group in
    let p = act_alone (w.part e) w.messages (LocalAct.Respond g code) in
    answered w.jobs w.job w.hand (λ d. (w.part d).host_group) (λ d. (put w.part e p d).host_group) x j full
    (ap is_answered (at_group w.part e p g Replied refl)) (others w.part e p g Replied refl) h

discard_jobs : (w : World) (x j : ℕ) → w.hand x ≡ Some j → JobsOf w
    → JobsOf (after_acts w (LetGo x ∷ AtEndpoint (w.job j).endpoint (LocalAct.Discard (w.job j).group) ∷ []))
discard_jobs w x j full h =
    let e = (w.job j).endpoint in
    let g = (w.job j).group in
    let p = act_alone (w.part e) w.messages (LocalAct.Discard g) in
    answered w.jobs w.job w.hand (λ d. (w.part d).host_group) (λ d. (put w.part e p d).host_group) x j full
    (ap is_answered (at_group w.part e p g Discarded refl)) (others w.part e p g Discarded refl) h

maps_jobs : (s : ℕ) (write : ℕ → Bool) (qs fs : List ℕ) (w : World) (x j : ℕ) (code : Code) → w.hand x ≡ Some j → JobsOf w
    → JobsOf (after_acts w (maps_to s write qs fs ++ LetGo x ∷ AtEndpoint (w.job j).endpoint (LocalAct.Respond (w.job j).group code) ∷ []))
maps_jobs s write [] fs w x j code full h = respond_jobs w x j code full h
maps_jobs s write (q ∷ qs) [] w x j code full h = respond_jobs w x j code full h
maps_jobs s write (q ∷ qs) (f ∷ fs) w x j code full h = maps_jobs s write qs fs (act w (Map s q f (write q))) x j code full h

reply_jobs : (w : World) (x j : ℕ) (v : Verdict) (o : Option Code) → w.hand x ≡ Some j → JobsOf w
    → JobsOf (after_acts w (reply_outcome w x j (reply_maps w j v) o).acts)
reply_jobs w x j v None full h = discard_jobs w x j full h
reply_jobs w x j v (Some code) full h = go (replies_success w j v)
  where
    go : (b : Bool) → JobsOf
        (after_acts w ((if b then maps_to (job_space w j) (is_write_asked w j) (newly_mapped w j) (free_list w) else []) ++ LetGo x
        ∷ AtEndpoint (w.job j).endpoint (LocalAct.Respond (w.job j).group code) ∷ []))
    go true = maps_jobs (job_space w j) (is_write_asked w j) (newly_mapped w j) (free_list w) w x j code full h
    go false = respond_jobs w x j code full h

-- All other steps leave jobs and hands as they are.
unbind_calm : (e b : ℕ) (s : Stage) → AreCalm (unbind_outcome e b s).acts
unbind_calm e b Lost = (tt, tt)
unbind_calm e b Unbound = (tt, tt)
unbind_calm e b Live = (tt, tt)
unbind_calm e b (Stopping m) = (tt, tt)
unbind_calm e b (Draining x) = (tt, tt)
unbind_calm e b (Invalidating k x) = (tt, tt)
unbind_calm e b Quiet = (tt, tt)
unbind_calm e b Released = (tt, tt)

advance_calm : (w : World) (e b : ℕ) (s : Stage) → AreCalm (advance_outcome w e b s).acts
advance_calm w e b Lost = (tt, tt)
advance_calm w e b Unbound = (tt, tt)
advance_calm w e b Live = (tt, tt)
advance_calm w e b (Stopping m) = (tt, tt)
advance_calm w e b (Draining x) = (tt, tt)
advance_calm w e b (Invalidating k x) = (tt, tt)
advance_calm w e b Quiet = (tt, tt)
advance_calm w e b Released = (tt, tt)

wait_calm : (e k : ℕ) (t : Bool) → AreCalm (wait_outcome e k t).acts
wait_calm e k true = (tt, tt)
wait_calm e k false = tt

send_calm : (e k t : ℕ) (b : Bool) → AreCalm (send_outcome e k t b).acts
send_calm e k t true = (tt, tt)
send_calm e k t false = tt

head_calm : (p : Endpoint) (e k : ℕ) (o : Order) → AreCalm (head_outcome p e k o).acts
head_calm p e k (Wait cookie drain) = wait_calm e k (may_pass p drain)
head_calm p e k (RangeOf b q) = send_calm e k (Labels.lowest_label 32 p.at_itag) _
head_calm p e k (PasidOf b) = send_calm e k (Labels.lowest_label 32 p.at_itag) _

pump_calm : (p : Endpoint) (e : ℕ) (b : Bool) → AreCalm (pump_outcome p e b).acts
pump_calm p e true = tt
pump_calm p e false = head_calm p e (Labels.head p) (p.order (Labels.head p))

fault_calm : (p : Endpoint) (e t q : ℕ) (r x l : Bool) (o : Option ℕ) → AreCalm (fault_outcome p e t q r x l o).acts
fault_calm p e t q r x l None = (tt, tt)
fault_calm p e t q r x l (Some k) = (tt, tt)

keep_calm : (e c r m : ℕ) (b : Bool) → AreCalm (keep_outcome e c r m b).acts
keep_calm e c r m true = (tt, tt)
keep_calm e c r m false = (tt, tt)

completion_calm : (p : Endpoint) (e c r : ℕ) (o : Option ℕ) (s : RequestState) → AreCalm (completion_outcome p e c r o s).acts
completion_calm p e c r (Some m) Out = keep_calm e c r m (is_full p r)
completion_calm p e c r None Out = (tt, tt)
completion_calm p e c r (Some m) Doomed = (tt, tt)
completion_calm p e c r None Doomed = (tt, tt)
completion_calm p e c r (Some m) Over = (tt, tt)
completion_calm p e c r None Over = (tt, tt)

request_calm : (w : World) (p : Endpoint) (e c r : ℕ) (b : Bool) → AreCalm (request_outcome w p e c r b).acts
request_calm w p e c r true = (tt, tt)
request_calm w p e c r false = (tt, tt)

count_calm : (p : Endpoint) (e c : ℕ) (names : ℕ → Bool) (b : Bool) → AreCalm (count_outcome p e c names b).acts
count_calm p e c names true = (tt, tt)
count_calm p e c names false = (tt, tt)

page_request_calm : (e c r : ℕ) (b : Bool) → AreCalm (page_request_outcome e c r b).acts
page_request_calm e c r true = (tt, tt)
page_request_calm e c r false = (tt, tt)

marker_calm : (e c d : ℕ) (b : Bool) → AreCalm (marker_outcome e c d b).acts
marker_calm e c d true = (tt, tt)
marker_calm e c d false = (tt, tt)

subject_calm : (w : World) (p : Endpoint) (e c : ℕ) (a : Subject) → AreCalm (subject_outcome w p e c a).acts
subject_calm w p e c (StartOf b) = (tt, tt)
subject_calm w p e c (StopOf b) = (tt, tt)
subject_calm w p e c FunctionReset = (tt, tt)
subject_calm w p e c (CompletionOf r found) = completion_calm p e c r found (p.request r)
subject_calm w p e c (InvalidateOf k) = (tt, tt)
subject_calm w p e c (ResponseOf g code) = (tt, tt)
subject_calm w p e c (RequestOf r) = request_calm w p e c r (is_open p.phase)
subject_calm w p e c (InvalidatedOf names) = count_calm p e c names (is_open p.phase)
subject_calm w p e c (PageRequestOf r) = page_request_calm e c r (is_open p.phase)
subject_calm w p e c (MarkerOf b) = marker_calm e c b (is_open p.phase)
subject_calm w p e c ResetDone = (tt, tt)

deliver_calm : (w : World) (p : Endpoint) (e c : ℕ) (o : Option Subject) → AreCalm (deliver_outcome w p e c o).acts
deliver_calm w p e c None = tt
deliver_calm w p e c (Some a) = subject_calm w p e c a

outcome_jobs : (w : World) (s : Step) → Invariant w → AllOn w → Passed (refusals w s) → JobsOf w → JobsOf (after_acts w (outcome w s).acts)
outcome_jobs w step.Space i on p h = acts_calm (outcome w step.Space).acts w (tt, tt) h
outcome_jobs w (step.DropSpace n) i on p h = acts_calm (outcome w (step.DropSpace n)).acts w (tt, tt) h
outcome_jobs w (step.Map n q x) i on p h = acts_calm (outcome w (step.Map n q x)).acts w (tt, tt) h
outcome_jobs w (step.Unmap n q count) i on p h = acts_calm (outcome w (step.Unmap n q count)).acts w (tt, tt) h
outcome_jobs w (step.UnmapRange n q order) i on p h = acts_calm (outcome w (step.UnmapRange n q order)).acts w (tt, tt) h
outcome_jobs w (step.Bind e n) i on p h = acts_calm (outcome w (step.Bind e n)).acts w (tt, (tt, tt)) h
outcome_jobs w (step.Unbind n) i on p h =
    acts_calm (outcome w (step.Unbind n)).acts w
    (unbind_calm (w.endpoint_of (Labels.name w n)) (Labels.name w n) ((w.part (w.endpoint_of (Labels.name w n))).stage (Labels.name w n))) h
outcome_jobs w (step.Advance n) i on p h =
    acts_calm (outcome w (step.Advance n)).acts w
    (advance_calm w (w.endpoint_of (Labels.name w n)) (Labels.name w n) ((w.part (w.endpoint_of (Labels.name w n))).stage (Labels.name w n))) h
outcome_jobs w (step.Pump e) i on p h = acts_calm (outcome w (step.Pump e)).acts w (pump_calm (w.part e) e (Labels.is_queue_empty (w.part e))) h
outcome_jobs w (step.Serve e) i on p h = serve_jobs w e (Labels.is_page_queue_empty (w.part e)) i (on e) (Unit_steps.serve w e i p) h
outcome_jobs w (step.Reset e) i on p h = acts_calm (outcome w (step.Reset e)).acts w (tt, tt) h
outcome_jobs w (step.Take x) i on p h = take_jobs w x (lowest w.jobs (Labels.is_queued_job w)) (none_is (w.hand x) p.1.0) h
outcome_jobs w (step.Reply x v) i on p h =
    reply_jobs w x (the (w.hand x)) v (response_to w (the (w.hand x)) v) (some_the (w.hand x) (not-false (is_some (w.hand x)) p.1.0)) h
outcome_jobs w (step.Ask e t q) i on p h = acts_calm (outcome w (step.Ask e t q)).acts w (tt, tt) h
outcome_jobs w (step.BeginUse e t q x) i on p h = acts_calm (outcome w (step.BeginUse e t q x)).acts w (tt, tt) h
outcome_jobs w (step.EndUse e u) i on p h = acts_calm (outcome w (step.EndUse e u)).acts w (tt, tt) h
outcome_jobs w (step.Evict e t q) i on p h = acts_calm (outcome w (step.Evict e t q)).acts w (tt, tt) h
outcome_jobs w (step.Fault e t q r x group l) i on p h =
    acts_calm (outcome w (step.Fault e t q r x group l)).acts w (fault_calm (w.part e) e t q r x l group) h
outcome_jobs w (step.Finish e vector count) i on p h = acts_calm (outcome w (step.Finish e vector count)).acts w (tt, tt) h
outcome_jobs w (step.Quit e t) i on p h = acts_calm (outcome w (step.Quit e t)).acts w (tt, tt) h
outcome_jobs w (step.Deliver n) i on p h =
    acts_calm (outcome w (step.Deliver n)).acts w
    (deliver_calm w (w.part (w.link_of (Labels.name w n))) (w.link_of (Labels.name w n)) (Labels.name w n)
    ((w.part (w.link_of (Labels.name w n))).message (Labels.name w n))) h
outcome_jobs w (step.Look f) i on p h = acts_calm (outcome w (step.Look f)).acts w tt h
outcome_jobs w (step.Bearer t) i on p h = acts_calm (outcome w (step.Bearer t)).acts w tt h

checked_jobs : (w : World) (cs : List Cause) (o : Outcome) → JobsOf w → (Passed cs → JobsOf (after_acts w o.acts)) → JobsOf (after_acts w (checked cs o).acts)
checked_jobs w [] o h f = f tt
checked_jobs w (c ∷ cs) o h f = go (λ e. checked_jobs w cs o h (λ k. f (e, k))) c.0 refl
  where
    go : (c.0 ≡ false → JobsOf (after_acts w (checked cs o).acts)) → (b : Bool) → c.0 ≡ b
        → JobsOf (after_acts w (if b then record { reply = Err c.1; acts = [] } else checked cs o).acts)
    go rest true e = h
    go rest false e = rest e

run_jobs : (ss : List Step) (w : World) → Invariant w → AllOn w → JobsOf w → JobsOf (run w ss)
run_jobs [] w i on h = h
run_jobs (s ∷ ss) w i on h =
    run_jobs ss (next w s) (next_keeps w s i) (acts_on (decide w s).acts w (step_legal w s i) i on)
    (checked_jobs w (refusals w s) (outcome w s) h (λ p. outcome_jobs w s i on p h))

none_yet : (n : ℕ) → n < 0 → ⊥
none_yet n l = absurd (omega arith)

opened_jobs : (rule : PasidRule) (c : Config) → JobsOf (opened rule c)
opened_jobs rule c =
    record {
      queued = λ e g q. absurd (cc);
      held = λ e g x q. absurd (grind arith);
      past = λ j l. absurd (none_yet j l);
      once = λ j k l m x y. absurd (none_yet j l);
    }

pub always_jobs : (rule : PasidRule) (c : Config) (ss : List Step) → JobsOf (world_after rule c ss)
always_jobs rule c ss = run_jobs ss (opened rule c) (opened_invariant rule c) (opened_on rule c) (opened_jobs rule c)
