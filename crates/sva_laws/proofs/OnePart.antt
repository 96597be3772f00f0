-- A step that takes no pages out of a space changes one endpoint with its unit at most.
use Rattle.std.proofs.Common.{◌≡◌, ◌≢◌, refl, ap, sym, subst, ◌∙◌, ℕ, Bool, true, false}
use Rattle.std.specs.Prelude.{Option, Some, None, List, [], ◌∷◌, ◌++◌, if◌then◌else◌, Err}
use Rattle.sva_step.specs.declared.steps.Step.{Step}
use Rattle.sva_step.specs.declared.steps.Step.TheVariants as step
use Rattle.sva_step.specs.declared.steps.Verdict.{Verdict}
use Rattle.sva_step.specs.declared.limits.Config.{Config}
use Rattle.sva_model.specs.Message.{Code}
use Rattle.sva_model.specs.State.Stage.{Unbound, Live, Stopping, Draining, Invalidating, Quiet, Lost, Released}
use Rattle.sva_model.specs.State.Order.{RangeOf, PasidOf, Wait}
use Rattle.sva_model.specs.State.RequestState.{Out, Doomed, Over}
use Rattle.sva_model.specs.State.Subject.{StartOf, StopOf, FunctionReset, CompletionOf, InvalidateOf, ResponseOf, RequestOf, InvalidatedOf, PageRequestOf}
use Rattle.sva_model.specs.State.Subject.{MarkerOf, ResetDone}
use Rattle.sva_model.specs.Acts.{Act, LocalAct, act, act_alone}
use Rattle.sva_model.specs.Acts.Act.{NewSpace, DropSpace, Map, Unmap, NewBinding, NewJob, Hold, LetGo, AtEndpoint}
use Rattle.sva_model.specs.Labels
use Rattle.sva_model.specs.Refusals.{Cause, refusals}
use Rattle.sva_model.specs.Replies.{maps_to, reply_maps, replies_success, newly_mapped, free_list, is_write_asked, job_space, response_to}
use Rattle.sva_model.specs.Outcomes.{Outcome, outcome, unbind_outcome, advance_outcome, pump_outcome, head_outcome, wait_outcome, send_outcome, may_pass}
use Rattle.sva_model.specs.Outcomes.{serve_outcome, file_outcome, reply_outcome, fault_outcome, subject_outcome, deliver_outcome, completion_outcome}
use Rattle.sva_model.specs.Outcomes.{keep_outcome, is_full, request_outcome, count_outcome, page_request_outcome, marker_outcome}
use Rattle.sva_model.specs.States.{is_open}
use Rattle.sva_model.specs.Words.{lowest, the}
use Rattle.sva_model.specs.State.{PasidRule, Endpoint, World, Stage, Order, Subject, RequestState}
use Rattle.sva_model.specs.Steps.{checked, decide, next, after_acts, world_after}
use Rattle.sva_laws.specs.Steps.{takes_out, ChangesOnePart}
use Rattle.sva_labels.proofs.Words.{put-other}
use Rattle.sva_laws.proofs.Lookback.{after_one}

-- an act that leaves all endpoints but this one
abbrev IsOf : (e : ℕ) → Act → Type 0
IsOf e (Unmap s q count order) = ⊥
IsOf e (AtEndpoint d o) = d ≡ e
IsOf e _ = Unit {0}

abbrev AreOf : (e : ℕ) → List Act → Type 0
AreOf e [] = Unit {0}
AreOf e (a ∷ acts) = IsOf e a × AreOf e acts

act_one : (w : World) (a : Act) (e x : ℕ) → x ≢ e → IsOf e a → (act w a).part x ≡ w.part x
act_one w NewSpace e x ne h = refl
act_one w (DropSpace s) e x ne h = refl
act_one w (Map s q f y) e x ne h = refl
act_one w (Unmap s q count order) e x ne h = absurd h
act_one w (NewBinding d) e x ne h = refl
act_one w (NewJob d g) e x ne h = refl
act_one w (Hold y j) e x ne h = refl
act_one w (LetGo y) e x ne h = refl
act_one w (AtEndpoint d o) e x ne h = put-other w.part d (act_alone (w.part d) w.messages o) x (λ z. ne (z ∙ h))

acts_one : (acts : List Act) (w : World) (e x : ℕ) → x ≢ e → AreOf e acts → (after_acts w acts).part x ≡ w.part x
acts_one [] w e x ne h = refl
acts_one (a ∷ acts) w e x ne h = acts_one acts (act w a) e x ne h.1 ∙ act_one w a e x ne h.0

-- The acts of a step are of one endpoint.

unbind_one : (e b : ℕ) (s : Stage) → AreOf e (unbind_outcome e b s).acts
unbind_one e b Lost = (refl, tt)
unbind_one e b Unbound = (refl, tt)
unbind_one e b Live = (refl, tt)
unbind_one e b (Stopping m) = (refl, tt)
unbind_one e b (Draining x) = (refl, tt)
unbind_one e b (Invalidating k x) = (refl, tt)
unbind_one e b Quiet = (refl, tt)
unbind_one e b Released = (refl, tt)

advance_one : (w : World) (e b : ℕ) (s : Stage) → AreOf e (advance_outcome w e b s).acts
advance_one w e b Lost = (refl, tt)
advance_one w e b Unbound = (refl, tt)
advance_one w e b Live = (refl, tt)
advance_one w e b (Stopping m) = (refl, tt)
advance_one w e b (Draining x) = (refl, tt)
advance_one w e b (Invalidating k x) = (refl, tt)
advance_one w e b Quiet = (refl, tt)
advance_one w e b Released = (refl, tt)

wait_one : (e k : ℕ) (t : Bool) → AreOf e (wait_outcome e k t).acts
wait_one e k true = (refl, tt)
wait_one e k false = tt

send_one : (e k t : ℕ) (b : Bool) → AreOf e (send_outcome e k t b).acts
send_one e k t true = (refl, tt)
send_one e k t false = tt

head_one : (p : Endpoint) (e k : ℕ) (o : Order) → AreOf e (head_outcome p e k o).acts
head_one p e k (Wait cookie drain) = wait_one e k (may_pass p drain)
head_one p e k (RangeOf b q) = send_one e k (Labels.lowest_label 32 p.at_itag) _
head_one p e k (PasidOf b) = send_one e k (Labels.lowest_label 32 p.at_itag) _

pump_one : (p : Endpoint) (e : ℕ) (b : Bool) → AreOf e (pump_outcome p e b).acts
pump_one p e true = tt
pump_one p e false = head_one p e (Labels.head p) (p.order (Labels.head p))

file_one : (e r g : ℕ) (b : Bool) → AreOf e (file_outcome e r g b).acts
file_one e r g true = (refl, (tt, tt))
file_one e r g false = (refl, tt)

serve_one : (p : Endpoint) (e : ℕ) (b : Bool) → AreOf e (serve_outcome p e b).acts
serve_one p e true = tt
serve_one p e false = file_one e (Labels.oldest_arrived p) (p.group_of (Labels.oldest_arrived p)) (p.is_last (Labels.oldest_arrived p))

maps_one : (e s : ℕ) (write : ℕ → Bool) (qs fs : List ℕ) (rest : List Act) → AreOf e rest → AreOf e (maps_to s write qs fs ++ rest)
maps_one e s write [] fs rest r = r
maps_one e s write (q ∷ qs) [] rest r = r
maps_one e s write (q ∷ qs) (f ∷ fs) rest r = (tt, maps_one e s write qs fs rest r)

reply_one : (w : World) (x j : ℕ) (v : Verdict) (o : Option Code) → AreOf (w.job j).endpoint (reply_outcome w x j (reply_maps w j v) o).acts
reply_one w x j v None = (tt, (refl, tt))
reply_one w x j v (Some code) = go (replies_success w j v)
  where
    go : (b : Bool) → AreOf (w.job j).endpoint ((if b then maps_to (job_space w j) (is_write_asked w j) (newly_mapped w j) (free_list w) else [])
        ++ LetGo x ∷ AtEndpoint (w.job j).endpoint (LocalAct.Respond (w.job j).group code) ∷ [])
    go true = maps_one (w.job j).endpoint (job_space w j) (is_write_asked w j) (newly_mapped w j) (free_list w)
        (LetGo x ∷ AtEndpoint (w.job j).endpoint (LocalAct.Respond (w.job j).group code) ∷ []) (tt, (refl, tt))
    go false = (tt, (refl, tt))

fault_one : (p : Endpoint) (e t q : ℕ) (r x l : Bool) (o : Option ℕ) → AreOf e (fault_outcome p e t q r x l o).acts
fault_one p e t q r x l None = (refl, tt)
fault_one p e t q r x l (Some k) = (refl, tt)

keep_one : (e c r m : ℕ) (b : Bool) → AreOf e (keep_outcome e c r m b).acts
keep_one e c r m true = (refl, tt)
keep_one e c r m false = (refl, tt)

completion_one : (p : Endpoint) (e c r : ℕ) (o : Option ℕ) (s : RequestState) → AreOf e (completion_outcome p e c r o s).acts
completion_one p e c r (Some m) Out = keep_one e c r m (is_full p r)
completion_one p e c r None Out = (refl, tt)
completion_one p e c r (Some m) Doomed = (refl, tt)
completion_one p e c r None Doomed = (refl, tt)
completion_one p e c r (Some m) Over = (refl, tt)
completion_one p e c r None Over = (refl, tt)

request_one : (w : World) (p : Endpoint) (e c r : ℕ) (b : Bool) → AreOf e (request_outcome w p e c r b).acts
request_one w p e c r true = (refl, tt)
request_one w p e c r false = (refl, tt)

count_one : (p : Endpoint) (e c : ℕ) (names : ℕ → Bool) (b : Bool) → AreOf e (count_outcome p e c names b).acts
count_one p e c names true = (refl, tt)
count_one p e c names false = (refl, tt)

page_request_one : (e c r : ℕ) (b : Bool) → AreOf e (page_request_outcome e c r b).acts
page_request_one e c r true = (refl, tt)
page_request_one e c r false = (refl, tt)

marker_one : (e c d : ℕ) (b : Bool) → AreOf e (marker_outcome e c d b).acts
marker_one e c d true = (refl, tt)
marker_one e c d false = (refl, tt)

subject_one : (w : World) (p : Endpoint) (e c : ℕ) (a : Subject) → AreOf e (subject_outcome w p e c a).acts
subject_one w p e c (StartOf b) = (refl, tt)
subject_one w p e c (StopOf b) = (refl, tt)
subject_one w p e c FunctionReset = (refl, tt)
subject_one w p e c (CompletionOf r found) = completion_one p e c r found (p.request r)
subject_one w p e c (InvalidateOf k) = (refl, tt)
subject_one w p e c (ResponseOf g code) = (refl, tt)
subject_one w p e c (RequestOf r) = request_one w p e c r (is_open p.phase)
subject_one w p e c (InvalidatedOf names) = count_one p e c names (is_open p.phase)
subject_one w p e c (PageRequestOf r) = page_request_one e c r (is_open p.phase)
subject_one w p e c (MarkerOf b) = marker_one e c b (is_open p.phase)
subject_one w p e c ResetDone = (refl, tt)

deliver_one : (w : World) (p : Endpoint) (e c : ℕ) (o : Option Subject) → AreOf e (deliver_outcome w p e c o).acts
deliver_one w p e c None = tt
deliver_one w p e c (Some a) = subject_one w p e c a

outcome_one : (w : World) (s : Step) → takes_out s ≡ false → (e : ℕ) × AreOf e (outcome w s).acts
outcome_one w step.Space h = (0, (tt, tt))
outcome_one w (step.DropSpace n) h = (0, (tt, tt))
outcome_one w (step.Map n q x) h = (0, (tt, tt))
outcome_one w (step.Unmap n q count) h = absurd (cc)
outcome_one w (step.UnmapRange n q order) h = absurd (cc)
outcome_one w (step.Bind e n) h = (e, (tt, (refl, tt)))
outcome_one w (step.Unbind n) h = (
  w.endpoint_of (Labels.name w n),
  unbind_one (w.endpoint_of (Labels.name w n)) (Labels.name w n)
      ((w.part (w.endpoint_of (Labels.name w n))).stage (Labels.name w n)),
)
outcome_one w (step.Advance n) h = (
  w.endpoint_of (Labels.name w n),
  advance_one w (w.endpoint_of (Labels.name w n)) (Labels.name w n)
      ((w.part (w.endpoint_of (Labels.name w n))).stage (Labels.name w n)),
)
outcome_one w (step.Pump e) h = (e, pump_one (w.part e) e (Labels.is_queue_empty (w.part e)))
outcome_one w (step.Serve e) h = (e, serve_one (w.part e) e (Labels.is_page_queue_empty (w.part e)))
outcome_one w (step.Reset e) h = (e, (refl, tt))
outcome_one w (step.Take x) h = ((w.job (lowest w.jobs (Labels.is_queued_job w))).endpoint, (refl, (tt, tt)))
outcome_one w (step.Reply x v) h = ((w.job (the (w.hand x))).endpoint, reply_one w x (the (w.hand x)) v (response_to w (the (w.hand x)) v))
outcome_one w (step.Ask e t q) h = (e, (refl, tt))
outcome_one w (step.BeginUse e t q x) h = (e, (refl, tt))
outcome_one w (step.EndUse e u) h = (e, (refl, tt))
outcome_one w (step.Evict e t q) h = (e, (refl, tt))
outcome_one w (step.Fault e t q r x group l) h = (e, fault_one (w.part e) e t q r x l group)
outcome_one w (step.Finish e vector count) h = (e, (refl, tt))
outcome_one w (step.Quit e t) h = (e, (refl, tt))
outcome_one w (step.Deliver n) h = (
  w.link_of (Labels.name w n),
  deliver_one w (w.part (w.link_of (Labels.name w n))) (w.link_of (Labels.name w n)) (Labels.name w n)
      ((w.part (w.link_of (Labels.name w n))).message (Labels.name w n)),
)
outcome_one w (step.Look f) h = (0, tt)
outcome_one w (step.Bearer t) h = (0, tt)

checked_one : (e : ℕ) (cs : List Cause) (o : Outcome) → AreOf e o.acts → AreOf e (checked cs o).acts
checked_one e [] o k = k
checked_one e (c ∷ cs) o k = go c.0 (checked_one e cs o k)
  where
    go : (b : Bool) → AreOf e (checked cs o).acts → AreOf e (if b then record { reply = Err c.1; acts = [] } else checked cs o).acts
    go true k = tt
    go false k = k

pub next_one : (w : World) (s : Step) → takes_out s ≡ false → ChangesOnePart w (next w s)
next_one w s h =
    let x = outcome_one w s h in
    (x.0, λ other ne. acts_one (decide w s).acts w x.0 other ne (checked_one x.0 (refusals w s) (outcome w s) x.1))

pub always_one_part : (rule : PasidRule) (config : Config) (steps : List Step) (s : Step) → takes_out s ≡ false
    → ChangesOnePart (world_after rule config steps) (world_after rule config (steps ++ s ∷ []))
always_one_part rule config steps s h =
    subst (ChangesOnePart (world_after rule config steps)) (sym (after_one rule config steps s)) (next_one (world_after rule config steps) s h)

-- the drop of a space changes none
dropped_same : (w : World) (n e : ℕ) → (next w (step.DropSpace n)).part e ≡ w.part e
dropped_same w n e = go (refusals w (step.DropSpace n))
  where
    go : (cs : List Cause) → (after_acts w (checked cs (outcome w (step.DropSpace n))).acts).part e ≡ w.part e
    go [] = refl
    go (c ∷ cs) = by c.0 (go cs)
      where
        by : (b : Bool) → (after_acts w (checked cs (outcome w (step.DropSpace n))).acts).part e ≡ w.part e
            → (after_acts w (if b then record { reply = Err c.1; acts = [] } else checked cs (outcome w (step.DropSpace n))).acts).part e ≡ w.part e
        by true k = refl
        by false k = k

pub always_dropped : (rule : PasidRule) (config : Config) (steps : List Step) (n e : ℕ)
    → (world_after rule config (steps ++ step.DropSpace n ∷ [])).part e ≡ (world_after rule config steps).part e
always_dropped rule config steps n e = ap (λ v. v.part e) (after_one rule config steps (step.DropSpace n)) ∙ dropped_same (world_after rule config steps) n e
