-- The acts of each step come in their turn: a binding begins under the name that was just given, an order is sent from the head of
-- the queue, a request is filed in a group that is open to it, and the first job is handed out.
use Rattle.std.proofs.Common.{◌≡◌, ◌≢◌, ◌⊎◌, inl, inr, refl, ap, ◌∙◌, ℕ, ◌<◌, Bool, true, false, arith}
use Rattle.std.specs.Prelude.{Option, Some, None, not, if◌then◌else◌, List, [], ◌∷◌, ◌++◌}
use Rattle.std.proofs.lemmas.Bool.{not-false}
use Rattle.sva_step.specs.declared.steps.Step.{Step}
use Rattle.sva_step.specs.declared.steps.Step.TheVariants as step
use Rattle.sva_step.specs.declared.steps.Verdict.{Verdict}
use Rattle.sva_model.specs.Words.{the, any_below, lowest, put}
use Rattle.sva_model.specs.Message.{Code}
use Rattle.sva_model.specs.State.{Endpoint, World, Stage, Order, Subject, RequestState}
use Rattle.sva_model.specs.State.OrderState.{Queued}
use Rattle.sva_model.specs.State.HostGroupState.{Job}
use Rattle.sva_model.specs.State.Stage.{Unbound, Live, Stopping, Draining, Invalidating, Quiet, Lost, Released}
use Rattle.sva_model.specs.State.Order.{RangeOf, PasidOf, Wait}
use Rattle.sva_model.specs.State.RequestState.{Out, Doomed, Over}
use Rattle.sva_model.specs.State.Subject.{StartOf, StopOf, FunctionReset, CompletionOf, InvalidateOf, ResponseOf, RequestOf, InvalidatedOf, PageRequestOf}
use Rattle.sva_model.specs.State.Subject.{MarkerOf, ResetDone}
use Rattle.sva_model.specs.States.{is_open, is_queued}
use Rattle.sva_model.specs.StateChanges.{filed_as}
use Rattle.sva_model.specs.Acts.{LocalAct, act, act_alone}
use Rattle.sva_model.specs.Acts.Act.{Map, LetGo, AtEndpoint}
use Rattle.sva_model.specs.Labels
use Rattle.sva_model.specs.Refusals.{refusals}
use Rattle.sva_model.specs.Replies.{maps_to, reply_maps, replies_success, newly_mapped, free_list, is_write_asked, job_space, response_to}
use Rattle.sva_model.specs.Outcomes.{outcome, unbind_outcome, advance_outcome, pump_outcome, head_outcome, wait_outcome, send_outcome, may_pass}
use Rattle.sva_model.specs.Outcomes.{serve_outcome, file_outcome, reply_outcome, fault_outcome, subject_outcome, deliver_outcome, completion_outcome}
use Rattle.sva_model.specs.Outcomes.{keep_outcome, is_full, request_outcome, count_outcome, page_request_outcome, marker_outcome}
use Rattle.sva_labels.proofs.Words.{put-same, any_below-true, lowest_below, lowest_cases}
use Rattle.sva_laws.proofs.Invariant.{Invariant}
use Rattle.sva_laws.proofs.OnTheWay.{AllOn}
use Rattle.sva_laws.proofs.JobSteps.{JobsOf, not_past}
use Rattle.sva_laws.proofs.LegalUnit as unit_steps
use Rattle.sva_laws.proofs.Passed.{Passed, LegalAll}
use Rattle.sva_laws.proofs.Orders.{queued_not}
use Rattle.sva_refinement.proofs.JobActs.{HandsFirst}
use Rattle.sva_refinement.proofs.Assembly.{AreReady}

unbind_ready : (w : World) (e b : ℕ) (s : Stage) → AreReady w (unbind_outcome e b s).acts
unbind_ready w e b Lost = ((tt, tt), tt)
unbind_ready w e b Unbound = ((tt, tt), tt)
unbind_ready w e b Live = ((tt, tt), tt)
unbind_ready w e b (Stopping m) = ((tt, tt), tt)
unbind_ready w e b (Draining x) = ((tt, tt), tt)
unbind_ready w e b (Invalidating k x) = ((tt, tt), tt)
unbind_ready w e b Quiet = ((tt, tt), tt)
unbind_ready w e b Released = ((tt, tt), tt)

advance_ready : (w : World) (e b : ℕ) (s : Stage) → AreReady w (advance_outcome w e b s).acts
advance_ready w e b Lost = ((tt, tt), tt)
advance_ready w e b Unbound = ((tt, tt), tt)
advance_ready w e b Live = ((tt, tt), tt)
advance_ready w e b (Stopping m) = ((tt, tt), tt)
advance_ready w e b (Draining x) = ((tt, tt), tt)
advance_ready w e b (Invalidating k x) = ((tt, tt), tt)
advance_ready w e b Quiet = ((tt, tt), tt)
advance_ready w e b Released = ((tt, tt), tt)

-- Pump: the head is the first that is queued.

head_first : (p : Endpoint) (j : ℕ) → j < Labels.head p → p.order_state j ≢ Queued
head_first p j l = go (lowest_cases p.orders (λ k. is_queued (p.order_state k)))
  where
    go :
        ((Labels.head p ≡ p.orders) × ((j : ℕ) → j < p.orders → is_queued (p.order_state j) ≡ false)) ⊎ ((Labels.head p < p.orders)
        × (is_queued (p.order_state (Labels.head p)) ≡ true) × ((j : ℕ) → j < Labels.head p → is_queued (p.order_state j) ≡ false))
        → p.order_state j ≢ Queued
    go (inl x) = queued_not (p.order_state j) (x.1 j (omega (arith, l, x.0)))
    go (inr x) = queued_not (p.order_state j) (x.2 j l)

send_ready :
    (w : World) (e t : ℕ) (b : Bool) → ((j : ℕ) → j < Labels.head (w.part e) → (w.part e).order_state j ≢ Queued)
    → AreReady w (send_outcome e (Labels.head (w.part e)) t b).acts
send_ready w e t true h = ((tt, h), tt)
send_ready w e t false h = tt

wait_ready : (w : World) (e k : ℕ) (b : Bool) → AreReady w (wait_outcome e k b).acts
wait_ready w e k true = ((tt, tt), tt)
wait_ready w e k false = tt

head_ready :
    (w : World) (e : ℕ) (o : Order) → ((j : ℕ) → j < Labels.head (w.part e) → (w.part e).order_state j ≢ Queued)
    → AreReady w (head_outcome (w.part e) e (Labels.head (w.part e)) o).acts
head_ready w e (Wait cookie drain) h = wait_ready w e (Labels.head (w.part e)) (may_pass (w.part e) drain)
head_ready w e (RangeOf b q) h = send_ready w e (Labels.lowest_label 32 (w.part e).at_itag) _ h
head_ready w e (PasidOf b) h = send_ready w e (Labels.lowest_label 32 (w.part e).at_itag) _ h

pump_ready : (w : World) (e : ℕ) (b : Bool) → AreReady w (pump_outcome (w.part e) e b).acts
pump_ready w e true = tt
pump_ready w e false = head_ready w e ((w.part e).order (Labels.head (w.part e))) (λ j l. head_first (w.part e) j l)

-- Serve: what has arrived is of a group that is open to it.

file_ready :
    (w : World) (e r : ℕ) (b : Bool) → (w.part e).is_last r ≡ b → Invariant w → AllOn w
    → LegalAll w (file_outcome e r ((w.part e).group_of r) b).acts → AreReady w (file_outcome e r ((w.part e).group_of r) b).acts
file_ready w e r false h i on l = ((not_past w e r i (on e) l.0.1.0.0 l.0.1.0.1, tt), tt)
file_ready w e r true h i on l = ((not_past w e r i (on e) l.0.1.0.0 l.0.1.0.1, tt), (job, tt))
  where
    job : (put w.part e (act_alone (w.part e) w.messages (LocalAct.File r)) e).host_group ((w.part e).group_of r) ≡ Job
    job =
        ap (λ p. p.host_group ((w.part e).group_of r)) (put-same w.part e (act_alone (w.part e) w.messages (LocalAct.File r)))
        ∙ put-same (w.part e).host_group ((w.part e).group_of r) (filed_as ((w.part e).is_last r))
        ∙ ap filed_as h

serve_ready :
    (w : World) (e : ℕ) (b : Bool) → Invariant w → AllOn w → LegalAll w (serve_outcome (w.part e) e b).acts
    → AreReady w (serve_outcome (w.part e) e b).acts
serve_ready w e true i on l = tt
serve_ready w e false i on l = file_ready w e (Labels.oldest_arrived (w.part e)) ((w.part e).is_last (Labels.oldest_arrived (w.part e))) refl i on l

-- Take: the first job is handed out, and no other is of its group.

first_job :
    (w : World) → JobsOf w → not (any_below w.jobs (Labels.is_queued_job w)) ≡ false
    → HandsFirst w (w.job (lowest w.jobs (Labels.is_queued_job w))).endpoint (w.job (lowest w.jobs (Labels.is_queued_job w))).group
    (lowest w.jobs (Labels.is_queued_job w))
first_job w js h =
    let some = any_below-true w.jobs (Labels.is_queued_job w) (not-false (any_below w.jobs (Labels.is_queued_job w)) h) in
    let low = lowest_below w.jobs (Labels.is_queued_job w) some.0 some.1 some.2 in
    record {
      made = low.0;
      queued = low.1;
      first = low.2;
      endpoint = refl;
      group = refl;
      once = λ k l e g. js.once k (lowest w.jobs (Labels.is_queued_job w)) l low.0 e g;
    }

-- Reply: pages are mapped, then the job is let go and its group answered or dropped.

respond_ready : (w : World) (x e g : ℕ) (code : Code) → AreReady w (LetGo x ∷ AtEndpoint e (LocalAct.Respond g code) ∷ [])
respond_ready w x e g code = (tt, ((tt, tt), tt))

maps_ready :
    (s : ℕ) (write : ℕ → Bool) (qs fs : List ℕ) (w : World) (x e g : ℕ) (code : Code)
    → AreReady w (maps_to s write qs fs ++ LetGo x ∷ AtEndpoint e (LocalAct.Respond g code) ∷ [])
maps_ready s write [] fs w x e g code = respond_ready w x e g code
maps_ready s write (q ∷ qs) [] w x e g code = respond_ready w x e g code
maps_ready s write (q ∷ qs) (f ∷ fs) w x e g code = (tt, maps_ready s write qs fs (act w (Map s q f (write q))) x e g code)

reply_ready : (w : World) (x j : ℕ) (v : Verdict) (o : Option Code) → AreReady w (reply_outcome w x j (reply_maps w j v) o).acts
reply_ready w x j v None = (tt, ((tt, tt), tt))
reply_ready w x j v (Some code) = go (replies_success w j v)
  where
    go :
        (b : Bool)
        → AreReady w
        ((if b then maps_to (job_space w j) (is_write_asked w j) (newly_mapped w j) (free_list w) else []) ++ LetGo x ∷ AtEndpoint (w.job j).endpoint
        (LocalAct.Respond (w.job j).group code) ∷ [])
    go true = maps_ready (job_space w j) (is_write_asked w j) (newly_mapped w j) (free_list w) w x (w.job j).endpoint (w.job j).group code
    go false = respond_ready w x (w.job j).endpoint (w.job j).group code

-- The endpoint, and deliveries.

fault_ready : (w : World) (p : Endpoint) (e t q : ℕ) (r x l : Bool) (o : Option ℕ) → AreReady w (fault_outcome p e t q r x l o).acts
fault_ready w p e t q r x l None = ((tt, tt), tt)
fault_ready w p e t q r x l (Some k) = ((tt, tt), tt)

keep_ready : (w : World) (e c r m : ℕ) (b : Bool) → AreReady w (keep_outcome e c r m b).acts
keep_ready w e c r m true = ((tt, tt), tt)
keep_ready w e c r m false = ((tt, tt), tt)

completion_ready : (w : World) (p : Endpoint) (e c r : ℕ) (o : Option ℕ) (s : RequestState) → AreReady w (completion_outcome p e c r o s).acts
completion_ready w p e c r (Some m) Out = keep_ready w e c r m (is_full p r)
completion_ready w p e c r None Out = ((tt, tt), tt)
completion_ready w p e c r (Some m) Doomed = ((tt, tt), tt)
completion_ready w p e c r None Doomed = ((tt, tt), tt)
completion_ready w p e c r (Some m) Over = ((tt, tt), tt)
completion_ready w p e c r None Over = ((tt, tt), tt)

request_ready : (w : World) (p : Endpoint) (e c r : ℕ) (b : Bool) → AreReady w (request_outcome w p e c r b).acts
request_ready w p e c r true = ((tt, tt), tt)
request_ready w p e c r false = ((tt, tt), tt)

count_ready : (w : World) (p : Endpoint) (e c : ℕ) (names : ℕ → Bool) (b : Bool) → AreReady w (count_outcome p e c names b).acts
count_ready w p e c names true = ((tt, tt), tt)
count_ready w p e c names false = ((tt, tt), tt)

page_request_ready : (w : World) (e c r : ℕ) (b : Bool) → AreReady w (page_request_outcome e c r b).acts
page_request_ready w e c r true = ((tt, tt), tt)
page_request_ready w e c r false = ((tt, tt), tt)

marker_ready : (w : World) (e c d : ℕ) (b : Bool) → AreReady w (marker_outcome e c d b).acts
marker_ready w e c d true = ((tt, tt), tt)
marker_ready w e c d false = ((tt, tt), tt)

subject_ready : (w : World) (p : Endpoint) (e c : ℕ) (a : Subject) → AreReady w (subject_outcome w p e c a).acts
subject_ready w p e c (StartOf b) = ((tt, tt), tt)
subject_ready w p e c (StopOf b) = ((tt, tt), tt)
subject_ready w p e c FunctionReset = ((tt, tt), tt)
subject_ready w p e c (CompletionOf r found) = completion_ready w p e c r found (p.request r)
subject_ready w p e c (InvalidateOf k) = ((tt, tt), tt)
subject_ready w p e c (ResponseOf g code) = ((tt, tt), tt)
subject_ready w p e c (RequestOf r) = request_ready w p e c r (is_open p.phase)
subject_ready w p e c (InvalidatedOf names) = count_ready w p e c names (is_open p.phase)
subject_ready w p e c (PageRequestOf r) = page_request_ready w e c r (is_open p.phase)
subject_ready w p e c (MarkerOf b) = marker_ready w e c b (is_open p.phase)
subject_ready w p e c ResetDone = ((tt, tt), tt)

deliver_ready : (w : World) (p : Endpoint) (e c : ℕ) (o : Option Subject) → AreReady w (deliver_outcome w p e c o).acts
deliver_ready w p e c None = tt
deliver_ready w p e c (Some a) = subject_ready w p e c a

pub outcome_ready : (w : World) (s : Step) → Invariant w → AllOn w → JobsOf w → Passed (refusals w s) → AreReady w (outcome w s).acts
outcome_ready w step.Space i on js p = (tt, tt)
outcome_ready w (step.DropSpace n) i on js p = (tt, tt)
outcome_ready w (step.Map n q x) i on js p = (tt, tt)
outcome_ready w (step.Unmap n q count) i on js p = (tt, tt)
outcome_ready w (step.UnmapRange n q order) i on js p = (tt, tt)
outcome_ready w (step.Bind e n) i on js p = (tt, ((refl, tt), tt))
outcome_ready w (step.Unbind n) i on js p =
    unbind_ready w (w.endpoint_of (Labels.name w n)) (Labels.name w n) ((w.part (w.endpoint_of (Labels.name w n))).stage (Labels.name w n))
outcome_ready w (step.Advance n) i on js p =
    advance_ready w (w.endpoint_of (Labels.name w n)) (Labels.name w n) ((w.part (w.endpoint_of (Labels.name w n))).stage (Labels.name w n))
outcome_ready w (step.Pump e) i on js p = pump_ready w e (Labels.is_queue_empty (w.part e))
outcome_ready w (step.Serve e) i on js p = serve_ready w e (Labels.is_page_queue_empty (w.part e)) i on (unit_steps.serve w e i p)
outcome_ready w (step.Reset e) i on js p = ((tt, tt), tt)
outcome_ready w (step.Take x) i on js p = ((((lowest w.jobs (Labels.is_queued_job w)), first_job w js p.1.1.0), tt), (tt, tt))
outcome_ready w (step.Reply x v) i on js p = reply_ready w x (the (w.hand x)) v (response_to w (the (w.hand x)) v)
outcome_ready w (step.Ask e t q) i on js p = ((tt, tt), tt)
outcome_ready w (step.BeginUse e t q x) i on js p = ((tt, tt), tt)
outcome_ready w (step.EndUse e u) i on js p = ((tt, tt), tt)
outcome_ready w (step.Evict e t q) i on js p = ((tt, tt), tt)
outcome_ready w (step.Fault e t q r x group l) i on js p = fault_ready w (w.part e) e t q r x l group
outcome_ready w (step.Finish e vector count) i on js p = ((tt, tt), tt)
outcome_ready w (step.Quit e t) i on js p = ((tt, tt), tt)
outcome_ready w (step.Deliver n) i on js p =
    deliver_ready w (w.part (w.link_of (Labels.name w n))) (w.link_of (Labels.name w n)) (Labels.name w n)
    ((w.part (w.link_of (Labels.name w n))).message (Labels.name w n))
outcome_ready w (step.Look f) i on js p = tt
outcome_ready w (step.Bearer t) i on js p = tt
