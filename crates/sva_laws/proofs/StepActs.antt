-- Which steps make a space, map pages or take them out, begin or release a binding, begin or end a use: no other step does.
use Rattle.std.proofs.Common.{◌≡◌, refl, ℕ, Bool, true, false}
use Rattle.std.specs.Prelude.{Option, Some, None, List, [], ◌∷◌, ◌++◌, if◌then◌else◌, Err}
use Rattle.sva_step.specs.declared.steps.Step.{Step}
use Rattle.sva_step.specs.declared.steps.Step.TheVariants as step
use Rattle.sva_step.specs.declared.steps.Verdict.{Verdict}
use Rattle.sva_model.specs.Message.{Code}
use Rattle.sva_model.specs.State.Stage.{Unbound, Live, Stopping, Draining, Invalidating, Quiet, Lost, Released}
use Rattle.sva_model.specs.State.Order.{RangeOf, PasidOf, Wait}
use Rattle.sva_model.specs.State.RequestState.{Out, Doomed, Over}
use Rattle.sva_model.specs.State.Subject.{StartOf, StopOf, FunctionReset, CompletionOf, InvalidateOf, ResponseOf, RequestOf, InvalidatedOf, PageRequestOf}
use Rattle.sva_model.specs.State.Subject.{MarkerOf, ResetDone}
use Rattle.sva_model.specs.Acts.{Act, LocalAct}
use Rattle.sva_model.specs.Acts.Act.{NewSpace, Map, Unmap, LetGo, AtEndpoint}
use Rattle.sva_model.specs.Labels
use Rattle.sva_model.specs.Refusals.{Cause, refusals}
use Rattle.sva_model.specs.Replies.{maps_to, reply_maps, replies_success, newly_mapped, free_list, is_write_asked, job_space, response_to}
use Rattle.sva_model.specs.Outcomes.{Outcome, outcome, unbind_outcome, advance_outcome, pump_outcome, head_outcome, wait_outcome, send_outcome, may_pass}
use Rattle.sva_model.specs.Outcomes.{serve_outcome, file_outcome, reply_outcome, fault_outcome, subject_outcome, deliver_outcome, completion_outcome}
use Rattle.sva_model.specs.Outcomes.{keep_outcome, is_full, request_outcome, count_outcome, page_request_outcome, marker_outcome}
use Rattle.sva_model.specs.States.{is_open}
use Rattle.sva_model.specs.Words.{the}
use Rattle.sva_model.specs.State.{Endpoint, World, Stage, Order, Subject, RequestState}
use Rattle.sva_model.specs.Steps.{checked, decide}
use Rattle.sva_laws.specs.Steps.{takes_out}

abbrev pub is_making : Step → Bool
is_making step.Space = true
is_making _ = false

abbrev pub is_mapping : Step → Bool
is_mapping (step.Map n q x) = true
is_mapping (step.Reply x v) = true
is_mapping _ = false

abbrev pub is_binding : Step → Bool
is_binding (step.Bind e n) = true
is_binding _ = false

abbrev pub is_advancing : Step → Bool
is_advancing (step.Advance n) = true
is_advancing _ = false

abbrev pub is_beginning : Step → Bool
is_beginning (step.BeginUse e t q x) = true
is_beginning _ = false

abbrev pub is_ending : Step → Bool
is_ending (step.EndUse e u) = true
is_ending _ = false

abbrev pub may_own : LocalAct → Step → Bool
may_own (LocalAct.Bind b s t) z = is_binding z
may_own (LocalAct.Release b) z = is_advancing z
may_own (LocalAct.Begin r m t) z = is_beginning z
may_own (LocalAct.End u) z = is_ending z
may_own _ z = true

abbrev pub may : Act → Step → Bool
may NewSpace z = is_making z
may (Map s q f x) z = is_mapping z
may (Unmap s q count order) z = takes_out z
may (AtEndpoint e o) z = may_own o z
may _ z = true

abbrev pub AllMay : Step → List Act → Type 0
AllMay z [] = Unit {0}
AllMay z (a ∷ acts) = (may a z ≡ true) × AllMay z acts

unbind_may : (z : Step) (e b : ℕ) (s : Stage) → AllMay z (unbind_outcome e b s).acts
unbind_may z e b Lost = (refl, tt)
unbind_may z e b Unbound = (refl, tt)
unbind_may z e b Live = (refl, tt)
unbind_may z e b (Stopping m) = (refl, tt)
unbind_may z e b (Draining x) = (refl, tt)
unbind_may z e b (Invalidating k x) = (refl, tt)
unbind_may z e b Quiet = (refl, tt)
unbind_may z e b Released = (refl, tt)

advance_may : (n : ℕ) (w : World) (e b : ℕ) (s : Stage) → AllMay (step.Advance n) (advance_outcome w e b s).acts
advance_may n w e b Lost = (refl, tt)
advance_may n w e b Unbound = (refl, tt)
advance_may n w e b Live = (refl, tt)
advance_may n w e b (Stopping m) = (refl, tt)
advance_may n w e b (Draining x) = (refl, tt)
advance_may n w e b (Invalidating k x) = (refl, tt)
advance_may n w e b Quiet = (refl, tt)
advance_may n w e b Released = (refl, tt)

wait_may : (z : Step) (e k : ℕ) (t : Bool) → AllMay z (wait_outcome e k t).acts
wait_may z e k true = (refl, tt)
wait_may z e k false = tt

send_may : (z : Step) (e k t : ℕ) (b : Bool) → AllMay z (send_outcome e k t b).acts
send_may z e k t true = (refl, tt)
send_may z e k t false = tt

head_may : (z : Step) (p : Endpoint) (e k : ℕ) (o : Order) → AllMay z (head_outcome p e k o).acts
head_may z p e k (Wait cookie drain) = wait_may z e k (may_pass p drain)
head_may z p e k (RangeOf b q) = send_may z e k (Labels.lowest_label 32 p.at_itag) _
head_may z p e k (PasidOf b) = send_may z e k (Labels.lowest_label 32 p.at_itag) _

pump_may : (z : Step) (p : Endpoint) (e : ℕ) (b : Bool) → AllMay z (pump_outcome p e b).acts
pump_may z p e true = tt
pump_may z p e false = head_may z p e (Labels.head p) (p.order (Labels.head p))

file_may : (z : Step) (e r g : ℕ) (b : Bool) → AllMay z (file_outcome e r g b).acts
file_may z e r g true = (refl, (refl, tt))
file_may z e r g false = (refl, tt)

serve_may : (z : Step) (p : Endpoint) (e : ℕ) (b : Bool) → AllMay z (serve_outcome p e b).acts
serve_may z p e true = tt
serve_may z p e false = file_may z e (Labels.oldest_arrived p) (p.group_of (Labels.oldest_arrived p)) (p.is_last (Labels.oldest_arrived p))

maps_may : (z : Step) → is_mapping z ≡ true → (s : ℕ) (write : ℕ → Bool) (qs fs : List ℕ) (rest : List Act) → AllMay z rest
    → AllMay z (maps_to s write qs fs ++ rest)
maps_may z h s write [] fs rest r = r
maps_may z h s write (q ∷ qs) [] rest r = r
maps_may z h s write (q ∷ qs) (f ∷ fs) rest r = (h, maps_may z h s write qs fs rest r)

reply_may : (w : World) (x j : ℕ) (v : Verdict) (o : Option Code) → AllMay (step.Reply x v) (reply_outcome w x j (reply_maps w j v) o).acts
reply_may w x j v None = (refl, (refl, tt))
reply_may w x j v (Some code) = go (replies_success w j v)
  where
    go : (b : Bool) → AllMay (step.Reply x v) ((if b then maps_to (job_space w j) (is_write_asked w j) (newly_mapped w j) (free_list w) else [])
        ++ LetGo x ∷ AtEndpoint (w.job j).endpoint (LocalAct.Respond (w.job j).group code) ∷ [])
    go true = maps_may (step.Reply x v) refl (job_space w j) (is_write_asked w j) (newly_mapped w j) (free_list w)
        (LetGo x ∷ AtEndpoint (w.job j).endpoint (LocalAct.Respond (w.job j).group code) ∷ []) (refl, (refl, tt))
    go false = (refl, (refl, tt))

fault_may : (z : Step) (p : Endpoint) (e t q : ℕ) (r x l : Bool) (o : Option ℕ) → AllMay z (fault_outcome p e t q r x l o).acts
fault_may z p e t q r x l None = (refl, tt)
fault_may z p e t q r x l (Some k) = (refl, tt)

keep_may : (z : Step) (e c r m : ℕ) (b : Bool) → AllMay z (keep_outcome e c r m b).acts
keep_may z e c r m true = (refl, tt)
keep_may z e c r m false = (refl, tt)

completion_may : (z : Step) (p : Endpoint) (e c r : ℕ) (o : Option ℕ) (s : RequestState) → AllMay z (completion_outcome p e c r o s).acts
completion_may z p e c r (Some m) Out = keep_may z e c r m (is_full p r)
completion_may z p e c r None Out = (refl, tt)
completion_may z p e c r (Some m) Doomed = (refl, tt)
completion_may z p e c r None Doomed = (refl, tt)
completion_may z p e c r (Some m) Over = (refl, tt)
completion_may z p e c r None Over = (refl, tt)

request_may : (z : Step) (w : World) (p : Endpoint) (e c r : ℕ) (b : Bool) → AllMay z (request_outcome w p e c r b).acts
request_may z w p e c r true = (refl, tt)
request_may z w p e c r false = (refl, tt)

count_may : (z : Step) (p : Endpoint) (e c : ℕ) (names : ℕ → Bool) (b : Bool) → AllMay z (count_outcome p e c names b).acts
count_may z p e c names true = (refl, tt)
count_may z p e c names false = (refl, tt)

page_request_may : (z : Step) (e c r : ℕ) (b : Bool) → AllMay z (page_request_outcome e c r b).acts
page_request_may z e c r true = (refl, tt)
page_request_may z e c r false = (refl, tt)

marker_may : (z : Step) (e c d : ℕ) (b : Bool) → AllMay z (marker_outcome e c d b).acts
marker_may z e c d true = (refl, tt)
marker_may z e c d false = (refl, tt)

subject_may : (z : Step) (w : World) (p : Endpoint) (e c : ℕ) (a : Subject) → AllMay z (subject_outcome w p e c a).acts
subject_may z w p e c (StartOf b) = (refl, tt)
subject_may z w p e c (StopOf b) = (refl, tt)
subject_may z w p e c FunctionReset = (refl, tt)
subject_may z w p e c (CompletionOf r found) = completion_may z p e c r found (p.request r)
subject_may z w p e c (InvalidateOf k) = (refl, tt)
subject_may z w p e c (ResponseOf g code) = (refl, tt)
subject_may z w p e c (RequestOf r) = request_may z w p e c r (is_open p.phase)
subject_may z w p e c (InvalidatedOf names) = count_may z p e c names (is_open p.phase)
subject_may z w p e c (PageRequestOf r) = page_request_may z e c r (is_open p.phase)
subject_may z w p e c (MarkerOf b) = marker_may z e c b (is_open p.phase)
subject_may z w p e c ResetDone = (refl, tt)

deliver_may : (z : Step) (w : World) (p : Endpoint) (e c : ℕ) (o : Option Subject) → AllMay z (deliver_outcome w p e c o).acts
deliver_may z w p e c None = tt
deliver_may z w p e c (Some a) = subject_may z w p e c a

outcome_may : (w : World) (s : Step) → AllMay s (outcome w s).acts
outcome_may w step.Space = (refl, tt)
outcome_may w (step.DropSpace n) = (refl, tt)
outcome_may w (step.Map n q x) = (refl, tt)
outcome_may w (step.Unmap n q count) = (refl, tt)
outcome_may w (step.UnmapRange n q order) = (refl, tt)
outcome_may w (step.Bind e n) = (refl, (refl, tt))
outcome_may w (step.Unbind n) =
    unbind_may (step.Unbind n) (w.endpoint_of (Labels.name w n)) (Labels.name w n) ((w.part (w.endpoint_of (Labels.name w n))).stage (Labels.name w n))
outcome_may w (step.Advance n) =
    advance_may n w (w.endpoint_of (Labels.name w n)) (Labels.name w n) ((w.part (w.endpoint_of (Labels.name w n))).stage (Labels.name w n))
outcome_may w (step.Pump e) = pump_may (step.Pump e) (w.part e) e (Labels.is_queue_empty (w.part e))
outcome_may w (step.Serve e) = serve_may (step.Serve e) (w.part e) e (Labels.is_page_queue_empty (w.part e))
outcome_may w (step.Reset e) = (refl, tt)
outcome_may w (step.Take x) = (refl, (refl, tt))
outcome_may w (step.Reply x v) = reply_may w x (the (w.hand x)) v (response_to w (the (w.hand x)) v)
outcome_may w (step.Ask e t q) = (refl, tt)
outcome_may w (step.BeginUse e t q x) = (refl, tt)
outcome_may w (step.EndUse e u) = (refl, tt)
outcome_may w (step.Evict e t q) = (refl, tt)
outcome_may w (step.Fault e t q r x group l) = fault_may (step.Fault e t q r x group l) (w.part e) e t q r x l group
outcome_may w (step.Finish e vector count) = (refl, tt)
outcome_may w (step.Quit e t) = (refl, tt)
outcome_may w (step.Deliver n) =
    deliver_may (step.Deliver n) w (w.part (w.link_of (Labels.name w n))) (w.link_of (Labels.name w n)) (Labels.name w n)
    ((w.part (w.link_of (Labels.name w n))).message (Labels.name w n))
outcome_may w (step.Look f) = tt
outcome_may w (step.Bearer t) = tt

checked_may : (z : Step) (cs : List Cause) (o : Outcome) → AllMay z o.acts → AllMay z (checked cs o).acts
checked_may z [] o k = k
checked_may z (c ∷ cs) o k = go c.0 (checked_may z cs o k)
  where
    go : (b : Bool) → AllMay z (checked cs o).acts → AllMay z (if b then record { reply = Err c.1; acts = [] } else checked cs o).acts
    go true k = tt
    go false k = k

pub step_may : (w : World) (s : Step) → AllMay s (decide w s).acts
step_may w s = checked_may s (refusals w s) (outcome w s) (outcome_may w s)
