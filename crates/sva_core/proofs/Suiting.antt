-- The definitions answer each step by an answer that suits it.
use Rattle.std.proofs.Common.{ℕ, Bool, true, false, List, [], ◌∷◌, length}
use Rattle.std.specs.Prelude.{Option, Some, None, Err, not, ◌==◌, if◌then◌else◌}
use Rattle.sva_step.specs.declared.answers.Answer.TheVariants as answer
use Rattle.sva_step.specs.declared.steps.Step.{Step}
use Rattle.sva_step.specs.declared.steps.Step.TheVariants as step
use Rattle.sva_model.specs.Message.{Code}
use Rattle.sva_model.specs.Message.Code.{SuccessCode, InvalidCode, FailureCode}
use Rattle.sva_model.specs.State.{World, Endpoint, Stage, RequestState, GroupState, Order, Subject}
use Rattle.sva_model.specs.State.Stage.{Unbound, Live, Stopping, Draining, Invalidating, Quiet, Lost, Released}
use Rattle.sva_model.specs.State.RequestState.{Out, Doomed, Over}
use Rattle.sva_model.specs.State.GroupState.{Collecting, Awaiting, Stale, Closed}
use Rattle.sva_model.specs.State.Order.{RangeOf, PasidOf, Wait}
use Rattle.sva_model.specs.State.Subject.{StartOf, StopOf, FunctionReset, CompletionOf, InvalidateOf, ResponseOf, RequestOf, InvalidatedOf, PageRequestOf}
use Rattle.sva_model.specs.State.Subject.{MarkerOf, ResetDone}
use Rattle.sva_model.specs.States.{Place, is_open, is_running, place}
use Rattle.sva_model.specs.States.Place.{Free, Mapped, Withheld}
use Rattle.sva_model.specs.Unmappings.{waits}
use Rattle.sva_model.specs.Acts.{Act}
use Rattle.sva_model.specs.Words.{any_below, the}
use Rattle.sva_model.specs.Replies.{response_to, reply_maps}
use Rattle.sva_model.specs.Labels
use Rattle.sva_model.specs.Refusals.{Cause, refusals}
use Rattle.sva_model.specs.Outcomes.{Outcome, outcome, unbind_outcome, advance_outcome, unmap_answer, unmap_range_answer, frames_at, mapped_in}
use Rattle.sva_model.specs.Outcomes.{wait_outcome, send_outcome, head_outcome, may_pass, pump_outcome, file_outcome, serve_outcome}
use Rattle.sva_model.specs.Outcomes.{code_answer, reply_outcome, fault_outcome, keep_outcome, is_full, completion_outcome, response_answer}
use Rattle.sva_model.specs.Outcomes.{request_outcome, count_outcome, page_request_outcome, marker_outcome, subject_outcome, deliver_outcome}
use Rattle.sva_model.specs.Outcomes.{look_answer, bearer_answer}
use Rattle.sva_model.specs.Steps.{checked, reply}
use Rattle.sva_core.specs.Suiting.{IsUnbound, IsAdvanced, IsOver, IsStill, SuitsStep, Suits}

unbind_suits : (e b : ℕ) (x : Stage) → IsUnbound (unbind_outcome e b x).answer
unbind_suits e b Unbound = tt
unbind_suits e b Live = tt
unbind_suits e b (Stopping m) = tt
unbind_suits e b (Draining k) = tt
unbind_suits e b (Invalidating j k) = tt
unbind_suits e b Quiet = tt
unbind_suits e b Lost = tt
unbind_suits e b Released = tt

advance_suits : (w : World) (e b : ℕ) (x : Stage) → IsAdvanced (advance_outcome w e b x).answer
advance_suits w e b Unbound = tt
advance_suits w e b Live = tt
advance_suits w e b (Stopping m) = tt
advance_suits w e b (Draining k) = tt
advance_suits w e b (Invalidating j k) = tt
advance_suits w e b Quiet = tt
advance_suits w e b Lost = tt
advance_suits w e b Released = tt

end_suits : (b : Bool) → IsOver (if b then answer.Ended else answer.Dead)
end_suits true = tt
end_suits false = tt

unmap_still : (b : Bool) (frames : List ℕ) → IsStill (unmap_answer b frames)
unmap_still true frames = tt
unmap_still false frames = tt

unmap_range_still : (b : Bool) (frames : ℕ) → IsStill (unmap_range_answer b frames)
unmap_range_still true frames = tt
unmap_range_still false frames = tt

wait_still : (e k : ℕ) (b : Bool) → IsStill (wait_outcome e k b).answer
wait_still e k true = tt
wait_still e k false = tt

send_still : (e k t : ℕ) (b : Bool) → IsStill (send_outcome e k t b).answer
send_still e k t true = tt
send_still e k t false = tt

head_still : (p : Endpoint) (e k : ℕ) (o : Order) → IsStill (head_outcome p e k o).answer
head_still p e k (RangeOf b range) = send_still e k (Labels.lowest_label 32 p.at_itag) (not (Labels.lowest_label 32 p.at_itag == 32))
head_still p e k (PasidOf b) = send_still e k (Labels.lowest_label 32 p.at_itag) (not (Labels.lowest_label 32 p.at_itag == 32))
head_still p e k (Wait cookie drain) = wait_still e k (may_pass p drain)

pump_still : (p : Endpoint) (e : ℕ) (b : Bool) → IsStill (pump_outcome p e b).answer
pump_still p e true = tt
pump_still p e false = head_still p e (Labels.head p) (p.order (Labels.head p))

file_still : (e r g : ℕ) (b : Bool) → IsStill (file_outcome e r g b).answer
file_still e r g true = tt
file_still e r g false = tt

serve_still : (p : Endpoint) (e : ℕ) (b : Bool) → IsStill (serve_outcome p e b).answer
serve_still p e true = tt
serve_still p e false =
    file_still e (Labels.oldest_arrived p) (p.group_of (Labels.oldest_arrived p)) (p.is_last (Labels.oldest_arrived p))

code_still : (n : ℕ) (c : Code) → IsStill (code_answer n c)
code_still n SuccessCode = tt
code_still n InvalidCode = tt
code_still n FailureCode = tt

reply_still : (w : World) (x j : ℕ) (maps : List Act) (o : Option Code) → IsStill (reply_outcome w x j maps o).answer
reply_still w x j maps None = tt
reply_still w x j maps (Some code) = code_still (length maps) code

fault_still : (p : Endpoint) (e t q : ℕ) (r x l : Bool) (o : Option ℕ) → IsStill (fault_outcome p e t q r x l o).answer
fault_still p e t q r x l None = tt
fault_still p e t q r x l (Some i) = tt

keep_still : (e c r m : ℕ) (b : Bool) → IsStill (keep_outcome e c r m b).answer
keep_still e c r m true = tt
keep_still e c r m false = tt

completion_still : (p : Endpoint) (e c r : ℕ) (o : Option ℕ) (x : RequestState) → IsStill (completion_outcome p e c r o x).answer
completion_still p e c r (Some m) Out = keep_still e c r m (is_full p r)
completion_still p e c r None Out = tt
completion_still p e c r (Some m) Doomed = tt
completion_still p e c r None Doomed = tt
completion_still p e c r (Some m) Over = tt
completion_still p e c r None Over = tt

response_still : (g : GroupState) → IsStill (response_answer g)
response_still Collecting = tt
response_still Awaiting = tt
response_still Stale = tt
response_still Closed = tt

request_still : (w : World) (p : Endpoint) (e c r : ℕ) (b : Bool) → IsStill (request_outcome w p e c r b).answer
request_still w p e c r true = tt
request_still w p e c r false = tt

count_still : (p : Endpoint) (e c : ℕ) (names : ℕ → Bool) (b : Bool) → IsStill (count_outcome p e c names b).answer
count_still p e c names true = tt
count_still p e c names false = tt

page_request_still : (e c r : ℕ) (b : Bool) → IsStill (page_request_outcome e c r b).answer
page_request_still e c r true = tt
page_request_still e c r false = tt

marker_still : (e c m : ℕ) (b : Bool) → IsStill (marker_outcome e c m b).answer
marker_still e c m true = tt
marker_still e c m false = tt

subject_still : (w : World) (p : Endpoint) (e c : ℕ) (x : Subject) → IsStill (subject_outcome w p e c x).answer
subject_still w p e c (StartOf b) = tt
subject_still w p e c (StopOf b) = tt
subject_still w p e c FunctionReset = tt
subject_still w p e c (CompletionOf r found) = completion_still p e c r found (p.request r)
subject_still w p e c (InvalidateOf k) = tt
subject_still w p e c (ResponseOf g code) = response_still (p.group g)
subject_still w p e c (RequestOf r) = request_still w p e c r (is_open p.phase)
subject_still w p e c (InvalidatedOf names) = count_still p e c names (is_open p.phase)
subject_still w p e c (PageRequestOf r) = page_request_still e c r (is_open p.phase)
subject_still w p e c (MarkerOf b) = marker_still e c b (is_open p.phase)
subject_still w p e c ResetDone = tt

deliver_still : (w : World) (p : Endpoint) (e c : ℕ) (o : Option Subject) → IsStill (deliver_outcome w p e c o).answer
deliver_still w p e c None = tt
deliver_still w p e c (Some subject) = subject_still w p e c subject

look_still : (x : Place) → IsStill (look_answer x)
look_still Free = tt
look_still Mapped = tt
look_still Withheld = tt

bearer_still : (w : World) (t : ℕ) (b : Bool) → IsStill (bearer_answer w t b)
bearer_still w t true = tt
bearer_still w t false = tt

outcome_suits : (w : World) (s : Step) → SuitsStep s (outcome w s).answer
outcome_suits w step.Space = tt
outcome_suits w (step.DropSpace n) = tt
outcome_suits w (step.Map n q x) = tt
outcome_suits w (step.Unmap n q count) =
    unmap_still (any_below w.config.endpoints (waits w (Labels.name w n))) (frames_at w (Labels.name w n) q count)
outcome_suits w (step.UnmapRange n q order) =
    unmap_range_still (any_below w.config.endpoints (waits w (Labels.name w n))) (mapped_in w (Labels.name w n) q order)
outcome_suits w (step.Bind e n) = tt
outcome_suits w (step.Unbind n) =
    unbind_suits (w.endpoint_of (Labels.name w n)) (Labels.name w n) ((w.part (w.endpoint_of (Labels.name w n))).stage (Labels.name w n))
outcome_suits w (step.Advance n) =
    advance_suits w (w.endpoint_of (Labels.name w n)) (Labels.name w n) ((w.part (w.endpoint_of (Labels.name w n))).stage (Labels.name w n))
outcome_suits w (step.Pump e) = pump_still (w.part e) e (Labels.is_queue_empty (w.part e))
outcome_suits w (step.Serve e) = serve_still (w.part e) e (Labels.is_page_queue_empty (w.part e))
outcome_suits w (step.Reset e) = tt
outcome_suits w (step.Take x) = tt
outcome_suits w (step.Reply x v) =
    reply_still w x (the (w.hand x)) (reply_maps w (the (w.hand x)) v) (response_to w (the (w.hand x)) v)
outcome_suits w (step.Ask e t q) = tt
outcome_suits w (step.BeginUse e t q x) = tt
outcome_suits w (step.EndUse e u) = end_suits (is_running ((w.part e).use_state (the ((w.part e).at_slot u))))
outcome_suits w (step.Evict e t q) = tt
outcome_suits w (step.Fault e t q r x group l) = fault_still (w.part e) e t q r x l group
outcome_suits w (step.Finish e vector count) = tt
outcome_suits w (step.Quit e t) = tt
outcome_suits w (step.Deliver n) =
    deliver_still w (w.part (w.link_of (Labels.name w n))) (w.link_of (Labels.name w n)) (Labels.name w n)
    ((w.part (w.link_of (Labels.name w n))).message (Labels.name w n))
outcome_suits w (step.Look f) = look_still (place w f)
outcome_suits w (step.Bearer t) = bearer_still w t (Labels.is_borne w t)

checked_suits : (s : Step) (cs : List Cause) (o : Outcome) → SuitsStep s o.answer → Suits s (checked cs o).reply
checked_suits s [] o k = k
checked_suits s (c ∷ cs) o k = go c.0 (checked_suits s cs o k)
  where
    go : (b : Bool) → Suits s (checked cs o).reply → Suits s (if b then record { reply = Err c.1; acts = [] } else checked cs o).reply
    go true k = tt
    go false k = k

pub reply_suits : (w : World) (s : Step) → Suits s (reply w s)
reply_suits w s = checked_suits s (refusals w s) (outcome w s) (outcome_suits w s)
