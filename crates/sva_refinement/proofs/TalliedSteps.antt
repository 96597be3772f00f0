-- The acts of a step begin and release as many bindings, and give out and give back as many slots, as its answer says.
use Rattle.std.proofs.Common.{◌≡◌, refl, ℕ, ◌+◌, Bool, true, false, arith}
use Rattle.std.specs.Prelude.{Option, Some, None, List, [], ◌∷◌, ◌++◌, if◌then◌else◌, length, Err}
use Rattle.sva_step.specs.declared.answers.Answer.TheVariants as answer
use Rattle.sva_step.specs.declared.steps.Step.{Step}
use Rattle.sva_step.specs.declared.steps.Step.TheVariants as step
use Rattle.sva_step.specs.declared.steps.Verdict.{Verdict}
use Rattle.sva_model.specs.Words.{the, any_below}
use Rattle.sva_model.specs.Message.{Code}
use Rattle.sva_model.specs.Message.Code.{SuccessCode, InvalidCode, FailureCode}
use Rattle.sva_model.specs.State.{Endpoint, World, Stage, Order, Subject, GroupState, RequestState}
use Rattle.sva_model.specs.State.Stage.{Unbound, Live, Stopping, Draining, Invalidating, Quiet, Lost, Released}
use Rattle.sva_model.specs.State.Order.{RangeOf, PasidOf, Wait}
use Rattle.sva_model.specs.State.RequestState.{Out, Doomed, Over}
use Rattle.sva_model.specs.State.GroupState.{Collecting, Awaiting, Stale, Closed}
use Rattle.sva_model.specs.State.Subject.{StartOf, StopOf, FunctionReset, CompletionOf, InvalidateOf, ResponseOf, RequestOf, InvalidatedOf, PageRequestOf}
use Rattle.sva_model.specs.State.Subject.{MarkerOf, ResetDone}
use Rattle.sva_model.specs.States.{Place, is_open, is_running, place}
use Rattle.sva_model.specs.States.Place.{Free, Mapped, Withheld}
use Rattle.sva_model.specs.Unmappings.{waits}
use Rattle.sva_model.specs.Acts.{Act, LocalAct}
use Rattle.sva_model.specs.Acts.Act.{Unmap, LetGo, AtEndpoint}
use Rattle.sva_model.specs.Labels
use Rattle.sva_model.specs.Refusals.{Cause, refusals}
use Rattle.sva_model.specs.Replies.{maps_to, reply_maps, replies_success, newly_mapped, free_list, is_write_asked, job_space, response_to}
use Rattle.sva_model.specs.Outcomes.{Outcome, outcome, says, frames_at, mapped_in, unmap_answer, unmap_range_answer, code_answer, response_answer}
use Rattle.sva_model.specs.Outcomes.{look_answer, bearer_answer, unbind_outcome, advance_outcome, pump_outcome, head_outcome, wait_outcome, send_outcome}
use Rattle.sva_model.specs.Outcomes.{may_pass, serve_outcome, file_outcome, reply_outcome, fault_outcome, subject_outcome, deliver_outcome}
use Rattle.sva_model.specs.Outcomes.{completion_outcome, keep_outcome, is_full, request_outcome, count_outcome, page_request_outcome, marker_outcome}
use Rattle.sva_model.specs.Steps.{Decision, checked, decide}
use Rattle.sva_refinement.specs.Tallies.{binds, releases, begins, ends}

abbrev pub bound_by : Act → ℕ
bound_by (AtEndpoint e (LocalAct.Bind b s t)) = 1
bound_by _ = 0

abbrev pub released_by : Act → ℕ
released_by (AtEndpoint e (LocalAct.Release b)) = 1
released_by _ = 0

abbrev pub begun_by : Act → ℕ
begun_by (AtEndpoint e (LocalAct.Begin r m t)) = 1
begun_by _ = 0

abbrev pub ended_by : Act → ℕ
ended_by (AtEndpoint e (LocalAct.End u)) = 1
ended_by _ = 0

abbrev pub total : (Act → ℕ) → List Act → ℕ
total f [] = 0
total f (a ∷ acts) = f a + total f acts

pub record AreTallied (d : Decision) : Type 0 where
  pub bound : total bound_by d.acts ≡ binds d.reply
  pub released : total released_by d.acts ≡ releases d.reply
  pub begun : total begun_by d.acts ≡ begins d.reply
  pub ended : total ended_by d.acts ≡ ends d.reply

tallied :
    (d : Decision) → total bound_by d.acts ≡ binds d.reply → total released_by d.acts ≡ releases d.reply → total begun_by d.acts ≡ begins d.reply
    → total ended_by d.acts ≡ ends d.reply
    → AreTallied d
tallied d b r x y = record { bound = b; released = r; begun = x; ended = y }

-- what is done where no cause refuses
abbrev plain : Outcome → Decision
plain o = checked [] o

unmap_tallied : (s q count order : ℕ) (frames : List ℕ) (b : Bool) → AreTallied (plain (says (unmap_answer b frames) (Unmap s q count order ∷ [])))
unmap_tallied s q count order frames true = tallied _ refl refl refl refl
unmap_tallied s q count order frames false = tallied _ refl refl refl refl

range_tallied : (s q count order n : ℕ) (b : Bool) → AreTallied (plain (says (unmap_range_answer b n) (Unmap s q count order ∷ [])))
range_tallied s q count order n true = tallied _ refl refl refl refl
range_tallied s q count order n false = tallied _ refl refl refl refl

unbind_tallied : (e b : ℕ) (x : Stage) → AreTallied (plain (unbind_outcome e b x))
unbind_tallied e b Unbound = tallied _ refl refl refl refl
unbind_tallied e b Live = tallied _ refl refl refl refl
unbind_tallied e b (Stopping m) = tallied _ refl refl refl refl
unbind_tallied e b (Draining k) = tallied _ refl refl refl refl
unbind_tallied e b (Invalidating j k) = tallied _ refl refl refl refl
unbind_tallied e b Quiet = tallied _ refl refl refl refl
unbind_tallied e b Lost = tallied _ refl refl refl refl
unbind_tallied e b Released = tallied _ refl refl refl refl

advance_tallied : (w : World) (e b : ℕ) (x : Stage) → AreTallied (plain (advance_outcome w e b x))
advance_tallied w e b Unbound = tallied _ refl refl refl refl
advance_tallied w e b Live = tallied _ refl refl refl refl
advance_tallied w e b (Stopping m) = tallied _ refl refl refl refl
advance_tallied w e b (Draining k) = tallied _ refl refl refl refl
advance_tallied w e b (Invalidating j k) = tallied _ refl refl refl refl
advance_tallied w e b Quiet = tallied _ refl refl refl refl
advance_tallied w e b Lost = tallied _ refl refl refl refl
advance_tallied w e b Released = tallied _ refl refl refl refl

wait_tallied : (e k : ℕ) (b : Bool) → AreTallied (plain (wait_outcome e k b))
wait_tallied e k true = tallied _ refl refl refl refl
wait_tallied e k false = tallied _ refl refl refl refl

send_tallied : (e k t : ℕ) (b : Bool) → AreTallied (plain (send_outcome e k t b))
send_tallied e k t true = tallied _ refl refl refl refl
send_tallied e k t false = tallied _ refl refl refl refl

head_tallied : (p : Endpoint) (e k : ℕ) (o : Order) → AreTallied (plain (head_outcome p e k o))
head_tallied p e k (Wait cookie drain) = wait_tallied e k (may_pass p drain)
head_tallied p e k (RangeOf b q) = send_tallied e k (Labels.lowest_label 32 p.at_itag) _
head_tallied p e k (PasidOf b) = send_tallied e k (Labels.lowest_label 32 p.at_itag) _

pump_tallied : (p : Endpoint) (e : ℕ) (b : Bool) → AreTallied (plain (pump_outcome p e b))
pump_tallied p e true = tallied _ refl refl refl refl
pump_tallied p e false = head_tallied p e (Labels.head p) (p.order (Labels.head p))

file_tallied : (e r g : ℕ) (b : Bool) → AreTallied (plain (file_outcome e r g b))
file_tallied e r g true = tallied _ refl refl refl refl
file_tallied e r g false = tallied _ refl refl refl refl

serve_tallied : (p : Endpoint) (e : ℕ) (b : Bool) → AreTallied (plain (serve_outcome p e b))
serve_tallied p e true = tallied _ refl refl refl refl
serve_tallied p e false = file_tallied e (Labels.oldest_arrived p) (p.group_of (Labels.oldest_arrived p)) (p.is_last (Labels.oldest_arrived p))

-- pages that are mapped count for nothing
maps_total :
    (f : Act → ℕ) → ((s q g : ℕ) (x : Bool) → f (Act.Map s q g x) ≡ 0) → (t : ℕ) (write : ℕ → Bool) (qs fs : List ℕ) (rest : List Act)
    → total f (maps_to t write qs fs ++ rest) ≡ total f rest
maps_total f h t write [] fs rest = refl
maps_total f h t write (q ∷ qs) [] rest = refl
maps_total f h t write (q ∷ qs) (g ∷ fs) rest =
    let none = h t q g (write q) in
    let others = maps_total f h t write qs fs rest in
    omega (arith, none, others)

code_tallied :
    (n : ℕ) (code : Code) (acts : List Act) → total bound_by acts ≡ 0 → total released_by acts ≡ 0 → total begun_by acts ≡ 0 → total ended_by acts ≡ 0
    → AreTallied (plain (says (code_answer n code) acts))
code_tallied n SuccessCode acts b r x y = tallied _ b r x y
code_tallied n InvalidCode acts b r x y = tallied _ b r x y
code_tallied n FailureCode acts b r x y = tallied _ b r x y

reply_tallied : (w : World) (x j : ℕ) (v : Verdict) (o : Option Code) → AreTallied (plain (reply_outcome w x j (reply_maps w j v) o))
reply_tallied w x j v None = tallied _ refl refl refl refl
reply_tallied w x j v (Some code) =
    code_tallied (length (reply_maps w j v)) code (reply_maps w j v ++ last)
    (none bound_by (λ s q g z. refl) (replies_success w j v))
    (none released_by (λ s q g z. refl) (replies_success w j v))
    (none begun_by (λ s q g z. refl) (replies_success w j v))
    (none ended_by (λ s q g z. refl) (replies_success w j v))
  where
    last : List Act
    last = LetGo x ∷ AtEndpoint (w.job j).endpoint (LocalAct.Respond (w.job j).group code) ∷ []

    none :
        (f : Act → ℕ) → ((s q g : ℕ) (z : Bool) → f (Act.Map s q g z) ≡ 0) → (b : Bool)
        → total f ((if b then maps_to (job_space w j) (is_write_asked w j) (newly_mapped w j) (free_list w) else []) ++ last) ≡ total f last
    none f h true = maps_total f h (job_space w j) (is_write_asked w j) (newly_mapped w j) (free_list w) last
    none f h false = refl

end_tallied : (e u : ℕ) (b : Bool) → AreTallied (plain (says (if b then answer.Ended else answer.Dead) (AtEndpoint e (LocalAct.End u) ∷ [])))
end_tallied e u true = tallied _ refl refl refl refl
end_tallied e u false = tallied _ refl refl refl refl

fault_tallied : (p : Endpoint) (e t q : ℕ) (r x l : Bool) (o : Option ℕ) → AreTallied (plain (fault_outcome p e t q r x l o))
fault_tallied p e t q r x l None = tallied _ refl refl refl refl
fault_tallied p e t q r x l (Some k) = tallied _ refl refl refl refl

keep_tallied : (e c r m : ℕ) (b : Bool) → AreTallied (plain (keep_outcome e c r m b))
keep_tallied e c r m true = tallied _ refl refl refl refl
keep_tallied e c r m false = tallied _ refl refl refl refl

completion_tallied : (p : Endpoint) (e c r : ℕ) (o : Option ℕ) (x : RequestState) → AreTallied (plain (completion_outcome p e c r o x))
completion_tallied p e c r (Some m) Out = keep_tallied e c r m (is_full p r)
completion_tallied p e c r None Out = tallied _ refl refl refl refl
completion_tallied p e c r (Some m) Doomed = tallied _ refl refl refl refl
completion_tallied p e c r None Doomed = tallied _ refl refl refl refl
completion_tallied p e c r (Some m) Over = tallied _ refl refl refl refl
completion_tallied p e c r None Over = tallied _ refl refl refl refl

response_tallied : (e c g : ℕ) (code : Code) (s : GroupState) → AreTallied (plain (says (response_answer s) (AtEndpoint e (LocalAct.Answered c g code) ∷ [])))
response_tallied e c g code Collecting = tallied _ refl refl refl refl
response_tallied e c g code Awaiting = tallied _ refl refl refl refl
response_tallied e c g code Stale = tallied _ refl refl refl refl
response_tallied e c g code Closed = tallied _ refl refl refl refl

request_tallied : (w : World) (p : Endpoint) (e c r : ℕ) (b : Bool) → AreTallied (plain (request_outcome w p e c r b))
request_tallied w p e c r true = tallied _ refl refl refl refl
request_tallied w p e c r false = tallied _ refl refl refl refl

count_tallied : (p : Endpoint) (e c : ℕ) (names : ℕ → Bool) (b : Bool) → AreTallied (plain (count_outcome p e c names b))
count_tallied p e c names true = tallied _ refl refl refl refl
count_tallied p e c names false = tallied _ refl refl refl refl

page_request_tallied : (e c r : ℕ) (b : Bool) → AreTallied (plain (page_request_outcome e c r b))
page_request_tallied e c r true = tallied _ refl refl refl refl
page_request_tallied e c r false = tallied _ refl refl refl refl

marker_tallied : (e c b : ℕ) (t : Bool) → AreTallied (plain (marker_outcome e c b t))
marker_tallied e c b true = tallied _ refl refl refl refl
marker_tallied e c b false = tallied _ refl refl refl refl

subject_tallied : (w : World) (p : Endpoint) (e c : ℕ) (x : Subject) → AreTallied (plain (subject_outcome w p e c x))
subject_tallied w p e c (StartOf b) = tallied _ refl refl refl refl
subject_tallied w p e c (StopOf b) = tallied _ refl refl refl refl
subject_tallied w p e c FunctionReset = tallied _ refl refl refl refl
subject_tallied w p e c (CompletionOf r found) = completion_tallied p e c r found (p.request r)
subject_tallied w p e c (InvalidateOf k) = tallied _ refl refl refl refl
subject_tallied w p e c (ResponseOf g code) = response_tallied e c g code (p.group g)
subject_tallied w p e c (RequestOf r) = request_tallied w p e c r (is_open p.phase)
subject_tallied w p e c (InvalidatedOf names) = count_tallied p e c names (is_open p.phase)
subject_tallied w p e c (PageRequestOf r) = page_request_tallied e c r (is_open p.phase)
subject_tallied w p e c (MarkerOf b) = marker_tallied e c b (is_open p.phase)
subject_tallied w p e c ResetDone = tallied _ refl refl refl refl

deliver_tallied : (w : World) (p : Endpoint) (e c : ℕ) (o : Option Subject) → AreTallied (plain (deliver_outcome w p e c o))
deliver_tallied w p e c None = tallied _ refl refl refl refl
deliver_tallied w p e c (Some x) = subject_tallied w p e c x

look_tallied : (x : Place) → AreTallied (plain (says (look_answer x) []))
look_tallied Free = tallied _ refl refl refl refl
look_tallied Mapped = tallied _ refl refl refl refl
look_tallied Withheld = tallied _ refl refl refl refl

bearer_tallied : (w : World) (t : ℕ) (b : Bool) → AreTallied (plain (says (bearer_answer w t b) []))
bearer_tallied w t true = tallied _ refl refl refl refl
bearer_tallied w t false = tallied _ refl refl refl refl

outcome_tallied : (w : World) (s : Step) → AreTallied (plain (outcome w s))
outcome_tallied w step.Space = tallied _ refl refl refl refl
outcome_tallied w (step.DropSpace n) = tallied _ refl refl refl refl
outcome_tallied w (step.Map n q x) = tallied _ refl refl refl refl
outcome_tallied w (step.Unmap n q count) =
    unmap_tallied (Labels.name w n) q count 0 (frames_at w (Labels.name w n) q count) (any_below w.config.endpoints (waits w (Labels.name w n)))
outcome_tallied w (step.UnmapRange n q order) =
    range_tallied (Labels.name w n) q 1 order (mapped_in w (Labels.name w n) q order) (any_below w.config.endpoints (waits w (Labels.name w n)))
outcome_tallied w (step.Bind e n) = tallied _ refl refl refl refl
outcome_tallied w (step.Unbind n) =
    unbind_tallied (w.endpoint_of (Labels.name w n)) (Labels.name w n) ((w.part (w.endpoint_of (Labels.name w n))).stage (Labels.name w n))
outcome_tallied w (step.Advance n) =
    advance_tallied w (w.endpoint_of (Labels.name w n)) (Labels.name w n) ((w.part (w.endpoint_of (Labels.name w n))).stage (Labels.name w n))
outcome_tallied w (step.Pump e) = pump_tallied (w.part e) e (Labels.is_queue_empty (w.part e))
outcome_tallied w (step.Serve e) = serve_tallied (w.part e) e (Labels.is_page_queue_empty (w.part e))
outcome_tallied w (step.Reset e) = tallied _ refl refl refl refl
outcome_tallied w (step.Take x) = tallied _ refl refl refl refl
outcome_tallied w (step.Reply x v) = reply_tallied w x (the (w.hand x)) v (response_to w (the (w.hand x)) v)
outcome_tallied w (step.Ask e t q) = tallied _ refl refl refl refl
outcome_tallied w (step.BeginUse e t q x) = tallied _ refl refl refl refl
outcome_tallied w (step.EndUse e u) = end_tallied e (the ((w.part e).at_slot u)) (is_running ((w.part e).use_state (the ((w.part e).at_slot u))))
outcome_tallied w (step.Evict e t q) = tallied _ refl refl refl refl
outcome_tallied w (step.Fault e t q r x group l) = fault_tallied (w.part e) e t q r x l group
outcome_tallied w (step.Finish e vector count) = tallied _ refl refl refl refl
outcome_tallied w (step.Quit e t) = tallied _ refl refl refl refl
outcome_tallied w (step.Deliver n) =
    deliver_tallied w (w.part (w.link_of (Labels.name w n))) (w.link_of (Labels.name w n)) (Labels.name w n)
    ((w.part (w.link_of (Labels.name w n))).message (Labels.name w n))
outcome_tallied w (step.Look f) = look_tallied (place w f)
outcome_tallied w (step.Bearer t) = bearer_tallied w t (Labels.is_borne w t)

checked_tallied : (cs : List Cause) (o : Outcome) → AreTallied (plain o) → AreTallied (checked cs o)
checked_tallied [] o k = k
checked_tallied (c ∷ cs) o k = go c.0 (checked_tallied cs o k)
  where
    go : (b : Bool) → AreTallied (checked cs o) → AreTallied (if b then record { reply = Err c.1; acts = [] } else checked cs o)
    go true k = tallied _ refl refl refl refl
    go false k = k

pub step_tallied : (w : World) (s : Step) → AreTallied (decide w s)
step_tallied w s = checked_tallied (refusals w s) (outcome w s) (outcome_tallied w s)
