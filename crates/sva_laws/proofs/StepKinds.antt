-- By which step each act is done that changes an order, the counter of reset-dones, a marker noted or whether page requests are disabled.
use Rattle.std.proofs.Common.{◌≡◌, refl, ℕ, Bool, true, false}
use Rattle.std.specs.Prelude.{Option, Some, None, List, [], ◌∷◌, ◌++◌, if◌then◌else◌, Ok, Err}
use Rattle.sva_step.specs.declared.answers.Answer.{Answer}
use Rattle.sva_step.specs.declared.answers.Answer.TheVariants as answer
use Rattle.sva_step.specs.declared.steps.Step.{Step}
use Rattle.sva_step.specs.declared.steps.Step.TheVariants as step
use Rattle.sva_step.specs.declared.steps.Verdict.{Verdict}
use Rattle.sva_model.specs.Words.{the}
use Rattle.sva_model.specs.Message.{Code}
use Rattle.sva_model.specs.State.{Endpoint, World, Stage, Order, Subject, RequestState}
use Rattle.sva_model.specs.State.Stage.{Unbound, Live, Stopping, Draining, Invalidating, Quiet, Lost, Released}
use Rattle.sva_model.specs.State.Order.{RangeOf, PasidOf, Wait}
use Rattle.sva_model.specs.State.RequestState.{Out, Doomed, Over}
use Rattle.sva_model.specs.State.Subject.{StartOf, StopOf, FunctionReset, CompletionOf, InvalidateOf, ResponseOf, RequestOf, InvalidatedOf, PageRequestOf}
use Rattle.sva_model.specs.State.Subject.{MarkerOf, ResetDone}
use Rattle.sva_model.specs.Acts.{Act, LocalAct}
use Rattle.sva_model.specs.Acts.Act.{Unmap, LetGo, AtEndpoint}
use Rattle.sva_model.specs.Labels
use Rattle.sva_model.specs.Refusals.{Cause, refusals}
use Rattle.sva_model.specs.Replies.{maps_to, reply_maps, replies_success, newly_mapped, free_list, is_write_asked, job_space, response_to}
use Rattle.sva_model.specs.Outcomes.{Outcome, outcome, unbind_outcome, advance_outcome, pump_outcome, head_outcome, wait_outcome, send_outcome, may_pass}
use Rattle.sva_model.specs.Outcomes.{serve_outcome, file_outcome, reply_outcome, fault_outcome, subject_outcome, deliver_outcome, completion_outcome}
use Rattle.sva_model.specs.Outcomes.{keep_outcome, is_full, request_outcome, count_outcome, page_request_outcome, marker_outcome, response_answer}
use Rattle.sva_model.specs.States.{is_open}
use Rattle.sva_model.specs.Steps.{Decision, checked, decide}

-- does it leave every order, the counter of reset-dones, the markers noted, and whether page requests are disabled?
abbrev pub is_calm_own : LocalAct → Bool
is_calm_own (LocalAct.Drain b cookie) = false
is_calm_own (LocalAct.Invalidate b cookie) = false
is_calm_own (LocalAct.Send k t) = false
is_calm_own (LocalAct.Pass k) = false
is_calm_own LocalAct.Reset = false
is_calm_own (LocalAct.Finish names vector count) = false
is_calm_own (LocalAct.Reset_arrives c) = false
is_calm_own (LocalAct.Keep c r m) = false
is_calm_own (LocalAct.Take c k) = false
is_calm_own (LocalAct.Answered c g code) = false
is_calm_own (LocalAct.Count c names) = false
is_calm_own (LocalAct.Mark c b) = false
is_calm_own (LocalAct.Reopen c) = false
is_calm_own _ = true

abbrev pub is_calm : Act → Bool
is_calm (Unmap s q count order) = false
is_calm (AtEndpoint e o) = is_calm_own o
is_calm _ = true

abbrev pub are_calm : List Act → Bool
are_calm [] = true
are_calm (a ∷ acts) = if is_calm a then are_calm acts else false

-- the step delivers this message of the endpoint
pub record IsDelivery (w : World) (s : Step) (e c : ℕ) : Type 0 where
  pub number : ℕ
  pub step_is : s ≡ step.Deliver number
  pub name_is : Labels.name w number ≡ c
  pub link_is : w.link_of c ≡ e

-- by which step an act is done that isn't calm
abbrev pub IsBy : World → Step → (e : ℕ) → LocalAct → Answer → Type 0
IsBy w s e (LocalAct.Drain b cookie) a = cookie ≡ w.cookies
IsBy w s e (LocalAct.Invalidate b cookie) a = cookie ≡ w.cookies
IsBy w s e (LocalAct.Pass k) a = (s ≡ step.Pump e) × (a ≡ answer.WaitDone) × (Labels.head (w.part e) ≡ k)
IsBy w s e LocalAct.Reset a = s ≡ step.Reset e
IsBy w s e (LocalAct.Reset_arrives c) a = IsDelivery w s e c
IsBy w s e (LocalAct.Keep c r m) a = is_full (w.part e) r ≡ false
IsBy w s e (LocalAct.Answered c g code) a = IsDelivery w s e c
IsBy w s e (LocalAct.Count c names) a = IsDelivery w s e c
IsBy w s e (LocalAct.Mark c b) a = IsDelivery w s e c
IsBy w s e (LocalAct.Reopen c) a = IsDelivery w s e c
IsBy w s e _ a = Unit {0}

-- The acts of a step: they are calm, or one act of an endpoint, or one unmapping.
pub data Kind (w : World) (s : Step) (d : Decision) : Type 0 where
  calm : are_calm d.acts ≡ true → Kind w s d
  single : (e : ℕ) (o : LocalAct) (a : Answer) → d.acts ≡ AtEndpoint e o ∷ [] → d.reply ≡ Ok a → IsBy w s e o a → Kind w s d
  unmapping : (t q count order : ℕ) → d.acts ≡ Unmap t q count order ∷ [] → Kind w s d

-- what is done where no cause refuses
abbrev pub plain : Outcome → Decision
plain o = checked [] o

unbind_kind : (w : World) (s : Step) (e b : ℕ) (x : Stage) → Kind w s (plain (unbind_outcome e b x))
unbind_kind w s e b Lost = calm refl
unbind_kind w s e b Unbound = calm refl
unbind_kind w s e b Live = calm refl
unbind_kind w s e b (Stopping m) = calm refl
unbind_kind w s e b (Draining k) = calm refl
unbind_kind w s e b (Invalidating j k) = calm refl
unbind_kind w s e b Quiet = calm refl
unbind_kind w s e b Released = calm refl

advance_kind : (w : World) (s : Step) (e b : ℕ) (x : Stage) → Kind w s (plain (advance_outcome w e b x))
advance_kind w s e b (Stopping m) = single e (LocalAct.Drain b w.cookies) answer.Draining refl refl refl
advance_kind w s e b (Draining k) = single e (LocalAct.Invalidate b w.cookies) answer.Invalidating refl refl refl
advance_kind w s e b (Invalidating j k) = calm refl
advance_kind w s e b Lost = calm refl
advance_kind w s e b Unbound = calm refl
advance_kind w s e b Live = calm refl
advance_kind w s e b Quiet = calm refl
advance_kind w s e b Released = calm refl

wait_kind : (w : World) (e k : ℕ) (t : Bool) → Labels.head (w.part e) ≡ k → Kind w (step.Pump e) (plain (wait_outcome e k t))
wait_kind w e k true h = single e (LocalAct.Pass k) answer.WaitDone refl refl (refl, refl, h)
wait_kind w e k false h = calm refl

send_kind : (w : World) (s : Step) (e k t : ℕ) (b : Bool) → Kind w s (plain (send_outcome e k t b))
send_kind w s e k t true = single e (LocalAct.Send k t) (answer.Itag t) refl refl tt
send_kind w s e k t false = calm refl

head_kind : (w : World) (e k : ℕ) (o : Order) → Labels.head (w.part e) ≡ k → Kind w (step.Pump e) (plain (head_outcome (w.part e) e k o))
head_kind w e k (Wait cookie drain) h = wait_kind w e k (may_pass (w.part e) drain) h
head_kind w e k (RangeOf b q) h = send_kind w (step.Pump e) e k (Labels.lowest_label 32 (w.part e).at_itag) _
head_kind w e k (PasidOf b) h = send_kind w (step.Pump e) e k (Labels.lowest_label 32 (w.part e).at_itag) _

pump_kind : (w : World) (e : ℕ) (b : Bool) → Kind w (step.Pump e) (plain (pump_outcome (w.part e) e b))
pump_kind w e true = calm refl
pump_kind w e false = head_kind w e (Labels.head (w.part e)) ((w.part e).order (Labels.head (w.part e))) refl

file_kind : (w : World) (s : Step) (e r g : ℕ) (b : Bool) → Kind w s (plain (file_outcome e r g b))
file_kind w s e r g true = calm refl
file_kind w s e r g false = calm refl

serve_kind : (w : World) (s : Step) (p : Endpoint) (e : ℕ) (b : Bool) → Kind w s (plain (serve_outcome p e b))
serve_kind w s p e true = calm refl
serve_kind w s p e false = file_kind w s e (Labels.oldest_arrived p) (p.group_of (Labels.oldest_arrived p)) (p.is_last (Labels.oldest_arrived p))

maps_calm : (t : ℕ) (write : ℕ → Bool) (qs fs : List ℕ) (rest : List Act) → are_calm rest ≡ true → are_calm (maps_to t write qs fs ++ rest) ≡ true
maps_calm t write [] fs rest r = r
maps_calm t write (q ∷ qs) [] rest r = r
maps_calm t write (q ∷ qs) (f ∷ fs) rest r = maps_calm t write qs fs rest r

reply_kind : (w : World) (s : Step) (x j : ℕ) (v : Verdict) (o : Option Code) → Kind w s (plain (reply_outcome w x j (reply_maps w j v) o))
reply_kind w s x j v None = calm refl
reply_kind w s x j v (Some code) = calm (go (replies_success w j v))
  where
    go : (b : Bool) → are_calm ((if b then maps_to (job_space w j) (is_write_asked w j) (newly_mapped w j) (free_list w) else []) ++ LetGo x
        ∷ AtEndpoint (w.job j).endpoint (LocalAct.Respond (w.job j).group code) ∷ []) ≡ true
    go true = maps_calm (job_space w j) (is_write_asked w j) (newly_mapped w j) (free_list w)
        (LetGo x ∷ AtEndpoint (w.job j).endpoint (LocalAct.Respond (w.job j).group code) ∷ []) refl
    go false = refl

fault_kind : (w : World) (s : Step) (p : Endpoint) (e t q : ℕ) (r x l : Bool) (o : Option ℕ) → Kind w s (plain (fault_outcome p e t q r x l o))
fault_kind w s p e t q r x l None = calm refl
fault_kind w s p e t q r x l (Some k) = calm refl

-- Deliveries.

keep_kind : (w : World) (s : Step) (e c r m : ℕ) (b : Bool) → is_full (w.part e) r ≡ b → Kind w s (plain (keep_outcome e c r m b))
keep_kind w s e c r m true h = calm refl
keep_kind w s e c r m false h = single e (LocalAct.Keep c r m) answer.Held refl refl h

completion_kind : (w : World) (s : Step) (e c r : ℕ) (o : Option ℕ) (x : RequestState) → Kind w s (plain (completion_outcome (w.part e) e c r o x))
completion_kind w s e c r (Some m) Out = keep_kind w s e c r m (is_full (w.part e) r) refl
completion_kind w s e c r None Out = calm refl
completion_kind w s e c r (Some m) Doomed = calm refl
completion_kind w s e c r None Doomed = calm refl
completion_kind w s e c r (Some m) Over = calm refl
completion_kind w s e c r None Over = calm refl

request_kind : (w : World) (s : Step) (p : Endpoint) (e c r : ℕ) (b : Bool) → Kind w s (plain (request_outcome w p e c r b))
request_kind w s p e c r true = calm refl
request_kind w s p e c r false = calm refl

count_kind : (w : World) (s : Step) (p : Endpoint) (e c : ℕ) (names : ℕ → Bool) (b : Bool) → IsDelivery w s e c → Kind w s (plain (count_outcome p e c names b))
count_kind w s p e c names true d = single e (LocalAct.Count c names) _ refl refl d
count_kind w s p e c names false d = calm refl

page_request_kind : (w : World) (s : Step) (e c r : ℕ) (b : Bool) → Kind w s (plain (page_request_outcome e c r b))
page_request_kind w s e c r true = calm refl
page_request_kind w s e c r false = calm refl

marker_kind : (w : World) (s : Step) (e c b : ℕ) (t : Bool) → IsDelivery w s e c → Kind w s (plain (marker_outcome e c b t))
marker_kind w s e c b true d = single e (LocalAct.Mark c b) answer.Marked refl refl d
marker_kind w s e c b false d = calm refl

subject_kind : (w : World) (s : Step) (e c : ℕ) (x : Subject) → IsDelivery w s e c → Kind w s (plain (subject_outcome w (w.part e) e c x))
subject_kind w s e c (StartOf b) d = calm refl
subject_kind w s e c (StopOf b) d = calm refl
subject_kind w s e c FunctionReset d = single e (LocalAct.Reset_arrives c) answer.Reset refl refl d
subject_kind w s e c (CompletionOf r found) d = completion_kind w s e c r found ((w.part e).request r)
subject_kind w s e c (InvalidateOf k) d = single e (LocalAct.Take c k) answer.Taken refl refl tt
subject_kind w s e c (ResponseOf g code) d = single e (LocalAct.Answered c g code) (response_answer ((w.part e).group g)) refl refl d
subject_kind w s e c (RequestOf r) d = request_kind w s (w.part e) e c r (is_open (w.part e).phase)
subject_kind w s e c (InvalidatedOf names) d = count_kind w s (w.part e) e c names (is_open (w.part e).phase) d
subject_kind w s e c (PageRequestOf r) d = page_request_kind w s e c r (is_open (w.part e).phase)
subject_kind w s e c (MarkerOf b) d = marker_kind w s e c b (is_open (w.part e).phase) d
subject_kind w s e c ResetDone d = single e (LocalAct.Reopen c) answer.ResetDone refl refl d

deliver_kind : (w : World) (s : Step) (e c : ℕ) (o : Option Subject) → IsDelivery w s e c → Kind w s (plain (deliver_outcome w (w.part e) e c o))
deliver_kind w s e c None d = calm refl
deliver_kind w s e c (Some x) d = subject_kind w s e c x d

outcome_kind : (w : World) (s : Step) → Kind w s (plain (outcome w s))
outcome_kind w step.Space = calm refl
outcome_kind w (step.DropSpace n) = calm refl
outcome_kind w (step.Map n q x) = calm refl
outcome_kind w (step.Unmap n q count) = unmapping (Labels.name w n) q count 0 refl
outcome_kind w (step.UnmapRange n q order) = unmapping (Labels.name w n) q 1 order refl
outcome_kind w (step.Bind e n) = calm refl
outcome_kind w (step.Unbind n) =
    unbind_kind w (step.Unbind n) (w.endpoint_of (Labels.name w n)) (Labels.name w n) ((w.part (w.endpoint_of (Labels.name w n))).stage (Labels.name w n))
outcome_kind w (step.Advance n) =
    advance_kind w (step.Advance n) (w.endpoint_of (Labels.name w n)) (Labels.name w n) ((w.part (w.endpoint_of (Labels.name w n))).stage (Labels.name w n))
outcome_kind w (step.Pump e) = pump_kind w e (Labels.is_queue_empty (w.part e))
outcome_kind w (step.Serve e) = serve_kind w (step.Serve e) (w.part e) e (Labels.is_page_queue_empty (w.part e))
outcome_kind w (step.Reset e) = single e LocalAct.Reset answer.Resetting refl refl refl
outcome_kind w (step.Take x) = calm refl
outcome_kind w (step.Reply x v) = reply_kind w (step.Reply x v) x (the (w.hand x)) v (response_to w (the (w.hand x)) v)
outcome_kind w (step.Ask e t q) = calm refl
outcome_kind w (step.BeginUse e t q x) = calm refl
outcome_kind w (step.EndUse e u) = calm refl
outcome_kind w (step.Evict e t q) = calm refl
outcome_kind w (step.Fault e t q r x group l) = fault_kind w (step.Fault e t q r x group l) (w.part e) e t q r x l group
outcome_kind w (step.Finish e vector count) = single e (LocalAct.Finish (Labels.is_named (w.part e) vector) vector count) (answer.Sent count) refl refl tt
outcome_kind w (step.Quit e t) = calm refl
outcome_kind w (step.Deliver n) =
    deliver_kind w (step.Deliver n) (w.link_of (Labels.name w n)) (Labels.name w n)
    ((w.part (w.link_of (Labels.name w n))).message (Labels.name w n))
    (record { number = n; step_is = refl; name_is = refl; link_is = refl })
outcome_kind w (step.Look f) = calm refl
outcome_kind w (step.Bearer t) = calm refl

checked_kind : (w : World) (s : Step) (cs : List Cause) (o : Outcome) → Kind w s (plain o) → Kind w s (checked cs o)
checked_kind w s [] o k = k
checked_kind w s (c ∷ cs) o k = go c.0 (checked_kind w s cs o k)
  where
    go : (b : Bool) → Kind w s (checked cs o) → Kind w s (if b then record { reply = Err c.1; acts = [] } else checked cs o)
    go true k = calm refl
    go false k = k

pub step_kind : (w : World) (s : Step) → Kind w s (decide w s)
step_kind w s = checked_kind w s (refusals w s) (outcome w s) (outcome_kind w s)
