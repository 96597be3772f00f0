-- What a step has tested of numbers and places when an act is done, beside what `Legal` says; and that what each such act
-- keeps holds after every list of steps.
use Rattle.std.proofs.Common.{◌≡◌, refl, ap, ◌∙◌, ℕ, ◌+◌, ◌^◌, ◌<◌, ◌≤◌, Bool, true, false, arith}
use Rattle.std.specs.Prelude.{Option, Some, None, ◌&&◌, not, ◌==◌, if◌then◌else◌, List, [], ◌∷◌, ◌++◌, Err}
use Rattle.std.proofs.lemmas.Bool.{ltb-false}
use Rattle.sva_step.specs.declared.limits.Config.{Config}
use Rattle.sva_step.specs.declared.steps.Step.{Step}
use Rattle.sva_step.specs.declared.steps.Step.TheVariants as step
use Rattle.sva_step.specs.declared.steps.Verdict.{Verdict}
use Rattle.sva_step.specs.declared.steps.Verdict.TheVariants as verdict
use Rattle.sva_model.specs.Words.{count_below, is_some, the}
use Rattle.sva_model.specs.Message.{Code}
use Rattle.sva_model.specs.State.{PasidRule, Endpoint, World, Stage, Order, Subject, RequestState, opened}
use Rattle.sva_model.specs.State.Stage.{Unbound, Live, Stopping, Draining, Invalidating, Quiet, Lost, Released}
use Rattle.sva_model.specs.State.Order.{RangeOf, PasidOf, Wait}
use Rattle.sva_model.specs.State.RequestState.{Out, Doomed, Over}
use Rattle.sva_model.specs.State.Subject.{StartOf, StopOf, FunctionReset, CompletionOf, InvalidateOf, ResponseOf, RequestOf, InvalidatedOf, PageRequestOf}
use Rattle.sva_model.specs.State.Subject.{MarkerOf, ResetDone}
use Rattle.sva_model.specs.States.{is_open, is_wait}
use Rattle.sva_model.specs.Unmappings.{submits}
use Rattle.sva_model.specs.Acts.{Act, LocalAct, act, sends, cookies_of}
use Rattle.sva_model.specs.Acts.Act.{NewSpace, Map, Unmap, NewBinding, LetGo, AtEndpoint}
use Rattle.sva_model.specs.Labels
use Rattle.sva_model.specs.Refusals.{Cause, refusals, unbind_refusals, advance_refusals, sends_invalidate, delivery_sends}
use Rattle.sva_model.specs.Replies.{maps_to, reply_maps, replies_success, newly_mapped, free_list, is_write_asked, job_space, job_part, job_binding}
use Rattle.sva_model.specs.Replies.{response, response_to, responds}
use Rattle.sva_model.specs.Outcomes.{Outcome, outcome, unbind_outcome, advance_outcome, pump_outcome, head_outcome, wait_outcome, send_outcome, may_pass}
use Rattle.sva_model.specs.Outcomes.{serve_outcome, file_outcome, reply_outcome, fault_outcome, deliver_outcome, completion_outcome, keep_outcome, is_full}
use Rattle.sva_model.specs.Outcomes.{request_outcome, count_outcome, page_request_outcome, marker_outcome}
use Rattle.sva_model.specs.Steps.{checked, decide, next, run, after_acts, world_after}
use Rattle.sva_labels.proofs.Tests.{other_fails}
use Rattle.sva_laws.proofs.Invariant.{Invariant}
use Rattle.sva_laws.proofs.Keeps.{Legal, act_keeps}
use Rattle.sva_laws.proofs.Passed.{Passed, LegalAll}
use Rattle.sva_laws.proofs.Runs.{step_legal, next_keeps, opened_invariant}

-- what an act of an endpoint spends is there: so many numbers of messages, so many cookies
pub record IsPaid (w : World) (e : ℕ) (o : LocalAct) : Type 0 where
  pub messages : 0 < sends o → w.config.first + w.messages + sends o ≤ 2 ^ 63
  pub cookies : 0 < cookies_of o → w.config.first + w.cookies + cookies_of o ≤ 2 ^ 63

abbrev pub IsGranted : World → Act → Type 0
IsGranted w NewSpace = w.config.first + w.spaces + 1 ≤ 2 ^ 63
IsGranted w (NewBinding e) = w.config.first + w.bindings + 1 ≤ 2 ^ 63
IsGranted w (Unmap s q count order) = w.config.first + w.cookies + count_below w.config.endpoints (submits w s) ≤ 2 ^ 63
IsGranted w (AtEndpoint e o) = IsPaid w e o
IsGranted w _ = Unit {0}

abbrev pub AllGranted : World → List Act → Type 0
AllGranted w [] = Unit {0}
AllGranted w (a ∷ acts) = IsGranted w a × AllGranted (act w a) acts

checked_granted : (w : World) (cs : List Cause) (o : Outcome) → (Passed cs → AllGranted w o.acts) → AllGranted w (checked cs o).acts
checked_granted w [] o f = f tt
checked_granted w (c ∷ cs) o f = go (λ e. checked_granted w cs o (λ k. f (e, k))) c.0 refl
  where
    go :
        (c.0 ≡ false → AllGranted w (checked cs o).acts) → (b : Bool) → c.0 ≡ b
        → AllGranted w (if b then record { reply = Err c.1; acts = [] } else checked cs o).acts
    go rest true e = tt
    go rest false e = rest e

left : (w : World) (count needed : ℕ) → Labels.lacks w count needed ≡ false → w.config.first + count + needed ≤ 2 ^ 63
left w count needed h = ltb-false (2 ^ 63) (w.config.first + count + needed) h

-- an act that sends nothing and gives out no cookie; one that sends; one that gives out a cookie
free_of : (w : World) (e : ℕ) (o : LocalAct) → sends o ≡ 0 → cookies_of o ≡ 0 → IsPaid w e o
free_of w e o s c = record { messages = λ h. absurd (omega (arith, s, h)); cookies = λ h. absurd (omega (arith, c, h)) }

sending : (w : World) (e : ℕ) (o : LocalAct) → Labels.lacks w w.messages (sends o) ≡ false → cookies_of o ≡ 0 → IsPaid w e o
sending w e o s c = record { messages = λ h. left w w.messages (sends o) s; cookies = λ h. absurd (omega (arith, c, h)) }

waiting : (w : World) (e : ℕ) (o : LocalAct) → sends o ≡ 0 → Labels.lacks w w.cookies (cookies_of o) ≡ false → IsPaid w e o
waiting w e o s c = record { messages = λ h. absurd (omega (arith, s, h)); cookies = λ h. left w w.cookies (cookies_of o) c }

-- Unmapping.

unmap_granted :
    (w : World) (s q count order : ℕ) → Labels.lacks w w.cookies (count_below w.config.endpoints (submits w s)) ≡ false
    → AllGranted w (Unmap s q count order ∷ [])
unmap_granted w s q count order spent = (left w w.cookies (count_below w.config.endpoints (submits w s)) spent, tt)

-- Bindings.

unbind_granted : (w : World) (e b : ℕ) (s : Stage) → Passed (unbind_refusals w e s) → AllGranted w (unbind_outcome e b s).acts
unbind_granted w e b Lost h = (free_of w e (LocalAct.Quieten b) refl refl, tt)
unbind_granted w e b Unbound h = (sending w e (LocalAct.Stop b) h.1.1.0 refl, tt)
unbind_granted w e b Live h = (sending w e (LocalAct.Stop b) h.1.1.0 refl, tt)
unbind_granted w e b (Stopping m) h = (sending w e (LocalAct.Stop b) h.1.1.0 refl, tt)
unbind_granted w e b (Draining k) h = (sending w e (LocalAct.Stop b) h.1.1.0 refl, tt)
unbind_granted w e b (Invalidating j k) h = (sending w e (LocalAct.Stop b) h.1.1.0 refl, tt)
unbind_granted w e b Quiet h = (sending w e (LocalAct.Stop b) h.1.1.0 refl, tt)
unbind_granted w e b Released h = (sending w e (LocalAct.Stop b) h.1.1.0 refl, tt)

advance_granted : (w : World) (e b : ℕ) (s : Stage) → Passed (advance_refusals w e b s) → AllGranted w (advance_outcome w e b s).acts
advance_granted w e b (Stopping m) h = (waiting w e (LocalAct.Drain b w.cookies) refl h.1.1.1.0, tt)
advance_granted w e b (Draining k) h = (waiting w e (LocalAct.Invalidate b w.cookies) refl h.1.1.1.0, tt)
advance_granted w e b (Invalidating j k) h = (free_of w e (LocalAct.Quieten b) refl refl, tt)
advance_granted w e b Unbound h = (free_of w e (LocalAct.Release b) refl refl, tt)
advance_granted w e b Live h = (free_of w e (LocalAct.Release b) refl refl, tt)
advance_granted w e b Quiet h = (free_of w e (LocalAct.Release b) refl refl, tt)
advance_granted w e b Lost h = (free_of w e (LocalAct.Release b) refl refl, tt)
advance_granted w e b Released h = (free_of w e (LocalAct.Release b) refl refl, tt)

-- Units.

wait_granted : (w : World) (e k : ℕ) (b : Bool) → AllGranted w (wait_outcome e k b).acts
wait_granted w e k true = (free_of w e (LocalAct.Pass k) refl refl, tt)
wait_granted w e k false = tt

send_granted : (w : World) (e k t : ℕ) (b : Bool) → (b ≡ true → Labels.lacks w w.messages 1 ≡ false) → AllGranted w (send_outcome e k t b).acts
send_granted w e k t true h = (sending w e (LocalAct.Send k t) (h refl) refl, tt)
send_granted w e k t false h = tt

is_sent :
    (p : Endpoint) → (o : Order) → p.order (Labels.head p) ≡ o → is_wait o ≡ false → Labels.is_queue_empty p ≡ false
    → not (Labels.lowest_label 32 p.at_itag == 32) ≡ true → sends_invalidate p ≡ true
is_sent p o h nw ne free =
    go (Labels.is_queue_empty p) (is_wait (p.order (Labels.head p))) (not (Labels.lowest_label 32 p.at_itag == 32)) ne (ap is_wait h ∙ nw) free
  where
    go : (a b c : Bool) → a ≡ false → b ≡ false → c ≡ true → (not a && not b && c) ≡ true
    go false false true x y z = refl
    go true b c x y z = absurd (cc (x))
    go false true c x y z = absurd (cc (y))
    go false false false x y z = absurd (cc (z))

head_granted :
    (w : World) (e : ℕ) (o : Order) → (w.part e).order (Labels.head (w.part e)) ≡ o → Labels.is_queue_empty (w.part e) ≡ false
    → (sends_invalidate (w.part e) && Labels.lacks w w.messages 1) ≡ false
    → AllGranted w (head_outcome (w.part e) e (Labels.head (w.part e)) o).acts
head_granted w e (Wait cookie drain) h ne s = wait_granted w e (Labels.head (w.part e)) (may_pass (w.part e) drain)
head_granted w e (RangeOf b range) h ne s =
    send_granted w e (Labels.head (w.part e)) (Labels.lowest_label 32 (w.part e).at_itag) (not (Labels.lowest_label 32 (w.part e).at_itag == 32))
    (λ t. other_fails (sends_invalidate (w.part e)) (Labels.lacks w w.messages 1) s (is_sent (w.part e) (RangeOf b range) h refl ne t))
head_granted w e (PasidOf b) h ne s =
    send_granted w e (Labels.head (w.part e)) (Labels.lowest_label 32 (w.part e).at_itag) (not (Labels.lowest_label 32 (w.part e).at_itag == 32))
    (λ t. other_fails (sends_invalidate (w.part e)) (Labels.lacks w w.messages 1) s (is_sent (w.part e) (PasidOf b) h refl ne t))

pump_granted :
    (w : World) (e : ℕ) (b : Bool) → Labels.is_queue_empty (w.part e) ≡ b
    → (sends_invalidate (w.part e) && Labels.lacks w w.messages 1) ≡ false → AllGranted w (pump_outcome (w.part e) e b).acts
pump_granted w e true h s = tt
pump_granted w e false h s = head_granted w e ((w.part e).order (Labels.head (w.part e))) refl h s

file_granted : (w : World) (e r g : ℕ) (b : Bool) → AllGranted w (file_outcome e r g b).acts
file_granted w e r g true = (free_of w e (LocalAct.File r) refl refl, (tt, tt))
file_granted w e r g false = (free_of w e (LocalAct.File r) refl refl, tt)

serve_granted : (w : World) (e : ℕ) (p : Endpoint) (b : Bool) → AllGranted w (serve_outcome p e b).acts
serve_granted w e p true = tt
serve_granted w e p false = file_granted w e (Labels.oldest_arrived p) (p.group_of (Labels.oldest_arrived p)) (p.is_last (Labels.oldest_arrived p))

-- Replies.

responding : (b : Bool) (s : Stage) (v : Verdict) (code : Code) → response b s v ≡ Some code → is_some (response b s verdict.Invalid) ≡ true
responding true Live v code h = refl
responding true (Stopping m) v code h = refl
responding true (Draining k) v code h = refl
responding true Unbound v code h = absurd (cc (h))
responding true (Invalidating j k) v code h = absurd (cc (h))
responding true Quiet v code h = absurd (cc (h))
responding true Lost v code h = absurd (cc (h))
responding true Released v code h = absurd (cc (h))
responding false s v code h = absurd (cc (h))

maps_granted :
    (x e g : ℕ) (code : Code) (s : ℕ) (write : ℕ → Bool) (qs fs : List ℕ) (w : World) → Labels.lacks w w.messages 1 ≡ false
    → AllGranted w (maps_to s write qs fs ++ LetGo x ∷ AtEndpoint e (LocalAct.Respond g code) ∷ [])
maps_granted x e g code s write [] fs w h = (tt, (sending (act w (LetGo x)) e (LocalAct.Respond g code) h refl, tt))
maps_granted x e g code s write (q ∷ qs) [] w h = (tt, (sending (act w (LetGo x)) e (LocalAct.Respond g code) h refl, tt))
maps_granted x e g code s write (q ∷ qs) (f ∷ fs) w h = (tt, maps_granted x e g code s write qs fs (act w (Map s q f (write q))) h)

reply_granted :
    (w : World) (x j : ℕ) (v : Verdict) (o : Option Code) → response_to w j v ≡ o → (responds w j && Labels.lacks w w.messages 1) ≡ false
    → AllGranted w (reply_outcome w x j (reply_maps w j v) o).acts
reply_granted w x j v None e h = (tt, (free_of (act w (LetGo x)) (w.job j).endpoint (LocalAct.Discard (w.job j).group) refl refl, tt))
reply_granted w x j v (Some code) e h = go (replies_success w j v)
  where
    few : Labels.lacks w w.messages 1 ≡ false
    few =
        other_fails (responds w j) (Labels.lacks w w.messages 1) h
        (responding (is_open (job_part w j).phase) ((job_part w j).stage (job_binding w j)) v code e)

    go :
        (b : Bool)
        → AllGranted w
        ((if b then maps_to (job_space w j) (is_write_asked w j) (newly_mapped w j) (free_list w) else []) ++ LetGo x ∷ AtEndpoint (w.job j).endpoint
        (LocalAct.Respond (w.job j).group code) ∷ [])
    go true = maps_granted x (w.job j).endpoint (w.job j).group code (job_space w j) (is_write_asked w j) (newly_mapped w j) (free_list w) w few
    go false = (tt, (sending (act w (LetGo x)) (w.job j).endpoint (LocalAct.Respond (w.job j).group code) few refl, tt))

fault_granted :
    (w : World) (e t q : ℕ) (r x l : Bool) (o : Option ℕ) → Labels.lacks w w.messages 1 ≡ false
    → AllGranted w (fault_outcome (w.part e) e t q r x l o).acts
fault_granted w e t q r x l None h =
    (sending w e (LocalAct.Group (Labels.bearer (w.part e) t) (Labels.lowest_label 32 (w.part e).at_index) q r x l) h refl, tt)
fault_granted w e t q r x l (Some i) h = (sending w e (LocalAct.Request (the ((w.part e).at_index i)) q r x l) h refl, tt)

-- Deliveries.

keep_granted : (w : World) (e c r m : ℕ) (b : Bool) → AllGranted w (keep_outcome e c r m b).acts
keep_granted w e c r m true = (free_of w e (LocalAct.Forget c r) refl refl, tt)
keep_granted w e c r m false = (free_of w e (LocalAct.Keep c r m) refl refl, tt)

completion_granted : (w : World) (e c r : ℕ) (o : Option ℕ) (x : RequestState) → AllGranted w (completion_outcome (w.part e) e c r o x).acts
completion_granted w e c r (Some m) Out = keep_granted w e c r m (is_full (w.part e) r)
completion_granted w e c r None Out = (free_of w e (LocalAct.Forget c r) refl refl, tt)
completion_granted w e c r (Some m) Doomed = (free_of w e (LocalAct.Forget c r) refl refl, tt)
completion_granted w e c r None Doomed = (free_of w e (LocalAct.Forget c r) refl refl, tt)
completion_granted w e c r (Some m) Over = (free_of w e (LocalAct.Ignore c) refl refl, tt)
completion_granted w e c r None Over = (free_of w e (LocalAct.Ignore c) refl refl, tt)

request_granted : (w : World) (e c r : ℕ) (b : Bool) → (b && Labels.lacks w w.messages 1) ≡ false → AllGranted w (request_outcome w (w.part e) e c r b).acts
request_granted w e c r true h = (sending w e (LocalAct.Complete c r _ _) h refl, tt)
request_granted w e c r false h = (free_of w e (LocalAct.Ignore c) refl refl, tt)

count_granted : (w : World) (e c : ℕ) (names : ℕ → Bool) (b : Bool) → AllGranted w (count_outcome (w.part e) e c names b).acts
count_granted w e c names true = (free_of w e (LocalAct.Count c names) refl refl, tt)
count_granted w e c names false = (free_of w e (LocalAct.Ignore c) refl refl, tt)

page_request_granted : (w : World) (e c r : ℕ) (b : Bool) → AllGranted w (page_request_outcome e c r b).acts
page_request_granted w e c r true = (free_of w e (LocalAct.Arrive c r) refl refl, tt)
page_request_granted w e c r false = (free_of w e (LocalAct.Miss c r) refl refl, tt)

marker_granted : (w : World) (e c b : ℕ) (t : Bool) → AllGranted w (marker_outcome e c b t).acts
marker_granted w e c b true = (free_of w e (LocalAct.Mark c b) refl refl, tt)
marker_granted w e c b false = (free_of w e (LocalAct.Ignore c) refl refl, tt)

deliver_granted :
    (w : World) (e c : ℕ) (o : Option Subject) → (delivery_sends (w.part e) o && Labels.lacks w w.messages 1) ≡ false
    → AllGranted w (deliver_outcome w (w.part e) e c o).acts
deliver_granted w e c None h = tt
deliver_granted w e c (Some (StartOf b)) h = (free_of w e (LocalAct.Start_arrives c b) refl refl, tt)
deliver_granted w e c (Some (StopOf b)) h = (free_of w e (LocalAct.Stop_arrives c b) refl refl, tt)
deliver_granted w e c (Some FunctionReset) h = (sending w e (LocalAct.Reset_arrives c) h refl, tt)
deliver_granted w e c (Some (CompletionOf r found)) h = completion_granted w e c r found ((w.part e).request r)
deliver_granted w e c (Some (InvalidateOf k)) h = (free_of w e (LocalAct.Take c k) refl refl, tt)
deliver_granted w e c (Some (ResponseOf g code)) h = (free_of w e (LocalAct.Answered c g code) refl refl, tt)
deliver_granted w e c (Some (RequestOf r)) h = request_granted w e c r (is_open (w.part e).phase) h
deliver_granted w e c (Some (InvalidatedOf names)) h = count_granted w e c names (is_open (w.part e).phase)
deliver_granted w e c (Some (PageRequestOf r)) h = page_request_granted w e c r (is_open (w.part e).phase)
deliver_granted w e c (Some (MarkerOf b)) h = marker_granted w e c b (is_open (w.part e).phase)
deliver_granted w e c (Some ResetDone) h = (free_of w e (LocalAct.Reopen c) refl refl, tt)

-- Each step.

outcome_granted : (w : World) (s : Step) → Passed (refusals w s) → AllGranted w (outcome w s).acts
outcome_granted w step.Space h = (left w w.spaces 1 h.1.0, tt)
outcome_granted w (step.DropSpace n) h = (tt, tt)
outcome_granted w (step.Map n q x) h = (tt, tt)
outcome_granted w (step.Unmap n q count) h = unmap_granted w (Labels.name w n) q count 0 h.1.1.1.1.1.0
outcome_granted w (step.UnmapRange n q order) h = unmap_granted w (Labels.name w n) q 1 order h.1.1.1.1.1.1.0
outcome_granted w (step.Bind e n) h = (
  left w w.bindings 1 h.1.1.1.1.1.0,
  (sending (act w (NewBinding e)) e (LocalAct.Bind w.bindings (Labels.name w n) (the (Labels.pasid_for w e (Labels.name w n)))) h.1.1.1.1.1.1.0 refl, tt),
)
outcome_granted w (step.Unbind n) h =
    unbind_granted w (w.endpoint_of (Labels.name w n)) (Labels.name w n) ((w.part (w.endpoint_of (Labels.name w n))).stage (Labels.name w n)) h.1
outcome_granted w (step.Advance n) h =
    advance_granted w (w.endpoint_of (Labels.name w n)) (Labels.name w n) ((w.part (w.endpoint_of (Labels.name w n))).stage (Labels.name w n)) h.1
outcome_granted w (step.Pump e) h = pump_granted w e (Labels.is_queue_empty (w.part e)) refl h.1.1.0
outcome_granted w (step.Serve e) h = serve_granted w e (w.part e) (Labels.is_page_queue_empty (w.part e))
outcome_granted w (step.Reset e) h = (sending w e LocalAct.Reset h.1.1.0 refl, tt)
outcome_granted w (step.Take x) h = (free_of w _ (LocalAct.Hand _ x) refl refl, (tt, tt))
outcome_granted w (step.Reply x v) h = reply_granted w x (the (w.hand x)) v (response_to w (the (w.hand x)) v) refl h.1.1.1.1.1.0
outcome_granted w (step.Ask e t q) h =
    (sending w e (LocalAct.Ask (Labels.bearer (w.part e) t) q (Labels.lowest_label 32 (w.part e).at_tag)) h.1.1.1.1.0 refl, tt)
outcome_granted w (step.BeginUse e t q x) h = (free_of w e (LocalAct.Begin _ _ _) refl refl, tt)
outcome_granted w (step.EndUse e u) h = (free_of w e (LocalAct.End _) refl refl, tt)
outcome_granted w (step.Evict e t q) h = (free_of w e (LocalAct.Evict _) refl refl, tt)
outcome_granted w (step.Fault e t q r x group l) h = fault_granted w e t q r x l group h.1.1.1.1.1.1.0
outcome_granted w (step.Finish e vector count) h = (sending w e (LocalAct.Finish (Labels.is_named (w.part e) vector) vector count) h.1.1.1.1.0 refl, tt)
outcome_granted w (step.Quit e t) h = (sending w e (LocalAct.Quit (Labels.bearer (w.part e) t)) h.1.1.1.0 refl, tt)
outcome_granted w (step.Deliver n) h =
    deliver_granted w (w.link_of (Labels.name w n)) (Labels.name w n) ((w.part (w.link_of (Labels.name w n))).message (Labels.name w n)) h.1.1.0
outcome_granted w (step.Look f) h = tt
outcome_granted w (step.Bearer t) h = tt

pub step_granted : (w : World) (s : Step) → AllGranted w (decide w s).acts
step_granted w s = checked_granted w (refusals w s) (outcome w s) (outcome_granted w s)

-- What each act keeps that is legal and granted holds after every list of steps, if it holds at first.

abbrev pub IsKept : (World → Type 0) → Type 0
IsKept P = (w : World) (a : Act) → Legal w a → IsGranted w a → Invariant w → P w → P (act w a)

acts_have : (P : World → Type 0) → IsKept P → (acts : List Act) (w : World) → LegalAll w acts → AllGranted w acts → Invariant w → P w → P (after_acts w acts)
acts_have P k [] w l g i h = h
acts_have P k (a ∷ acts) w l g i h = acts_have P k acts (act w a) l.1 g.1 (act_keeps w a l.0 i) (k w a l.0 g.0 i h)

run_has : (P : World → Type 0) → IsKept P → (ss : List Step) (w : World) → Invariant w → P w → P (run w ss)
run_has P k [] w i h = h
run_has P k (s ∷ ss) w i h = run_has P k ss (next w s) (next_keeps w s i) (acts_have P k (decide w s).acts w (step_legal w s i) (step_granted w s) i h)

pub always_has :
    (P : World → Type 0) → IsKept P → (rule : PasidRule) (config : Config) (steps : List Step) → P (opened rule config)
    → P (world_after rule config steps)
always_has P k rule config steps h = run_has P k steps (opened rule config) (opened_invariant rule config) h
