-- What stands in an invalidation queue was submitted last: behind what is queued all is queued.
use Rattle.std.proofs.Common.{◌≡◌, ◌≢◌, refl, sym, subst, ◌∙◌, ℕ, ◌<◌, ◌≤◌, Bool, true, false, arith}
use Rattle.std.specs.Prelude.{Option, Some, None, List, [], ◌∷◌, ◌++◌, if◌then◌else◌, Err}
use Rattle.std.proofs.lemmas.Bool.Decides.{nat_tests}
use Rattle.sva_step.specs.declared.limits.Config.{Config}
use Rattle.sva_step.specs.declared.steps.Step.{Step}
use Rattle.sva_step.specs.declared.steps.Step.TheVariants as step
use Rattle.sva_step.specs.declared.steps.Verdict.{Verdict}
use Rattle.sva_model.specs.Message.{Code}
use Rattle.sva_model.specs.State.{Endpoint, Mappings, Order, PasidRule, RequestState, Stage, Subject, World, opened}
use Rattle.sva_model.specs.State.Order.{RangeOf, PasidOf, Wait}
use Rattle.sva_model.specs.State.OrderState.{Queued, Void}
use Rattle.sva_model.specs.State.RequestState.{Out, Doomed, Over}
use Rattle.sva_model.specs.State.Stage.{Unbound, Live, Stopping, Draining, Invalidating, Quiet, Lost, Released}
use Rattle.sva_model.specs.State.Subject.{StartOf, StopOf, FunctionReset, CompletionOf, InvalidateOf, ResponseOf, RequestOf, InvalidatedOf}
use Rattle.sva_model.specs.State.Subject.{PageRequestOf, MarkerOf, ResetDone}
use Rattle.sva_model.specs.States.{is_open}
use Rattle.sva_model.specs.Words.{the}
use Rattle.sva_model.specs.Acts.{Act, LocalAct, act, act_alone}
use Rattle.sva_model.specs.Acts.Act.{AtEndpoint, LetGo, Unmap}
use Rattle.sva_model.specs.Labels
use Rattle.sva_model.specs.Outcomes.{Outcome, advance_outcome, completion_outcome, count_outcome, deliver_outcome, fault_outcome, file_outcome}
use Rattle.sva_model.specs.Outcomes.{head_outcome, is_full, keep_outcome, marker_outcome, may_pass, outcome, page_request_outcome, pump_outcome}
use Rattle.sva_model.specs.Outcomes.{reply_outcome, request_outcome, send_outcome, serve_outcome, unbind_outcome, wait_outcome}
use Rattle.sva_model.specs.Refusals.{Cause, refusals}
use Rattle.sva_model.specs.Replies.{free_list, is_write_asked, job_space, maps_to, newly_mapped, replies_success, reply_maps, response_to}
use Rattle.sva_model.specs.Steps.{after_acts, checked, decide, next, run, world_after}
use Rattle.sva_model.specs.Unmappings.{bound, cookie_of, submits, submitted, submitted_if}
use Rattle.sva_laws.proofs.Bounds.{Bounds}
use Rattle.sva_laws.proofs.Invariant.{Invariant}
use Rattle.sva_laws.proofs.Keeps.{put_keeps}
use Rattle.sva_laws.proofs.Legal.{LegalLocalAct}
use Rattle.sva_laws.proofs.LegalUnit.{head_is}
use Rattle.sva_laws.proofs.Orders.{SentOnly}
use Rattle.sva_laws.proofs.Runs.{act_legal, next_keeps, opened_invariant}
use Rattle.sva_laws.proofs.StepKinds.{Kind, step_kind}
use Rattle.sva_laws.proofs.StepKinds.Kind.{calm, single, unmapping}
use Rattle.sva_laws.proofs.UnitSteps.{same_acts}

-- ---- What a step sends is the head of the queue

abbrev SendsHead : World → List Act → Type 0
SendsHead w (AtEndpoint e (LocalAct.Send k t) ∷ rest) = (k ≡ Labels.head (w.part e)) × (Labels.is_queue_empty (w.part e) ≡ false)
SendsHead w _ = Unit {0}

unbind_sends : (w : World) (e b : ℕ) (s : Stage) → SendsHead w (unbind_outcome e b s).acts
unbind_sends w e b Lost = tt
unbind_sends w e b Unbound = tt
unbind_sends w e b Live = tt
unbind_sends w e b (Stopping m) = tt
unbind_sends w e b (Draining x) = tt
unbind_sends w e b (Invalidating k x) = tt
unbind_sends w e b Quiet = tt
unbind_sends w e b Released = tt

advance_sends : (w : World) (e b : ℕ) (s : Stage) → SendsHead w (advance_outcome w e b s).acts
advance_sends w e b Lost = tt
advance_sends w e b Unbound = tt
advance_sends w e b Live = tt
advance_sends w e b (Stopping m) = tt
advance_sends w e b (Draining x) = tt
advance_sends w e b (Invalidating k x) = tt
advance_sends w e b Quiet = tt
advance_sends w e b Released = tt

wait_sends : (w : World) (e k : ℕ) (b : Bool) → SendsHead w (wait_outcome e k b).acts
wait_sends w e k true = tt
wait_sends w e k false = tt

invalidation_sends : (w : World) (e t : ℕ) (b : Bool) → Labels.is_queue_empty (w.part e) ≡ false
    → SendsHead w (send_outcome e (Labels.head (w.part e)) t b).acts
invalidation_sends w e t true h = (refl, h)
invalidation_sends w e t false h = tt

head_sends : (w : World) (e : ℕ) (x : Order) → Labels.is_queue_empty (w.part e) ≡ false
    → SendsHead w (head_outcome (w.part e) e (Labels.head (w.part e)) x).acts
head_sends w e (Wait cookie drain) h = wait_sends w e (Labels.head (w.part e)) (may_pass (w.part e) drain)
head_sends w e (RangeOf b range) h = invalidation_sends w e (Labels.lowest_label 32 (w.part e).at_itag) _ h
head_sends w e (PasidOf b) h = invalidation_sends w e (Labels.lowest_label 32 (w.part e).at_itag) _ h

pump_sends : (w : World) (e : ℕ) (b : Bool) → Labels.is_queue_empty (w.part e) ≡ b → SendsHead w (pump_outcome (w.part e) e b).acts
pump_sends w e true h = tt
pump_sends w e false h = head_sends w e ((w.part e).order (Labels.head (w.part e))) h

file_sends : (w : World) (e r g : ℕ) (b : Bool) → SendsHead w (file_outcome e r g b).acts
file_sends w e r g true = tt
file_sends w e r g false = tt

serve_sends : (w : World) (p : Endpoint) (e : ℕ) (b : Bool) → SendsHead w (serve_outcome p e b).acts
serve_sends w p e true = tt
serve_sends w p e false = file_sends w e (Labels.oldest_arrived p) (p.group_of (Labels.oldest_arrived p)) (p.is_last (Labels.oldest_arrived p))

reply_sends : (w : World) (x j : ℕ) (v : Verdict) (o : Option Code) → SendsHead w (reply_outcome w x j (reply_maps w j v) o).acts
reply_sends w x j v None = tt
reply_sends w x j v (Some code) = by (reply_maps_first (replies_success w j v))
  where
    rest : List Act
    rest = LetGo x ∷ AtEndpoint (w.job j).endpoint (LocalAct.Respond (w.job j).group code) ∷ []

    maps_first : (s : ℕ) (write : ℕ → Bool) (qs fs : List ℕ) → SendsHead w (maps_to s write qs fs ++ rest)
    maps_first s write [] fs = tt
    maps_first s write (q ∷ qs) [] = tt
    maps_first s write (q ∷ qs) (f ∷ fs) = tt

    reply_maps_first : (b : Bool)
        → SendsHead w ((if b then maps_to (job_space w j) (is_write_asked w j) (newly_mapped w j) (free_list w) else []) ++ rest)
    reply_maps_first true = maps_first (job_space w j) (is_write_asked w j) (newly_mapped w j) (free_list w)
    reply_maps_first false = tt

    by : SendsHead w (reply_maps w j v ++ rest) → SendsHead w (reply_maps w j v ++ LetGo x
        ∷ AtEndpoint (w.job j).endpoint (LocalAct.Respond (w.job j).group code) ∷ [])
    by h = h

fault_sends : (w : World) (p : Endpoint) (e t q : ℕ) (r x l : Bool) (o : Option ℕ) → SendsHead w (fault_outcome p e t q r x l o).acts
fault_sends w p e t q r x l None = tt
fault_sends w p e t q r x l (Some k) = tt

keep_sends : (w : World) (e c r m : ℕ) (b : Bool) → SendsHead w (keep_outcome e c r m b).acts
keep_sends w e c r m true = tt
keep_sends w e c r m false = tt

completion_sends : (w : World) (p : Endpoint) (e c r : ℕ) (o : Option ℕ) (s : RequestState) → SendsHead w (completion_outcome p e c r o s).acts
completion_sends w p e c r (Some m) Out = keep_sends w e c r m (is_full p r)
completion_sends w p e c r None Out = tt
completion_sends w p e c r (Some m) Doomed = tt
completion_sends w p e c r None Doomed = tt
completion_sends w p e c r (Some m) Over = tt
completion_sends w p e c r None Over = tt

request_sends : (w : World) (p : Endpoint) (e c r : ℕ) (b : Bool) → SendsHead w (request_outcome w p e c r b).acts
request_sends w p e c r true = tt
request_sends w p e c r false = tt

count_sends : (w : World) (p : Endpoint) (e c : ℕ) (names : ℕ → Bool) (b : Bool) → SendsHead w (count_outcome p e c names b).acts
count_sends w p e c names true = tt
count_sends w p e c names false = tt

page_request_sends : (w : World) (e c r : ℕ) (b : Bool) → SendsHead w (page_request_outcome e c r b).acts
page_request_sends w e c r true = tt
page_request_sends w e c r false = tt

marker_sends : (w : World) (e c d : ℕ) (b : Bool) → SendsHead w (marker_outcome e c d b).acts
marker_sends w e c d true = tt
marker_sends w e c d false = tt

deliver_sends : (w : World) (p : Endpoint) (e c : ℕ) (o : Option Subject) → SendsHead w (deliver_outcome w p e c o).acts
deliver_sends w p e c None = tt
deliver_sends w p e c (Some (StartOf b)) = tt
deliver_sends w p e c (Some (StopOf b)) = tt
deliver_sends w p e c (Some FunctionReset) = tt
deliver_sends w p e c (Some (CompletionOf r found)) = completion_sends w p e c r found (p.request r)
deliver_sends w p e c (Some (InvalidateOf k)) = tt
deliver_sends w p e c (Some (ResponseOf g code)) = tt
deliver_sends w p e c (Some (RequestOf r)) = request_sends w p e c r (is_open p.phase)
deliver_sends w p e c (Some (InvalidatedOf names)) = count_sends w p e c names (is_open p.phase)
deliver_sends w p e c (Some (PageRequestOf r)) = page_request_sends w e c r (is_open p.phase)
deliver_sends w p e c (Some (MarkerOf b)) = marker_sends w e c b (is_open p.phase)
deliver_sends w p e c (Some ResetDone) = tt

outcome_sends : (w : World) (s : Step) → SendsHead w (outcome w s).acts
outcome_sends w step.Space = tt
outcome_sends w (step.DropSpace n) = tt
outcome_sends w (step.Map n q x) = tt
outcome_sends w (step.Unmap n q count) = tt
outcome_sends w (step.UnmapRange n q order) = tt
outcome_sends w (step.Bind e n) = tt
outcome_sends w (step.Unbind n) =
    unbind_sends w (w.endpoint_of (Labels.name w n)) (Labels.name w n) ((w.part (w.endpoint_of (Labels.name w n))).stage (Labels.name w n))
outcome_sends w (step.Advance n) =
    advance_sends w (w.endpoint_of (Labels.name w n)) (Labels.name w n) ((w.part (w.endpoint_of (Labels.name w n))).stage (Labels.name w n))
outcome_sends w (step.Pump e) = pump_sends w e (Labels.is_queue_empty (w.part e)) refl
outcome_sends w (step.Serve e) = serve_sends w (w.part e) e (Labels.is_page_queue_empty (w.part e))
outcome_sends w (step.Reset e) = tt
outcome_sends w (step.Take x) = tt
outcome_sends w (step.Reply x v) = reply_sends w x (the (w.hand x)) v (response_to w (the (w.hand x)) v)
outcome_sends w (step.Ask e t q) = tt
outcome_sends w (step.BeginUse e t q x) = tt
outcome_sends w (step.EndUse e u) = tt
outcome_sends w (step.Evict e t q) = tt
outcome_sends w (step.Fault e t q r x group l) = fault_sends w (w.part e) e t q r x l group
outcome_sends w (step.Finish e vector count) = tt
outcome_sends w (step.Quit e t) = tt
outcome_sends w (step.Deliver n) =
    deliver_sends w (w.part (w.link_of (Labels.name w n))) (w.link_of (Labels.name w n)) (Labels.name w n)
    ((w.part (w.link_of (Labels.name w n))).message (Labels.name w n))
outcome_sends w (step.Look f) = tt
outcome_sends w (step.Bearer t) = tt

checked_sends : (w : World) (cs : List Cause) (o : Outcome) → SendsHead w o.acts → SendsHead w (checked cs o).acts
checked_sends w [] o k = k
checked_sends w (c ∷ cs) o k = go c.0 (checked_sends w cs o k)
  where
    go : (b : Bool) → SendsHead w (checked cs o).acts → SendsHead w (if b then record { reply = Err c.1; acts = [] } else checked cs o).acts
    go true k = tt
    go false k = k

step_sends : (w : World) (s : Step) → SendsHead w (decide w s).acts
step_sends w s = checked_sends w (refusals w s) (outcome w s) (outcome_sends w s)

-- ---- What an act leaves

pub record InOrder (p : Endpoint) : Type 0 where
  pub behind : (k j : ℕ) → k < j → j < p.orders → p.order_state k ≡ Queued → p.order_state j ≡ Queued

abbrev SendsFirst : Endpoint → LocalAct → Type 0
SendsFirst p (LocalAct.Send k t) = (j : ℕ) → j < k → p.order_state j ≢ Queued
SendsFirst p _ = Unit {0}

own_kept : (ms : Mappings) (g n : ℕ) (p : Endpoint) (o : LocalAct) → LegalLocalAct ms g p o → SendsFirst p o → SentOnly p → (k j : ℕ)
    → (j < p.orders → p.order_state k ≡ Queued → p.order_state j ≡ Queued) → (p.orders ≤ k → p.order_state k ≡ Void) → k < j
    → j < (act_alone p n o).orders → (act_alone p n o).order_state k ≡ Queued → (act_alone p n o).order_state j ≡ Queued
own_kept ms g n p o l first sent k j old bo lt made h = grind (arith, nat_tests, old, bo)

submitted_kept : (g b q count order cookie : ℕ) (p : Endpoint) → Bounds g p → InOrder p → InOrder (submitted p b q count order cookie)
submitted_kept g b q count order cookie p bo old = record { behind = λ k j lt made h. grind (arith, nat_tests, old.behind k j lt, bo.order_state k) }

unmapped_kept : (g : ℕ) (t : Bool) (p : Endpoint) (o : Option ℕ) (q count order cookie : ℕ) → Bounds g p → InOrder p
    → InOrder (submitted_if t p o q count order cookie)
unmapped_kept g true p (Some b) q count order cookie bo old = submitted_kept g b q count order cookie p bo old
unmapped_kept g true p None q count order cookie bo old = old
unmapped_kept g false p o q count order cookie bo old = old

-- ---- So it is after every list of steps

abbrev AllInOrder : World → Type 0
AllInOrder w = (e : ℕ) → InOrder (w.part e)

first_sent : (w : World) (e : ℕ) (o : LocalAct) → SendsHead w (AtEndpoint e o ∷ []) → SendsFirst (w.part e) o
first_sent w e (LocalAct.Send k t) h =
    λ j l. (head_is (w.part e) h.1).lowest j (subst (λ z. j < z) h.0 l)
first_sent w e _ h = tt

unmapped : (w : World) (s q count order : ℕ) → Invariant w → AllInOrder w → AllInOrder (act w (Unmap s q count order))
unmapped w s q count order i h e =
    unmapped_kept w.bindings (submits w s e) (w.part e) (bound w e s) q count order (cookie_of w s e) (i.parts e).bounds (h e)

next_in_order : (w : World) (s : Step) → Invariant w → AllInOrder w → AllInOrder (next w s)
next_in_order w s i h e = go (step_kind w s)
  where
    go : Kind w s (decide w s) → InOrder ((next w s).part e)
    go (calm c) =
        let same = same_acts (decide w s).acts w c e in
        record {
          behind = λ k j lt made queued.
              same.state j ∙ (h e).behind k j lt (subst (λ z. j < z) same.orders made) (sym (same.state k) ∙ queued);
        }
    go (single d o a x said by) =
        let l = (act_legal w s d o i x).1.0 in
        let first = first_sent w d o (subst (SendsHead w) x (step_sends w s)) in
        subst (λ z. InOrder ((after_acts w z).part e)) (sym x)
        (put_keeps (λ k p. InOrder p) w.part d (act_alone (w.part d) w.messages o)
        (record {
          behind = λ k j lt made queued.
              own_kept w.mappings w.bindings w.messages (w.part d) o l first (i.parts d).labels.sent k j ((h d).behind k j lt)
              ((i.parts d).bounds.order_state k) lt made queued;
        })
        h e)
    go (unmapping t q count order x) =
        subst (λ z. AllInOrder (after_acts w z)) (sym x) (unmapped w t q count order i h) e

run_in_order : (ss : List Step) (w : World) → Invariant w → AllInOrder w → AllInOrder (run w ss)
run_in_order [] w i h = h
run_in_order (s ∷ ss) w i h = run_in_order ss (next w s) (next_keeps w s i) (next_in_order w s i h)

pub always_in_order : (rule : PasidRule) (c : Config) (ss : List Step) (e : ℕ) → InOrder ((world_after rule c ss).part e)
always_in_order rule c ss =
    run_in_order ss (opened rule c) (opened_invariant rule c) (λ e. record { behind = λ k j lt made h. absurd (omega (arith, made)) })
