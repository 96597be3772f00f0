-- Page requests that wait to be filed, after a step: each that is filed waited before, and each that waits anew took the number of a
-- message.
use Rattle.std.proofs.Common.{◌≡◌, refl, ap, sym, subst, ◌∙◌, ℕ, zero, suc, ◌+◌, ◌<◌, ◌≤◌, Bool, true, false, arith}
use Rattle.std.specs.Prelude.{◌||◌, not, nat_lt, if◌then◌else◌, Option, Some, None, List, [], ◌∷◌, ◌++◌, length, Ok, Err}
use Rattle.std.specs.List.{sum_by, list_any}
use Rattle.std.proofs.lemmas.Bool.Decides.{nat_tests}
use Rattle.std.proofs.lemmas.List.Sums.{sum_by-append}
use Rattle.sva_step.specs.declared.answers.Answer.TheVariants as answer
use Rattle.sva_step.specs.declared.limits.Config.{Config}
use Rattle.sva_step.specs.declared.refusals.Refusal.TheVariants as refusal
use Rattle.sva_step.specs.declared.steps.Step.{Step}
use Rattle.sva_step.specs.declared.steps.Step.TheVariants as step
use Rattle.sva_step.specs.declared.steps.Verdict.{Verdict}
use Rattle.sva_model.specs.Words.{tabulate}
use Rattle.sva_model.specs.Message.{Code, Message}
use Rattle.sva_model.specs.Message.Code.{SuccessCode, InvalidCode, FailureCode}
use Rattle.sva_model.specs.Message.Message.{StartMessage, StopMessage, ResetMessage, CompletionMessage, InvalidateMessage, ResponseMessage, RequestMessage}
use Rattle.sva_model.specs.Message.Message.{InvalidatedMessage, PageRequestMessage, MarkerMessage, ResetDoneMessage}
use Rattle.sva_model.specs.State.{GroupState}
use Rattle.sva_model.specs.State.GroupState.{Collecting, Awaiting, Stale, Closed}
use Rattle.sva_model.specs.States.{Extent}
use Rattle.sva_model.specs.States.Extent.{Pages, AllPages}
use Rattle.sva_model.specs.Outcomes.{unmap_answer, unmap_range_answer, response_answer, code_answer}
use Rattle.sva_model.specs.Refusals.{Cause}
use Rattle.sva_model.specs.Wire.{Wire, PlaceWire, BindingWire, StageWire, EndpointWire, DeviceWire, UnitWire, RequestWire, TranslationWire, UseWire, GroupWire}
use Rattle.sva_model.specs.Wire.{Descriptor, AskWire, PageRequestWire, JobWire, FlightWire}
use Rattle.sva_model.specs.Wire.PlaceWire.{FreeWire, MappedWire, WithheldWire}
use Rattle.sva_model.specs.Wire.StageWire.{LiveWire, StoppingWire, DrainingWire, InvalidatingWire, QuietWire, LostWire}
use Rattle.sva_model.specs.Wire.UseWire.{RunningWire, DeadWire}
use Rattle.sva_model.specs.Wire.Descriptor.{RangeDescriptor, PasidDescriptor, WaitDescriptor}
use Rattle.sva_labels.proofs.Steps.{Passed}
use Rattle.sva_labels.proofs.Tests.{is_less}
use Rattle.sva_labels.specs.Finding.{part_of, device_of, unit_of, bearer, binding_of, held_by, flight_of, lowest_label, cached, use_at, tag_at, group_at}
use Rattle.sva_labels.specs.Finding.{pages_in, frames_of, free_from, idle}
use Rattle.sva_labels.specs.Replying.{response_to, replies_success, newly_mapped, space_of_job}
use Rattle.sva_labels.specs.Causes.{causes_of}
use Rattle.sva_labels.specs.Host.{Decision, checked, decide_of, next_of, first_wire}
use Rattle.sva_labels.specs.Moves.{Move, moved, all_moved, pasid_or_0}
use Rattle.sva_labels.specs.Outcomes as outcomes
use Rattle.sva_labels.specs.Outcomes.{Result, says, by_one, result_of, waits, unbind_by, advance_by, of_binding, wait_result, send_result, may_pass}
use Rattle.sva_labels.specs.Outcomes.{pump_result, file_result, binding_or_0, serve_result, take_result, maps_to, reply_maps, reply_by, reply_result}
use Rattle.sva_labels.specs.Outcomes.{begin_result, end_answer, fault_result, keep_result, is_full, completion_by, completion_result, response_said}
use Rattle.sva_labels.specs.Outcomes.{request_result, count_result, page_request_result, marker_result, message_result, deliver_result, look_answer}
use Rattle.sva_labels.specs.Outcomes.{bearer_answer, job_of}
use Rattle.sva_labels.specs.Waiting.{is_page_request, waiting, files, FiledInTurn}
use Rattle.sva_labels.proofs.Waiting.{queue, IsInTurn, unchanged, arrives, moves_kept, arrived_kept, file_counted}

-- a result by which nothing is filed, and nothing arrives to be
record IsPlain (r : Result) : Type 0 where
  answers : files (Ok r.answer) ≡ 0
  moves : list_any arrives r.moves ≡ false

-- what is decided is in turn
abbrev IsTurn : Wire → Result → Type 0
IsTurn w r = IsInTurn w (all_moved w r.moves) (files (Ok r.answer))

plain_turn : (w : Wire) (r : Result) → IsPlain r → IsTurn w r
plain_turn w r p =
    let kept = moves_kept r.moves w p.moves in
    let none = p.answers in
    omega (arith, kept, none)

-- Results that are plain.

plain : {r : Result} → files (Ok r.answer) ≡ 0 → list_any arrives r.moves ≡ false → IsPlain r
plain a m = record { answers = a; moves = m }

unmap_plain : (b : Bool) (frames : List ℕ) (m : Move) → arrives m ≡ false → IsPlain (by_one (unmap_answer b frames) m)
unmap_plain true frames m h = plain refl (ap (λ x. x || false) h)
unmap_plain false frames m h = plain refl (ap (λ x. x || false) h)

range_plain : (b : Bool) (n : ℕ) (m : Move) → arrives m ≡ false → IsPlain (by_one (unmap_range_answer b n) m)
range_plain true n m h = plain refl (ap (λ x. x || false) h)
range_plain false n m h = plain refl (ap (λ x. x || false) h)

unbind_plain : (b : BindingWire) (s : StageWire) → IsPlain (unbind_by b s)
unbind_plain b LostWire = plain refl refl
unbind_plain b LiveWire = plain refl refl
unbind_plain b (StoppingWire m) = plain refl refl
unbind_plain b (DrainingWire c) = plain refl refl
unbind_plain b (InvalidatingWire c) = plain refl refl
unbind_plain b QuietWire = plain refl refl

advance_plain : (b : BindingWire) (s : StageWire) → IsPlain (advance_by b s)
advance_plain b LostWire = plain refl refl
advance_plain b LiveWire = plain refl refl
advance_plain b (StoppingWire m) = plain refl refl
advance_plain b (DrainingWire c) = plain refl refl
advance_plain b (InvalidatingWire c) = plain refl refl
advance_plain b QuietWire = plain refl refl

binding_plain : (f : BindingWire → Result) (o : Option BindingWire) → ((b : BindingWire) → IsPlain (f b)) → IsPlain (of_binding f o)
binding_plain f None h = plain refl refl
binding_plain f (Some b) h = h b

wait_plain : (e c : ℕ) (b : Bool) → IsPlain (wait_result e c b)
wait_plain e c true = plain refl refl
wait_plain e c false = plain refl refl

send_plain : (e t : ℕ) (extent : Extent) (o : Option ℕ) → IsPlain (send_result e t extent o)
send_plain e t extent None = plain refl refl
send_plain e t extent (Some i) = plain refl refl

pump_plain : (p : EndpointWire) (e : ℕ) (queue : List Descriptor) → IsPlain (pump_result p e queue)
pump_plain p e [] = plain refl refl
pump_plain p e (RangeDescriptor t range ∷ queue) = send_plain e t (Pages range) (lowest_label p.unit.busy)
pump_plain p e (PasidDescriptor t ∷ queue) = send_plain e t AllPages (lowest_label p.unit.busy)
pump_plain p e (WaitDescriptor c drain ∷ queue) = wait_plain e c (may_pass p drain)

take_plain : (x : ℕ) (jobs : List JobWire) → IsPlain (take_result x jobs)
take_plain x [] = plain refl refl
take_plain x (job ∷ jobs) = plain refl refl

maps_plain : (n : ℕ) (asks : List AskWire) (qs fs : List ℕ) (rest : List Move) → list_any arrives (maps_to n asks qs fs ++ rest) ≡ list_any arrives rest
maps_plain n asks [] fs rest = refl
maps_plain n asks (q ∷ qs) [] rest = refl
maps_plain n asks (q ∷ qs) (f ∷ fs) rest = maps_plain n asks qs fs rest

code_plain : (n : ℕ) (code : Code) (ms : List Move) → list_any arrives ms ≡ false → IsPlain (says (code_answer n code) ms)
code_plain n SuccessCode ms h = plain refl h
code_plain n InvalidCode ms h = plain refl h
code_plain n FailureCode ms h = plain refl h

reply_plain : (w : Wire) (x : ℕ) (job : JobWire) (v : Verdict) (o : Option Code) → IsPlain (reply_by w x job (reply_maps w job v) o)
reply_plain w x job v None = plain refl refl
reply_plain w x job v (Some code) =
    code_plain (length (reply_maps w job v)) code (reply_maps w job v ++ last) (go (replies_success w job v))
  where
    last : List Move
    last = Move.LetGo x ∷ Move.Respond job (pasid_or_0 (binding_of w job.binding)) code ∷ []

    go :
        (b : Bool)
        → list_any arrives ((if b then maps_to (space_of_job w job) job.asks (newly_mapped w job) (free_from 0 w.places) else []) ++ last) ≡ false
    go true = maps_plain (space_of_job w job) job.asks (newly_mapped w job) (free_from 0 w.places) last
    go false = refl

job_plain : (w : Wire) (x : ℕ) (v : Verdict) (o : Option JobWire) → IsPlain (reply_result w x v o)
job_plain w x v None = plain refl refl
job_plain w x v (Some job) = reply_plain w x job v (response_to w job v)

begin_plain : (e slot : ℕ) (o : Option TranslationWire) → IsPlain (begin_result e slot o)
begin_plain e slot None = plain refl refl
begin_plain e slot (Some x) = plain refl refl

end_plain : (e u : ℕ) (o : Option UseWire) → IsPlain (by_one (end_answer o) (Move.End e u))
end_plain e u None = plain refl refl
end_plain e u (Some (RunningWire x)) = plain refl refl
end_plain e u (Some DeadWire) = plain refl refl

fault_plain : (d : DeviceWire) (e t q : ℕ) (r x l : Bool) (o : Option ℕ) → IsPlain (fault_result d e t q r x l o)
fault_plain d e t q r x l None = plain refl refl
fault_plain d e t q r x l (Some i) = plain refl refl

look_plain : (p : PlaceWire) → IsPlain (says (look_answer p) [])
look_plain FreeWire = plain refl refl
look_plain MappedWire = plain refl refl
look_plain (WithheldWire targets) = plain refl refl

bearer_plain : (w : Wire) (t : ℕ) (o : Option BindingWire) → IsPlain (says (bearer_answer w t o) [])
bearer_plain w t None = plain refl refl
bearer_plain w t (Some b) = plain refl refl

-- Deliveries.

keep_plain : (e n tag : ℕ) (x : TranslationWire) (b : Bool) → IsPlain (keep_result e n tag x b)
keep_plain e n tag x true = plain refl refl
keep_plain e n tag x false = plain refl refl

doomed_plain : (d : DeviceWire) (e n tag f : ℕ) (read x doomed : Bool) (r : RequestWire) → IsPlain (completion_by d e n tag f read x doomed r)
doomed_plain d e n tag f read x true r = plain refl refl
doomed_plain d e n tag f false x false r = plain refl refl
doomed_plain d e n tag f true x false r =
    keep_plain e n tag (record { pasid = r.pasid; page = r.page; frame = f; write = x }) (is_full d.cache r.pasid r.page)

completion_plain : (d : DeviceWire) (e n tag f : ℕ) (read x : Bool) (o : Option RequestWire) → IsPlain (completion_result d e n tag f read x o)
completion_plain d e n tag f read x None = plain refl refl
completion_plain d e n tag f read x (Some r) = doomed_plain d e n tag f read x r.is_doomed r

group_plain : (e n i : ℕ) (code : Code) (s : GroupState) → IsPlain (by_one (response_answer s) (Move.Answered e n i code))
group_plain e n i code Collecting = plain refl refl
group_plain e n i code Awaiting = plain refl refl
group_plain e n i code Stale = plain refl refl
group_plain e n i code Closed = plain refl refl

response_plain : (e n i : ℕ) (code : Code) (o : Option GroupWire) → IsPlain (by_one (response_said o) (Move.Answered e n i code))
response_plain e n i code None = plain refl refl
response_plain e n i code (Some g) = group_plain e n i code g.state

request_plain : (w : Wire) (e n tag t q : ℕ) (b : Bool) → IsPlain (request_result w e n tag t q b)
request_plain w e n tag t q true = plain refl refl
request_plain w e n tag t q false = plain refl refl

count_plain : (u : UnitWire) (e n vector count : ℕ) (b : Bool) → IsPlain (count_result u e n vector count b)
count_plain u e n vector count true = plain refl refl
count_plain u e n vector count false = plain refl refl

marker_plain : (e n b : ℕ) (t : Bool) → IsPlain (marker_result e n b t)
marker_plain e n b true = plain refl refl
marker_plain e n b false = plain refl refl

-- a page request that arrives was in flight
request_turn :
    (w : Wire) (f : FlightWire) (n : ℕ) (r : PageRequestWire) (b : Bool) → flight_of w n ≡ Some f → is_page_request f.message ≡ true
    → IsTurn w (page_request_result f.endpoint f.number r b)
request_turn w f n r true h t = arrived_kept w f n r h t
request_turn w f n r false h t = plain_turn w (page_request_result f.endpoint f.number r false) (plain refl refl)

message_plain : (w : Wire) (e n : ℕ) (m : Message) → is_page_request m ≡ false → IsPlain (message_result w e n m)
message_plain w e n (StartMessage t) h = plain refl refl
message_plain w e n (StopMessage t) h = plain refl refl
message_plain w e n ResetMessage h = plain refl refl
message_plain w e n (CompletionMessage tag f read x) h = completion_plain (device_of w e) e n tag f read x (tag_at (device_of w e) tag)
message_plain w e n (InvalidateMessage itag t scope) h = plain refl refl
message_plain w e n (ResponseMessage t i code) h = response_plain e n i code (group_at (device_of w e) i)
message_plain w e n (RequestMessage tag t q) h = request_plain w e n tag t q (unit_of w e).is_open
message_plain w e n (InvalidatedMessage vector field) h = count_plain (unit_of w e) e n vector (outcomes.count_read field) (unit_of w e).is_open
message_plain w e n (PageRequestMessage t i q r x l) h = absurd (cc (h))
message_plain w e n (MarkerMessage t) h = marker_plain e n (binding_or_0 (bearer w e t)) (unit_of w e).is_open
message_plain w e n ResetDoneMessage h = plain refl refl

message_turn :
    (w : Wire) (f : FlightWire) (n : ℕ) (m : Message) → flight_of w n ≡ Some f → f.message ≡ m → IsTurn w (message_result w f.endpoint f.number m)
message_turn w f n (PageRequestMessage t i q r x l) h s =
    request_turn w f n (record { pasid = t; index = i; ask = record { page = q; read = r; write = x }; last = l }) (unit_of w f.endpoint).is_open h
    (ap is_page_request s)
message_turn w f n m h s = plain_turn w (message_result w f.endpoint f.number m) (message_plain w f.endpoint f.number m refl)

deliver_turn : (w : Wire) (n : ℕ) (o : Option FlightWire) → flight_of w n ≡ o → IsTurn w (deliver_result w o)
deliver_turn w n None h = plain_turn w (says answer.Dropped []) (plain refl refl)
deliver_turn w n (Some f) h = message_turn w f n f.message h refl

-- Serve.

file_turn :
    (w : Wire) (e b : ℕ) (r : PageRequestWire) (queue : List PageRequestWire) (l : Bool) → e < length w.parts → (part_of w e).page_queue ≡ r ∷ queue
    → IsTurn w (file_result (part_of w e) e b r l)
file_turn w e b r queue true m h = file_counted w e b r queue m h
file_turn w e b r queue false m h = file_counted w e b r queue m h

serve_turn :
    (w : Wire) (e : ℕ) (queue : List PageRequestWire) → e < length w.parts → (part_of w e).page_queue ≡ queue
    → IsTurn w (serve_result w (part_of w e) e queue)
serve_turn w e [] m h = plain_turn w (says answer.Empty []) (plain refl refl)
serve_turn w e (r ∷ queue) m h = file_turn w e (binding_or_0 (bearer w e r.pasid)) r queue r.last m h

-- Each step.

abbrev is_served : Step → Bool
is_served (step.Serve e) = true
is_served (step.Deliver n) = true
is_served _ = false

step_plain : (w : Wire) (s : Step) → is_served s ≡ false → IsPlain (result_of w s)
step_plain w step.Space h = plain refl refl
step_plain w (step.DropSpace n) h = plain refl refl
step_plain w (step.Map n q x) h = plain refl refl
step_plain w (step.Unmap n q count) h = unmap_plain (waits w n) (frames_of (pages_in w n) q count) (Move.Unmap n q count 0) refl
step_plain w (step.UnmapRange n q order) h = range_plain (waits w n) _ (Move.Unmap n q 1 order) refl
step_plain w (step.Bind e n) h = plain refl refl
step_plain w (step.Unbind n) h = binding_plain (λ b. unbind_by b b.stage) (binding_of w n) (λ b. unbind_plain b b.stage)
step_plain w (step.Advance n) h = binding_plain (λ b. advance_by b b.stage) (binding_of w n) (λ b. advance_plain b b.stage)
step_plain w (step.Pump e) h = pump_plain (part_of w e) e (unit_of w e).queue
step_plain w (step.Serve e) h = absurd (cc (h))
step_plain w (step.Reset e) h = plain refl refl
step_plain w (step.Take x) h = take_plain x w.jobs
step_plain w (step.Reply x v) h = job_plain w x v (held_by w x)
step_plain w (step.Ask e t q) h = plain refl refl
step_plain w (step.BeginUse e t q x) h = begin_plain e _ (cached (device_of w e) t q)
step_plain w (step.EndUse e u) h = end_plain e u (use_at (device_of w e) u)
step_plain w (step.Evict e t q) h = plain refl refl
step_plain w (step.Fault e t q r x group l) h = fault_plain (device_of w e) e t q r x l group
step_plain w (step.Finish e vector count) h = plain refl refl
step_plain w (step.Quit e t) h = plain refl refl
step_plain w (step.Deliver n) h = absurd (cc (h))
step_plain w (step.Look f) h = look_plain _
step_plain w (step.Bearer t) h = bearer_plain w t _

result_turn : (w : Wire) (s : Step) → Passed (causes_of w s) → IsTurn w (result_of w s)
result_turn w (step.Serve e) p = serve_turn w e (part_of w e).page_queue (is_less e (length w.parts) p.0) refl
result_turn w (step.Deliver n) p = deliver_turn w n (flight_of w n) refl
result_turn w s p = plain_turn w (result_of w s) (step_plain w s refl)

checked_turn :
    (w : Wire) (cs : List Cause) (r : Result) → (Passed cs → IsTurn w r)
    → IsInTurn w (all_moved w (checked cs r).moves) (files (checked cs r).reply)
checked_turn w [] r h = h tt
checked_turn w (c ∷ cs) r h = go c.0 refl (λ e. checked_turn w cs r (λ p. h (e, p)))
  where
    go :
        (b : Bool) → c.0 ≡ b → (c.0 ≡ false → IsInTurn w (all_moved w (checked cs r).moves) (files (checked cs r).reply))
        → IsInTurn w (all_moved w (if b then record { reply = Err c.1; moves = [] } else checked cs r).moves)
        (files (if b then record { reply = Err c.1; moves = [] } else checked cs r).reply)
    go true e rest = unchanged w
    go false e rest = rest e

pub filed_in_turn : FiledInTurn
filed_in_turn w s = checked_turn w (causes_of w s) (result_of w s) (result_turn w s)

-- before the first step none waits
none_queued : (n : ℕ) → sum_by queue (tabulate n (λ e. idle)) ≡ 0
unfolding tabulate
none_queued zero = refl
none_queued (suc n) =
    let rest = none_queued n in
    let both = sum_by-append queue (tabulate n (λ e. idle)) (idle ∷ []) in
    omega (arith, rest, both)

pub none_waiting : (config : Config) → waiting (first_wire config) ≡ 0
none_waiting config = let none = none_queued config.endpoints in omega (arith, none)

-- where an open unit has a page request in its queue, it is filed, and no message is sent
served_by :
    (w : Wire) (e : ℕ) (r : PageRequestWire) (rest : List PageRequestWire) → e < length w.parts → (unit_of w e).is_open ≡ true
    → (part_of w e).page_queue ≡ r ∷ rest
    → decide_of w (step.Serve e) ≡ checked [] (file_result (part_of w e) e (binding_or_0 (bearer w e r.pasid)) r r.last)
served_by w e r rest l o h =
    (λ i. checked ((there i, refusal.NoSuchEndpoint) ∷ (not (o i), refusal.Resetting) ∷ []) (result_of w (step.Serve e)))
    ∙ ap (λ queue. checked [] (serve_result w (part_of w e) e queue)) h
  where
    there : not (nat_lt e (length w.parts)) ≡ false
    there = grind (arith, nat_tests)

pub served_in_turn :
    (w : Wire) (e : ℕ) (r : PageRequestWire) (rest : List PageRequestWire) → e < length w.parts → (unit_of w e).is_open ≡ true
    → (part_of w e).page_queue ≡ r ∷ rest
    → (waiting (next_of w (step.Serve e)) + 1 ≤ waiting w) × ((next_of w (step.Serve e)).next_message ≡ w.next_message)
served_in_turn w e r rest l o h =
    subst (λ (d : Decision). (waiting (all_moved w d.moves) + 1 ≤ waiting w) × ((all_moved w d.moves).next_message ≡ w.next_message))
    (sym (served_by w e r rest l o h)) (go r.last)
  where
    counted : IsInTurn w (moved w (Move.File e (binding_or_0 (bearer w e r.pasid)) r)) 1
    counted = file_counted w e (binding_or_0 (bearer w e r.pasid)) r rest l h

    less : (a b n : ℕ) → a + 1 + n ≤ b + n → a + 1 ≤ b
    less a b n k = omega (arith, k)

    go :
        (last : Bool)
        → (waiting (all_moved w (file_result (part_of w e) e (binding_or_0 (bearer w e r.pasid)) r last).moves) + 1 ≤ waiting w)
        × ((all_moved w (file_result (part_of w e) e (binding_or_0 (bearer w e r.pasid)) r last).moves).next_message ≡ w.next_message)
    go true = (less _ (waiting w) w.next_message counted, refl)
    go false = (less _ (waiting w) w.next_message counted, refl)
