-- Steps that don't ask the table of jobs: a host with its table of jobs decides them as the host alone does.
use Rattle.std.proofs.Common.{◌≡◌, refl, ◌∙◌, ℕ, Bool, true, false}
use Rattle.std.specs.Prelude.{◌+◌, ◌&&◌, ◌||◌, ◌==◌, ◌%◌, ◌^◌, not, nat_lt, nat_le, if◌then◌else◌, is_some, is_none, Err, Option, Some, None, List, []}
use Rattle.std.specs.Prelude.{◌∷◌, ◌++◌, find, length, slice_index_or}
use Rattle.sva_step.specs.declared.answers.Answer.TheVariants as answer
use Rattle.sva_step.specs.declared.refusals.Refusal.TheVariants as refusal
use Rattle.sva_step.specs.declared.steps.Step.{Step}
use Rattle.sva_step.specs.declared.steps.Step.TheVariants as step
use Rattle.sva_model.specs.Words.{any_below, all_below, count_below}
use Rattle.sva_model.specs.Message.{Message}
use Rattle.sva_model.specs.Message.Message.{StartMessage, StopMessage, ResetMessage, CompletionMessage, InvalidateMessage, ResponseMessage, RequestMessage}
use Rattle.sva_model.specs.Message.Message.{InvalidatedMessage, PageRequestMessage, MarkerMessage, ResetDoneMessage}
use Rattle.sva_model.specs.Outcomes.{unmap_answer, unmap_range_answer}
use Rattle.sva_model.specs.Refusals.{Cause, page_range}
use Rattle.sva_model.specs.States.{Extent}
use Rattle.sva_model.specs.States.Extent.{Pages, AllPages}
use Rattle.sva_model.specs.Wire.{Wire, EndpointWire, BindingWire, StageWire, Descriptor, FlightWire, TranslationWire, RequestWire, DeviceWire}
use Rattle.sva_model.specs.Wire.StageWire.{LiveWire, StoppingWire, DrainingWire, InvalidatingWire, QuietWire, LostWire}
use Rattle.sva_model.specs.Wire.Descriptor.{RangeDescriptor, PasidDescriptor, WaitDescriptor}
use Rattle.sva_labels.specs.Finding.{part_of, device_of, unit_of, flight_of, binding_of, bearer, bound_at, pages_in, is_mapped, frames_of, lowest_label}
use Rattle.sva_labels.specs.Finding.{cached, use_at, tag_at, group_at, is_some_busy, submits_by, has_room, pasid_by, may_deliver}
use Rattle.sva_labels.specs.Causes.{queue_full, waits_needed, numbers_spent, lacks, no_such_space, not_started, not_held, is_read_only, unbind_causes}
use Rattle.sva_labels.specs.Causes.{sends_invalidate, deliver_causes, delivery_sends, device_causes_of_ask, device_causes_of_use, causes_of}
use Rattle.sva_labels.specs.Causes.{device_causes_of_end, device_causes_of_evict, device_causes_of_fault, device_causes_of_finish, device_causes_of_quit}
use Rattle.sva_labels.specs.Causes as causes
use Rattle.sva_labels.specs.Host.{checked, decide_of}
use Rattle.sva_labels.specs.Moves.{Move}
use Rattle.sva_labels.specs.Outcomes.{Result, says, by_one, label, bind_result, of_binding, unbind_by, may_pass, pump_result, send_result, wait_result}
use Rattle.sva_labels.specs.Outcomes.{begin_result, end_answer, fault_result, deliver_result, message_result, completion_result, completion_by}
use Rattle.sva_labels.specs.Outcomes.{keep_result, is_full, response_said, request_result, found_for, completion_of, count_result, count_read}
use Rattle.sva_labels.specs.Outcomes.{page_request_result, marker_result, binding_or_0, bearer_answer, result_of}
use Rattle.sva_host.specs.Applied.{AsksNoJobTable}
use Rattle.sva_host.specs.Seen.{JobTableWire, serving}
use Rattle.sva_host.proofs.Parts.{length_with, device_with, unit_with, page_queue_with}
use Rattle.sva_host.proofs.Changes.{LeaveJobTable, needed_with, targets_with}

-- Causes that several steps ask.

pub there_with : (job_table : JobTableWire) (w : Wire) (e : ℕ)
    → causes.no_such_endpoint (serving job_table w) e ≡ causes.no_such_endpoint w e
there_with job_table w e = λ i. (not (nat_lt e (length_with job_table.groups w.parts i)), refusal.NoSuchEndpoint)

pub resetting_with : (job_table : JobTableWire) (w : Wire) (e : ℕ)
    → causes.resetting (serving job_table w) e ≡ causes.resetting w e
resetting_with job_table w e = λ i. (not (unit_with job_table.groups w.parts e i).is_open, refusal.Resetting)

full_with : (job_table : JobTableWire) (w : Wire) (n k : ℕ)
    → queue_full (serving job_table w) n k ≡ queue_full w n k
full_with job_table w n k =
    λ i. (
      any_below (length_with job_table.groups w.parts i)
          (λ e. submits_by (unit_with job_table.groups w.parts e i) (bound_at w e n) && not (has_room (unit_with job_table.groups w.parts e i) k)),
      refusal.QueueFull,
    )

-- Look-ups of bindings.

pasid_by_with : (job_table : JobTableWire) (w : Wire) (o : Option BindingWire)
    → pasid_by (serving job_table w) o ≡ pasid_by w o
pasid_by_with job_table w None = refl
pasid_by_with job_table w (Some b) = refl

bearer_answer_with : (job_table : JobTableWire) (w : Wire) (t : ℕ) (o : Option BindingWire)
    → bearer_answer (serving job_table w) t o ≡ bearer_answer w t o
bearer_answer_with job_table w t None = refl
bearer_answer_with job_table w t (Some b) = refl

found_with : (job_table : JobTableWire) (w : Wire) (q : ℕ) (o : Option BindingWire)
    → found_for (serving job_table w) q o ≡ found_for w q o
found_with job_table w q None = refl
found_with job_table w q (Some b) = refl

unbind_by_with : (job_table : JobTableWire) (w : Wire) (b : BindingWire) (stage : StageWire)
    → causes.unbind_by (serving job_table w) b stage ≡ causes.unbind_by w b stage
unbind_by_with job_table w b LostWire = refl
unbind_by_with job_table w b LiveWire = λ i. (false, refusal.NotLive) ∷ resetting_with job_table w b.endpoint i ∷ numbers_spent w.next_message 1 ∷ []
unbind_by_with job_table w b (StoppingWire m) = λ i. (true, refusal.NotLive) ∷ resetting_with job_table w b.endpoint i ∷ numbers_spent w.next_message 1 ∷ []
unbind_by_with job_table w b (DrainingWire c) = λ i. (true, refusal.NotLive) ∷ resetting_with job_table w b.endpoint i ∷ numbers_spent w.next_message 1 ∷ []
unbind_by_with job_table w b (InvalidatingWire c) = λ i. (true, refusal.NotLive) ∷ resetting_with job_table w b.endpoint i ∷ numbers_spent w.next_message 1 ∷ []
unbind_by_with job_table w b QuietWire = λ i. (true, refusal.NotLive) ∷ resetting_with job_table w b.endpoint i ∷ numbers_spent w.next_message 1 ∷ []

unbind_with : (job_table : JobTableWire) (w : Wire) (o : Option BindingWire)
    → unbind_causes (serving job_table w) o ≡ unbind_causes w o
unbind_with job_table w None = refl
unbind_with job_table w (Some b) = unbind_by_with job_table w b b.stage

-- A unit's head.

pump_same : (p q : EndpointWire) (e : ℕ) (ds : List Descriptor) → p.unit ≡ q.unit → p.page_queue ≡ q.page_queue → pump_result p e ds ≡ pump_result q e ds
pump_same p q e [] unit waiting = refl
pump_same p q e (RangeDescriptor pasid range ∷ ds) unit waiting = λ i. send_result e pasid (Pages range) (lowest_label (unit i).busy)
pump_same p q e (PasidDescriptor pasid ∷ ds) unit waiting = λ i. send_result e pasid AllPages (lowest_label (unit i).busy)
pump_same p q e (WaitDescriptor cookie drain ∷ ds) unit waiting =
    λ i. wait_result e cookie (not (is_some_busy (unit i)) && (not drain || length (waiting i) == 0))

pump_with : (job_table : JobTableWire) (w : Wire) (e : ℕ)
    → pump_result (part_of (serving job_table w) e) e (unit_of (serving job_table w) e).queue ≡ pump_result (part_of w e) e (unit_of w e).queue
pump_with job_table w e =
    pump_same (part_of (serving job_table w) e) (part_of w e) e (unit_of (serving job_table w) e).queue (unit_with job_table.groups w.parts e)
    (page_queue_with job_table.groups w.parts e)
    ∙ (λ i. pump_result (part_of w e) e (unit_with job_table.groups w.parts e i).queue)

-- Messages that arrive.

request_with : (job_table : JobTableWire) (w : Wire) (e n tag t q : ℕ) (b : Bool)
    → request_result (serving job_table w) e n tag t q b ≡ request_result w e n tag t q b
request_with job_table w e n tag t q true =
    λ i. by_one answer.Completion (Move.Complete e n (completion_of tag (found_with job_table w q (bearer w e t) i)))
request_with job_table w e n tag t q false = refl

message_with : (job_table : JobTableWire) (w : Wire) (e n : ℕ) (m : Message)
    → message_result (serving job_table w) e n m ≡ message_result w e n m
message_with job_table w e n (StartMessage t) = refl
message_with job_table w e n (StopMessage t) = refl
message_with job_table w e n ResetMessage = refl
message_with job_table w e n (CompletionMessage tag f read x) =
    λ i. completion_result (device_with job_table.groups w.parts e i) e n tag f read x (tag_at (device_with job_table.groups w.parts e i) tag)
message_with job_table w e n (InvalidateMessage itag t scope) = refl
message_with job_table w e n (ResponseMessage t k code) =
    λ i. by_one (response_said (group_at (device_with job_table.groups w.parts e i) k)) (Move.Answered e n k code)
message_with job_table w e n (RequestMessage tag t q) =
    request_with job_table w e n tag t q (unit_of (serving job_table w) e).is_open
    ∙ (λ i. request_result w e n tag t q (unit_with job_table.groups w.parts e i).is_open)
message_with job_table w e n (InvalidatedMessage vector field) =
    λ i. count_result (unit_with job_table.groups w.parts e i) e n vector (count_read field) (unit_with job_table.groups w.parts e i).is_open
message_with job_table w e n (PageRequestMessage t k q r x l) =
    λ i. page_request_result e n (record { pasid = t; index = k; ask = record { page = q; read = r; write = x }; last = l })
    (unit_with job_table.groups w.parts e i).is_open
message_with job_table w e n (MarkerMessage t) = λ i. marker_result e n (binding_or_0 (bearer w e t)) (unit_with job_table.groups w.parts e i).is_open
message_with job_table w e n ResetDoneMessage = refl

deliver_with : (job_table : JobTableWire) (w : Wire) (o : Option FlightWire)
    → checked (deliver_causes (serving job_table w) o) (deliver_result (serving job_table w) o) ≡ checked (deliver_causes w o) (deliver_result w o)
deliver_with job_table w None = refl
deliver_with job_table w (Some f) =
    λ i. checked
    ((not (may_deliver w f), refusal.Overtakes)
    ∷ (delivery_sends (unit_with job_table.groups w.parts f.endpoint i) f.message && lacks w.next_message 1, refusal.NumbersSpent)
    ∷ [])
    (message_with job_table w f.endpoint f.number f.message i)

-- What is decided.

pub decide_with : (job_table : JobTableWire) (w : Wire) (s : Step) → AsksNoJobTable s
    → decide_of (serving job_table w) s ≡ decide_of w s
decide_with job_table w step.Space asks = refl
decide_with job_table w (step.DropSpace n) asks = refl
decide_with job_table w (step.Map n q x) asks = refl
decide_with job_table w (step.Unmap n q count) asks =
    λ i. checked
    (no_such_space w n
    ∷ (not (nat_le 1 count && nat_le count 48), refusal.BadCount)
    ∷ page_range q count
    ∷ (not (all_below count (λ j. is_mapped (pages_in w n) (q + j))), refusal.NotMapped)
    ∷ full_with job_table w n (count + 1) i
    ∷ numbers_spent w.next_cookie (needed_with job_table w n i)
    ∷ [])
    (by_one
    (unmap_answer (any_below 8 (λ e. is_some (slice_index_or (targets_with job_table w n i) e None))) (frames_of (pages_in w n) q count))
    (Move.Unmap n q count 0))
decide_with job_table w (step.UnmapRange n q order) asks =
    λ i. checked
    (no_such_space w n
    ∷ (nat_lt 9 order, refusal.BadOrder)
    ∷ page_range q (2 ^ order)
    ∷ (not (q % 2 ^ order == 0), refusal.NotAligned)
    ∷ (not (any_below (2 ^ order) (λ j. is_mapped (pages_in w n) (q + j))), refusal.NothingMapped)
    ∷ full_with job_table w n 2 i
    ∷ numbers_spent w.next_cookie (needed_with job_table w n i)
    ∷ [])
    (by_one
    (unmap_range_answer (any_below 8 (λ e. is_some (slice_index_or (targets_with job_table w n i) e None)))
    (count_below (2 ^ order) (λ j. is_mapped (pages_in w n) (q + j))))
    (Move.Unmap n q 1 order))
decide_with job_table w (step.Bind e n) asks =
    let pasid = pasid_by_with job_table w (find (λ (b : BindingWire). b.space == n) w.bindings) in
    λ i. checked
    (there_with job_table w e i
    ∷ no_such_space w n
    ∷ resetting_with job_table w e i
    ∷ (is_some (bound_at w e n), refusal.AlreadyBound)
    ∷ (is_none (pasid i), refusal.NoPasid)
    ∷ numbers_spent w.next_binding 1
    ∷ numbers_spent w.next_message 1
    ∷ [])
    (bind_result w e n (label (pasid i)))
decide_with job_table w (step.Unbind n) asks =
    λ i. checked (unbind_with job_table w (binding_of w n) i) (of_binding (λ b. unbind_by b b.stage) (binding_of w n))
decide_with job_table w (step.Advance n) asks = absurd asks
decide_with job_table w (step.Pump e) asks =
    λ i. checked
    (there_with job_table w e i
    ∷ resetting_with job_table w e i
    ∷ (sends_invalidate (unit_with job_table.groups w.parts e i) && lacks w.next_message 1, refusal.NumbersSpent)
    ∷ [])
    (pump_with job_table w e i)
decide_with job_table w (step.Serve e) asks = absurd asks
decide_with job_table w (step.Reset e) asks = absurd asks
decide_with job_table w (step.Take x) asks = absurd asks
decide_with job_table w (step.Reply x v) asks = absurd asks
decide_with job_table w (step.Ask e t q) asks =
    let device = device_with job_table.groups w.parts e in
    λ i. checked
    (there_with job_table w e i
    ∷ device_causes_of_ask (device i) t q
    ++ numbers_spent w.next_message 1
    ∷ [])
    (by_one (answer.Tag (label (lowest_label (device i).tags))) (Move.Ask e t q (label (lowest_label (device i).tags))))
decide_with job_table w (step.BeginUse e t q x) asks =
    let device = device_with job_table.groups w.parts e in
    λ i. checked
    (there_with job_table w e i ∷ device_causes_of_use (device i) t q x)
    (begin_result e (label (lowest_label (device i).slots)) (cached (device i) t q))
decide_with job_table w (step.EndUse e u) asks =
    let device = device_with job_table.groups w.parts e in
    λ i. checked (there_with job_table w e i ∷ device_causes_of_end (device i) u)
    (by_one (end_answer (use_at (device i) u)) (Move.End e u))
decide_with job_table w (step.Evict e t q) asks =
    λ i. checked (there_with job_table w e i ∷ device_causes_of_evict (device_with job_table.groups w.parts e i) t q)
    (by_one answer.Evicted (Move.Evict e t q))
decide_with job_table w (step.Fault e t q r x group l) asks =
    let device = device_with job_table.groups w.parts e in
    λ i. checked (there_with job_table w e i ∷ device_causes_of_fault (device i) t q group
    ++ numbers_spent w.next_message 1 ∷ []) (fault_result (device i) e t q r x l group)
decide_with job_table w (step.Finish e vector count) asks =
    λ i. checked (there_with job_table w e i ∷ device_causes_of_finish
    (device_with job_table.groups w.parts e i) vector count ++ numbers_spent w.next_message count ∷ [])
    (by_one (answer.Sent count) (Move.Finish e vector count))
decide_with job_table w (step.Quit e t) asks =
    λ i. checked (there_with job_table w e i ∷ device_causes_of_quit (device_with job_table.groups w.parts e i) t
    ++ numbers_spent w.next_message 1 ∷ []) (by_one answer.Marker (Move.Quit e t))
decide_with job_table w (step.Deliver n) asks = deliver_with job_table w (flight_of w n)
decide_with job_table w (step.Look f) asks = refl
decide_with job_table w (step.Bearer t) asks =
    λ i. checked ((not (nat_le 1 t && nat_le t 32), refusal.BadPasid) ∷ [])
    (says (bearer_answer_with job_table w t (find (λ (b : BindingWire). b.pasid == t) w.bindings) i) [])

-- And what it moves leaves the table of jobs.

completion_leaves : (d : DeviceWire) (e n tag f : ℕ) (read x is_doomed : Bool) (r : RequestWire)
    → LeaveJobTable (completion_by d e n tag f read x is_doomed r).moves
completion_leaves d e n tag f read x true r = (tt, tt)
completion_leaves d e n tag f false x false r = (tt, tt)
completion_leaves d e n tag f true x false r = go (is_full d.cache r.pasid r.page)
  where
    go : (b : Bool) → LeaveJobTable (keep_result e n tag (record { pasid = r.pasid; page = r.page; frame = f; write = x }) b).moves
    go true = (tt, tt)
    go false = (tt, tt)

completed_leaves : (d : DeviceWire) (e n tag f : ℕ) (read x : Bool) (o : Option RequestWire) → LeaveJobTable (completion_result d e n tag f read x o).moves
completed_leaves d e n tag f read x None = (tt, tt)
completed_leaves d e n tag f read x (Some r) = completion_leaves d e n tag f read x r.is_doomed r

message_leaves : (w : Wire) (e n : ℕ) (m : Message) → LeaveJobTable (message_result w e n m).moves
message_leaves w e n (StartMessage t) = (tt, tt)
message_leaves w e n (StopMessage t) = (tt, tt)
message_leaves w e n ResetMessage = (tt, tt)
message_leaves w e n (CompletionMessage tag f read x) = completed_leaves (device_of w e) e n tag f read x (tag_at (device_of w e) tag)
message_leaves w e n (InvalidateMessage itag t scope) = (tt, tt)
message_leaves w e n (ResponseMessage t k code) = (tt, tt)
message_leaves w e n (RequestMessage tag t q) = go (unit_of w e).is_open
  where
    go : (b : Bool) → LeaveJobTable (request_result w e n tag t q b).moves
    go true = (tt, tt)
    go false = (tt, tt)
message_leaves w e n (InvalidatedMessage vector field) = go (unit_of w e).is_open
  where
    go : (b : Bool) → LeaveJobTable (count_result (unit_of w e) e n vector (count_read field) b).moves
    go true = (tt, tt)
    go false = (tt, tt)
message_leaves w e n (PageRequestMessage t k q r x l) = go (unit_of w e).is_open
  where
    go : (b : Bool) → LeaveJobTable (page_request_result e n
        (record { pasid = t; index = k; ask = record { page = q; read = r; write = x }; last = l }) b).moves
    go true = (tt, tt)
    go false = (tt, tt)
message_leaves w e n (MarkerMessage t) = go (unit_of w e).is_open
  where
    go : (b : Bool) → LeaveJobTable (marker_result e n (binding_or_0 (bearer w e t)) b).moves
    go true = (tt, tt)
    go false = (tt, tt)
message_leaves w e n ResetDoneMessage = (tt, tt)

deliver_leaves : (w : Wire) (o : Option FlightWire) → LeaveJobTable (deliver_result w o).moves
deliver_leaves w None = tt
deliver_leaves w (Some f) = message_leaves w f.endpoint f.number f.message

unbind_leaves : (b : BindingWire) (stage : StageWire) → LeaveJobTable (unbind_by b stage).moves
unbind_leaves b LostWire = (tt, tt)
unbind_leaves b _ = (tt, tt)

bound_leaves : (o : Option BindingWire) → LeaveJobTable (of_binding (λ b. unbind_by b b.stage) o).moves
bound_leaves None = tt
bound_leaves (Some b) = unbind_leaves b b.stage

send_leaves : (e pasid : ℕ) (extent : Extent) (o : Option ℕ) → LeaveJobTable (send_result e pasid extent o).moves
send_leaves e pasid extent None = tt
send_leaves e pasid extent (Some t) = (tt, tt)

pump_leaves : (p : EndpointWire) (e : ℕ) (ds : List Descriptor) → LeaveJobTable (pump_result p e ds).moves
pump_leaves p e [] = tt
pump_leaves p e (RangeDescriptor pasid range ∷ ds) = send_leaves e pasid (Pages range) (lowest_label p.unit.busy)
pump_leaves p e (PasidDescriptor pasid ∷ ds) = send_leaves e pasid AllPages (lowest_label p.unit.busy)
pump_leaves p e (WaitDescriptor cookie drain ∷ ds) = go (may_pass p drain)
  where
    go : (b : Bool) → LeaveJobTable (wait_result e cookie b).moves
    go true = (tt, tt)
    go false = tt

begin_leaves : (e slot : ℕ) (o : Option TranslationWire) → LeaveJobTable (begin_result e slot o).moves
begin_leaves e slot None = tt
begin_leaves e slot (Some x) = (tt, tt)

fault_leaves : (d : DeviceWire) (e t q : ℕ) (r x l : Bool) (o : Option ℕ) → LeaveJobTable (fault_result d e t q r x l o).moves
fault_leaves d e t q r x l None = (tt, tt)
fault_leaves d e t q r x l (Some k) = (tt, tt)

result_leaves : (w : Wire) (s : Step) → AsksNoJobTable s → LeaveJobTable (result_of w s).moves
result_leaves w step.Space asks = (tt, tt)
result_leaves w (step.DropSpace n) asks = (tt, tt)
result_leaves w (step.Map n q x) asks = (tt, tt)
result_leaves w (step.Unmap n q count) asks = (tt, tt)
result_leaves w (step.UnmapRange n q order) asks = (tt, tt)
result_leaves w (step.Bind e n) asks = (tt, (tt, tt))
result_leaves w (step.Unbind n) asks = bound_leaves (binding_of w n)
result_leaves w (step.Advance n) asks = absurd asks
result_leaves w (step.Pump e) asks = pump_leaves (part_of w e) e (unit_of w e).queue
result_leaves w (step.Serve e) asks = absurd asks
result_leaves w (step.Reset e) asks = absurd asks
result_leaves w (step.Take x) asks = absurd asks
result_leaves w (step.Reply x v) asks = absurd asks
result_leaves w (step.Ask e t q) asks = (tt, tt)
result_leaves w (step.BeginUse e t q x) asks = begin_leaves e (label (lowest_label (device_of w e).slots)) (cached (device_of w e) t q)
result_leaves w (step.EndUse e u) asks = (tt, tt)
result_leaves w (step.Evict e t q) asks = (tt, tt)
result_leaves w (step.Fault e t q r x group l) asks = fault_leaves (device_of w e) e t q r x l group
result_leaves w (step.Finish e vector count) asks = (tt, tt)
result_leaves w (step.Quit e t) asks = (tt, tt)
result_leaves w (step.Deliver n) asks = deliver_leaves w (flight_of w n)
result_leaves w (step.Look f) asks = tt
result_leaves w (step.Bearer t) asks = tt

pub checked_leaves : (causes : List Cause) (r : Result) → LeaveJobTable r.moves → LeaveJobTable (checked causes r).moves
checked_leaves [] r leave = leave
checked_leaves (cause ∷ causes) r leave = go cause.0 (checked_leaves causes r leave)
  where
    go : (b : Bool) → LeaveJobTable (checked causes r).moves → LeaveJobTable (if b then record { reply = Err cause.1; moves = [] } else checked causes r).moves
    go true rest = tt
    go false rest = rest

pub decide_leaves : (w : Wire) (s : Step) → AsksNoJobTable s → LeaveJobTable (decide_of w s).moves
decide_leaves w s asks = checked_leaves (causes_of w s) (result_of w s) (result_leaves w s asks)
