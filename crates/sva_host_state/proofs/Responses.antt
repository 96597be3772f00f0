-- What is answered to a job, by labels.
use Rattle.std.proofs.Common.{◌≡◌, refl, ap, sym, ◌∙◌, subst, ℕ, suc, ◌+◌, ◌<◌, ◌≤◌, ◌^◌, Bool, true, false, arith}
use Rattle.std.specs.Prelude.{◌&&◌, not, nat_lt, if◌then◌else◌, is_some, is_err, Result, Ok, Err, IsOk, IsErr, IsErrAnd, Option, Some, None, List, [], ◌∷◌}
use Rattle.std.specs.Prelude.{◌++◌, map, filter, length, slice_set, slice_index_or}
use Rattle.std.proofs.lemmas.List.{set-get_or}
use Rattle.sva_step.specs.declared.answers.Answer.TheVariants as answer
use Rattle.sva_step.specs.declared.refusals.Refusal.{Refusal}
use Rattle.sva_step.specs.declared.refusals.Refusal.TheVariants as refusal
use Rattle.sva_step.specs.declared.steps.Verdict.{Verdict}
use Rattle.sva_step.specs.declared.steps.Verdict.TheVariants as verdict
use Rattle.sva_model.specs.Message.{Code}
use Rattle.sva_model.specs.Message.Code.{SuccessCode}
use Rattle.sva_model.specs.Message.Message.{ResponseMessage}
use Rattle.sva_model.specs.Outcomes.{code_answer}
use Rattle.sva_model.specs.Steps.{Reply}
use Rattle.sva_model.specs.Replies.{is_success}
use Rattle.sva_model.specs.Wire.{Wire, BindingWire, StageWire, EndpointWire, HostGroupWire, AskWire, JobWire}
use Rattle.sva_model.specs.Wire.StageWire.{LiveWire, StoppingWire, DrainingWire, InvalidatingWire, QuietWire, LostWire}
use Rattle.sva_labels.specs.Finding.{idle, is_space, pages_in, free_from, binding_of, unit_of}
use Rattle.sva_labels.specs.Replying.{response_by, response_for, response_to, responds, replies_success, space_by, space_of_job, newly_mapped}
use Rattle.sva_labels.specs.Replying.{is_write_of_read_only}
use Rattle.sva_labels.specs.Causes.{lacks, numbers_spent}
use Rattle.sva_labels.specs.Host.{Decision, checked}
use Rattle.sva_labels.specs.Moves.{Move, moved, all_moved, is_of_job, sent, pasid_or_0}
use Rattle.sva_labels.specs.Outcomes as outcomes
use Rattle.sva_labels.specs.Outcomes.{says, maps_to}
use Rattle.sva_msg.specs.declared.messages.Code.{Code as SentCode}
use Rattle.sva_msg.specs.declared.messages.Code.TheVariants as code
use Rattle.sva_msg.specs.declared.messages.Kind.{Kind}
use Rattle.sva_msg.specs.declared.messages.Kind.TheVariants.{Response}
use Rattle.sva_msg.specs.declared.messages.Message.{Message}
use Rattle.sva_msg.specs.Bag.{InFlight, with_sent}
use Rattle.sva_pasid.specs.declared.places.TableEntry.{TableEntry}
use Rattle.sva_prq.specs.Job.{Job}
use Rattle.sva_address_spaces.specs.Seen.{AddressSpacesSeen, with_address_spaces}
use Rattle.sva_address_spaces.specs.Steps.{AllMoves}
use Rattle.sva_address_spaces.specs.Asked.{new_pages, success_causes, may_map_all, maps_of, taken_back}
use Rattle.sva_address_spaces.proofs.Success.{frames_enough}
use Rattle.sva_parts_by_labels.specs.Bindings.{stage_or_quiet, binding_seen}
use Rattle.sva_parts_by_labels.specs.Flights.{kind_seen, code_seen}
use Rattle.sva_parts_by_labels.specs.JobTable.{job_seen}
use Rattle.sva_prq.specs.Job.{ask_seen}
use Rattle.sva_host_state.specs.declared.host_state.HostState.TheInside.{Inside as HostState}
use Rattle.sva_host_state.specs.declared.replying.Response.{Response as Responding}
use Rattle.sva_host_state.specs.Inner.{wire_of}
use Rattle.sva_host_state.specs.Steps.{Does, Sends}
use Rattle.sva_host_state.specs.Replying.{responded_by, responded_of, success_maps, succeeded, turned_down, IsResponse}
use Rattle.sva_host_state.proofs.Deciding.{passed, refused_by}
use Rattle.sva_host_state.proofs.Refusing.{left_over, spent}
use Rattle.sva_host_state.proofs.Sent.{sent_seen, unsent_same, unsent, sent_decided}
use Rattle.sva_host_state.proofs.Devices.{is_err as is_error}
use Rattle.sva_host_state.proofs.Advances.{no_groups as none_filed}
use Rattle.sva_host_state.proofs.Binds.{unsent_any as unsent_bag}

-- The response that is sent.

-- a job is responded to, whatever is decided
responds_some : (w : Wire) (job : JobWire) (v : Verdict) (c : Code) → response_to w job v ≡ Some c → responds w job ≡ true
responds_some w job v c is = go (slice_index_or w.parts job.endpoint idle).unit.is_open (binding_of w job.binding) is
  where
    by_stage : (o : Bool) (s : StageWire) → response_by o s v ≡ Some c → is_some (response_by o s verdict.Invalid) ≡ true
    by_stage true LiveWire is = refl
    by_stage true (StoppingWire marked) is = refl
    by_stage true (DrainingWire cookie) is = refl
    by_stage true (InvalidatingWire cookie) is = absurd (cc (is))
    by_stage true QuietWire is = absurd (cc (is))
    by_stage true LostWire is = absurd (cc (is))
    by_stage false s is = absurd (cc (is))

    go : (o : Bool) (b : Option BindingWire) → response_for o b v ≡ Some c → is_some (response_for o b verdict.Invalid) ≡ true
    go o None is = absurd (cc (is))
    go o (Some b) is = by_stage o b.stage is

-- or isn't
pub responds_none : (w : Wire) (job : JobWire) (v : Verdict) → response_to w job v ≡ None → responds w job ≡ false
responds_none w job v is = go (slice_index_or w.parts job.endpoint idle).unit.is_open (binding_of w job.binding) is
  where
    by_stage : (o : Bool) (s : StageWire) → response_by o s v ≡ None → is_some (response_by o s verdict.Invalid) ≡ false
    by_stage true LiveWire is = absurd (cc (is))
    by_stage true (StoppingWire marked) is = absurd (cc (is))
    by_stage true (DrainingWire cookie) is = absurd (cc (is))
    by_stage true (InvalidatingWire cookie) is = refl
    by_stage true QuietWire is = refl
    by_stage true LostWire is = refl
    by_stage false s is = refl

    go : (o : Bool) (b : Option BindingWire) → response_for o b v ≡ None → is_some (response_for o b verdict.Invalid) ≡ false
    go o None is = refl
    go o (Some b) is = by_stage o b.stage is

-- What is decided, by the tests of success and of a response.

abbrev decided_by : Wire → JobWire → (success response : Bool) → Option Code → Decision
decided_by w job s r c =
    checked
    ((s && is_write_of_read_only w job, refusal.BadVerdict)
    ∷ (s && nat_lt (length (free_from 0 w.places)) (length (newly_mapped w job)), refusal.NoFrame)
    ∷ (s && nat_lt 1024 (length (pages_in w (space_of_job w job)) + length (newly_mapped w job)), refusal.SpaceFull)
    ∷ (r && lacks w.next_message 1, refusal.NumbersSpent)
    ∷ [])
    (responded_by w job (if s then maps_to (space_of_job w job) job.asks (newly_mapped w job) (free_from 0 w.places) else []) c)

is_decided : (w : Wire) (job : JobWire) (v : Verdict) → responded_of w job v
    ≡ decided_by w job (replies_success w job v) (responds w job) (response_to w job v)
is_decided w job v = refl

pub dropped : (w : Wire) (job : JobWire) (v : Verdict) → response_to w job v ≡ None → Does (responded_of w job v) w (Ok answer.Dropped) w
dropped w job v none =
    subst (λ (d : Decision). Does d w (Ok answer.Dropped) w)
    (sym (is_decided w job v ∙ (λ i. decided_by w job (is_success (none i)) (responds_none w job v none i) (none i)))) (refl, refl)

-- by a code that is sent
of_code : (w : Wire) (job : JobWire) (v : Verdict) (c : Code) → response_to w job v ≡ Some c
    → responded_of w job v ≡ decided_by w job (is_success (Some c)) true (Some c)
of_code w job v c is = is_decided w job v ∙ (λ i. decided_by w job (is_success (is i)) (responds_some w job v c is i) (is i))

pub is_succeeded : (w : Wire) (job : JobWire) (v : Verdict) (r : Responding) → IsResponse w job v r → code_seen r.code ≡ SuccessCode
    → responded_of w job v ≡ succeeded w job r.space r.pasid
is_succeeded w job v r is same =
    of_code w job v SuccessCode (is.code ∙ ap Some same)
    ∙ (λ i. succeeded w job (space_is i) (pasid_is i))
  where
    space_is : space_of_job w job ≡ r.space
    space_is = ap space_by is.found ∙ is.space

    pasid_is : pasid_or_0 (binding_of w job.binding) ≡ r.pasid
    pasid_is = ap pasid_or_0 is.found ∙ is.pasid

pub is_turned_down : (w : Wire) (job : JobWire) (v : Verdict) (r : Responding) (c : Code) → IsResponse w job v r → code_seen r.code ≡ c
    → is_success (Some c) ≡ false
    → responded_of w job v ≡ turned_down w job r.pasid c
is_turned_down w job v r c is same other =
    of_code w job v c (is.code ∙ ap Some same)
    ∙ ap (λ (b : Bool). decided_by w job b true (Some c)) other
    ∙ ap (λ (t : ℕ). turned_down w job t c) (ap pasid_or_0 is.found ∙ is.pasid)

pub never_silent : (w : Wire) (job : JobWire) (v : Verdict) (r : Responding) → IsResponse w job v r → responds w job ≡ false → ⊥
never_silent w job v r is silent = two (sym (responds_some w job v (code_seen r.code) is.code) ∙ silent)
  where
    two : true ≡ false → ⊥
    two wrong = cc

-- What a response leaves.

-- no group is filed at a host

responds_leaves : (w : Wire) (job : JobWire) (t : ℕ) (c : Code) → (slice_index_or w.parts job.endpoint idle).host_groups ≡ []
    → moved w (Move.Respond job t c) ≡ sent job.endpoint (ResponseMessage t job.index c) w
responds_leaves w job t c none = ap (λ (parts : List EndpointWire). sent job.endpoint (ResponseMessage t job.index c) (record w { parts = parts })) same
  where
    same : slice_set w.parts job.endpoint
        (record (slice_index_or w.parts job.endpoint idle) {
          host_groups = filter (λ g. not (is_of_job job g))
              (slice_index_or w.parts job.endpoint idle).host_groups;
        }) ≡ w.parts
    same =
        (λ i. slice_set w.parts job.endpoint (record (slice_index_or w.parts job.endpoint idle) {
          host_groups = (ap (λ (gs : List HostGroupWire). filter (λ g. not (is_of_job job g)) gs) none ∙ sym none) i;
        }))
        ∙ set-get_or w.parts job.endpoint idle

abbrev response_of : Job → (pasid : ℕ) → SentCode → Message
response_of job t c = record { endpoint = job.unit; kind = Response t job.index c }

message_out : (host : HostState) (message : Message)
    → wire_of (record host { in_flight = with_sent host.in_flight message 1 }) ≡ sent message.endpoint (kind_seen message.kind) (wire_of host)
message_out host message = λ i. record (wire_of host) { in_flight = sent_seen host.in_flight message i; next_message = host.in_flight.next + 1 }

-- A job is turned down.

-- there is no number for the response, or no memory
pub unsent_down : (host : HostState) (v : Wire) (job : Job) (t : ℕ) (c : SentCode) (bag : InFlight) (x : Refusal) → wire_of host ≡ v
    → Sends host.in_flight job.unit (Response t job.index c) 1 (Err x) bag
    → Does (turned_down v (job_seen job) t (code_seen c)) v (Err x) (wire_of (record host { in_flight = bag }))
unsent_down host v job t c bag x view sends =
    subst (λ (w : Wire). Does (turned_down w (job_seen job) t (code_seen c)) w (Err x) (wire_of (record host { in_flight = bag }))) view
    (subst (λ (b : InFlight). Does (turned_down (wire_of host) (job_seen job) t (code_seen c)) (wire_of host) (Err x)
    (wire_of (record host { in_flight = b })))
    (sym (unsent_same host.in_flight bag job.unit (Response t job.index c) 1 x sends))
    (unsent host.in_flight bag job.unit (Response t job.index c) 1 x (wire_of host) _ sends))

pub sent_down : (host : HostState) (v : Wire) (job : Job) (t : ℕ) (c : SentCode) (bag : InFlight) → wire_of host ≡ v
    → Sends host.in_flight job.unit (Response t job.index c) 1 (Ok tt) bag
    → Does (turned_down v (job_seen job) t (code_seen c)) v (Ok (code_answer 0 (code_seen c))) (wire_of (record host { in_flight = bag }))
sent_down host v job t c bag view sends =
    subst (λ (w : Wire). Does (turned_down w (job_seen job) t (code_seen c)) w (Ok (code_answer 0 (code_seen c)))
    (wire_of (record host { in_flight = bag }))) view
    (subst (λ (d : Decision). Does d (wire_of host) (Ok (code_answer 0 (code_seen c))) (wire_of (record host { in_flight = bag })))
    (sym (sent_decided host.in_flight bag job.unit (Response t job.index c) 1 _ sends))
    (refl, left))
  where
    left : wire_of (record host { in_flight = bag }) ≡ moved (wire_of host) (Move.Respond (job_seen job) t (code_seen c))
    left =
        ap (λ (b : InFlight). wire_of (record host { in_flight = b })) sends.1
        ∙ message_out host (response_of job t c)
        ∙ sym (responds_leaves (wire_of host) (job_seen job) t (code_seen c) (none_filed host.ports.items job.unit))

-- A job succeeds.

abbrev asks_of_job : Job → List AskWire
asks_of_job job = map ask_seen job.asks

abbrev success_says : HostState → Job → (space pasid : ℕ) → outcomes.Result
success_says host job n t =
    says (answer.Success (length (success_maps (wire_of host) (job_seen job) n)))
    (success_maps (wire_of host) (job_seen job) n ++ Move.Respond (job_seen job) t SuccessCode ∷ [])

-- the memory refuses it
pub success_refused : (host : HostState) (v : Wire) (job : Job) (n t : ℕ) (x : Refusal) → wire_of host ≡ v
    → Err x ≡ may_map_all host.address_spaces n (asks_of_job job)
    → Does (succeeded v (job_seen job) n t) v (Err x) v
success_refused host v job n t x view is =
    subst (λ (w : Wire). Does (succeeded w (job_seen job) n t) w (Err x) w) view
    (refused_by tt (success_causes (pages_in (wire_of host) n) (wire_of host).places (asks_of_job job)) (numbers_spent host.in_flight.next 1 ∷ [])
    (success_says host job n t)
    (wire_of host) x (tt, (tt, (tt, tt))) (sym is))

-- it doesn't
by_numbers : (host : HostState) (job : Job) (n t : ℕ) → Ok tt ≡ may_map_all host.address_spaces n (asks_of_job job)
    → succeeded (wire_of host) (job_seen job) n t ≡ checked (numbers_spent host.in_flight.next 1 ∷ []) (success_says host job n t)
by_numbers host job n t may =
    passed tt tt (success_causes (pages_in (wire_of host) n) (wire_of host).places (asks_of_job job)) (numbers_spent host.in_flight.next 1 ∷ [])
    (success_says host job n t) (sym may)

abbrev by_test : outcomes.Result → Bool → Decision
by_test r b = if b then record { reply = Err refusal.NumbersSpent; moves = [] } else record { reply = Ok r.answer; moves = r.moves }

pub success_spent : (host : HostState) (v : Wire) (job : Job) (n t : ℕ) → wire_of host ≡ v → Ok tt ≡ may_map_all host.address_spaces n (asks_of_job job)
    → 2 ^ 63 ≤ host.in_flight.next
    → Does (succeeded v (job_seen job) n t) v (Err refusal.NumbersSpent) v
success_spent host v job n t view may over =
    subst (λ (w : Wire). Does (succeeded w (job_seen job) n t) w (Err refusal.NumbersSpent) w) view
    (subst (λ (d : Decision). Does d (wire_of host) (Err refusal.NumbersSpent) (wire_of host))
    (sym (by_numbers host job n t may ∙ ap (by_test (success_says host job n t)) (spent (2 ^ 63) host.in_flight.next over))) (refl, refl))

-- nothing refuses it
accepted : (host : HostState) (job : Job) (n t : ℕ) → Ok tt ≡ may_map_all host.address_spaces n (asks_of_job job) → host.in_flight.next < 2 ^ 63
    → succeeded (wire_of host) (job_seen job) n t ≡ record { reply = Ok (success_says host job n t).answer; moves = (success_says host job n t).moves }
accepted host job n t may under = by_numbers host job n t may ∙ ap (by_test (success_says host job n t)) (left_over (2 ^ 63) host.in_flight.next under)

-- there is no memory: nothing changes
without_memory : (host after : HostState) (v : Wire) (job : Job) (n t : ℕ) → wire_of host ≡ v → Ok tt ≡ may_map_all host.address_spaces n (asks_of_job job)
    → host.in_flight.next < 2 ^ 63 → wire_of after ≡ wire_of host
    → Does (succeeded v (job_seen job) n t) v (Err refusal.OutOfMemory) (wire_of after)
without_memory host after v job n t view may under same =
    subst (λ (w : Wire). Does (succeeded w (job_seen job) n t) w (Err refusal.OutOfMemory) (wire_of after)) view
    (subst (λ (d : Decision). Does d (wire_of host) (Err refusal.OutOfMemory) (wire_of after)) (sym (accepted host job n t may under)) (refl, same))

pub unmapped_all : (host : HostState) (v : Wire) (job : Job) (n t : ℕ) (after : AddressSpacesSeen) → wire_of host ≡ v
    → Ok tt ≡ may_map_all host.address_spaces n (asks_of_job job) → host.in_flight.next < 2 ^ 63 → after ≡ host.address_spaces
    → Does (succeeded v (job_seen job) n t) v (Err refusal.OutOfMemory) (wire_of (record host { address_spaces = after }))
unmapped_all host v job n t after view may under kept =
    without_memory host (record host { address_spaces = after }) v job n t view may under
    (ap (λ (m : AddressSpacesSeen). wire_of (record host { address_spaces = m })) kept)

sent_bag : (bag after : InFlight) (e : ℕ) (kind : Kind) (r : Result (Unit {0}) Refusal) → Sends bag e kind 1 r after → is_err r ≡ false
    → after ≡ with_sent bag (record { endpoint = e; kind = kind }) 1
sent_bag bag after e kind (Ok a) sends is = sends.1
sent_bag bag after e kind (Err x) sends is = absurd (cc (is))

pub taken_back_all : (host : HostState) (v : Wire) (job : Job) (n t : ℕ) (pages : List ℕ) (mapped after : AddressSpacesSeen) (bag : InFlight)
    (r : Result (Unit {0}) Refusal) → wire_of host ≡ v
    → Ok tt ≡ may_map_all host.address_spaces n (asks_of_job job) → host.in_flight.next < 2 ^ 63 → after ≡ taken_back mapped n pages
    → taken_back mapped n pages ≡ host.address_spaces
    → Sends host.in_flight job.unit (Response t job.index code.Success) 1 r bag → is_err r ≡ true
    → Does (succeeded v (job_seen job) n t) v (Err refusal.OutOfMemory) (wire_of (record host { address_spaces = after; in_flight = bag }))
taken_back_all host v job n t pages mapped after bag r view may under took back sends failed =
    without_memory host (record host { address_spaces = after; in_flight = bag }) v job n t view may under
    (λ i. wire_of (record host {
      address_spaces = (took ∙ back) i;
      in_flight = unsent_bag host.in_flight bag job.unit
          (Response t job.index code.Success) r sends failed i;
    }))

-- How many pages are mapped.

maps_length : (n : ℕ) (asks : List AskWire) (qs fs : List ℕ) → length qs ≤ length fs → length (maps_to n asks qs fs) ≡ length qs
maps_length n asks [] fs enough = refl
maps_length n asks (q ∷ qs) [] enough = absurd (omega (arith, enough))
maps_length n asks (q ∷ qs) (f ∷ fs) enough = ap suc (maps_length n asks qs fs (omega (arith, enough)))

is_fine : (host : HostState) (job : Job) (n : ℕ) → Ok tt ≡ may_map_all host.address_spaces n (asks_of_job job)
    → IsOk (may_map_all host.address_spaces n (asks_of_job job))
is_fine host job n may = subst (λ (r : Result (Unit {0}) Refusal). IsOk r) may refl

count_is : (host : HostState) (job : Job) (n : ℕ) (pages : List ℕ) → Ok tt ≡ may_map_all host.address_spaces n (asks_of_job job)
    → pages ≡ new_pages host.address_spaces n (asks_of_job job)
    → length pages ≡ length (success_maps (wire_of host) (job_seen job) n)
count_is host job n pages may is =
    ap length is
    ∙ sym (maps_length n (asks_of_job job) (new_pages host.address_spaces n (asks_of_job job)) (free_from 0 host.address_spaces.places)
    (frames_enough (pages_in (wire_of host) n) host.address_spaces.places (asks_of_job job) (is_fine host job n may)))

all_moved_last : (w : Wire) (ms : List Move) (m : Move) → all_moved w (ms ++ m ∷ []) ≡ moved (all_moved w ms) m
all_moved_last w [] m = refl
all_moved_last w (a ∷ ms) m = all_moved_last (moved w a) ms m

pub success_done : (host : HostState) (v : Wire) (job : Job) (n t k : ℕ) (pages : List ℕ) (after : AddressSpacesSeen)
    (bag : InFlight) (r : Result (Unit {0}) Refusal)
    → wire_of host ≡ v
    → Ok tt ≡ may_map_all host.address_spaces n (asks_of_job job) → host.in_flight.next < 2 ^ 63 → pages ≡ new_pages host.address_spaces n (asks_of_job job) → k
    ≡ length pages
    → AllMoves (maps_of host.address_spaces n (asks_of_job job)) host.address_spaces after
    → Sends host.in_flight job.unit (Response t job.index code.Success) 1 r bag → is_err r ≡ false
    → Does (succeeded v (job_seen job) n t) v (Ok (answer.Success k)) (wire_of (record host { address_spaces = after; in_flight = bag }))
success_done host v job n t k pages after bag r view may under are count maps sends worked =
    subst (λ (w : Wire). Does (succeeded w (job_seen job) n t) w (Ok (answer.Success k))
    (wire_of (record host { address_spaces = after; in_flight = bag }))) view
    (subst (λ (d : Decision). Does d (wire_of host) (Ok (answer.Success k)) (wire_of (record host { address_spaces = after; in_flight = bag })))
    (sym (accepted host job n t may under))
    (ap (λ (m : ℕ). Ok (answer.Success m)) (count ∙ count_is host job n pages may are), left))
  where
    left : wire_of (record host { address_spaces = after; in_flight = bag }) ≡ all_moved (wire_of host) (success_says host job n t).moves
    left =
        ap (λ (b : InFlight). wire_of (record host { address_spaces = after; in_flight = b }))
        (sent_bag host.in_flight bag job.unit (Response t job.index code.Success) r sends worked)
        ∙ message_out (record host { address_spaces = after }) (response_of job t code.Success)
        ∙ sym (responds_leaves (with_address_spaces (wire_of host) after) (job_seen job) t SuccessCode (none_filed host.ports.items job.unit))
        ∙ ap (λ (w : Wire). moved w (Move.Respond (job_seen job) t SuccessCode)) (maps (wire_of host) refl)
        ∙ sym (all_moved_last (wire_of host) (success_maps (wire_of host) (job_seen job) n) (Move.Respond (job_seen job) t SuccessCode))

-- Which response a job gets.

-- by the binding that was found, at an open unit
pub response_there : (v : Wire) (job : JobWire) (p : TableEntry) (d : Verdict) → binding_of v job.binding ≡ Some (binding_seen p)
    → (unit_of v job.endpoint).is_open ≡ true
    → response_to v job d ≡ response_by true (stage_or_quiet p.stage) d
response_there v job p d found is_open = λ i. response_for (is_open i) (found i) d

pub response_closed : (v : Wire) (job : JobWire) (d : Verdict) → (unit_of v job.endpoint).is_open ≡ false → response_to v job d ≡ None
response_closed v job d closed = ap (λ (b : Bool). response_for b (binding_of v job.binding) d) closed ∙ go (binding_of v job.binding)
  where
    go : (o : Option BindingWire) → response_for false o d ≡ None
    go None = refl
    go (Some b) = refl

pub no_response : (v : Wire) (job : JobWire) (d : Verdict) → binding_of v job.binding ≡ None → response_to v job d ≡ None
no_response v job d none = ap (λ (o : Option BindingWire). response_for (unit_of v job.endpoint).is_open o d) none

-- a response by what the job says of itself
pub named : (bag after : InFlight) (job : Job) (e i t : ℕ) (c : SentCode) (r : Result (Unit {0}) Refusal) → e ≡ job.unit → i ≡ job.index
    → Sends bag e (Response t i c) 1 r after
    → Sends bag job.unit (Response t job.index c) 1 r after
named bag after job e i t c r unit index sends = subst (λ (k : ℕ). Sends bag job.unit (Response t k c) 1 r after) index
    (subst (λ (k : ℕ). Sends bag k (Response t i c) 1 r after) unit sends)

-- what `?` gives back
pub does_err : (d : Decision) (w after : Wire) (r : Reply) (x : Refusal) → IsErr r × IsErrAnd r (λ y. y ≡ x) → Does d w (Err x) after → Does d w r after
does_err d w after r x answered is = subst (λ (a : Reply). Does d w a after) (sym (is_error r x answered)) is

-- the space of a job that is answered is there
pub space_there : (v : Wire) (job : JobWire) (d : Verdict) (r : Responding) → IsResponse v job d r
    → ((b : BindingWire) → binding_of v job.binding ≡ Some b → is_space v b.space ≡ true) → is_space v r.space ≡ true
space_there v job d r is there = ap (is_space v) (sym is.space) ∙ there is.binding is.found
