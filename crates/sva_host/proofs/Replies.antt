-- A worker answers the job that it holds.
use Rattle.std.proofs.Common.{◌≡◌, refl, ap, sym, ◌∙◌, subst, ℕ, suc, ◌+◌, ◌<◌, ◌≤◌, Bool, true, false, arith}
use Rattle.std.specs.Prelude.{◌&&◌, ◌||◌, ◌==◌, not, nat_lt, if◌then◌else◌, is_some, Ok, Err, IsOk, Option, Some, None, option_map, List, [], ◌∷◌, ◌++◌}
use Rattle.std.specs.Prelude.{length, filter, find, slice_get, slice_set, slice_index_or}
use Rattle.std.specs.List.{list_any}
use Rattle.std.proofs.lemmas.Bool.Decides.{nat_tests}
use Rattle.sva_step.specs.declared.answers.Answer.{Answer}
use Rattle.sva_step.specs.declared.answers.Answer.TheVariants as answer
use Rattle.sva_step.specs.declared.refusals.Refusal.{Refusal}
use Rattle.sva_step.specs.declared.refusals.Refusal.TheVariants as refusal
use Rattle.sva_step.specs.declared.steps.Step.TheVariants as step
use Rattle.sva_step.specs.declared.steps.Verdict.{Verdict}
use Rattle.sva_step.specs.declared.steps.Verdict.TheVariants as verdict
use Rattle.sva_model.specs.Message.{Code}
use Rattle.sva_model.specs.Message.Code.{SuccessCode, InvalidCode, FailureCode}
use Rattle.sva_model.specs.Message.Message.{ResponseMessage}
use Rattle.sva_model.specs.Outcomes.{code_answer}
use Rattle.sva_model.specs.Replies.{is_success}
use Rattle.sva_model.specs.Refusals.{Cause}
use Rattle.sva_model.specs.Steps.{Reply}
use Rattle.sva_model.specs.Wire.{Wire, EndpointWire, BindingWire, AskWire, HostGroupWire, JobWire}
use Rattle.sva_labels.specs.Finding.{idle, part_of, is_space, pages_in, free_from, binding_of, held_by}
use Rattle.sva_labels.specs.Replying.{is_write_asked, response_for, response_to, responds, replies_success, space_of_job, newly_mapped}
use Rattle.sva_labels.specs.Replying.{is_write_of_read_only}
use Rattle.sva_labels.specs.Causes.{lacks, reply_causes}
use Rattle.sva_labels.specs.Host.{Decision, checked, decide_of, reply_of}
use Rattle.sva_labels.specs.Moves.{Move, moved, all_moved, sent, is_of_job, pasid_or_0}
use Rattle.sva_labels.specs.Outcomes.{Result, maps_to, reply_maps, reply_by, reply_result}
use Rattle.sva_labels.specs.Sound.{IsSound, IsJob}
use Rattle.sva_labels.specs.Sound.{HaveSpaces}
use Rattle.sva_labels.specs.Waiting.{waiting}
use Rattle.sva_labels.proofs.Waiting.{arrives, moves_kept}
use Rattle.sva_host_state.specs.Replying.{responded_by, responded_of}
use Rattle.sva_host_state.specs.Steps.{Does, ByLabels}
use Rattle.sva_prq.specs.Job.{Job}
use Rattle.sva_prq.specs.JobTable.{JobTable, no_jobs, hand, after_answer, after_answer_of}
use Rattle.sva_parts_by_labels.specs.JobTable.{job_seen, groups_seen, hands_seen}
use Rattle.sva_parts_by_labels.specs.JobTableLaws.{AnswerIsSeen}
use Rattle.sva_parts_by_labels.proofs.JobTableJobs.{job_table_is_seen}
use Rattle.sva_parts_by_labels.proofs.JobTableAnswers.{job_table_answers}
use Rattle.sva_parts_by_labels.proofs.JobTableFiling.{sound_is_kept}
use Rattle.sva_host.specs.Seen.{JobTableWire, parts_with, job_table_seen, serving, with_job_table}
use Rattle.sva_host.specs.Inner.{wire_of, AreHoused, IsHost}
use Rattle.sva_host.specs.declared.host.Host.TheInside.{Inside}
use Rattle.sva_host.proofs.Parts.{length_with, part_with, device_with, unit_with, page_queue_with, set_with}
use Rattle.sva_host.proofs.Changes.{LeaveJobTable, all_moved_with}
use Rattle.sva_host.proofs.Hosting.{moves_nothing}
use Rattle.sva_host.proofs.Resetting.{accepted}
use Rattle.sva_host.proofs.Takes.{worker_there}
use Rattle.sva_host.proofs.Housed.{housed_still, housed_answered}
use Rattle.sva_host_state.proofs.Responses.{responds_none}

-- The job, and what is decided of it.

response_with : (job_table : JobTableWire) (w : Wire) (job : JobWire) (v : Verdict) → response_to (serving job_table w) job v ≡ response_to w job v
response_with job_table w job v = λ i. response_for (unit_with job_table.groups w.parts job.endpoint i).is_open (binding_of w job.binding) v

causes_with : (job_table : JobTableWire) (w : Wire) (job : JobWire) (v : Verdict)
    → reply_causes (serving job_table w) v (Some job) ≡ reply_causes w v (Some job)
causes_with job_table w job v =
    λ i. (is_success (response_with job_table w job v i) && is_write_of_read_only w job, refusal.BadVerdict)
    ∷ (is_success (response_with job_table w job v i) && nat_lt (length (free_from 0 w.places)) (length (newly_mapped w job)), refusal.NoFrame)
    ∷ (
      is_success (response_with job_table w job v i) && nat_lt 1024 (length (pages_in w (space_of_job w job)) + length (newly_mapped w job)),
      refusal.SpaceFull,
    )
    ∷ (is_some (response_with job_table w job verdict.Invalid i) && lacks w.next_message 1, refusal.NumbersSpent)
    ∷ []

maps_with : (job_table : JobTableWire) (w : Wire) (job : JobWire) (v : Verdict) → reply_maps (serving job_table w) job v ≡ reply_maps w job v
maps_with job_table w job v =
    λ i. if is_success (response_with job_table w job v i) then maps_to (space_of_job w job) job.asks (newly_mapped w job) (free_from 0 w.places) else []

by_with : (job_table : JobTableWire) (w : Wire) (x : ℕ) (job : JobWire) (maps : List Move) (o : Option Code)
    → reply_by (serving job_table w) x job maps o ≡ reply_by w x job maps o
by_with job_table w x job maps None = refl
by_with job_table w x job maps (Some code) = refl

decides : (host : Inside) (x : ℕ) (job : JobWire) (v : Verdict) → nat_lt x (length (wire_of host).hands) ≡ true → held_by (wire_of host) x ≡ Some job
    → decide_of (wire_of host) (step.Reply x v)
    ≡ checked (reply_causes host.state v (Some job)) (reply_by host.state x job (reply_maps host.state job v) (response_to host.state job v))
decides host x job v there held =
    (λ i. checked ((not (there i), refusal.NoSuchWorker) ∷ reply_causes (wire_of host) v (held i)) (reply_result (wire_of host) x v (held i)))
    ∙ (λ i. checked (causes_with job_table host.state job v i)
    (reply_by (wire_of host) x job (maps_with job_table host.state job v i) (response_with job_table host.state job v i)))
    ∙ (λ i. checked (reply_causes host.state v (Some job))
    (by_with job_table host.state x job (reply_maps host.state job v) (response_to host.state job v) i))
  where
    job_table : JobTableWire
    job_table = job_table_seen host.workers host.job_table

-- the reply is the same as that of the host alone
same_answer : (w : Wire) (x : ℕ) (job : JobWire) (maps : List Move) (o : Option Code) → (reply_by w x job maps o).answer ≡ (responded_by w job maps o).answer
same_answer w x job maps None = refl
same_answer w x job maps (Some code) = refl

same_reply : (causes : List Cause) (r t : Result) → r.answer ≡ t.answer → (checked causes r).reply ≡ (checked causes t).reply
same_reply [] r t same = ap (λ (a : Answer). Ok a) same
same_reply (cause ∷ causes) r t same = go cause.0 (same_reply causes r t same)
  where
    go : (b : Bool) → (checked causes r).reply ≡ (checked causes t).reply
        → (if b then record { reply = Err cause.1; moves = [] } else checked causes r).reply
        ≡ (if b then record { reply = Err cause.1; moves = [] } else checked causes t).reply
    go true rest = refl
    go false rest = rest

-- What the host moves.

maps_leave : (n : ℕ) (asks : List AskWire) (qs fs : List ℕ) → LeaveJobTable (maps_to n asks qs fs)
maps_leave n asks [] fs = tt
maps_leave n asks (q ∷ qs) [] = tt
maps_leave n asks (q ∷ qs) (f ∷ fs) = (tt, maps_leave n asks qs fs)

none_arrive : (n : ℕ) (asks : List AskWire) (qs fs : List ℕ) (m : Move) → arrives m ≡ false → list_any arrives (maps_to n asks qs fs ++ m ∷ []) ≡ false
none_arrive n asks [] fs m none = ap (λ (b : Bool). b || false) none
none_arrive n asks (q ∷ qs) [] m none = ap (λ (b : Bool). b || false) none
none_arrive n asks (q ∷ qs) (f ∷ fs) m none = none_arrive n asks qs fs m none

maps_keep_parts : (w : Wire) (n : ℕ) (asks : List AskWire) (qs fs : List ℕ) → (all_moved w (maps_to n asks qs fs)).parts ≡ w.parts
maps_keep_parts w n asks [] fs = refl
maps_keep_parts w n asks (q ∷ qs) [] = refl
maps_keep_parts w n asks (q ∷ qs) (f ∷ fs) = maps_keep_parts (moved w (Move.Map n q f (is_write_asked asks q))) n asks qs fs

-- maps of pages, as a reply has them
record AreMaps (maps : List Move) : Type 0 where
  leave : LeaveJobTable maps
  arrive : (m : Move) → arrives m ≡ false → list_any arrives (maps ++ m ∷ []) ≡ false
  parts : (w : Wire) → (all_moved w maps).parts ≡ w.parts

are_maps : (w : Wire) (job : JobWire) (v : Verdict) → AreMaps (reply_maps w job v)
are_maps w job v = go (replies_success w job v)
  where
    go : (b : Bool) → AreMaps (if b then maps_to (space_of_job w job) job.asks (newly_mapped w job) (free_from 0 w.places) else [])
    go true =
        record {
          leave = maps_leave (space_of_job w job) job.asks (newly_mapped w job) (free_from 0 w.places);
          arrive = none_arrive (space_of_job w job) job.asks (newly_mapped w job) (free_from 0 w.places);
          parts = λ u. maps_keep_parts u (space_of_job w job) job.asks (newly_mapped w job) (free_from 0 w.places);
        }
    go false = record { leave = tt; arrive = λ m none. ap (λ (b : Bool). b || false) none; parts = λ u. refl }

then_moved : (w : Wire) (ms ns : List Move) → all_moved w (ms ++ ns) ≡ all_moved (all_moved w ms) ns
then_moved w [] ns = refl
then_moved w (m ∷ ms) ns = then_moved (moved w m) ms ns

-- What the table of jobs leaves.

abbrev pub responded_part : JobWire → EndpointWire → EndpointWire
responded_part job p = record p { host_groups = filter (λ g. not (is_of_job job g)) p.host_groups }

respond_parts : (groups others : ℕ → List HostGroupWire) (w : Wire) (job : JobWire) → job.endpoint < length w.parts
    → others job.endpoint ≡ filter (λ g. not (is_of_job job g)) (groups job.endpoint)
    → ((e : ℕ) → (e == job.endpoint) ≡ false → others e ≡ groups e)
    → parts_with others (slice_set w.parts job.endpoint (responded_part job (part_of w job.endpoint)))
    ≡ slice_set (parts_with groups w.parts) job.endpoint (responded_part job (slice_index_or (parts_with groups w.parts) job.endpoint idle))
respond_parts groups others w job there here apart =
    set_with groups others w.parts job.endpoint (responded_part job (part_of w job.endpoint)) apart
    ∙ (λ i. slice_set (parts_with groups w.parts) job.endpoint
    (record {
      device = sym (device_with groups w.parts job.endpoint) i;
      unit = sym (unit_with groups w.parts job.endpoint) i;
      page_queue = sym (page_queue_with groups w.parts job.endpoint) i;
      host_groups =
          (here ∙ sym (ap (λ (p : EndpointWire). filter (λ g. not (is_of_job job g)) p.host_groups) (part_with groups w.parts job.endpoint there))) i;
    }))

-- the worker that answers, and the job in its hand
pub record IsHeld (host : Inside) (x : ℕ) (job : Job) : Type 0 where
  pub worker : x < host.workers
  pub held : hand host.job_table x ≡ Some job

seen_held : (host : Inside) (x : ℕ) (job : Job) → IsHeld host x job → held_by (wire_of host) x ≡ Some (job_seen job)
seen_held host x job is = (job_table_is_seen.taken host.job_table x).held host.workers is.worker ∙ ap (option_map job_seen) is.held

seen_there : (host : Inside) (x : ℕ) (job : Job) → IsHost host → IsHeld host x job → nat_lt x (length (wire_of host).hands) ≡ true
seen_there host x job h is = worker_there host x h ∙ below (is.worker)
  where
    below : x < host.workers → nat_lt x host.workers ≡ true
    below less = grind (arith, nat_tests, less)

-- the group of the job is closed, its hand is empty, and the response is on its way
respond_with : (workers : ℕ) (s : JobTable) (x : ℕ) (job : Job) (w : Wire) (t : ℕ) (code : Code) → AnswerIsSeen s x job → job.unit < length w.parts
    → moved (record (with_job_table workers s w) { hands = slice_set (hands_seen workers s) x None }) (Move.Respond (job_seen job) t code)
    ≡ with_job_table workers (after_answer s x) (moved w (Move.Respond (job_seen job) t code))
respond_with workers s x job w t code seen there =
    λ i. sent job.unit (ResponseMessage t job.index code)
    (record w { parts = sym parts i; jobs = sym (job_table_answers.jobs s x) i; hands = sym (job_table_answers.hands workers s x) i })
  where
    parts : parts_with (λ e. groups_seen e (after_answer s x).groups) (slice_set w.parts job.unit (responded_part (job_seen job) (part_of w job.unit)))
        ≡ slice_set (with_job_table workers s w).parts job.unit (responded_part (job_seen job) (part_of (with_job_table workers s w) job.unit))
    parts = respond_parts (λ e. groups_seen e s.groups) (λ e. groups_seen e (after_answer s x).groups) w (job_seen job) there seen.answered seen.others

responded : (workers : ℕ) (s : JobTable) (x : ℕ) (job : Job) (w : Wire) (maps : List Move) (t : ℕ) (code : Code) → AnswerIsSeen s x job → AreMaps maps
    → job.unit < length w.parts
    → with_job_table workers (after_answer s x) (all_moved w (maps ++ Move.Respond (job_seen job) t code ∷ []))
    ≡ all_moved (with_job_table workers s w) (maps ++ Move.LetGo x ∷ Move.Respond (job_seen job) t code ∷ [])
responded workers s x job w maps t code seen are there =
    ap (with_job_table workers (after_answer s x)) (then_moved w maps (Move.Respond (job_seen job) t code ∷ []))
    ∙ sym (respond_with workers s x job (all_moved w maps) t code seen (subst (λ (ps : List EndpointWire). job.unit < length ps) (sym (are.parts w)) there))
    ∙ sym (ap (λ (v : Wire). all_moved v (Move.LetGo x ∷ Move.Respond (job_seen job) t code ∷ [])) (all_moved_with (job_table_seen workers s) w maps are.leave))
    ∙ sym (then_moved (with_job_table workers s w) maps (Move.LetGo x ∷ Move.Respond (job_seen job) t code ∷ []))

-- nothing is sent where no group of the job is open any more
dropped : (workers : ℕ) (s : JobTable) (x : ℕ) (w : Wire) → ((e : ℕ) → groups_seen e (after_answer s x).groups ≡ groups_seen e s.groups)
    → with_job_table workers (after_answer s x) w ≡ record (with_job_table workers s w) { hands = slice_set (hands_seen workers s) x None }
dropped workers s x w same =
    λ i. record w { parts = parts_with (λ e. same e i) w.parts; jobs = job_table_answers.jobs s x i; hands = job_table_answers.hands workers s x i }

-- where no response is sent, none would be, whatever is decided

answer_seen : (host : Inside) (x : ℕ) (job : Job) → IsHost host → IsHeld host x job → AnswerIsSeen host.job_table x job
answer_seen host x job h is = job_table_answers.groups host.workers host.job_table x job h.sound is.held

job_is : (host : Inside) (x : ℕ) (job : Job) → IsSound (wire_of host) → IsHeld host x job → IsJob (wire_of host) (job_seen job)
job_is host x job sound is = sound.jobs_held x (job_seen job) (seen_held host x job is)

unit_there : (host : Inside) (x : ℕ) (job : Job) → IsSound (wire_of host) → IsHeld host x job → job.unit < length host.state.parts
unit_there host x job sound is =
    subst (λ (n : ℕ). job.unit < n) (length_with (job_table_seen host.workers host.job_table).groups host.state.parts)
    (job_is host x job sound is).endpoint_low

-- a job that gets no response has no open group
closed : (host : Inside) (x : ℕ) (job : Job) (v : Verdict) → IsSound (wire_of host) → IsHeld host x job
    → response_to host.state (job_seen job) v ≡ None
    → list_any (is_of_job (job_seen job)) (groups_seen job.unit host.job_table.groups) ≡ false
closed host x job v sound is none =
    sym (ap (λ (p : EndpointWire). list_any (is_of_job (job_seen job)) p.host_groups)
    (part_with (job_table_seen host.workers host.job_table).groups host.state.parts job.unit (unit_there host x job sound is)))
    ∙ sound.dropped_closed x (job_seen job) (seen_held host x job is)
    (responds_none (wire_of host) (job_seen job) v (response_with (job_table_seen host.workers host.job_table) host.state (job_seen job) v ∙ none))

after_reply : (host : Inside) (x : ℕ) (job : Job) (v : Verdict) (o : Option Code) → IsHost host → IsSound (wire_of host) → IsHeld host x job
    → response_to host.state (job_seen job) v ≡ o
    → with_job_table host.workers (after_answer host.job_table x)
    (all_moved host.state (responded_by host.state (job_seen job) (reply_maps host.state (job_seen job) v) o).moves)
    ≡ all_moved (wire_of host) (reply_by host.state x (job_seen job) (reply_maps host.state (job_seen job) v) o).moves
after_reply host x job v None h sound is none =
    dropped host.workers host.job_table x host.state ((answer_seen host x job h is).dropped (closed host x job v sound is none))
after_reply host x job v (Some code) h sound is some =
    responded host.workers host.job_table x job host.state (reply_maps host.state (job_seen job) v) (pasid_or_0 (binding_of host.state job.binding)) code
    (answer_seen host x job h is) (are_maps host.state (job_seen job) v) (unit_there host x job sound is)

-- The step.

pub reply_done : (host : Inside) (w : Wire) (x : ℕ) (job : Job) (v : Verdict) (a : Answer) (after : Wire) (left : JobTable) → wire_of host ≡ w
    → IsHost host → IsSound (wire_of host) → IsHeld host x job
    → Does (responded_of host.state (job_seen job) v) host.state (Ok a) after → left ≡ after_answer host.job_table x
    → ByLabels w (step.Reply x v) (Ok a) (wire_of (record host { state = after; job_table = left }))
reply_done host w x job v a after left view h sound is does lets =
    subst (λ (u : Wire). ByLabels u (step.Reply x v) (Ok a) (wire_of (record host { state = after; job_table = left }))) view
    (subst (λ (d : Decision). Does d (wire_of host) (Ok a) (wire_of (record host { state = after; job_table = left })))
    (sym (decides host x (job_seen job) v (seen_there host x job h is) (seen_held host x job is))) (
      says,
      (λ i. with_job_table host.workers (lets i) (moves i))
          ∙ after_reply host x job v (response_to host.state (job_seen job) v) h sound is refl
          ∙ sym (ap (all_moved (wire_of host))
          (accepted (reply_causes host.state v (Some (job_seen job)))
          (reply_by host.state x (job_seen job) (reply_maps host.state (job_seen job) v) (response_to host.state (job_seen job) v)) a says)),
    ))
  where
    says : Ok a
        ≡ (checked (reply_causes host.state v (Some (job_seen job)))
        (reply_by host.state x (job_seen job) (reply_maps host.state (job_seen job) v) (response_to host.state (job_seen job) v))).reply
    says =
        does.0
        ∙ sym (same_reply (reply_causes host.state v (Some (job_seen job)))
        (reply_by host.state x (job_seen job) (reply_maps host.state (job_seen job) v) (response_to host.state (job_seen job) v))
        (responded_by host.state (job_seen job) (reply_maps host.state (job_seen job) v) (response_to host.state (job_seen job) v))
        (same_answer host.state x (job_seen job) (reply_maps host.state (job_seen job) v) (response_to host.state (job_seen job) v)))

    moves : after ≡ all_moved host.state
        (responded_by host.state (job_seen job) (reply_maps host.state (job_seen job) v) (response_to host.state (job_seen job) v)).moves
    moves =
        does.1
        ∙ ap (all_moved host.state)
        (accepted (reply_causes host.state v (Some (job_seen job)))
        (responded_by host.state (job_seen job) (reply_maps host.state (job_seen job) v) (response_to host.state (job_seen job) v)) a does.0)

-- a reply that is refused
unanswered : (host : Inside) (job : JobWire) (v : Verdict) (y : Refusal) (after : Wire)
    → Does (responded_of host.state job v) host.state (Err y) after → after ≡ host.state
unanswered host job v refusal.OutOfMemory after does = does.1
unanswered host job v _ after does =
    does.1
    ∙ ap (all_moved host.state)
    (moves_nothing (reply_causes host.state v (Some job))
    (responded_by host.state job (reply_maps host.state job v) (response_to host.state job v)) _ (sym does.0))

refused_alike : (d e : Decision) (w v after : Wire) (y : Refusal) → d.reply ≡ e.reply → (e.reply ≡ Err y → e.moves ≡ []) → Does d w (Err y) after
    → Does e v (Err y) v
refused_alike d e w v after refusal.OutOfMemory same nothing does = (subst IsOk same does.0, refl)
refused_alike d e w v after _ same nothing does = (does.0 ∙ same, sym (ap (all_moved v) (nothing (sym same ∙ sym does.0))))

pub reply_refused : (host : Inside) (x : ℕ) (job : Job) (v : Verdict) (y : Refusal) (after : Wire) → IsHost host → IsHeld host x job
    → Does (responded_of host.state (job_seen job) v) host.state (Err y) after
    → ByLabels (wire_of host) (step.Reply x v) (Err y) (wire_of (record host { state = after }))
reply_refused host x job v y after h is does =
    subst (λ (u : Wire). ByLabels (wire_of host) (step.Reply x v) (Err y) (wire_of (record host { state = u })))
    (sym (unanswered host (job_seen job) v y after does))
    (subst (λ (d : Decision). Does d (wire_of host) (Err y) (wire_of host))
    (sym (decides host x (job_seen job) v (seen_there host x job h is) (seen_held host x job is)))
    (refused_alike (responded_of host.state (job_seen job) v)
    (checked (reply_causes host.state v (Some (job_seen job)))
    (reply_by host.state x (job_seen job) (reply_maps host.state (job_seen job) v) (response_to host.state (job_seen job) v)))
    host.state (wire_of host) after y
    (sym (same_reply (reply_causes host.state v (Some (job_seen job)))
    (reply_by host.state x (job_seen job) (reply_maps host.state (job_seen job) v) (response_to host.state (job_seen job) v))
    (responded_by host.state (job_seen job) (reply_maps host.state (job_seen job) v) (response_to host.state (job_seen job) v))
    (same_answer host.state x (job_seen job) (reply_maps host.state (job_seen job) v) (response_to host.state (job_seen job) v))))
    (moves_nothing (reply_causes host.state v (Some (job_seen job)))
    (reply_by host.state x (job_seen job) (reply_maps host.state (job_seen job) v) (response_to host.state (job_seen job) v)) y)
    does))

pub reply_kept : (host : Inside) (job : JobWire) (v : Verdict) (y : Refusal) (after : Wire) → IsHost host
    → Does (responded_of host.state job v) host.state (Err y) after
    → IsHost (record host { state = after })
reply_kept host job v y after h does = subst (λ (w : Wire). IsHost (record host { state = w })) (sym (unanswered host job v y after does)) h

-- One that is dropped sends nothing.

answered_by : (causes : List Cause) (r : Result) (a : Answer) → (checked causes r).reply ≡ Ok a → r.answer ≡ a
answered_by [] r a is = cc
answered_by (cause ∷ causes) r a is = go cause.0 (answered_by causes r a) is
  where
    go : (b : Bool) → ((checked causes r).reply ≡ Ok a → r.answer ≡ a)
        → (if b then record { reply = Err cause.1; moves = [] } else checked causes r).reply ≡ Ok a → r.answer ≡ a
    go true rest is = absurd (wrong is)
      where
        wrong : ◌≡◌ {A = Reply} (Err cause.1) (Ok a) → ⊥
        wrong h = cc
    go false rest is = rest is

never_dropped : (n : ℕ) (code : Code) → code_answer n code ≡ answer.Dropped → ⊥
never_dropped n SuccessCode is = cc
never_dropped n InvalidCode is = cc
never_dropped n FailureCode is = cc

no_response : (w : Wire) (x : ℕ) (job : JobWire) (maps : List Move) (o : Option Code) → (reply_by w x job maps o).answer ≡ answer.Dropped → o ≡ None
no_response w x job maps None is = refl
no_response w x job maps (Some code) is = absurd (never_dropped (length maps) code is)

pub sends_none : (host : Inside) (w : Wire) (x : ℕ) (job : Job) (v : Verdict) → wire_of host ≡ w → IsHost host → IsHeld host x job
    → reply_of w (step.Reply x v) ≡ Ok answer.Dropped → responds host.state (job_seen job) ≡ false
sends_none host w x job v view h is drops =
    responds_none host.state (job_seen job) v
    (no_response host.state x (job_seen job) (reply_maps host.state (job_seen job) v) (response_to host.state (job_seen job) v)
    (answered_by (reply_causes host.state v (Some (job_seen job)))
    (reply_by host.state x (job_seen job) (reply_maps host.state (job_seen job) v) (response_to host.state (job_seen job) v)) answer.Dropped
    (sym (ap (λ (d : Decision). d.reply) (decides host x (job_seen job) v (seen_there host x job h is) (seen_held host x job is)))
    ∙ ap (λ (u : Wire). reply_of u (step.Reply x v)) view ∙ drops)))

-- What the host asks for.

pub job_alone : (host : Inside) (x : ℕ) (job : Job) → IsSound (wire_of host) → IsHeld host x job → IsJob host.state (job_seen job)
job_alone host x job sound is =
    let there = job_is host x job sound is in
    record {
      endpoint_low = unit_there host x job sound is;
      index_low = there.index_low;
      asks_some = there.asks_some;
      asks_few = there.asks_few;
      at_home = there.at_home;
    }

found_at : (n : ℕ) (bindings : List BindingWire) (b : BindingWire) → find (λ (x : BindingWire). x.binding == n) bindings ≡ Some b
    → (k : ℕ) × (slice_get bindings k ≡ Some b)
found_at n [] b is = absurd (cc (is))
found_at n (x ∷ bindings) b is = go (x.binding == n) is (found_at n bindings b)
  where
    go : (c : Bool) → (if c then Some x else find (λ (y : BindingWire). y.binding == n) bindings) ≡ Some b
        → (find (λ (y : BindingWire). y.binding == n) bindings ≡ Some b → (k : ℕ) × (slice_get bindings k ≡ Some b))
        → (k : ℕ) × (slice_get (x ∷ bindings) k ≡ Some b)
    go true is rest = (0, is)
    go false is rest = let later = rest is in (suc later.0, later.1)

pub space_there : (host : Inside) (n : ℕ) → HaveSpaces (wire_of host) → (b : BindingWire) → binding_of host.state n ≡ Some b
    → is_space host.state b.space ≡ true
space_there host n have b found = let at = found_at n host.state.bindings b found in have at.0 b at.1

-- What stays so.

respond_apart : (none : JobTableWire) (w : Wire) (job : JobWire) (t : ℕ) (code : Code) → ((e : ℕ) → none.groups e ≡ []) → job.endpoint < length w.parts
    → moved (serving none w) (Move.Respond job t code) ≡ serving none (moved w (Move.Respond job t code))
respond_apart none w job t code empty there =
    λ i. sent job.endpoint (ResponseMessage t job.index code) (record w { parts = sym parts i; jobs = none.jobs; hands = none.hands })
  where
    parts : parts_with none.groups (slice_set w.parts job.endpoint (responded_part job (part_of w job.endpoint)))
        ≡ slice_set (serving none w).parts job.endpoint (responded_part job (part_of (serving none w) job.endpoint))
    parts =
        respond_parts none.groups none.groups w job there (empty job.endpoint ∙ sym (ap (filter (λ g. not (is_of_job job g))) (empty job.endpoint)))
        (λ e apart. refl)

apart_after : (none : JobTableWire) (w : Wire) (job : JobWire) (maps : List Move) (o : Option Code) → ((e : ℕ) → none.groups e ≡ []) → AreMaps maps
    → job.endpoint < length w.parts
    → w ≡ serving none w → all_moved w (responded_by w job maps o).moves ≡ serving none (all_moved w (responded_by w job maps o).moves)
apart_after none w job maps None empty are there apart = apart
apart_after none w job maps (Some code) empty are there apart =
    then_moved w maps (last ∷ [])
    ∙ ap (λ (u : Wire). moved (all_moved u maps) last) apart
    ∙ ap (λ (u : Wire). moved u last) (all_moved_with none w maps are.leave)
    ∙ respond_apart none (all_moved w maps) job (pasid_or_0 (binding_of w job.binding)) code empty
    (subst (λ (ps : List EndpointWire). job.endpoint < length ps) (sym (are.parts w)) there)
    ∙ sym (ap (serving none) (then_moved w maps (last ∷ [])))
  where
    last : Move
    last = Move.Respond job (pasid_or_0 (binding_of w job.binding)) code

waits_less : (w : Wire) (job : JobWire) (maps : List Move) (o : Option Code) → AreMaps maps
    → waiting (all_moved w (responded_by w job maps o).moves) + w.next_message ≤ waiting w + (all_moved w (responded_by w job maps o).moves).next_message
waits_less w job maps None are = omega arith
waits_less w job maps (Some code) are =
    let same = moves_kept (maps ++ Move.Respond job (pasid_or_0 (binding_of w job.binding)) code ∷ []) w
    (are.arrive (Move.Respond job (pasid_or_0 (binding_of w job.binding)) code) refl) in
    omega (arith, same)

next_same : (s : JobTable) (x : ℕ) (job : Job) → hand s x ≡ Some job → (after_answer s x).groups.next ≡ s.groups.next
next_same s x job held = ap (λ (o : Option Job). (after_answer_of s x o).groups.next) held

pub reply_still : (host : Inside) (x : ℕ) (job : Job) (v : Verdict) (a : Answer) (after : Wire) (left : JobTable) → IsHost host
    → IsSound (wire_of host) → IsHeld host x job
    → Does (responded_of host.state (job_seen job) v) host.state (Ok a) after → left ≡ after_answer host.job_table x
    → IsHost (record host { state = after; job_table = left })
reply_still host x job v a after left h sound is does lets =
    subst IsHost (λ i. record host { state = sym moves i; job_table = sym lets i })
    (record {
      apart =
          apart_after (job_table_seen host.workers no_jobs) host.state (job_seen job) (reply_maps host.state (job_seen job) v)
          (response_to host.state (job_seen job) v) (λ e. refl)
          (are_maps host.state (job_seen job) v) (unit_there host x job sound is) h.apart;
      few = h.few;
      sound = sound_is_kept.answered host.workers host.job_table x h.sound;
      serials =
          omega (
            arith,
            h.serials,
            next_same host.job_table x job is.held,
            waits_less host.state (job_seen job) (reply_maps host.state (job_seen job) v) (response_to host.state (job_seen job) v)
                (are_maps host.state (job_seen job) v),
          );
      housed =
          subst (λ (w : Wire). AreHoused w (after_answer host.job_table x)) moves
          (housed_still (responded_of host.state (job_seen job) v) host.state after (Ok a) (after_answer host.job_table x)
          (housed_answered host.state host.workers host.job_table x job h.sound is.held h.housed) does);
    })
  where
    moves : after ≡ all_moved host.state
        (responded_by host.state (job_seen job) (reply_maps host.state (job_seen job) v) (response_to host.state (job_seen job) v)).moves
    moves =
        does.1
        ∙ ap (all_moved host.state)
        (accepted (reply_causes host.state v (Some (job_seen job)))
        (responded_by host.state (job_seen job) (reply_maps host.state (job_seen job) v) (response_to host.state (job_seen job) v)) a does.0)
