-- A page request is filed.
use Rattle.std.proofs.Common.{◌≡◌, refl, ap, sym, ◌∙◌, subst, ℕ, ◌+◌, ◌<◌, ◌≤◌, Bool, true, false, arith}
use Rattle.std.specs.Prelude.{not, nat_lt, if◌then◌else◌, is_some, is_err, Ok, Err, IsOk, OnOk, OnErr, Result, Option, Some, None, option_map, List, []}
use Rattle.std.specs.Prelude.{◌∷◌, ◌++◌, length, find, drop, slice_get, slice_set}
use Rattle.std.specs.List.{list_any, sum_by}
use Rattle.std.proofs.lemmas.Bool.{ltb-true}
use Rattle.std.proofs.lemmas.List.{length-set}
use Rattle.sva_step.specs.declared.answers.Answer.{Answer}
use Rattle.sva_step.specs.declared.answers.Answer.TheVariants as answer
use Rattle.sva_step.specs.declared.refusals.Refusal.{Refusal}
use Rattle.sva_step.specs.declared.refusals.Refusal.TheVariants as refusal
use Rattle.sva_step.specs.declared.steps.Step.TheVariants as step
use Rattle.sva_model.specs.Refusals.{Cause, unless_refused}
use Rattle.sva_model.specs.Steps.{Reply}
use Rattle.sva_model.specs.Wire.{Wire, EndpointWire, BindingWire, PageRequestWire}
use Rattle.sva_labels.specs.Finding.{part_of, bearer}
use Rattle.sva_labels.specs.Causes.{resetting, causes_of}
use Rattle.sva_labels.specs.Host.{Decision, checked, decide_of}
use Rattle.sva_labels.specs.Moves.{Move, moved, all_moved, with_part, is_begun}
use Rattle.sva_labels.specs.Moves as moves
use Rattle.sva_labels.specs.Outcomes.{file_result, serve_result, job_of, binding_or_0, asks_of, result_of}
use Rattle.sva_labels.specs.Sound.{IsSound, HasNoJob}
use Rattle.sva_labels.specs.Waiting.{waiting}
use Rattle.sva_labels.proofs.Waiting.{file_counted}
use Rattle.sva_host_state.specs.Steps.{Does, ByLabels, MayStep}
use Rattle.sva_host_state.proofs.Deciding.{refused_by, passed}
use Rattle.sva_msg.specs.declared.messages.PageRequest.{PageRequest}
use Rattle.sva_prq.specs.Groups.{is_collecting}
use Rattle.sva_prq.specs.JobTable.{JobTable, CanFile, no_jobs, with_room, filed}
use Rattle.sva_parts_by_labels.specs.JobTable.{groups_seen, jobs_seen, hands_seen, FilingIsSeen}
use Rattle.sva_msg.specs.Seen.{page_request_seen}
use Rattle.sva_parts_by_labels.specs.JobTableLaws.{BeginsAnew}
use Rattle.sva_parts_by_labels.proofs.JobTableJobs.{job_table_is_seen}
use Rattle.sva_parts_by_labels.proofs.JobTablePermits.{filing_is_permitted}
use Rattle.sva_parts_by_labels.proofs.JobTableFiling.{sound_is_kept}
use Rattle.sva_host.specs.Seen.{JobTableWire, parts_with, job_table_seen, serving, with_job_table}
use Rattle.sva_host.specs.Inner.{wire_of, IsHost}
use Rattle.sva_host.specs.declared.host.Host.TheInside.{Inside}
use Rattle.sva_host.proofs.Parts.{length_with, part_with, unit_with, page_queue_with, device_with, set_with}
use Rattle.sva_host.proofs.Changes.{part_changed}
use Rattle.sva_host.proofs.Housed.{housed_filed}
use Rattle.sva_host.proofs.Decisions.{there_with, resetting_with}
use Rattle.sva_host.proofs.Advances.{queued_with}

-- What is asked of the unit.

causes_with : (job_table : JobTableWire) (w : Wire) (e : ℕ) → causes_of (serving job_table w) (step.Serve e) ≡ causes_of w (step.Serve e)
causes_with job_table w e = λ i. there_with job_table w e i ∷ resetting_with job_table w e i ∷ []

pub serve_refused : (host : Inside) (e : ℕ) (x : Refusal) → MayStep host.state (step.Serve e) (Err x)
    → ByLabels (wire_of host) (step.Serve e) (Err x) (wire_of host)
serve_refused host e x may =
    refused_by (tt {0}) (causes_of (wire_of host) (step.Serve e)) [] (result_of (wire_of host) (step.Serve e)) (wire_of host) x (tt, (tt, tt))
    (ap (λ (causes : List Cause). unless_refused causes (tt {0})) (causes_with (job_table_seen host.workers host.job_table) host.state e) ∙ sym may)

-- where nothing refuses the step, the queue decides
decides : (host : Inside) (e : ℕ) → MayStep host.state (step.Serve e) (Ok tt) → (queue : List PageRequestWire)
    → (part_of host.state e).page_queue ≡ queue
    → decide_of (wire_of host) (step.Serve e) ≡ checked [] (serve_result (wire_of host) (part_of (wire_of host) e) e queue)
decides host e may queue is =
    passed (tt {0}) (tt {0}) (causes_of (wire_of host) (step.Serve e)) [] (result_of (wire_of host) (step.Serve e))
    (ap (λ (causes : List Cause). unless_refused causes (tt {0})) (causes_with (job_table_seen host.workers host.job_table) host.state e) ∙ sym may)
    ∙ ap (λ (q : List PageRequestWire). checked [] (serve_result (wire_of host) (part_of (wire_of host) e) e q))
    (page_queue_with (job_table_seen host.workers host.job_table).groups host.state.parts e ∙ is)

-- it is there
pub endpoint_there : (w : Wire) (e : ℕ) → MayStep w (step.Serve e) (Ok tt) → e < length w.parts
endpoint_there w e may = go (nat_lt e (length w.parts)) refl may
  where
    go : (b : Bool) → nat_lt e (length w.parts) ≡ b → Ok tt ≡ unless_refused ((not b, refusal.NoSuchEndpoint) ∷ resetting w e ∷ []) (tt {0})
        → e < length w.parts
    go true is may = ltb-true e (length w.parts) is
    go false is may = absurd (wrong may)
      where
        wrong : ◌≡◌ {A = Result (Unit {0}) Refusal} (Ok tt) (Err refusal.NoSuchEndpoint) → ⊥
        wrong h = cc

none_first : (queue : List PageRequestWire) → None ≡ slice_get queue 0 → queue ≡ []
none_first [] none = refl
none_first (r ∷ queue) none = absurd (cc (none))

first_of : (queue : List PageRequestWire) (r : PageRequestWire) → Some r ≡ slice_get queue 0 → queue ≡ r ∷ drop 1 queue
first_of [] r first = absurd (cc (first))
first_of (q ∷ queue) r first =
    let same : q ≡ r = cc in
    ap (λ (x : PageRequestWire). x ∷ queue) same

-- no page request waits
pub serve_empty : (host : Inside) (e : ℕ) → MayStep host.state (step.Serve e) (Ok tt) → None ≡ slice_get (part_of host.state e).page_queue 0
    → ByLabels (wire_of host) (step.Serve e) (Ok answer.Empty) (wire_of host)
serve_empty host e may none =
    subst (λ (d : Decision). Does d (wire_of host) (Ok answer.Empty) (wire_of host))
    (sym (decides host e may [] (none_first (part_of host.state e).page_queue none)))
    (refl, refl)

-- One waits.

-- the head of a unit's queue, and the binding that bears its PASID
pub record IsHead (host : Inside) (e : ℕ) (request : PageRequest) (binding : ℕ) : Type 0 where
  pub there : e < length host.state.parts
  pub head : (part_of host.state e).page_queue ≡ page_request_seen request ∷ drop 1 (part_of host.state e).page_queue
  pub bound : BindingWire
  pub borne : bearer host.state e request.pasid ≡ Some bound
  pub number : bound.binding ≡ binding

-- the unit without its head
abbrev pub unqueued : Wire → (e : ℕ) → Wire
unqueued w e = with_part w e (record (part_of w e) { page_queue = drop 1 (part_of w e).page_queue })

abbrev pub after_filing : Inside → (e binding : ℕ) → PageRequest → Inside
after_filing host e b request = record host { state = unqueued host.state e; job_table = filed (with_room host.job_table) e b request }

groups_there : (workers : ℕ) (s : JobTable) (w : Wire) (e : ℕ) → e < length w.parts → (part_of (with_job_table workers s w) e).host_groups
    ≡ groups_seen e s.groups
groups_there workers s w e there = ap (λ (p : EndpointWire). p.host_groups) (part_with (job_table_seen workers s).groups w.parts e there)

filed_seen : (workers : ℕ) (s : JobTable) (w : Wire) (e b : ℕ) (request : PageRequest) → e < length w.parts
    → with_job_table workers (filed s e b request) (unqueued w e)
    ≡ all_moved (with_job_table workers s w) (file_result (part_of (with_job_table workers s w) e) e b (page_request_seen request) request.last).moves
filed_seen workers s w e b request there = go request.last (seen.jobs (part_of (with_job_table workers s w) e) (groups_there workers s w e there))
  where
    seen : FilingIsSeen s e b request
    seen = job_table_is_seen.filed s e b request

    open_then : groups_seen e (filed s e b request).groups ≡ moves.filed b (page_request_seen request) (part_of (with_job_table workers s w) e).host_groups
    open_then = seen.groups ∙ sym (ap (moves.filed b (page_request_seen request)) (groups_there workers s w e there))

    parts : parts_with (λ k. groups_seen k (filed s e b request).groups) (unqueued w e).parts
        ≡ (moved (with_job_table workers s w) (Move.File e b (page_request_seen request))).parts
    parts =
        set_with (job_table_seen workers s).groups (λ k. groups_seen k (filed s e b request).groups) w.parts e
        (record (part_of w e) { page_queue = drop 1 (part_of w e).page_queue }) seen.others
        ∙ (λ i. slice_set (with_job_table workers s w).parts e
        (record {
          device = sym (device_with (job_table_seen workers s).groups w.parts e) i;
          unit = sym (unit_with (job_table_seen workers s).groups w.parts e) i;
          page_queue = drop 1 (sym (page_queue_with (job_table_seen workers s).groups w.parts e) i);
          host_groups = open_then i;
        }))

    go : (last : Bool)
        → jobs_seen (filed s e b request)
        ≡ (if last then jobs_seen s ++ job_of (part_of (with_job_table workers s w) e) e b (page_request_seen request) ∷ [] else jobs_seen s)
        → with_job_table workers (filed s e b request) (unqueued w e)
        ≡ all_moved (with_job_table workers s w) (file_result (part_of (with_job_table workers s w) e) e b (page_request_seen request) last).moves
    go true jobs = λ i. record w { parts = parts i; jobs = jobs i; hands = seen.hands workers i }
    go false jobs = λ i. record w { parts = parts i; jobs = jobs i; hands = seen.hands workers i }

-- what is decided
filing : (host : Inside) (e b : ℕ) (request : PageRequest) → MayStep host.state (step.Serve e) (Ok tt) → IsHead host e request b
    → decide_of (wire_of host) (step.Serve e) ≡ checked [] (file_result (part_of (wire_of host) e) e b (page_request_seen request) request.last)
filing host e b request may is =
    decides host e may (page_request_seen request ∷ drop 1 (part_of host.state e).page_queue) is.head
    ∙ (λ i. checked [] (file_result (part_of (wire_of host) e) e (binding_or_0 (is.borne i)) (page_request_seen request) request.last))
    ∙ (λ i. checked [] (file_result (part_of (wire_of host) e) e (is.number i) (page_request_seen request) request.last))

abbrev pub filing_answer : Bool → Answer
filing_answer true = answer.Job
filing_answer false = answer.Part

answers : (p : EndpointWire) (e b : ℕ) (r : PageRequestWire) (last : Bool) → (file_result p e b r last).answer ≡ filing_answer last
answers p e b r true = refl
answers p e b r false = refl

pub serve_done : (host : Inside) (v : Wire) (e b : ℕ) (request : PageRequest) (r : Reply) (state : Wire) (job_table : JobTable) → wire_of host ≡ v
    → MayStep host.state (step.Serve e) (Ok tt) → IsHead host e request b
    → state ≡ unqueued host.state e → job_table ≡ filed (with_room host.job_table) e b request → r ≡ Ok (filing_answer request.last)
    → ByLabels v (step.Serve e) r (wire_of (record host { state = state; job_table = job_table }))
serve_done host v e b request r state job_table view may is takes files says =
    subst (λ (u : Wire). ByLabels u (step.Serve e) r (wire_of (record host { state = state; job_table = job_table }))) view
    (subst (λ (a : Reply). ByLabels (wire_of host) (step.Serve e) a (wire_of (record host { state = state; job_table = job_table }))) (sym says)
    (subst (λ (d : Decision). Does d (wire_of host) (Ok (filing_answer request.last)) (wire_of (record host { state = state; job_table = job_table })))
    (sym (filing host e b request may is)) (
      ap (λ (a : Answer). Ok a) (sym (answers (part_of (wire_of host) e) e b (page_request_seen request) request.last)),
      (λ i. with_job_table host.workers (files i) (takes i)) ∙ filed_seen host.workers (with_room host.job_table) host.state e b request is.there,
    )))

-- for want of memory nothing changes
pub serve_unfiled : (host : Inside) (v : Wire) (e b : ℕ) (request : PageRequest) (job_table : JobTable) → wire_of host ≡ v
    → MayStep host.state (step.Serve e) (Ok tt) → IsHead host e request b → job_table ≡ host.job_table
    → ByLabels v (step.Serve e) (Err refusal.OutOfMemory) (wire_of (record host { job_table = job_table }))
serve_unfiled host v e b request job_table view may is same =
    subst (λ (u : Wire). ByLabels u (step.Serve e) (Err refusal.OutOfMemory) (wire_of (record host { job_table = job_table }))) view (
      subst (λ (d : Decision). IsOk d.reply) (sym (filing host e b request may is)) (accepts request.last),
      ap (λ (s : JobTable). wire_of (record host { job_table = s })) same,
    )
  where
    accepts : (last : Bool) → IsOk (checked [] (file_result (part_of (wire_of host) e) e b (page_request_seen request) last)).reply
    accepts true = refl
    accepts false = refl

pub reserved : {E : Type 0} (r : Result (Unit {0}) E) (after s : JobTable) → OnOk r (after ≡ with_room s) → is_err r ≡ false → after ≡ with_room s
reserved (Ok x) after s done is = done
reserved (Err x) after s done is = absurd (cc (is))

pub unreserved : {E : Type 0} (r : Result (Unit {0}) E) (after s : JobTable) → OnErr r (after ≡ s) → is_err r ≡ true → after ≡ s
unreserved (Ok x) after s kept is = absurd (cc (is))
unreserved (Err x) after s kept is = kept

pub some_waits : (host : Inside) (v : Wire) (e b : ℕ) (request : PageRequest) → wire_of host ≡ v → IsHead host e request b
    → (part_of v e).page_queue ≡ [] → ⊥
some_waits host v e b request view is none = wrong (sym is.head ∙ sym queue ∙ none)
  where
    queue : (part_of v e).page_queue ≡ (part_of host.state e).page_queue
    queue = ap (λ (w : Wire). (part_of w e).page_queue) (sym view) ∙ page_queue_with (job_table_seen host.workers host.job_table).groups host.state.parts e

    wrong : page_request_seen request ∷ drop 1 (part_of host.state e).page_queue ≡ [] → ⊥
    wrong h = cc

-- What the table of jobs asks for.

pub head_is : (host : Inside) (e : ℕ) (request : PageRequest) (binding : ℕ) → MayStep host.state (step.Serve e) (Ok tt)
    → Some (page_request_seen request) ≡ slice_get (part_of host.state e).page_queue 0
    → Some binding ≡ option_map (λ (b : BindingWire). b.binding) (bearer host.state e request.pasid)
    → IsHead host e request binding
head_is host e request binding may first borne = go (bearer host.state e request.pasid) refl borne
  where
    go : (o : Option BindingWire) → bearer host.state e request.pasid ≡ o → Some binding ≡ option_map (λ (b : BindingWire). b.binding) o
        → IsHead host e request binding
    go None found borne = absurd (cc (borne))
    go (Some b) found borne =
        record {
          there = endpoint_there host.state e may;
          head = first_of (part_of host.state e).page_queue (page_request_seen request) first;
          bound = b;
          borne = found;
          number = cc;
        }

at_the_head : (host : Inside) (e b : ℕ) (request : PageRequest) → IsHead host e request b → slice_get (part_of (wire_of host) e).page_queue 0
    ≡ Some (page_request_seen request)
at_the_head host e b request is =
    ap (λ (queue : List PageRequestWire). slice_get queue 0) (page_queue_with (job_table_seen host.workers host.job_table).groups host.state.parts e
    ∙ is.head)

there_too : (host : Inside) (e : ℕ) → e < length host.state.parts → e < length (wire_of host).parts
there_too host e there = omega (arith, there, length_with (job_table_seen host.workers host.job_table).groups host.state.parts)

-- a PASID that waits finds its bearer
pub never_lost : (host : Inside) (e : ℕ) (request : PageRequest) → IsSound (wire_of host) → MayStep host.state (step.Serve e) (Ok tt)
    → Some (page_request_seen request) ≡ slice_get (part_of host.state e).page_queue 0
    → None ≡ option_map (λ (b : BindingWire). b.binding) (bearer host.state e request.pasid) → ⊥
never_lost host e request sound may first lost = go (bearer host.state e request.pasid) borne lost
  where
    borne : is_some (bearer host.state e request.pasid) ≡ true
    borne =
        sound.waiting_borne e 0 (page_request_seen request) (there_too host e (endpoint_there host.state e may))
        (ap (λ (queue : List PageRequestWire). slice_get queue 0)
        (page_queue_with (job_table_seen host.workers host.job_table).groups host.state.parts e) ∙ sym first)

    go : (o : Option BindingWire) → is_some o ≡ true → None ≡ option_map (λ (b : BindingWire). b.binding) o → ⊥
    go None some none = cc
    go (Some b) some none = cc

pub can_file : (host : Inside) (e b : ℕ) (request : PageRequest) → IsHost host → IsSound (wire_of host) → IsHead host e request b
    → CanFile (with_room host.job_table) e b request
can_file host e b request h sound is =
    filing_is_permitted (with_room host.job_table) (part_of (wire_of host) e) e b request
    (groups_there host.workers host.job_table host.state e is.there) (omega arith) (omega arith)
    (omega (arith, h.serials, sound.messages_end))
    (subst (λ (n : ℕ). length (asks_of (find (is_begun n request.index) (part_of (wire_of host) e).host_groups)) < 32) is.number
    (sound.filing_fits e 0 (page_request_seen request) is.bound (there_too host e is.there) (at_the_head host e b request is) is.borne))

begins_anew : (host : Inside) (e b : ℕ) (request : PageRequest) → IsSound (wire_of host) → IsHead host e request b
    → BeginsAnew host.workers (with_room host.job_table) e b request.index
begins_anew host e b request sound is none =
    subst (λ (n : ℕ). HasNoJob (jobs_seen host.job_table) (hands_seen host.workers host.job_table) e n request.index) is.number
    (sound.filing_anew e 0 (page_request_seen request) is.bound (there_too host e is.there) (at_the_head host e b request is) is.borne)

-- And what stays so.

-- a request fewer waits
fewer_wait : (w : Wire) (e : ℕ) (r : PageRequestWire) (rest : List PageRequestWire) → e < length w.parts → (part_of w e).page_queue ≡ r ∷ rest
    → waiting (unqueued w e) + 1 ≤ waiting w
fewer_wait w e r rest there head =
    let counted = file_counted w e 0 r rest there head in
    let here = queued_with (λ k. []) (unqueued w e).parts in
    let filed_there = queued_with (λ k. []) (moved w (Move.File e 0 r)).parts in
    let same = ap (sum_by (λ (p : EndpointWire). length p.page_queue)) one in
    omega (arith, counted, here, filed_there, same)
  where
    one : parts_with (λ k. []) (unqueued w e).parts ≡ parts_with (λ k. []) (moved w (Move.File e 0 r)).parts
    one =
        set_with (λ k. []) (λ k. []) w.parts e (record (part_of w e) { page_queue = drop 1 (part_of w e).page_queue }) (λ k apart. refl)
        ∙ sym (set_with (λ k. []) (λ k. []) w.parts e
        (record (part_of w e) { page_queue = drop 1 (part_of w e).page_queue; host_groups = moves.filed 0 r (part_of w e).host_groups }) (λ k apart. refl))

one_serial : (b : Bool) (n : ℕ) → (if b then n else n + 1) ≤ n + 1
one_serial true n = omega arith
one_serial false n = omega arith

as_long : (w : Wire) (e : ℕ) → length (unqueued w e).parts ≡ length w.parts
as_long w e = length-set w.parts e (record (part_of w e) { page_queue = drop 1 (part_of w e).page_queue })

pub serve_still : (host : Inside) (e b : ℕ) (request : PageRequest) (state : Wire) (job_table : JobTable) → IsHost host → IsSound (wire_of host)
    → IsHead host e request b
    → state ≡ unqueued host.state e → job_table ≡ filed (with_room host.job_table) e b request → IsHost (record host { state = state; job_table = job_table })
serve_still host e b request state job_table h sound is takes files =
    subst IsHost (λ i. record host { state = sym takes i; job_table = sym files i })
    (record {
      apart =
          ap (λ (w : Wire). unqueued w e) h.apart
          ∙ part_changed (job_table_seen host.workers no_jobs) host.state e (λ (p : EndpointWire). record p { page_queue = drop 1 p.page_queue })
          (λ p gs. refl);
      few = h.few;
      sound =
          sound_is_kept.filed host.workers (with_room host.job_table) e b request (sound_is_kept.reserved host.workers host.job_table h.sound)
          (begins_anew host e b request sound is);
      serials =
          omega (
            arith,
            h.serials,
            fewer_wait host.state e (page_request_seen request) (drop 1 (part_of host.state e).page_queue) is.there is.head,
            one_serial (list_any (is_collecting e b request.index) host.job_table.groups.groups) host.job_table.groups.next,
          );
      housed =
          housed_filed (unqueued host.state e) (with_room host.job_table) e b request (subst (λ (n : ℕ). e < n) (sym (as_long host.state e)) is.there)
          (λ k past. h.housed k (subst (λ (n : ℕ). n ≤ k) (as_long host.state e) past));
    })

pub reserve_still : (host : Inside) (job_table : JobTable) → IsHost host → job_table ≡ host.job_table → IsHost (record host { job_table = job_table })
reserve_still host job_table h same = subst (λ (s : JobTable). IsHost (record host { job_table = s })) (sym same) h
