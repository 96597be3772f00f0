-- Jobs and hands, seen, and the calls of the table of jobs that ask for no more than they are.
use Rattle.std.proofs.Common.{◌≡◌, refl, ap, sym, ◌∙◌, ℕ, zero, suc, ◌<◌, Bool, true, false, arith}
use Rattle.std.specs.Prelude.{◌==◌, not, if◌then◌else◌, Option, Some, None, option_map, option_to_list, List, [], ◌∷◌, ◌++◌, map, find, take, drop}
use Rattle.std.specs.Prelude.{slice_get, slice_index_or, slice_set}
use Rattle.std.proofs.lemmas.List.{map-append, map-set, length-map, append-nil}
use Rattle.sva_model.specs.Wire.{EndpointWire, JobWire}
use Rattle.sva_labels.specs.Moves.{is_begun}
use Rattle.sva_labels.specs.Outcomes.{job_of, asks_of}
use Rattle.sva_msg.specs.declared.messages.PageRequest.{PageRequest}
use Rattle.sva_prq.specs.Job.{Job, ask_of}
use Rattle.sva_prq.specs.Groups.{Groups, unfinished_asks, serial_for}
use Rattle.sva_prq.specs.JobTable.{JobTable, is_job_of_other_unit}
use Rattle.sva_parts_by_labels.specs.JobTable.{groups_seen, job_seen, hands_seen, FilingIsSeen, TakeIsSeen, ResetIsSeen, JobTableIsSeen}
use Rattle.sva_prq.specs.Job.{ask_seen}
use Rattle.sva_msg.specs.Seen.{page_request_seen}
use Rattle.sva_parts_by_labels.proofs.Bindings.{seen_left}
use Rattle.sva_parts_by_labels.proofs.Tables.{seen_at}
use Rattle.sva_parts_by_labels.proofs.JobTableGroups.{open_is_seen, filing_seen, filing_apart, asks_seen, none_of_unit, others_of_unit}

-- Lists.

taken_set : {A : Type 0} (n k : ℕ) (a : A) (xs : List A) → take n (slice_set xs k a) ≡ slice_set (take n xs) k a
taken_set zero k a [] = refl
taken_set zero zero a (x ∷ xs) = refl
taken_set zero (suc k) a (x ∷ xs) = refl
taken_set (suc n) k a [] = refl
taken_set (suc n) zero a (x ∷ xs) = refl
taken_set (suc n) (suc k) a (x ∷ xs) = ap (λ l. x ∷ l) (taken_set n k a xs)

taken_at : {A : Type 0} (n k : ℕ) (d : A) (xs : List A) → k < n → slice_index_or (take n xs) k d ≡ slice_index_or xs k d
taken_at zero k d xs l = absurd (omega (arith, l))
taken_at (suc n) k d [] l = refl
taken_at (suc n) zero d (x ∷ xs) l = refl
taken_at (suc n) (suc k) d (x ∷ xs) l = taken_at n k d xs (omega (arith, l))

first_dropped : {A B : Type 0} (f : A → B) (xs : List A) → map f (drop 1 xs) ≡ drop 1 (map f xs)
first_dropped f [] = refl
first_dropped f (x ∷ xs) = refl

-- A hand with another thing in it.
pub hand_set : (n k : ℕ) (o : Option Job) (hands : List (Option Job))
    → take n (map (option_map job_seen) (slice_set hands k o)) ≡ slice_set (take n (map (option_map job_seen) hands)) k (option_map job_seen o)
hand_set n k o hands = ap (take n) (map-set (option_map job_seen) hands k o) ∙ taken_set n k (option_map job_seen o) (map (option_map job_seen) hands)

pub held_at : (n k : ℕ) (hands : List (Option Job)) → k < n
    → slice_index_or (take n (map (option_map job_seen) hands)) k None ≡ option_map job_seen (slice_index_or hands k None)
held_at n k hands l = taken_at n k None (map (option_map job_seen) hands) l ∙ seen_at (option_map job_seen) hands k None

-- A page request is filed.

job_is_seen : (s : Groups) (p : EndpointWire) (unit binding : ℕ) (request : PageRequest) → p.host_groups ≡ groups_seen unit s
    → map ask_seen (unfinished_asks unit binding request.index s.groups ++ ask_of request ∷ []) ≡ (job_of p unit binding (page_request_seen request)).asks
job_is_seen s p unit binding request h =
    map-append ask_seen (unfinished_asks unit binding request.index s.groups) (ask_of request ∷ [])
    ∙ ap (λ l. l ++ ask_seen (ask_of request) ∷ [])
    (asks_seen s.next unit binding request s.groups ∙ ap (λ l. asks_of (find (is_begun binding request.index) l)) (sym h))

made_by : (job : Job) (seen : JobWire) (jobs : List Job) (last : Bool) → job_seen job ≡ seen
    → map job_seen (jobs ++ option_to_list (if last then Some job else None)) ≡ (if last then map job_seen jobs ++ seen ∷ [] else map job_seen jobs)
made_by job seen jobs true h = map-append job_seen jobs (job ∷ []) ∙ ap (λ j. map job_seen jobs ++ j ∷ []) h
made_by job seen jobs false h = ap (map job_seen) (append-nil jobs)

filing_is_seen : (s : JobTable) (unit binding : ℕ) (request : PageRequest) → FilingIsSeen s unit binding request
filing_is_seen s unit binding request =
    record {
      groups = filing_seen s.groups.next unit binding request s.groups.groups;
      others = λ e h. filing_apart s.groups.next unit binding request e h s.groups.groups;
      jobs = λ p h.
          made_by
          (record {
            unit = unit;
            binding = binding;
            index = request.index;
            asks = unfinished_asks unit binding request.index s.groups.groups ++ ask_of request ∷ [];
            serial = serial_for s.groups unit binding request.index;
          })
          (job_of p unit binding (page_request_seen request)) s.jobs request.last
          (λ i. record { endpoint = unit; binding = binding; index = request.index; asks = job_is_seen s.groups p unit binding request h i });
      hands = λ n. refl;
    }

-- The oldest job is taken.

first_is : (jobs : List Job) (job : JobWire) (later : List JobWire) → map job_seen jobs ≡ job ∷ later → option_map job_seen (slice_get jobs 0) ≡ Some job
first_is [] job later h = absurd (cc (h))
first_is (j ∷ jobs) job later h = ap (λ o. o) (heads h)
  where
    head : List JobWire → Option JobWire
    head [] = None
    head (x ∷ xs) = Some x

    heads : job_seen j ∷ map job_seen jobs ≡ job ∷ later → Some (job_seen j) ≡ Some job
    heads h = ap head h

take_is_seen : (s : JobTable) (worker : ℕ) → TakeIsSeen s worker
take_is_seen s worker =
    record {
      queued = length-map s.jobs job_seen;
      held = λ n l. held_at n worker s.hands l;
      groups = λ e. refl;
      jobs = first_dropped job_seen s.jobs;
      hands = λ n job later h. hand_set n worker (slice_get s.jobs 0) s.hands ∙ ap (slice_set (hands_seen n s) worker) (first_is s.jobs job later h);
    }

reset_is_seen : (s : JobTable) (unit : ℕ) → ResetIsSeen s unit
reset_is_seen s unit =
    record {
      groups = none_of_unit unit s.groups.groups;
      others = λ e h. others_of_unit unit e h s.groups.groups;
      jobs = seen_left job_seen (is_job_of_other_unit unit) (λ job. not (job.endpoint == unit)) (λ job. refl) s.jobs;
      hands = λ n. refl;
    }

pub job_table_is_seen : JobTableIsSeen
job_table_is_seen = record { opens = open_is_seen; filed = filing_is_seen; taken = take_is_seen; reset = reset_is_seen }
