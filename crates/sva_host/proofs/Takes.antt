-- A worker takes the oldest job.
use Rattle.std.proofs.Common.{◌≡◌, refl, ap, sym, ◌∙◌, subst, ℕ, zero, suc, ◌+◌, ◌<◌, ◌≤◌, true, false, Bor, arith}
use Rattle.std.specs.Option.{option_copied}
use Rattle.std.specs.Prelude.{not, nat_lt, ◌==◌, is_some, Ok, Option, Some, None, option_map, List, [], ◌∷◌, map, length, drop, slice_get, slice_set}
use Rattle.std.specs.Prelude.{slice_index_or}
use Rattle.std.proofs.lemmas.List.{length-map, length-take-le}
use Rattle.std.proofs.lemmas.Bool.Decides.{nat_tests}
use Rattle.sva_step.specs.declared.answers.Answer.TheVariants as answer
use Rattle.sva_step.specs.declared.refusals.Refusal.TheVariants as refusal
use Rattle.sva_step.specs.declared.steps.Step.TheVariants as step
use Rattle.sva_model.specs.Wire.{Wire, JobWire}
use Rattle.sva_labels.specs.Finding.{held_by}
use Rattle.sva_labels.specs.Host.{Decision, checked, decide_of}
use Rattle.sva_labels.specs.Moves.{Move}
use Rattle.sva_labels.specs.Waiting.{waiting}
use Rattle.sva_labels.specs.Outcomes.{take_result}
use Rattle.sva_host_state.specs.Steps.{Does, ByLabels}
use Rattle.sva_prq.specs.Job.{Job}
use Rattle.sva_prq.specs.JobTable.{JobTable, hand, taken}
use Rattle.sva_parts_by_labels.specs.JobTable.{job_seen, jobs_seen, hands_seen, TakeIsSeen}
use Rattle.sva_prq.specs.Job.{ask_seen}
use Rattle.sva_parts_by_labels.specs.JobTableLaws.{IsSound}
use Rattle.sva_parts_by_labels.proofs.JobTableJobs.{job_table_is_seen}
use Rattle.sva_parts_by_labels.proofs.JobTableFiling.{sound_is_kept}
use Rattle.sva_host.specs.Inner.{wire_of, AreHoused, IsHost}
use Rattle.sva_host.specs.declared.host.Host.TheInside.{Inside}

-- as many hands are seen as there are workers
pub hands_there : (workers : ℕ) (s : JobTable) → workers ≤ 4 → IsSound workers s → length (hands_seen workers s) ≡ workers
hands_there workers s few sound =
    let four : length (map (option_map job_seen) s.hands) ≡ 4 = length-map s.hands (option_map job_seen) ∙ sound.four in
    length-take-le workers (map (option_map job_seen) s.hands) (omega (arith, four))

pub worker_there : (host : Inside) (x : ℕ) → IsHost host → nat_lt x (length (wire_of host).hands) ≡ nat_lt x host.workers
worker_there host x h = ap (nat_lt x) (hands_there host.workers host.job_table h.few h.sound)

-- a hand that holds nothing is empty
pub none_held : (o : Option (Bor Job)) (held : Option Job) → option_copied o ≡ held → is_some o ≡ false → None ≡ held
none_held None held same is = same
none_held (Some job) held same is = absurd (cc (is))

-- what is decided
takes : (w : Wire) (x : ℕ) (job : JobWire) (later : List JobWire) → nat_lt x (length w.hands) ≡ true → held_by w x ≡ None → w.jobs ≡ job ∷ later
    → decide_of w (step.Take x) ≡ record { reply = Ok (answer.JobTaken job.binding job.index (length job.asks)); moves = Move.Hand ∷ Move.Hold x job ∷ [] }
takes w x job later there empty jobs =
    (λ i. checked ((not (there i), refusal.NoSuchWorker) ∷ (is_some (empty i), refusal.HandsFull) ∷ (length (jobs i) == 0, refusal.NoJob) ∷ [])
    (take_result x (jobs i)))
    ∙ some_job (length later)
  where
    some_job : (n : ℕ) → checked ((suc n == 0, refusal.NoJob) ∷ []) (take_result x (job ∷ later)) ≡ checked [] (take_result x (job ∷ later))
    some_job n =
        let not_0 : (suc n == 0) ≡ false = grind (arith, nat_tests) in
        λ i. checked ((not_0 i, refusal.NoJob) ∷ []) (take_result x (job ∷ later))

first_of : (s : JobTable) (x : ℕ) (job : Job) → length s.hands ≡ 4 → x < 4 → Some job ≡ hand (taken s x) x → slice_get s.jobs 0 ≡ Some job
first_of s x job four low held = sym (held ∙ at s.hands x (slice_get s.jobs 0) (omega (arith, four)))
  where
    at : (hands : List (Option Job)) (k : ℕ) (o : Option Job) → k < length hands → slice_index_or (slice_set hands k o) k None ≡ o
    at [] k o l = absurd (omega arith)
    at (x ∷ hands) zero o l = refl
    at (x ∷ hands) (suc k) o l = at hands k o (omega arith)

jobs_are : (jobs : List Job) (job : Job) → slice_get jobs 0 ≡ Some job → map job_seen jobs ≡ job_seen job ∷ map job_seen (drop 1 jobs)
jobs_are [] job first = absurd (cc (first))
jobs_are (j ∷ jobs) job first =
    let same : j ≡ job = cc in
    ap (λ (x : Job). job_seen x ∷ map job_seen jobs) same

pub take_done : (host : Inside) (v : Wire) (x b n k : ℕ) (job : Job) (after : JobTable) → wire_of host ≡ v → IsHost host → x < host.workers
    → None ≡ hand host.job_table x → after ≡ taken host.job_table x → Some job ≡ hand after x → b ≡ job.binding → n ≡ job.index → k ≡ length job.asks
    → ByLabels v (step.Take x) (Ok (answer.JobTaken b n k)) (wire_of (record host { job_table = after }))
take_done host v x b n k job after view h there empty is held binding index count =
    subst (λ (u : Wire). ByLabels u (step.Take x) (Ok (answer.JobTaken b n k)) (wire_of (record host { job_table = after }))) view
    (subst (λ (d : Decision). Does d (wire_of host) (Ok (answer.JobTaken b n k)) (wire_of (record host { job_table = after }))) (sym decides)
    ((λ i. Ok (answer.JobTaken (binding i) (index i) ((count ∙ sym (length-map job.asks ask_seen)) i))), left))
  where
    s : JobTable
    s = host.job_table

    seen : TakeIsSeen s x
    seen = job_table_is_seen.taken s x

    jobs : jobs_seen s ≡ job_seen job ∷ map job_seen (drop 1 s.jobs)
    jobs = jobs_are s.jobs job (first_of s x job h.sound.four (omega (arith, there, h.few)) (held ∙ ap (λ (t : JobTable). hand t x) is))

    decides : decide_of (wire_of host) (step.Take x)
        ≡ record { reply = Ok (answer.JobTaken job.binding job.index (length (job_seen job).asks)); moves = Move.Hand ∷ Move.Hold x (job_seen job) ∷ [] }
    decides =
        takes (wire_of host) x (job_seen job) _ (worker_there host x h ∙ grind (arith, nat_tests, there))
        (seen.held host.workers there ∙ ap (option_map job_seen) (sym empty)) jobs

    left : wire_of (record host { job_table = after })
        ≡ record (wire_of host) { jobs = drop 1 (jobs_seen s); hands = slice_set (hands_seen host.workers s) x (Some (job_seen job)) }
    left =
        ap (λ (t : JobTable). wire_of (record host { job_table = t })) is
        ∙ (λ i. record (wire_of host) { jobs = seen.jobs i; hands = seen.hands host.workers (job_seen job) _ jobs i })

pub take_sound : (host : Inside) (x : ℕ) (after : JobTable) → IsHost host → x < host.workers → None ≡ hand host.job_table x → after
    ≡ taken host.job_table x
    → IsHost (record host { job_table = after })
take_sound host x after h there empty is =
    record {
      apart = h.apart;
      few = h.few;
      sound = subst (IsSound host.workers) (sym is)
          (sound_is_kept.taken host.workers host.job_table x h.sound there (omega (arith, there, h.few)) (sym empty));
      serials = subst (λ (s : JobTable). s.groups.next + waiting host.state ≤ host.state.next_message) (sym is) h.serials;
      housed = subst (AreHoused host.state) (sym is) h.housed;
    }
