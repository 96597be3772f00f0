-- Each call of the table of jobs keeps it sound, but for the filing of a request.
use Rattle.std.proofs.Common.{◌≡◌, ◌≢◌, ◌⊎◌, inl, inr, refl, ap, sym, subst, ◌∙◌, ℕ, zero, suc, ◌<◌, ◌≤◌, Bool, true, arith}
use Rattle.std.specs.Prelude.{◌==◌, not, Option, Some, None, List, [], ◌∷◌, filter, length, drop, slice_get}
use Rattle.std.proofs.lemmas.List.{get_or-set_same, get_or-set_other, length-set}
use Rattle.std.proofs.lemmas.Bool.{eq-eqb}
use Rattle.sva_labels.proofs.Words.{ℕ_cases}
use Rattle.sva_prq.specs.Job.{Job}
use Rattle.sva_prq.specs.Groups.{OpenGroup, is_of_other_unit as is_of_other}
use Rattle.sva_prq.specs.JobTable.{JobTable, no_jobs, with_room, hand, taken, after_answer, after_answer_of, is_job_of_other_unit, without_unit}
use Rattle.sva_parts_by_labels.specs.JobTableLaws.{IsIn, IsKept, AreRising, IsSound, IsWhole, is_with, jobs_with}
use Rattle.sva_parts_by_labels.proofs.JobTableLists.{in_filter, kept_in, all_left, first_in, behind_in, emptied, rising_left, is_other}
use Rattle.sva_parts_by_labels.proofs.JobTableCounts.{count_left, count_set, count_let_go, count_first}
use Rattle.sva_parts_by_labels.proofs.JobTableAnswers.{left_is}

-- A table of jobs with fewer groups, of which each that is left has its job.

record HasLess (p : OpenGroup → Bool) (workers : ℕ) (s t : JobTable) : Type 0 where
  groups : t.groups.groups ≡ filter p s.groups.groups
  next : t.groups.next ≡ s.groups.next
  from : (job : Job) → IsKept t job → IsKept s job
  still : (g : OpenGroup) (job : Job) → IsIn g s.groups.groups → p g ≡ true → job.serial ≡ g.serial → IsKept s job → IsKept t job
  fewer : (n : ℕ) → jobs_with n t ≤ jobs_with n s
  four : length t.hands ≡ 4
  hands : (worker : ℕ) → workers ≤ worker → hand t worker ≡ None

sound_less : (p : OpenGroup → Bool) (workers : ℕ) (s t : JobTable) → IsSound workers s → HasLess p workers s t → IsSound workers t
sound_less p workers s t k l =
    record {
      rising =
          subst (λ n. AreRising 0 n t.groups.groups) (sym l.next)
          (subst (AreRising 0 s.groups.next) (sym l.groups) (rising_left p 0 s.groups.next s.groups.groups k.rising));
      single = λ g h m n. k.single g h (old g m).0 (old h n).0;
      jobs = λ job g j m. k.jobs job g (l.from job j) (old g m).0;
      own = λ job g j m. k.own job g (l.from job j) (old g m).0;
      made = λ g m last.
          let (job, j, e) = k.made g (old g m).0 last in
          (job, l.still g job (old g m).0 (old g m).1 e j, e);
      once = λ n. let fewer = l.fewer n in let one = k.once n in omega (arith, fewer, one);
      given = λ job j. subst (λ n. job.serial < n) (sym l.next) (k.given job (l.from job j));
      four = l.four;
      hands = l.hands;
    }
  where
    old : (g : OpenGroup) → IsIn g t.groups.groups → IsIn g s.groups.groups × (p g ≡ true)
    old g m = in_filter p g s.groups.groups (subst (IsIn g) l.groups m)

-- No table of jobs, and room.

none_held : (x : ℕ) → hand no_jobs x ≡ None
none_held zero = refl
none_held (suc zero) = refl
none_held (suc (suc zero)) = refl
none_held (suc (suc (suc zero))) = refl
none_held (suc (suc (suc (suc x)))) = refl

pub first_sound : (workers : ℕ) → IsSound workers no_jobs
first_sound workers =
    record {
      rising = omega arith;
      single = λ g h m. absurd m;
      jobs = λ job g j m. absurd m;
      own = λ job g j m. absurd m;
      made = λ g m. absurd m;
      once = λ n. omega arith;
      given = none;
      four = refl;
      hands = λ x l. none_held x;
    }
  where
    none : (job : Job) → IsKept no_jobs job → job.serial < 0
    none job (inl m) = absurd m
    none job (inr (x, e)) = absurd (cc (sym (none_held x) ∙ e))

pub reserved_sound : (workers : ℕ) (s : JobTable) → IsSound workers s → IsSound workers (with_room s)
reserved_sound workers s k =
    record { rising = k.rising; single = k.single; jobs = k.jobs; own = k.own; made = k.made; once = k.once; given = k.given; four = k.four; hands = k.hands }

-- The oldest job goes to a hand.

module _ (workers : ℕ) (s : JobTable) (worker : ℕ) (k : IsSound workers s) (low : worker < workers) (of_four : worker < 4) (empty : hand s worker ≡ None) where
  in_hand : hand (taken s worker) worker ≡ slice_get s.jobs 0
  in_hand = get_or-set_same s.hands worker (slice_get s.jobs 0) None (omega (arith, k.four, of_four))

  other_hand : (x : ℕ) → x ≢ worker → hand (taken s worker) x ≡ hand s x
  other_hand x ne = get_or-set_other s.hands worker x (slice_get s.jobs 0) None ne

  taken_from : (job : Job) → IsKept (taken s worker) job → IsKept s job
  taken_from job (inl m) = inl (behind_in job s.jobs m)
  taken_from job (inr (x, e)) = go (ℕ_cases x worker)
    where
      go : (x ≡ worker) ⊎ (x ≢ worker) → IsKept s job
      go (inl h) = inl (first_in job s.jobs (sym in_hand ∙ sym (ap (hand (taken s worker)) h) ∙ e))
      go (inr h) = inr (x, sym (other_hand x h) ∙ e)

  split : (job : Job) (jobs : List Job) → IsIn job jobs → (slice_get jobs 0 ≡ Some job) ⊎ IsIn job (drop 1 jobs)
  split job [] m = absurd m
  split job (j ∷ jobs) (inl e) = inl (ap Some e)
  split job (j ∷ jobs) (inr m) = inr m

  taken_still : (job : Job) → IsKept s job → IsKept (taken s worker) job
  taken_still job (inl m) = go (split job s.jobs m)
    where
      go : (slice_get s.jobs 0 ≡ Some job) ⊎ IsIn job (drop 1 s.jobs) → IsKept (taken s worker) job
      go (inl e) = inr (worker, in_hand ∙ e)
      go (inr n) = inl n
  taken_still job (inr (x, e)) = go (ℕ_cases x worker)
    where
      go : (x ≡ worker) ⊎ (x ≢ worker) → IsKept (taken s worker) job
      go (inl h) = absurd (cc (sym empty ∙ sym (ap (hand s) h) ∙ e))
      go (inr h) = inr (x, other_hand x h ∙ e)

  fewer : (n : ℕ) → jobs_with n (taken s worker) ≤ jobs_with n s
  fewer n =
      let moved = count_first n s.jobs in
      let held = count_set n (slice_get s.jobs 0) worker s.hands (omega (arith, k.four, of_four)) empty in
      omega (arith, moved, held)

  pub taken_sound : IsSound workers (taken s worker)
  taken_sound =
      sound_less (λ g. true) workers s (taken s worker) k
      (record {
        groups = sym (all_left s.groups.groups);
        next = refl;
        from = taken_from;
        still = λ g job m p e. taken_still job;
        fewer = fewer;
        four = length-set s.hands worker (slice_get s.jobs 0) ∙ k.four;
        hands = λ x l. other_hand x (λ e. absurd (omega (arith, l, low, e))) ∙ k.hands x l;
      })

-- A job is answered.

answered_by : (workers : ℕ) (s : JobTable) (worker : ℕ) (o : Option Job) → hand s worker ≡ o → IsSound workers s → IsSound workers (after_answer_of s worker o)
answered_by workers s worker None h k = k
answered_by workers s worker (Some job) h k =
    sound_less (is_other job.serial) workers s after k
    (record {
      groups = left_is workers s worker job k h;
      next = refl;
      from = from;
      still = still;
      fewer = λ n. let fewer = count_let_go n worker s.hands in omega (arith, fewer);
      four = length-set s.hands worker None ∙ k.four;
      hands = λ x l. past x l (ℕ_cases x worker);
    })
  where
    after : JobTable
    after = after_answer_of s worker (Some job)

    other_hand : (x : ℕ) → x ≢ worker → hand after x ≡ hand s x
    other_hand x ne = get_or-set_other s.hands worker x None None ne

    past : (x : ℕ) → workers ≤ x → (x ≡ worker) ⊎ (x ≢ worker) → hand after x ≡ None
    past x l (inl e) = ap (hand after) e ∙ emptied worker s.hands
    past x l (inr e) = other_hand x e ∙ k.hands x l

    from : (j : Job) → IsKept after j → IsKept s j
    from j (inl m) = inl m
    from j (inr (x, e)) = go (ℕ_cases x worker)
      where
        go : (x ≡ worker) ⊎ (x ≢ worker) → IsKept s j
        go (inl h) = absurd (cc (sym (emptied worker s.hands) ∙ sym (ap (hand after) h) ∙ e))
        go (inr h) = inr (x, sym (other_hand x h) ∙ e)

    or_job : Option Job → Job
    or_job None = job
    or_job (Some j) = j

    still : (g : OpenGroup) (j : Job) → IsIn g s.groups.groups → is_other job.serial g ≡ true → j.serial ≡ g.serial → IsKept s j → IsKept after j
    still g j m p e (inl n) = inl n
    still g j m p e (inr (x, c)) = go (ℕ_cases x worker)
      where
        go : (x ≡ worker) ⊎ (x ≢ worker) → IsKept after j
        go (inr ne) = inr (x, other_hand x ne ∙ c)
        go (inl same) =
            let one : j ≡ job = ap or_job (sym c ∙ ap (hand s) same ∙ h) in
            let both : (g.serial == job.serial) ≡ true = eq-eqb g.serial job.serial (sym e ∙ ap (λ (i : Job). i.serial) one) in
            absurd (cc (sym (ap (λ (t : Bool). not t) both) ∙ p))

pub answered_sound : (workers : ℕ) (s : JobTable) (worker : ℕ) → IsSound workers s → IsSound workers (after_answer s worker)
answered_sound workers s worker k = answered_by workers s worker (hand s worker) refl k

-- A unit is reset.

pub reset_sound : (workers : ℕ) (s : JobTable) (unit : ℕ) → IsSound workers s → IsSound workers (without_unit s unit)
reset_sound workers s unit k =
    sound_less (is_of_other unit) workers s (without_unit s unit) k
    (record {
      groups = refl;
      next = refl;
      from = from;
      still = still;
      fewer = λ n. let fewer = count_left (is_with n) (is_job_of_other_unit unit) s.jobs in omega (arith, fewer);
      four = k.four;
      hands = k.hands;
    })
  where
    from : (j : Job) → IsKept (without_unit s unit) j → IsKept s j
    from j (inl m) = inl (in_filter (is_job_of_other_unit unit) j s.jobs m).0
    from j (inr held) = inr held

    still : (g : OpenGroup) (j : Job) → IsIn g s.groups.groups → is_of_other unit g ≡ true → j.serial ≡ g.serial → IsKept s j → IsKept (without_unit s unit) j
    still g j m p e (inr held) = inr held
    still g j m p e (inl n) =
        let whole : IsWhole g j = k.jobs j g (inl n) m (sym e) in
        inl (kept_in (is_job_of_other_unit unit) j s.jobs n (sym (ap (λ (u : ℕ). not (u == unit)) whole.named.units) ∙ p))
