-- A job is answered: the group that has its unit, binding and index is the group of its serial.
use Rattle.std.proofs.Common.{◌≡◌, inl, inr, refl, ap, ap₂, sym, ◌∙◌, ℕ, Bool, true, false}
use Rattle.std.specs.Prelude.{cond, ◌==◌, ◌&&◌, not, Option, Some, None, List, [], ◌∷◌, map, filter, slice_set}
use Rattle.std.specs.List.{list_any}
use Rattle.std.proofs.lemmas.List.{set-get_or}
use Rattle.std.proofs.lemmas.Bool.{eq-eqb, eqb-true}
use Rattle.sva_model.specs.Wire.{HostGroupWire}
use Rattle.sva_labels.specs.Moves.{is_of_job}
use Rattle.sva_prq.specs.Job.{Job}
use Rattle.sva_prq.specs.Groups.{OpenGroup, is_of_unit, answered_among}
use Rattle.sva_prq.specs.JobTable.{JobTable, hand, after_answer, after_answer_of}
use Rattle.sva_parts_by_labels.specs.JobTable.{group_seen, groups_seen, job_seen, jobs_seen, hands_seen}
use Rattle.sva_parts_by_labels.specs.JobTableLaws.{IsIn, IsNamed, IsWhole, IsSound, AnswerIsSeen, JobTableAnswers}
use Rattle.sva_parts_by_labels.proofs.JobTableGroups.{of_unit}
use Rattle.sva_parts_by_labels.proofs.JobTableJobs.{hand_set}
use Rattle.sva_parts_by_labels.proofs.JobTableLists.{same_tests, all_left, none_left_out, is_other, answered_is}

-- groups of a unit, left by a test that is seen
seen_left_by : (u : ℕ) (p : OpenGroup → Bool) (q : HostGroupWire → Bool) (gs : List OpenGroup)
    → ((g : OpenGroup) → IsIn g gs → (g.unit == u) ≡ true → q (group_seen g) ≡ p g) → of_unit u (filter p gs) ≡ filter q (of_unit u gs)
seen_left_by u p q [] h = refl
seen_left_by u p q (g ∷ gs) h = go (g.unit == u) (p g) refl refl (seen_left_by u p q gs (λ x m. h x (inr m)))
  where
    here : (b : Bool) → q (group_seen g) ≡ b
        → cond b (group_seen g ∷ filter q (of_unit u gs)) (filter q (of_unit u gs)) ≡ filter q (group_seen g ∷ of_unit u gs)
    here b k = ap (λ t. cond t (group_seen g ∷ filter q (of_unit u gs)) (filter q (of_unit u gs))) (sym k)

    go : (a b : Bool) → (g.unit == u) ≡ a → p g ≡ b → of_unit u (filter p gs) ≡ filter q (of_unit u gs)
        → of_unit u (cond b (g ∷ filter p gs) (filter p gs)) ≡ filter q (map group_seen (cond a (g ∷ filter (is_of_unit u) gs) (filter (is_of_unit u) gs)))
    go true true k l rest =
        ap (λ t. map group_seen (cond t (g ∷ filter (is_of_unit u) (filter p gs)) (filter (is_of_unit u) (filter p gs)))) k
        ∙ ap (λ l. group_seen g ∷ l) rest
        ∙ here true (h g (inl refl) k ∙ l)
    go true false k l rest = rest ∙ here false (h g (inl refl) k ∙ l)
    go false true k l rest = ap (λ t. map group_seen (cond t (g ∷ filter (is_of_unit u) (filter p gs)) (filter (is_of_unit u) (filter p gs)))) k ∙ rest
    go false false k l rest = rest

both_of : (a b : Bool) → (a && b) ≡ true → (a ≡ true) × (b ≡ true)
both_of true true h = (refl, refl)
both_of true false h = absurd (cc (h))
both_of false b h = absurd (cc (h))

module _ (workers : ℕ) (s : JobTable) (worker : ℕ) (job : Job) (k : IsSound workers s) (held : hand s worker ≡ Some job) where
  kept_job : (g : OpenGroup) → IsIn g s.groups.groups → g.serial ≡ job.serial → IsWhole g job
  kept_job g m e = k.jobs job g (inr (worker, held)) m e

  pub left_is : answered_among job.serial s.groups.groups ≡ filter (is_other job.serial) s.groups.groups
  left_is = answered_is job.serial 0 s.groups.next s.groups.groups k.rising (λ g m e. (kept_job g m e).last)

  seen_is : (e : ℕ) → groups_seen e (after_answer s worker).groups ≡ of_unit e (filter (is_other job.serial) s.groups.groups)
  seen_is e = ap (λ o. groups_seen e (after_answer_of s worker o).groups) held ∙ ap (of_unit e) left_is

  own_by : (g : OpenGroup) → IsIn g s.groups.groups → (g.unit == job.unit) ≡ true → is_of_job (job_seen job) (group_seen g) ≡ (g.serial == job.serial)
  own_by g m u =
      same_tests (is_of_job (job_seen job) (group_seen g)) (g.serial == job.serial)
      (λ h.
      let b = both_of (g.binding == job.binding) (g.index == job.index) h in
      let named : IsNamed g job =
      record { units = eqb-true g.unit job.unit u; bindings = eqb-true g.binding job.binding b.0; indexes = eqb-true g.index job.index b.1 } in
      eq-eqb g.serial job.serial (k.own job g (inr (worker, held)) m named))
      (λ h.
      let n : IsNamed g job = (kept_job g m (eqb-true g.serial job.serial h)).named in
      ap₂ (λ a b. a && b) (eq-eqb g.binding job.binding n.bindings) (eq-eqb g.index job.index n.indexes))

  answered_here : groups_seen job.unit (after_answer s worker).groups ≡ filter (λ g. not (is_of_job (job_seen job) g)) (groups_seen job.unit s.groups)
  answered_here =
      seen_is job.unit
      ∙ seen_left_by job.unit (is_other job.serial) (λ g. not (is_of_job (job_seen job) g)) s.groups.groups (λ g m u. ap (λ (b : Bool). not b) (own_by g m u))

  answered_apart : (e : ℕ) → (e == job.unit) ≡ false → groups_seen e (after_answer s worker).groups ≡ groups_seen e s.groups
  answered_apart e apart =
      seen_is e
      ∙ seen_left_by e (is_other job.serial) (λ g. true) s.groups.groups (λ g m u. stays g m u (g.serial == job.serial) refl)
      ∙ all_left (groups_seen e s.groups)
    where
      stays : (g : OpenGroup) → IsIn g s.groups.groups → (g.unit == e) ≡ true → (b : Bool) → (g.serial == job.serial) ≡ b → true ≡ not b
      stays g m u false h = refl
      stays g m u true h =
          let n : IsNamed g job = (kept_job g m (eqb-true g.serial job.serial h)).named in
          absurd (cc (sym (eq-eqb e job.unit (sym (eqb-true g.unit e u) ∙ n.units)) ∙ apart))

  answered_dropped : list_any (is_of_job (job_seen job)) (groups_seen job.unit s.groups) ≡ false → (e : ℕ)
      → groups_seen e (after_answer s worker).groups ≡ groups_seen e s.groups
  answered_dropped none e = go (e == job.unit) refl
    where
      go : (b : Bool) → (e == job.unit) ≡ b → groups_seen e (after_answer s worker).groups ≡ groups_seen e s.groups
      go false h = answered_apart e h
      go true h =
          let same : e ≡ job.unit = eqb-true e job.unit h in
          ap (λ u. groups_seen u (after_answer s worker).groups) same
          ∙ answered_here
          ∙ none_left_out (is_of_job (job_seen job)) (groups_seen job.unit s.groups) none
          ∙ ap (λ u. groups_seen u s.groups) (sym same)

  answer_is_seen : AnswerIsSeen s worker job
  answer_is_seen = record { answered = answered_here; others = answered_apart; dropped = answered_dropped }

hands_answered : (workers : ℕ) (s : JobTable) (worker : ℕ) (o : Option Job) → hand s worker ≡ o
    → hands_seen workers (after_answer_of s worker o) ≡ slice_set (hands_seen workers s) worker None
hands_answered workers s worker None h =
    ap (λ l. hands_seen workers (record s { hands = l })) (sym (set-get_or s.hands worker None) ∙ ap (slice_set s.hands worker) h)
    ∙ hand_set workers worker None s.hands
hands_answered workers s worker (Some job) h = hand_set workers worker None s.hands

jobs_answered : (s : JobTable) (worker : ℕ) (o : Option Job) → jobs_seen (after_answer_of s worker o) ≡ jobs_seen s
jobs_answered s worker None = refl
jobs_answered s worker (Some job) = refl

pub job_table_answers : JobTableAnswers
job_table_answers =
    record {
      groups = answer_is_seen;
      jobs = λ s worker. jobs_answered s worker (hand s worker);
      hands = λ workers s worker. hands_answered workers s worker (hand s worker) refl;
    }
