-- The filing of a request keeps the table of jobs sound.
use Rattle.std.proofs.Common.{◌≡◌, ◌⊎◌, inl, inr, refl, ap, sym, subst, ◌∙◌, ℕ, ◌+◌, ◌<◌, ◌≤◌, Bool, true, false, arith}
use Rattle.std.specs.Prelude.{◌==◌, ◌&&◌, if◌then◌else◌, Some, None, option_map, option_to_list, List, [], ◌∷◌, ◌++◌}
use Rattle.std.specs.List.{count_by, list_any}
use Rattle.std.proofs.lemmas.Bool.Decides.{nat_tests}
use Rattle.std.proofs.lemmas.Bool.{cases_lt, eqb-true, ne_eqb}
use Rattle.sva_msg.specs.declared.messages.PageRequest.{PageRequest}
use Rattle.sva_prq.specs.Job.{Job, ask_of}
use Rattle.sva_prq.specs.Groups.{OpenGroup, is_collecting, new_group, with_request, filed_among, unfinished_asks, serial_for}
use Rattle.sva_prq.proofs.Tests.{Same, unfinished_name, unfinished_part}
use Rattle.sva_prq.specs.JobTable.{JobTable, filed}
use Rattle.sva_labels.specs.Sound.{is_job_of, HasNoJob}
use Rattle.sva_parts_by_labels.specs.JobTable.{job_seen, jobs_seen, hands_seen}
use Rattle.sva_parts_by_labels.specs.JobTableLaws.{IsIn, IsKept, AreRising, AreNamesakes, IsNamed, IsWhole, IsSound, is_with, holds, jobs_with}
use Rattle.sva_parts_by_labels.specs.JobTableLaws.{BeginsAnew, SoundIsKept}
use Rattle.sva_parts_by_labels.proofs.JobTableJobs.{held_at}
use Rattle.sva_parts_by_labels.proofs.JobTableCounts.{count_append, count_cons, count_none, held_none}
use Rattle.sva_parts_by_labels.proofs.JobTableLists.{in_append, left_in, right_in, in_any, mapped_in, rising_between, one_of_serial}
use Rattle.sva_parts_by_labels.proofs.JobTableFiled.{FiledFrom, Old, Joined, Begun, unfinished_from, begun_seen, in_filed, chosen, chosen_filed, chosen_in}
use Rattle.sva_parts_by_labels.proofs.JobTableFiled.{chosen_new, chosen_named, chosen_asks, next_more, rising_filed}
use Rattle.sva_parts_by_labels.proofs.JobTableSound.{first_sound, reserved_sound, taken_sound, answered_sound, reset_sound}

job_by : (x u y b z i : ℕ) → x ≡ u → y ≡ b → z ≡ i → ((x == u && y == b) && z == i) ≡ true
job_by x u y b z i h k l = grind (arith, nat_tests)

-- a job that is made, if one is, is the job
made_is : (last : Bool) (made job : Job) → IsIn job (option_to_list (if last then Some made else None)) → (last ≡ true) × (made ≡ job)
made_is true made job (inl e) = (refl, e)
made_is true made job (inr m) = absurd m
made_is false made job m = absurd m

made_in : (last : Bool) (made : Job) → last ≡ true → IsIn made (option_to_list (if last then Some made else None))
made_in true made h = inl refl
made_in false made h = absurd (cc (h))

module _ (workers : ℕ) (s : JobTable) (u b : ℕ) (request : PageRequest) (k : IsSound workers s) (anew : BeginsAnew workers s u b request.index) where
  abbrev gs : List OpenGroup
  gs = s.groups.groups

  abbrev next : ℕ
  next = s.groups.next

  abbrev after : List OpenGroup
  after = filed_among next u b request gs

  abbrev unfinished : OpenGroup → Bool
  unfinished = is_collecting u b request.index

  abbrev taker : OpenGroup
  taker = chosen next u b request gs

  abbrev From : OpenGroup → Type 0
  From g = FiledFrom next u b request gs g

  -- the job that is made where this is the last request
  abbrev made : Job
  made =
      record {
        unit = u;
        binding = b;
        index = request.index;
        asks = unfinished_asks u b request.index gs ++ ask_of request ∷ [];
        serial = serial_for s.groups u b request.index;
      }

  abbrev t : JobTable
  t = filed s u b request

  from : (g : OpenGroup) → IsIn g after → From g
  from g m = in_filed next u b request g gs m

  rising_after : AreRising 0 t.groups.next after
  rising_after = rising_filed next u b request 0 gs k.rising

  named : Same taker.unit taker.binding taker.index u b request.index
  named = chosen_named next u b request gs

  -- jobs that are kept: those before, and the one that is made
  kept_from : (job : Job) → IsKept t job → IsKept s job ⊎ ((request.last ≡ true) × (made ≡ job))
  kept_from job (inr held) = inl (inr held)
  kept_from job (inl m) = go (in_append job s.jobs (option_to_list (if request.last then Some made else None)) m)
    where
      go : IsIn job s.jobs ⊎ IsIn job (option_to_list (if request.last then Some made else None)) → IsKept s job ⊎ ((request.last ≡ true) × (made ≡ job))
      go (inl n) = inl (inl n)
      go (inr n) = inr (made_is request.last made job n)

  still_kept : (job : Job) → IsKept s job → IsKept t job
  still_kept job (inl m) = inl (left_in job s.jobs (option_to_list (if request.last then Some made else None)) m)
  still_kept job (inr held) = inr held

  made_kept : request.last ≡ true → IsKept t made
  made_kept h = inl (right_in made s.jobs (option_to_list (if request.last then Some made else None)) (made_in request.last made h))

  -- where the request begins a group, no job is of its unit, binding and index
  no_job : list_any unfinished gs ≡ false → (job : Job) → IsKept s job → job.unit ≡ u → job.binding ≡ b → job.index ≡ request.index → ⊥
  no_job none job kept h l m = go kept (anew (begun_seen u b request.index gs ∙ none))
    where
      mine : is_job_of u b request.index (job_seen job) ≡ true
      mine = job_by job.unit u job.binding b job.index request.index h l m

      go : IsKept s job → HasNoJob (jobs_seen s) (hands_seen workers s) u b request.index → ⊥
      go (inl n) none_is =
          absurd (cc (sym (in_any (is_job_of u b request.index) (job_seen job) (jobs_seen s) (mapped_in job_seen job s.jobs n) mine) ∙ none_is.queued))
      go (inr (x, e)) none_is = at (cases_lt x workers)
        where
          at : (x < workers) ⊎ (workers ≤ x) → ⊥
          at (inl few) = absurd (cc (sym mine ∙ none_is.held x (job_seen job) (held_at workers x s.hands few ∙ ap (option_map job_seen) e)))
          at (inr more) = absurd (cc (sym e ∙ k.hands x more))

  -- an unfinished group of the unit, binding and index takes the request
  begun_any : (g : OpenGroup) → IsIn g gs → unfinished g ≡ true → list_any unfinished gs ≡ true
  begun_any g m h = in_any unfinished g gs m h

  is_taker : (g : OpenGroup) → IsIn g gs → unfinished g ≡ true → g.serial ≡ taker.serial
  is_taker g m h =
      let c = chosen_in next u b request gs (begun_any g m h) in
      let n : Same g.unit g.binding g.index u b request.index = unfinished_name u b request.index g h in
      k.single g taker m c.0 (unfinished_part u b request.index g h) (unfinished_part u b request.index taker c.1)
      (record { units = n.units ∙ sym named.units; bindings = n.bindings ∙ sym named.bindings; indexes = n.indexes ∙ sym named.indexes })

  new_taker : list_any unfinished gs ≡ false → taker.serial ≡ next
  new_taker none = ap (λ (g : OpenGroup). g.serial) (chosen_new next u b request gs none)

  -- no job is of a group that isn't whole
  not_yet : (job : Job) → IsKept s job → (g : OpenGroup) → IsIn g gs → unfinished g ≡ true → g.serial ≡ job.serial → ⊥
  not_yet job kept g m h e = absurd (cc (sym (unfinished_part u b request.index g h) ∙ (k.jobs job g kept m e).last))

  -- a group by its fields
  serial_as : (g h : OpenGroup) → g ≡ h → g.serial ≡ h.serial
  serial_as g h e = ap (λ (x : OpenGroup). x.serial) e

  taker_whole : request.last ≡ true → IsWhole (with_request taker request) made
  taker_whole h =
      record {
        named = record { units = named.units; bindings = named.bindings; indexes = named.indexes };
        asks = ap (λ l. l ++ ask_of request ∷ []) (chosen_asks next u b request gs);
        last = h;
      }

  jobs_after : (job : Job) (g : OpenGroup) → IsKept t job → IsIn g after → g.serial ≡ job.serial → IsWhole g job
  jobs_after job g kept m e = go (kept_from job kept)
    where
      old : IsKept s job → From g → IsWhole g job
      old j (Old n) = k.jobs job g j n e
      old j (Joined h n c is) = absurd (not_yet job j h n c (sym (serial_as g (with_request h request) is) ∙ e))
      old j (Begun none is) =
          let given = k.given job j in
          let same = serial_as g (with_request (new_group next u b request.index) request) is in
          absurd (omega (arith, given, same, e))

      go : IsKept s job ⊎ ((request.last ≡ true) × (made ≡ job)) → IsWhole g job
      go (inl j) = old j (from g m)
      go (inr (last, is)) =
          let same : g.serial ≡ (with_request taker request).serial = e ∙ sym (ap (λ (j : Job). j.serial) is) in
          let one : g ≡ with_request taker request =
          one_of_serial 0 t.groups.next after rising_after g (with_request taker request) m (chosen_filed next u b request gs) same in
          subst (λ j. IsWhole g j) is (subst (λ x. IsWhole x made) (sym one) (taker_whole last))

  own_after : (job : Job) (g : OpenGroup) → IsKept t job → IsIn g after → IsNamed g job → g.serial ≡ job.serial
  own_after job g kept m n = go (kept_from job kept)
    where
      old : IsKept s job → From g → g.serial ≡ job.serial
      old j (Old l) = k.own job g j l n
      old j (Joined h l c is) =
          serial_as g (with_request h request) is
          ∙ k.own job h j l
          (record {
            units = sym (ap (λ (x : OpenGroup). x.unit) is) ∙ n.units;
            bindings = sym (ap (λ (x : OpenGroup). x.binding) is) ∙ n.bindings;
            indexes = sym (ap (λ (x : OpenGroup). x.index) is) ∙ n.indexes;
          })
      old j (Begun none is) =
          absurd (no_job none job j
          (sym n.units ∙ ap (λ (x : OpenGroup). x.unit) is)
          (sym n.bindings ∙ ap (λ (x : OpenGroup). x.binding) is)
          (sym n.indexes ∙ ap (λ (x : OpenGroup). x.index) is))

      -- a whole group of the name has a job, which is that of the taker too
      whole : (x : OpenGroup) → IsIn x gs → x.unit ≡ u → x.binding ≡ b → x.index ≡ request.index → x.last ≡ true → x.serial ≡ taker.serial
      whole x l p q r last = by (k.made x l last)
        where
          by : (j : Job) × IsKept s j × (j.serial ≡ x.serial) → x.serial ≡ taker.serial
          by (j, is_kept, e) = at (list_any unfinished gs) refl (k.jobs j x is_kept l (sym e))
            where
              at : (any : Bool) → list_any unfinished gs ≡ any → IsWhole x j → x.serial ≡ taker.serial
              at true a w =
                  sym e
                  ∙ sym (k.own j taker is_kept (chosen_in next u b request gs a).0
                  (record {
                    units = named.units ∙ sym p ∙ w.named.units;
                    bindings = named.bindings ∙ sym q ∙ w.named.bindings;
                    indexes = named.indexes ∙ sym r ∙ w.named.indexes;
                  }))
              at false a w = absurd (no_job a j is_kept (sym w.named.units ∙ p) (sym w.named.bindings ∙ q) (sym w.named.indexes ∙ r))

      new : g.unit ≡ u → g.binding ≡ b → g.index ≡ request.index → From g → g.serial ≡ taker.serial
      new p q r (Old l) = by g.last refl
        where
          by : (last : Bool) → g.last ≡ last → g.serial ≡ taker.serial
          by true h = whole g l p q r h
          by false h = is_taker g l (unfinished_from u b request.index g p q r h)
      new p q r (Joined h l c is) = serial_as g (with_request h request) is ∙ is_taker h l c
      new p q r (Begun none is) = serial_as g (with_request (new_group next u b request.index) request) is ∙ sym (new_taker none)

      go : IsKept s job ⊎ ((request.last ≡ true) × (made ≡ job)) → g.serial ≡ job.serial
      go (inl j) = old j (from g m)
      go (inr (last, is)) =
          new
          (n.units ∙ sym (ap (λ (j : Job). j.unit) is))
          (n.bindings ∙ sym (ap (λ (j : Job). j.binding) is))
          (n.indexes ∙ sym (ap (λ (j : Job). j.index) is))
          (from g m)
          ∙ ap (λ (j : Job). j.serial) is

  made_after : (g : OpenGroup) → IsIn g after → g.last ≡ true → (job : Job) × IsKept t job × (job.serial ≡ g.serial)
  made_after g m last = go (from g m)
    where
      go : From g → (job : Job) × IsKept t job × (job.serial ≡ g.serial)
      go (Old n) = let (job, j, e) = k.made g n last in (job, still_kept job j, e)
      go (Joined h n c is) =
          (made, made_kept (sym (ap (λ (x : OpenGroup). x.last) is) ∙ last), sym (is_taker h n c) ∙ sym (serial_as g (with_request h request) is))
      go (Begun none is) = (
        made,
        made_kept (sym (ap (λ (x : OpenGroup). x.last) is) ∙ last),
        new_taker none ∙ sym (serial_as g (with_request (new_group next u b request.index) request) is),
      )

  given_after : (job : Job) → IsKept t job → job.serial < t.groups.next
  given_after job kept = go (kept_from job kept)
    where
      go : IsKept s job ⊎ ((request.last ≡ true) × (made ≡ job)) → job.serial < t.groups.next
      go (inl j) = let old = k.given job j in let more = next_more next u b request gs in omega (arith, old, more)
      go (inr (last, is)) =
          subst (λ (j : Job). j.serial < t.groups.next) is
          (rising_between 0 t.groups.next after rising_after (with_request taker request) (chosen_filed next u b request gs)).1

  -- no job has the serial of the group that takes the request
  apart : (job : Job) → IsKept s job → job.serial ≡ taker.serial → ⊥
  apart job kept e = go (list_any unfinished gs) refl
    where
      go : (any : Bool) → list_any unfinished gs ≡ any → ⊥
      go true h = let c = chosen_in next u b request gs h in not_yet job kept taker c.0 c.1 (sym e)
      go false h = let given = k.given job kept in let new = new_taker h in absurd (omega (arith, given, new, e))

  once_after : (n : ℕ) → jobs_with n t ≤ 1
  once_after n = go request.last (taker.serial == n) refl
    where
      go : (last mine : Bool) → (taker.serial == n) ≡ mine
          → count_by (is_with n) (s.jobs ++ option_to_list (if last then Some made else None)) + count_by (holds n) s.hands ≤ 1
      go false mine h = let more = count_append (is_with n) s.jobs [] in let one = k.once n in omega (arith, more, one)
      go true false h =
          let more = count_append (is_with n) s.jobs (made ∷ []) in
          let own = count_cons (is_with n) made [] in
          let other : ◌≡◌ {A = ℕ} (if is_with n made then 1 else 0) 0 = ap (λ t. if t then 1 else 0) h in
          let one = k.once n in
          omega (arith, more, own, other, one)
      go true true h =
          let more = count_append (is_with n) s.jobs (made ∷ []) in
          let own = count_cons (is_with n) made [] in
          let here : ◌≡◌ {A = ℕ} (if is_with n made then 1 else 0) 1 = ap (λ t. if t then 1 else 0) h in
          let is : taker.serial ≡ n = eqb-true taker.serial n h in
          let queued = count_none (is_with n) s.jobs (λ j m. ne_eqb j.serial n (λ e. apart j (inl m) (e ∙ sym is))) in
          let held = held_none n s.hands (λ x j e. ne_eqb j.serial n (λ c. apart j (inr (x, e)) (c ∙ sym is))) in
          omega (arith, more, own, here, queued, held)

  -- an unfinished group after, as it was before
  record WasPart (g h : OpenGroup) : Type 0 where
    there : IsIn h gs
    part : h.last ≡ false
    names : AreNamesakes g h
    serials : g.serial ≡ h.serial

  was_part : (g : OpenGroup) → From g → g.last ≡ false
      → ((h : OpenGroup) × WasPart g h) ⊎ ((list_any unfinished gs ≡ false) × (g ≡ with_request (new_group next u b request.index) request))
  was_part g (Old m) part = inl (g, record { there = m; part = part; names = record { units = refl; bindings = refl; indexes = refl }; serials = refl })
  was_part g (Joined h m c is) part =
      inl (
        h,
        record {
          there = m;
          part = unfinished_part u b request.index h c;
          names =
              record {
                units = ap (λ (x : OpenGroup). x.unit) is;
                bindings = ap (λ (x : OpenGroup). x.binding) is;
                indexes = ap (λ (x : OpenGroup). x.index) is;
              };
          serials = serial_as g (with_request h request) is;
        },
      )
  was_part g (Begun none is) part = inr (none, is)

  abbrev new_one : OpenGroup
  new_one = with_request (new_group next u b request.index) request

  -- one that begins has no namesake among those
  no_namesake : (g h x : OpenGroup) → list_any unfinished gs ≡ false → g ≡ new_one → AreNamesakes g h → WasPart h x → ⊥
  no_namesake g h x none is n w =
      absurd (cc (sym none ∙ begun_any x w.there
      (unfinished_from u b request.index x
      (sym w.names.units ∙ sym n.units ∙ ap (λ (y : OpenGroup). y.unit) is)
      (sym w.names.bindings ∙ sym n.bindings ∙ ap (λ (y : OpenGroup). y.binding) is)
      (sym w.names.indexes ∙ sym n.indexes ∙ ap (λ (y : OpenGroup). y.index) is)
      w.part)))

  single_after : (g h : OpenGroup) → IsIn g after → IsIn h after → g.last ≡ false → h.last ≡ false → AreNamesakes g h → g.serial ≡ h.serial
  single_after g h m l p q n = go (was_part g (from g m) p) (was_part h (from h l) q)
    where
      go : ((x : OpenGroup) × WasPart g x) ⊎ ((list_any unfinished gs ≡ false) × (g ≡ new_one))
          → ((y : OpenGroup) × WasPart h y) ⊎ ((list_any unfinished gs ≡ false) × (h ≡ new_one)) → g.serial ≡ h.serial
      go (inl (x, v)) (inl (y, w)) =
          v.serials
          ∙ k.single x y v.there w.there v.part w.part
          (record {
            units = sym v.names.units ∙ n.units ∙ w.names.units;
            bindings = sym v.names.bindings ∙ n.bindings ∙ w.names.bindings;
            indexes = sym v.names.indexes ∙ n.indexes ∙ w.names.indexes;
          })
          ∙ sym w.serials
      go (inl (x, v)) (inr (none, is)) =
          absurd (no_namesake h g x none is (record { units = sym n.units; bindings = sym n.bindings; indexes = sym n.indexes }) v)
      go (inr (none, is)) (inl (y, w)) = absurd (no_namesake g h y none is n w)
      go (inr (none, is)) (inr (none_too, is_too)) = serial_as g new_one is ∙ sym (serial_as h new_one is_too)

  filed_sound : IsSound workers t
  filed_sound =
      record {
        rising = rising_after;
        single = single_after;
        jobs = jobs_after;
        own = own_after;
        made = made_after;
        once = once_after;
        given = given_after;
        four = k.four;
        hands = k.hands;
      }

pub sound_is_kept : SoundIsKept
sound_is_kept =
    record {
      first = first_sound;
      reserved = reserved_sound;
      filed = filed_sound;
      taken = λ workers s worker k low of_four empty. taken_sound workers s worker k low of_four empty;
      answered = answered_sound;
      reset = reset_sound;
    }
