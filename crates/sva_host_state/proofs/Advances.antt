-- A binding that was unbound goes on, by labels.
use Rattle.std.proofs.Common.{◌≡◌, refl, ap, sym, ◌∙◌, subst, append-nil, ℕ, zero, suc, ◌+◌, ◌<◌, ◌≤◌, ◌^◌, Bool, true, false, arith}
use Rattle.std.specs.Prelude.{◌&&◌, ◌||◌, not, nat_lt, if◌then◌else◌, Result, Ok, Err, IsErr, IsErrAnd, Option, Some, None, List, [], ◌∷◌, map, length}
use Rattle.std.specs.Prelude.{slice_set, slice_index_or}
use Rattle.std.proofs.lemmas.Bool.Decides.{nat_tests}
use Rattle.sva_step.specs.declared.answers.Answer.{Answer}
use Rattle.sva_step.specs.declared.answers.Answer.TheVariants as answer
use Rattle.sva_step.specs.declared.refusals.Refusal.{Refusal}
use Rattle.sva_step.specs.declared.refusals.Refusal.TheVariants as refusal
use Rattle.sva_step.specs.declared.steps.Step.TheVariants as step
use Rattle.sva_model.specs.Refusals.{Cause, unless_refused}
use Rattle.sva_model.specs.Steps.{Reply}
use Rattle.sva_model.specs.Wire.{Wire, BindingWire, UnitWire, StageWire, Descriptor}
use Rattle.sva_model.specs.Wire.StageWire.{LiveWire, StoppingWire, DrainingWire, InvalidatingWire, QuietWire, LostWire}
use Rattle.sva_labels.specs.Finding.{idle, unit_of, binding_of, is_wait_done, has_room}
use Rattle.sva_labels.specs.Causes.{resetting, numbers_spent}
use Rattle.sva_labels.specs.Host.{Decision, checked}
use Rattle.sva_labels.specs.Moves.{Move, moved, all_moved, with_stage, with_unit, with_descriptors}
use Rattle.sva_labels.specs.Outcomes as outcomes
use Rattle.sva_labels.specs.Outcomes.{of_binding, result_of}
use Rattle.sva_labels.specs.Sound.{IsSound}
use Rattle.sva_pasid.specs.Moves.{Kind}
use Rattle.sva_pasid.specs.declared.places.TableEntry.{TableEntry}
use Rattle.sva_iommu.specs.Seen as seen
use Rattle.sva_host_state.specs.declared.advancing.Course.{Course}
use Rattle.sva_host_state.specs.declared.advancing.Course.TheVariants.{Drain, Invalidate, Settle, Release}
use Rattle.sva_host_state.specs.declared.host_state.HostState.TheInside.{Inside as HostState}
use Rattle.sva_host_state.specs.declared.host_state.Port.{Port}
use Rattle.sva_host_state.specs.Advancing.{course_by, course_of, advance_by, advance_causes, MayAdvance, decide_advance}
use Rattle.sva_host_state.specs.Advancing.{AdvancesBy, is_quiet, is_due, descriptors_of}
use Rattle.sva_host_state.specs.Inner.{part_seen, wire_of, IsHostState}
use Rattle.sva_host_state.specs.Stages.{IsIn, IsSeenIn, MovesTo, Goes}
use Rattle.sva_host_state.specs.Steps.{Does, PortFor}
use Rattle.sva_host_state.proofs.Bound.{number_is, home_there, stage_there, kind_in}
use Rattle.sva_endpoint.proofs.CallFacts.{given}
use Rattle.sva_host_state.proofs.Deciding.{IsOther, AreOther, AreClear, all_clear, refused_by}
use Rattle.sva_host_state.proofs.Devices.{is_err}
use Rattle.sva_host_state.proofs.Ports.{IsPort}
use Rattle.sva_host_state.proofs.Refusing.{refuses, allows, accepts, is_other, spent, left_over, not_spent}
use Rattle.sva_host_state.proofs.Units.{with_unit_seen}

-- No group of page requests is filed at a host.

pub no_groups : (ports : List Port) (e : ℕ) → (slice_index_or (map part_seen ports) e idle).host_groups ≡ []
no_groups [] e = refl
no_groups (p ∷ ports) zero = refl
no_groups (p ∷ ports) (suc e) = no_groups ports e

-- What refuses it. `g` tells whether a group of the binding is open.

there : (v : Wire) (g : Bool) (n : ℕ) (b : BindingWire) → binding_of v n ≡ Some b
    → unless_refused (advance_causes v g (binding_of v n)) (course_of (binding_of v n)) ≡ unless_refused (advance_by v g b b.stage) (course_by b b.stage)
there v g n b found = ap (λ (o : Option BindingWire). unless_refused (advance_causes v g o) (course_of o)) found

-- what is asked where the unit is open
abbrev opened_causes : Wire → Bool → BindingWire → StageWire → List Cause
opened_causes w g b (StoppingWire marked) =
    (not marked, refusal.NotYet) ∷ (not (has_room (unit_of w b.endpoint) 1), refusal.QueueFull) ∷ numbers_spent w.next_cookie 1 ∷ []
opened_causes w g b (DrainingWire cookie) =
    (not (is_wait_done (unit_of w b.endpoint) cookie) || g, refusal.NotYet)
    ∷ (not (has_room (unit_of w b.endpoint) 2), refusal.QueueFull)
    ∷ numbers_spent w.next_cookie 1
    ∷ []
opened_causes w g b (InvalidatingWire cookie) = (not (is_wait_done (unit_of w b.endpoint) cookie), refusal.NotYet) ∷ []
opened_causes w g b QuietWire = []
opened_causes w g b stage = (true, refusal.NotYet) ∷ []

is_asked : (v : Wire) (g : Bool) (b : BindingWire) (s : StageWire) → is_quiet s ≡ false → advance_by v g b s ≡ resetting v b.endpoint ∷ opened_causes v g b s
is_asked v g b LiveWire is = refl
is_asked v g b (StoppingWire marked) is = refl
is_asked v g b (DrainingWire cookie) is = refl
is_asked v g b (InvalidatingWire cookie) is = refl
is_asked v g b QuietWire is = absurd (cc (is))
is_asked v g b LostWire is = refl

opened : (v : Wire) (g : Bool) (n : ℕ) (b : BindingWire) → binding_of v n ≡ Some b → is_quiet b.stage ≡ false → (unit_of v b.endpoint).is_open ≡ true
    → unless_refused (advance_causes v g (binding_of v n)) (course_of (binding_of v n)) ≡ unless_refused (opened_causes v g b b.stage) (course_by b b.stage)
opened v g n b found stays is_open =
    there v g n b found
    ∙ ap (λ (cs : List Cause). unless_refused cs (course_by b b.stage)) (is_asked v g b b.stage stays)
    ∙ ap (λ (c : Bool). if not c then Err refusal.Resetting else unless_refused (opened_causes v g b b.stage) (course_by b b.stage)) is_open

-- a wait that isn't done, or a group that is open, holds it up
early_by : (done g : Bool) → done && not g ≡ false → not done || g ≡ true
early_by false g is = refl
early_by true true is = refl
early_by true false is = absurd (cc (is))

-- where the wait is done and no group is open nothing does
ready_by : (done g : Bool) → done && not g ≡ true → not done || g ≡ false
ready_by false g is = absurd (cc (is))
ready_by true true is = absurd (cc (is))
ready_by true false is = refl

done_of : (done g : Bool) → not done || g ≡ false → done ≡ true
done_of true g is = refl
done_of false g is = absurd (cc (is))

closed_of : (done g : Bool) → not done || g ≡ false → g ≡ false
closed_of true g is = is
closed_of false g is = absurd (cc (is))

pub no_such_binding : (v : Wire) (g : Bool) (n : ℕ) → binding_of v n ≡ None → MayAdvance v g n (Err refusal.NoSuchBinding)
no_such_binding v g n none = sym (ap (λ (o : Option BindingWire). unless_refused (advance_causes v g o) (course_of o)) none)

pub quiet_goes : (v : Wire) (g : Bool) (n : ℕ) (b : BindingWire) → binding_of v n ≡ Some b → is_quiet b.stage ≡ true
    → MayAdvance v g n (Ok (course_by b b.stage))
quiet_goes v g n b found quiet = sym (there v g n b found ∙ go b.stage quiet)
  where
    go : (s : StageWire) → is_quiet s ≡ true → unless_refused (advance_by v g b s) (course_by b s) ≡ Ok (course_by b s)
    go QuietWire is = refl
    go LiveWire is = absurd (cc (is))
    go (StoppingWire marked) is = absurd (cc (is))
    go (DrainingWire cookie) is = absurd (cc (is))
    go (InvalidatingWire cookie) is = absurd (cc (is))
    go LostWire is = absurd (cc (is))

pub in_reset : (v : Wire) (g : Bool) (n : ℕ) (b : BindingWire) → binding_of v n ≡ Some b → is_quiet b.stage ≡ false → (unit_of v b.endpoint).is_open ≡ false
    → MayAdvance v g n (Err refusal.Resetting)
in_reset v g n b found stays closed =
    sym
    (there v g n b found
    ∙ ap (λ (cs : List Cause). unless_refused cs (course_by b b.stage)) (is_asked v g b b.stage stays)
    ∙ refuses (course_by b b.stage) [] (opened_causes v g b b.stage) (resetting v b.endpoint) tt (ap not closed))

pub not_yet : (v : Wire) (g : Bool) (n : ℕ) (b : BindingWire) → binding_of v n ≡ Some b → is_quiet b.stage ≡ false → (unit_of v b.endpoint).is_open ≡ true
    → is_due (unit_of v b.endpoint) g b.stage ≡ false → MayAdvance v g n (Err refusal.NotYet)
not_yet v g n b found stays is_open early = sym (opened v g n b found stays is_open ∙ go b.stage stays early)
  where
    go : (s : StageWire) → is_quiet s ≡ false → is_due (unit_of v b.endpoint) g s ≡ false → unless_refused (opened_causes v g b s) (course_by b s)
        ≡ Err refusal.NotYet
    go LiveWire stays is = refl
    go (StoppingWire marked) stays is = ap (λ (m : Bool). unless_refused (opened_causes v g b (StoppingWire m)) (Drain b.endpoint)) is
    go (DrainingWire cookie) stays is =
        refuses (Invalidate b.endpoint b.pasid) [] ((not (has_room (unit_of v b.endpoint) 2), refusal.QueueFull) ∷ numbers_spent v.next_cookie 1 ∷ [])
        (not (is_wait_done (unit_of v b.endpoint) cookie) || g, refusal.NotYet) tt
        (early_by (is_wait_done (unit_of v b.endpoint) cookie) g is)
    go (InvalidatingWire cookie) stays is =
        refuses (Settle b.endpoint) [] [] (not (is_wait_done (unit_of v b.endpoint) cookie), refusal.NotYet) tt (ap not is)
    go QuietWire stays is = absurd (cc (stays))
    go LostWire stays is = refl

-- one that waits for its invalidation submits nothing
pub settles_next : (v : Wire) (g : Bool) (n : ℕ) (b : BindingWire) → binding_of v n ≡ Some b → is_quiet b.stage ≡ false
    → (unit_of v b.endpoint).is_open ≡ true
    → is_due (unit_of v b.endpoint) g b.stage ≡ true → descriptors_of b.stage ≡ 0 → MayAdvance v g n (Ok (course_by b b.stage))
settles_next v g n b found stays is_open due none = sym (opened v g n b found stays is_open ∙ go b.stage stays due none)
  where
    go : (s : StageWire) → is_quiet s ≡ false → is_due (unit_of v b.endpoint) g s ≡ true → descriptors_of s ≡ 0
        → unless_refused (opened_causes v g b s) (course_by b s) ≡ Ok (course_by b s)
    go LiveWire stays is none = absurd (cc (is))
    go (StoppingWire marked) stays is none = absurd (omega (arith, none))
    go (DrainingWire cookie) stays is none = absurd (omega (arith, none))
    go (InvalidatingWire cookie) stays is none = allows (Settle b.endpoint)
        ((not (is_wait_done (unit_of v b.endpoint) cookie), refusal.NotYet) ∷ []) (ap not is, tt)
    go QuietWire stays is none = absurd (cc (stays))
    go LostWire stays is none = absurd (cc (is))

-- the others ask for room and for a cookie
abbrev submitting : Wire → (endpoint descriptors : ℕ) → List Cause
submitting w e k = (not (has_room (unit_of w e) k), refusal.QueueFull) ∷ numbers_spent w.next_cookie 1 ∷ []

submits_next : (v : Wire) (g : Bool) (n : ℕ) (b : BindingWire) → binding_of v n ≡ Some b → is_quiet b.stage ≡ false → (unit_of v b.endpoint).is_open ≡ true
    → is_due (unit_of v b.endpoint) g b.stage ≡ true → (descriptors_of b.stage ≡ 0 → ⊥)
    → unless_refused (advance_causes v g (binding_of v n)) (course_of (binding_of v n))
    ≡ unless_refused (submitting v b.endpoint (descriptors_of b.stage)) (course_by b b.stage)
submits_next v g n b found stays is_open due some = opened v g n b found stays is_open ∙ go b.stage due some
  where
    go : (s : StageWire) → is_due (unit_of v b.endpoint) g s ≡ true → (descriptors_of s ≡ 0 → ⊥)
        → unless_refused (opened_causes v g b s) (course_by b s) ≡ unless_refused (submitting v b.endpoint (descriptors_of s)) (course_by b s)
    go LiveWire is some = absurd (some refl)
    go (StoppingWire marked) is some = ap (λ (m : Bool). unless_refused (opened_causes v g b (StoppingWire m)) (Drain b.endpoint)) is
    go (DrainingWire cookie) is some =
        ap (λ (c : Bool). if c then Err refusal.NotYet else unless_refused (submitting v b.endpoint 2) (Invalidate b.endpoint b.pasid))
        (ready_by (is_wait_done (unit_of v b.endpoint) cookie) g is)
    go (InvalidatingWire cookie) is some = absurd (some refl)
    go QuietWire is some = absurd (some refl)
    go LostWire is some = absurd (some refl)

pub queue_full : (v : Wire) (g : Bool) (n : ℕ) (b : BindingWire) → binding_of v n ≡ Some b → is_quiet b.stage ≡ false → (unit_of v b.endpoint).is_open ≡ true
    → is_due (unit_of v b.endpoint) g b.stage ≡ true → (descriptors_of b.stage ≡ 0 → ⊥)
    → has_room (unit_of v b.endpoint) (descriptors_of b.stage) ≡ false → MayAdvance v g n (Err refusal.QueueFull)
queue_full v g n b found stays is_open due some full =
    sym
    (submits_next v g n b found stays is_open due some
    ∙ refuses (course_by b b.stage) [] (numbers_spent v.next_cookie 1 ∷ []) (
      not (has_room (unit_of v b.endpoint) (descriptors_of b.stage)),
      refusal.QueueFull,
    ) tt (ap not full))

pub cookies_spent : (v : Wire) (g : Bool) (n : ℕ) (b : BindingWire) → binding_of v n ≡ Some b → is_quiet b.stage ≡ false
    → (unit_of v b.endpoint).is_open ≡ true
    → is_due (unit_of v b.endpoint) g b.stage ≡ true → (descriptors_of b.stage ≡ 0 → ⊥)
    → has_room (unit_of v b.endpoint) (descriptors_of b.stage) ≡ true → 2 ^ 63 ≤ v.next_cookie → MayAdvance v g n (Err refusal.NumbersSpent)
cookies_spent v g n b found stays is_open due some room over =
    sym
    (submits_next v g n b found stays is_open due some
    ∙ refuses (course_by b b.stage) ((not (has_room (unit_of v b.endpoint) (descriptors_of b.stage)), refusal.QueueFull) ∷ []) []
    (numbers_spent v.next_cookie 1) (ap not room, tt)
    (spent (2 ^ 63) v.next_cookie over))

pub goes_on : (v : Wire) (g : Bool) (n : ℕ) (b : BindingWire) → binding_of v n ≡ Some b → is_quiet b.stage ≡ false → (unit_of v b.endpoint).is_open ≡ true
    → is_due (unit_of v b.endpoint) g b.stage ≡ true → (descriptors_of b.stage ≡ 0 → ⊥)
    → has_room (unit_of v b.endpoint) (descriptors_of b.stage) ≡ true → v.next_cookie < 2 ^ 63 → MayAdvance v g n (Ok (course_by b b.stage))
goes_on v g n b found stays is_open due some room under =
    sym
    (submits_next v g n b found stays is_open due some
    ∙ allows (course_by b b.stage) (submitting v b.endpoint (descriptors_of b.stage)) (ap not room, (left_over (2 ^ 63) v.next_cookie under, tt)))

others : (v : Wire) (g : Bool) (o : Option BindingWire) → AreOther (advance_causes v g o)
others v g None = (tt, tt)
others v g (Some b) = go b.stage
  where
    go : (s : StageWire) → AreOther (advance_by v g b s)
    go LiveWire = (tt, (tt, tt))
    go (StoppingWire marked) = (tt, (tt, (tt, (tt, tt))))
    go (DrainingWire cookie) = (tt, (tt, (tt, (tt, tt))))
    go (InvalidatingWire cookie) = (tt, (tt, tt))
    go QuietWire = tt
    go LostWire = (tt, (tt, tt))

pub advance_refused : (v : Wire) (g : Bool) (n : ℕ) (x : Refusal) → MayAdvance v g n (Err x) → AdvancesBy v g n (Err x) v
advance_refused v g n x refuses =
    let listed = advance_causes v g (binding_of v n) in
    subst (λ (cs : List Cause). Does (checked cs (result_of v (step.Advance n))) v (Err x) v) (append-nil listed)
    (refused_by (course_of (binding_of v n)) listed [] (result_of v (step.Advance n)) v x (others v g (binding_of v n)) (sym refuses))

pub refused_otherwise : (v : Wire) (g : Bool) (n : ℕ) (x : Refusal) → MayAdvance v g n (Err x) → IsOther x
refused_otherwise v g n x refuses = is_other (course_of (binding_of v n)) (advance_causes v g (binding_of v n)) x (others v g (binding_of v n)) refuses

-- what `?` gives back, of such a refusal
pub kept_by : (v : Wire) (g : Bool) (n : ℕ) (r : Reply) (x : Refusal) → IsErr r × IsErrAnd r (λ y. y ≡ x) → AdvancesBy v g n (Err x) v → AdvancesBy v g n r v
kept_by v g n r x answered is = subst (λ (a : Reply). AdvancesBy v g n a v) (sym (is_err r x answered)) is

-- The stage, by what comes next.

drain_stage : (b : BindingWire) (s : StageWire) (e : ℕ) → course_by b s ≡ Drain e → (m : Bool) × (s ≡ StoppingWire m) × (b.endpoint ≡ e)
drain_stage b LiveWire e is = absurd (cc (is))
drain_stage b (StoppingWire m) e is = let same : b.endpoint ≡ e = cc in (m, refl, same)
drain_stage b (DrainingWire cookie) e is = absurd (cc (is))
drain_stage b (InvalidatingWire cookie) e is = absurd (cc (is))
drain_stage b QuietWire e is = absurd (cc (is))
drain_stage b LostWire e is = absurd (cc (is))

invalidate_stage : (b : BindingWire) (s : StageWire) (e t : ℕ) → course_by b s ≡ Invalidate e t → (c : ℕ) × (s ≡ DrainingWire c) × (b.endpoint ≡ e)
    × (b.pasid ≡ t)
invalidate_stage b LiveWire e t is = absurd (cc (is))
invalidate_stage b (StoppingWire m) e t is = absurd (cc (is))
invalidate_stage b (DrainingWire cookie) e t is = let endpoint_of : b.endpoint ≡ e = cc in let pasid : b.pasid ≡ t = cc in (cookie, refl, endpoint_of, pasid)
invalidate_stage b (InvalidatingWire cookie) e t is = absurd (cc (is))
invalidate_stage b QuietWire e t is = absurd (cc (is))
invalidate_stage b LostWire e t is = absurd (cc (is))

settle_stage : (b : BindingWire) (s : StageWire) (e : ℕ) → course_by b s ≡ Settle e → (c : ℕ) × (s ≡ InvalidatingWire c) × (b.endpoint ≡ e)
settle_stage b LiveWire e is = absurd (cc (is))
settle_stage b (StoppingWire m) e is = absurd (cc (is))
settle_stage b (DrainingWire cookie) e is = absurd (cc (is))
settle_stage b (InvalidatingWire cookie) e is = let same : b.endpoint ≡ e = cc in (cookie, refl, same)
settle_stage b QuietWire e is = absurd (cc (is))
settle_stage b LostWire e is = absurd (cc (is))

release_stage : (v : Wire) (g : Bool) (b : BindingWire) (s : StageWire) → course_by b s ≡ Release → AreClear (advance_by v g b s) → s ≡ QuietWire
release_stage v g b LiveWire is clear = absurd (cc (clear.1.0))
release_stage v g b (StoppingWire m) is clear = absurd (cc (is))
release_stage v g b (DrainingWire cookie) is clear = absurd (cc (is))
release_stage v g b (InvalidatingWire cookie) is clear = absurd (cc (is))
release_stage v g b QuietWire is clear = refl
release_stage v g b LostWire is clear = absurd (cc (clear.1.0))

-- A binding that goes on.

pub record GoesOn (v : Wire) (g : Bool) (n : ℕ) (course : Course) : Type 0 where
  pub binding : BindingWire
  pub found : binding_of v n ≡ Some binding
  pub course_is : course_by binding binding.stage ≡ course
  pub clear : AreClear (advance_by v g binding binding.stage)

pub is_going : (v : Wire) (g : Bool) (n : ℕ) (course : Course) → MayAdvance v g n (Ok course) → GoesOn v g n course
is_going v g n course may = go (binding_of v n) refl may
  where
    go : (o : Option BindingWire) → binding_of v n ≡ o → Ok course ≡ unless_refused (advance_causes v g o) (course_of o) → GoesOn v g n course
    go None is may = absurd (none may)
      where
        none : ◌≡◌ {A = Result Course Refusal} (Ok course) (Err refusal.NoSuchBinding) → ⊥
        none wrong = cc
    go (Some b) is may = record {
      binding = b;
      found = is;
      course_is = given (course_by b b.stage) course (advance_by v g b b.stage) (sym may);
      clear = all_clear (course_by b b.stage) course (advance_by v g b b.stage) (sym may);
    }

decided : (v : Wire) (g : Bool) (n : ℕ) (b : BindingWire) (s : StageWire) → binding_of v n ≡ Some b → b.stage ≡ s → AreClear (advance_by v g b s)
    → decide_advance v g n ≡ record { reply = Ok (outcomes.advance_by b s).answer; moves = (outcomes.advance_by b s).moves }
decided v g n b s found at clear =
    ap (λ (o : Option BindingWire). checked (advance_causes v g o) (of_binding (λ x. outcomes.advance_by x x.stage) o)) found
    ∙ ap (λ (x : StageWire). checked (advance_by v g b x) (outcomes.advance_by b x)) at
    ∙ accepts (advance_by v g b s) (outcomes.advance_by b s) clear

not_false : (b : Bool) → not b ≡ false → b ≡ true
not_false true is = refl
not_false false is = absurd (cc (is))

-- one for which the unit gets descriptors
pub record Submits (v : Wire) (g : Bool) (n e k : ℕ) (stage : StageWire) (a : Answer) (m : Move) : Type 0 where
  pub binding : BindingWire
  pub found : binding_of v n ≡ Some binding
  pub endpoint_of : binding.endpoint ≡ e
  pub at : binding.stage ≡ stage
  pub is_open : (unit_of v e).is_open ≡ true
  pub room : has_room (unit_of v e) k ≡ true
  pub cookies : v.next_cookie < 2 ^ 63
  pub decides : decide_advance v g n ≡ record { reply = Ok a; moves = m ∷ [] }

-- one that is to drain asks for no group
pub drains : (v : Wire) (g : Bool) (n e : ℕ) → MayAdvance v g n (Ok (Drain e)) → (h : Bool)
    → Submits v h n e 1 (StoppingWire true) answer.Draining (Move.Drain e n)
drains v g n e may h =
    let goes = is_going v g n (Drain e) may in
    let b = goes.binding in
    let (m, at, endpoint_of) = drain_stage b b.stage e goes.course_is in
    let clear = subst (λ (s : StageWire). AreClear (advance_by v g b s)) at goes.clear in
    record {
      binding = b;
      found = goes.found;
      endpoint_of = endpoint_of;
      at = at ∙ ap StoppingWire (not_false m clear.1.0);
      is_open = ap (λ x. (unit_of v x).is_open) (sym endpoint_of) ∙ not_false (unit_of v b.endpoint).is_open clear.0;
      room = ap (λ x. has_room (unit_of v x) 1) (sym endpoint_of) ∙ not_false (has_room (unit_of v b.endpoint) 1) clear.1.1.0;
      cookies = not_spent (2 ^ 63) v.next_cookie clear.1.1.1.0;
      decides = decided v h n b (StoppingWire m) goes.found at clear
          ∙ (λ i. record { reply = Ok answer.Draining; moves = Move.Drain (endpoint_of i) (number_is v n b goes.found i) ∷ [] });
    }

-- one that is to be invalidated: its wait is done, and no group of it is open
pub record Invalidates (v : Wire) (g : Bool) (n e t : ℕ) : Type 0 where
  pub cookie : ℕ
  pub submits : Submits v g n e 2 (DrainingWire cookie) answer.Invalidating (Move.Invalidate e n t)
  pub is_done : is_wait_done (unit_of v e) cookie ≡ true
  pub closed : g ≡ false

pub invalidates : (v : Wire) (g : Bool) (n e t : ℕ) → MayAdvance v g n (Ok (Invalidate e t)) → Invalidates v g n e t
invalidates v g n e t may =
    let goes = is_going v g n (Invalidate e t) may in
    let b = goes.binding in
    let (c, at, endpoint_of, pasid) = invalidate_stage b b.stage e t goes.course_is in
    let clear = subst (λ (s : StageWire). AreClear (advance_by v g b s)) at goes.clear in
    record {
      cookie = c;
      submits = record {
        binding = b;
        found = goes.found;
        endpoint_of = endpoint_of;
        at = at;
        is_open = ap (λ x. (unit_of v x).is_open) (sym endpoint_of) ∙ not_false (unit_of v b.endpoint).is_open clear.0;
        room = ap (λ x. has_room (unit_of v x) 2) (sym endpoint_of) ∙ not_false (has_room (unit_of v b.endpoint) 2) clear.1.1.0;
        cookies = not_spent (2 ^ 63) v.next_cookie clear.1.1.1.0;
        decides = decided v g n b (DrainingWire c) goes.found at clear
            ∙ (λ i. record { reply = Ok answer.Invalidating; moves = Move.Invalidate (endpoint_of i) (number_is v n b goes.found i) (pasid i) ∷ [] });
      };
      is_done = ap (λ x. is_wait_done (unit_of v x) c) (sym endpoint_of) ∙ done_of (is_wait_done (unit_of v b.endpoint) c) g clear.1.0;
      closed = closed_of (is_wait_done (unit_of v b.endpoint) c) g clear.1.0;
    }

-- its unit is there
less_true : (a b : ℕ) → a < b → nat_lt a b ≡ true
less_true a b h = grind (arith, nat_tests)

pub home_is : (v : Wire) (g : Bool) (n e k : ℕ) (stage : StageWire) (a : Answer) (m : Move) → IsSound v → Submits v g n e k stage a m → e < length v.parts
home_is v g n e k stage a m sound is = subst (λ x. x < length v.parts) is.endpoint_of (home_there v n is.binding sound is.found)

pub port_for : (v : Wire) (g : Bool) (n e k : ℕ) (stage : StageWire) (a : Answer) (m : Move) → IsSound v → Submits v g n e k stage a m → PortFor v e (Ok e)
port_for v g n e k stage a m sound is = (refl, less_true e (length v.parts) (home_is v g n e k stage a m sound is))

-- its stage stands in its place
pub seen_there : (host : HostState) (v : Wire) (g : Bool) (n e k : ℕ) (stage : StageWire) (a : Answer) (m : Move) → IsHostState host → wire_of host ≡ v
    → Submits v g n e k stage a m → IsSeenIn stage n host.bindings
seen_there host v g n e k stage a m h view is =
    subst (λ (s : StageWire). IsSeenIn s n host.bindings) is.at (stage_there host v n is.binding h view is.found)

-- what is seen of a host with other ports and bindings, and the next cookie
abbrev pub wire_with : HostState → List Port → List TableEntry → Wire
wire_with host ports bindings =
    record (wire_of (record host { bindings = bindings; next_cookie = host.next_cookie + 1 })) { parts = map part_seen ports }

-- and both have changed
pub submitted :
    (host : HostState) (v : Wire) (g : Bool) (n e k : ℕ) (stage : StageWire) (a : Answer) (m : Move) (ds : ℕ → List Descriptor) (next : ℕ → StageWire)
    (port : Port) (items : List Port) (after : List TableEntry)
    → wire_of host ≡ v
    → Submits v g n e k stage a m
    → IsPort host e port
    → items ≡ slice_set host.ports.items e (record port {
      unit =
          seen.with_unit port.unit (with_descriptors port.unit.unit (ds host.next_cookie) host.next_cookie);
    })
    → MovesTo (next host.next_cookie) n host.bindings after
    → ((w : Wire) → moved w m ≡ record (with_unit w e (with_descriptors (unit_of w e) (ds w.next_cookie) w.next_cookie)) {
      bindings =
          with_stage n (next w.next_cookie) w.bindings;
      next_cookie = w.next_cookie + 1;
    })
    → AdvancesBy v g n (Ok a) (wire_with host items after)
submitted host v g n e k stage a m ds next port items after view is there written moves by =
    subst (λ (d : Decision). Does d v (Ok a)
    (wire_with host items after)) (sym is.decides)
    (refl, done ∙ ap (λ (w : Wire). all_moved w (m ∷ [])) view)
  where
    done : wire_with host items after ≡ moved (wire_of host) m
    done =
        ap (λ (ports : List Port). wire_with host ports after) written
        ∙ (λ i. record (with_unit_seen host e port (λ (u : UnitWire). with_descriptors u (ds host.next_cookie) host.next_cookie) there i) {
          bindings = moves.seen i;
          next_cookie = host.next_cookie + 1;
        })
        ∙ sym (by (wire_of host))

-- One of which nothing is left at the endpoint, and one that is over.

pub record Settles (v : Wire) (g : Bool) (n e : ℕ) : Type 0 where
  pub binding : BindingWire
  pub found : binding_of v n ≡ Some binding
  pub endpoint_of : binding.endpoint ≡ e
  pub cookie : ℕ
  pub at : binding.stage ≡ InvalidatingWire cookie
  pub is_done : is_wait_done (unit_of v e) cookie ≡ true
  pub decides : decide_advance v g n ≡ record { reply = Ok answer.Quiet; moves = Move.Quieten n ∷ [] }

pub settles : (v : Wire) (g : Bool) (n e : ℕ) → MayAdvance v g n (Ok (Settle e)) → (h : Bool) → Settles v h n e
settles v g n e may h =
    let goes = is_going v g n (Settle e) may in
    let b = goes.binding in
    let (c, at, endpoint_of) = settle_stage b b.stage e goes.course_is in
    let clear = subst (λ (s : StageWire). AreClear (advance_by v g b s)) at goes.clear in
    record {
      binding = b;
      found = goes.found;
      endpoint_of = endpoint_of;
      cookie = c;
      at = at;
      is_done = ap (λ x. is_wait_done (unit_of v x) c) (sym endpoint_of) ∙ not_false (is_wait_done (unit_of v b.endpoint) c) clear.1.0;
      decides = decided v h n b (InvalidatingWire c) goes.found at clear
          ∙ (λ i. record { reply = Ok answer.Quiet; moves = Move.Quieten (number_is v n b goes.found i) ∷ [] });
    }

pub record Releases (v : Wire) (g : Bool) (n : ℕ) : Type 0 where
  pub binding : BindingWire
  pub found : binding_of v n ≡ Some binding
  pub at : binding.stage ≡ QuietWire
  pub decides : decide_advance v g n ≡ record { reply = Ok answer.Released; moves = Move.Release n ∷ [] }

pub releases : (v : Wire) (g : Bool) (n : ℕ) (course : Course) → MayAdvance v g n (Ok course) → course ≡ Release → Releases v g n
releases v g n course may is =
    let goes = is_going v g n Release (subst (λ (c : Course). MayAdvance v g n (Ok c)) is may) in
    let b = goes.binding in
    let at = release_stage v g b b.stage goes.course_is goes.clear in
    record {
      binding = b;
      found = goes.found;
      at = at;
      decides = decided v g n b QuietWire goes.found at (subst (λ (s : StageWire). AreClear (advance_by v g b s)) at goes.clear)
          ∙ (λ i. record { reply = Ok answer.Released; moves = Move.Release (number_is v n b goes.found i) ∷ [] });
    }

pub settling_home : (v : Wire) (g : Bool) (n e : ℕ) → IsSound v → Settles v g n e → e < length v.parts
settling_home v g n e sound is = subst (λ x. x < length v.parts) is.endpoint_of (home_there v n is.binding sound is.found)

pub invalidating_there : (host : HostState) (v : Wire) (g : Bool) (n e : ℕ) → IsHostState host → wire_of host ≡ v → (is : Settles v g n e)
    → IsSeenIn (InvalidatingWire is.cookie) n host.bindings
invalidating_there host v g n e h view is =
    subst (λ (s : StageWire). IsSeenIn s n host.bindings) is.at (stage_there host v n is.binding h view is.found)

pub quiet_there : (host : HostState) (v : Wire) (g : Bool) (n : ℕ) → IsHostState host → wire_of host ≡ v → Releases v g n → IsIn Kind.quiet n host.bindings
quiet_there host v g n h view is =
    kind_in QuietWire n host.bindings (subst (λ (s : StageWire). IsSeenIn s n host.bindings) is.at (stage_there host v n is.binding h view is.found))

pub settled : (host : HostState) (v : Wire) (g : Bool) (n e : ℕ) (after : List TableEntry) → wire_of host ≡ v → Settles v g n e
    → MovesTo QuietWire n host.bindings after
    → AdvancesBy v g n (Ok answer.Quiet) (wire_of (record host { bindings = after }))
settled host v g n e after view is moves =
    subst (λ (d : Decision). Does d v (Ok answer.Quiet) (wire_of (record host { bindings = after }))) (sym is.decides)
    (refl, (λ i. record (wire_of host) { bindings = moves.seen i }) ∙ ap (λ (w : Wire). all_moved w (Move.Quieten n ∷ [])) view)

pub released : (host : HostState) (v : Wire) (g : Bool) (n : ℕ) (after : List TableEntry) → wire_of host ≡ v → Releases v g n → Goes n host.bindings after
    → AdvancesBy v g n (Ok answer.Released) (wire_of (record host { bindings = after }))
released host v g n after view is goes =
    subst (λ (d : Decision). Does d v (Ok answer.Released) (wire_of (record host { bindings = after }))) (sym is.decides)
    (refl, (λ i. record (wire_of host) { bindings = goes.seen i }) ∙ ap (λ (w : Wire). all_moved w (Move.Release n ∷ [])) view)
