-- The look back over the list of steps, and what the step reads: they say the same of which frames are withheld.
use Rattle.sva_model.specs.State.{PasidRule}
use Rattle.std.proofs.Common.{◌≡◌, ◌≢◌, ◌⊎◌, inl, inr, refl, ap, sym, subst, ◌∙◌, ℕ, ◌*◌, ◌^◌, ◌≤◌, Bool, true, false, arith, append_assoc}
use Rattle.std.specs.Prelude.{Some, ◌&&◌, ◌==◌, List, [], ◌∷◌, ◌++◌}
use Rattle.std.proofs.lemmas.Bool.{eqb-true}
use Rattle.std.proofs.lemmas.List.{append-nil}
use Rattle.sva_step.specs.declared.limits.Config.{Config}
use Rattle.sva_step.specs.declared.steps.Step.{Step}
use Rattle.sva_model.specs.State.{Owed, MappingState, World, opened}
use Rattle.sva_model.specs.State.Owed.{Nothing}
use Rattle.sva_model.specs.State.MappingState.{Unmade, Present, Gone}
use Rattle.sva_model.specs.States.{is_unreleased}
use Rattle.sva_model.specs.Unmappings.{bound, owed_by, gone_if, in_range}
use Rattle.sva_model.specs.Acts.{Act, act}
use Rattle.sva_model.specs.Acts.Act.{Unmap, DropSpace}
use Rattle.sva_model.specs.Steps.{decide, next, run, after_acts, world_after}
use Rattle.sva_labels.proofs.Tests.{first_holds, second_holds}
use Rattle.sva_laws.proofs.Invariant.{Invariant}
use Rattle.sva_laws.proofs.Keeps.{Legal}
use Rattle.sva_laws.proofs.Passed.{LegalAll}
use Rattle.sva_laws.proofs.Runs.{always, step_legal, next_keeps}
use Rattle.sva_laws.proofs.Adding.{Adds, Kind, acts_add, step_kind}
use Rattle.sva_laws.proofs.Adding.Kind.{adding, unmapping, dropping}
pub use Rattle.sva_labels.proofs.Steps.{run_append}

-- Lists of steps.

pub after_one : (rule : PasidRule) (c : Config) (ss : List Step) (s : Step) → world_after rule c (ss ++ s ∷ []) ≡ next (world_after rule c ss) s
after_one rule c ss s = run_append ss (s ∷ []) (opened rule c)

pub one_more : (before : List Step) (s : Step) (some : List Step) (t : Step) → before ++ s ∷ (some ++ t ∷ []) ≡ (before ++ s ∷ some) ++ t ∷ []
one_more before s some t = sym (append_assoc before (s ∷ some) (t ∷ []))

-- How a mapping goes: by an unmapping of its page, or with its space.
pub data Goes (w v : World) (m : ℕ) (owed : ℕ → Owed) : Type 0 where
  unmapped : (s q count order : ℕ) → v ≡ act w (Unmap s q count order) → w.mappings.space m ≡ s → in_range q (count * 2 ^ order) (w.mappings.page m)
      ≡ true → owed ≡ (λ e. owed_by (w.part e) count (bound w e s)) → Goes w v m owed
  dropped : (s : ℕ) → w.mappings.space m ≡ s → ((e b : ℕ) → is_unreleased ((w.part e).stage b) ≡ true → (w.part e).space b ≢ s) → owed
      ≡ (λ e. Nothing) → Goes w v m owed

-- what one step does to mappings
pub record Moves (w v : World) : Type 0 where
  pub gone_on : (m : ℕ) (owed : ℕ → Owed) → w.mappings.state m ≡ Gone owed → v.mappings.state m ≡ Gone owed
  pub gone_back : (m : ℕ) (owed : ℕ → Owed) → v.mappings.state m ≡ Gone owed → (w.mappings.state m ≡ Gone owed)
      ⊎ ((w.mappings.state m ≡ Present) × Goes w v m owed)
  pub present_on : (m : ℕ) → w.mappings.state m ≡ Present → (v.mappings.state m ≡ Present)
      ⊎ ((owed : ℕ → Owed) × (v.mappings.state m ≡ Gone owed) × Goes w v m owed)
  pub frame_on : (m : ℕ) → w.mappings.state m ≢ Unmade → v.mappings.frame m ≡ w.mappings.frame m
  pub latest_grows : (f k : ℕ) → w.mappings.latest f ≡ Some k → (z : ℕ) × (v.mappings.latest f ≡ Some z) × (k ≤ z)
  pub latest_new : (f : ℕ) → (v.mappings.latest f ≡ w.mappings.latest f) ⊎ ((z : ℕ) × (v.mappings.latest f ≡ Some z) × (v.mappings.state z ≡ Present))

moves_adds : (w v : World) → Adds w v → Moves w v
moves_adds w v a =
    record {
      gone_on = a.gone_on;
      gone_back = λ m o h. inl (a.gone_back m o h);
      present_on = λ m h. inl (a.present_on m h);
      frame_on =
          a.frame_on;
      latest_grows = a.latest_grows;
      latest_new = a.latest_new;
    }

gone_same : (t : Bool) (owed : ℕ → Owed) (z : MappingState) (o : ℕ → Owed) → z ≡ Gone o → gone_if t owed z ≡ Gone o
gone_same t owed z o h = grind arith

pub gone_from : (t : Bool) (owed : ℕ → Owed) (z : MappingState) (o : ℕ → Owed) → gone_if t owed z ≡ Gone o → (z ≡ Gone o)
    ⊎ ((z ≡ Present) × (t ≡ true) × (owed ≡ o))
gone_from true owed Unmade o h = absurd (cc)
gone_from true owed Present o h = inr (refl, refl, cc)
gone_from true owed (Gone v) o h = inl h
gone_from false owed z o h = inl h

present_from : (t : Bool) (owed : ℕ → Owed) (z : MappingState) → z ≡ Present → (gone_if t owed z ≡ Present) ⊎ ((t ≡ true) × (gone_if t owed z ≡ Gone owed))
present_from true owed z h = inr (refl, ap (gone_if true owed) h)
present_from false owed z h = inl h

moves_unmap : (w : World) (s q count order : ℕ) → Moves w (act w (Unmap s q count order))
moves_unmap w s q count order =
    record {
      gone_on = λ m o h. gone_same (w.mappings.space m == s && in_range q (count * 2 ^ order) (w.mappings.page m))
          (λ e. owed_by (w.part e) count (bound w e s)) (w.mappings.state m) o h;
      gone_back = λ m o h. back m o
          (gone_from (w.mappings.space m == s && in_range q (count * 2 ^ order) (w.mappings.page m)) (λ e. owed_by (w.part e) count (bound w e s))
          (w.mappings.state m) o h);
      present_on = λ m h. on m
          (present_from (w.mappings.space m == s && in_range q (count * 2 ^ order) (w.mappings.page m)) (λ e. owed_by (w.part e) count (bound w e s))
          (w.mappings.state m) h);
      frame_on = λ m h. refl;
      latest_grows = λ f k h. (k, h, omega arith);
      latest_new = λ f. inl refl;
    }
  where
    back : (m : ℕ) (o : ℕ → Owed) → (w.mappings.state m ≡ Gone o)
        ⊎ ((w.mappings.state m ≡ Present) × ((w.mappings.space m == s && in_range q (count * 2 ^ order) (w.mappings.page m)) ≡ true)
        × ((λ e. owed_by (w.part e) count (bound w e s)) ≡ o)) → (w.mappings.state m ≡ Gone o)
        ⊎ ((w.mappings.state m ≡ Present) × Goes w (act w (Unmap s q count order)) m o)
    back m o (inl x) = inl x
    back m o (inr x) = inr (
      x.0,
      unmapped s q count order refl
          (eqb-true (w.mappings.space m) s (first_holds (w.mappings.space m == s) (in_range q (count * 2 ^ order) (w.mappings.page m)) x.1))
          (second_holds (w.mappings.space m == s) (in_range q (count * 2 ^ order) (w.mappings.page m)) x.1) (sym x.2),
    )

    on : (m : ℕ) → ((act w (Unmap s q count order)).mappings.state m ≡ Present)
        ⊎ (((w.mappings.space m == s && in_range q (count * 2 ^ order) (w.mappings.page m)) ≡ true)
        × ((act w (Unmap s q count order)).mappings.state m ≡ Gone (λ e. owed_by (w.part e) count (bound w e s))))
        → ((act w (Unmap s q count order)).mappings.state m ≡ Present)
        ⊎ ((owed : ℕ → Owed) × ((act w (Unmap s q count order)).mappings.state m ≡ Gone owed) × Goes w (act w (Unmap s q count order)) m owed)
    on m (inl x) = inl x
    on m (inr x) = inr (
      (λ e. owed_by (w.part e) count (bound w e s)),
      x.1,
      unmapped s q count order refl
          (eqb-true (w.mappings.space m) s (first_holds (w.mappings.space m == s) (in_range q (count * 2 ^ order) (w.mappings.page m)) x.0))
          (second_holds (w.mappings.space m == s) (in_range q (count * 2 ^ order) (w.mappings.page m)) x.0) refl,
    )

moves_drop : (w : World) (s : ℕ) → Legal w (DropSpace s) → Moves w (act w (DropSpace s))
moves_drop w s l =
    record {
      gone_on = λ m o h. gone_same (w.mappings.space m == s && true) (λ e. Nothing) (w.mappings.state m) o h;
      gone_back = λ m o h. back m o (gone_from (w.mappings.space m == s && true) (λ e. Nothing) (w.mappings.state m) o h);
      present_on = λ m h. on m (present_from (w.mappings.space m == s && true) (λ e. Nothing) (w.mappings.state m) h);
      frame_on = λ m h. refl;
      latest_grows = λ f k h. (k, h, omega arith);
      latest_new = λ f. inl refl;
    }
  where
    back : (m : ℕ) (o : ℕ → Owed) → (w.mappings.state m ≡ Gone o)
        ⊎ ((w.mappings.state m ≡ Present) × ((w.mappings.space m == s && true) ≡ true) × ((λ e. Nothing) ≡ o)) → (w.mappings.state m ≡ Gone o)
        ⊎ ((w.mappings.state m ≡ Present) × Goes w (act w (DropSpace s)) m o)
    back m o (inl x) = inl x
    back m o (inr x) = inr (x.0, dropped s (eqb-true (w.mappings.space m) s (first_holds (w.mappings.space m == s) true x.1)) l (sym x.2))

    on : (m : ℕ) → ((act w (DropSpace s)).mappings.state m ≡ Present)
        ⊎ (((w.mappings.space m == s && true) ≡ true) × ((act w (DropSpace s)).mappings.state m ≡ Gone (λ e. Nothing)))
        → ((act w (DropSpace s)).mappings.state m ≡ Present)
        ⊎ ((owed : ℕ → Owed) × ((act w (DropSpace s)).mappings.state m ≡ Gone owed) × Goes w (act w (DropSpace s)) m owed)
    on m (inl x) = inl x
    on m (inr x) = inr ((λ e. Nothing), x.1, dropped s (eqb-true (w.mappings.space m) s (first_holds (w.mappings.space m == s) true x.0)) l refl)

pub moves : (w : World) (s : Step) → Invariant w → Moves w (next w s)
moves w s i = go (decide w s).acts (step_kind w s) (step_legal w s i)
  where
    single : (acts : List Act) (a : Act) → acts ≡ a ∷ [] → LegalAll w acts → Legal w a
    single acts a e l = (subst (LegalAll w) e l).0

    go : (acts : List Act) → Kind acts → LegalAll w acts → Moves w (after_acts w acts)
    go acts (adding a) l = moves_adds w (after_acts w acts) (acts_add acts w a l i)
    go acts (unmapping t q count order e) l = subst (λ z. Moves w (after_acts w z)) (sym e) (moves_unmap w t q count order)
    go acts (dropping t e) l = subst (λ z. Moves w (after_acts w z)) (sym e) (moves_drop w t (single acts (DropSpace t) e l))

-- A mapping that is gone went at one step of the list.
pub record WentAt (rule : PasidRule) (c : Config) (steps : List Step) (m : ℕ) (owed : ℕ → Owed) : Type 0 where
  pub before : List Step
  pub step : Step
  pub since : List Step
  pub steps_are : steps ≡ before ++ step ∷ since
  pub present : (world_after rule c before).mappings.state m ≡ Present
  pub gone : (next (world_after rule c before) step).mappings.state m ≡ Gone owed
  pub goes : Goes (world_after rule c before) (next (world_after rule c before) step) m owed

went_more : (rule : PasidRule) (c : Config) (ss : List Step) (s : Step) (m : ℕ) (owed : ℕ → Owed) → WentAt rule c ss m owed
    → WentAt rule c (ss ++ s ∷ []) m owed
went_more rule c ss s m owed x =
    record {
      before = x.before;
      step = x.step;
      since = x.since ++ s ∷ [];
      steps_are = ap (λ z. z ++ s ∷ []) x.steps_are ∙ sym (one_more x.before x.step x.since s);
      present = x.present;
      gone = x.gone;
      goes = x.goes;
    }

went_next : (rule : PasidRule) (c : Config) (ss : List Step) (s : Step)
    → ((m : ℕ) (owed : ℕ → Owed) → (world_after rule c ss).mappings.state m ≡ Gone owed → WentAt rule c ss m owed) → (m : ℕ) (owed : ℕ → Owed)
    → (world_after rule c (ss ++ s ∷ [])).mappings.state m ≡ Gone owed → WentAt rule c (ss ++ s ∷ []) m owed
went_next rule c ss s old m owed h =
    go ((moves (world_after rule c ss) s (always rule c ss)).gone_back m owed now)
  where
    now : (next (world_after rule c ss) s).mappings.state m ≡ Gone owed
    now = subst (λ w. w.mappings.state m ≡ Gone owed) (after_one rule c ss s) h

    go : ((world_after rule c ss).mappings.state m ≡ Gone owed)
        ⊎ (((world_after rule c ss).mappings.state m ≡ Present) × Goes (world_after rule c ss) (next (world_after rule c ss) s) m owed)
        → WentAt rule c (ss ++ s ∷ []) m owed
    go (inl x) = went_more rule c ss s m owed (old m owed x)
    go (inr x) = record { before = ss; step = s; since = []; steps_are = refl; present = x.0; gone = now; goes = x.1 }

went_along : (rule : PasidRule) (c : Config) (rest before : List Step)
    → ((m : ℕ) (owed : ℕ → Owed) → (world_after rule c before).mappings.state m ≡ Gone owed → WentAt rule c before m owed)
    → (m : ℕ) (owed : ℕ → Owed) → (world_after rule c (before ++ rest)).mappings.state m ≡ Gone owed → WentAt rule c (before ++ rest) m owed
went_along rule c [] before old m owed h =
    subst (λ z. WentAt rule c z m owed) (sym (append-nil before))
    (old m owed (subst (λ z. (world_after rule c z).mappings.state m ≡ Gone owed) (append-nil before) h))
went_along rule c (s ∷ rest) before old m owed h =
    subst (λ z. WentAt rule c z m owed) (append_assoc before (s ∷ []) rest)
    (went_along rule c rest (before ++ s ∷ []) (went_next rule c before s old) m owed
    (subst (λ z. (world_after rule c z).mappings.state m ≡ Gone owed) (sym (append_assoc before (s ∷ []) rest)) h))

pub went : (rule : PasidRule) (c : Config) (steps : List Step) (m : ℕ) (owed : ℕ → Owed) → (world_after rule c steps).mappings.state m ≡ Gone owed
    → WentAt rule c steps m owed
went rule c steps m owed h = went_along rule c steps [] (λ k o x. absurd (cc)) m owed h

-- From one world to a later one.
pub record Later (w v : World) : Type 0 where
  pub gone_on : (m : ℕ) (owed : ℕ → Owed) → w.mappings.state m ≡ Gone owed → v.mappings.state m ≡ Gone owed
  pub made_on : (m : ℕ) → w.mappings.state m ≢ Unmade → v.mappings.state m ≢ Unmade
  pub frame_on : (m : ℕ) → w.mappings.state m ≢ Unmade → v.mappings.frame m ≡ w.mappings.frame m
  pub latest_grows : (f k : ℕ) → w.mappings.latest f ≡ Some k → (z : ℕ) × (v.mappings.latest f ≡ Some z) × (k ≤ z)

made_kept : (w v : World) → Moves w v → (m : ℕ) → w.mappings.state m ≢ Unmade → v.mappings.state m ≢ Unmade
made_kept w v a m h e = go (w.mappings.state m) refl
  where
    go : (z : MappingState) → w.mappings.state m ≡ z → ⊥
    go Unmade g = h g
    go Present g = after (a.present_on m g)
      where
        after : (v.mappings.state m ≡ Present) ⊎ ((owed : ℕ → Owed) × (v.mappings.state m ≡ Gone owed) × Goes w v m owed) → ⊥
        after (inl x) = absurd (cc)
        after (inr x) = absurd (cc (sym x.1 ∙ e))
    go (Gone o) g = absurd (cc (sym (a.gone_on m o g) ∙ e))

pub later : (rest : List Step) (w : World) → Invariant w → Later w (run w rest)
later [] w i = record { gone_on = λ m o h. h; made_on = λ m h. h; frame_on = λ m h. refl; latest_grows = λ f k h. (k, h, omega arith) }
later (s ∷ rest) w i = more (moves w s i) (later rest (next w s) (next_keeps w s i))
  where
    more : Moves w (next w s) → Later (next w s) (run (next w s) rest) → Later w (run (next w s) rest)
    more a b =
        record {
          gone_on = λ m o h. b.gone_on m o (a.gone_on m o h);
          made_on = λ m h. b.made_on m (made_kept w (next w s) a m h);
          frame_on = λ m h. b.frame_on m (made_kept w (next w s) a m h) ∙ a.frame_on m h;
          latest_grows = λ f k h. let x = a.latest_grows f k h in let y = b.latest_grows f x.0 x.1 in (y.0, y.1, omega (arith, x.2, y.2));
        }
