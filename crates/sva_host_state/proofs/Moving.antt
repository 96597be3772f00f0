-- A stage that is taken out of its place, and another one that is put there; and a place that goes.
use Rattle.std.proofs.Common.{◌≡◌, refl, ap, sym, ◌∙◌, subst, ℕ, Bool, true, false}
use Rattle.std.specs.Prelude.{cond, not, Option, Some, None, IsSomeAnd, List, [], ◌∷◌, Result, is_ok}
use Rattle.sva_model.specs.Wire.{StageWire, UnitWire}
use Rattle.sva_model.specs.Wire.StageWire.{StoppingWire, DrainingWire, InvalidatingWire}
use Rattle.sva_labels.specs.Finding.{is_wait_done}
use Rattle.sva_pasid.specs.States.{Numbers, Stop, Wait, done_wait, drain_of, invalidation_of, quiet_of}
use Rattle.sva_pasid.specs.Places.{is_of, stage_of, with_stage, without}
use Rattle.sva_pasid.specs.declared.places.TableEntry.{TableEntry}
use Rattle.sva_pasid.specs.declared.stages.Stage.{Stage}
use Rattle.sva_pasid.specs.declared.stages.Stage.TheVariants.{Stopping, Draining, Invalidating}
use Rattle.sva_parts_by_labels.specs.Bindings.{stage_seen, bindings_seen}
use Rattle.sva_parts_by_labels.proofs.Bindings.{bindings_are_seen}
use Rattle.sva_host_state.specs.Inner.{AreStaged}
use Rattle.sva_host_state.specs.Stages.{IsSeenIn, MovesTo, MovesIf, Goes, GoesOn, told_by}
use Rattle.sva_host_state.proofs.Staged.{put_staged, left_staged}

-- the second one stays
put_over : (b : ℕ) (stage : Option Stage) (places : List TableEntry) → with_stage b stage (with_stage b None places) ≡ with_stage b stage places
put_over b stage [] = refl
put_over b stage (p ∷ places) = λ i. go (is_of b p) refl i ∷ put_over b stage places i
  where
    go : (here : Bool) → is_of b p ≡ here
        → cond (is_of b (cond here (record p { stage = None }) p)) (record (cond here (record p { stage = None }) p) { stage = stage })
        (cond here (record p { stage = None }) p)
        ≡ cond here (record p { stage = stage }) p
    go true is = ap (λ (t : Bool). cond t (record p { stage = stage }) (record p { stage = None })) is
    go false is = ap (λ (t : Bool). cond t (record p { stage = stage }) p) is

gone_over : (b : ℕ) (places : List TableEntry) → without b (with_stage b None places) ≡ without b places
gone_over b [] = refl
gone_over b (p ∷ places) = go (is_of b p) refl (gone_over b places)
  where
    go : (here : Bool) → is_of b p ≡ here → without b (with_stage b None places) ≡ without b places
        → cond (not (is_of b (cond here (record p { stage = None }) p))) (cond here (record p { stage = None }) p
        ∷ without b (with_stage b None places)) (without b (with_stage b None places))
        ≡ cond (not here) (p ∷ without b places) (without b places)
    go true is rest = ap
        (λ (t : Bool). cond (not t) (record p { stage = None } ∷ without b (with_stage b None places)) (without b (with_stage b None places))) is ∙ rest
    go false is rest = ap (λ (t : Bool). cond (not t) (p ∷ without b (with_stage b None places)) (without b (with_stage b None places))) is
        ∙ ap (λ ps. p ∷ ps) rest

pub moves_to : (b : ℕ) (places hand after : List TableEntry) (stage : Stage) → hand ≡ with_stage b None places → after ≡ with_stage b (Some stage) hand
    → MovesTo (stage_seen stage) b places after
moves_to b places hand after stage taken put =
    let is : after ≡ with_stage b (Some stage) places = put ∙ ap (with_stage b (Some stage)) taken ∙ put_over b (Some stage) places in
    record {
      seen = ap bindings_seen is ∙ (bindings_are_seen places).1.staged b stage;
      staged = λ staged. subst AreStaged (sym is) (put_staged places b stage staged);
    }

-- the stage that was put there stands there, and nothing else has changed
pub put_there : (b : ℕ) (places hand after : List TableEntry) (stage : Stage) → hand ≡ with_stage b None places
    → after ≡ with_stage b (Some stage) hand → after ≡ with_stage b (Some stage) places
put_there b places hand after stage taken put = put ∙ ap (with_stage b (Some stage)) taken ∙ put_over b (Some stage) places

pub goes : (b : ℕ) (places hand after : List TableEntry) → hand ≡ with_stage b None places → after ≡ without b hand → Goes b places after
goes b places hand after taken left =
    let is : after ≡ without b places = left ∙ ap (without b) taken ∙ gone_over b places in
    record {
      seen = ap bindings_seen is ∙ (bindings_are_seen places).1.released b;
      staged = λ staged. subst AreStaged (sym is) (left_staged places b staged);
    }

-- A state that was told, or not, that its wait is done.

pub told_cookie : (u : UnitWire) (w : Wait) → (told_by u w).cookie ≡ w.cookie
told_cookie u w = go (is_wait_done u w.cookie)
  where
    go : (done : Bool) → (cond done (done_wait w) w).cookie ≡ w.cookie
    go true = refl
    go false = refl

pub told_waited : (u : UnitWire) (w : Wait) → is_wait_done u w.cookie ≡ true → (told_by u w).waited ≡ true
told_waited u w is = ap (λ (done : Bool). (cond done (done_wait w) w).waited) is

-- A stage that stands in a place, and whether it moved on.

pub seen_here : (s : StageWire) (n : ℕ) (places : List TableEntry) (o : Option Stage) (stage : Stage) → o ≡ stage_of n places → o ≡ Some stage
    → stage_seen stage ≡ s → IsSeenIn s n places
seen_here s n places o stage found is same =
    subst (λ (p : Option Stage). IsSomeAnd p (λ (x : Stage). stage_seen x ≡ s)) (sym is ∙ found) same

-- A move that is due isn't refused by the state itself.

-- one stage stands in a place
pub seen_once : (s t : StageWire) (n : ℕ) (places : List TableEntry) → IsSeenIn s n places → IsSeenIn t n places → s ≡ t
seen_once s t n places one other = go (stage_of n places) one other
  where
    go : (o : Option Stage) → IsSomeAnd o (λ (stage : Stage). stage_seen stage ≡ s) → IsSomeAnd o (λ (stage : Stage). stage_seen stage ≡ t) → s ≡ t
    go None one other = absurd one
    go (Some stage) one other = sym one ∙ other

pub marked_not_noted : (noted : Bool) (n : ℕ) (places : List TableEntry) → IsSeenIn (StoppingWire noted) n places → IsSeenIn (StoppingWire true) n places
    → noted ≡ true
marked_not_noted noted n places one other = is (seen_once (StoppingWire noted) (StoppingWire true) n places one other)
  where
    is : StoppingWire noted ≡ StoppingWire true → noted ≡ true
    is same = let marked : noted ≡ true = cc in marked

pub draining_cookie : (a b n : ℕ) (places : List TableEntry) → IsSeenIn (DrainingWire a) n places → IsSeenIn (DrainingWire b) n places → a ≡ b
draining_cookie a b n places one other = is (seen_once (DrainingWire a) (DrainingWire b) n places one other)
  where
    is : DrainingWire a ≡ DrainingWire b → a ≡ b
    is same = let cookie : a ≡ b = cc in cookie

pub invalidating_cookie : (a b n : ℕ) (places : List TableEntry) → IsSeenIn (InvalidatingWire a) n places → IsSeenIn (InvalidatingWire b) n places → a ≡ b
invalidating_cookie a b n places one other = is (seen_once (InvalidatingWire a) (InvalidatingWire b) n places one other)
  where
    is : InvalidatingWire a ≡ InvalidatingWire b → a ≡ b
    is same = let cookie : a ≡ b = cc in cookie

pub moved_on : (moves : Bool) (stage : StageWire) (n : ℕ) (before after : List TableEntry) → MovesIf moves stage n before after → moves ≡ true
    → MovesTo stage n before after
moved_on moves stage n before after is due = subst (λ (b : Bool). MovesIf b stage n before after) due is

-- whatever it does, each stage stands in its place
pub if_staged : (moves : Bool) (stage : StageWire) (n : ℕ) (before after : List TableEntry) → MovesIf moves stage n before after → AreStaged before
    → AreStaged after
if_staged true stage n before after is = is.staged
if_staged false stage n before after is = is.2.staged

-- ---- The state itself that stands in a place, and what it gave at its move

-- one state stands in a place
same_stopping : (a b : Stop) → Some (Stopping a) ≡ Some (Stopping b) → a ≡ b
same_stopping a b h = let same : a ≡ b = cc in same

same_draining : (a b : Wait) → Some (Draining a) ≡ Some (Draining b) → a ≡ b
same_draining a b h = let same : a ≡ b = cc in same

same_invalidating : (a b : Wait) → Some (Invalidating a) ≡ Some (Invalidating b) → a ≡ b
same_invalidating a b h = let same : a ≡ b = cc in same

-- what a move gave is what stands there, and it tells whether it went on
pub goes_on : {A B : Type 0} (stage : Result A B → Stage) (given moved : Result A B) (b : ℕ) (goes : Bool) (places hand after : List TableEntry)
    → given ≡ moved → goes ≡ is_ok given → hand ≡ with_stage b None places → after ≡ with_stage b (Some (stage given)) hand
    → GoesOn stage moved b goes places after
goes_on stage given moved b goes places hand after same tells taken put =
    subst (λ r. GoesOn stage r b goes places after) same (tells, put_there b places hand after (stage given) taken put)

pub drain_given : (own there : Stop) (cookie n : ℕ) (places : List TableEntry) (o : Option Stage) (given : Result Wait Stop)
    → o ≡ stage_of n places → o ≡ Some (Stopping there) → given ≡ drain_of there cookie → stage_of n places ≡ Some (Stopping own)
    → given ≡ drain_of own cookie
drain_given own there cookie n places o given found is value stands =
    value ∙ ap (λ (s : Stop). drain_of s cookie) (same_stopping there own (sym is ∙ found ∙ stands))

pub invalidation_given : (u : UnitWire) (own there told : Wait) (cookie : ℕ) (groups_open : Bool) (n : ℕ) (places : List TableEntry) (o : Option Stage)
    (given : Result Wait Wait)
    → o ≡ stage_of n places → o ≡ Some (Draining there) → told ≡ told_by u there → given ≡ invalidation_of told cookie groups_open
    → stage_of n places ≡ Some (Draining own) → given ≡ invalidation_of (told_by u own) cookie groups_open
invalidation_given u own there told cookie groups_open n places o given found is told_is value stands =
    value
    ∙ ap (λ (w : Wait). invalidation_of w cookie groups_open) (told_is ∙ ap (told_by u) (same_draining there own (sym is ∙ found ∙ stands)))

pub quiet_given : (u : UnitWire) (own there told : Wait) (n : ℕ) (places : List TableEntry) (o : Option Stage) (given : Result Numbers Wait)
    → o ≡ stage_of n places → o ≡ Some (Invalidating there) → told ≡ told_by u there → given ≡ quiet_of told
    → stage_of n places ≡ Some (Invalidating own) → given ≡ quiet_of (told_by u own)
quiet_given u own there told n places o given found is told_is value stands =
    value ∙ ap quiet_of (told_is ∙ ap (told_by u) (same_invalidating there own (sym is ∙ found ∙ stands)))
