-- The stages of bindings in their places: which one stands there, and what a move of it leaves.
use Rattle.std.specs.Prelude.{◌≡◌, ℕ, Bool, true, false, if◌then◌else◌, IsSomeAnd, List, Some, Result, Ok, Err, is_ok}
use Rattle.sva_model.specs.Wire.{StageWire, UnitWire}
use Rattle.sva_labels.specs.Finding.{is_wait_done}
use Rattle.sva_labels.specs.Moves.{with_stage, without_binding}
use Rattle.sva_pasid.specs.States.{Numbers, Stop, Wait, done_wait}
use Rattle.sva_pasid.specs.Moves.{Kind, kind_of_stage}
use Rattle.sva_pasid.specs.Places.{stage_of, with_stage as with_stage_there}
use Rattle.sva_pasid.specs.declared.places.TableEntry.{TableEntry}
use Rattle.sva_pasid.specs.declared.stages.Stage.{Stage}
use Rattle.sva_pasid.specs.declared.stages.Stage.TheVariants.{Stopping, Draining, Invalidating, Quiet}
use Rattle.sva_parts_by_labels.specs.Bindings.{stage_seen, bindings_seen}
use Rattle.sva_host_state.specs.Inner.{AreStaged}

-- a stage of this kind stands in the place of a binding
abbrev pub IsIn : Kind → (binding : ℕ) → List TableEntry → Type 0
IsIn kind binding places = IsSomeAnd (stage_of binding places) (λ (stage : Stage). kind_of_stage stage ≡ kind)

-- one that is seen so stands there
abbrev pub IsSeenIn : StageWire → (binding : ℕ) → List TableEntry → Type 0
IsSeenIn seen binding places = IsSomeAnd (stage_of binding places) (λ (stage : Stage). stage_seen stage ≡ seen)

-- a binding is at another stage, and nothing else has changed
pub record MovesTo (stage : StageWire) (binding : ℕ) (before after : List TableEntry) : Type 0 where
  pub seen : bindings_seen after ≡ with_stage binding stage (bindings_seen before)
  pub staged : AreStaged before → AreStaged after

-- a state that waits is told that its wait is done, where its unit has done it
abbrev pub told_by : UnitWire → Wait → Wait
told_by unit wait = if is_wait_done unit wait.cookie then done_wait wait else wait

-- a binding is at another stage where its state moves on, else at the one that it was at, and nothing else has changed
abbrev pub MovesIf : Bool → StageWire → (binding : ℕ) → List TableEntry → List TableEntry → Type 0
MovesIf true stage binding before after = MovesTo stage binding before after
MovesIf false stage binding before after = (own : StageWire) × IsSeenIn own binding before × MovesTo own binding before after

-- ---- What each call says of the state itself that stands there, with all that it keeps

-- the stage of a binding whose marker is noted or not, once the drain is asked for
abbrev pub stage_drained : Result Wait Stop → Stage
stage_drained (Ok wait) = Draining wait
stage_drained (Err to_stop) = Stopping to_stop

-- of one whose page requests are drained or not, once the invalidation is asked for
abbrev pub stage_invalidated : Result Wait Wait → Stage
stage_invalidated (Ok wait) = Invalidating wait
stage_invalidated (Err wait) = Draining wait

-- and of one whose PASID is invalidated or not, once it is asked whether it is quiet
abbrev pub stage_settled : Result Numbers Wait → Stage
stage_settled (Ok numbers) = Quiet numbers
stage_settled (Err wait) = Invalidating wait

-- a binding has gone on by this move of its state, or has stayed as that gave itself back; nothing else has changed
abbrev pub GoesOn : {A B : Type 0} → (Result A B → Stage) → Result A B → (binding : ℕ) → Bool → List TableEntry → List TableEntry → Type 0
GoesOn stage_of_move moved binding goes before after =
    (goes ≡ is_ok moved) × (after ≡ with_stage_there binding (Some (stage_of_move moved)) before)

-- a binding is gone, and nothing else has changed
pub record Goes (binding : ℕ) (before after : List TableEntry) : Type 0 where
  pub seen : bindings_seen after ≡ without_binding binding (bindings_seen before)
  pub staged : AreStaged before → AreStaged after
