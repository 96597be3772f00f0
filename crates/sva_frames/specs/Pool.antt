use Rattle.std.specs.Prelude.{◌≡◌, ℕ, suc, ◌<◌, ◌^◌, List, [], ◌∷◌, Option, Some, None, length, map, slice_get, slice_index_or, is_some, count_by}
use Rattle.sva_frames.specs.declared.waits.Target.{Target}
use Rattle.sva_frames.specs.declared.waits.TheConstants.{UNITS}
use Rattle.sva_frames.specs.declared.ledger.Stage.{Stage}
use Rattle.sva_frames.specs.declared.ledger.Stage.TheVariants.{Free as FreeStage, Mapped as MappedStage, Withheld as WithheldStage}
use Rattle.sva_frames.specs.Frames.{Holding, Free, Mapped, Withheld}

-- what a frame waits for, unit by unit
abbrev pub row : List (List (Option Target)) → ℕ → List (Option Target)
row lanes frame = map (λ lane. slice_index_or lane frame None) lanes

-- the holding of a frame of this stage that waits for these targets
abbrev pub holding : Stage → List (Option Target) → Holding
holding FreeStage waits = Free
holding MappedStage waits = Mapped
holding (WithheldStage left) waits = Withheld waits

-- the holdings of the frames from this number on
abbrev pub holdings_from : ℕ → List Stage → List (List (Option Target)) → List Holding
holdings_from frame [] lanes = []
holdings_from frame (stage ∷ stages) lanes = holding stage (row lanes frame) ∷ holdings_from (suc frame) stages lanes

-- the stage tells how many targets there are
abbrev pub IsCounted : Stage → List (Option Target) → Type 0
IsCounted FreeStage waits = count_by is_some waits ≡ 0
IsCounted MappedStage waits = count_by is_some waits ≡ 0
IsCounted (WithheldStage left) waits = (0 < left) × (left ≡ count_by is_some waits)

-- what a pool keeps: a stage for each frame, and for each unit a target of each frame, as many as the stage tells
pub record IsPool (stages : List Stage) (lanes : List (List (Option Target))) : Type 0 where
  pub few : length stages < 2 ^ 32
  pub units : length lanes ≡ UNITS
  pub even : (unit : ℕ) (lane : List (Option Target)) → slice_get lanes unit ≡ Some lane → length lane ≡ length stages
  pub counted : (frame : ℕ) (stage : Stage) → slice_get stages frame ≡ Some stage → IsCounted stage (row lanes frame)
