use Rattle.std.specs.Prelude.{◌≡◌, ℕ, ◌*◌, ◌^◌, ◌<◌, ◌≤◌, ◌-◌, ◌==◌, if◌then◌else◌, Bool, true, false, cond, List, Some, length, slice_get, count_by}
use Rattle.std.specs.Bool.{nat_le}
use Rattle.sva_frames.specs.declared.pool.Counts.{Counts}
use Rattle.sva_frames.specs.declared.pool.Place.{Place}
use Rattle.sva_frames.specs.declared.pool.Place.TheVariants.{Free as FreePlace, Mapped as MappedPlace, Withheld as WithheldPlace}
use Rattle.sva_frames.specs.declared.ledger.Stage.{Stage}
use Rattle.sva_frames.specs.declared.ledger.Stage.TheVariants.{Free, Mapped, Withheld}
use Rattle.sva_frames.specs.Numbers.{has}

-- where a frame of this stage is
abbrev pub stage_place : Stage → Place
stage_place Free = FreePlace
stage_place Mapped = MappedPlace
stage_place (Withheld left) = WithheldPlace

-- may a frame of this stage be handed out? Only such a one is in the set of free frames
abbrev pub is_free_stage : Stage → Bool
is_free_stage Free = true
is_free_stage Mapped = false
is_free_stage (Withheld left) = false

-- was a frame of this stage handed out, and neither given back nor withheld since?
abbrev pub is_mapped_stage : Stage → Bool
is_mapped_stage Free = false
is_mapped_stage Mapped = true
is_mapped_stage (Withheld left) = false

-- does a frame of this stage still wait, at however many units?
abbrev pub is_withheld_stage : Stage → Bool
is_withheld_stage Free = false
is_withheld_stage Mapped = false
is_withheld_stage (Withheld left) = true

-- the stage of a frame that is in no space and still waits for so many units
abbrev pub stage_of : ℕ → Stage
stage_of left = if left == 0 then Free else Withheld left

-- the stage after one of a withheld frame's waits is settled
abbrev pub lowered : Stage → Stage
lowered Free = Free
lowered Mapped = Mapped
lowered (Withheld left) = if nat_le left 1 then Free else Withheld (left - 1)

-- the set with these words has the free frames and nothing else, and the counts are those of the stages
pub record IsLedger (stages : List Stage) (words : List ℕ) (counts : Counts) : Type 0 where
  pub few : length stages < 2 ^ 32
  pub enough : length stages ≤ 64 * length words
  pub marked : (frame : ℕ) (stage : Stage) → slice_get stages frame ≡ Some stage → has words frame ≡ cond (is_free_stage stage) 1 0
  pub beyond : (frame : ℕ) → length stages ≤ frame → has words frame ≡ 0
  pub free : counts.free ≡ count_by is_free_stage stages
  pub mapped : counts.mapped ≡ count_by is_mapped_stage stages
  pub withheld : counts.withheld ≡ count_by is_withheld_stage stages
