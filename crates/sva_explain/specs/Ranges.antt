-- What is said of a range that was taken out: which frames are withheld, and what they wait for, the same for all of them.
use Rattle.std.specs.Prelude.{ℕ, ◌-◌, ◌==◌, Bool, true, false, not, if◌then◌else◌, Option, Some, None, List, [], ◌++◌, codes, slice_get, slice_index_or}
use Rattle.sva_step.specs.Limits
use Rattle.sva_step.specs.declared.steps.Step.{Step}
use Rattle.sva_step.specs.declared.steps.Step.TheVariants as step
use Rattle.sva_model.specs.Words.{any_below}
use Rattle.sva_model.specs.Wire.{EndpointWire, PlaceWire, TargetWire, Wire}
use Rattle.sva_model.specs.Wire.PlaceWire.{WithheldWire}
use Rattle.sva_model.specs.Wire.TargetWire.{Cookie, ResetEnd}
use Rattle.sva_labels.specs.Finding.{bound_at}
use Rattle.sva_labels.specs.Moves.{target_by}
use Rattle.sva_lines.specs.Pieces.{field, line_end, rows}
use Rattle.sva_explain.specs.declared.blockers.levels.Level.{Level}
use Rattle.sva_explain.specs.declared.blockers.levels.Level.TheVariants.{First}
use Rattle.sva_explain.specs.Lines.{indent}
use Rattle.sva_explain.specs.Units.{target_lines}

-- what they wait for at a unit (sva_labels/specs/Moves: `targets_of`), where the host is behind the step: the wait that the unit got is the
-- newest there
abbrev pub target_behind : Wire → (space unit : ℕ) → EndpointWire → Option TargetWire
target_behind wire space unit part = target_by part.unit (part.unit.waits_end - 1) (bound_at wire unit space)

-- the same of the unit of a number; nothing where there is none
abbrev pub target_in : Wire → (space unit : ℕ) → Option EndpointWire → Option TargetWire
target_in wire space unit None = None
target_in wire space unit (Some part) = target_behind wire space unit part

abbrev pub target_at : Wire → (space unit : ℕ) → Option TargetWire
target_at wire space unit = target_in wire space unit (slice_get wire.parts unit)

-- ---- Which frames

abbrev pub is_same_target : Option TargetWire → Option TargetWire → Bool
is_same_target None None = true
is_same_target (Some (Cookie one)) (Some (Cookie other)) = one == other
is_same_target (Some ResetEnd) (Some ResetEnd) = true
is_same_target one other = false

-- does a frame that waits for these wait at this unit for something else than the frames of the range?
abbrev pub differs_at : Wire → (space : ℕ) → (targets : List (Option TargetWire)) → (unit : ℕ) → Bool
differs_at wire space targets unit = not (is_same_target (target_at wire space unit) (slice_index_or targets unit None))

-- does it wait at each of the eight units that there may be for what they wait for?
abbrev pub waits_so : Wire → (space : ℕ) → (targets : List (Option TargetWire)) → Bool
waits_so wire space targets = not (any_below Limits.most_endpoints (differs_at wire space targets))

abbrev pub frame_if : Wire → (space frame : ℕ) → PlaceWire → List ℕ
frame_if wire space frame (WithheldWire targets) = if waits_so wire space targets then field (codes " ") frame else []
frame_if wire space frame place = []

-- `frames that wait: 0 2 5`: those of the range; and those of older unmappings that wait for just the same
abbrev pub frames_line : Level → Wire → (space : ℕ) → List ℕ
frames_line level wire space = indent level ++ codes "frames that wait:" ++ rows (frame_if wire space) 0 wire.places ++ line_end

-- ---- What they wait for

abbrev pub awaited_at : Wire → (space unit : ℕ) → EndpointWire → List ℕ
awaited_at wire space unit part = target_lines wire unit (target_behind wire space unit part)

abbrev pub range_lines : Wire → (space : ℕ) → List ℕ
range_lines wire space = frames_line First wire space ++ rows (awaited_at wire space) 0 wire.parts

abbrev pub withheld_range : Wire → Step → List ℕ
withheld_range wire (step.UnmapRange space page order) = range_lines wire space
withheld_range wire other = []
