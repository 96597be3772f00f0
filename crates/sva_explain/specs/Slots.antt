-- What is said of use slots that are all taken.
use Rattle.std.specs.Prelude.{ℕ, Option, Some, None, List, [], ◌++◌, codes, slice_get}
use Rattle.sva_step.specs.declared.steps.Step.{Step}
use Rattle.sva_step.specs.declared.steps.Step.TheVariants as step
use Rattle.sva_model.specs.Wire.{EndpointWire, UseWire, Wire}
use Rattle.sva_model.specs.Wire.UseWire.{RunningWire, DeadWire}
use Rattle.sva_lines.specs.Pieces.{field, line_end, rows}
use Rattle.sva_explain.specs.declared.blockers.levels.Level.{Level}
use Rattle.sva_explain.specs.declared.blockers.levels.Level.TheVariants.{First, Second}
use Rattle.sva_explain.specs.Lines.{indent, start}
use Rattle.sva_explain.specs.Units.{end_text, of_part, use_text}

-- `use 0 runs: pasid 1 page 16 frame 0 w [end 0 0]`
abbrev pub slot_line : Wire → (endpoint slot : ℕ) → (stands : List ℕ) → Option UseWire → List ℕ
slot_line wire endpoint slot stands used =
    indent Second ++ field (codes "use ") slot ++ stands ++ use_text used ++ end_text wire endpoint slot ++ line_end

-- each use: it runs, or a reset has cut it off
abbrev pub slot_if : Wire → (endpoint slot : ℕ) → Option UseWire → List ℕ
slot_if wire endpoint slot None = []
slot_if wire endpoint slot (Some (RunningWire translation)) =
    slot_line wire endpoint slot (codes " runs") (Some (RunningWire translation))
slot_if wire endpoint slot (Some DeadWire) = slot_line wire endpoint slot (codes " is dead") (Some DeadWire)

abbrev pub each_slot : Wire → (endpoint : ℕ) → EndpointWire → List ℕ
each_slot wire endpoint part = rows (slot_if wire endpoint) 0 part.device.slots

abbrev pub slots_line : Level → (endpoint : ℕ) → List ℕ
slots_line level endpoint = start level (codes "all 16 use slots are taken at endpoint ") endpoint ++ line_end

abbrev pub no_slot_lines : Wire → (endpoint : ℕ) → EndpointWire → List ℕ
no_slot_lines wire endpoint part = slots_line First endpoint ++ each_slot wire endpoint part

-- NoUseSlot: each use
abbrev pub no_slot : Wire → Step → List ℕ
no_slot wire (step.BeginUse endpoint pasid page write) = of_part (no_slot_lines wire endpoint) (slice_get wire.parts endpoint)
no_slot wire other = []
