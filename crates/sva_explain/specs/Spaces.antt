-- What is said of spaces of which too many are live.
use Rattle.std.specs.Prelude.{ℕ, if◌then◌else◌, List, [], ◌++◌, codes, flat_map}
use Rattle.sva_step.specs.declared.steps.Step.TheVariants as step
use Rattle.sva_model.specs.Wire.{SpaceWire, Wire}
use Rattle.sva_lines.specs.Pieces.{field, line_end}
use Rattle.sva_explain.specs.Accepted.{is_accepted}
use Rattle.sva_explain.specs.declared.blockers.levels.Level.{Level}
use Rattle.sva_explain.specs.declared.blockers.levels.Level.TheVariants.{First, Second}
use Rattle.sva_explain.specs.Lines.{indent}

-- `space 3 isn't bound [drop 3]`
abbrev pub unbound_line : Level → (space : ℕ) → List ℕ
unbound_line level space =
    indent level ++ field (codes "space ") space ++ codes " isn't bound" ++ field (codes " [drop ") space ++ codes "]" ++ line_end

-- each space that may go
abbrev pub unbound_if : Wire → SpaceWire → List ℕ
unbound_if wire space = if is_accepted wire (step.DropSpace space.number) then unbound_line Second space.number else []

abbrev pub spaces_line : Level → List ℕ
spaces_line level = indent level ++ codes "64 spaces are live" ++ line_end

-- TooManySpaces: each that may go
abbrev pub too_many : Wire → List ℕ
too_many wire = spaces_line First ++ flat_map (unbound_if wire) wire.spaces
