use Rattle.std.proofs.Common.{◌≡◌, ◌++◌, drop, map}
use Rattle.sva_lines.specs.Pieces.{rows}
use Rattle.sva_lines.specs.Units.{unit_lines}
use Rattle.sva_snapshot.specs.Shown.{endpoint_shown}
use Rattle.sva_lines.proofs.units.put_units.Given as goal

-- what was said and what is left make the whole
abbrev pub invariant-loop-number : goal.invariant-loop-number
invariant-loop-number l =
    l.out.items ++ rows unit_lines l.number (map endpoint_shown (drop l.number l.endpoints))
    ≡ l.initial.out.items ++ rows unit_lines 0 (map endpoint_shown l.endpoints)
