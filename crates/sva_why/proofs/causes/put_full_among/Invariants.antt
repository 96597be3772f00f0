use Rattle.std.proofs.Common.{◌≡◌, ◌++◌, drop, map}
use Rattle.sva_lines.specs.Pieces.{rows}
use Rattle.sva_snapshot.specs.Shown.{endpoint_shown}
use Rattle.sva_why.specs.Causes.{full_if}
use Rattle.sva_why.proofs.causes.put_full_among.Given as goal

-- what was said and what is left make the whole
abbrev pub invariant-loop-unit : goal.invariant-loop-unit
invariant-loop-unit l =
    l.out.items ++ rows (full_if l.snapshot l.space l.needed) l.unit (map endpoint_shown (drop l.unit l.endpoints))
    ≡ l.initial.out.items ++ rows (full_if l.snapshot l.space l.needed) 0 (map endpoint_shown l.endpoints)
