use Rattle.std.proofs.Common.{◌≡◌, ◌++◌, drop, map}
use Rattle.sva_lines.specs.Devices.{endpoint_lines}
use Rattle.sva_lines.specs.Pieces.{rows}
use Rattle.sva_snapshot.specs.Shown.{endpoint_shown}
use Rattle.sva_lines.proofs.devices.put_endpoints.Given as goal

-- what was said and what is left make the whole
abbrev pub invariant-loop-number : goal.invariant-loop-number
invariant-loop-number l =
    l.out.items ++ rows endpoint_lines l.number (map endpoint_shown (drop l.number l.endpoints))
    ≡ l.initial.out.items ++ rows endpoint_lines 0 (map endpoint_shown l.endpoints)
