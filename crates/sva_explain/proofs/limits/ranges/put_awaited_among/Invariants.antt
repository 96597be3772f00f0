use Rattle.std.proofs.Common.{◌≡◌, ◌++◌, drop, map}
use Rattle.sva_explain.specs.Ranges.{awaited_at}
use Rattle.sva_lines.specs.Pieces.{rows}
use Rattle.sva_snapshot.specs.Shown.{endpoint_shown}
use Rattle.sva_explain.proofs.limits.ranges.put_awaited_among.Given as goal

-- what was said and what is left make the whole
abbrev pub invariant-loop-endpoint : goal.invariant-loop-endpoint
invariant-loop-endpoint l =
    l.out.items ++ rows (awaited_at l.snapshot l.space) l.endpoint (map endpoint_shown (drop l.endpoint l.endpoints))
    ≡ l.initial.out.items ++ rows (awaited_at l.snapshot l.space) 0 (map endpoint_shown l.endpoints)
