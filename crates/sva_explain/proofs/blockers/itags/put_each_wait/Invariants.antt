use Rattle.std.proofs.Common.{◌≡◌, ◌++◌, drop}
use Rattle.sva_lines.specs.Pieces.{rows}
use Rattle.sva_snapshot.specs.Shown.{endpoint_shown}
use Rattle.sva_explain.specs.Units.{waits_if}
use Rattle.sva_explain.proofs.blockers.itags.put_each_wait.Given as goal

-- what was said and what is left make the whole
abbrev pub invariant-loop-slot : goal.invariant-loop-slot
invariant-loop-slot l =
    l.out.items ++ rows (waits_if l.level l.snapshot l.endpoint (endpoint_shown l.part) l.itag) l.slot (drop l.slot l.slots)
    ≡ l.initial.out.items ++ rows (waits_if l.level l.snapshot l.endpoint (endpoint_shown l.part) l.itag) 0 l.slots
