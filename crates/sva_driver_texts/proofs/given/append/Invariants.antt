use Rattle.std.proofs.Common.{◌≡◌, ◌++◌, drop}
use Rattle.sva_driver_texts.specs.Bodies.{lines_seen}
use Rattle.sva_driver_texts.proofs.given.append.Given as goal

-- the lines so far, with those that are left
abbrev pub invariant-loop-line : goal.invariant-loop-line
invariant-loop-line l =
    lines_seen l.to.items ++ lines_seen (drop l.line-index l.lines) ≡ lines_seen l.initial.to.items ++ lines_seen l.lines
