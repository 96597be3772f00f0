use Rattle.std.proofs.Common.{◌≡◌, ◌++◌, drop, map}
use Rattle.sva_driver_texts.specs.Bodies.{lines_seen, texts, worded_seen}
use Rattle.sva_driver_texts.specs.WrittenOut.{put_line}
use Rattle.sva_driver_texts.specs.declared.bodies.WordedLine.{WordedLine}
use Rattle.sva_driver_texts.proofs.given.put_lines.Given as goal

-- the lines so far, with what those that are left give
abbrev pub invariant-loop-line : goal.invariant-loop-line
invariant-loop-line l =
    lines_seen l.put.items
    ++ map (λ (line : WordedLine). put_line (texts l.defined.parameters.items) (texts l.given) (worded_seen line))
    (drop l.line-index l.defined.lines.items)
    ≡ map (λ (line : WordedLine). put_line (texts l.defined.parameters.items) (texts l.given) (worded_seen line)) l.defined.lines.items
