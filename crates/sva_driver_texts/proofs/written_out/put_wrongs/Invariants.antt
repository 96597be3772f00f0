use Rattle.std.proofs.Common.{◌≡◌, ◌++◌, drop, map}
use Rattle.std.specs.Prelude.{flat_map}
use Rattle.sva_driver_texts.specs.Bodies.{wrong_seen}
use Rattle.sva_driver_texts.specs.WrittenOut.{wrong_text}
use Rattle.sva_driver_texts.proofs.written_out.put_wrongs.Given as goal

-- what is told so far, with what is told of those that are left
abbrev pub invariant-loop-line : goal.invariant-loop-line
invariant-loop-line l =
    l.out.items ++ flat_map (wrong_text l.known) (map wrong_seen (drop l.line-index l.lines))
    ≡ l.initial.out.items ++ flat_map (wrong_text l.known) (map wrong_seen l.lines)
