use Rattle.std.proofs.Common.{◌≡◌, ◌++◌, drop, map}
use Rattle.std.specs.Prelude.{flat_map}
use Rattle.sva_driver_texts.specs.Bodies.{body_seen}
use Rattle.sva_driver_texts.specs.WrittenOut.{unended_text}
use Rattle.sva_driver_texts.proofs.written_out.put_each_unended.Given as goal

-- what is told so far, with what is told of those that are left
abbrev pub invariant-loop-body : goal.invariant-loop-body
invariant-loop-body l =
    l.out.items ++ flat_map (unended_text l.known) (map body_seen (drop l.body-index l.bodies))
    ≡ l.initial.out.items ++ flat_map (unended_text l.known) (map body_seen l.bodies)
