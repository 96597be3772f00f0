use Rattle.std.proofs.Common.{◌≡◌, [], drop, take}
use Rattle.sva_race_texts.proofs.Lists.{said}
use Rattle.sva_driver_texts.specs.WrittenOut.{parameters_wrong}
use Rattle.sva_driver_texts.proofs.wrong_bodies.parameters_wrong.Given as goal

-- what is wrong with those that are left is what is wrong with all
abbrev pub invariant-loop-at : goal.invariant-loop-at
invariant-loop-at l = parameters_wrong (take l.at (said l.words)) (drop l.at (said l.words)) ≡ parameters_wrong [] (said l.words)
