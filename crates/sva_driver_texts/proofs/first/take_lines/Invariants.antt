use Rattle.std.proofs.Common.{◌≡◌}
use Rattle.std.specs.Prelude.{Ok}
use Rattle.sva_driver_texts.specs.Texts.{behind_first}
use Rattle.sva_driver_texts.proofs.first.take_lines.Given as goal

-- so many lines were taken
abbrev pub invariant-loop-place : goal.invariant-loop-place
invariant-loop-place l = behind_first l.driver l.place ≡ Ok l.spot
