-- A list of steps in two parts; and a step of which no cause holds.
use Rattle.std.specs.Prelude.{◌≡◌, refl, false, List, [], ◌∷◌, ◌++◌}
use Rattle.sva_step.specs.declared.steps.Step.{Step}
use Rattle.sva_model.specs.State.{World}
use Rattle.sva_model.specs.Refusals.{Cause}
use Rattle.sva_model.specs.Steps.{next, run}

pub run_append : (a b : List Step) (w : World) → run w (a ++ b) ≡ run (run w a) b
run_append [] b w = refl
run_append (s ∷ a) b w = run_append a b (next w s)

-- none of these causes holds
abbrev pub Passed : List Cause → Type 0
Passed [] = Unit {0}
Passed (c ∷ cs) = (c.0 ≡ false) × Passed cs
