use Rattle.std.proofs.Common.{◌≡◌, ◌++◌, drop}
use Rattle.sva_scenario.specs.Lines.{lines_of_owner}
use Rattle.sva_scenario.proofs.lines.Lines.of.Given as goal

-- the lines so far, and the owner's among those that are left
abbrev pub invariant-loop-step : goal.invariant-loop-step
invariant-loop-step l = l.own.items ++ lines_of_owner l.whose (drop l.step-index l.steps) ≡ lines_of_owner l.whose l.steps
