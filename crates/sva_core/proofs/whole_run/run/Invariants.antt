use Rattle.std.proofs.Common.{◌≡◌, ◌≤◌, length, take, vec_len}
use Rattle.std.specs.Prelude.{vec_capacity}
use Rattle.sva_model.specs.State.PasidRule.{PerSpace}
use Rattle.sva_model.specs.State.{opened}
use Rattle.sva_core.specs.Reached.{Ran}
use Rattle.sva_core.proofs.whole_run.run.Given as goal

-- the answers so far are those to the steps so far, and there is room for the others
abbrev pub invariant-loop-step : goal.invariant-loop-step
invariant-loop-step l =
    Ran (opened PerSpace l.fn.config) (take l.step-index l.steps) l.answers.items l.world
    × (vec_len l.answers ≡ l.step-index)
    × (length l.steps ≤ vec_capacity l.answers)
