use Rattle.sva_renumbering.proofs.Stepping as by_step
use Rattle.sva_renumbering.proofs.steps_alike.Goals as goal

pub returns : goal.returns
returns c = record { steps = by_step.steps_alike; deliveries = by_step.deliveries_alike; same = by_step.same_step_alike; runs = by_step.runs_alike }
