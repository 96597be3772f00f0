use Rattle.sva_refinement.proofs.Said.{every_step, every_list}
use Rattle.sva_refinement.proofs.steps_by_labels.Goals as goal

pub returns : goal.returns
returns c = record { by_labels = every_step; runs = every_list }
