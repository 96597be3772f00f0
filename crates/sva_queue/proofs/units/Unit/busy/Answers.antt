use Rattle.std.proofs.Common.{ap, ◌∙◌}
use Rattle.sva_itags.specs.Tags.{busy_vector}
use Rattle.sva_queue.specs.Queue.{Queue}
use Rattle.sva_queue.proofs.units.Unit.busy.Goals as goal

pub returns-clause-vector : goal.returns-clause-vector
returns-clause-vector c = c.busy.ensures.vector ∙ ap (λ (q : Queue). busy_vector q.tags) c.self.view_is
