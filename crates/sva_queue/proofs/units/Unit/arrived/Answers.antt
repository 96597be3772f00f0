use Rattle.std.proofs.Common.{ap, ◌∙◌}
use Rattle.sva_itags.specs.Tags.{freed_vector}
use Rattle.sva_queue.specs.Queue.{Queue}
use Rattle.sva_queue.proofs.units.Unit.arrived.Goals as goal

pub returns-clause-freed : goal.returns-clause-freed
returns-clause-freed c = c.arrived.ensures.freed ∙ ap (λ (q : Queue). freed_vector c.args.vector c.args.count q.tags) c.self.view_is
