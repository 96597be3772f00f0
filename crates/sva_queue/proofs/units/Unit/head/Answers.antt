use Rattle.std.proofs.Common.{ap, ◌∙◌, slice_get}
use Rattle.sva_queue.specs.Queue.{Queue}
use Rattle.sva_queue.proofs.units.Unit.head.Goals as goal

pub returns : goal.returns
returns c = c.first.ensures ∙ ap (λ (q : Queue). slice_get q.descriptors 0) c.self.view_is
