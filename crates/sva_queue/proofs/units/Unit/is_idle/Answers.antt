use Rattle.sva_queue.proofs.IdleTags.{idle}
use Rattle.sva_queue.proofs.units.Unit.is_idle.Goals as goal

pub returns : goal.returns
returns c = rw c.busy.ensures.vector (idle c.args.self.now.tags)
