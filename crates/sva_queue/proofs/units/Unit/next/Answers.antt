use Rattle.std.proofs.Common.{ap, ◌∙◌}
use Rattle.sva_queue.specs.Heads.{pumped_of}
use Rattle.sva_queue.proofs.Looked.{answered}
use Rattle.sva_queue.proofs.units.Unit.next.Goals as goal

pub returns : goal.returns
returns c = c.pumped.ensures ∙ ap pumped_of c.look.ensures ∙ answered c.args.self.now c.args.prq_empty
