use Rattle.std.proofs.Common.{ap, sym}
use Rattle.sva_step.specs.Refusals.{name_of}
use Rattle.sva_step.proofs.refusals.Refusal.name.Goals as goal

pub returns-in-BadOrder : goal.returns-in-BadOrder
returns-in-BadOrder c = ap name_of (sym c.in-BadOrder.is)
