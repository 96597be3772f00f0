use Rattle.std.proofs.Common.{ap}
use Rattle.sva_fabric.specs.Receipts.{PortState}
use Rattle.sva_fabric.proofs.port.Port.number.Goals as goal

pub returns : goal.returns
returns g c = ap (λ (s : PortState). s.number) c.self.view_is
