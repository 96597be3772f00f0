use Rattle.std.proofs.Common.{ap}
use Rattle.sva_fabric.specs.TokenNumbers.{LeaseNumbers}
use Rattle.sva_fabric.proofs.tokens.Lease.pasid.Goals as goal

pub returns : goal.returns
returns g c = ap (λ (n : LeaseNumbers). n.pasid) c.self.view_is
