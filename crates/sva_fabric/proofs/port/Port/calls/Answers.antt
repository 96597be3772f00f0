use Rattle.std.proofs.Common.{rules}
use Rattle.sva_fabric.proofs.port.Port.calls.Goals as goal

pub returns : goal.returns
returns g c = search rules
