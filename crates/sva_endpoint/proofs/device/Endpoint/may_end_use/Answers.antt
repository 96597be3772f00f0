use Rattle.std.proofs.Common.{rules}
use Rattle.sva_endpoint.proofs.device.Endpoint.may_end_use.Goals as goal

pub returns-in-Dead : goal.returns-in-Dead
returns-in-Dead c = search rules
