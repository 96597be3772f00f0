use Rattle.std.proofs.Common.{rules}
use Rattle.sva_endpoint.proofs.device.Endpoint.quit.Goals as goal

pub returns : goal.returns
returns c = search rules
