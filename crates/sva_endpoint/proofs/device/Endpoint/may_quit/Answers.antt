use Rattle.std.proofs.Common.{rules}
use Rattle.sva_endpoint.proofs.device.Endpoint.may_quit.Goals as goal

pub returns-then-is_collecting : goal.returns-then-is_collecting
returns-then-is_collecting c = search rules

pub returns : goal.returns
returns c = search rules
