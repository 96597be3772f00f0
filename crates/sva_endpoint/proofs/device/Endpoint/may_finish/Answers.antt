use Rattle.std.proofs.Common.{rules}
use Rattle.sva_endpoint.proofs.device.Endpoint.may_finish.Goals as goal

pub returns-then-is_one_waiting : goal.returns-then-is_one_waiting
returns-then-is_one_waiting c = search rules

pub returns-then-count-eq0 : goal.returns-then-count-eq0
returns-then-count-eq0 c = search rules

pub returns : goal.returns
returns c = search rules
