use Rattle.std.proofs.Common.{rules}
use Rattle.sva_endpoint.proofs.device.Endpoint.may_begin_use.Goals as goal

pub returns-in_default-lowest_free : goal.returns-in_default-lowest_free
returns-in_default-lowest_free c = search rules

pub returns : goal.returns
returns c = search rules
