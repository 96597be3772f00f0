use Rattle.sva_endpoint.proofs.Permits.{begins_lowest, has_credit}
use Rattle.sva_endpoint.proofs.device.Endpoint.fault.Goals as goal

pub begin-requires-clause-lowest : goal.begin-requires-clause-lowest
begin-requires-clause-lowest c = begins_lowest _ c.args.self.now c.args.permitted c.self.view_is c.requires c.if-permitted.true

pub begin-requires-clause-credit : goal.begin-requires-clause-credit
begin-requires-clause-credit c = has_credit _ c.args.self.now c.args.permitted c.self.view_is c.requires

pub extend-requires-clause-credit : goal.extend-requires-clause-credit
extend-requires-clause-credit c = has_credit _ c.args.self.now c.args.permitted c.self.view_is c.requires
