use Rattle.sva_endpoint.proofs.Permits.{begun}
use Rattle.sva_endpoint.proofs.device.Endpoint.begin_use.Goals as goal

pub returns : goal.returns
returns c = begun _ c.args.self.now c.args.permitted _ c.self.view_is c.requires c.begin.ensures
