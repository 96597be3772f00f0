use Rattle.sva_endpoint.proofs.Permits.{asked}
use Rattle.sva_endpoint.proofs.device.Endpoint.ask.Goals as goal

pub returns : goal.returns
returns c = asked _ c.args.self.now c.args.permitted _ c.self.view_is c.requires c.take.ensures
