use Rattle.std.specs.Prelude.{Some, None}
use Rattle.sva_host_state.proofs.Waiting.{bearer_named}
use Rattle.sva_host.proofs.spaces.page_requests.bearer_at.Goals as goal

pub returns-in-Some : goal.returns-in-Some
returns-in-Some c = bearer_named c.host.inside _ c.args.endpoint c.args.pasid (Some c.in-Some.place.now) c.host.view_is c.in-Some.ensures

pub returns-in-None : goal.returns-in-None
returns-in-None c = bearer_named c.host.inside _ c.args.endpoint c.args.pasid None c.host.view_is c.in-None.ensures
