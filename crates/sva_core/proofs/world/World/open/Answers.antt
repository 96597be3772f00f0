use Rattle.std.proofs.Common.{refl}
use Rattle.sva_core.proofs.Agreed.{agreed}
use Rattle.sva_core.proofs.Reaching.{opened_seen, reached_opened}
use Rattle.sva_core.proofs.world.World.open.Goals as goal

pub invariant_of-result : goal.invariant_of-result
invariant_of-result c = reached_opened c.args.config c.in-Ok.host (c.if-not-fits.ensures.0 refl) c.in-Ok.ensures

pub returns-in-Ok-clause-ok : goal.returns-in-Ok-clause-ok
returns-in-Ok-clause-ok c = (c.if-not-fits.ensures.0 refl, opened_seen c.args.config c.in-Ok.host c.in-Ok.ensures)

pub returns-in-Ok-clause-agreed : goal.returns-in-Ok-clause-agreed
returns-in-Ok-clause-agreed c = λ at. agreed c.in-Ok.host at
