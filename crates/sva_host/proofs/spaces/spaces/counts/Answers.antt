use Rattle.std.proofs.Common.{subst}
use Rattle.sva_model.specs.Wire.{Wire}
use Rattle.sva_address_spaces.specs.Steps.{Counted}
use Rattle.sva_host.proofs.spaces.spaces.counts.Goals as goal

pub returns : goal.returns
returns c = subst (λ (w : Wire). Counted w.places c.counts.result) c.host.view_is c.counts.ensures
