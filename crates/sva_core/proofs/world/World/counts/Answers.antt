use Rattle.std.proofs.Common.{subst}
use Rattle.sva_model.specs.Wire.{Wire}
use Rattle.sva_address_spaces.specs.Steps.{Counted}
use Rattle.sva_core.proofs.Agreed.{agreed}
use Rattle.sva_core.proofs.Reaching.{counts_of, counts_on, adding_up}
use Rattle.sva_core.proofs.world.World.counts.Goals as goal

pub returns-clause-counts : goal.returns-clause-counts
returns-clause-counts c =
    counts_on c.self.inside.host c.args.self.now c.counts.result c.self.view_is (counts_of c.self.inside.host c.counts.result c.counts.ensures)

pub returns-clause-adds_up : goal.returns-clause-adds_up
returns-clause-adds_up c =
    adding_up c.args.self.now c.counts.result
    (counts_on c.self.inside.host c.args.self.now c.counts.result c.self.view_is (counts_of c.self.inside.host c.counts.result c.counts.ensures))

pub returns-clause-agreed : goal.returns-clause-agreed
returns-clause-agreed c = λ at. agreed c.args.self.now at

pub returns-clause-labels : goal.returns-clause-labels
returns-clause-labels c = subst (λ (seen : Wire). Counted seen.places c.counts.result) c.self.view_is c.counts.ensures
