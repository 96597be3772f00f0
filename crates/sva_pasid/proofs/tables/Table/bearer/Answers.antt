use Rattle.std.proofs.Common.{◌∙◌}
use Rattle.sva_pasid.proofs.BearerLemmas.{slot-is}
use Rattle.sva_pasid.proofs.tables.Table.bearer.Goals as goal

pub returns : goal.returns
returns c =
    rw⁻¹ c.self.view_is (c.bearer_in.ensures ∙ slot-is c.args.pasid c.self.inside.places.items c.self.inside.bearers c.self.invariant.0 c.self.invariant.1)
