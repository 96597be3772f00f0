use Rattle.std.proofs.Common.{sym, ◌∙◌}
use Rattle.sva_pasid.proofs.BearerLemmas.{pasid_in-is, bound-is}
use Rattle.sva_pasid.proofs.tables.Table.is_bound.Goals as goal

pub returns : goal.returns
returns c =
    let ps = c.self.inside.places.items in
    let bs = c.self.inside.bearers in
    let borne = c.pasid_of.ensures ∙ pasid_in-is c.args.space ps bs c.self.invariant.0 c.self.invariant.1 in
    rw⁻¹ c.self.view_is (c.is_some.ensures ∙ sym (bound-is c.args.space ps c.pasid_of.result (sym borne)))
