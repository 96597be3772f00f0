use Rattle.std.proofs.Common.{◌∙◌, ◌≤◌, ap, sym, length, slice_index_or, arith}
use Rattle.std.proofs.lemmas.List.{get_or_past}
use Rattle.sva_endpoint.specs.declared.pasid_states.PasidState.TheVariants.{Off}
use Rattle.sva_endpoint.proofs.pasid_states.PasidStates.state_of.Goals as goal

pub returns-then-pasid-len : goal.returns-then-pasid-len
returns-then-pasid-len c = ap (λ states. slice_index_or states c.args.pasid Off) (c.deref.ensures.0 ∙ c.self.view_is)

pub returns-else-pasid-len : goal.returns-else-pasid-len
returns-else-pasid-len c =
    let past : length c.args.self.now ≤ c.args.pasid = omega (arith, ap length c.self.view_is, c.len.ensures.value) in
    sym (get_or_past c.args.self.now c.args.pasid Off past)
