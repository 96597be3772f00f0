use Rattle.std.proofs.Common.{ap, ◌∙◌, sym, subst}
use Rattle.sva_iommu.specs.Pumping.{next_of, IsPump}
use Rattle.sva_iommu.proofs.Pumps.{pump_is, empty_seen, looked}
use Rattle.sva_iommu.proofs.units.RemappingUnit.next.Goals as goal

pub returns-clause-next : goal.returns-clause-next
returns-clause-next c =
    let q = c.self.inside.queue in
    let requests = c.self.inside.requests in
    c.look.ensures ∙ looked q requests c.is_empty.result (empty_seen c.is_empty.result requests c.is_empty.ensures) ∙ ap next_of c.self.view_is

pub returns-clause-pump : goal.returns-clause-pump
returns-clause-pump c = subst (IsPump c.args.self.now) (sym (returns-clause-next c)) (pump_is c.args.self.now)
