use Rattle.std.proofs.Common.{ap, ◌∙◌}
use Rattle.sva_iommu.specs.Seen.{UnitSeen, seen, with_unit}
use Rattle.sva_iommu.specs.Pumping.{next_of, unit_sent}
use Rattle.sva_iommu.proofs.Pumps.{may_send, sent}
use Rattle.sva_iommu.proofs.units.RemappingUnit.send.Goals as goal

pub send-requires : goal.send-requires
send-requires c = may_send c.self.inside.queue c.self.inside.requests c.args.sending (ap next_of c.self.view_is ∙ c.requires)

pub returns : goal.returns
returns c =
    let q = c.self.inside.queue in
    let requests = c.self.inside.requests in
    ap (λ k. seen k requests) c.send.ensures
    ∙ sent q requests c.args.sending.itag (may_send q requests c.args.sending (ap next_of c.self.view_is ∙ c.requires))
    ∙ ap (λ (s : UnitSeen). with_unit s (unit_sent s.unit c.args.sending.itag)) c.self.view_is
