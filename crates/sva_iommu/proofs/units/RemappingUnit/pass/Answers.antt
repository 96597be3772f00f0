use Rattle.std.proofs.Common.{ap, ◌∙◌}
use Rattle.sva_iommu.specs.Seen.{UnitSeen, seen, with_unit}
use Rattle.sva_iommu.specs.Pumping.{next_of, unit_passed}
use Rattle.sva_iommu.proofs.Pumps.{may_pass_on, passed}
use Rattle.sva_iommu.proofs.units.RemappingUnit.pass.Goals as goal

pub pass-requires : goal.pass-requires
pass-requires c = may_pass_on c.self.inside.queue c.self.inside.requests c.args.cookie (ap next_of c.self.view_is ∙ c.requires)

pub returns : goal.returns
returns c =
    ap (λ k. seen k c.self.inside.requests) c.pass.ensures
    ∙ passed c.self.inside.queue c.self.inside.requests c.args.cookie
    ∙ ap (λ (s : UnitSeen). with_unit s (unit_passed s.unit c.args.cookie)) c.self.view_is
