use Rattle.std.proofs.Common.{◌≡◌, false, ap, ◌∙◌}
use Rattle.sva_queue.specs.Queue.{Queue}
use Rattle.sva_iommu.specs.Seen.{UnitSeen, seen, with_unit}
use Rattle.sva_iommu.specs.Changes.{unit_reopened}
use Rattle.sva_iommu.proofs.Completes.{reopened_is}
use Rattle.sva_iommu.proofs.units.RemappingUnit.reopen.Goals as goal

pub returns : goal.returns
returns c =
    let closed : c.self.inside.queue.is_open ≡ false = ap (λ (s : UnitSeen). s.unit.is_open) c.self.view_is ∙ c.requires in
    ap (λ (k : Queue). seen k c.self.inside.requests) c.end_reset.ensures
    ∙ reopened_is c.self.inside.queue c.self.inside.requests c.busy.ensures.tags.0 closed
    ∙ ap (λ (s : UnitSeen). with_unit s (unit_reopened s.unit)) c.self.view_is
