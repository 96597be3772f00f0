use Rattle.std.proofs.Common.{◌≡◌, ◌+◌, ◌∙◌, suc, false, [], ◌∷◌, ◌++◌, ap, arith}
use Rattle.sva_model.specs.Wire.Descriptor.{RangeDescriptor, WaitDescriptor}
use Rattle.sva_labels.specs.Moves.{with_descriptors}
use Rattle.sva_iommu.specs.Seen.{with_unit}
use Rattle.sva_iommu.proofs.Submitted.{one_range}
use Rattle.sva_iommu.proofs.units.RemappingUnit.submit_range.Goals as goal

pub returns : goal.returns
returns c =
    let own = c.args.self.now in
    let next : c.args.cookie + 1 ≡ suc c.args.cookie = omega arith in
    c.submit.ensures
    ∙ ap (λ n. with_unit own (record own.unit {
      queue = own.unit.queue ++ RangeDescriptor c.args.pasid c.new-range.result ∷ WaitDescriptor c.args.cookie false ∷ [];
      waits_end = n;
    })) next
    ∙ ap (λ ds. with_unit own (with_descriptors own.unit ds c.args.cookie))
    (ap (λ r. RangeDescriptor c.args.pasid r ∷ WaitDescriptor c.args.cookie false ∷ []) c.new-range.ensures
    ∙ one_range c.args.pasid c.args.page c.args.order c.args.cookie)
