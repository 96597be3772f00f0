use Rattle.std.proofs.Common.{◌≡◌, ◌+◌, ◌*◌, ◌^◌}
use Rattle.sva_iommu.specs.Seen.{ranges_for}
use Rattle.sva_iommu.proofs.orders.orders_for.Given as goal

abbrev pub invariant-loop-number : goal.invariant-loop-number
invariant-loop-number l =
    record {
      items : l.orders.items ≡ ranges_for l.pasid l.page l._number l.order;
      base : l.base ≡ l.page + l._number * 2 ^ l.order;
    }
