use Rattle.std.proofs.Common.{◌≡◌, []}
use Rattle.sva_pasid.proofs.BearerLemmas.{opened-table, opened-bearers}
use Rattle.sva_pasid.proofs.tables.Table.new.Goals as goal

pub invariant_of-result : goal.invariant_of-result
invariant_of-result c =
    let empty : c.new.result.items ≡ [] = cc in
    rw empty (opened-table, opened-bearers)
