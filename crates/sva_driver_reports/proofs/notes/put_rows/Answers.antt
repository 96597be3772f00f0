use Rattle.std.proofs.Common.{◌<◌, ◌≤◌, length, rules}
use Rattle.sva_driver_reports.proofs.Rests.{rows_end, rows_next}
use Rattle.sva_driver_reports.proofs.notes.put_rows.Goals as goal

pub loop-pasid-preserved : goal.loop-pasid-preserved
loop-pasid-preserved c =
    let inside : c.loop-pasid.pasid < length c.args.rows.now = search rules in
    rows_next c.args.endpoint c.args.rows.now c.loop-pasid.pasid _ c.loop-pasid.out.items c.put_stopping.new.out.items _ inside c.loop-pasid.invariant
    c.in_ok-put_stopping.ensures

pub returns : goal.returns
returns c =
    let past : length c.args.rows.now ≤ c.loop-pasid.pasid = search rules in
    rows_end c.args.endpoint c.args.rows.now c.loop-pasid.pasid c.loop-pasid.out.items _ past c.loop-pasid.invariant
