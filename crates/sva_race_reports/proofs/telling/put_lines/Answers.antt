use Rattle.std.proofs.Common.{[], arith}
use Rattle.sva_race_reports.specs.Kinds.{kind_line_if}
use Rattle.sva_race_reports.proofs.Rows.{row_next}
use Rattle.sva_race_reports.proofs.telling.put_lines.Goals as goal

pub loop-place-preserved : goal.loop-place-preserved
loop-place-preserved c =
    row_next (kind_line_if c.args.few_ends) c.args.kinds.now c.loop-place.place ([], 0) c.loop-place.out.items c.put_at.new.out.items _
    (omega (arith, c.loop-place-test.true, c.len-place-end.ensures)) c.in_ok-put_at.ensures c.loop-place.invariant
