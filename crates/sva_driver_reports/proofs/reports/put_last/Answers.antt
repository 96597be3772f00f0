use Rattle.std.proofs.Common.{◌++◌}
use Rattle.sva_driver_reports.specs.Reports.{behind_text, findings_count, no_more_text}
use Rattle.sva_driver_reports.proofs.Rests.{joined}
use Rattle.sva_driver_reports.proofs.reports.put_last.Goals as goal

pub returns : goal.returns
returns c =
    let out = c.args.out.now.items in
    let count = findings_count c.args.count in
    let rest = no_more_text c.args.cut c.args.moments in
    joined out _ _ (count ++ rest) behind_text (joined out _ _ count rest c.in_ok-put_counted.ensures c.in_ok-put_no_more.ensures)
    c.in_ok-extend_from_slice.ensures.items
