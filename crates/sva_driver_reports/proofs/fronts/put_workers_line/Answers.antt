use Rattle.std.proofs.Common.{append_assoc}
use Rattle.sva_driver_reports.proofs.fronts.put_workers_line.Goals as goal

pub returns : goal.returns
returns c =
    simp (
      c.in_ok-extend_from_slice-2.ensures.items,
      c.in_ok-put_if-2.ensures,
      c.in_ok-put_if.ensures,
      c.in_ok-extend_from_slice.ensures.items,
      append_assoc,
    )
