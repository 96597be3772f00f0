use Rattle.std.proofs.Common.{append_assoc}
use Rattle.sva_driver_reports.proofs.fronts.put_pairs.Goals as goal

pub returns : goal.returns
returns c =
    simp (
      c.in_ok-put_if-4.ensures,
      c.in_ok-extend_from_slice-2.ensures.items,
      c.as_bytes-2.ensures.value,
      c.stopped_text.ensures,
      c.in_ok-put_if-3.ensures,
      c.in_ok-put_if-2.ensures,
      c.in_ok-put_if.ensures,
      c.in_ok-extend_from_slice.ensures.items,
      c.as_bytes.ensures.value,
      c.link_text.ensures,
      append_assoc,
    )
