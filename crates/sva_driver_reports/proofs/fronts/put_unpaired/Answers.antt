use Rattle.std.proofs.Common.{append_assoc}
use Rattle.sva_driver_reports.proofs.fronts.put_unpaired.Goals as goal

pub returns : goal.returns
returns c =
    simp (
      c.in_ok-put_places.ensures,
      c.in_ok-put_if-3.ensures,
      c.in_ok-put_if-2.ensures,
      c.in_ok-extend_from_slice.ensures.items,
      c.as_bytes.ensures.value,
      c.timeouts_text.ensures,
      c.in_ok-put_if.ensures,
      append_assoc,
    )
