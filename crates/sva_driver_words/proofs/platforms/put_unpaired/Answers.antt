use Rattle.std.proofs.Common.{append_assoc}
use Rattle.sva_driver_words.proofs.platforms.put_unpaired.Goals as goal

pub returns : goal.returns
returns c =
    simp (
      c.in_ok-put_places.ensures,
      c.in_ok-extend_from_slice-4.ensures.items,
      c.as_bytes-4.ensures.value,
      c.one_of-allowed.ensures,
      c.in_ok-extend_from_slice-3.ensures.items,
      c.as_bytes-3.ensures.value,
      c.one_of-refused.ensures,
      c.in_ok-extend_from_slice-2.ensures.items,
      c.as_bytes-2.ensures.value,
      c.timeouts_words.ensures,
      c.in_ok-extend_from_slice.ensures.items,
      c.as_bytes.ensures.value,
      c.one_of-cleared.ensures,
      append_assoc,
    )
