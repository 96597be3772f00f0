use Rattle.std.proofs.Common.{append_assoc}
use Rattle.sva_driver_words.proofs.platforms.put_pairs.Goals as goal

pub returns : goal.returns
returns c =
    simp (
      c.in_ok-extend_from_slice.ensures.items,
      c.as_bytes.ensures.value,
      c.one_of-order.ensures,
      c.in_ok-put_first_pairs.ensures,
      append_assoc,
    )
