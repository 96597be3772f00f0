use Rattle.std.proofs.Common.{append_assoc}
use Rattle.sva_driver_words.proofs.platforms.put_platform.Goals as goal

pub returns : goal.returns
returns c =
    simp (
      c.in_ok-extend_from_slice.ensures.items,
      c.in_ok-put_units.ensures,
      c.in_ok-put_unpaired.ensures,
      c.in_ok-put_pairs.ensures,
      append_assoc,
    )
