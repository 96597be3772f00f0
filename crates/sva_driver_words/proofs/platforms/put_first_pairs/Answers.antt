use Rattle.std.proofs.Common.{append_assoc}
use Rattle.sva_driver_words.specs.Platforms.{first_pairs}
use Rattle.sva_driver_words.proofs.platforms.put_first_pairs.Goals as goal

pub returns : goal.returns
unfolding first_pairs
returns c =
    simp (
      c.in_ok-extend_from_slice-5.ensures.items,
      c.as_bytes-5.ensures.value,
      c.stopped_words.ensures,
      c.in_ok-extend_from_slice-4.ensures.items,
      c.as_bytes-4.ensures.value,
      c.one_of-caches.ensures,
      c.in_ok-extend_from_slice-3.ensures.items,
      c.as_bytes-3.ensures.value,
      c.one_of-drain.ensures,
      c.in_ok-extend_from_slice-2.ensures.items,
      c.as_bytes-2.ensures.value,
      c.one_of-waits.ensures,
      c.in_ok-extend_from_slice.ensures.items,
      c.as_bytes.ensures.value,
      c.link_words.ensures,
      append_assoc,
    )
