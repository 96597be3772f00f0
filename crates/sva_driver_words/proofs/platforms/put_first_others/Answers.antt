use Rattle.std.proofs.Common.{append_assoc}
use Rattle.sva_driver_words.specs.Platforms.{first_others}
use Rattle.sva_driver_words.proofs.platforms.put_first_others.Goals as goal

pub returns : goal.returns
unfolding first_others
returns c =
    simp (
      c.in_ok-put_other-5.ensures,
      c.in_ok-put_other-4.ensures,
      c.in_ok-put_other-3.ensures,
      c.in_ok-put_other-2.ensures,
      c.in_ok-put_other.ensures,
      c.either-behind_status.ensures,
      c.either-behind_caches.ensures,
      c.either-behind_drain.ensures,
      append_assoc,
    )
