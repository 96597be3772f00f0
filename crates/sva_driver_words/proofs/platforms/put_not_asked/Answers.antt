use Rattle.std.proofs.Common.{append_assoc}
use Rattle.sva_driver_words.proofs.platforms.put_not_asked.Goals as goal

pub returns : goal.returns
returns c =
    simp (
      c.in_ok-put_others_end.ensures,
      c.in_ok-put_other.ensures,
      c.in_ok-put_first_others.ensures,
      c.either-is_any.ensures,
      c.is_any_other-is_begun.ensures,
      c.may_be_known-known.ensures,
      c.may_be_status-status.ensures,
      append_assoc,
    )
