use Rattle.std.proofs.Common.{arith}
use Rattle.sva_frames.proofs.Ledgers.{ledger_opened}
use Rattle.sva_frames.proofs.ledger.Ledger.open.Goals as goal

pub invariant_of-result : goal.invariant_of-result
invariant_of-result c =
    rw (c.in_ok-vec.ensures.items_if_clones_equal (λ y is. is))
    (ledger_opened c.args.frames c.in_ok-free.free (omega arith) c.in_ok-free.ensures.room c.in_ok-free.ensures.below c.in_ok-free.ensures.above)
