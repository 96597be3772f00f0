-- the groups of the slots from this one on stand in order
use Rattle.std.proofs.Common.{◌≡◌, drop}
use Rattle.sva_prq.specs.Slots.{groups_in}
use Rattle.sva_prq.proofs.reading.in_order.Given as goal

abbrev pub invariant-loop-key : goal.invariant-loop-key
invariant-loop-key l = l.groups.items ≡ groups_in (drop l.key l.slots.slots)

abbrev pub decreases-loop-key : goal.decreases-loop-key
decreases-loop-key l = l.key
