use Rattle.std.proofs.Common.{ℕ, ◌≤◌}
use Rattle.sva_address_spaces.specs.Lives.{count_all}
use Rattle.sva_address_spaces.specs.Owned.{mapped_bit}
use Rattle.sva_address_spaces.proofs.address_spaces.AddressSpaces.drop.Given as goal

-- the spaces that are left own their frames
abbrev pub invariant-loop-live : goal.invariant-loop-live
invariant-loop-live l = (f : ℕ) → count_all f l.spaces.items ≤ mapped_bit f l.pool

abbrev pub decreases-loop-live : goal.decreases-loop-live
decreases-loop-live l = goal.left-loop-live l
