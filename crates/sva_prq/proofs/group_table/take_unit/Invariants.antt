-- below this key the groups of the unit are gone, and all others are as they were
use Rattle.std.proofs.Common.{◌≡◌, ℕ, ◌+◌, ◌<◌, ◌≤◌, true, false, get_or, None}
use Rattle.slab.specs.Slab.{slab_len}
use Rattle.sva_prq.specs.Groups.{is_of_unit}
use Rattle.sva_prq.specs.Slots.{passes_at}
use Rattle.sva_prq.proofs.group_table.take_unit.Given as goal

abbrev pub invariant-loop-key : goal.invariant-loop-key
invariant-loop-key l =
    ((k : ℕ) → k < l.key → passes_at (is_of_unit l.unit) (get_or l.initial.slots.slots k None) ≡ true → get_or l.slots.slots k None ≡ None)
    × ((k : ℕ) → passes_at (is_of_unit l.unit) (get_or l.initial.slots.slots k None) ≡ false → get_or l.slots.slots k None ≡ get_or
    l.initial.slots.slots k None)
    × ((k : ℕ) → l.key ≤ k → get_or l.slots.slots k None ≡ get_or l.initial.slots.slots k None)
    × (slab_len l.slots + l.count ≡ slab_len l.initial.slots)
    × (l.slots.capacity ≡ l.initial.slots.capacity)
