-- the groups below this key fail, whatever the test is
use Rattle.std.proofs.Common.{◌≡◌, ℕ, ◌<◌, Bool, false, get_or, None}
use Rattle.sva_prq.specs.Groups.{OpenGroup}
use Rattle.sva_prq.specs.Slots.{IsTest, passes_at}
use Rattle.sva_prq.proofs.group_table.key_where.Given as goal

abbrev pub invariant-loop-key : goal.invariant-loop-key
invariant-loop-key g l =
    (passes : OpenGroup → Bool) → IsTest (goal.F-post g l.test) passes
    → (k : ℕ) → k < l.key → passes_at passes (get_or l.slots.slots k None) ≡ false
