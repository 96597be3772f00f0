use Rattle.std.proofs.Common.{◌≡◌, drop}
use Rattle.sva_open.proofs.lists.drop_first.Given as goal

abbrev pub invariant-loop-at : goal.invariant-loop-at
invariant-loop-at g l = l.list.items ≡ drop l._at l.initial.list.items
