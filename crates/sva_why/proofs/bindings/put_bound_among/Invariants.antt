use Rattle.std.proofs.Common.{◌≡◌, ◌++◌, flat_map, map, take}
use Rattle.sva_snapshot.specs.Shown.{binding_shown}
use Rattle.sva_why.specs.Bindings.{bound_if}
use Rattle.sva_why.proofs.bindings.put_bound_among.Given as goal

-- what was said so far
abbrev pub invariant-loop-binding : goal.invariant-loop-binding
invariant-loop-binding l =
    l.out.items ≡ l.initial.out.items ++ flat_map (bound_if l.snapshot l.space) (map binding_shown (take l.binding-index l.bindings))
