use Rattle.std.proofs.Common.{◌≡◌, ◌++◌, flat_map, map, take}
use Rattle.sva_snapshot.specs.Shown.{binding_shown}
use Rattle.sva_explain.specs.Tables.{bearer_if}
use Rattle.sva_explain.proofs.outstanding.tables.put_bearer.Given as goal

-- what was said so far
abbrev pub invariant-loop-binding : goal.invariant-loop-binding
invariant-loop-binding l =
    l.out.items ≡ l.initial.out.items ++ flat_map (bearer_if l.endpoint l.pasid) (map binding_shown (take l.binding-index l.bindings))
