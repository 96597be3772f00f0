use Rattle.std.proofs.Common.{◌≡◌, ◌++◌, flat_map, map, take}
use Rattle.sva_lines.specs.Memory.{binding_line}
use Rattle.sva_snapshot.specs.Shown.{binding_shown}
use Rattle.sva_lines.proofs.memory.put_bindings.Given as goal

abbrev pub invariant-loop-binding : goal.invariant-loop-binding
invariant-loop-binding l = l.out.items ≡ l.initial.out.items ++ flat_map binding_line (map binding_shown (take l.binding-index l.bindings))
