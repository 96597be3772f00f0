use Rattle.std.proofs.Common.{◌≡◌, ◌++◌, flat_map, map, take}
use Rattle.sva_lines.specs.Memory.{space_lines}
use Rattle.sva_snapshot.specs.Shown.{space_shown}
use Rattle.sva_lines.proofs.memory.put_spaces.Given as goal

abbrev pub invariant-loop-space : goal.invariant-loop-space
invariant-loop-space l = l.out.items ≡ l.initial.out.items ++ flat_map space_lines (map space_shown (take l.space-index l.spaces))
