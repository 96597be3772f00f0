use Rattle.std.proofs.Common.{◌≡◌, ◌++◌, flat_map, map, take}
use Rattle.sva_lines.specs.Units.{filed_line}
use Rattle.sva_snapshot.specs.Shown.{host_group_shown}
use Rattle.sva_lines.proofs.units.put_filed.Given as goal

abbrev pub invariant-loop-group : goal.invariant-loop-group
invariant-loop-group l =
    l.out.items ≡ l.initial.out.items ++ flat_map (filed_line l.unit) (map host_group_shown (take l.group-index l.groups))
