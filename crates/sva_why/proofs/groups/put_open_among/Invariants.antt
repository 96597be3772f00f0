use Rattle.std.proofs.Common.{◌≡◌, ◌++◌, flat_map, map, take}
use Rattle.sva_snapshot.specs.Shown.{endpoint_shown, host_group_shown}
use Rattle.sva_why.specs.Groups.{open_if}
use Rattle.sva_why.proofs.groups.put_open_among.Given as goal

-- what was said so far
abbrev pub invariant-loop-group : goal.invariant-loop-group
invariant-loop-group l =
    l.out.items ≡ l.initial.out.items
    ++ flat_map (open_if l.level l.snapshot l.endpoint (endpoint_shown l.part) l.binding) (map host_group_shown (take l.group-index l.groups))
