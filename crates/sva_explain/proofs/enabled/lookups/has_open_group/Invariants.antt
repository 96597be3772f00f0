use Rattle.std.proofs.Common.{◌≡◌, ◌==◌, drop, map}
use Rattle.std.specs.List.{list_any}
use Rattle.sva_snapshot.specs.Shown.{host_group_shown}
use Rattle.sva_explain.proofs.enabled.lookups.has_open_group.Given as goal

-- none so far is of the binding
abbrev pub invariant-loop-group : goal.invariant-loop-group
invariant-loop-group l =
    list_any (λ group. group.binding == l.binding) (map host_group_shown (drop l.group-index l.part.host_groups.items))
    ≡ list_any (λ group. group.binding == l.binding) (map host_group_shown l.part.host_groups.items)
