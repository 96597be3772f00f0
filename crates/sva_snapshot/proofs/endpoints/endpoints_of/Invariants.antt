use Rattle.std.proofs.Common.{◌≡◌, map, take}
use Rattle.sva_host_state.specs.Inner.{part_seen}
use Rattle.sva_core.specs.HostSeen.{parts_with}
use Rattle.sva_snapshot.specs.Shown.{endpoint_shown, own_groups}
use Rattle.sva_snapshot.proofs.endpoints.endpoints_of.Given as goal

abbrev pub invariant-loop-number : goal.invariant-loop-number
invariant-loop-number l = map endpoint_shown l.endpoints.items ≡ parts_with (own_groups l.groups) (map part_seen (take l.number l.ports))
