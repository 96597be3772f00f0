use Rattle.std.proofs.Common.{◌≡◌, filter, map, take}
use Rattle.sva_prq.specs.Groups.{is_of_unit}
use Rattle.sva_parts_by_labels.specs.JobTable.{group_seen}
use Rattle.sva_snapshot.specs.Shown.{host_group_shown}
use Rattle.sva_snapshot.proofs.jobs.groups_of.Given as goal

abbrev pub invariant-loop-group : goal.invariant-loop-group
invariant-loop-group l = map host_group_shown l.own.items ≡ map group_seen (filter (is_of_unit l.unit) (take l.group-index l.groups))
