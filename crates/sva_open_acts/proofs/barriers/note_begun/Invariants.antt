use Rattle.std.proofs.Common.{◌≡◌, ◌++◌, map, take, drop}
use Rattle.sva_open.specs.Devices.{begun_noted}
use Rattle.sva_open_acts.proofs.barriers.note_begun.Given as goal

abbrev pub invariant-loop-group : goal.invariant-loop-group
invariant-loop-group l =
    l.groups ≡ map (begun_noted l.barrier) (take l.group-index l.initial.groups) ++ drop l.group-index l.initial.groups
