use Rattle.std.proofs.Common.{◌≡◌, ◌++◌, map, take, drop}
use Rattle.sva_open.specs.Devices.{asked_noted}
use Rattle.sva_open_acts.proofs.barriers.note_asked.Given as goal

abbrev pub invariant-loop-request : goal.invariant-loop-request
invariant-loop-request l =
    l.requests ≡ map (asked_noted l.barrier) (take l.request-index l.initial.requests) ++ drop l.request-index l.initial.requests
