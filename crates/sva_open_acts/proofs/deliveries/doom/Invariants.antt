use Rattle.std.proofs.Common.{◌≡◌, ◌++◌, map, take, drop}
use Rattle.sva_open.specs.Devices.{doomed}
use Rattle.sva_open_acts.proofs.deliveries.doom.Given as goal

abbrev pub invariant-loop-request : goal.invariant-loop-request
invariant-loop-request l =
    l.requests ≡ map (doomed l.scope) (take l.request-index l.initial.requests) ++ drop l.request-index l.initial.requests
