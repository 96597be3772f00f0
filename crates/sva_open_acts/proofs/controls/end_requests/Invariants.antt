use Rattle.std.proofs.Common.{◌≡◌, ◌++◌, map, take, drop}
use Rattle.sva_open.specs.Devices.{over}
use Rattle.sva_open_acts.proofs.controls.end_requests.Given as goal

abbrev pub invariant-loop-request : goal.invariant-loop-request
invariant-loop-request l = l.requests ≡ map over (take l.request-index l.initial.requests) ++ drop l.request-index l.initial.requests
