use Rattle.std.proofs.Common.{◌≡◌, ◌++◌, map, take, drop}
use Rattle.sva_open.specs.Devices.{switched_off}
use Rattle.sva_open_acts.proofs.deliveries.switch_off.Given as goal

abbrev pub invariant-loop-row : goal.invariant-loop-row
invariant-loop-row l = l.rows ≡ map switched_off (take l.row-index l.initial.rows) ++ drop l.row-index l.initial.rows
