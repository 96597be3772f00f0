use Rattle.sva_open.specs.Devices.{above_arrived}
use Rattle.sva_open.proofs.Highest.{Found}
use Rattle.sva_open.proofs.numbers.above_all_arrived.Given as goal

abbrev pub invariant-loop-one : goal.invariant-loop-one
invariant-loop-one l = Found (above_arrived l.index) l.arrived l.one-index l.top
