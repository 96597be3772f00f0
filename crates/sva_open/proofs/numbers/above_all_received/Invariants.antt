use Rattle.sva_open.specs.Devices.{above_received}
use Rattle.sva_open.proofs.Highest.{Found}
use Rattle.sva_open.proofs.numbers.above_all_received.Given as goal

abbrev pub invariant-loop-one : goal.invariant-loop-one
invariant-loop-one l = Found (above_received l.index) l.received l.one-index l.top
