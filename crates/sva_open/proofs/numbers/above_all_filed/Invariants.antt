use Rattle.sva_open.specs.Devices.{above_filed}
use Rattle.sva_open.proofs.Highest.{Found}
use Rattle.sva_open.proofs.numbers.above_all_filed.Given as goal

abbrev pub invariant-loop-one : goal.invariant-loop-one
invariant-loop-one l = Found (above_filed l.index) l.filed l.one-index l.top
