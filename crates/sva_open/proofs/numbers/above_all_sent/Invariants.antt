use Rattle.sva_open.specs.Devices.{above_sent}
use Rattle.sva_open.proofs.Highest.{Found}
use Rattle.sva_open.proofs.numbers.above_all_sent.Given as goal

abbrev pub invariant-loop-one : goal.invariant-loop-one
invariant-loop-one l = Found (above_sent l.index) l.flight l.one-index l.top
