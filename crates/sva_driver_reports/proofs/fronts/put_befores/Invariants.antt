use Rattle.sva_driver_reports.proofs.Rests.{Fronted}
use Rattle.sva_driver_reports.proofs.fronts.put_befores.Given as goal

-- so many lines were taken, and told where they were
abbrev pub invariant-loop-place : goal.invariant-loop-place
invariant-loop-place l = Fronted l.text l.initial.out.items l.out.items l.spot l.place
