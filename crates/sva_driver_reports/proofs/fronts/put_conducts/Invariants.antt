use Rattle.std.proofs.Common.{◌≡◌, ◌++◌, drop}
use Rattle.sva_driver_reports.specs.Witness.{conducts_from}
use Rattle.sva_driver_reports.proofs.fronts.put_conducts.Given as goal

-- what was said so far, and what is left to say
abbrev pub invariant-loop-endpoint : goal.invariant-loop-endpoint
invariant-loop-endpoint l =
    l.out.items ++ conducts_from l.endpoint (drop l.endpoint l.parts) ≡ l.initial.out.items ++ conducts_from 0 l.parts
