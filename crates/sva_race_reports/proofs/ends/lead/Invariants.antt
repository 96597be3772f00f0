use Rattle.std.proofs.Common.{◌≡◌, drop, Some}
use Rattle.sva_search.specs.Rules.{run_from}
use Rattle.sva_race.specs.Rules.{rules_of}
use Rattle.sva_race_reports.proofs.ends.lead.Given as goal

-- the choices that are left lead from here where all lead from the first moment
abbrev pub invariant-loop-place : goal.invariant-loop-place
invariant-loop-place l =
    run_from (rules_of l.race) (Some l.moment) (drop l.place l.choices) ≡ run_from (rules_of l.race) (Some l.initial.moment) l.choices
