use Rattle.std.proofs.Common.{◌≡◌, drop}
use Rattle.sva_race_reports.specs.Judging.{all_judged}
use Rattle.sva_race_reports.specs.Reports.{asks, claimed, verdict_of}
use Rattle.sva_race_reports.proofs.claims.verdict_of.Given as goal

-- what is said of the claims so far, with what is said of those that are left
abbrev pub invariant-loop-place : goal.invariant-loop-place
invariant-loop-place l =
    all_judged l.found l.so_far l.place (asks (drop l.place l.asked)) (claimed (drop l.place l.claims)) ≡ verdict_of l.race l.asked l.found
