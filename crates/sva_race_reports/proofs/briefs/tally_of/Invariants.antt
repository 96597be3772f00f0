use Rattle.std.proofs.Common.{◌≡◌, drop}
use Rattle.sva_race_reports.specs.Briefs.{none_counted, tally_from}
use Rattle.sva_race_reports.specs.Reports.{asks, claimed}
use Rattle.sva_race_reports.proofs.Tallies.{AreFew}
use Rattle.sva_race_reports.proofs.briefs.tally_of.Given as goal

-- the claims so far, with those that are left
abbrev pub invariant-loop-place : goal.invariant-loop-place
invariant-loop-place l = record {
  counted : tally_from l.found l.tally l.place (asks (drop l.place l.asked)) (claimed (drop l.place l.claims))
      ≡ tally_from l.found none_counted 0 (asks l.asked) (claimed l.claims);
  few : AreFew l.tally l.place;
}
