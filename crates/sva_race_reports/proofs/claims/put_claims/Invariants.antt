use Rattle.std.proofs.Common.{◌≡◌, ◌≤◌, ◌++◌, drop}
use Rattle.sva_race_reports.specs.Reports.{asks, claimed, claims_from}
use Rattle.sva_race_reports.proofs.claims.put_claims.Given as goal

-- what was said of the claims so far, and what is said of those that are left
abbrev pub invariant-loop-place : goal.invariant-loop-place
invariant-loop-place l = record {
  said : l.out.items ++ claims_from l.found l.place l.before (asks (drop l.place l.asked)) (claimed (drop l.place l.claims))
      ≡ l.initial.out.items ++ claims_from l.found 0 0 (asks l.asked) (claimed l.claims);
  few : l.before ≤ l.place;
}
