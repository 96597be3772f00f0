use Rattle.std.proofs.Common.{◌≡◌, ◌≤◌, ◌++◌, drop}
use Rattle.sva_race_reports.specs.Reports.{asks, witnesses_from}
use Rattle.sva_race_reports.proofs.claims.put_witnesses.Given as goal

-- the witnesses so far, and those that are left
abbrev pub invariant-loop-place : goal.invariant-loop-place
invariant-loop-place g l = record {
  said : l.out.items ++ witnesses_from g.E.Explains.explained l.race l.threads l.whys l.found l.place l.before (asks (drop l.place l.asked))
      ≡ l.initial.out.items ++ witnesses_from g.E.Explains.explained l.race l.threads l.whys l.found 0 0 (asks l.asked);
  few : l.before ≤ l.place;
}
