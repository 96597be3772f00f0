use Rattle.std.proofs.Common.{◌≡◌, ◌++◌}
use Rattle.sva_race.specs.Moments.{done_first}
use Rattle.sva_race_reports.specs.Witnesses.{before_text}
use Rattle.sva_race_reports.proofs.witnesses.put_before.Given as goal

-- so many lines are done, and their steps written
abbrev pub invariant-loop-place : goal.invariant-loop-place
invariant-loop-place l = record {
  done : l.moment ≡ done_first l.race l.place;
  said : l.out.items ≡ l.initial.out.items ++ before_text l.race l.place;
}
