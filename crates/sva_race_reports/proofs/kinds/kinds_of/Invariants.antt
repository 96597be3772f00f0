use Rattle.std.proofs.Common.{◌≡◌, ◌≤◌, ℕ, List, drop, fold}
use Rattle.sva_race_reports.specs.Ends.{end_text}
use Rattle.sva_race_reports.specs.Kinds.{kinds_of, times, with_text}
use Rattle.sva_race_reports.proofs.kinds.kinds_of.Given as goal

-- the ends so far, and those that are left
abbrev pub invariant-loop-place : goal.invariant-loop-place
invariant-loop-place l = record {
  said : fold (λ kinds end. with_text kinds (end_text l.race l.threads end.outcome)) l.kinds (drop l.place l.ends) ≡ kinds_of l.race l.threads l.ends;
  few : (text : List ℕ) → times text l.kinds ≤ l.place;
}
