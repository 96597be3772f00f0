use Rattle.std.proofs.Common.{◌≡◌, ◌++◌, drop, Some}
use Rattle.sva_race_reports.specs.Witnesses.{moves_text}
use Rattle.sva_race_reports.proofs.witnesses.put_moves.Given as goal

-- the moves so far, and those that are left
abbrev pub invariant-loop-place : goal.invariant-loop-place
invariant-loop-place l =
    l.out.items ++ moves_text l.race l.threads (Some l.moment) (drop l.place l.choices)
    ≡ l.initial.out.items ++ moves_text l.race l.threads (Some l.initial.moment) l.choices
