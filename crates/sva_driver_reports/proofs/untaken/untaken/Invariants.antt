use Rattle.std.proofs.Common.{◌≡◌, [], drop}
use Rattle.sva_driver_reports.specs.Untaken.{untaken_by}
use Rattle.sva_driver_reports.proofs.untaken.untaken.Given as goal

-- the numbers so far, with those of the facts that are left
abbrev pub invariant-loop-place : goal.invariant-loop-place
invariant-loop-place l =
    untaken_by l.taken l.lines l.looked l.told.items (drop l.place l.looked) ≡ untaken_by l.taken l.lines l.looked [] l.looked
