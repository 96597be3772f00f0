use Rattle.std.proofs.Common.{◌≡◌, ◌++◌, drop, length}
use Rattle.sva_driver_reports.specs.Untaken.{numbers_from}
use Rattle.sva_driver_reports.proofs.untaken.put_numbers.Given as goal

-- what was said so far, and what is left to say
abbrev pub invariant-loop-place : goal.invariant-loop-place
invariant-loop-place l =
    l.out.items ++ numbers_from (length l.numbers) l.place (drop l.place l.numbers)
    ≡ l.initial.out.items ++ numbers_from (length l.numbers) 0 l.numbers
