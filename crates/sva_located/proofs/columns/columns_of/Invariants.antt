use Rattle.std.proofs.Common.{◌≡◌, ◌++◌, drop, true}
use Rattle.sva_located.specs.Columns.{columns_from}
use Rattle.sva_located.proofs.columns.columns_of.Given as goal

-- the columns so far, with those of what is left
abbrev pub invariant-loop-place : goal.invariant-loop-place
invariant-loop-place l =
    l.found.items ++ columns_from l.told l.place l.begins_word (drop l.place l.line) ≡ columns_from l.told 0 true l.line
