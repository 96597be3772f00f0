use Rattle.std.proofs.Common.{◌≡◌, ◌++◌, drop}
use Rattle.sva_several.specs.Lines.{lines_of}
use Rattle.sva_several.proofs.reporting.put_lines.Given as goal

-- the lines so far, with those of the files that are left
abbrev pub invariant-loop-place : goal.invariant-loop-place
invariant-loop-place l =
    l.out.items ++ lines_of l.search (drop l.place l.names) (drop l.place l.texts) (drop l.place l.all)
    ≡ l.initial.out.items ++ lines_of l.search l.names l.texts l.all
