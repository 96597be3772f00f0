use Rattle.std.proofs.Common.{◌≡◌, ◌++◌, replicate}
use Rattle.sva_charts.proofs.witness_rows.put_blanks.Given as goal

-- so many were written
abbrev pub invariant-loop-column : goal.invariant-loop-column
invariant-loop-column l = l.out.items ≡ l.initial.out.items ++ replicate l._column 32
