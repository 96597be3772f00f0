use Rattle.std.proofs.Common.{◌≡◌, ◌≤◌, ◌+◌, eqb, length}
use Rattle.std.specs.Prelude.{count_by}
use Rattle.sva_grammar.proofs.lines.end_count.Given as goal

-- the LFs so far, and those of the rest, are all
abbrev pub invariant-loop-rest : goal.invariant-loop-rest
invariant-loop-rest l = record {
  counted : l.ends + count_by (λ byte. eqb byte 10) l.rest ≡ count_by (λ byte. eqb byte 10) l.text;
  few : l.ends + length l.rest ≤ length l.text;
}

abbrev pub decreases-loop-rest : goal.decreases-loop-rest
decreases-loop-rest l = length l.rest
