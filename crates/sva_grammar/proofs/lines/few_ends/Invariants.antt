use Rattle.std.proofs.Common.{◌≡◌, ◌≤◌, ◌+◌, drop, eqb}
use Rattle.std.specs.Prelude.{count_by}
use Rattle.sva_grammar.proofs.lines.few_ends.Given as goal

-- the LFs so far, and those that are left, are all
abbrev pub invariant-loop-byte : goal.invariant-loop-byte
invariant-loop-byte l = record {
  counted : l.ends + count_by (λ byte. eqb byte 10) (drop l.byte-index l.bytes) ≡ count_by (λ byte. eqb byte 10) l.bytes;
  few : l.ends ≤ l.byte-index;
}
