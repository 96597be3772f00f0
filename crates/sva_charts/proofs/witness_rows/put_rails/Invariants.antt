use Rattle.std.proofs.Common.{◌≡◌, ◌++◌, drop}
use Rattle.std.specs.Prelude.{flat_map}
use Rattle.sva_charts.specs.Witnesses.{head_text}
use Rattle.sva_charts.proofs.witness_rows.put_rails.Given as goal

-- what was appended and what is left are the whole
abbrev pub invariant-loop-head : goal.invariant-loop-head
invariant-loop-head l = l.out.items ++ flat_map head_text (drop l.head-index l.heads) ≡ l.initial.out.items ++ flat_map head_text l.heads
