use Rattle.std.proofs.Common.{◌≡◌, ◌++◌, drop}
use Rattle.std.specs.Prelude.{flat_map}
use Rattle.sva_driver_words.specs.Pieces.{and_number}
use Rattle.sva_charts.proofs.witness_rows.put_numbers.Given as goal

-- what was appended and what is left are the whole
abbrev pub invariant-loop-number : goal.invariant-loop-number
invariant-loop-number l = l.out.items ++ flat_map and_number (drop l.number-index l.numbers) ≡ l.initial.out.items ++ flat_map and_number l.numbers
