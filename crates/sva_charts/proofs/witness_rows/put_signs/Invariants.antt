use Rattle.std.proofs.Common.{◌≡◌, ◌++◌, drop}
use Rattle.std.specs.Prelude.{flat_map}
use Rattle.sva_charts.specs.Witnesses.{sign_text}
use Rattle.sva_charts.proofs.witness_rows.put_signs.Given as goal

-- what was appended and what is left are the whole
abbrev pub invariant-loop-sign : goal.invariant-loop-sign
invariant-loop-sign l = l.out.items ++ flat_map sign_text (drop l.sign-index l.signs) ≡ l.initial.out.items ++ flat_map sign_text l.signs
