use Rattle.std.proofs.Common.{◌≡◌, ◌++◌, drop}
use Rattle.std.specs.Prelude.{flat_map}
use Rattle.sva_variants.specs.Needed.{other_text}
use Rattle.sva_variants.proofs.telling.put_others.Given as goal

-- what was appended and what is left are the whole
abbrev pub invariant-loop-place : goal.invariant-loop-place
invariant-loop-place l = l.out.items ++ flat_map other_text (drop l.place l.others) ≡ l.initial.out.items ++ flat_map other_text l.others
