use Rattle.std.proofs.Common.{◌≡◌, ◌++◌, drop}
use Rattle.std.specs.Prelude.{flat_map}
use Rattle.sva_variants.specs.Needed.{told_of}
use Rattle.sva_variants.proofs.telling.put_all.Given as goal

-- what was appended and what is left are the whole
abbrev pub invariant-loop-tried : goal.invariant-loop-tried
invariant-loop-tried l = l.out.items ++ flat_map told_of (drop l.tried-index l.all) ≡ l.initial.out.items ++ flat_map told_of l.all
