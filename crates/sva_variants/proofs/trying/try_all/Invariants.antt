use Rattle.std.proofs.Common.{take}
use Rattle.std.specs.List.{AllZip}
use Rattle.sva_variants.specs.Needed.{IsTriedBy}
use Rattle.sva_variants.proofs.trying.try_all.Given as goal

-- what is said of the lines so far
abbrev pub invariant-loop-place : goal.invariant-loop-place
invariant-loop-place g l = AllZip (IsTriedBy l.text l.most) (take l.place l.cuts) l.all.items
