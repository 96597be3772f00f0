use Rattle.std.proofs.Common.{take}
use Rattle.std.specs.List.{AllZip}
use Rattle.sva_variants.specs.Platforms.{IsOn}
use Rattle.sva_variants.proofs.standing.try_each.Given as goal

-- what is said of the platforms so far
abbrev pub invariant-loop-place : goal.invariant-loop-place
invariant-loop-place g l = AllZip (IsOn l.text l.most) (take l.place l.platforms) l.all.items
