use Rattle.std.proofs.Common.{◌≡◌, ◌+◌, ◌≤◌, drop}
use Rattle.sva_several.specs.Verdicts.{count}
use Rattle.sva_several.proofs.verdicts.count.Given as goal

-- those so far, and those that are left
abbrev pub invariant-loop-place : goal.invariant-loop-place
invariant-loop-place l = record {
  counted : l.count + count l.verdict (drop l.place l.all) ≡ count l.verdict l.all;
  few : l.count ≤ l.place;
}
