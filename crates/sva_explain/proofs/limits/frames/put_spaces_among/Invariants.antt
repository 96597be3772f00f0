use Rattle.std.proofs.Common.{◌≡◌, ◌++◌, flat_map, map, take}
use Rattle.sva_explain.specs.Frames.{space_if}
use Rattle.sva_snapshot.specs.Shown.{space_shown}
use Rattle.sva_explain.proofs.limits.frames.put_spaces_among.Given as goal

-- what was said so far
abbrev pub invariant-loop-space : goal.invariant-loop-space
invariant-loop-space l =
    l.out.items ≡ l.initial.out.items ++ flat_map (space_if l.snapshot) (map space_shown (take l.space-index l.spaces))
