use Rattle.std.proofs.Common.{◌≡◌, drop, map}
use Rattle.std.specs.List.{find}
use Rattle.sva_lines.specs.Words.{is_withheld}
use Rattle.sva_explain.specs.Units.{held_seen}
use Rattle.sva_explain.proofs.limits.frames.first_withheld.Given as goal

-- none so far is withheld
abbrev pub invariant-loop-held : goal.invariant-loop-held
invariant-loop-held l = find is_withheld (map held_seen (drop l.held-index l.frames)) ≡ find is_withheld (map held_seen l.frames)
