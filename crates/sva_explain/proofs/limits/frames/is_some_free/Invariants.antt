use Rattle.std.proofs.Common.{◌≡◌, drop, map}
use Rattle.std.specs.List.{list_any}
use Rattle.sva_lines.specs.Words.{is_free}
use Rattle.sva_explain.specs.Units.{held_seen}
use Rattle.sva_explain.proofs.limits.frames.is_some_free.Given as goal

-- none so far is free
abbrev pub invariant-loop-held : goal.invariant-loop-held
invariant-loop-held l = list_any is_free (map held_seen (drop l.held-index l.frames)) ≡ list_any is_free (map held_seen l.frames)
