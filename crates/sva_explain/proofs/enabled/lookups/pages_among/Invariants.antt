use Rattle.std.proofs.Common.{◌≡◌, drop, map}
use Rattle.sva_labels.specs.Places.{pages_of}
use Rattle.sva_snapshot.specs.Shown.{space_shown}
use Rattle.sva_explain.proofs.enabled.lookups.pages_among.Given as goal

-- none so far has the number
abbrev pub invariant-loop-space : goal.invariant-loop-space
invariant-loop-space l =
    pages_of (map space_shown (drop l.space-index l.spaces)) l.number ≡ pages_of (map space_shown l.spaces) l.number
