use Rattle.std.proofs.Common.{◌≡◌, drop, map}
use Rattle.sva_driver_words.specs.Awaits.{line_seen}
use Rattle.sva_driver_texts.specs.Pasids.{highest_by}
use Rattle.sva_driver_texts.proofs.pasids.highest_pasid.Given as goal

-- the highest PASID so far, with those of the lines that are left
abbrev pub invariant-loop-line : goal.invariant-loop-line
invariant-loop-line l = highest_by l.highest (map line_seen (drop l.line-index l.lines)) ≡ highest_by 0 (map line_seen l.lines)
