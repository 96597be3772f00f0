use Rattle.std.proofs.Common.{◌≡◌, drop, map}
use Rattle.sva_driver_words.specs.Awaits.{line_seen}
use Rattle.sva_driver_texts.specs.Plans.{pasids_by, pasids_started}
use Rattle.sva_driver_texts.proofs.plans.pasids_started.Given as goal

-- the PASIDs so far, with those of the lines that are left
abbrev pub invariant-loop-line : goal.invariant-loop-line
invariant-loop-line l = pasids_by l.endpoint l.pasids.items (map line_seen (drop l.line-index l.lines)) ≡ pasids_started l.endpoint (map line_seen l.lines)
