use Rattle.std.proofs.Common.{◌≡◌, ◌++◌, drop, map, option_map}
use Rattle.sva_lines.specs.Pieces.{rows}
use Rattle.sva_address_spaces.specs.Seen.{target_seen}
use Rattle.sva_explain.specs.Units.{target_lines}
use Rattle.sva_explain.proofs.blockers.places.put_targets.Given as goal

-- what was said and what is left make the whole
abbrev pub invariant-loop-unit : goal.invariant-loop-unit
invariant-loop-unit l =
    l.out.items ++ rows (target_lines l.snapshot) l.unit (map (option_map target_seen) (drop l.unit l.targets))
    ≡ l.initial.out.items ++ rows (target_lines l.snapshot) 0 (map (option_map target_seen) l.targets)
