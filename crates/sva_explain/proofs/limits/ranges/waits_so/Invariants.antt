use Rattle.std.proofs.Common.{◌≡◌, false, map, option_map}
use Rattle.sva_address_spaces.specs.Seen.{target_seen}
use Rattle.sva_explain.specs.Ranges.{differs_at}
use Rattle.sva_model.specs.Words.{any_below}
use Rattle.sva_explain.proofs.limits.ranges.waits_so.Given as goal

-- at no unit so far
abbrev pub invariant-loop-unit : goal.invariant-loop-unit
invariant-loop-unit l = any_below l.unit (differs_at l.snapshot l.space (map (option_map target_seen) l.targets)) ≡ false
