use Rattle.std.proofs.Common.{◌≡◌, ◌++◌, drop, false}
use Rattle.sva_address_spaces.specs.Seen.{targets_seen}
use Rattle.sva_lines.specs.Memory.{target_texts}
use Rattle.sva_lines.specs.Pieces.{listed}
use Rattle.sva_lines.proofs.memory.put_targets.Given as goal

-- what was said and what is left make the whole
abbrev pub invariant-loop-unit : goal.invariant-loop-unit
invariant-loop-unit l =
    l.out.items ++ listed l.is_begun (target_texts l.unit (targets_seen (drop l.unit l.targets)))
    ≡ l.initial.out.items ++ listed false (target_texts 0 (targets_seen l.targets))
