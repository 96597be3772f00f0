use Rattle.std.proofs.Common.{◌≡◌, ◌++◌, flat_map, map, take}
use Rattle.sva_explain.specs.Pasids.{bearer_line}
use Rattle.sva_snapshot.specs.Shown.{binding_shown}
use Rattle.sva_explain.specs.declared.blockers.levels.Level.TheVariants.{Second}
use Rattle.sva_explain.proofs.limits.pasids.put_bearers.Given as goal

-- what was said so far
abbrev pub invariant-loop-binding : goal.invariant-loop-binding
invariant-loop-binding l =
    l.out.items ≡ l.initial.out.items ++ flat_map (bearer_line Second l.snapshot) (map binding_shown (take l.binding-index l.bindings))
