use Rattle.std.proofs.Common.{◌≡◌, ◌==◌, drop, map}
use Rattle.std.specs.List.{find}
use Rattle.sva_snapshot.specs.Shown.{binding_shown}
use Rattle.sva_explain.proofs.enabled.lookups.binding_among.Given as goal

-- none so far has the number
abbrev pub invariant-loop-binding : goal.invariant-loop-binding
invariant-loop-binding l =
    find (λ binding. binding.binding == l.number) (map binding_shown (drop l.binding-index l.bindings))
    ≡ find (λ binding. binding.binding == l.number) (map binding_shown l.bindings)
