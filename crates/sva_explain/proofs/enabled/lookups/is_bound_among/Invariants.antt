use Rattle.std.proofs.Common.{◌≡◌, ◌==◌, drop, map}
use Rattle.std.specs.List.{list_any}
use Rattle.sva_snapshot.specs.Shown.{binding_shown}
use Rattle.sva_model.specs.Wire.{BindingWire}
use Rattle.sva_explain.proofs.enabled.lookups.is_bound_among.Given as goal

-- none so far is of the space
abbrev pub invariant-loop-binding : goal.invariant-loop-binding
invariant-loop-binding l =
    list_any (λ (binding : BindingWire). binding.space == l.space) (map binding_shown (drop l.binding-index l.bindings))
    ≡ list_any (λ (binding : BindingWire). binding.space == l.space) (map binding_shown l.bindings)
