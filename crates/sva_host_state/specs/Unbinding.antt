-- How a binding is unbound, where nothing refuses it.
use Rattle.std.specs.Prelude.{◌≡◌, ℕ, Bool, true, false, Option, Some, None, Result}
use Rattle.sva_step.specs.declared.refusals.Refusal.{Refusal}
use Rattle.sva_step.specs.declared.steps.Step.TheVariants as step
use Rattle.sva_model.specs.Wire.{Wire, BindingWire, StageWire}
use Rattle.sva_model.specs.Wire.StageWire.{LostWire}
use Rattle.sva_labels.specs.Finding.{binding_of}
use Rattle.sva_labels.specs.Causes.{causes_of}
use Rattle.sva_model.specs.Refusals.{unless_refused}
use Rattle.sva_host_state.specs.declared.unbinding.Ending.{Ending}
use Rattle.sva_host_state.specs.declared.unbinding.Ending.TheVariants.{AtOnce, ByStop}

-- has a reset cut the binding off while it was in use?
abbrev pub is_lost : StageWire → Bool
is_lost LostWire = true
is_lost _ = false

-- a binding that a reset cut off ends at once; of another one the endpoint is told to stop
abbrev pub ending_by : BindingWire → StageWire → Ending
ending_by binding LostWire = AtOnce
ending_by binding stage = ByStop binding.endpoint binding.pasid

-- one that isn't there is refused
abbrev pub ending_of : Option BindingWire → Ending
ending_of None = AtOnce
ending_of (Some binding) = ending_by binding binding.stage

-- what refuses it: the first of its causes that holds, if one does
abbrev pub MayUnbind : Wire → (binding : ℕ) → Result Ending Refusal → Type 0
MayUnbind world binding result = result ≡ unless_refused (causes_of world (step.Unbind binding)) (ending_of (binding_of world binding))
