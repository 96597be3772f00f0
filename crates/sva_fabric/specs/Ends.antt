-- How the turns of a loop end.
use Rattle.std.specs.Prelude.{◌≡◌, ◌⊎◌, ℕ, ◌+◌, Bool, true, false, Option, Some, None}
use Rattle.sva_step.specs.declared.limits.Config.{Config}
use Rattle.sva_core.specs.declared.running.StepFault.{StepFault}
use Rattle.sva_core.specs.declared.running.StepFault.TheVariants as step_fault
use Rattle.sva_fabric.specs.Receipts.{PortState, IsRefused, last_of}
use Rattle.sva_fabric.specs.declared.loops.endings.Spent.{Spent}

-- does the fault tell of a port whose last receipt doesn't stand?
abbrev pub IsOfReceipt : StepFault → Type 0
IsOfReceipt step_fault.Memory = ⊥
IsOfReceipt (step_fault.Strayed strayed) = Unit {0}

-- The port has strayed: a call was refused by such a fault.
pub record HasStrayed (config : Config) (state : PortState) : Type 0 where
  pub fault : StepFault
  pub of_receipt : IsOfReceipt fault
  pub refused : IsRefused config state.number (last_of state.receipts) fault

-- A loop that makes a call in each turn has ended behind so many calls. Where it wanted memory, its last turn made none. Else all turns
-- were used, or the last one made none since the port had strayed.
abbrev pub AreSpent : Config → (calls turns_used turns_left : ℕ) → (out_of_memory : Bool) → PortState → Type 0
AreSpent config calls used left true state = used ≡ calls + 1
AreSpent config calls used left false state = ((used ≡ calls) × (left ≡ 0)) ⊎ ((used ≡ calls + 1) × HasStrayed config state)

-- did a thread want memory, or has it not run for want of it?
abbrev pub lacks : Option Spent → Bool
lacks None = true
lacks (Some spent) = spent.out_of_memory
