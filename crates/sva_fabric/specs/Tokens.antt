-- Tokens: an unreleased binding is held by a lease or a leaving, and a use slot that is taken by a ticket.
use Rattle.std.specs.Prelude.{◌≡◌, ℕ, [], ◌∷◌, ◌++◌, Ok, Err}
use Rattle.sva_step.specs.declared.answers.Answer.{Answer}
use Rattle.sva_step.specs.declared.answers.Answer.TheVariants as answer
use Rattle.sva_step.specs.declared.limits.Config.{Config}
use Rattle.sva_step.specs.declared.steps.Step.{Step}
use Rattle.sva_step.specs.declared.steps.Step.TheVariants as step
use Rattle.sva_model.specs.Steps.{Reply}
use Rattle.sva_core.specs.declared.receipts.Receipt.{Receipt}
use Rattle.sva_core.specs.declared.running.StepFault.{StepFault}
use Rattle.sva_core.specs.declared.running.StepFault.TheVariants as step_fault
use Rattle.sva_fabric.specs.declared.faults.Fault.{Fault}
use Rattle.sva_fabric.specs.declared.faults.Fault.TheVariants as fault
use Rattle.sva_fabric.specs.declared.tokens.Moved.{Moved}
use Rattle.sva_fabric.specs.declared.tokens.Moved.TheVariants as moved
use Rattle.sva_fabric.specs.Receipts.{PortState, IsAnswered, IsRefused, last_of}
use Rattle.sva_core.specs.Suiting.{IsUnbound, IsMoved}

-- what a call that was answered did to its port: it has one receipt more, of this step and reply
pub record HasCalled (config : Config) (before after : PortState) (asked : Step) (reply : Reply) : Type 0 where
  pub receipt : Receipt
  pub kept : after ≡ record before { receipts = before.receipts ++ receipt ∷ [] }
  pub answered : IsAnswered config before.number (last_of before.receipts) asked receipt
  pub says : receipt.answer ≡ reply

-- a call that makes, moves or spends no token: it was answered by a refusal, or not at all
abbrev pub IsFault : Config → (before after : PortState) → Step → Fault → Type 0
IsFault config before after asked (fault.Refused refusal) = HasCalled config before after asked (Err refusal)
IsFault config before after asked fault.Memory = after ≡ before
IsFault config before after asked (fault.Strayed strayed) =
    (after ≡ before) × IsRefused config before.number (last_of before.receipts) (step_fault.Strayed strayed)

-- the fault of such a call where its step wasn't answered
abbrev pub fault_of_step : StepFault → Fault
fault_of_step step_fault.Memory = fault.Memory
fault_of_step (step_fault.Strayed strayed) = fault.Strayed strayed

-- a binding that is being taken back
pub record HasUnbound (config : Config) (before after : PortState) (binding : ℕ) : Type 0 where
  pub said : Answer
  pub suits : IsUnbound said
  pub called : HasCalled config before after (step.Unbind binding) (Ok said)

-- a binding at its next stage
pub record HasMoved (config : Config) (before after : PortState) (binding : ℕ) : Type 0 where
  pub said : Answer
  pub suits : IsMoved said
  pub called : HasCalled config before after (step.Advance binding) (Ok said)

-- the advance of the binding was accepted: it is at its next stage and has its token again, or it is released and has none
abbrev pub IsAdvance : {C : Type 0} → Config → (before after : PortState) → (binding : ℕ) → Moved C → Type 0
IsAdvance config before after binding (moved.Again leaving) = (leaving ≡ binding) × HasMoved config before after binding
IsAdvance config before after binding moved.Gone = HasCalled config before after (step.Advance binding) (Ok answer.Released)
