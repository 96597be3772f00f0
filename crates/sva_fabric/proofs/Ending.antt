-- How the turns of a loop end: what a turn without a call leaves.
use Rattle.std.proofs.Common.{◌≡◌, ◌∙◌, ◌⊎◌, inl, inr, ℕ, ◌+◌, Bool, true, false, Result, Ok, Err, IfOk, IfErr, OnErr, if◌then◌else◌, ap, sym, subst, refl}
use Rattle.std.specs.Prelude.{[], ◌∷◌, ◌++◌}
use Rattle.sva_step.specs.declared.limits.Config.{Config}
use Rattle.sva_step.specs.declared.steps.Step.{Step}
use Rattle.sva_core.specs.declared.receipts.Receipt.{Receipt}
use Rattle.sva_core.specs.declared.running.StepFault.{StepFault}
use Rattle.sva_core.specs.declared.running.StepFault.TheVariants as step_fault
use Rattle.sva_fabric.specs.Receipts.{PortState, IsAnswered, IsRefused, last_of}
use Rattle.sva_fabric.specs.Asks.{HasAsked, IsAsked}
use Rattle.sva_fabric.specs.Ends.{HasStrayed, AreSpent}
use Rattle.sva_fabric.specs.Plays.{is_accepted, is_memory, turn_by}
use Rattle.sva_fabric.specs.declared.loops.endings.Turn.{Turn}
use Rattle.sva_fabric.specs.declared.loops.endings.Turn.TheVariants.{Accepted, Again, Memory, Strayed}

-- a turn behind which a loop ends
abbrev pub IsLast : Config → (before after : PortState) → Turn → Type 0
IsLast config before after Accepted = ⊥
IsLast config before after Again = ⊥
IsLast config before after Memory = after ≡ before
IsLast config before after Strayed = (after ≡ before) × HasStrayed config before

pub same_at_last : (config : Config) (before after : PortState) (t : Turn) → IsLast config before after t → after ≡ before
same_at_last config before after Accepted h = absurd h
same_at_last config before after Again h = absurd h
same_at_last config before after Memory h = h
same_at_last config before after Strayed h = h.0

-- a turn that was asked is the last one, or goes on
pub last_asked : (config : Config) (step : Step) (before after : PortState) (t : Turn)
    → IsAsked config step before after t → (t ≡ Accepted → ⊥) → (t ≡ Again → ⊥) → IsLast config before after t
last_asked config step before after Accepted h a b = a refl
last_asked config step before after Again h a b = b refl
last_asked config step before after Memory h a b = h
last_asked config step before after Strayed h a b = h

-- how the turns are spent by it
pub spent_by_last : (config : Config) (calls used left : ℕ) (before after : PortState) (t : Turn)
    → IsLast config before after t → used ≡ calls + 1 → AreSpent config calls used left (is_memory t) after
spent_by_last config calls used left before after Accepted h one = absurd h
spent_by_last config calls used left before after Again h one = absurd h
spent_by_last config calls used left before after Memory h one = one
spent_by_last config calls used left before after Strayed h one = inr (one, subst (λ (s : PortState). HasStrayed config s) (sym h.0) h.1)

-- a call that was answered
asked_ok : (config : Config) (step : Step) (before after : PortState) (r : Receipt) (accepted : Bool)
    → is_accepted r.answer ≡ accepted → r.step ≡ step → after ≡ record before { receipts = before.receipts ++ r ∷ [] }
    → IsAsked config step before after (if accepted then Accepted else Again)
asked_ok config step before after r true says is kept = record { receipt = r; kept = kept; of_step = is; answered = says }
asked_ok config step before after r false says is kept = record { receipt = r; kept = kept; of_step = is; answered = says }

-- what becomes of a turn by its call
pub asked_turn : (config : Config) (step : Step) (before after : PortState) (asked : Result Receipt StepFault)
    → IfOk asked (λ (r : Receipt). IsAnswered config before.number (last_of before.receipts) step r)
    → IfOk asked (λ (r : Receipt). after ≡ record before { receipts = before.receipts ++ r ∷ [] })
    → OnErr asked (after ≡ before)
    → IfErr asked (λ (f : StepFault). IsRefused config before.number (last_of before.receipts) f)
    → IsAsked config step before after (turn_by asked)
asked_turn config step before after (Ok r) answered kept err fault =
    asked_ok config step before after r (is_accepted r.answer) refl answered.step_is kept
asked_turn config step before after (Err step_fault.Memory) answered kept err fault = err
asked_turn config step before after (Err (step_fault.Strayed strayed)) answered kept err fault =
    (err, record { fault = step_fault.Strayed strayed; of_receipt = tt; refused = fault })
