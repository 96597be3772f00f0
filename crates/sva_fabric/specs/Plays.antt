-- How a script is played by the calls of a port: its lines in order, each tried until it is accepted.
use Rattle.std.specs.Prelude.{◌≡◌, ◌≤◌, ◌⊎◌, ℕ, ◌+◌, Bool, true, false, List, [], ◌∷◌, ◌++◌, length, Option, Some, Result, Ok, Err, if◌then◌else◌}
use Rattle.sva_step.specs.declared.limits.Config.{Config}
use Rattle.sva_step.specs.declared.answers.Answer.{Answer}
use Rattle.sva_step.specs.declared.refusals.Refusal.{Refusal}
use Rattle.sva_step.specs.declared.steps.Step.{Step}
use Rattle.sva_step.specs.declared.steps.Step.TheVariants.{BeginUse, EndUse}
use Rattle.sva_core.specs.declared.receipts.Receipt.{Receipt}
use Rattle.sva_core.specs.declared.running.StepFault.{StepFault}
use Rattle.sva_core.specs.declared.running.StepFault.TheVariants as step_fault
use Rattle.sva_fabric.specs.declared.faults.Fault.{Fault}
use Rattle.sva_fabric.specs.declared.faults.Fault.TheVariants as fault
use Rattle.sva_fabric.specs.Receipts.{PortState}
use Rattle.sva_fabric.specs.Ends.{HasStrayed}
use Rattle.sva_fabric.specs.LoopTokens.{LoopTokens}
use Rattle.sva_fabric.specs.declared.loops.endings.Turn.{Turn}
use Rattle.sva_fabric.specs.declared.loops.endings.Turn.TheVariants.{Accepted, Again, Memory, Strayed}

-- was the call accepted?
abbrev pub is_accepted : Result Answer Refusal → Bool
is_accepted (Ok _) = true
is_accepted (Err _) = false

-- the lines behind the first
abbrev pub lines_behind : List Step → List Step
lines_behind [] = []
lines_behind (line ∷ lines) = lines

-- a call is of the first of these lines
abbrev pub IsFirst : List Step → Step → Type 0
IsFirst [] step = ⊥
IsFirst (line ∷ lines) step = step ≡ line

-- the lines that are left after a call: without the first where that was accepted
abbrev pub lines_after : List Step → Receipt → List Step
lines_after lines receipt = if is_accepted receipt.answer then lines_behind lines else lines

-- the lines that are left after some calls
abbrev pub lines_left : List Step → List Receipt → List Step
lines_left lines [] = lines
lines_left lines (receipt ∷ receipts) = lines_left (lines_after lines receipt) receipts

-- each call is of the first line that is left then
abbrev pub AreTries : List Step → List Receipt → Type 0
AreTries lines [] = Unit {0}
AreTries lines (receipt ∷ receipts) = IsFirst lines receipt.step × AreTries (lines_after lines receipt) receipts

-- 1 for a use that begins, else 0
abbrev pub begins : Step → ℕ
begins (BeginUse endpoint pasid page write) = 1
begins _ = 0

-- 1 for the end of a use, else 0
abbrev pub ends : Step → ℕ
ends (EndUse endpoint slot) = 1
ends _ = 0

-- how many uses began by some calls
abbrev pub begun_by : List Receipt → ℕ
begun_by [] = 0
begun_by (receipt ∷ receipts) = (if is_accepted receipt.answer then begins receipt.step else 0) + begun_by receipts

-- how many uses ended by some calls
abbrev pub ended_by : List Receipt → ℕ
ended_by [] = 0
ended_by (receipt ∷ receipts) = (if is_accepted receipt.answer then ends receipt.step else 0) + ended_by receipts

-- the first of these lines is one that is passed over, without a call
abbrev pub IsPassed : (passes : Step → Bool) → List Step → Type 0
IsPassed passes [] = ⊥
IsPassed passes (line ∷ lines) = passes line ≡ true

-- How a loop ended behind so many calls, with these lines left. Where it wanted memory, its last turn made no call, or it had no turn. Else each turn
-- made a call, and no line or no turn is left; or no turn is left, and the line that is due is passed over; or the last turn made none since the port
-- had strayed.
abbrev pub IsPlayed : Config → (passes : Step → Bool) → List Step → (calls turns_used turns_left : ℕ) → (out_of_memory : Bool) → PortState → Type 0
IsPlayed config passes lines calls used left true state = (used ≡ calls + 1) ⊎ (used ≡ 0)
IsPlayed config passes lines calls used left false state =
    ((used ≡ calls) × ((lines ≡ []) ⊎ (left ≡ 0)))
    ⊎ (((left ≡ 0) × IsPassed passes lines) ⊎ ((used ≡ calls + 1) × HasStrayed config state))

-- A loop has made these calls by its port: they are tries of the script's lines in order, and no more than the turns that were used. Of
-- the uses that began by them and didn't end the tickets are in hand, beside those that were before.
pub record HasPlayed (config : Config) (script : List Step) (turns_used turns_left : ℕ) (out_of_memory : Bool)
    (before after : PortState) (tokens_before tokens_after : LoopTokens) : Type 0 where
  pub calls : List Receipt
  pub number : after.number ≡ before.number
  pub kept : after.receipts ≡ before.receipts ++ calls
  pub tries : AreTries script calls
  pub few : length calls ≤ turns_used
  pub tickets : tokens_after.tickets + ended_by calls ≡ tokens_before.tickets + begun_by calls
  pub played : IsPlayed config tokens_after.passes (lines_left script calls) (length calls) turns_used turns_left out_of_memory after

-- ---- One turn

-- what becomes of a turn whose call was asked
abbrev pub turn_by : Result Receipt StepFault → Turn
turn_by (Ok receipt) = if is_accepted receipt.answer then Accepted else Again
turn_by (Err step_fault.Memory) = Memory
turn_by (Err (step_fault.Strayed strayed)) = Strayed

-- what becomes of a turn whose call made, moved or spent no token
abbrev pub turn_after_fault : Fault → Turn
turn_after_fault (fault.Refused refusal) = Again
turn_after_fault fault.Memory = Memory
turn_after_fault (fault.Strayed strayed) = Strayed

-- did it want memory?
abbrev pub is_memory : Turn → Bool
is_memory Memory = true
is_memory _ = false

-- one call more, of this step
pub record HasCalledOnce (line : Step) (before after : PortState) (accepted : Bool) (tickets_before tickets_after : ℕ) : Type 0 where
  pub receipt : Receipt
  pub kept : after ≡ record before { receipts = before.receipts ++ receipt ∷ [] }
  pub of_line : receipt.step ≡ line
  pub answered : is_accepted receipt.answer ≡ accepted
  pub tickets : tickets_after + (if accepted then ends line else 0) ≡ tickets_before + (if accepted then begins line else 0)

-- what a turn that asks its line did to the port, and to the tickets in hand
abbrev pub IsTry : Config → Step → (before after : PortState) → (tickets_before tickets_after : ℕ) → Turn → Type 0
IsTry config line before after tickets_before tickets_after Accepted = HasCalledOnce line before after true tickets_before tickets_after
IsTry config line before after tickets_before tickets_after Again = HasCalledOnce line before after false tickets_before tickets_after
IsTry config line before after tickets_before tickets_after Memory = (after ≡ before) × (tickets_after ≡ tickets_before)
IsTry config line before after tickets_before tickets_after Strayed = (after ≡ before) × (tickets_after ≡ tickets_before) × HasStrayed config before

-- what a turn did: it passes over its line exactly where that is one that can't be asked with what is in hand, and then changes nothing
abbrev pub IsTurn : Config → Step → (before after : PortState) → (tokens_before tokens_after : LoopTokens) → Turn → Type 0
IsTurn config line before after tokens_before tokens_after turn =
    ((tokens_before.passes line ≡ true) × (turn ≡ Again) × (after ≡ before) × (tokens_after ≡ tokens_before))
    ⊎ ((tokens_before.passes line ≡ false) × IsTry config line before after tokens_before.tickets tokens_after.tickets turn)
