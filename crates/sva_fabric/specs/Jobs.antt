-- How a worker's calls take and answer jobs.
use Rattle.std.specs.Prelude.{◌≡◌, ◌≤◌, ℕ, ◌+◌, Bool, true, false, not, List, [], ◌∷◌, ◌++◌, length, Result, Ok, Err}
use Rattle.sva_step.specs.declared.answers.Answer.{Answer}
use Rattle.sva_step.specs.declared.answers.Answer.TheVariants.{JobTaken}
use Rattle.sva_step.specs.declared.limits.Config.{Config}
use Rattle.sva_step.specs.declared.refusals.Refusal.{Refusal}
use Rattle.sva_step.specs.declared.steps.Step.{Step}
use Rattle.sva_step.specs.declared.steps.Step.TheVariants.{Take, Reply}
use Rattle.sva_step.specs.declared.steps.Verdict.{Verdict}
use Rattle.sva_step.specs.declared.steps.Verdict.TheVariants.{Success, Invalid, Failure}
use Rattle.sva_core.specs.declared.receipts.Receipt.{Receipt}
use Rattle.sva_fabric.specs.Receipts.{PortState}
use Rattle.sva_fabric.specs.Ends.{HasStrayed, AreSpent}
use Rattle.sva_fabric.specs.Plays.{is_accepted}
use Rattle.sva_fabric.specs.declared.loops.endings.Turn.{Turn}
use Rattle.sva_fabric.specs.declared.loops.endings.Turn.TheVariants.{Accepted, Again, Memory, Strayed}

-- was a job taken?
abbrev pub is_job : Result Answer Refusal → Bool
is_job (Ok (JobTaken binding group pages)) = true
is_job _ = false

-- a worker that holds a job answers it, and another takes one
abbrev pub IsJobStep : (worker : ℕ) → (holds : Bool) → Step → Type 0
IsJobStep worker false step = step ≡ Take worker
IsJobStep worker true step = (verdict : Verdict) × (step ≡ Reply worker verdict)

-- does it hold one after a call?
abbrev pub holds_after : Bool → Receipt → Bool
holds_after false receipt = is_job receipt.answer
holds_after true receipt = not (is_accepted receipt.answer)

-- and after some calls?
abbrev pub holds_at_last : Bool → List Receipt → Bool
holds_at_last holds [] = holds
holds_at_last holds (receipt ∷ receipts) = holds_at_last (holds_after holds receipt) receipts

-- each call takes a job where none is held, and else answers the one that is
abbrev pub AreJobs : (worker : ℕ) → (holds : Bool) → List Receipt → Type 0
AreJobs worker holds [] = Unit {0}
AreJobs worker holds (receipt ∷ receipts) = IsJobStep worker holds receipt.step × AreJobs worker (holds_after holds receipt) receipts

-- A loop that began with no job in hand has made these calls by its port, one in each turn but perhaps the last: it took jobs, and
-- answered each before it took the next.
pub record HasAnswered (config : Config) (worker turns_used turns_left : ℕ) (out_of_memory : Bool) (before after : PortState) : Type 0 where
  pub calls : List Receipt
  pub number : after.number ≡ before.number
  pub kept : after.receipts ≡ before.receipts ++ calls
  pub jobs : AreJobs worker false calls
  pub few : length calls ≤ turns_used
  pub each : turns_used ≤ length calls + 1
  pub spent : AreSpent config (length calls) turns_used turns_left out_of_memory after

-- ---- One turn

-- is there something left to be answered after an answer's turn?
abbrev pub is_left : Turn → Bool
is_left Accepted = false
is_left _ = true

-- a success that was refused is `Invalid` at the next try
abbrev pub verdict_after : Verdict → Turn → Verdict
verdict_after Success Again = Invalid
verdict_after verdict _ = verdict

-- a call that was answered
pub record HasWorked (worker : ℕ) (before after : PortState) (holds held : Bool) : Type 0 where
  pub receipt : Receipt
  pub kept : after ≡ record before { receipts = before.receipts ++ receipt ∷ [] }
  pub of_job : IsJobStep worker holds receipt.step
  pub holding : held ≡ holds_after holds receipt

-- what a worker's turn did to its port: a call that takes a job or answers the one in hand, or none, where memory was wanted or the port had strayed
abbrev pub IsJobTurn : Config → (worker : ℕ) → (before after : PortState) → (holds held : Bool) → Turn → Type 0
IsJobTurn config worker before after holds held Accepted = HasWorked worker before after holds held
IsJobTurn config worker before after holds held Again = HasWorked worker before after holds held
IsJobTurn config worker before after holds held Memory = after ≡ before
IsJobTurn config worker before after holds held Strayed = (after ≡ before) × HasStrayed config before
