-- What `svahost storm` prints. Which end a storm has depends on its threads, and so on no text alone.
use Rattle.std.specs.Prelude.{◌≡◌, ℕ, List, [], Bool, true, false, Option, Some, None, Result, Ok, Err, IfOk}
use Rattle.sva_step.specs.declared.refusals.Refusal.TheVariants.{BadConfig}
use Rattle.sva_step.specs.Refusals.{refusal_text}
use Rattle.sva_grammar.specs.declared.faults.LineFault.{LineFault}
use Rattle.sva_grammar.specs.Faults.{line_fault_text}
use Rattle.sva_grammar.specs.Grammar.{Script, scenario_of}
pub use Rattle.sva_scenario.specs.Storms.{HasFoundFrames}
use Rattle.sva_streams.specs.declared.streams.DriveFault.{DriveFault}
use Rattle.sva_streams.specs.declared.streams.DriveFault.TheVariants.{Write}
use Rattle.sva_streams.specs.declared.streams.Outcome.{Outcome}
use Rattle.sva_streams.specs.declared.streams.Outcome.TheVariants.{Done, Faulted}
use Rattle.sva_reports.specs.Report.{HandedOut, audit_bad_text, audit_ok_text}
use Rattle.sva_grammar.specs.Configs.{is_fit}
use Rattle.sva_grammar.specs.Replies.{ended}
use Rattle.sva_streams.specs.Streams.{AppendsPrefix, Writes}

-- ---- The scenario

-- a scenario whose config is within its limits is handed out, and nothing is written; of another that is written, and none is handed out
abbrev pub JudgedBy : Bool → Script → Option (List ℕ) → Option (List ℕ) → Result (Option Script) DriveFault → Type 0
JudgedBy true script old new result = HandedOut (Ok script) old new result
JudgedBy false script old new result = Writes old new (ended (refusal_text BadConfig)) result × IfOk result (λ given. given ≡ None)

-- of what was read: a line fault is written alone, and none is handed out
abbrev pub Judged : Result Script LineFault → Option (List ℕ) → Option (List ℕ) → Result (Option Script) DriveFault → Type 0
Judged (Ok script) old new result = JudgedBy (is_fit script.config) script old new result
Judged (Err fault) old new result = HandedOut (Err fault) old new result

-- of a whole text, as it stands before the storm: the scenario is handed out to be played, or what is wrong with it is written
abbrev pub JudgedOf : List ℕ → Option (List ℕ) → Option (List ℕ) → Result (Option Script) DriveFault → Type 0
JudgedOf text old new result = Judged (scenario_of text) old new result

-- ---- The storm's end

-- what an audit says: so many frames were found, or it is bad
abbrev pub audit_text : Option ℕ → List ℕ
audit_text (Some frames) = audit_ok_text frames
audit_text None = audit_bad_text

-- and how the run ends then
abbrev pub audit_outcome : Option ℕ → Outcome
audit_outcome (Some frames) = Done
audit_outcome None = Faulted

-- ---- A whole run

-- what was written is this text, or a prefix of it after a fault; and where there is no fault the run ended so
abbrev pub Says : Option (List ℕ) → Option (List ℕ) → List ℕ → Outcome → Result Outcome DriveFault → Type 0
Says old new text outcome result = Writes old new text result × IfOk result (λ given. given ≡ outcome)

-- A storm of the scenario, with so many turns a thread, has come to its audit, and what that found is what was said: `audit ok` with the sum
-- of the audit's own counts, which are all frames of the config, or `audit bad` of a bad receipt.
pub record TellsAudit (script : Script) (turns : ℕ) (old new : Option (List ℕ)) (result : Result Outcome DriveFault) : Type 0 where
  pub found : Option ℕ
  pub by_audit : HasFoundFrames script.config script.steps turns found
  pub said : Says old new (audit_text found) (audit_outcome found) result

-- What a storm of the scenario makes of its writer. Where it ends, or writing fails, there was an audit, of which it tells. Where memory lacked,
-- or the reader failed, nothing was written.
abbrev pub StormEnds : Script → (turns : ℕ) → Option (List ℕ) → Option (List ℕ) → Result Outcome DriveFault → Type 0
StormEnds script turns old new (Ok outcome) = TellsAudit script turns old new (Ok outcome)
StormEnds script turns old new (Err Write) = TellsAudit script turns old new (Err Write)
StormEnds script turns old new (Err fault) = AppendsPrefix old new []

-- a scenario whose config is within its limits is played; of another that is said
abbrev pub StormsBy : Bool → Script → (turns : ℕ) → Option (List ℕ) → Option (List ℕ) → Result Outcome DriveFault → Type 0
StormsBy true script turns old new result = StormEnds script turns old new result
StormsBy false script turns old new result = Says old new (ended (refusal_text BadConfig)) Faulted result

-- of what was read: a line fault, or a config out of its limits, stands alone, as in a report
abbrev pub Storms : Result Script LineFault → (turns : ℕ) → Option (List ℕ) → Option (List ℕ) → Result Outcome DriveFault → Type 0
Storms (Ok script) turns old new result = StormsBy (is_fit script.config) script turns old new result
Storms (Err fault) turns old new result = Says old new (ended (line_fault_text fault)) Faulted result

-- of a whole text, with so many turns a thread: what `storm` writes, and how it ends
abbrev pub StormsOf : List ℕ → (turns : ℕ) → Option (List ℕ) → Option (List ℕ) → Result Outcome DriveFault → Type 0
StormsOf text turns old new result = Storms (scenario_of text) turns old new result
