-- The report of a whole text: what a run of its steps answers, a line for each, and how the run ended.
use Rattle.std.specs.Prelude.{◌≡◌, ◌≢◌, ◌↔◌, ℕ, if◌then◌else◌, true, List, [], ◌++◌, codes, decimal, flat_map, length, Option}
use Rattle.std.specs.Prelude.{Some, None, Result, Ok, Err, IfOk}
use Rattle.sva_step.specs.declared.limits.Config.{Config}
use Rattle.sva_step.specs.declared.refusals.Refusal.TheVariants.{BadConfig}
use Rattle.sva_step.specs.declared.steps.Step.{Step}
use Rattle.sva_step.specs.Refusals.{refusal_text}
use Rattle.sva_model.specs.State.PasidRule.{PerSpace}
use Rattle.sva_model.specs.State.{World, opened}
use Rattle.sva_model.specs.Claims.{Fits}
use Rattle.sva_model.specs.Steps.{Counts, counts, replies, run, world_after}
use Rattle.sva_model.specs.Wire.{Wire, wire}
use Rattle.sva_grammar.specs.declared.faults.LineFault.{LineFault}
use Rattle.sva_streams.specs.declared.streams.DriveFault.{DriveFault}
use Rattle.sva_streams.specs.declared.streams.DriveFault.TheVariants.{Write}
use Rattle.sva_streams.specs.declared.streams.Outcome.{Outcome}
use Rattle.sva_streams.specs.declared.streams.Outcome.TheVariants.{Done, Faulted}
use Rattle.sva_grammar.specs.Configs.{is_fit}
use Rattle.sva_grammar.specs.Faults.{line_fault_text}
use Rattle.sva_grammar.specs.Grammar.{Script, scenario_of}
use Rattle.sva_grammar.specs.Replies.{ended, reply_text}
use Rattle.sva_streams.specs.Streams.{Writes}

-- `free X mapped Y withheld Z`
abbrev pub counts_text : Counts → List ℕ
counts_text counts = codes "free " ++ decimal counts.free ++ codes " mapped " ++ decimal counts.mapped ++ codes " withheld " ++ decimal counts.withheld

-- of a list of steps from a world on: a line for each step, and last the counts of the world after them
unfoldable pub steps_report : World → List Step → List ℕ
steps_report world steps = flat_map (λ reply. ended (reply_text reply)) (replies world steps) ++ ended (counts_text (counts (run world steps)))

-- the test passes exactly those that are within their limits
abbrev pub ConfigsAreTested : Type 0
ConfigsAreTested = (config : Config) → (is_fit config ≡ true) ↔ Fits config

-- a config that is out of its limits is refused, and no step is taken
unfoldable pub script_report : Script → List ℕ
script_report script = if is_fit script.config then steps_report (opened PerSpace script.config) script.steps else ended (refusal_text BadConfig)

-- the report of what was read: a line fault stands alone
abbrev pub report_by : Result Script LineFault → List ℕ
report_by (Ok script) = script_report script
report_by (Err fault) = ended (line_fault_text fault)

-- what `replay` writes of a whole text
abbrev pub report_of : List ℕ → List ℕ
report_of text = report_by (scenario_of text)

-- the run ends as a fault exactly where the report is a line fault or a refused config
abbrev pub outcome_by : Result Script LineFault → Outcome
outcome_by (Ok script) = if is_fit script.config then Done else Faulted
outcome_by (Err fault) = Faulted

-- how `replay` of a whole text ends
abbrev pub outcome_of : List ℕ → Outcome
outcome_of text = outcome_by (scenario_of text)

-- ---- What a text begins with

-- of what was read: the scenario is handed out, and nothing is written, so no writing can fail; a line fault is
-- written alone, and none is handed out
abbrev pub HandedOut : Result Script LineFault → Option (List ℕ) → Option (List ℕ) → Result (Option Script) DriveFault
    → Type 0
HandedOut (Ok script) old new result =
    Writes old new [] result × (result ≢ Err Write) × IfOk result (λ given. given ≡ Some script)
HandedOut (Err fault) old new result =
    Writes old new (ended (line_fault_text fault)) result × IfOk result (λ given. given ≡ None)

-- ---- What `check` says

-- `steps K`
abbrev pub steps_text : ℕ → List ℕ
steps_text count = codes "steps " ++ decimal count

-- how many steps the scenario has, whether its config fits or not; or the line fault
abbrev pub check_by : Result Script LineFault → List ℕ
check_by (Ok script) = ended (steps_text (length script.steps))
check_by (Err fault) = ended (line_fault_text fault)

-- what `check` writes of a whole text
abbrev pub check_of : List ℕ → List ℕ
check_of text = check_by (scenario_of text)

-- a check ends as a fault exactly where there is a line fault
abbrev pub check_outcome_by : Result Script LineFault → Outcome
check_outcome_by (Ok script) = Done
check_outcome_by (Err fault) = Faulted

-- how `check` of a whole text ends
abbrev pub check_outcome_of : List ℕ → Outcome
check_outcome_of text = check_outcome_by (scenario_of text)

-- ---- What a run writes from a world on

-- What was written is the report of some steps, as the definitions have it from each world after some list of steps that
-- is seen so; a prefix of it where the result is a fault.
abbrev pub ReportsFrom : {A : Type 0} → Wire → List Step → Option (List ℕ) → Option (List ℕ) → Result A DriveFault → Type 0
ReportsFrom seen steps old new result =
    (config : Config) (taken : List Step) → Fits config → seen ≡ wire (world_after PerSpace config taken)
    → Writes old new (steps_report (world_after PerSpace config taken) steps) result

-- ---- What an audit says

-- `audit ok`, and `frames N`
abbrev pub audit_ok_text : ℕ → List ℕ
audit_ok_text frames = ended (codes "audit ok") ++ ended (codes "frames " ++ decimal frames)

-- `audit bad`
abbrev pub audit_bad_text : List ℕ
audit_bad_text = ended (codes "audit bad")
