-- What a storm ends with.
use Rattle.std.specs.Prelude.{◌≡◌, ℕ, ◌+◌, List, length, Option, Some, None, Result, Ok, Err}
use Rattle.sva_step.specs.declared.limits.Config.{Config}
use Rattle.sva_step.specs.declared.steps.Step.{Step}
use Rattle.sva_fabric.specs.declared.audits.Audit.{Audit}
use Rattle.sva_fabric.specs.declared.audits.FirstBadReceipt.{FirstBadReceipt}
use Rattle.sva_fabric.specs.Audits.{IsFinished}
use Rattle.sva_fabric.specs.Receipts.{PortState}
use Rattle.sva_scenario.specs.Played.{ArePlayed}
use Rattle.sva_scenario.specs.declared.faults.StormFault.{StormFault}
use Rattle.sva_scenario.specs.declared.faults.StormFault.TheVariants.{Config as BadConfig, Memory, Bad}

-- This is the exact audit of a legal journal of the config, against the receipts of all its ports, and some tokens. Each port was called
-- by its own thread, which has played its part of these lines to its end, in so many turns at most.
pub record HasFinished (config : Config) (steps : List Step) (turns : ℕ) (result : Result Audit FirstBadReceipt) : Type 0 where
  pub states : List PortState
  pub all : length states ≡ 3 + config.endpoints + config.workers
  pub played : ArePlayed config steps turns states
  pub held : ℕ
  pub used : ℕ
  pub finished : IsFinished config (3 + config.endpoints + config.workers) states held used result

-- where the audit found something, it found that
abbrev pub IsFound : Config → List Step → (turns : ℕ) → StormFault → Type 0
IsFound config steps turns BadConfig = Unit {0}
IsFound config steps turns Memory = Unit {0}
IsFound config steps turns (Bad bad) = HasFinished config steps turns (Err bad)

-- What the audit of a storm found: the sum of the audit's own three counts, which are all frames of the config; or a bad receipt.
abbrev pub HasFoundFrames : Config → List Step → (turns : ℕ) → (found : Option ℕ) → Type 0
HasFoundFrames config steps turns (Some frames) =
    (audit : Audit)
    × HasFinished config steps turns (Ok audit)
    × (frames ≡ audit.free + audit.mapped + audit.withheld)
    × (frames ≡ config.frames)
HasFoundFrames config steps turns None = (bad : FirstBadReceipt) × HasFinished config steps turns (Err bad)
