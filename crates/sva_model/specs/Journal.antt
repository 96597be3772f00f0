-- A journal: what was asked by whom, and what was answered. (This project's own.)
use Rattle.std.specs.Prelude.{◌≡◌, ℕ, List, map}
use Rattle.sva_step.specs.declared.limits.Config.{Config}
use Rattle.sva_step.specs.declared.steps.Step.{Step}
use Rattle.sva_step.specs.Limits.{Fits}
use Rattle.sva_model.specs.State.{PasidRule, World, opened}
use Rattle.sva_model.specs.Steps.{Reply, replies, world_after}

-- one call: which port asked, what, and what was answered
pub record Entry : Type 0 where
  pub port : ℕ
  pub step : Step
  pub reply : Reply

-- the steps of a journal
abbrev pub steps_of : List Entry → List Step
steps_of journal = map (λ e. e.step) journal

-- legal: the config is within its limits, and the answers are those of the definitions over the journal's steps
pub record IsLegal (rule : PasidRule) (config : Config) (journal : List Entry) : Type 0 where
  pub fits : Fits config
  pub answers : replies (opened rule config) (steps_of journal) ≡ map (λ e. e.reply) journal

-- the world of a journal is the last one
abbrev pub world_of : PasidRule → Config → List Entry → World
world_of rule config journal = world_after rule config (steps_of journal)
