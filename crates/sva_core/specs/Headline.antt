-- The headline, of what a world of the program keeps.
use Rattle.std.specs.Prelude.{◌≡◌, ℕ, List, [], ◌∷◌, Err}
use Rattle.sva_step.specs.declared.limits.Config.{Config}
use Rattle.sva_step.specs.declared.refusals.Refusal.TheVariants as refusal
use Rattle.sva_step.specs.declared.steps.Step.{Step}
use Rattle.sva_model.specs.State.PasidRule.{PerSpace}
use Rattle.sva_model.specs.State.{opened}
use Rattle.sva_model.specs.Claims.{Fits, Agrees}
use Rattle.sva_model.specs.Steps.{Reply, replies, world_after}
use Rattle.sva_model.specs.Wire.{Wire}
use Rattle.sva_laws.specs.LabelLaws.{IsLabelled, IsFound, IsCarried}
use Rattle.sva_laws.specs.UnderWay.{NeverOccurs}
use Rattle.sva_core.specs.Reached.{IsReached, Ran}

-- It is what the definitions keep after this very list of steps, and after these steps they agree: each translation that an
-- endpoint may still use is present or leads to a withheld frame, page requests and responses are matched, and frames are
-- divided. Those claims go by names. That what is kept tells the same is claimed beside them: a label is borne by at most
-- one record and finds it, a message in flight carries the labels of the records that it was sent for, and the cases that
-- can't occur don't occur there.
pub record IsAgreed (seen : Wire) (reached : IsReached seen) : Type 0 where
  pub agrees : Agrees PerSpace reached.config reached.steps
  pub labelled : (endpoint : ℕ) → IsLabelled ((world_after PerSpace reached.config reached.steps).part endpoint)
  pub found : (endpoint : ℕ) → IsFound ((world_after PerSpace reached.config reached.steps).part endpoint)
  pub carried :
      (endpoint : ℕ)
      → IsCarried (world_after PerSpace reached.config reached.steps).mappings ((world_after PerSpace reached.config reached.steps).part endpoint)
  pub never : (endpoint : ℕ) → NeverOccurs ((world_after PerSpace reached.config reached.steps).part endpoint)

-- the steps of a run that were taken: those that had no memory are left out
abbrev pub taken_of : List Step → List Reply → List Step
taken_of (step ∷ steps) (Err refusal.OutOfMemory ∷ results) = taken_of steps results
taken_of (step ∷ steps) (result ∷ results) = step ∷ taken_of steps results
taken_of _ _ = []

-- and what they were answered
abbrev pub answered_of : List Reply → List Reply
answered_of [] = []
answered_of (Err refusal.OutOfMemory ∷ results) = answered_of results
answered_of (result ∷ results) = result ∷ answered_of results

-- What the last world of a run keeps is reached from the run's own config by the steps that were taken and no others, their
-- answers are those of the definitions to these steps, and the definitions agree after them.
pub record RunAgrees (config : Config) (steps : List Step) (results : List Reply) (last : Wire) : Type 0 where
  pub reached : IsReached last
  pub of_config : reached.config ≡ config
  pub by_steps : reached.steps ≡ taken_of steps results
  pub answers : replies (opened PerSpace config) (taken_of steps results) ≡ answered_of results
  pub agreed : IsAgreed last reached

-- so it is of each run, of whatever list of steps
abbrev pub RunsAgree : Type 0
RunsAgree =
    (config : Config) (steps : List Step) (results : List Reply) (last : Wire)
    → Fits config
    → Ran (opened PerSpace config) steps results last
    → RunAgrees config steps results last
