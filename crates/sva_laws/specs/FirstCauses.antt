-- A step is refused wherever one of its causes holds, and of several that hold the first is answered. So a step that names what isn't
-- there is answered so, whatever else holds. (The refusals and their order are this project's own.)
use Rattle.std.specs.Prelude.{◌≡◌, ◌⊎◌, ◌↔◌, true, false, List, [], ◌∷◌, Err}
use Rattle.sva_step.specs.declared.limits.Config.{Config}
use Rattle.sva_step.specs.declared.refusals.Refusal.{Refusal}
use Rattle.sva_step.specs.declared.refusals.Refusal.TheVariants as refusal
use Rattle.sva_step.specs.declared.steps.Step.{Step}
use Rattle.sva_model.specs.State.{PasidRule, World}
use Rattle.sva_model.specs.Refusals.{Cause, refusals}
use Rattle.sva_model.specs.Steps.{reply, world_after}
use Rattle.sva_model.specs.Claims.{Fits}
use Rattle.sva_laws.specs.Causes.{IsNoEndpoint, IsNoSpace, IsNoBinding, IsNoWorker, IsPastPages}
use Rattle.sva_laws.specs.EndpointCauses.{IsNoMessage}

-- some cause of the list holds
abbrev pub DoesHold : List Cause → Type 0
DoesHold [] = ⊥
DoesHold (cause ∷ causes) = (cause.0 ≡ true) ⊎ DoesHold causes

-- the first of them that holds refuses so
abbrev pub IsFirst : Refusal → List Cause → Type 0
IsFirst refused [] = ⊥
IsFirst refused (cause ∷ causes) = ((cause.0 ≡ true) × (cause.1 ≡ refused)) ⊎ ((cause.0 ≡ false) × IsFirst refused causes)

abbrev pub IsRefused : World → Step → Type 0
IsRefused world next = (refused : Refusal) × (reply world next ≡ Err refused)

pub record AnswersFirst (world : World) (next : Step) : Type 0 where
  -- a step is refused exactly where one of its causes holds, by the first of them
  pub refused : IsRefused world next ↔ DoesHold (refusals world next)
  pub first : (refused : Refusal) → (reply world next ≡ Err refused) ↔ IsFirst refused (refusals world next)
  -- one that names no endpoint of the config, no unreleased binding, no worker or no message in flight is answered so; and so is one
  -- that names no live space, at an endpoint that is there
  pub endpoint : IsNoEndpoint world next → reply world next ≡ Err refusal.NoSuchEndpoint
  pub binding : IsNoBinding world next → reply world next ≡ Err refusal.NoSuchBinding
  pub worker : IsNoWorker world next → reply world next ≡ Err refusal.NoSuchWorker
  pub message : IsNoMessage world next → reply world next ≡ Err refusal.NoSuchMessage
  pub space : IsNoSpace world next → (IsNoEndpoint world next → ⊥) → reply world next ≡ Err refusal.NoSuchSpace
  -- and one with a page past the last is refused
  pub pages : IsPastPages next → IsRefused world next

-- so each step is answered after every list of steps
abbrev pub AlwaysAnswersFirst : Type 0
AlwaysAnswersFirst =
    (rule : PasidRule) (config : Config) (steps : List Step) (next : Step)
    → Fits config
    → AnswersFirst (world_after rule config steps) next
