-- What one step changes. (This project's own.)
use Rattle.std.specs.Prelude.{◌≡◌, ◌≢◌, ◌⊎◌, ℕ, ◌+◌, Bool, true, false, ◌==◌, if◌then◌else◌, List, [], ◌∷◌, ◌++◌, Ok}
use Rattle.sva_step.specs.declared.answers.Answer.TheVariants as answer
use Rattle.sva_step.specs.declared.limits.Config.{Config}
use Rattle.sva_step.specs.declared.steps.Step.{Step}
use Rattle.sva_step.specs.declared.steps.Step.TheVariants as step
use Rattle.sva_step.specs.Limits
use Rattle.sva_model.specs.State.{PasidRule, Owed, World}
use Rattle.sva_model.specs.State.Subject.{ResetDone}
use Rattle.sva_model.specs.State.Owed.{Ranges, Pasid}
use Rattle.sva_model.specs.State.MappingState.{Gone}
use Rattle.sva_model.specs.Words.{count_below, is_some}
use Rattle.sva_model.specs.States.{is_unreleased, answered, place}
use Rattle.sva_model.specs.States.Place.{Withheld}
use Rattle.sva_model.specs.Steps.{Reply, reply, world_after}
use Rattle.sva_model.specs.Claims.{Fits}
use Rattle.sva_laws.specs.UnitSteps.{Delivers, PassesWait}

-- does the step take pages out of a space, at whatever endpoints it is bound?
abbrev pub takes_out : Step → Bool
takes_out (step.Unmap space page count) = true
takes_out (step.UnmapRange space page order) = true
takes_out _ = false

-- one endpoint with its unit is changed at most
abbrev pub ChangesOnePart : (before after : World) → Type 0
ChangesOnePart before after = (endpoint : ℕ) × ((other : ℕ) → other ≢ endpoint → after.part other ≡ before.part other)

-- each step but an unmapping, which may submit at several units at once, changes one endpoint with its unit at most
abbrev pub AlwaysChangesOnePart : Type 0
AlwaysChangesOnePart =
    (rule : PasidRule) (config : Config) (steps : List Step) (next : Step)
    → Fits config
    → takes_out next ≡ false
    → ChangesOnePart (world_after rule config steps) (world_after rule config (steps ++ next ∷ []))

-- the drop of a space changes no endpoint and no unit
abbrev pub AlwaysDropsApart : Type 0
AlwaysDropsApart =
    (rule : PasidRule) (config : Config) (steps : List Step) (space endpoint : ℕ)
    → Fits config
    → (world_after rule config (steps ++ step.DropSpace space ∷ [])).part endpoint ≡ (world_after rule config steps).part endpoint

-- which order settles what is owed: the wait behind its invalidations; 0 where nothing is owed, or a reset-done alone settles it
abbrev pub wait_of : Owed → ℕ
wait_of (Ranges first count resets) = first + count
wait_of (Pasid invalidation wait resets in_reset) = wait
wait_of _ = 0

-- What a frame waits for at an endpoint is fixed when its mapping is taken out: a wait, or the end of a reset. After
-- that it changes only by becoming answered: at a pump that passes that very wait, or at the delivery of the endpoint's reset-done.
pub record AnswersBy (before after : World) (next : Step) (mapping endpoint : ℕ) (owed : ℕ → Owed) : Type 0 where
  pub still : after.mappings.state mapping ≡ Gone owed
  pub stays : answered (before.part endpoint) (owed endpoint) ≡ true → answered (after.part endpoint) (owed endpoint) ≡ true
  pub turns :
      answered (before.part endpoint) (owed endpoint) ≡ false
      → answered (after.part endpoint) (owed endpoint) ≡ true
      → PassesWait before next endpoint (wait_of (owed endpoint)) ⊎ Delivers before next endpoint ResetDone

-- so it is of each mapping that is gone, at each endpoint, after every list of steps and by whatever step comes next
abbrev pub AlwaysAnswersBy : Type 0
AlwaysAnswersBy =
    (rule : PasidRule) (config : Config) (steps : List Step) (next : Step) (mapping endpoint : ℕ) (owed : ℕ → Owed)
    → Fits config
    → (world_after rule config steps).mappings.state mapping ≡ Gone owed
    → AnswersBy (world_after rule config steps) (world_after rule config (steps ++ next ∷ [])) next mapping endpoint owed

-- and the mapping that a withheld frame was last at stays its last: no step maps it
abbrev pub AlwaysKeepsLatest : Type 0
AlwaysKeepsLatest =
    (rule : PasidRule) (config : Config) (steps : List Step) (next : Step) (frame : ℕ)
    → Fits config
    → place (world_after rule config steps) frame ≡ Withheld
    → (world_after rule config (steps ++ next ∷ [])).mappings.latest frame ≡ (world_after rule config steps).mappings.latest frame

-- How many bindings are unreleased, and how many use slots of an endpoint are taken.
abbrev pub unreleased : World → ℕ
unreleased world = count_below world.bindings (λ binding. is_unreleased ((world.part (world.endpoint_of binding)).stage binding))

-- how many of its 16 slots have a use, running or dead: one that a reset ended keeps its slot until `end`
abbrev pub slots : World → (endpoint : ℕ) → ℕ
slots world endpoint = count_below Limits.use_slots (λ slot. is_some ((world.part endpoint).at_slot slot))

-- By how many they change: a binding begins where a bind is accepted, and is released where an advance answers so; a slot of an
-- endpoint is taken where a use begins there, and is free again where one ends.
abbrev pub bound_by : Step → Reply → ℕ
bound_by (step.Bind endpoint space) (Ok said) = 1
bound_by _ _ = 0

-- 1 for an advance that is answered `released`; else 0
abbrev pub released_by : Step → Reply → ℕ
released_by (step.Advance binding) (Ok answer.Released) = 1
released_by _ _ = 0

-- 1 for a use that is accepted at this endpoint; else 0
abbrev pub begun_by : (endpoint : ℕ) → Step → Reply → ℕ
begun_by endpoint (step.BeginUse begun_at pasid page write) (Ok said) = if begun_at == endpoint then 1 else 0
begun_by endpoint _ _ = 0

-- 1 for an end that is accepted at this endpoint, of a running use or a dead one; else 0
abbrev pub ended_by : (endpoint : ℕ) → Step → Reply → ℕ
ended_by endpoint (step.EndUse ended_at used) (Ok said) = if ended_at == endpoint then 1 else 0
ended_by endpoint _ _ = 0

-- both counts change by what the step and its answer tell, and by nothing else: so by these alone books of both can be kept
pub record KeepsBooks (before after : World) (next : Step) : Type 0 where
  pub bindings : unreleased after + released_by next (reply before next) ≡ unreleased before + bound_by next (reply before next)
  pub uses :
      (endpoint : ℕ)
      → slots after endpoint + ended_by endpoint next (reply before next) ≡ slots before endpoint + begun_by endpoint next (reply before next)

-- each step does so, after every list of steps; one that is refused changes neither count
abbrev pub AlwaysKeepsBooks : Type 0
AlwaysKeepsBooks =
    (rule : PasidRule) (config : Config) (steps : List Step) (next : Step)
    → Fits config
    → KeepsBooks (world_after rule config steps) (world_after rule config (steps ++ next ∷ [])) next
