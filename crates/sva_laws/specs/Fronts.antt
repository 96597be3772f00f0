-- The front of a unit, exactly, by looking back over the list of steps; and which wait, or which reset's end, an endpoint's
-- answer is waited for by. (This project's own; waits are those of Intel VT-d, "Invalidation Wait Descriptor", resets those of
-- PCI Express Base 5.0, section 6.6.2.)
use Rattle.std.specs.Prelude.{◌≡◌, ◌≢◌, ◌⊎◌, ◌↔◌, ℕ, suc, ◌<◌, ◌≤◌, Bool, true, Some, None, List, [], ◌∷◌, ◌++◌}
use Rattle.sva_step.specs.declared.limits.Config.{Config}
use Rattle.sva_step.specs.declared.steps.Step.{Step}
use Rattle.sva_model.specs.State.{PasidRule, Owed, Endpoint}
use Rattle.sva_model.specs.State.MappingState.{Present, Gone}
use Rattle.sva_model.specs.State.Order.{Wait}
use Rattle.sva_model.specs.State.OrderState.{Queued, Done, Void}
use Rattle.sva_model.specs.State.Stage.{Invalidating}
use Rattle.sva_model.specs.State.Phase.{Open}
use Rattle.sva_model.specs.States.{is_unreleased}
use Rattle.sva_model.specs.Steps.{world_after}
use Rattle.sva_model.specs.Wire.{TargetWire, number, target_wire}
use Rattle.sva_model.specs.Wire.TargetWire.{Cookie, ResetEnd}
use Rattle.sva_model.specs.Claims.{Fits, IsBeforeInvalidating, HasAnswered}

-- an endpoint with its unit after a list of steps
abbrev pub part_after : PasidRule → Config → List Step → (endpoint : ℕ) → Endpoint
part_after rule config steps endpoint = (world_after rule config steps).part endpoint

-- A wait is void by a reset that has ended: at an earlier moment it was submitted and void, and a reset-done of the endpoint was
-- delivered since.
pub record IsVoidByPastReset (rule : PasidRule) (config : Config) (steps : List Step) (endpoint wait : ℕ) : Type 0 where
  pub before : List Step
  pub since : List Step
  pub steps_are : steps ≡ before ++ since
  pub submitted : wait < (part_after rule config before endpoint).orders
  pub void : (part_after rule config before endpoint).order_state wait ≡ Void
  pub ended : (part_after rule config before endpoint).resets < (part_after rule config steps endpoint).resets

-- It is void by a reset that hasn't ended: it is void, the unit is in reset, and at an earlier moment it was queued, since which
-- no reset-done of the endpoint was delivered.
pub record IsVoidByPresentReset (rule : PasidRule) (config : Config) (steps : List Step) (endpoint wait : ℕ) : Type 0 where
  pub void : (part_after rule config steps endpoint).order_state wait ≡ Void
  pub in_reset : (part_after rule config steps endpoint).phase ≢ Open
  pub before : List Step
  pub since : List Step
  pub steps_are : steps ≡ before ++ since
  pub submitted : wait < (part_after rule config before endpoint).orders
  pub queued : (part_after rule config before endpoint).order_state wait ≡ Queued
  pub goes_on : (part_after rule config before endpoint).resets ≡ (part_after rule config steps endpoint).resets

-- it was taken, by a pump that answered so, or it is void by a reset that has ended
abbrev pub IsPast : PasidRule → Config → List Step → (endpoint wait : ℕ) → Type 0
IsPast rule config steps endpoint wait = ((part_after rule config steps endpoint).order_state wait ≡ Done) ⊎ IsVoidByPastReset rule config steps endpoint wait

-- it stands in the queue, or it is void by a reset that hasn't ended
abbrev pub IsAhead : PasidRule → Config → List Step → (endpoint wait : ℕ) → Type 0
IsAhead rule config steps endpoint wait =
    ((part_after rule config steps endpoint).order_state wait ≡ Queued) ⊎ IsVoidByPresentReset rule config steps endpoint wait

-- The front is one more than the greatest cookie of a wait that was taken or is void by a reset that has ended, and 0 where there
-- is none: each of these has its cookie below the front, and no other wait has; and the front is 0, or one of them is just below it.
pub record IsFrontOf (rule : PasidRule) (config : Config) (steps : List Step) (endpoint : ℕ) : Type 0 where
  pub past :
      (wait cookie : ℕ) (drains : Bool)
      → wait < (part_after rule config steps endpoint).orders
      → (part_after rule config steps endpoint).order wait ≡ Wait cookie drains
      → (cookie < (part_after rule config steps endpoint).front) ↔ IsPast rule config steps endpoint wait
  pub ahead :
      (wait cookie : ℕ) (drains : Bool)
      → wait < (part_after rule config steps endpoint).orders
      → (part_after rule config steps endpoint).order wait ≡ Wait cookie drains
      → ((part_after rule config steps endpoint).front ≤ cookie) ↔ IsAhead rule config steps endpoint wait
  pub greatest :
      ((part_after rule config steps endpoint).front ≡ 0)
      ⊎ ((wait cookie : ℕ)
      × (drains : Bool)
      × (wait < (part_after rule config steps endpoint).orders)
      × ((part_after rule config steps endpoint).order wait ≡ Wait cookie drains)
      × ((part_after rule config steps endpoint).front ≡ suc cookie)
      × IsPast rule config steps endpoint wait)

-- after every list of steps the number that a unit keeps as its front is what the look back over the list makes of it
abbrev pub AlwaysFrontOf : Type 0
AlwaysFrontOf = (rule : PasidRule) (config : Config) (steps : List Step) (endpoint : ℕ) → Fits config → IsFrontOf rule config steps endpoint

-- What is waited for at an endpoint, by the binding that the space had there just before `step` took the mapping out of it: where
-- the unit was open then, the wait that this step submitted, or the one behind the invalidation of the binding's PASID, which is in
-- the queue now, or void by a reset that hasn't ended; and where it was in reset, the end of that reset, which hasn't come.
pub data IsTarget (rule : PasidRule) (config : Config) (before : List Step) (step : Step) (since : List Step) (endpoint binding : ℕ) : TargetWire → Type 0 where
  submitted :
      (wait cookie : ℕ) (drains : Bool)
      → (part_after rule config before endpoint).phase ≡ Open
      → IsBeforeInvalidating (part_after rule config before endpoint) binding
      → (part_after rule config before endpoint).orders ≤ wait
      → (part_after rule config (before ++ step ∷ []) endpoint).orders ≡ suc wait
      → (part_after rule config (before ++ step ∷ []) endpoint).order wait ≡ Wait cookie drains
      → IsAhead rule config (before ++ step ∷ since) endpoint wait
      → IsTarget rule config before step since endpoint binding (Cookie (number config.first cookie))
  invalidating :
      (invalidation wait cookie : ℕ) (drains : Bool)
      → (part_after rule config before endpoint).phase ≡ Open
      → (part_after rule config before endpoint).stage binding ≡ Invalidating invalidation wait
      → (part_after rule config before endpoint).order wait ≡ Wait cookie drains
      → IsAhead rule config (before ++ step ∷ since) endpoint wait
      → IsTarget rule config before step since endpoint binding (Cookie (number config.first cookie))
  reset_end :
      (part_after rule config before endpoint).phase ≢ Open
      → (part_after rule config (before ++ step ∷ since) endpoint).phase ≢ Open
      → (part_after rule config before endpoint).resets ≡ (part_after rule config (before ++ step ∷ since) endpoint).resets
      → IsTarget rule config before step since endpoint binding ResetEnd

-- What a host keeps of it: nothing where each unreleased binding of the space that the endpoint had just before that step has
-- answered, and so where it had none; else that target.
pub record KeepsTargets
    (rule : PasidRule) (config : Config) (before : List Step) (step : Step) (since : List Step)
    (mapping endpoint : ℕ) (owed : Owed) : Type 0 where
  pub none :
      (target_wire config.first (part_after rule config (before ++ step ∷ since) endpoint) owed ≡ None)
      ↔ ((binding : ℕ)
      → is_unreleased ((part_after rule config before endpoint).stage binding) ≡ true
      → (part_after rule config before endpoint).space binding ≡ (world_after rule config before).mappings.space mapping
      → HasAnswered
      (part_after rule config before endpoint)
      (part_after rule config (before ++ step ∷ []) endpoint)
      (part_after rule config (before ++ step ∷ since) endpoint)
      binding
      ((world_after rule config before).mappings.page mapping))
  pub some :
      (binding : ℕ)
      → is_unreleased ((part_after rule config before endpoint).stage binding) ≡ true
      → (part_after rule config before endpoint).space binding ≡ (world_after rule config before).mappings.space mapping
      → (HasAnswered
      (part_after rule config before endpoint)
      (part_after rule config (before ++ step ∷ []) endpoint)
      (part_after rule config (before ++ step ∷ since) endpoint)
      binding
      ((world_after rule config before).mappings.page mapping)
      → ⊥)
      → (target : TargetWire)
      × (target_wire config.first (part_after rule config (before ++ step ∷ since) endpoint) owed ≡ Some target)
      × IsTarget rule config before step since endpoint binding target

-- of each mapping that a step of a list took out of its space, and at each endpoint, a host keeps so after the whole list
abbrev pub AlwaysKeepsTargets : Type 0
AlwaysKeepsTargets =
    (rule : PasidRule) (config : Config) (before : List Step) (step : Step) (since : List Step) (mapping endpoint : ℕ) (owed : ℕ → Owed)
    → Fits config
    → (world_after rule config before).mappings.state mapping ≡ Present
    → (world_after rule config (before ++ step ∷ [])).mappings.state mapping ≡ Gone owed
    → KeepsTargets rule config before step since mapping endpoint (owed endpoint)
