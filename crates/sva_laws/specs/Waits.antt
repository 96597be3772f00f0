-- The waits of a unit, the front of its invalidation queue, and what an endpoint owes for a mapping that was taken out. (This
-- project's own.)
use Rattle.std.specs.Prelude.{◌≡◌, ◌≢◌, ◌⊎◌, ◌↔◌, ℕ, suc, ◌+◌, ◌<◌, ◌≤◌, Bool, true, false, List, [], ◌∷◌, ◌++◌}
use Rattle.sva_step.specs.declared.limits.Config.{Config}
use Rattle.sva_step.specs.declared.steps.Step.{Step}
use Rattle.sva_model.specs.State.{PasidRule, Owed, Endpoint}
use Rattle.sva_model.specs.State.Owed.{Nothing, Ranges, Pasid, NextReset}
use Rattle.sva_model.specs.State.MappingState.{Present, Gone}
use Rattle.sva_model.specs.State.Order.{Wait}
use Rattle.sva_model.specs.State.OrderState.{Queued, Done, Void}
use Rattle.sva_model.specs.State.Stage.{Draining, Invalidating}
use Rattle.sva_model.specs.State.Phase.{Open}
use Rattle.sva_model.specs.States.{is_unreleased, is_wait, answered}
use Rattle.sva_model.specs.Steps.{world_after}
use Rattle.sva_model.specs.Claims.{Fits, HasAnswered}

-- The waits of a unit by their cookies.
pub record HasFront (cookies : ℕ) (part : Endpoint) : Type 0 where
  -- cookies rise in order of submission
  pub rise :
      (wait later cookie later_cookie : ℕ) (drain later_drain : Bool)
      → wait < later
      → later < part.orders
      → part.order wait ≡ Wait cookie drain
      → part.order later ≡ Wait later_cookie later_drain
      → cookie < later_cookie
  -- their end is one more than the greatest one that was submitted, and 0 where none was; it was given out
  pub below : (wait cookie : ℕ) (drain : Bool) → wait < part.orders → part.order wait ≡ Wait cookie drain → cookie < part.waits_end
  pub greatest :
      (part.waits_end ≡ 0)
      ⊎ ((wait cookie : ℕ) × (drain : Bool) × (wait < part.orders) × (part.order wait ≡ Wait cookie drain) × (part.waits_end ≡ suc cookie))
  pub given : part.waits_end ≤ cookies
  pub front_low : part.front ≤ part.waits_end
  -- a wait is at the front or behind it exactly where it is queued, or void by a reset that hasn't ended
  pub at_front :
      (wait cookie : ℕ) (drain : Bool)
      → wait < part.orders
      → part.order wait ≡ Wait cookie drain
      → (part.front ≤ cookie) ↔ ((part.order_state wait ≡ Queued) ⊎ ((part.order_state wait ≡ Void) × (part.phase ≢ Open) × (part.front ≤ cookie)))
  -- one that isn't void is done exactly where it is below the front
  pub passed :
      (wait cookie : ℕ) (drain : Bool)
      → wait < part.orders
      → part.order wait ≡ Wait cookie drain
      → part.order_state wait ≢ Void
      → (part.order_state wait ≡ Done) ↔ (cookie < part.front)
  -- and so is the wait that a Draining or Invalidating binding waits for, void or not
  pub draining :
      (binding wait cookie : ℕ) (drain : Bool)
      → part.stage binding ≡ Draining wait
      → part.order wait ≡ Wait cookie drain
      → (part.order_state wait ≡ Done) ↔ (cookie < part.front)
  pub invalidating :
      (binding invalidation wait cookie : ℕ) (drain : Bool)
      → part.stage binding ≡ Invalidating invalidation wait
      → part.order wait ≡ Wait cookie drain
      → (part.order_state wait ≡ Done) ↔ (cookie < part.front)

-- after every list of steps each unit's cookies rise, and its front tells which of its waits are done
abbrev pub AlwaysHasFront : Type 0
AlwaysHasFront = (rule : PasidRule) (config : Config) (steps : List Step) (endpoint : ℕ) → Fits config
    → HasFront (world_after rule config steps).cookies ((world_after rule config steps).part endpoint)

-- a wait stands behind its invalidations, the orders from `first` on; since so many reset-dones none of them is void at an
-- open unit, they are done where it is, and it is void only by the reset that the unit is in
pub record IsBehind (part : Endpoint) (first wait resets : ℕ) : Type 0 where
  pub low : first ≤ wait
  pub made : wait < part.orders
  pub is_a_wait : is_wait (part.order wait) ≡ true
  pub ahead : (order : ℕ) → first ≤ order → order < wait → is_wait (part.order order) ≡ false
  pub counted : resets ≤ part.resets
  pub not_void : resets ≡ part.resets → part.phase ≡ Open → (order : ℕ) → first ≤ order → order ≤ wait → part.order_state order ≢ Void
  pub done : resets ≡ part.resets → part.order_state wait ≡ Done → (order : ℕ) → first ≤ order → order ≤ wait → part.order_state order ≡ Done
  pub void : resets ≡ part.resets → part.order_state wait ≡ Void → (cookie : ℕ) (drain : Bool) → part.order wait ≡ Wait cookie drain → part.front ≤ cookie

-- What an endpoint owes fits the orders of its unit. What was written down in reset waits for the end of that reset.
abbrev pub FitsDebt : Endpoint → Owed → Type 0
FitsDebt part Nothing = Unit {0}
FitsDebt part (Ranges first count resets) = (0 < count) × IsBehind part first (first + count) resets
FitsDebt part (Pasid invalidation wait resets in_reset) = (wait ≡ suc invalidation) × IsBehind part invalidation wait resets
    × (in_reset ≡ true → resets ≡ part.resets → part.phase ≢ Open)
FitsDebt part (NextReset resets) = (resets ≤ part.resets) × (resets ≡ part.resets → part.phase ≢ Open)

-- after every list of steps what is written down of each mapping that is gone fits the orders of each endpoint's unit
abbrev pub AlwaysFitsDebts : Type 0
AlwaysFitsDebts =
    (rule : PasidRule) (config : Config) (steps : List Step) (mapping endpoint : ℕ) (owed : ℕ → Owed)
    → Fits config
    → (world_after rule config steps).mappings.state mapping ≡ Gone owed
    → FitsDebt ((world_after rule config steps).part endpoint) (owed endpoint)

-- What an endpoint that hasn't answered waits for: a wait that is queued, or void by a reset that hasn't ended; or the end of
-- the reset that its unit is in.
abbrev pub IsAwaited : Endpoint → (wait : ℕ) → Type 0
IsAwaited part wait =
    (wait < part.orders)
    × (cookie : ℕ) × (drain : Bool) × (part.order wait ≡ Wait cookie drain) × (part.front ≤ cookie)
    × ((part.order_state wait ≡ Queued) ⊎ ((part.order_state wait ≡ Void) × (part.phase ≢ Open)))

-- by what is owed: the wait behind the ranges' invalidations or behind the PASID's, or a reset's end; who owes nothing has answered
abbrev pub AwaitsTarget : Endpoint → Owed → Type 0
AwaitsTarget part Nothing = ⊥
AwaitsTarget part (Ranges first count resets) = IsAwaited part (first + count)
AwaitsTarget part (Pasid invalidation wait resets false) = IsAwaited part wait
AwaitsTarget part (Pasid invalidation wait resets true) = part.phase ≢ Open
AwaitsTarget part (NextReset resets) = part.phase ≢ Open

-- after every list of steps an endpoint that hasn't answered for a mapping that is gone waits for such a target
abbrev pub AlwaysAwaitsTargets : Type 0
AlwaysAwaitsTargets =
    (rule : PasidRule) (config : Config) (steps : List Step) (mapping endpoint : ℕ) (owed : ℕ → Owed)
    → Fits config
    → (world_after rule config steps).mappings.state mapping ≡ Gone owed
    → answered ((world_after rule config steps).part endpoint) (owed endpoint) ≡ false
    → AwaitsTarget ((world_after rule config steps).part endpoint) (owed endpoint)

-- Unit by unit, by looking back over the list: what was taken out at one step of it is answered for by now at an endpoint
-- exactly where each unreleased binding of the space that it had just before that step has answered; so where it had none.
pub record AnswersByUnit (rule : PasidRule) (config : Config) (steps : List Step) (mapping : ℕ) (owed : ℕ → Owed) : Type 0 where
  pub before : List Step
  pub step : Step
  pub since : List Step
  pub steps_are : steps ≡ before ++ step ∷ since
  pub present : (world_after rule config before).mappings.state mapping ≡ Present
  pub gone : (world_after rule config (before ++ step ∷ [])).mappings.state mapping ≡ Gone owed
  pub answers :
      (endpoint : ℕ)
      → (answered ((world_after rule config steps).part endpoint) (owed endpoint) ≡ true)
      ↔ ((binding : ℕ)
      → is_unreleased (((world_after rule config before).part endpoint).stage binding) ≡ true
      → ((world_after rule config before).part endpoint).space binding ≡ (world_after rule config before).mappings.space mapping
      → HasAnswered
      ((world_after rule config before).part endpoint)
      ((world_after rule config (before ++ step ∷ [])).part endpoint)
      ((world_after rule config steps).part endpoint)
      binding
      ((world_after rule config before).mappings.page mapping))

-- after every list of steps each mapping that is gone was taken out by one of these, and the look back to it tells who has answered
abbrev pub AlwaysAnswersByUnit : Type 0
AlwaysAnswersByUnit =
    (rule : PasidRule) (config : Config) (steps : List Step) (mapping : ℕ) (owed : ℕ → Owed)
    → Fits config
    → (world_after rule config steps).mappings.state mapping ≡ Gone owed
    → AnswersByUnit rule config steps mapping owed
