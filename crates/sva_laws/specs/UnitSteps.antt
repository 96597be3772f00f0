-- What one step does at an endpoint with its unit: to the counter of reset-dones, to the orders, and to the markers noted. So
-- each of "a reset-done was delivered", "done", "void" and "marker noted" stands for events of the list. And each wait has a
-- cookie of its own.
use Rattle.sva_model.specs.State.{PasidRule}
use Rattle.std.specs.Prelude.{◌≡◌, ◌≢◌, ◌⊎◌, ◌↔◌, ℕ, suc, ◌<◌, ◌≤◌, Bool, true, Some, List, [], ◌∷◌, ◌++◌, Ok}
use Rattle.sva_step.specs.declared.answers.Answer.{Answer}
use Rattle.sva_step.specs.declared.answers.Answer.TheVariants as answer
use Rattle.sva_step.specs.declared.limits.Config.{Config}
use Rattle.sva_step.specs.declared.steps.Step.{Step}
use Rattle.sva_step.specs.declared.steps.Step.TheVariants as step
use Rattle.sva_model.specs.State.{Subject, Endpoint, World}
use Rattle.sva_model.specs.State.Subject.{InvalidatedOf, MarkerOf, ResetDone}
use Rattle.sva_model.specs.State.Order.{Wait}
use Rattle.sva_model.specs.State.Phase.{Open}
use Rattle.sva_model.specs.State.Stage.{Stopping}
use Rattle.sva_model.specs.State.OrderState.{Queued, Completing, Done, Void}
use Rattle.sva_model.specs.States.{is_wait}
use Rattle.sva_model.specs.Labels.{name, head}
use Rattle.sva_model.specs.Steps.{reply, world_after}
use Rattle.sva_model.specs.Claims.{Fits}

-- the step is a delivery that is accepted, of a message of the endpoint that speaks of this
pub record Delivers (world : World) (next : Step) (endpoint : ℕ) (subject : Subject) : Type 0 where
  pub number : ℕ
  pub step_is : next ≡ step.Deliver number
  pub answer : Answer
  pub accepted : reply world next ≡ Ok answer
  pub link_is : world.link_of (name world number) ≡ endpoint
  pub speaks : (world.part endpoint).message (name world number) ≡ Some subject

-- the step is a Reset of the unit that is accepted
pub record OrdersReset (world : World) (next : Step) (endpoint : ℕ) : Type 0 where
  pub step_is : next ≡ step.Reset endpoint
  pub answer : Answer
  pub accepted : reply world next ≡ Ok answer

-- the step is a pump that finds this wait at the head of the queue, and answers that it is done
pub record PassesWait (world : World) (next : Step) (endpoint wait : ℕ) : Type 0 where
  pub step_is : next ≡ step.Pump endpoint
  pub answered : reply world next ≡ Ok answer.WaitDone
  pub at_head : head (world.part endpoint) ≡ wait
  pub is_a_wait : is_wait ((world.part endpoint).order wait) ≡ true
  pub queued : (world.part endpoint).order_state wait ≡ Queued

-- the step delivers, at an open unit, the last completion that the invalidation is owed
pub record CompletesOrder (world : World) (next : Step) (endpoint order : ℕ) : Type 0 where
  pub names : ℕ → Bool
  pub delivers : Delivers world next endpoint (InvalidatedOf names)
  pub is_open : (world.part endpoint).phase ≡ Open
  pub named : names order ≡ true
  pub count : ℕ
  pub one_left : (world.part endpoint).order_state order ≡ Completing count 1

-- the counter of reset-dones rises by one exactly where the step delivers a reset-done of the endpoint
pub record CountsResetDones (world : World) (next : Step) (endpoint : ℕ) (after : Endpoint) : Type 0 where
  pub rises : Delivers world next endpoint ResetDone → after.resets ≡ suc (world.part endpoint).resets
  pub stays : (Delivers world next endpoint ResetDone → ⊥) → after.resets ≡ (world.part endpoint).resets

-- by which events of a step an order of the unit becomes done or void, and in which state a new one begins
pub record ChangesOrders (world : World) (next : Step) (endpoint : ℕ) (after : Endpoint) : Type 0 where
  -- an order is done after the step exactly where it was done before, or the step passes it, being a wait, or delivers the
  -- last of its completions
  pub done :
      (order : ℕ)
      → (after.order_state order ≡ Done)
      ↔ (((world.part endpoint).order_state order ≡ Done) ⊎ (PassesWait world next endpoint order ⊎ CompletesOrder world next endpoint order))
  -- and it is void exactly where it was void, or was queued at a Reset step, or wasn't done at the delivery of a reset-done
  pub void :
      (order : ℕ)
      → order < (world.part endpoint).orders
      → (after.order_state order ≡ Void)
      ↔ (((world.part endpoint).order_state order ≡ Void)
      ⊎ ((((world.part endpoint).order_state order ≡ Queued) × OrdersReset world next endpoint)
      ⊎ (((world.part endpoint).order_state order ≢ Done) × Delivers world next endpoint ResetDone)))
  -- what the step submits is queued after it
  pub submitted : (order : ℕ) → (world.part endpoint).orders ≤ order → order < after.orders → after.order_state order ≡ Queued

-- a marker is noted by its own delivery at an open unit, and by that alone
pub record NotesMarkers (world : World) (next : Step) (endpoint : ℕ) (after : Endpoint) : Type 0 where
  pub noted :
      (binding : ℕ)
      → after.stage binding ≡ Stopping true
      → ((world.part endpoint).stage binding ≡ Stopping true) ⊎ (((world.part endpoint).phase ≡ Open) × Delivers world next endpoint (MarkerOf binding))
  pub notes : (binding : ℕ) → (world.part endpoint).phase ≡ Open → Delivers world next endpoint (MarkerOf binding) → after.stage binding ≡ Stopping true

-- An order that is void after a list of steps was void after its front already; or the unit is in reset; or a reset-done of it
-- was delivered since. So an order that wasn't submitted yet, or wasn't void yet, is void only by a reset since then.
pub record IsVoidByReset (was now : Endpoint) : Type 0 where
  pub void :
      (order : ℕ)
      → order < now.orders
      → now.order_state order ≡ Void
      → ((order < was.orders) × (was.order_state order ≡ Void)) ⊎ ((now.phase ≢ Open) ⊎ (was.resets < now.resets))

-- A cookie is given out once: no two waits have the same, of whatever units they are.
pub record GivesCookies (world : World) : Type 0 where
  pub low :
      (endpoint wait cookie : ℕ) (drain : Bool)
      → wait < (world.part endpoint).orders
      → (world.part endpoint).order wait ≡ Wait cookie drain
      → cookie < world.cookies
  pub once :
      (endpoint other_endpoint wait other cookie : ℕ) (drain drains : Bool)
      → wait < (world.part endpoint).orders
      → other < (world.part other_endpoint).orders
      → (world.part endpoint).order wait ≡ Wait cookie drain
      → (world.part other_endpoint).order other ≡ Wait cookie drains
      → (endpoint ≡ other_endpoint) × (wait ≡ other)

-- after every list of steps the next step counts so; as the counter begins at 0, it tells how many reset-dones were delivered
abbrev pub AlwaysCountsResetDones : Type 0
AlwaysCountsResetDones =
    (rule : PasidRule) (config : Config) (steps : List Step) (next : Step) (endpoint : ℕ)
    → Fits config
    → CountsResetDones (world_after rule config steps) next endpoint ((world_after rule config (steps ++ next ∷ [])).part endpoint)

-- after every list of steps orders become done and void by these events of the next step, and by no others
abbrev pub AlwaysChangesOrders : Type 0
AlwaysChangesOrders =
    (rule : PasidRule) (config : Config) (steps : List Step) (next : Step) (endpoint : ℕ)
    → Fits config
    → ChangesOrders (world_after rule config steps) next endpoint ((world_after rule config (steps ++ next ∷ [])).part endpoint)

-- after every list of steps the next step notes a Stop Marker (PCI Express Base 5.0, section 10.4.1) exactly where it delivers it so
abbrev pub AlwaysNotesMarkers : Type 0
AlwaysNotesMarkers =
    (rule : PasidRule) (config : Config) (steps : List Step) (next : Step) (endpoint : ℕ)
    → Fits config
    → NotesMarkers (world_after rule config steps) next endpoint ((world_after rule config (steps ++ next ∷ [])).part endpoint)

-- between any two moments of a list of steps an order becomes void by a reset alone
abbrev pub AlwaysVoidByReset : Type 0
AlwaysVoidByReset =
    (rule : PasidRule) (config : Config) (before since : List Step) (endpoint : ℕ)
    → Fits config
    → IsVoidByReset ((world_after rule config before).part endpoint) ((world_after rule config (before ++ since)).part endpoint)

-- after every list of steps the cookies of all units' waits are different ones, each below the next that is given out
abbrev pub AlwaysGivesCookies : Type 0
AlwaysGivesCookies = (rule : PasidRule) (config : Config) (steps : List Step) → Fits config → GivesCookies (world_after rule config steps)
