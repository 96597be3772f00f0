-- What a reset clears, and what is on its way in the meantime. (That a function level reset ends what an endpoint does is PCI
-- Express Base 5.0, section 6.6.2; how host and endpoint tell each other of it is this project's own.)
use Rattle.std.specs.Prelude.{◌≡◌, ◌≢◌, ◌↔◌, ℕ, ◌≤◌, Bool, true, false, Some, None, List}
use Rattle.sva_step.specs.declared.limits.Config.{Config}
use Rattle.sva_step.specs.declared.steps.Step.{Step}
use Rattle.sva_step.specs.declared.steps.Step.TheVariants as step
use Rattle.sva_model.specs.Words.{put}
use Rattle.sva_model.specs.State.{PasidRule, Subject, Endpoint, World}
use Rattle.sva_model.specs.State.Phase.{Open, ResetSent, Cleared}
use Rattle.sva_model.specs.State.PasidState.{Off}
use Rattle.sva_model.specs.State.RequestState.{Over}
use Rattle.sva_model.specs.State.UseState.{Running}
use Rattle.sva_model.specs.State.PageRequestState.{Arrived}
use Rattle.sva_model.specs.State.GroupState.{Closed}
use Rattle.sva_model.specs.State.OrderState.{Queued, Lapsed}
use Rattle.sva_model.specs.State.Subject.{FunctionReset, RequestOf, InvalidatedOf, PageRequestOf, MarkerOf, ResetDone}
use Rattle.sva_model.specs.States.{is_taken, is_open_group}
use Rattle.sva_model.specs.Labels.{name}
use Rattle.sva_model.specs.Steps.{reply, world_after}
use Rattle.sva_model.specs.Claims.{Fits}
use Rattle.sva_laws.specs.Causes.{named_endpoint}
use Rattle.sva_laws.specs.Untouched.{is_of_endpoint}

-- A unit is in reset exactly while one message is in flight: its Reset, and then the endpoint's reset-done.
pub record IsInReset (part : Endpoint) : Type 0 where
  pub down : (message : ℕ) → (part.message message ≡ Some FunctionReset) ↔ (part.phase ≡ ResetSent message)
  pub up : (message : ℕ) → (part.message message ≡ Some ResetDone) ↔ (part.phase ≡ Cleared message)
  -- behind the reset-done nothing is in flight
  pub newest : (message other : ℕ) (subject : Subject) → part.phase ≡ Cleared message → part.message other ≡ Some subject → other ≤ message
  -- An endpoint that has reset itself has no PASID on and none that is told to stop; no translation; no request, group or
  -- invalidation that it owes something for; no running use; and page requests that aren't disabled.
  pub off : (message binding : ℕ) → part.phase ≡ Cleared message → part.pasid_state binding ≡ Off
  pub emptied : (message request : ℕ) → part.phase ≡ Cleared message → part.held request ≡ None
  pub over : (message request : ℕ) → part.phase ≡ Cleared message → part.request request ≡ Over
  pub ended : (message used : ℕ) → part.phase ≡ Cleared message → part.use_state used ≢ Running
  pub closed : (message group : ℕ) → part.phase ≡ Cleared message → part.group group ≡ Closed
  pub untaken : (message order : ℕ) → part.phase ≡ Cleared message → is_taken (part.order_state order) ≡ false
  pub enabled : (message : ℕ) → part.phase ≡ Cleared message → part.is_disabled ≡ false
  -- A unit in reset, from the Reset step on, has nothing queued, no page request that waits and no group that is open.
  pub unqueued : (order : ℕ) → part.phase ≢ Open → part.order_state order ≢ Queued
  pub unarrived : (request : ℕ) → part.phase ≢ Open → part.page_request request ≢ Arrived
  pub unfiled : (group : ℕ) → part.phase ≢ Open → is_open_group (part.host_group group) ≡ false
  -- an invalidation is lapsed only there
  pub lapsed : (order : ℕ) → part.order_state order ≡ Lapsed → part.phase ≢ Open

-- so it is of each endpoint after every list of steps
abbrev pub AlwaysInReset : Type 0
AlwaysInReset = (rule : PasidRule) (config : Config) (steps : List Step) (endpoint : ℕ) → Fits config
    → IsInReset ((world_after rule config steps).part endpoint)

-- the world in which the endpoint's unit is open, and all else is as it is
abbrev pub with_open : World → (endpoint : ℕ) → World
with_open world endpoint = record world { part = put world.part endpoint (record (world.part endpoint) { phase = Open }) }

-- does it speak to the unit, which drops it in a reset?
abbrev pub is_to_unit : Subject → Bool
is_to_unit (RequestOf request) = true
is_to_unit (InvalidatedOf names) = true
is_to_unit (PageRequestOf request) = true
is_to_unit (MarkerOf binding) = true
is_to_unit _ = false

-- What an endpoint does itself, and what comes to it, is answered in a reset of its unit as where that is open.
pub record AnswersInReset (world : World) (endpoint : ℕ) : Type 0 where
  pub done :
      (next : Step)
      → is_of_endpoint next ≡ true
      → named_endpoint next ≡ Some endpoint
      → reply world next ≡ reply (with_open world endpoint) next
  pub delivered :
      (number : ℕ) (subject : Subject)
      → world.link_of (name world number) ≡ endpoint
      → (world.part endpoint).message (name world number) ≡ Some subject
      → is_to_unit subject ≡ false
      → reply world (step.Deliver number) ≡ reply (with_open world endpoint) (step.Deliver number)

-- so it is after every list of steps
abbrev pub AlwaysAnswersInReset : Type 0
AlwaysAnswersInReset = (rule : PasidRule) (config : Config) (steps : List Step) (endpoint : ℕ) → Fits config
    → AnswersInReset (world_after rule config steps) endpoint
