-- What can't occur, and what is awaited: each in one place on its way, and the jobs in their hands.
use Rattle.sva_model.specs.State.{PasidRule}
use Rattle.std.specs.Prelude.{◌≡◌, ◌≢◌, ◌⊎◌, ◌↔◌, ℕ, ◌<◌, ◌≤◌, Bool, true, false, Option, Some, List}
use Rattle.sva_step.specs.declared.limits.Config.{Config}
use Rattle.sva_step.specs.declared.steps.Step.{Step}
use Rattle.sva_step.specs.Limits
use Rattle.sva_model.specs.Words.{count_below}
use Rattle.sva_model.specs.Message.{Code}
use Rattle.sva_model.specs.State.{Subject, GroupState, OrderState, Endpoint, World}
use Rattle.sva_model.specs.State.Subject.{StartOf, StopOf, FunctionReset, CompletionOf, InvalidateOf, ResponseOf, RequestOf, InvalidatedOf}
use Rattle.sva_model.specs.State.Subject.{PageRequestOf}
use Rattle.sva_model.specs.State.Subject.{MarkerOf, ResetDone}
use Rattle.sva_model.specs.State.Phase.{Open, Cleared}
use Rattle.sva_model.specs.State.Stage.{Stopping, Invalidating}
use Rattle.sva_model.specs.State.OrderState.{Sent, Lapsed, Completing, Done, Void}
use Rattle.sva_model.specs.State.GroupState.{Awaiting, Stale}
use Rattle.sva_model.specs.State.HostGroupState.{NotFiled, PartFiled, Job, InHand, Replied, InHandDiscarded}
use Rattle.sva_model.specs.State.PageRequestState.{InFlight, Arrived}
use Rattle.sva_model.specs.States.{is_out, is_open_group, is_before_invalidating, is_wait}
use Rattle.sva_model.specs.Steps.{world_after}
use Rattle.sva_model.specs.Claims.{Fits}

-- What can't occur.
pub record NeverOccurs (part : Endpoint) : Type 0 where
  -- a Reset or a ResetDone in flight at an open unit
  pub reset : (message : ℕ) → part.phase ≡ Open → part.message message ≢ Some FunctionReset
  pub reset_done : (message : ℕ) → part.phase ≡ Open → part.message message ≢ Some ResetDone
  -- an order in flight to an endpoint that has reset itself
  pub start : (message other binding : ℕ) → part.phase ≡ Cleared message → part.message other ≢ Some (StartOf binding)
  pub stop : (message other binding : ℕ) → part.phase ≡ Cleared message → part.message other ≢ Some (StopOf binding)
  pub invalidate : (message other order : ℕ) → part.phase ≡ Cleared message → part.message other ≢ Some (InvalidateOf order)
  pub response : (message other group : ℕ) (code : Code) → part.phase ≡ Cleared message → part.message other ≢ Some (ResponseOf group code)
  -- a Stop Marker in flight of a binding that isn't Stopping, or whose marker is noted
  pub marker : (message binding : ℕ) → part.message message ≡ Some (MarkerOf binding) → part.stage binding ≡ Stopping false
  -- an open group of page requests, or a page request that has arrived, of a binding that is past Draining
  pub open_group :
      (group : ℕ)
      → part.phase ≡ Open
      → is_open_group (part.host_group group) ≡ true
      → is_before_invalidating (part.stage (part.filed_under group)) ≡ true
  pub arrived : (request : ℕ) → part.page_request request ≡ Arrived → is_before_invalidating (part.stage (part.asker (part.group_of request))) ≡ true
  -- a worker that replies at an open unit for a binding that is Invalidating, whether or not a reset has dropped the job
  pub reply :
      (group worker invalidation wait : ℕ)
      → part.phase ≡ Open
      → (part.host_group group ≡ InHand worker) ⊎ (part.host_group group ≡ InHandDiscarded worker)
      → part.stage (part.filed_under group) ≢ Invalidating invalidation wait
  -- a worker that holds, at an open unit, a job that a reset has dropped, for a binding that is Live, Stopping or Draining
  pub discarded :
      (group worker : ℕ)
      → part.phase ≡ Open
      → part.host_group group ≡ InHandDiscarded worker
      → is_before_invalidating (part.stage (part.filed_under group)) ≡ false

-- after no list of steps does an endpoint, its unit or a worker meet one of these cases
abbrev pub NeverOccurring : Type 0
NeverOccurring =
    (rule : PasidRule) (config : Config) (steps : List Step) (endpoint : ℕ)
    → Fits config
    → NeverOccurs ((world_after rule config steps).part endpoint)

-- is it an invalidate completion in flight, and one that names the order?
abbrev pub names_order : (order : ℕ) → Option Subject → Bool
names_order order (Some (InvalidatedOf names)) = names order
names_order order _ = false

-- how many of the first so many messages are completions in flight that name the order
abbrev pub completions : (messages : ℕ) → Endpoint → (order : ℕ) → ℕ
completions messages part order = count_below messages (λ message. names_order order (part.message message))

-- how many completions an order is owed yet; 0 as long as the endpoint hasn't finished it, and once the last has come
abbrev pub left_of : OrderState → ℕ
left_of (Completing count left) = left
left_of _ = 0

-- does a group await its response, or is it stale?
abbrev pub is_answerable : GroupState → Bool
is_answerable Awaiting = true
is_answerable Stale = true
is_answerable _ = false

-- The places of a group on the way to its response: its last request is in flight or arrived; or the host has it whole, as
-- a job or in a worker's hand; or the response is in flight. The host's state of the group tells the three apart.
pub data IsOnItsWay (part : Endpoint) (group : ℕ) : Type 0 where
  asked : (last : ℕ) → part.group_of last ≡ group → part.is_last last ≡ true → (part.page_request last ≡ InFlight) ⊎ (part.page_request last ≡ Arrived)
      → (part.host_group group ≡ NotFiled) ⊎ (part.host_group group ≡ PartFiled) → IsOnItsWay part group
  is_job : part.host_group group ≡ Job → IsOnItsWay part group
  in_hand : (worker : ℕ) → part.host_group group ≡ InHand worker → IsOnItsWay part group
  answered : (message : ℕ) (code : Code) → part.message message ≡ Some (ResponseOf group code) → part.host_group group ≡ Replied → IsOnItsWay part group

-- What is awaited at an open unit is on its way, once. Each busy ITag has exactly one of: its Invalidate in flight, an
-- invalidation that the endpoint has taken, or completions owed, each of them in flight.
pub record IsUnderWay (messages : ℕ) (part : Endpoint) : Type 0 where
  pub sent : (order : ℕ) → part.order_state order ≡ Sent → part.message (part.invalidate_message order) ≡ Some (InvalidateOf order)
  pub sent_only : (message order : ℕ) → part.message message ≡ Some (InvalidateOf order) → part.order_state order ≡ Sent
  pub owed : (order : ℕ) → part.phase ≡ Open → completions messages part order ≡ left_of (part.order_state order)
  pub completing : (order count left : ℕ) → part.order_state order ≡ Completing count left → (0 < left) × (left ≤ count) × (count ≤ Limits.most_completions)
  pub never_lapsed : (order : ℕ) → part.phase ≡ Open → part.order_state order ≢ Lapsed
  -- each translation request that is out has its request or its completion in flight
  pub request : (request : ℕ) → part.phase ≡ Open → is_out (part.request request) ≡ true → (message : ℕ)
      × ((part.message message ≡ Some (RequestOf request)) ⊎ ((found : Option ℕ) × (part.message message ≡ Some (CompletionOf request found))))
  -- a page request is in flight exactly where a message in flight speaks of it, and one does
  pub asked : (request : ℕ) → (part.page_request request ≡ InFlight) ↔ ((message : ℕ) × (part.message message ≡ Some (PageRequestOf request)))
  pub asked_once :
      (message other request : ℕ)
      → part.message message ≡ Some (PageRequestOf request)
      → part.message other ≡ Some (PageRequestOf request)
      → message ≡ other
  -- each group that awaits its response, or is stale, is in one place on the way to it
  pub group : (group : ℕ) → part.phase ≡ Open → is_answerable (part.group group) ≡ true → IsOnItsWay part group
  -- a response in flight is to a group that awaits it, or is stale, and that the host has answered
  pub responded :
      (message group : ℕ) (code : Code)
      → part.message message ≡ Some (ResponseOf group code)
      → (is_answerable (part.group group) ≡ true) × (part.host_group group ≡ Replied)
  -- a group has at most one last page request
  pub one_last :
      (request other : ℕ)
      → request < part.page_requests
      → other < part.page_requests
      → part.is_last request ≡ true
      → part.is_last other ≡ true
      → part.group_of request ≡ part.group_of other
      → request ≡ other
  -- while a page request of it is in flight or arrived, the host doesn't have the group whole
  pub unfiled :
      (request : ℕ)
      → part.phase ≡ Open
      → (part.page_request request ≡ InFlight) ⊎ (part.page_request request ≡ Arrived)
      → (part.host_group (part.group_of request) ≡ NotFiled) ⊎ (part.host_group (part.group_of request) ≡ PartFiled)
  -- a wait is done only behind orders that are done or void
  pub ahead :
      (wait order : ℕ)
      → is_wait (part.order wait) ≡ true
      → part.order_state wait ≡ Done
      → order < wait
      → (part.order_state order ≡ Done) ⊎ (part.order_state order ≡ Void)
  -- an order is void only by a reset: at an open unit a reset-done has been delivered
  pub void : (order : ℕ) → order < part.orders → part.order_state order ≡ Void → (part.phase ≢ Open) ⊎ (0 < part.resets)
  pub response_once :
      (message second group : ℕ) (code other : Code)
      → part.message message ≡ Some (ResponseOf group code)
      → part.message second ≡ Some (ResponseOf group other)
      → message ≡ second

-- after every list of steps nothing is awaited at an open unit that isn't on its way
abbrev pub AlwaysUnderWay : Type 0
AlwaysUnderWay = (rule : PasidRule) (config : Config) (steps : List Step) (endpoint : ℕ) → Fits config
    → IsUnderWay (world_after rule config steps).messages ((world_after rule config steps).part endpoint)

-- A worker's hand holds a job that was made, of a group that is in that worker's hand at the host, whether or not a reset has
-- dropped it since; so no two hands hold jobs of the same group. And back: of a group that is in a worker's hand, that worker
-- holds the job; and a group that is a job has an entry in the job table, which is queued as long, and no group has two entries.
pub record HoldsJobs (world : World) : Type 0 where
  pub made : (worker job : ℕ) → world.hand worker ≡ Some job → job < world.jobs
  pub in_hand :
      (worker job : ℕ)
      → world.hand worker ≡ Some job
      → ((world.part (world.job job).endpoint).host_group (world.job job).group ≡ InHand worker)
      ⊎ ((world.part (world.job job).endpoint).host_group (world.job job).group ≡ InHandDiscarded worker)
  pub one_hand :
      (worker other job same : ℕ)
      → world.hand worker ≡ Some job
      → world.hand other ≡ Some same
      → (world.job job).endpoint ≡ (world.job same).endpoint
      → (world.job job).group ≡ (world.job same).group
      → worker ≡ other
  pub held :
      (endpoint group worker : ℕ)
      → ((world.part endpoint).host_group group ≡ InHand worker) ⊎ ((world.part endpoint).host_group group ≡ InHandDiscarded worker)
      → (job : ℕ) × (world.hand worker ≡ Some job) × ((world.job job).endpoint ≡ endpoint) × ((world.job job).group ≡ group)
  pub queued :
      (endpoint group : ℕ)
      → (world.part endpoint).host_group group ≡ Job
      → (job : ℕ) × (job < world.jobs) × ((world.job job).endpoint ≡ endpoint) × ((world.job job).group ≡ group)
  pub one_job :
      (job same : ℕ)
      → job < world.jobs
      → same < world.jobs
      → (world.job job).endpoint ≡ (world.job same).endpoint
      → (world.job job).group ≡ (world.job same).group
      → job ≡ same

-- after every list of steps the workers' hands, the job table and the groups at the host agree
abbrev pub AlwaysHoldsJobs : Type 0
AlwaysHoldsJobs = (rule : PasidRule) (config : Config) (steps : List Step) → Fits config → HoldsJobs (world_after rule config steps)
