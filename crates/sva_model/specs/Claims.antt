-- What holds after every list of steps: the headline, and the definitions that it is made of. (This project's
-- own.)
use Rattle.std.specs.Prelude.{◌≡◌, ◌≢◌, ◌↔◌, ℕ, suc, ◌<◌, ◌≤◌, Bool, true, Some, ◌⊎◌, List, [], ◌∷◌, ◌++◌}
use Rattle.sva_step.specs.declared.limits.Config.{Config}
use Rattle.sva_step.specs.declared.steps.Step.{Step}
pub use Rattle.sva_step.specs.Limits.{Fits}
use Rattle.sva_model.specs.Message.{Code}
use Rattle.sva_model.specs.Range.{Range}
use Rattle.sva_model.specs.State.{PasidRule, Endpoint, World}
use Rattle.sva_model.specs.State.PasidRule.{PerSpace}
use Rattle.sva_model.specs.State.PasidState.{Off}
use Rattle.sva_model.specs.State.Stage.{Live, Stopping, Draining, Invalidating, Quiet, Lost}
use Rattle.sva_model.specs.State.RequestState.{Out}
use Rattle.sva_model.specs.State.UseState.{Running}
use Rattle.sva_model.specs.State.PageRequestState.{Arrived, Filed}
use Rattle.sva_model.specs.State.Order.{RangeOf}
use Rattle.sva_model.specs.State.OrderState.{Done}
use Rattle.sva_model.specs.State.Subject.{StartOf, StopOf, CompletionOf, ResponseOf, PageRequestOf, MarkerOf}
use Rattle.sva_model.specs.State.Phase.{Open}
use Rattle.sva_model.specs.States.{covers, is_unreleased, is_open_group, is_wait, place}
use Rattle.sva_model.specs.States.Place.{Free, Mapped, Withheld}
use Rattle.sva_model.specs.Steps.{world_after}

-- Usable translations (what a translation completion gave, or may yet give: PCI Express Base 5.0, section 10.2.3; a use is a
-- memory request with AT field 10b: section 10.2.1). At an endpoint, of a binding and a page, and by a mapping: one that is
-- cached; that of a running use; or one that a Completion in flight carries, whose request is out and not doomed.
pub data Usable (world : World) (endpoint : ℕ) : (binding page mapping : ℕ) → Type 0 where
  cached :
      (request mapping : ℕ)
      → (world.part endpoint).held request ≡ Some mapping
      → Usable world endpoint ((world.part endpoint).request_binding request) ((world.part endpoint).request_page request) mapping
  in_use :
      (used : ℕ)
      → (world.part endpoint).use_state used ≡ Running
      → Usable world endpoint ((world.part endpoint).use_binding used) (world.mappings.page ((world.part endpoint).use_mapping used))
      ((world.part endpoint).use_mapping used)
  under_way :
      (message request mapping : ℕ)
      → (world.part endpoint).message message ≡ Some (CompletionOf request (Some mapping))
      → (world.part endpoint).request request ≡ Out
      → Usable world endpoint ((world.part endpoint).request_binding request) ((world.part endpoint).request_page request) mapping

-- the owner's space is live, and maps that page to that frame with that write flag
pub record IsPresent (world : World) (endpoint binding page mapping : ℕ) : Type 0 where
  pub live : world.is_live ((world.part endpoint).space binding) ≡ true
  pub there : ℕ
  pub maps : world.mappings.at ((world.part endpoint).space binding) page ≡ Some there
  pub frame : world.mappings.frame there ≡ world.mappings.frame mapping
  pub write : world.mappings.write there ≡ world.mappings.write mapping

-- Frames. A frame is at a page of a live space.
pub record IsAt (world : World) (frame space page : ℕ) : Type 0 where
  pub live : world.is_live space ≡ true
  pub mapping : ℕ
  pub maps : world.mappings.at space page ≡ Some mapping
  pub leads : world.mappings.frame mapping ≡ frame

-- the frame is at some page of a live space
pub record IsMapped (world : World) (frame : ℕ) : Type 0 where
  pub space : ℕ
  pub page : ℕ
  pub is_at : IsAt world frame space page

-- Withheld, by looking back over the list of steps. The steps are `before`, then the step that took the frame out of a
-- space, then `since`. An endpoint with an unreleased binding of that space just before the step has answered by now if
-- the binding was Quiet or Lost then;
abbrev pub WasDone : Endpoint → (binding : ℕ) → Type 0
WasDone part binding = (part.stage binding ≡ Quiet) ⊎ (part.stage binding ≡ Lost)

-- or the unit was open, the binding Live, Stopping or Draining, and the orders that the step submitted at the unit are done
-- by now, which are invalidations of ranges of its pages, one that covers the page that led to the frame among them, and a
-- wait behind them;
abbrev pub IsBeforeInvalidating : Endpoint → (binding : ℕ) → Type 0
IsBeforeInvalidating part binding =
    (part.stage binding ≡ Live) ⊎ ((marked : Bool) × (part.stage binding ≡ Stopping marked)) ⊎ ((wait : ℕ) × (part.stage binding ≡ Draining wait))

-- The step that led from `was` to `then` submitted at the unit what the unmapping of a page of the binding asks: behind all
-- orders that were there, invalidations of ranges of the binding, of which one covers the page, and a wait as the last of them.
pub record HasSubmitted (was then : Endpoint) (binding page : ℕ) : Type 0 where
  -- the last order that the step submitted is a wait
  pub wait : ℕ
  pub is_new : was.orders ≤ wait
  pub is_last : then.orders ≡ suc wait
  pub is_a_wait : is_wait (then.order wait) ≡ true
  -- what is ahead of the wait are invalidations of ranges of the binding
  pub ranges : (order : ℕ) → was.orders ≤ order → order < wait → (range : Range) × (then.order order ≡ RangeOf binding range)
  -- and one of them covers the page
  pub its_own : ℕ
  pub own_is_new : was.orders ≤ its_own
  pub own_is_ahead : its_own < wait
  pub own_covers : covers (then.order its_own) binding page ≡ true

-- the orders of the unit from one up to another are done
abbrev pub AreDone : Endpoint → (from to : ℕ) → Type 0
AreDone part from to = (order : ℕ) → from ≤ order → order < to → part.order_state order ≡ Done

-- or the binding was Invalidating, and its PASID invalidation and the wait behind it are done by now, perhaps since
-- before the step; or a reset-done of the endpoint was delivered after the step.
pub data HasAnswered (was then now : Endpoint) (binding page : ℕ) : Type 0 where
  was_done : WasDone was binding → HasAnswered was then now binding page
  orders_done :
      was.phase ≡ Open
      → IsBeforeInvalidating was binding
      → HasSubmitted was then binding page
      → AreDone now was.orders then.orders
      → HasAnswered was then now binding page
  pasid_done : (invalidation wait : ℕ) → was.stage binding ≡ Invalidating invalidation wait → now.order_state invalidation ≡ Done
      → now.order_state wait ≡ Done → HasAnswered was then now binding page
  was_reset : then.resets < now.resets → HasAnswered was then now binding page

-- After these steps the frame is withheld: the last step that took it out of a space is the one between `before` and
-- `since`, it was not mapped since, and an endpoint bound to that space just before has not answered yet.
pub record IsWithheld (rule : PasidRule) (config : Config) (steps : List Step) (frame : ℕ) : Type 0 where
  pub before : List Step
  pub step : Step
  pub since : List Step
  pub steps_are : steps ≡ before ++ step ∷ since
  pub space : ℕ
  pub page : ℕ
  pub was_there : IsAt (world_after rule config before) frame space page
  pub not_mapped_since : (some rest : List Step) → some ++ rest ≡ since → IsMapped (world_after rule config (before ++ step ∷ some)) frame → ⊥
  pub endpoint : ℕ
  pub is_endpoint : endpoint < config.endpoints
  pub binding : ℕ
  pub unreleased : is_unreleased (((world_after rule config before).part endpoint).stage binding) ≡ true
  pub of_space : ((world_after rule config before).part endpoint).space binding ≡ space
  pub silent :
      HasAnswered
      ((world_after rule config before).part endpoint)
      ((world_after rule config (before ++ step ∷ [])).part endpoint)
      ((world_after rule config steps).part endpoint)
      binding
      page
      → ⊥

-- each frame is at exactly one page of one live space, or withheld, or free, and only one of these; the step reads its
-- place from what was written down when it was taken out, and that agrees with the look back; and what is at a page is a
-- frame of the config
pub record IsDivided (rule : PasidRule) (config : Config) (steps : List Step) : Type 0 where
  pub low : (frame space page : ℕ) → IsAt (world_after rule config steps) frame space page → frame < config.frames
  pub mapped_once :
      (frame space page other_space other_page : ℕ)
      → IsAt (world_after rule config steps) frame space page
      → IsAt (world_after rule config steps) frame other_space other_page
      → (space ≡ other_space) × (page ≡ other_page)
  pub mapped : (frame : ℕ) → (place (world_after rule config steps) frame ≡ Mapped) ↔ IsMapped (world_after rule config steps) frame
  pub withheld : (frame : ℕ) → (place (world_after rule config steps) frame ≡ Withheld) ↔ IsWithheld rule config steps frame
  pub free : (frame : ℕ) → (place (world_after rule config steps) frame ≡ Free) ↔ ((IsMapped (world_after rule config steps) frame → ⊥)
      × (IsWithheld rule config steps frame → ⊥))

-- Page requests and responses. The binding under which a page request, a group or a marker was sent is its asker.
abbrev pub asker_of : Endpoint → (page_request : ℕ) → ℕ
asker_of part page_request = part.asker (part.group_of page_request)

-- the binding is the one unreleased binding of the endpoint that bears its PASID
pub record IsBearer (part : Endpoint) (binding : ℕ) : Type 0 where
  pub unreleased : is_unreleased (part.stage binding) ≡ true
  pub bears : part.at_pasid (part.pasid binding) ≡ Some binding
  pub alone : (other : ℕ) → is_unreleased (part.stage other) ≡ true → part.pasid other ≡ part.pasid binding → other ≡ binding

-- the endpoint has sent the binding's Stop Marker, and it has arrived: the binding bears its PASID, which is off at the
-- endpoint since, and no Start, Stop or Marker of it is in flight
pub record HasSentMarker (part : Endpoint) (binding : ℕ) : Type 0 where
  pub bearer : IsBearer part binding
  pub off : part.pasid_state binding ≡ Off
  pub no_start : (message : ℕ) → part.message message ≢ Some (StartOf binding)
  pub no_stop : (message : ℕ) → part.message message ≢ Some (StopOf binding)
  pub no_marker : (message : ℕ) → part.message message ≢ Some (MarkerOf binding)

-- page requests, groups, markers and responses of an endpoint are matched to who asked
pub record IsMatched (part : Endpoint) : Type 0 where
  -- what the host has filed, and each job, stands under its asker
  pub filed : (page_request : ℕ) → part.page_request page_request ≡ Filed → part.filed_under (part.group_of page_request) ≡ asker_of part page_request
  pub job : (group : ℕ) → is_open_group (part.host_group group) ≡ true → part.filed_under group ≡ part.asker group
  -- at an open unit a page request in flight or arrived, and a marker in flight, finds its asker by its PASID
  pub in_flight :
      (message page_request : ℕ)
      → part.phase ≡ Open
      → part.message message ≡ Some (PageRequestOf page_request)
      → IsBearer part (asker_of part page_request)
  pub arrived : (page_request : ℕ) → part.phase ≡ Open → part.page_request page_request ≡ Arrived → IsBearer part (asker_of part page_request)
  pub marker : (message binding : ℕ) → part.phase ≡ Open → part.message message ≡ Some (MarkerOf binding) → IsBearer part binding
  -- in every phase a marker that is noted stands under the binding whose endpoint sent it
  pub noted : (binding : ℕ) → part.stage binding ≡ Stopping true → HasSentMarker part binding
  -- a response in flight finds the group that it answers by its index, and was sent for the binding that asked
  pub response :
      (message group : ℕ) (code : Code)
      → part.message message ≡ Some (ResponseOf group code)
      → (part.at_index (part.index group) ≡ Some group) × (part.filed_under group ≡ part.asker group)
  pub once : (group : ℕ) → part.responses group ≤ 1

-- The agreement: after these steps each usable translation has an unreleased owner, is present or leads to a withheld
-- frame, and leads to its frame by the last mapping of it; page requests and responses are matched; frames are divided; and two unreleased bindings of an endpoint have two
-- PASIDs, of whatever endpoints two where they have two spaces.
pub record Agrees (rule : PasidRule) (config : Config) (steps : List Step) : Type 0 where
  pub owner :
      (endpoint binding page mapping : ℕ)
      → Usable (world_after rule config steps) endpoint binding page mapping
      → is_unreleased (((world_after rule config steps).part endpoint).stage binding) ≡ true
  pub usable :
      (endpoint binding page mapping : ℕ)
      → Usable (world_after rule config steps) endpoint binding page mapping
      → IsPresent (world_after rule config steps) endpoint binding page mapping
      ⊎ IsWithheld rule config steps ((world_after rule config steps).mappings.frame mapping)
  -- it leads to its frame by the last mapping of that frame: so where the frame is withheld, it isn't so for a later owner
  pub latest :
      (endpoint binding page mapping : ℕ)
      → Usable (world_after rule config steps) endpoint binding page mapping
      → (world_after rule config steps).mappings.latest ((world_after rule config steps).mappings.frame mapping) ≡ Some mapping
  pub matched : (endpoint : ℕ) → IsMatched ((world_after rule config steps).part endpoint)
  pub divided : IsDivided rule config steps
  pub distinct :
      (endpoint binding other : ℕ)
      → is_unreleased (((world_after rule config steps).part endpoint).stage binding) ≡ true
      → is_unreleased (((world_after rule config steps).part endpoint).stage other) ≡ true
      → ((world_after rule config steps).part endpoint).pasid binding ≡ ((world_after rule config steps).part endpoint).pasid other
      → binding ≡ other
  -- under the rule of one PASID for each space: two unreleased bindings, of whatever endpoints, have the same PASID exactly
  -- where they have the same space
  pub shared :
      (endpoint binding other_endpoint other_binding : ℕ)
      → rule ≡ PerSpace
      → is_unreleased (((world_after rule config steps).part endpoint).stage binding) ≡ true
      → is_unreleased (((world_after rule config steps).part other_endpoint).stage other_binding) ≡ true
      → (((world_after rule config steps).part endpoint).pasid binding ≡ ((world_after rule config steps).part other_endpoint).pasid other_binding)
      ↔ (((world_after rule config steps).part endpoint).space binding ≡ ((world_after rule config steps).part other_endpoint).space other_binding)

-- After every list of steps, however late messages come in a permitted order.
abbrev pub AlwaysAgrees : Type 0
AlwaysAgrees = (rule : PasidRule) (config : Config) (steps : List Step) → Fits config → Agrees rule config steps
