-- What the open world shows of the closed one, and what it then says of that to be safe. It pins what is called safe from the
-- other side: one that asks too little doesn't say so much.
--
-- These clauses of `IsSafePart` have nothing in the closed world that they speak of: `kept`, `kept_entries` and `walked` of these,
-- since no unit keeps anything (`has_caches`); `received`, since page requests stand in the queue as they come (`drain_empties`);
-- `filed` and `served`, since its host answers groups by steps of its own, and no worker does (`has_workers`); a Status in flight,
-- since endpoints stop by markers; that a frame is frozen; and that an endpoint is gone, of whose messages less is asked.
use Rattle.std.specs.Prelude.{◌≡◌, ◌≢◌, ◌↔◌, ◌<◌, ◌≤◌, Contains, IfSome, slice_get, ℕ, true, false, List, Option, Some, None}
use Rattle.sva_step.specs.Limits
use Rattle.sva_step.specs.declared.limits.Config.{Config}
use Rattle.sva_step.specs.declared.steps.Step.{Step}
use Rattle.sva_model.specs.Message.{Code}
use Rattle.sva_model.specs.State.{Subject, Endpoint, World, PasidRule}
use Rattle.sva_model.specs.State.Stage.{Live, Stopping}
use Rattle.sva_model.specs.State.PasidState.{Off}
use Rattle.sva_model.specs.State.RequestState.{Out}
use Rattle.sva_model.specs.State.PageRequestState.{Arrived}
use Rattle.sva_model.specs.State.HostGroupState.{PartFiled}
use Rattle.sva_model.specs.State.Subject.{StartOf, StopOf, CompletionOf, ResponseOf, PageRequestOf, MarkerOf}
use Rattle.sva_model.specs.State.Phase.{Open, Cleared}
use Rattle.sva_model.specs.States.{is_unreleased, is_out, is_collecting, is_free}
use Rattle.sva_model.specs.Labels.{oldest_arrived}
use Rattle.sva_model.specs.Steps.{world_after}
use Rattle.sva_model.specs.Claims.{Fits, Usable, IsBearer, asker_of}
use Rattle.sva_open.specs.declared.frames.Translation.{Translation}
use Rattle.sva_open.specs.declared.messages.Message.TheVariants as message
use Rattle.sva_open.specs.declared.messages.Sent.{Sent}
use Rattle.sva_open.specs.declared.works.Request.{Request}
use Rattle.sva_open.specs.declared.works.Work.TheVariants as work
use Rattle.sva_open.specs.World.{Part}
use Rattle.sva_open.specs.Safe.{IsCurrent, IsPresent, IsSafe}
use Rattle.sva_open_laws.specs.AsOpen.{open_of, part_of, translation_of, target_of, owner_of, request_of, sent_of, arrived_of, filed_of, is_bound, is_filed}
use Rattle.sva_open_laws.specs.AsOpen.{entered_of, marked_of, user_of}

-- ---- what is shown

-- a translation that the endpoint may still use: it holds it, or uses it, or a completion brings it for a request that isn't doomed
pub data IsShown (part : Part) (translation : Translation) : Type 0 where
  held : Contains part.held translation → IsShown part translation
  in_use : Contains part.works (work.Use translation) → IsShown part translation
  under_way :
      (request : Request) (tag : ℕ) (one : Sent)
      → Contains part.flight one
      → one.message ≡ message.Completion tag translation.page (Some translation.target)
      → slice_get part.requests tag ≡ Some (Some request)
      → request ≡ record { pasid = translation.pasid; page = translation.page; owner = translation.owner; is_doomed = false; noted = None }
      → IsShown part translation

-- the binding that a message names by its PASID
abbrev pub named_in : Endpoint → Subject → Option ℕ
named_in part (StartOf binding) = Some binding
named_in part (StopOf binding) = Some binding
named_in part (PageRequestOf request) = Some (asker_of part request)
named_in part (MarkerOf binding) = Some binding
named_in part _ = None

-- what is of a binding that there was, at an endpoint that is there
abbrev pub IsOfOne : World → (endpoint binding : ℕ) → Type 0
IsOfOne world endpoint binding = (endpoint < world.config.endpoints) × (is_bound ((world.part endpoint).stage binding) ≡ true)

-- the row of a binding's PASID is there, and shows the binding as the one that is so
abbrev pub IsInRow : World → (endpoint binding : ℕ) → (shown : Option ℕ) → Type 0
IsInRow world endpoint binding shown =
    IsOfOne world endpoint binding × ((world.part endpoint).pasid binding ≤ Limits.pasids) × (shown ≡ Some binding)

pub record ShowsAll (world : World) : Type 0 where
  -- each endpoint stands in it
  pub part :
      (endpoint : ℕ)
      → endpoint < world.config.endpoints
      → slice_get (open_of world).parts endpoint ≡ Some (part_of world endpoint (world.part endpoint))
  -- each usable translation is shown at its endpoint, of a binding and by a mapping that there was
  pub usable :
      (endpoint binding page mapping : ℕ)
      → Usable world endpoint binding page mapping
      → IsOfOne world endpoint binding
      × (mapping < world.mappings.made)
      × IsShown (part_of world endpoint (world.part endpoint)) (translation_of world.mappings (world.part endpoint) binding page mapping)
  -- what a mapping leads to is current exactly where it is the last mapping of its frame, and the frame isn't free
  pub current :
      (mapping : ℕ)
      → mapping < world.mappings.made
      → IsCurrent (open_of world).frames (target_of world.mappings mapping)
      ↔ ((world.mappings.latest (world.mappings.frame mapping) ≡ Some mapping) × (is_free world (world.mappings.frame mapping) ≡ false))
  -- and what is of a binding is of its PASID's present owner exactly as long as it bears the PASID: until it is released
  pub owner :
      (endpoint binding : ℕ)
      → is_bound ((world.part endpoint).stage binding) ≡ true
      → IsPresent (part_of world endpoint (world.part endpoint)) ((world.part endpoint).pasid binding) (owner_of (world.part endpoint) binding)
      ↔ IsBearer (world.part endpoint) binding
  -- in the row of its PASID each binding that is Live, and a space that there was; each whose marker is noted; and each under
  -- which the endpoint goes on
  pub entered :
      (endpoint binding : ℕ)
      → (world.part endpoint).stage binding ≡ Live
      → IsInRow world endpoint binding (entered_of world.bindings (world.part endpoint) ((world.part endpoint).pasid binding))
      × ((world.part endpoint).space binding < world.spaces)
  pub noted :
      (endpoint binding : ℕ)
      → (world.part endpoint).stage binding ≡ Stopping true
      → IsInRow world endpoint binding (marked_of world.bindings (world.part endpoint) ((world.part endpoint).pasid binding))
  pub started :
      (endpoint binding : ℕ)
      → (world.part endpoint).pasid_state binding ≢ Off
      → IsInRow world endpoint binding (user_of world.bindings (world.part endpoint) ((world.part endpoint).pasid binding))
  -- each translation request that is out stands under its tag
  pub out :
      (endpoint request : ℕ)
      → is_out ((world.part endpoint).request request) ≡ true
      → IsOfOne world endpoint ((world.part endpoint).request_binding request)
      × (slice_get (part_of world endpoint (world.part endpoint)).requests ((world.part endpoint).request_tag request)
      ≡ Some (Some (request_of (world.part endpoint) request)))
  -- each message in flight is shown
  pub flight :
      (endpoint message : ℕ) (subject : Subject)
      → (world.part endpoint).message message ≡ Some subject
      → (endpoint < world.config.endpoints)
      × IfSome (named_in (world.part endpoint) subject) (IsOfOne world endpoint)
      × ((one : Sent) → Contains (sent_of world.mappings (world.part endpoint) subject) one
      → Contains (part_of world endpoint (world.part endpoint)).flight one)
  -- each page request that has arrived is, and the oldest is the first; and each group that the host has filed in part
  pub arrived :
      (endpoint request : ℕ)
      → (world.part endpoint).page_request request ≡ Arrived
      → IsOfOne world endpoint (asker_of (world.part endpoint) request)
      × Contains (part_of world endpoint (world.part endpoint)).arrived (arrived_of endpoint (world.part endpoint) request)
  pub oldest :
      (endpoint : ℕ)
      → (world.part endpoint).page_request (oldest_arrived (world.part endpoint)) ≡ Arrived
      → slice_get (part_of world endpoint (world.part endpoint)).arrived 0
      ≡ Some (arrived_of endpoint (world.part endpoint) (oldest_arrived (world.part endpoint)))
  pub filed :
      (endpoint group : ℕ)
      → (world.part endpoint).host_group group ≡ PartFiled
      → Contains (part_of world endpoint (world.part endpoint)).filed (filed_of (world.part endpoint) group)

abbrev pub ClosedIsShown : Type 0
ClosedIsShown = (rule : PasidRule) (config : Config) (steps : List Step) → Fits config → ShowsAll (world_after rule config steps)

-- ---- what it says to be safe

-- of an endpoint with its unit, whatever led to it
pub record IsWell (world : World) (endpoint : ℕ) (part : Endpoint) : Type 0 where
  -- each translation that it may still use has an unreleased owner, and leads by the last mapping of its frame to one that isn't free
  pub usable :
      (binding page mapping : ℕ)
      → Usable world endpoint binding page mapping
      → (is_unreleased (part.stage binding) ≡ true)
      × (world.mappings.latest (world.mappings.frame mapping) ≡ Some mapping)
      × (is_free world (world.mappings.frame mapping) ≡ false)
  -- a translation request that is out and not doomed is of the binding that bears its PASID
  pub asked : (request : ℕ) → part.request request ≡ Out → IsBearer part (part.request_binding request)
  -- so are a start and a stop in flight, and what the endpoint goes on under
  pub start : (message binding : ℕ) → part.message message ≡ Some (StartOf binding) → IsBearer part binding
  pub stop : (message binding : ℕ) → part.message message ≡ Some (StopOf binding) → IsBearer part binding
  pub started : (binding : ℕ) → part.pasid_state binding ≢ Off → IsBearer part binding
  -- a Completion in flight that finds a request under its tag wasn't sent before a reset of the endpoint (PCI Express Base 5.0,
  -- section 10.2.3)
  pub completion :
      (message request other reset : ℕ) (found : Option ℕ)
      → part.message message ≡ Some (CompletionOf request found)
      → is_out (part.request other) ≡ true
      → part.request_tag other ≡ part.request_tag request
      → part.phase ≢ Cleared reset
  -- and it is of the page that this one asks for
  pub page :
      (message request other : ℕ) (found : Option ℕ)
      → part.message message ≡ Some (CompletionOf request found)
      → is_out (part.request other) ≡ true
      → part.request_tag other ≡ part.request_tag request
      → part.request_page request ≡ part.request_page other
  -- a response in flight finds by its index the group that it answers (section 10.4.2), whose last page request was sent, and which
  -- the host had filed
  pub response :
      (message group : ℕ) (code : Code)
      → part.message message ≡ Some (ResponseOf group code)
      → (part.at_index (part.index group) ≡ Some group) × (is_collecting (part.group group) ≡ false) × (is_filed (part.host_group group) ≡ true)
  -- at an open unit a page request and a marker in flight, and in every phase a page request that has arrived and a marker that is
  -- noted, find who sent them by their PASID (section 10.4.1)
  pub in_flight :
      (message request : ℕ)
      → part.phase ≡ Open
      → part.message message ≡ Some (PageRequestOf request)
      → IsBearer part (asker_of part request)
  pub marker : (message binding : ℕ) → part.phase ≡ Open → part.message message ≡ Some (MarkerOf binding) → IsBearer part binding
  pub arrived : (request : ℕ) → part.page_request request ≡ Arrived → IsBearer part (asker_of part request)
  pub noted : (binding : ℕ) → part.stage binding ≡ Stopping true → IsBearer part binding
  -- the oldest page request that has arrived joins no other group of its PASID and index, filed in part, than its own
  pub joined :
      (group : ℕ)
      → part.page_request (oldest_arrived part) ≡ Arrived
      → part.host_group group ≡ PartFiled
      → part.pasid (part.filed_under group) ≡ part.pasid (asker_of part (oldest_arrived part))
      → part.index group ≡ part.index (part.group_of (oldest_arrived part))
      → group ≡ part.group_of (oldest_arrived part)
  -- a binding to whose space an entry leads bears the PASID, and the space lives
  pub entered : (binding : ℕ) → part.stage binding ≡ Live → (IsBearer part binding) × (world.is_live (part.space binding) ≡ true)

-- To be safe says enough: of a world that is shown, whatever led to it.
abbrev pub SafeSaysEnough : Type 0
SafeSaysEnough = (world : World) (endpoint : ℕ) → ShowsAll world → IsSafe (open_of world) → IsWell world endpoint (world.part endpoint)
