-- What the host, its endpoints and the link keep of the records: labels, numbers and counts, and no names. It is a
-- function of the world, by lists: tables by label from 0 on, queues in their order, maps in rising order of their keys.
-- It stands by its keepers: spaces, places of frames, bindings, of each endpoint its device, its unit, its page request
-- queue and its open groups, jobs, hands, messages in flight and the numbers to come. Each view takes what it reads.
-- (This project's own form; the queues and descriptors are those of Intel VT-d, "Queued Invalidation Interface",
-- "Invalidation Wait Descriptor" and "Page Request Queue".)
use Rattle.std.specs.Prelude.{ℕ, zero, suc, ◌+◌, ◌-◌, Bool, true, false, ◌&&◌, ◌||◌, not, ◌==◌, nat_lt, if◌then◌else◌, Option, Some, None, option_map}
use Rattle.std.specs.Prelude.{List, [], ◌∷◌, map}
use Rattle.sva_step.specs.Limits
use Rattle.sva_model.specs.Words.{any_below, count_below, select, tabulate, is_some, holds_of, the}
use Rattle.sva_model.specs.Range.{Range}
use Rattle.sva_model.specs.Message.{Message}
use Rattle.sva_model.specs.State.{Owed, MappingState, Mappings, Stage, PasidState, RequestState, GroupState, HostGroupState, Order, OrderState, Endpoint, World}
use Rattle.sva_model.specs.State.Owed.{Ranges, Pasid}
use Rattle.sva_model.specs.State.MappingState.{Gone}
use Rattle.sva_model.specs.State.Stage.{Live, Stopping, Draining, Invalidating, Lost}
use Rattle.sva_model.specs.State.PasidState.{Off}
use Rattle.sva_model.specs.State.RequestState.{Doomed}
use Rattle.sva_model.specs.State.Order.{RangeOf, PasidOf, Wait}
use Rattle.sva_model.specs.State.OrderState.{Taken, Completing}
use Rattle.sva_model.specs.States.{Extent, Place, is_open, is_unreleased, is_running, is_open_group, is_queued, is_present, answered, place}
use Rattle.sva_model.specs.States.Place.{Free, Mapped, Withheld}
use Rattle.sva_model.specs.StateChanges.{extent_of, binding_of}
use Rattle.sva_model.specs.Labels

-- Numbers. A name is seen by its number, which is counted from the config's `first` on.

-- the number of a name
abbrev pub number : (first name : ℕ) → ℕ
number first name = first + name

-- the number after that of the last of so many; 0 where there is none
abbrev pub end_number : (first count : ℕ) → ℕ
end_number first zero = 0
end_number first (suc before) = first + suc before

-- what is found where the first is there
abbrev pub chain : {A : Type 0} → (ℕ → Option A) → Option ℕ → Option A
chain at None = None
chain at (Some there) = at there

-- a list with an entry more, before the first entry that isn't below it
abbrev pub insert_by : {A : Type 0} → (A → A → Bool) → A → List A → List A
insert_by below entry [] = entry ∷ []
insert_by below entry (first ∷ rest) = if below first entry then first ∷ insert_by below entry rest else entry ∷ first ∷ rest

-- the list in rising order
abbrev pub sorted_by : {A : Type 0} → (A → A → Bool) → List A → List A
sorted_by below [] = []
sorted_by below (first ∷ rest) = insert_by below first (sorted_by below rest)

-- Spaces: each live one by its number, with its pages in rising order.

-- a mapped page of a space
pub record PageWire : Type 0 where
  pub page : ℕ
  pub frame : ℕ
  pub write : Bool

-- a live space
pub record SpaceWire : Type 0 where
  pub number : ℕ
  pub pages : List PageWire

-- the page of a mapping
abbrev pub page_wire : Mappings → (mapping : ℕ) → PageWire
page_wire mappings mapping = record { page = mappings.page mapping; frame = mappings.frame mapping; write = mappings.write mapping }

-- is the mapping a present one of the space?
abbrev pub is_page_of : Mappings → (space mapping : ℕ) → Bool
is_page_of mappings space mapping = is_present (mappings.state mapping) && mappings.space mapping == space

-- the order of pages
abbrev pub is_lower_page : PageWire → PageWire → Bool
is_lower_page first second = nat_lt first.page second.page

-- the pages of a space by the first `count` mappings, in rising order
unfoldable pub pages_below : Mappings → (space count : ℕ) → List PageWire
pages_below mappings space zero = []
pages_below mappings space (suc mapping) =
    if is_page_of mappings space mapping then insert_by is_lower_page (page_wire mappings mapping) (pages_below mappings space mapping)
    else pages_below mappings space mapping

-- the mapped pages of a space, in rising order
abbrev pub pages_wire : Mappings → (space : ℕ) → List PageWire
pages_wire mappings space = pages_below mappings space mappings.made

-- a space by its number, with its pages
abbrev pub space_wire : (first : ℕ) → Mappings → (space : ℕ) → SpaceWire
space_wire first mappings space = record { number = number first space; pages = pages_wire mappings space }

-- the live spaces, in the order in which they began
abbrev pub spaces_wire : (first spaces : ℕ) → (is_live : ℕ → Bool) → Mappings → List SpaceWire
spaces_wire first spaces is_live mappings = map (space_wire first mappings) (select spaces is_live)

-- Frames: each by its number; a withheld one with what it waits for at each unit.

-- a wait, by its cookie, or the end of the reset that the unit is in
pub data TargetWire : Type 0 where
  Cookie : (cookie : ℕ) → TargetWire
  ResetEnd : TargetWire

-- a frame: free, mapped, or withheld with what it waits for at each of eight units
pub data PlaceWire : Type 0 where
  FreeWire : PlaceWire
  MappedWire : PlaceWire
  WithheldWire : (targets : List (Option TargetWire)) → PlaceWire

-- the number of the cookie of a wait
abbrev pub cookie_number : (first : ℕ) → Order → ℕ
cookie_number first (Wait cookie drain) = number first cookie
cookie_number first order = 0

-- what is waited for at a unit that hasn't answered: a wait that was submitted, or the end of the reset that it was in
abbrev pub target_of : (first : ℕ) → Endpoint → Owed → TargetWire
target_of first part (Ranges range count resets) = Cookie (cookie_number first (part.order (range + count)))
target_of first part (Pasid invalidation wait resets in_reset) = if in_reset then ResetEnd else Cookie (cookie_number first (part.order wait))
target_of first part _ = ResetEnd

-- what is waited for at a unit, unless its endpoint has answered
abbrev pub target_wire : (first : ℕ) → Endpoint → Owed → Option TargetWire
target_wire first part owed = if answered part owed then None else Some (target_of first part owed)

-- a withheld frame, by the mapping that is gone
abbrev pub withheld_wire : (first endpoints : ℕ) → (ℕ → Endpoint) → MappingState → PlaceWire
withheld_wire first endpoints part (Gone owed) =
    WithheldWire (tabulate Limits.most_endpoints (λ e. if nat_lt e endpoints then target_wire first (part e) (owed e) else None))
withheld_wire first endpoints part state = FreeWire

-- a frame by its place
abbrev pub place_wire_by : World → (frame : ℕ) → Place → PlaceWire
place_wire_by world frame Free = FreeWire
place_wire_by world frame Mapped = MappedWire
place_wire_by world frame Withheld =
    withheld_wire world.config.first world.config.endpoints world.part (world.mappings.state (the (world.mappings.latest frame)))

-- every frame, by its number
abbrev pub places_wire : World → List PlaceWire
places_wire world = tabulate world.config.frames (λ f. place_wire_by world f (place world f))

-- Bindings: those that aren't released, in the order in which they began.

-- whether its wait is done is read from the front of its unit
pub data StageWire : Type 0 where
  LiveWire : StageWire
  StoppingWire : (marked : Bool) → StageWire
  DrainingWire : (cookie : ℕ) → StageWire
  InvalidatingWire : (cookie : ℕ) → StageWire
  QuietWire : StageWire
  LostWire : StageWire

-- a stage, its wait by its cookie
abbrev pub stage_wire : (first : ℕ) → Endpoint → Stage → StageWire
stage_wire first part Live = LiveWire
stage_wire first part (Stopping marked) = StoppingWire marked
stage_wire first part (Draining wait) = DrainingWire (cookie_number first (part.order wait))
stage_wire first part (Invalidating invalidation wait) = InvalidatingWire (cookie_number first (part.order wait))
stage_wire first part Lost = LostWire
stage_wire first part _ = QuietWire

-- an unreleased binding
pub record BindingWire : Type 0 where
  pub endpoint : ℕ
  pub space : ℕ
  pub binding : ℕ
  pub pasid : ℕ
  pub stage : StageWire

-- a binding at its endpoint, by numbers
abbrev pub binding_wire : (first endpoint : ℕ) → Endpoint → (binding : ℕ) → BindingWire
binding_wire first endpoint part binding =
    record {
      endpoint = endpoint;
      space = number first (part.space binding);
      binding = number first binding;
      pasid = part.pasid binding;
      stage = stage_wire first part (part.stage binding);
    }

-- the unreleased bindings, in the order in which they began
abbrev pub bindings_wire : (first bindings : ℕ) → (endpoint_of : ℕ → ℕ) → (ℕ → Endpoint) → List BindingWire
bindings_wire first bindings endpoint_of part =
    map (λ b. binding_wire first (endpoint_of b) (part (endpoint_of b)) b) (select bindings (λ b. is_unreleased ((part (endpoint_of b)).stage b)))

-- The device: what an endpoint keeps itself.

-- a translation request that is out
pub record RequestWire : Type 0 where
  pub pasid : ℕ
  pub page : ℕ
  pub is_doomed : Bool

-- a cached translation
pub record TranslationWire : Type 0 where
  pub pasid : ℕ
  pub page : ℕ
  pub frame : ℕ
  pub write : Bool

-- a use that a reset ended names no translation
pub data UseWire : Type 0 where
  RunningWire : (translation : TranslationWire) → UseWire
  DeadWire : UseWire

-- an invalidation in the endpoint's hands, and the use slots that it noted
pub record TakenWire : Type 0 where
  pub pasid : ℕ
  pub extent : Extent
  pub slots : List Bool

-- a group of page requests at its endpoint
pub record GroupWire : Type 0 where
  pub pasid : ℕ
  pub state : GroupState
  pub requests : ℕ

-- what an endpoint keeps: tables by label, and its cache
pub record DeviceWire : Type 0 where
  pub pasids : List PasidState  -- of the PASIDs 1 to 32
  pub tags : List (Option RequestWire)
  pub cache : List TranslationWire  -- in rising order of PASID and page
  pub slots : List (Option UseWire)
  pub taken : List (Option TakenWire)  -- by ITag
  pub groups : List (Option GroupWire)
  pub is_disabled : Bool

-- the state of the PASID that a binding bears; Off where none does
abbrev pub state_of_pasid : Endpoint → Option ℕ → PasidState
state_of_pasid part None = Off
state_of_pasid part (Some binding) = part.pasid_state binding

-- is it out and doomed?
abbrev pub is_doomed : RequestState → Bool
is_doomed Doomed = true
is_doomed _ = false

-- a translation request, by its binding's PASID
abbrev pub request_wire : Endpoint → (request : ℕ) → RequestWire
request_wire part request =
    record { pasid = part.pasid (part.request_binding request); page = part.request_page request; is_doomed = is_doomed (part.request request) }

-- a translation, by its binding's PASID
abbrev pub translation_wire : Mappings → Endpoint → (binding page mapping : ℕ) → TranslationWire
translation_wire mappings part binding page mapping =
    record { pasid = part.pasid binding; page = page; frame = mappings.frame mapping; write = mappings.write mapping }

-- the order of cached translations: by PASID, then by page
abbrev pub is_before : TranslationWire → TranslationWire → Bool
is_before first second = nat_lt first.pasid second.pasid || (first.pasid == second.pasid && nat_lt first.page second.page)

-- the translation that the answer to a request left in the cache
abbrev pub cached_wire : Mappings → Endpoint → (request : ℕ) → TranslationWire
cached_wire mappings part request = translation_wire mappings part (part.request_binding request) (part.request_page request) (the (part.held request))

-- what is cached, in rising order
abbrev pub cache_wire : Mappings → Endpoint → List TranslationWire
cache_wire mappings part = sorted_by is_before (map (cached_wire mappings part) (select part.requests (λ r. is_some (part.held r))))

-- a use, by whether it runs
abbrev pub use_wire : Mappings → Endpoint → (used : ℕ) → UseWire
use_wire mappings part used =
    if is_running (part.use_state used)
    then RunningWire (translation_wire mappings part (part.use_binding used) (mappings.page (part.use_mapping used)) (part.use_mapping used))
    else DeadWire

-- does a taken order wait for the use?
abbrev pub is_noted : Mappings → Endpoint → (order uses used : ℕ) → Bool
is_noted mappings part order uses used = nat_lt used uses && Labels.is_noted_running mappings part order used

-- an invalidation that the endpoint has taken, by its state
abbrev pub taken_by : Mappings → Endpoint → (order : ℕ) → OrderState → Option TakenWire
taken_by mappings part order (Taken uses) =
    Some (record {
      pasid = part.pasid (binding_of (part.order order));
      extent =
          extent_of (part.order order);
      slots = tabulate Limits.use_slots (λ t. holds_of (is_noted mappings part order uses) (part.at_slot t));
    })
taken_by mappings part order _ = None

-- a group, with how many of its page requests were sent
abbrev pub group_wire : Endpoint → (group : ℕ) → GroupWire
group_wire part group =
    record { pasid = part.pasid (part.asker group); state = part.group group; requests = count_below part.page_requests (λ r. part.group_of r == group) }

-- the device of an endpoint
abbrev pub device_wire : Mappings → Endpoint → DeviceWire
device_wire mappings part =
    record {
      pasids = tabulate Limits.pasids (λ t. state_of_pasid part (part.at_pasid (suc t)));
      tags = tabulate Limits.request_tags (λ t. option_map (request_wire part) (part.at_tag t));
      cache = cache_wire mappings part;
      slots = tabulate Limits.use_slots (λ t. option_map (use_wire mappings part) (part.at_slot t));
      taken = tabulate Limits.itags (λ t. chain (λ k. taken_by mappings part k (part.order_state k)) (part.at_itag t));
      groups = tabulate Limits.groups (λ i. option_map (group_wire part) (part.at_index i));
      is_disabled = part.is_disabled;
    }

-- The unit's invalidation queue.

-- an ITag that is busy: no completion came yet, or so many of so many
pub data BusyWire : Type 0 where
  Fresh : BusyWire
  Counting : (count arrived : ℕ) → BusyWire

-- a descriptor of the invalidation queue (Intel VT-d, "Queued Invalidation Interface")
pub data Descriptor : Type 0 where
  RangeDescriptor : (pasid : ℕ) (range : Range) → Descriptor
  PasidDescriptor : (pasid : ℕ) → Descriptor
  WaitDescriptor : (cookie : ℕ) (drain : Bool) → Descriptor

-- `front` is the number after the greatest cookie that the unit has taken, or that a reset made void which has ended; 0
-- where there is none. A wait is done exactly where its cookie is below the front, and it isn't void. `waits_end` is the
-- number after the greatest cookie that was submitted; 0 where there is none.
pub record UnitWire : Type 0 where
  pub is_open : Bool
  pub queue : List Descriptor
  pub busy : List (Option BusyWire)  -- by ITag
  pub front : ℕ
  pub waits_end : ℕ

-- an order as it stands in the queue
abbrev pub descriptor : (first : ℕ) → Endpoint → Order → Descriptor
descriptor first part (RangeOf binding range) = RangeDescriptor (part.pasid binding) range
descriptor first part (PasidOf binding) = PasidDescriptor (part.pasid binding)
descriptor first part (Wait cookie drain) = WaitDescriptor (number first cookie) drain

-- an ITag by the state of its order
abbrev pub busy_wire : OrderState → BusyWire
busy_wire (Completing count left) = if left == count then Fresh else Counting count (count - left)
busy_wire _ = Fresh

-- the invalidation queue of a unit
abbrev pub unit_wire : (first : ℕ) → Endpoint → UnitWire
unit_wire first part =
    record {
      is_open = is_open part.phase;
      queue = map (λ k. descriptor first part (part.order k)) (select part.orders (λ k. is_queued (part.order_state k)));
      busy = tabulate Limits.itags (λ t. option_map (λ k. busy_wire (part.order_state k)) (part.at_itag t));
      front = end_number first part.front;
      waits_end = end_number first part.waits_end;
    }

-- The unit's page request queue, and the groups that the host has open.

-- what one page request asks for
pub record AskWire : Type 0 where
  pub page : ℕ
  pub read : Bool
  pub write : Bool

-- a page request in the unit's queue
pub record PageRequestWire : Type 0 where
  pub pasid : ℕ
  pub index : ℕ
  pub ask : AskWire
  pub last : Bool

-- a group that the host has filed in part or whole, and not answered
pub record HostGroupWire : Type 0 where
  pub binding : ℕ
  pub index : ℕ
  pub asks : List AskWire
  pub is_whole : Bool

-- what a page request asks for
abbrev pub ask_wire : Endpoint → (page_request : ℕ) → AskWire
ask_wire part page_request = record { page = part.asked_page page_request; read = part.asks_read page_request; write = part.asks_write page_request }

-- a page request, by its asker's PASID and its group's index
abbrev pub page_request_wire : Endpoint → (page_request : ℕ) → PageRequestWire
page_request_wire part page_request =
    record {
      pasid = part.pasid (part.asker (part.group_of page_request));
      index = part.index (part.group_of page_request);
      ask = ask_wire part page_request;
      last = part.is_last page_request;
    }

-- the page requests that wait, oldest first
abbrev pub page_queue_wire : Endpoint → List PageRequestWire
page_queue_wire part = map (λ k. page_request_wire part (part.arrival k)) (select part.arrivals (Labels.is_waiting part))

-- the asks of a group that are filed, in order of filing
abbrev pub asks_wire : Endpoint → (group : ℕ) → List AskWire
asks_wire part group = map (ask_wire part) (Labels.asks part group)

-- is a part of the group filed, and not its last request?
abbrev pub is_part : HostGroupState → Bool
is_part HostGroupState.PartFiled = true
is_part _ = false

-- the filing that began a group which is open
abbrev pub begins_open : Endpoint → (filing : ℕ) → Bool
begins_open part filing =
    is_open_group (part.host_group (part.group_of (part.filing filing)))
    && not (any_below filing (λ j. part.group_of (part.filing j) == part.group_of (part.filing filing)))

-- a group that the host has open
abbrev pub host_group_wire : (first : ℕ) → Endpoint → (group : ℕ) → HostGroupWire
host_group_wire first part group =
    record {
      binding = number first (part.filed_under group);
      index = part.index group;
      asks = asks_wire part group;
      is_whole = not (is_part (part.host_group group));
    }

-- the groups that the host has open, in the order in which they began
abbrev pub host_groups_wire : (first : ℕ) → Endpoint → List HostGroupWire
host_groups_wire first part = map (λ k. host_group_wire first part (part.group_of (part.filing k))) (select part.filings (begins_open part))

-- an endpoint with its unit
pub record EndpointWire : Type 0 where
  pub device : DeviceWire
  pub unit : UnitWire
  pub page_queue : List PageRequestWire
  pub host_groups : List HostGroupWire

-- an endpoint with its unit, as it is kept
abbrev pub part_wire : (first : ℕ) → Mappings → Endpoint → EndpointWire
part_wire first mappings part =
    record { device = device_wire mappings part; unit = unit_wire first part; page_queue = page_queue_wire part; host_groups = host_groups_wire first part }

-- Jobs, hands and messages in flight.

-- a job: the endpoint and the binding under which it was filed, its index and what it asks for
pub record JobWire : Type 0 where
  pub endpoint : ℕ
  pub binding : ℕ
  pub index : ℕ
  pub asks : List AskWire

-- the job that a group makes
abbrev pub group_job : (first endpoint : ℕ) → Endpoint → (group : ℕ) → JobWire
group_job first endpoint part group =
    record { endpoint = endpoint; binding = number first (part.filed_under group); index = part.index group; asks = asks_wire part group }

-- a job, by its group
abbrev pub job_wire : World → (job : ℕ) → JobWire
job_wire world job = group_job world.config.first (world.job job).endpoint (world.part (world.job job).endpoint) (world.job job).group

-- a message in flight, by its number
pub record FlightWire : Type 0 where
  pub number : ℕ
  pub endpoint : ℕ
  pub message : Message

-- a message as it was sent
abbrev pub flight_wire : World → (message : ℕ) → FlightWire
flight_wire world message =
    record { number = number world.config.first message; endpoint = world.link_of message; message = (world.part (world.link_of message)).carried message }

-- all that is kept of a world
pub record Wire : Type 0 where
  pub spaces : List SpaceWire
  pub places : List PlaceWire
  pub bindings : List BindingWire
  pub parts : List EndpointWire
  pub jobs : List JobWire
  pub hands : List (Option JobWire)
  pub in_flight : List FlightWire  -- oldest first
  pub next_space : ℕ
  pub next_binding : ℕ
  pub next_message : ℕ
  pub next_cookie : ℕ

-- what is kept of a world
abbrev pub wire : World → Wire
wire world =
    let first = world.config.first in
    record {
      spaces = spaces_wire first world.spaces world.is_live world.mappings;
      places = places_wire world;
      bindings = bindings_wire first world.bindings world.endpoint_of world.part;
      parts = tabulate world.config.endpoints (λ e. part_wire first world.mappings (world.part e));
      jobs = map (job_wire world) (select world.jobs (Labels.is_queued_job world));
      hands = tabulate world.config.workers (λ x. option_map (job_wire world) (world.hand x));
      in_flight = map (flight_wire world) (select world.messages (λ c. is_some ((world.part (world.link_of c)).message c)));
      next_space = number first world.spaces;
      next_binding = number first world.bindings;
      next_message = number first world.messages;
      next_cookie = number first world.cookies;
    }
