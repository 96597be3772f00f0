-- What the calls of the parts need of what a host keeps, in its own words.
use Rattle.std.specs.Prelude.{◌≡◌, ◌↔◌, ℕ, ◌<◌, ◌≤◌, Bool, true, false, ◌&&◌, ◌==◌, Option, Some, None, is_some, List, [], ◌∷◌, map, length}
use Rattle.std.specs.Prelude.{slice_get, slice_index_or}
use Rattle.std.specs.List.{find, list_any}
use Rattle.sva_step.specs.Limits
use Rattle.sva_model.specs.Message.{Message}
use Rattle.sva_model.specs.Message.Message.{StartMessage, StopMessage, ResetMessage, InvalidateMessage, ResponseMessage, RequestMessage}
use Rattle.sva_model.specs.Message.Message.{InvalidatedMessage, PageRequestMessage, MarkerMessage, ResetDoneMessage}
use Rattle.sva_model.specs.Wire.{Wire, SpaceWire, BindingWire, DeviceWire, TranslationWire, UnitWire, PlaceWire, TargetWire, PageRequestWire, JobWire}
use Rattle.sva_model.specs.Wire.{FlightWire, is_before}
use Rattle.sva_model.specs.Wire.PlaceWire.{WithheldWire}
use Rattle.sva_model.specs.Wire.TargetWire.{Cookie}
use Rattle.sva_model.specs.Wire.StageWire.{StoppingWire, InvalidatingWire}
use Rattle.sva_model.specs.Wire.Descriptor.{WaitDescriptor}
use Rattle.sva_labels.specs.Finding.{part_of, device_of, unit_of, outstanding, binding_of, bearer, held_by, has_open_group, is_wait_done, is_space}
use Rattle.sva_labels.specs.Moves.{is_begun, is_of_job}
use Rattle.sva_labels.specs.Outcomes.{asks_of}
use Rattle.sva_labels.specs.Replying.{responds}

-- what a frame awaits at a unit, if anything; the cookies among such targets, as often as they stand there; and those that
-- frames await at a unit
abbrev pub target_there : (endpoint : ℕ) → PlaceWire → Option TargetWire
target_there endpoint (WithheldWire targets) = slice_index_or targets endpoint None
target_there endpoint place = None

-- the cookies among these targets; the end of a reset has none
abbrev pub cookies_in : List (Option TargetWire) → List ℕ
cookies_in [] = []
cookies_in (Some (Cookie cookie) ∷ targets) = cookie ∷ cookies_in targets
cookies_in (_ ∷ targets) = cookies_in targets

-- the cookies of the waits for which frames are withheld at a unit, one for each such frame
abbrev pub awaited_at : (endpoint : ℕ) → List PlaceWire → List ℕ
awaited_at endpoint places = cookies_in (map (target_there endpoint) places)

-- a wait with this cookie is in the unit's queue
pub record HasWait (unit : UnitWire) (cookie : ℕ) : Type 0 where
  pub place : ℕ
  pub drain : Bool
  pub stands : slice_get unit.queue place ≡ Some (WaitDescriptor cookie drain)

-- a PASID finds its bearer at an endpoint
abbrev pub IsBorne : Wire → (endpoint pasid : ℕ) → Type 0
IsBorne wire endpoint pasid = is_some (bearer wire endpoint pasid) ≡ true

-- and that is stopping, and its Stop Marker isn't noted yet
pub record IsMarkable (wire : Wire) (endpoint pasid : ℕ) : Type 0 where
  pub binding : BindingWire
  pub found : bearer wire endpoint pasid ≡ Some binding
  pub stopping : binding.stage ≡ StoppingWire false

-- What a message in flight finds: a Start, a Stop and an Invalidate the bearer of its PASID (`receive` of the endpoint); an
-- Invalidate, a Response, and at an open unit a Request a label within its table; a Reset and a ResetDone a unit in reset
-- (`reopen`); a Completion of invalidations carries a field of three bits (`complete`); at an open unit a page request finds
-- a place in the queue (`arrive`) and its bearer, a Request its bearer, and a Stop Marker a binding that waits for it
-- (`note`). A translation completion needs nothing.
abbrev pub Suits : Wire → (endpoint : ℕ) → Message → Type 0
Suits wire endpoint (StartMessage pasid) = IsBorne wire endpoint pasid
Suits wire endpoint (StopMessage pasid) = IsBorne wire endpoint pasid
Suits wire endpoint ResetMessage = (unit_of wire endpoint).is_open ≡ false
Suits wire endpoint (InvalidateMessage itag pasid scope) = (itag < Limits.itags) × IsBorne wire endpoint pasid
Suits wire endpoint (ResponseMessage pasid index code) = index < Limits.groups
Suits wire endpoint (RequestMessage tag pasid page) = (unit_of wire endpoint).is_open ≡ true → (tag < Limits.request_tags) × IsBorne wire endpoint pasid
Suits wire endpoint (InvalidatedMessage vector field) = field < Limits.most_completions
Suits wire endpoint (PageRequestMessage pasid index page read write last) =
    (unit_of wire endpoint).is_open ≡ true → (length (part_of wire endpoint).page_queue < Limits.page_requests) × IsBorne wire endpoint pasid
Suits wire endpoint (MarkerMessage pasid) = (unit_of wire endpoint).is_open ≡ true → IsMarkable wire endpoint pasid
Suits wire endpoint ResetDoneMessage = (unit_of wire endpoint).is_open ≡ false
Suits wire endpoint _ = Unit {0}

-- the tables of an endpoint have a place for each label
pub record AreTables (device : DeviceWire) : Type 0 where
  pub pasids : length device.pasids ≡ Limits.pasids
  pub tags : length device.tags ≡ Limits.request_tags
  pub slots : length device.slots ≡ Limits.use_slots
  pub taken : length device.taken ≡ Limits.itags
  pub groups : length device.groups ≡ Limits.groups

-- a job of this endpoint, binding and index
abbrev pub is_job_of : (endpoint binding index : ℕ) → JobWire → Bool
is_job_of endpoint binding index job = job.endpoint == endpoint && job.binding == binding && job.index == index

-- none is, queued or in a hand
pub record HasNoJob (jobs : List JobWire) (hands : List (Option JobWire)) (endpoint binding index : ℕ) : Type 0 where
  pub queued : list_any (is_job_of endpoint binding index) jobs ≡ false
  pub held : (worker : ℕ) (job : JobWire) → slice_index_or hands worker None ≡ Some job → is_job_of endpoint binding index job ≡ false

-- a job: its endpoint is there, its index has a place in the table, it asks for 1 to 32 pages, and its binding, if that isn't
-- released, is at its endpoint
pub record IsJob (wire : Wire) (job : JobWire) : Type 0 where
  pub endpoint_low : job.endpoint < length wire.parts
  pub index_low : job.index < Limits.groups
  pub asks_some : 0 < length job.asks
  pub asks_few : length job.asks ≤ Limits.page_requests
  pub at_home : (binding : BindingWire) → binding_of wire job.binding ≡ Some binding → binding.endpoint ≡ job.endpoint

-- What a host keeps is as the calls of its parts need it. With each group of clauses stand the calls that need them.
pub record IsSound (wire : Wire) : Type 0 where
  -- numbers and cookies: a step counts on from one of these after its test that it is below 2^63 (a unit's `submit`)
  pub spaces_end : wire.next_space ≤ Limits.label_numbers
  pub bindings_end : wire.next_binding ≤ Limits.label_numbers
  pub messages_end : wire.next_message ≤ Limits.label_numbers
  pub cookies_end : wire.next_cookie ≤ Limits.label_numbers
  -- the next number is new: of a space (`Space`), of a binding (`begin` of the PASIDs), of a message (each send)
  pub space_low : (position : ℕ) (space : SpaceWire) → slice_get wire.spaces position ≡ Some space → space.number < wire.next_space
  pub binding_low : (position : ℕ) (binding : BindingWire) → slice_get wire.bindings position ≡ Some binding → binding.binding < wire.next_binding
  pub message_low : (position : ℕ) (flight : FlightWire) → slice_get wire.in_flight position ≡ Some flight → flight.number < wire.next_message
  -- no two have one number, and what is put behind the others stays in order (searches by number, `begin`, each send)
  pub spaces_rise :
      (first second : ℕ) (space other : SpaceWire)
      → first < second
      → slice_get wire.spaces first ≡ Some space
      → slice_get wire.spaces second ≡ Some other
      → space.number < other.number
  pub bindings_rise :
      (first second : ℕ) (binding other : BindingWire)
      → first < second
      → slice_get wire.bindings first ≡ Some binding
      → slice_get wire.bindings second ≡ Some other
      → binding.binding < other.binding
  pub messages_rise :
      (first second : ℕ) (flight other : FlightWire)
      → first < second
      → slice_get wire.in_flight first ≡ Some flight
      → slice_get wire.in_flight second ≡ Some other
      → flight.number < other.number
  -- the tables of units and of hands are of these sizes at most (a lane for each unit, a place for each hand)
  pub few_parts : length wire.parts ≤ Limits.most_endpoints
  pub few_hands : length wire.hands ≤ Limits.most_workers
  -- a unit's cookies: those that it was given are below the next one (`submit`, where cookies rise); its front is among them;
  -- and its queue keeps to its 64 places (`submit`, `pump`)
  pub waits_given : (endpoint : ℕ) → endpoint < length wire.parts → (unit_of wire endpoint).waits_end ≤ wire.next_cookie
  pub front_low : (endpoint : ℕ) → endpoint < length wire.parts → (unit_of wire endpoint).front ≤ (unit_of wire endpoint).waits_end
  pub queue_fits : (endpoint : ℕ) → endpoint < length wire.parts → length (unit_of wire endpoint).queue ≤ Limits.queue_places
  -- PASIDs (`begin`, `lowest`, the bearers): 1 to 32, one for each space; a space has one binding at an endpoint
  pub pasid_low : (position : ℕ) (binding : BindingWire) → slice_get wire.bindings position ≡ Some binding
      → (0 < binding.pasid) × (binding.pasid ≤ Limits.pasids)
  pub pasids_shared :
      (first second : ℕ) (binding other : BindingWire) → slice_get wire.bindings first ≡ Some binding → slice_get wire.bindings second ≡ Some other
      → (binding.pasid ≡ other.pasid) ↔ (binding.space ≡ other.space)
  pub endpoint_low : (position : ℕ) (binding : BindingWire) → slice_get wire.bindings position ≡ Some binding → binding.endpoint < length wire.parts
  pub one_each :
      (first second : ℕ) (binding other : BindingWire)
      → slice_get wire.bindings first ≡ Some binding
      → slice_get wire.bindings second ≡ Some other
      → binding.endpoint ≡ other.endpoint
      → binding.space ≡ other.space
      → first ≡ second
  -- room for waits (`withhold` of the frames): at an open unit what a frame awaits is a wait in the queue; so is what a binding
  -- awaits whose PASID is invalidated, unless it is done
  pub awaited_queued :
      (endpoint frame cookie : ℕ) (place : PlaceWire)
      → endpoint < length wire.parts
      → (unit_of wire endpoint).is_open ≡ true
      → slice_get wire.places frame ≡ Some place
      → target_there endpoint place ≡ Some (Cookie cookie)
      → HasWait (unit_of wire endpoint) cookie
  pub invalidating_queued :
      (position cookie : ℕ) (binding : BindingWire)
      → slice_get wire.bindings position ≡ Some binding
      → binding.stage ≡ InvalidatingWire cookie
      → (unit_of wire binding.endpoint).is_open ≡ true
      → is_wait_done (unit_of wire binding.endpoint) cookie ≡ false
      → HasWait (unit_of wire binding.endpoint) cookie
  -- messages: each is on the way of an endpoint, and finds there what it needs (deliveries)
  pub flight_endpoint : (position : ℕ) (flight : FlightWire) → slice_get wire.in_flight position ≡ Some flight → flight.endpoint < length wire.parts
  pub flight_suits : (position : ℕ) (flight : FlightWire) → slice_get wire.in_flight position ≡ Some flight → Suits wire flight.endpoint flight.message
  -- page requests that wait to be filed (`file`): the bearer is there, and what is filed of the group has a place left
  pub waiting_borne :
      (endpoint position : ℕ) (request : PageRequestWire)
      → endpoint < length wire.parts
      → slice_get (part_of wire endpoint).page_queue position ≡ Some request
      → IsBorne wire endpoint request.pasid
  pub filing_fits :
      (endpoint position : ℕ) (request : PageRequestWire) (binding : BindingWire)
      → endpoint < length wire.parts
      → slice_get (part_of wire endpoint).page_queue position ≡ Some request
      → bearer wire endpoint request.pasid ≡ Some binding
      → length (asks_of (find (is_begun binding.binding request.index) (part_of wire endpoint).host_groups)) < Limits.page_requests
  -- and no job has its binding and index: an index is given anew only once its group is answered (`file`)
  pub filing_anew :
      (endpoint position : ℕ) (request : PageRequestWire) (binding : BindingWire)
      → endpoint < length wire.parts
      → slice_get (part_of wire endpoint).page_queue position ≡ Some request
      → bearer wire endpoint request.pasid ≡ Some binding
      → HasNoJob wire.jobs wire.hands endpoint binding.binding request.index
  -- the open groups of a binding are at its endpoint alone (`is_open`)
  pub groups_at_home :
      (position endpoint : ℕ) (binding : BindingWire)
      → slice_get wire.bindings position ≡ Some binding
      → (endpoint == binding.endpoint) ≡ false
      → has_open_group (part_of wire endpoint) binding.binding ≡ false
  -- jobs (`take`, `answer`); where a held one isn't responded to, no open group is of it
  pub jobs_queued : (position : ℕ) (job : JobWire) → slice_get wire.jobs position ≡ Some job → IsJob wire job
  pub jobs_held : (worker : ℕ) (job : JobWire) → held_by wire worker ≡ Some job → IsJob wire job
  pub dropped_closed :
      (worker : ℕ) (job : JobWire)
      → held_by wire worker ≡ Some job
      → responds wire job ≡ false
      → list_any (is_of_job job) (part_of wire job.endpoint).host_groups ≡ false
  -- an endpoint: its tables and its unit's have a place for each label (`give` of a label, `receive`); no more than 32 page
  -- requests are outstanding (`fault`), and no more than 64 translations cached (`receive` of a completion)
  pub tables : (endpoint : ℕ) → endpoint < length wire.parts → AreTables (device_of wire endpoint)
  pub busy_size : (endpoint : ℕ) → endpoint < length wire.parts → length (unit_of wire endpoint).busy ≡ Limits.itags
  pub few_outstanding : (endpoint : ℕ) → endpoint < length wire.parts → outstanding (device_of wire endpoint).groups ≤ Limits.page_requests
  pub cache_fits : (endpoint : ℕ) → endpoint < length wire.parts → length (device_of wire endpoint).cache ≤ Limits.cached
  -- one translation of each PASID and page is cached, in rising order (`insert` in the place of an older one)
  pub cache_rises :
      (endpoint first second : ℕ) (translation other : TranslationWire)
      → endpoint < length wire.parts
      → first < second
      → slice_get (device_of wire endpoint).cache first ≡ Some translation
      → slice_get (device_of wire endpoint).cache second ≡ Some other
      → is_before translation other ≡ true

-- The space of each binding is there.
abbrev pub HaveSpaces : Wire → Type 0
HaveSpaces wire = (position : ℕ) (binding : BindingWire) → slice_get wire.bindings position ≡ Some binding → is_space wire binding.space ≡ true
