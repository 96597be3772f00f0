-- What a step changes of what a host keeps: a list of moves, one for each act of the definitions, by numbers and labels
-- alone.
use Rattle.std.specs.Prelude.{ℕ, zero, suc, ◌+◌, ◌*◌, ◌^◌, Bool, true, false, ◌&&◌, ◌||◌, not, ◌==◌, nat_lt, if◌then◌else◌, is_none, Option, Some, None}
use Rattle.std.specs.Prelude.{List, [], ◌∷◌, ◌++◌, map, filter, drop, length, slice_set, slice_index_or}
use Rattle.std.specs.List.{list_all}
use Rattle.sva_step.specs.Limits
use Rattle.sva_model.specs.Words.{tabulate, count_below}
use Rattle.sva_model.specs.Range.{Range, decode}
use Rattle.sva_model.specs.Message.{Code, Message, Scope}
use Rattle.sva_model.specs.Message.Scope.{Coded, Everything}
use Rattle.sva_model.specs.Message.Message.{StartMessage, StopMessage, ResetMessage, InvalidateMessage, ResponseMessage, RequestMessage}
use Rattle.sva_model.specs.Message.Message.{InvalidatedMessage, PageRequestMessage, MarkerMessage, ResetDoneMessage}
use Rattle.sva_model.specs.State.{PasidState}
use Rattle.sva_model.specs.State.PasidState.{Off, On, Ending}
use Rattle.sva_model.specs.States.{Extent}
use Rattle.sva_model.specs.States.Extent.{Pages, AllPages}
use Rattle.sva_model.specs.Unmappings.{in_range, range_at}
use Rattle.sva_model.specs.StateChanges.{disables, scope_of, stale_if, sent_as, count_field}
use Rattle.sva_model.specs.Labels
use Rattle.sva_model.specs.Wire.{Wire, SpaceWire, PageWire, PlaceWire, TargetWire, BindingWire, StageWire, EndpointWire, DeviceWire, UnitWire, RequestWire}
use Rattle.sva_model.specs.Wire.{TranslationWire, UseWire, TakenWire, GroupWire, BusyWire, Descriptor, PageRequestWire, HostGroupWire, JobWire, insert_by}
use Rattle.sva_model.specs.Wire.{is_lower_page, is_before}
use Rattle.sva_model.specs.Wire.PlaceWire.{FreeWire, MappedWire, WithheldWire}
use Rattle.sva_model.specs.Wire.TargetWire.{Cookie, ResetEnd}
use Rattle.sva_model.specs.Wire.StageWire.{LiveWire, StoppingWire, DrainingWire, InvalidatingWire, QuietWire, LostWire}
use Rattle.sva_model.specs.Wire.UseWire.{RunningWire, DeadWire}
use Rattle.sva_model.specs.Wire.BusyWire.{Fresh, Counting}
use Rattle.sva_model.specs.Wire.Descriptor.{RangeDescriptor, PasidDescriptor, WaitDescriptor}
use Rattle.sva_labels.specs.Finding.{pages_in, bound_at, part_of, device_of, unit_of, is_wait_done, submits, is_at_page, covers}

-- A change of what a host keeps, by numbers and labels: that of one act of the definitions. `Ignore` is also that of a page request which
-- a reset loses (`Miss`).
pub data Move : Type 0 where
  -- spaces and frames
  NewSpace : Move
  DropSpace : (space : ℕ) → Move
  Map : (space page frame : ℕ) (write : Bool) → Move
  -- the pages of `count` ranges of 2^order pages, one behind another, from `page` on
  Unmap : (space page count order : ℕ) → Move
  -- bindings
  NewBinding : Move
  Bind : (endpoint space binding pasid : ℕ) → Move
  Stop : (endpoint binding pasid : ℕ) → Move
  Drain : (endpoint binding : ℕ) → Move
  Invalidate : (endpoint binding pasid : ℕ) → Move
  Quieten : (binding : ℕ) → Move
  Release : (binding : ℕ) → Move
  -- the unit
  Send : (endpoint itag pasid : ℕ) (extent : Extent) → Move
  Pass : (endpoint cookie : ℕ) → Move
  File : (endpoint binding : ℕ) (request : PageRequestWire) → Move
  NewJob : (job : JobWire) → Move
  Reset : (endpoint : ℕ) → Move
  -- jobs and hands
  Hand : Move
  Hold : (worker : ℕ) (job : JobWire) → Move
  LetGo : (worker : ℕ) → Move
  Respond : (job : JobWire) (pasid : ℕ) (code : Code) → Move
  Discard : Move
  -- the endpoint
  Ask : (endpoint pasid page tag : ℕ) → Move
  Begin : (endpoint slot : ℕ) (translation : TranslationWire) → Move
  End : (endpoint slot : ℕ) → Move
  Evict : (endpoint pasid page : ℕ) → Move
  Group : (endpoint pasid index page : ℕ) (read write last : Bool) → Move
  Request : (endpoint pasid index page : ℕ) (read write last : Bool) → Move
  Finish : (endpoint vector count : ℕ) → Move
  Quit : (endpoint pasid : ℕ) → Move
  -- deliveries, each of a message in flight
  StartArrives : (endpoint message pasid : ℕ) → Move
  StopArrives : (endpoint message pasid : ℕ) → Move
  ResetArrives : (endpoint message : ℕ) → Move
  Keep : (endpoint message tag : ℕ) (translation : TranslationWire) → Move
  Forget : (endpoint message tag : ℕ) → Move
  Take : (endpoint message itag pasid : ℕ) (extent : Extent) → Move
  Answered : (endpoint message index : ℕ) (code : Code) → Move
  Complete : (endpoint message : ℕ) (answer : Message) → Move
  Count : (endpoint message vector count : ℕ) → Move
  Arrive : (endpoint message : ℕ) (request : PageRequestWire) → Move
  Mark : (endpoint message binding : ℕ) → Move
  Ignore : (message : ℕ) → Move
  Reopen : (endpoint message : ℕ) → Move

-- Changes of one keeper's part.

-- what a host keeps, with this at an endpoint and its unit
abbrev pub with_part : Wire → (endpoint : ℕ) → EndpointWire → Wire
with_part wire endpoint part = record wire { parts = slice_set wire.parts endpoint part }

-- what a host keeps, with this as what the endpoint keeps itself
abbrev pub with_device : Wire → (endpoint : ℕ) → DeviceWire → Wire
with_device wire endpoint device = with_part wire endpoint (record (part_of wire endpoint) { device = device })

-- what a host keeps, with this as the endpoint's unit, but for its page request queue and the groups that are open at the host
abbrev pub with_unit : Wire → (endpoint : ℕ) → UnitWire → Wire
with_unit wire endpoint unit = with_part wire endpoint (record (part_of wire endpoint) { unit = unit })

-- Spaces, frames.

-- the spaces with other pages in that of a number
abbrev pub with_pages : List SpaceWire → (number : ℕ) → (List PageWire → List PageWire) → List SpaceWire
with_pages [] number change = []
with_pages (space ∷ spaces) number change =
    (if space.number == number then record space { pages = change space.pages } else space) ∷ with_pages spaces number change

-- the live spaces once that of a number is dropped
abbrev pub without_space : (number : ℕ) → List SpaceWire → List SpaceWire
without_space number spaces = filter (λ space. not (space.number == number)) spaces

-- the pages in a row, and those that are not
abbrev pub is_between : (page count : ℕ) → PageWire → Bool
is_between page count entry = in_range page count entry.page

-- the pages that an unmapping of pages in a row leaves in a space
abbrev pub without_pages : (page count : ℕ) → List PageWire → List PageWire
without_pages page count pages = filter (λ entry. not (is_between page count entry)) pages

-- the places of frames once these are somewhere else
abbrev pub placed : PlaceWire → List PageWire → List PlaceWire → List PlaceWire
placed place [] places = places
placed place (entry ∷ pages) places = placed place pages (slice_set places entry.frame place)

-- where a frame is that waits for these: it is free where none is left
abbrev pub place_for : List (Option TargetWire) → PlaceWire
place_for targets = if list_all is_none targets then FreeWire else WithheldWire targets

-- what is settled at a unit: a wait by its cookie; or all that waits there
abbrev pub settled_cookie : (cookie : ℕ) → Option TargetWire → Option TargetWire
settled_cookie cookie (Some (Cookie awaited)) = if awaited == cookie then None else Some (Cookie awaited)
settled_cookie cookie target = target

-- where a frame is, once that is settled at a unit: free, if it waits for nothing else
abbrev pub settled_at : (endpoint : ℕ) → (Option TargetWire → Option TargetWire) → PlaceWire → PlaceWire
settled_at endpoint settle (WithheldWire targets) = place_for (slice_set targets endpoint (settle (slice_index_or targets endpoint None)))
settled_at endpoint settle place = place

-- where the frames are, once a wait of the endpoint's unit is done, or its reset has ended
abbrev pub settled : (endpoint : ℕ) → (Option TargetWire → Option TargetWire) → List PlaceWire → List PlaceWire
settled endpoint settle places = map (settled_at endpoint settle) places

-- Unmapping. What the frames wait for at a unit, by the binding of their space there: `cookie` is that of the wait which the
-- unit gets where it is open and the binding Live, Stopping or Draining.
abbrev pub target_by_stage : UnitWire → (cookie : ℕ) → StageWire → Option TargetWire
target_by_stage unit cookie (InvalidatingWire own) =
    if is_wait_done unit own then None else Some (if unit.is_open then Cookie own else ResetEnd)
target_by_stage unit cookie QuietWire = None
target_by_stage unit cookie LostWire = None
target_by_stage unit cookie stage = Some (if unit.is_open then Cookie cookie else ResetEnd)

-- what the frames wait for at a unit: nothing, where their space isn't bound there
abbrev pub target_by : UnitWire → (cookie : ℕ) → Option BindingWire → Option TargetWire
target_by unit cookie None = None
target_by unit cookie (Some binding) = target_by_stage unit cookie binding.stage

-- the cookies are given out in rising order of units
abbrev pub cookie_at : Wire → (space endpoint : ℕ) → ℕ
cookie_at wire space endpoint = wire.next_cookie + count_below endpoint (submits wire space)

-- what all frames of one unmapping wait for, at each of the eight units that there may be
abbrev pub targets_of : Wire → (space : ℕ) → List (Option TargetWire)
targets_of wire space =
    tabulate Limits.most_endpoints
    (λ endpoint. if nat_lt endpoint (length wire.parts)
    then target_by (unit_of wire endpoint) (cookie_at wire space endpoint) (bound_at wire endpoint space)
    else None)

-- the invalidations of ranges, one behind another, and the wait behind them
abbrev pub descriptors_for : (pasid page count order cookie : ℕ) → List Descriptor
descriptors_for pasid page count order cookie =
    tabulate count (λ number. RangeDescriptor pasid (range_at page order number)) ++ WaitDescriptor cookie false ∷ []

-- the unit once these are submitted, the last of them a wait with this cookie
abbrev pub with_descriptors : UnitWire → List Descriptor → (cookie : ℕ) → UnitWire
with_descriptors unit descriptors cookie = record unit { queue = unit.queue ++ descriptors; waits_end = suc cookie }

-- the PASID that the binding bears; 0, which is given to none, where there is no binding
abbrev pub pasid_or_0 : Option BindingWire → ℕ
pasid_or_0 None = 0
pasid_or_0 (Some binding) = binding.pasid

-- an endpoint with its unit after an unmapping: the invalidations and their wait are in the queue, if it gets them
abbrev pub part_unmapped : Wire → (space page count order endpoint : ℕ) → EndpointWire
part_unmapped wire space page count order endpoint =
    if submits wire space endpoint
    then record (part_of wire endpoint) {
      unit =
          with_descriptors
          (unit_of wire endpoint)
          (descriptors_for (pasid_or_0 (bound_at wire endpoint space)) page count order (cookie_at wire space endpoint))
          (cookie_at wire space endpoint);
    }
    else part_of wire endpoint

-- what a host keeps after an unmapping: the pages are out of the space, and their frames free or withheld
abbrev pub unmapped : Wire → (space page count order : ℕ) → Wire
unmapped wire space page count order =
    record wire {
      spaces = with_pages wire.spaces space (without_pages page (count * 2 ^ order));
      places = placed (place_for (targets_of wire space)) (filter (is_between page (count * 2 ^ order)) (pages_in wire space)) wire.places;
      parts = tabulate (length wire.parts) (part_unmapped wire space page count order);
      next_cookie = wire.next_cookie + count_below (length wire.parts) (submits wire space);
    }

-- Bindings.

-- the bindings once that of a number has come to this stage
abbrev pub with_stage : (binding : ℕ) → StageWire → List BindingWire → List BindingWire
with_stage number stage bindings = map (λ (binding : BindingWire). if binding.binding == number then record binding { stage = stage } else binding) bindings

-- the bindings once that of a number is released
abbrev pub without_binding : (binding : ℕ) → List BindingWire → List BindingWire
without_binding number bindings = filter (λ binding. not (binding.binding == number)) bindings

-- a reset-done cuts off the bindings of its endpoint
abbrev pub cut_off : StageWire → StageWire
cut_off LiveWire = LostWire
cut_off LostWire = LostWire
cut_off stage = QuietWire

-- the bindings after a reset-done of an endpoint; those of the others stay as they are
abbrev pub cut_off_at : (endpoint : ℕ) → List BindingWire → List BindingWire
cut_off_at endpoint bindings =
    map (λ (binding : BindingWire). if binding.endpoint == endpoint then record binding { stage = cut_off binding.stage } else binding) bindings

-- Messages in flight.

-- what a host keeps once a message is in flight, to or from the endpoint, under the next number
abbrev pub sent : (endpoint : ℕ) → Message → Wire → Wire
sent endpoint message wire =
    record wire {
      in_flight = wire.in_flight ++ record { number = wire.next_message; endpoint = endpoint; message = message } ∷ [];
      next_message = wire.next_message + 1;
    }

-- several copies
abbrev pub sent_copies : (count endpoint : ℕ) → Message → Wire → Wire
sent_copies count endpoint message wire =
    record wire {
      in_flight = wire.in_flight ++ tabulate count (λ copy. record { number = wire.next_message + copy; endpoint = endpoint; message = message });
      next_message = wire.next_message + count;
    }

-- what a host keeps once the message of a number has left the link
abbrev pub delivered : (message : ℕ) → Wire → Wire
delivered number wire = record wire { in_flight = filter (λ flight. not (flight.number == number)) wire.in_flight }

-- The endpoint.

-- the endpoint with a PASID off, on or told to stop; 0 is no PASID
abbrev pub with_pasid : (pasid : ℕ) → PasidState → DeviceWire → DeviceWire
with_pasid zero state device = device
with_pasid (suc place) state device = record device { pasids = slice_set device.pasids place state }

-- the endpoint once a translation request is over, and its tag free
abbrev pub without_tag : (tag : ℕ) → DeviceWire → DeviceWire
without_tag tag device = record device { tags = slice_set device.tags tag None }

-- the translation in place of an older one of its PASID and page
abbrev pub kept : TranslationWire → List TranslationWire → List TranslationWire
kept translation cache = insert_by is_before translation (filter (λ older. not (is_at_page translation.pasid translation.page older)) cache)

-- a translation request that is out, once an invalidation is taken: doomed where that, or one before, covers its page (this project's own;
-- PCI Express Base 5.0, section 10.3, leaves several ways to a function)
abbrev pub doomed : (pasid : ℕ) → Extent → Option RequestWire → Option RequestWire
doomed pasid extent None = None
doomed pasid extent (Some request) = Some (record request { is_doomed = request.is_doomed || covers pasid extent request.pasid request.page })

-- the use slots that an invalidation notes: those of running uses that it covers
abbrev pub is_noted : (pasid : ℕ) → Extent → Option UseWire → Bool
is_noted pasid extent (Some (RunningWire translation)) = covers pasid extent translation.pasid translation.page
is_noted pasid extent _ = false

-- what is kept of an invalidation is its range, read from the code
abbrev pub extent_or_all : Option Range → Extent
extent_or_all None = AllPages
extent_or_all (Some range) = Pages range

-- the pages that an Invalidate Request is of (PCI Express Base 5.0, section 10.3.1): all of its PASID, unless its code names a range here
abbrev pub extent_in : Scope → Extent
extent_in (Coded code) = extent_or_all (decode code)
extent_in Everything = AllPages

-- the endpoint once it has taken an invalidation: what this covers isn't cached any more, each request that is out for it is doomed, and
-- its running uses are noted
abbrev pub taking : (itag pasid : ℕ) → Extent → DeviceWire → DeviceWire
taking itag pasid extent device =
    record device {
      taken = slice_set device.taken itag (Some (record { pasid = pasid; extent = extent; slots = map (is_noted pasid extent) device.slots }));
      cache = filter (λ translation. not (covers pasid extent translation.pasid translation.page)) device.cache;
      tags = map (doomed pasid extent) device.tags;
    }

-- an invalidation that the endpoint has taken, once the use of a slot has ended: it waits for that no more
abbrev pub unnoted : (slot : ℕ) → Option TakenWire → Option TakenWire
unnoted slot None = None
unnoted slot (Some taken) = Some (record taken { slots = slice_set taken.slots slot false })

-- the endpoint once the use of a slot has ended: the slot is free, and no invalidation waits for it
abbrev pub ended : (slot : ℕ) → DeviceWire → DeviceWire
ended slot device = record device { slots = slice_set device.slots slot None; taken = map (unnoted slot) device.taken }

-- a group at its endpoint with one page request more, by whether that is its last
abbrev pub with_request : Bool → Option GroupWire → Option GroupWire
with_request last None = None
with_request last (Some group) = Some (record group { state = sent_as last; requests = suc group.requests })

-- the endpoint with one page request more in the group of an index
abbrev pub requested : (index : ℕ) → Bool → DeviceWire → DeviceWire
requested index last device = record device { groups = slice_set device.groups index (with_request last (slice_index_or device.groups index None)) }

-- a group once a PASID is quit: stale, where it is of that PASID and awaits its response
abbrev pub stale_of : (pasid : ℕ) → Option GroupWire → Option GroupWire
stale_of pasid None = None
stale_of pasid (Some group) = Some (record group { state = stale_if (group.pasid == pasid) group.state })

-- a use once the endpoint has reset itself: it is dead, and keeps its slot until its end
abbrev pub killed : Option UseWire → Option UseWire
killed None = None
killed (Some running) = Some DeadWire

-- after its own reset
abbrev pub cleared : DeviceWire → DeviceWire
cleared device =
    record {
      pasids = map (λ state. Off) device.pasids;
      tags = map (λ tag. None) device.tags;
      cache = [];
      slots = map killed device.slots;
      taken = map (λ taken. None) device.taken;
      groups = map (λ group. None) device.groups;
      is_disabled = false;
    }

-- The unit.

-- an ITag after one completion more of so many; the first fixes the count
abbrev pub counting : (count arrived : ℕ) → Option BusyWire
counting count arrived = if arrived == count then None else Some (Counting count arrived)

-- an ITag that a completion names: free once all of them have come (PCI Express Base 5.0, section 10.3.3); one that isn't busy stays free
abbrev pub one_more : (count : ℕ) → Option BusyWire → Option BusyWire
one_more count None = None
one_more count (Some Fresh) = counting count 1
one_more count (Some (Counting fixed arrived)) = counting fixed (suc arrived)

-- the ITags of a unit after a completion: it counts for each that its vector names (PCI Express Base 5.0, section 10.3.2)
abbrev pub completed : (vector count : ℕ) → List (Option BusyWire) → List (Option BusyWire)
completed vector count busy =
    tabulate Limits.itags (λ itag. if Labels.is_set vector itag then one_more count (slice_index_or busy itag None) else slice_index_or busy itag None)

-- what the endpoint has taken and not finished, once it has finished the invalidations that the vector names
abbrev pub without_named : (vector : ℕ) → List (Option TakenWire) → List (Option TakenWire)
without_named vector taken = tabulate Limits.itags (λ itag. if Labels.is_set vector itag then None else slice_index_or taken itag None)

-- is it the group of this binding and index, of which the last page request isn't filed yet?
abbrev pub is_begun : (binding index : ℕ) → HostGroupWire → Bool
is_begun binding index group = group.binding == binding && group.index == index && not group.is_whole

-- the groups that are open at the host, with one request more: in the group of its binding and index that isn't whole, or in
-- a new one
abbrev pub filed : (binding : ℕ) → PageRequestWire → List HostGroupWire → List HostGroupWire
filed binding request [] = record { binding = binding; index = request.index; asks = request.ask ∷ []; is_whole = request.last } ∷ []
filed binding request (group ∷ groups) =
    if is_begun binding request.index group
    then record group { asks = group.asks ++ request.ask ∷ []; is_whole = request.last } ∷ groups
    else group ∷ filed binding request groups

-- is it the group of the job? Once that is answered, the group isn't open at the host any more.
abbrev pub is_of_job : JobWire → HostGroupWire → Bool
is_of_job job group = group.binding == job.binding && group.index == job.index

-- The moves.

-- what a host keeps after a move
abbrev pub moved : Wire → Move → Wire
moved wire NewSpace = record wire { spaces = wire.spaces ++ record { number = wire.next_space; pages = [] } ∷ []; next_space = wire.next_space + 1 }
moved wire (DropSpace space) = record wire { spaces = without_space space wire.spaces; places = placed FreeWire (pages_in wire space) wire.places }
moved wire (Map space page frame write) =
    record wire {
      spaces = with_pages wire.spaces space (insert_by is_lower_page (record { page = page; frame = frame; write = write }));
      places = slice_set wire.places frame MappedWire;
    }
moved wire (Unmap space page count order) = unmapped wire space page count order
moved wire NewBinding = record wire { next_binding = wire.next_binding + 1 }
moved wire (Bind endpoint space binding pasid) =
    sent endpoint (StartMessage pasid)
    (record wire {
      bindings = wire.bindings ++ record { endpoint = endpoint; space = space; binding = binding; pasid = pasid; stage = LiveWire } ∷ [];
    })
moved wire (Stop endpoint binding pasid) = sent endpoint (StopMessage pasid) (record wire { bindings = with_stage binding (StoppingWire false) wire.bindings })
moved wire (Drain endpoint binding) =
    record (with_unit wire endpoint (with_descriptors (unit_of wire endpoint) (WaitDescriptor wire.next_cookie true ∷ []) wire.next_cookie)) {
      bindings = with_stage binding (DrainingWire wire.next_cookie) wire.bindings;
      next_cookie = wire.next_cookie + 1;
    }
moved wire (Invalidate endpoint binding pasid) =
    record (with_unit wire endpoint
    (with_descriptors (unit_of wire endpoint) (PasidDescriptor pasid ∷ WaitDescriptor wire.next_cookie false ∷ []) wire.next_cookie)) {
      bindings = with_stage binding (InvalidatingWire wire.next_cookie) wire.bindings;
      next_cookie = wire.next_cookie + 1;
    }
moved wire (Quieten binding) = record wire { bindings = with_stage binding QuietWire wire.bindings }
moved wire (Release binding) = record wire { bindings = without_binding binding wire.bindings }
moved wire (Send endpoint itag pasid extent) =
    sent endpoint (InvalidateMessage itag pasid (scope_of extent))
    (with_unit wire endpoint
    (record (unit_of wire endpoint) { queue = drop 1 (unit_of wire endpoint).queue; busy = slice_set (unit_of wire endpoint).busy itag (Some Fresh) }))
moved wire (Pass endpoint cookie) =
    record (with_unit wire endpoint (record (unit_of wire endpoint) { queue = drop 1 (unit_of wire endpoint).queue; front = suc cookie })) {
      places = settled endpoint (settled_cookie cookie) wire.places;
    }
moved wire (File endpoint binding request) =
    with_part wire endpoint (record (part_of wire endpoint) {
      page_queue = drop 1 (part_of wire endpoint).page_queue;
      host_groups = filed binding request (part_of wire endpoint).host_groups;
    })
moved wire (NewJob job) = record wire { jobs = wire.jobs ++ job ∷ [] }
moved wire (Reset endpoint) =
    sent endpoint ResetMessage
    (record (with_part wire endpoint
    (record (part_of wire endpoint) { unit = record (unit_of wire endpoint) { is_open = false; queue = [] }; page_queue = []; host_groups = [] })) {
      jobs = filter (λ job. not (job.endpoint == endpoint)) wire.jobs;
    })
moved wire Hand = record wire { jobs = drop 1 wire.jobs }
moved wire (Hold worker job) = record wire { hands = slice_set wire.hands worker (Some job) }
moved wire (LetGo worker) = record wire { hands = slice_set wire.hands worker None }
moved wire (Respond job pasid code) =
    sent job.endpoint (ResponseMessage pasid job.index code)
    (with_part wire job.endpoint
    (record (part_of wire job.endpoint) { host_groups = filter (λ group. not (is_of_job job group)) (part_of wire job.endpoint).host_groups }))
moved wire Discard = wire
moved wire (Ask endpoint pasid page tag) =
    sent endpoint (RequestMessage tag pasid page)
    (with_device wire endpoint (record (device_of wire endpoint) {
      tags = slice_set (device_of wire endpoint).tags tag (Some (record { pasid = pasid; page = page; is_doomed = false }));
    }))
moved wire (Begin endpoint slot translation) =
    with_device wire endpoint (record (device_of wire endpoint) { slots = slice_set (device_of wire endpoint).slots slot (Some (RunningWire translation)) })
moved wire (End endpoint slot) = with_device wire endpoint (ended slot (device_of wire endpoint))
moved wire (Evict endpoint pasid page) =
    with_device wire endpoint
    (record (device_of wire endpoint) { cache = filter (λ translation. not (is_at_page pasid page translation)) (device_of wire endpoint).cache })
moved wire (Group endpoint pasid index page read write last) =
    sent endpoint (PageRequestMessage pasid index page read write last)
    (with_device wire endpoint (record (device_of wire endpoint) {
      groups = slice_set (device_of wire endpoint).groups index (Some (record { pasid = pasid; state = sent_as last; requests = 1 }));
    }))
moved wire (Request endpoint pasid index page read write last) =
    sent endpoint (PageRequestMessage pasid index page read write last) (with_device wire endpoint (requested index last (device_of wire endpoint)))
moved wire (Finish endpoint vector count) =
    sent_copies count endpoint (InvalidatedMessage vector (count_field count))
    (with_device wire endpoint (record (device_of wire endpoint) { taken = without_named vector (device_of wire endpoint).taken }))
moved wire (Quit endpoint pasid) =
    sent endpoint (MarkerMessage pasid)
    (with_device wire endpoint (with_pasid pasid Off (record (device_of wire endpoint) { groups = map (stale_of pasid) (device_of wire endpoint).groups })))
moved wire (StartArrives endpoint message pasid) = delivered message (with_device wire endpoint (with_pasid pasid On (device_of wire endpoint)))
moved wire (StopArrives endpoint message pasid) = delivered message (with_device wire endpoint (with_pasid pasid Ending (device_of wire endpoint)))
moved wire (ResetArrives endpoint message) = sent endpoint ResetDoneMessage (delivered message (with_device wire endpoint (cleared (device_of wire endpoint))))
moved wire (Keep endpoint message tag translation) =
    delivered message
    (with_device wire endpoint (without_tag tag (record (device_of wire endpoint) { cache = kept translation (device_of wire endpoint).cache })))
moved wire (Forget endpoint message tag) = delivered message (with_device wire endpoint (without_tag tag (device_of wire endpoint)))
moved wire (Take endpoint message itag pasid extent) = delivered message (with_device wire endpoint (taking itag pasid extent (device_of wire endpoint)))
moved wire (Answered endpoint message index code) =
    delivered message
    (with_device wire endpoint (record (device_of wire endpoint) {
      groups = slice_set (device_of wire endpoint).groups index None;
      is_disabled =
          (device_of wire endpoint).is_disabled || disables code;
    }))
moved wire (Complete endpoint message answer) = sent endpoint answer (delivered message wire)
moved wire (Count endpoint message vector count) =
    delivered message (with_unit wire endpoint (record (unit_of wire endpoint) { busy = completed vector count (unit_of wire endpoint).busy }))
moved wire (Arrive endpoint message request) =
    delivered message (with_part wire endpoint (record (part_of wire endpoint) { page_queue = (part_of wire endpoint).page_queue ++ request ∷ [] }))
moved wire (Mark endpoint message binding) = delivered message (record wire { bindings = with_stage binding (StoppingWire true) wire.bindings })
moved wire (Ignore message) = delivered message wire
moved wire (Reopen endpoint message) =
    delivered message
    (record (with_unit wire endpoint
    (record (unit_of wire endpoint) { is_open = true; busy = map (λ tag. None) (unit_of wire endpoint).busy; front = (unit_of wire endpoint).waits_end })) {
      bindings = cut_off_at endpoint wire.bindings;
      places = settled endpoint (λ target. None) wire.places;
    })

-- what a host keeps after moves, one after another
abbrev pub all_moved : Wire → List Move → Wire
all_moved wire [] = wire
all_moved wire (move ∷ moves) = all_moved (moved wire move) moves
