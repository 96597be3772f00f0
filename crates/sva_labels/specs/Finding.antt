-- What the numbers and labels of a step find among what a host keeps. Each look-up is of a list; a place of a table is read
-- by its label, and past the table's end there is nothing.
use Rattle.std.specs.Prelude.{ℕ, zero, suc, ◌+◌, Bool, true, false, ◌&&◌, not, ◌==◌, nat_lt, nat_le, if◌then◌else◌, is_some, is_none, Option, Some, None}
use Rattle.std.specs.Prelude.{List, [], ◌∷◌, length, slice_index_or, position}
use Rattle.std.specs.List.{find, list_any}
use Rattle.sva_step.specs.Limits
use Rattle.sva_model.specs.Words.{tabulate}
use Rattle.sva_model.specs.Message.{Message}
use Rattle.sva_model.specs.Message.Message.{StartMessage, StopMessage, ResetMessage, CompletionMessage, InvalidateMessage, ResponseMessage, RequestMessage}
use Rattle.sva_model.specs.Message.Message.{InvalidatedMessage, PageRequestMessage, MarkerMessage, ResetDoneMessage}
use Rattle.sva_model.specs.LinkOrder.{MessageKind, stays_behind}
use Rattle.sva_model.specs.LinkOrder.MessageKind.{StartKind, StopKind, ResetKind, CompletionKind, InvalidateKind, ResponseKind, RequestKind, InvalidatedKind}
use Rattle.sva_model.specs.LinkOrder.MessageKind.{PageRequestKind, MarkerKind, ResetDoneKind}
use Rattle.sva_model.specs.State.{PasidState}
use Rattle.sva_model.specs.State.PasidState.{Off}
use Rattle.sva_model.specs.States.{Extent, is_collecting, is_within}
use Rattle.sva_model.specs.Labels
use Rattle.sva_model.specs.Wire.{Wire, PageWire, PlaceWire, BindingWire, StageWire, EndpointWire, DeviceWire, UnitWire, RequestWire}
use Rattle.sva_model.specs.Wire.{TranslationWire, UseWire, TakenWire, GroupWire, BusyWire, JobWire, FlightWire}
use Rattle.sva_model.specs.Wire.StageWire.{LiveWire, StoppingWire, DrainingWire}
use Rattle.sva_model.specs.Wire.UseWire.{RunningWire}
pub use Rattle.sva_labels.specs.Places.{pages_of, page_at, is_free, lowest_free}

-- Spaces and their pages.

-- is it the number of a live space?
abbrev pub is_space : Wire → (number : ℕ) → Bool
is_space wire number = is_some (pages_of wire.spaces number)

-- the pages that were found; none where there is no such space
abbrev pub or_no_pages : Option (List PageWire) → List PageWire
or_no_pages None = []
or_no_pages (Some pages) = pages

-- the mapped pages of the space of a number
abbrev pub pages_in : Wire → (number : ℕ) → List PageWire
pages_in wire number = or_no_pages (pages_of wire.spaces number)

-- is the page mapped in the space that has these pages?
abbrev pub is_mapped : List PageWire → (page : ℕ) → Bool
is_mapped pages page = is_some (page_at pages page)

-- the frame of a page; 0 where it isn't mapped
abbrev pub frame_or_0 : Option PageWire → ℕ
frame_or_0 None = 0
frame_or_0 (Some entry) = entry.frame

-- the frames of pages in a row, in page order
abbrev pub frames_of : List PageWire → (page count : ℕ) → List ℕ
frames_of pages page count = tabulate count (λ offset. frame_or_0 (page_at pages (page + offset)))

-- Frames.

-- the free frames, lowest first; the first place is that of the given frame
abbrev pub free_from : (frame : ℕ) → List PlaceWire → List ℕ
free_from frame [] = []
free_from frame (place ∷ places) = if is_free place then frame ∷ free_from (suc frame) places else free_from (suc frame) places

-- Bindings.

-- that of a number; that of a space at an endpoint; that which bears a PASID there
abbrev pub binding_of : Wire → (number : ℕ) → Option BindingWire
binding_of wire number = find (λ binding. binding.binding == number) wire.bindings

-- the unreleased binding of a space at an endpoint, of which there is one at most
abbrev pub bound_at : Wire → (endpoint space : ℕ) → Option BindingWire
bound_at wire endpoint space = find (λ binding. binding.endpoint == endpoint && binding.space == space) wire.bindings

-- the unreleased binding that bears a PASID at an endpoint, of which there is one at most
abbrev pub bearer : Wire → (endpoint pasid : ℕ) → Option BindingWire
bearer wire endpoint pasid = find (λ binding. binding.endpoint == endpoint && binding.pasid == pasid) wire.bindings

-- has the space an unreleased binding at any endpoint?
abbrev pub is_bound : Wire → (space : ℕ) → Bool
is_bound wire space = list_any (λ binding. binding.space == space) wire.bindings

-- does an unreleased binding bear the PASID, at any endpoint?
abbrev pub is_borne : Wire → (pasid : ℕ) → Bool
is_borne wire pasid = list_any (λ binding. binding.pasid == pasid) wire.bindings

-- the PASID that a space is given: the one that it bears, else the lowest that no space bears
abbrev pub pasid_by : Wire → Option BindingWire → Option ℕ
pasid_by wire None = Labels.lowest_pasid (λ pasid. not (is_borne wire pasid))
pasid_by wire (Some binding) = Some binding.pasid

-- the PASID that a new binding of the space is given, at whatever endpoint; none where other spaces bear all 32
abbrev pub pasid_for : Wire → (space : ℕ) → Option ℕ
pasid_for wire space = pasid_by wire (find (λ binding. binding.space == space) wire.bindings)

-- is the binding Live: neither told to stop, nor cut off by a reset?
abbrev pub is_live : StageWire → Bool
is_live LiveWire = true
is_live _ = false

-- Live, Stopping or Draining
abbrev pub is_before_invalidating : StageWire → Bool
is_before_invalidating LiveWire = true
is_before_invalidating (StoppingWire marked) = true
is_before_invalidating (DrainingWire cookie) = true
is_before_invalidating _ = false

-- Endpoints with their units.

-- what an endpoint keeps where nothing was ever asked or sent, or all of it is over
abbrev pub idle_device : DeviceWire
idle_device =
    record {
      pasids = tabulate Limits.pasids (λ pasid. Off);
      tags = tabulate Limits.request_tags (λ tag. None);
      cache = [];
      slots = tabulate Limits.use_slots (λ slot. None);
      taken = tabulate Limits.itags (λ itag. None);
      groups = tabulate Limits.groups (λ index. None);
      is_disabled = false;
    }

-- a unit to which nothing was ever submitted: it is open, its queue is empty, each ITag is free, and there was no wait
abbrev pub idle_unit : UnitWire
idle_unit = record { is_open = true; queue = []; busy = tabulate Limits.itags (λ itag. None); front = 0; waits_end = 0 }

-- an endpoint with its unit before the first step, and what is read of one that isn't there
abbrev pub idle : EndpointWire
idle = record { device = idle_device; unit = idle_unit; page_queue = []; host_groups = [] }

-- the endpoint of a number, with its unit
abbrev pub part_of : Wire → (endpoint : ℕ) → EndpointWire
part_of wire endpoint = slice_index_or wire.parts endpoint idle

-- what the endpoint keeps itself: its PASIDs, request tags, cache, uses and groups, and the invalidations that it has taken
abbrev pub device_of : Wire → (endpoint : ℕ) → DeviceWire
device_of wire endpoint = (part_of wire endpoint).device

-- the endpoint's remapping unit, with its invalidation queue and its ITags
abbrev pub unit_of : Wire → (endpoint : ℕ) → UnitWire
unit_of wire endpoint = (part_of wire endpoint).unit

-- a wait is done where its cookie is below the front
abbrev pub is_wait_done : UnitWire → (cookie : ℕ) → Bool
is_wait_done unit cookie = nat_lt cookie unit.front

-- the lowest label that is free, if one is
abbrev pub lowest_label : {A : Type 0} → List (Option A) → Option ℕ
lowest_label table = position is_none table

-- the descriptors fit into the 64 places of the queue
abbrev pub has_room : UnitWire → (descriptors : ℕ) → Bool
has_room unit descriptors = nat_le (length unit.queue + descriptors) Limits.queue_places

-- is an ITag of the unit busy? Then no wait is taken (Intel VT-d, "Invalidation Wait Descriptor").
abbrev pub is_some_busy : UnitWire → Bool
is_some_busy unit = list_any is_some unit.busy

-- does the unit get invalidations and a wait, where pages of a space are taken out?
abbrev pub submits_by : UnitWire → Option BindingWire → Bool
submits_by unit None = false
submits_by unit (Some binding) = unit.is_open && is_before_invalidating binding.stage

-- do the invalidations and the wait go to the unit of this endpoint, where pages of the space are taken out?
abbrev pub submits : Wire → (space endpoint : ℕ) → Bool
submits wire space endpoint = submits_by (unit_of wire endpoint) (bound_at wire endpoint space)

-- has the binding a group that the host has filed in part or whole, and not answered?
abbrev pub has_open_group : EndpointWire → (binding : ℕ) → Bool
has_open_group part binding = list_any (λ group. group.binding == binding) part.host_groups

-- the state of a PASID at the endpoint; one outside 1 to 32 is off
abbrev pub pasid_state : DeviceWire → (pasid : ℕ) → PasidState
pasid_state device zero = Off
pasid_state device (suc place) = slice_index_or device.pasids place Off

-- is it the translation of this page of the PASID?
abbrev pub is_at_page : (pasid page : ℕ) → TranslationWire → Bool
is_at_page pasid page translation = translation.pasid == pasid && translation.page == page

-- the translation that is cached for a page of a PASID
abbrev pub cached : DeviceWire → (pasid page : ℕ) → Option TranslationWire
cached device pasid page = find (is_at_page pasid page) device.cache

-- is a translation request of the PASID out under the tag? A doomed one counts, since its tag is taken until its answer comes.
abbrev pub is_request_of : (pasid : ℕ) → Option RequestWire → Bool
is_request_of pasid None = false
is_request_of pasid (Some request) = request.pasid == pasid

-- does a use of the PASID run in the slot? One that a reset has made dead is of no PASID.
abbrev pub is_use_of : (pasid : ℕ) → Option UseWire → Bool
is_use_of pasid (Some (RunningWire translation)) = translation.pasid == pasid
is_use_of pasid _ = false

-- is the group of the index one of the PASID, and its last page request still to come?
abbrev pub has_unfinished_group : (pasid : ℕ) → Option GroupWire → Bool
has_unfinished_group pasid None = false
has_unfinished_group pasid (Some group) = is_collecting group.state && group.pasid == pasid

-- how many page requests were sent of the group that bears an index; none where the index is free
abbrev pub requests_in : Option GroupWire → ℕ
requests_in None = 0
requests_in (Some group) = group.requests

-- how many page requests are outstanding: those of all groups whose response hasn't come (PCI Express Base 5.0, section 10.5.2)
abbrev pub outstanding : List (Option GroupWire) → ℕ
outstanding [] = 0
outstanding (group ∷ groups) = requests_in group + outstanding groups

-- the group of page requests that bears a group index at the endpoint; a response finds it so (PCI Express Base 5.0, section 10.4.2)
abbrev pub group_at : DeviceWire → (index : ℕ) → Option GroupWire
group_at device index = slice_index_or device.groups index None

-- the use, running or dead, that has a slot of the endpoint
abbrev pub use_at : DeviceWire → (slot : ℕ) → Option UseWire
use_at device slot = slice_index_or device.slots slot None

-- the translation request that bears a request tag; a translation completion finds it so (PCI Express Base 5.0, section 10.2.2)
abbrev pub tag_at : DeviceWire → (tag : ℕ) → Option RequestWire
tag_at device tag = slice_index_or device.tags tag None

-- the invalidation of an ITag that the endpoint has taken, and not finished
abbrev pub taken_at : DeviceWire → (itag : ℕ) → Option TakenWire
taken_at device itag = slice_index_or device.taken itag None

-- of an ITag that is busy at the unit, how many completions have come so far (PCI Express Base 5.0, section 10.3.3)
abbrev pub busy_at : UnitWire → (itag : ℕ) → Option BusyWire
busy_at unit itag = slice_index_or unit.busy itag None

-- does the invalidation wait for a use that it noted?
abbrev pub waits_for_use : Option TakenWire → Bool
waits_for_use None = false
waits_for_use (Some taken) = list_any (λ noted. noted) taken.slots

-- does an invalidation of this PASID and extent cover the page?
abbrev pub covers : (pasid : ℕ) → Extent → (of_pasid page : ℕ) → Bool
covers pasid extent of_pasid page = of_pasid == pasid && is_within extent page

-- Jobs and hands.

-- what a worker holds; one that isn't there holds nothing
abbrev pub held_by : Wire → (worker : ℕ) → Option JobWire
held_by wire worker = slice_index_or wire.hands worker None

-- Messages in flight.

-- the message of a number, if it is in flight
abbrev pub flight_of : Wire → (number : ℕ) → Option FlightWire
flight_of wire number = find (λ flight. flight.number == number) wire.in_flight

-- the kind of a message, as the permitted order of the link reads it
abbrev pub kind_of : Message → MessageKind
kind_of (StartMessage pasid) = StartKind
kind_of (StopMessage pasid) = StopKind
kind_of ResetMessage = ResetKind
kind_of (CompletionMessage tag frame read write) = CompletionKind
kind_of (InvalidateMessage itag pasid scope) = InvalidateKind
kind_of (ResponseMessage pasid index code) = ResponseKind
kind_of (RequestMessage tag pasid page) = RequestKind
kind_of (InvalidatedMessage vector field) = InvalidatedKind
kind_of (PageRequestMessage pasid index page read write last) = PageRequestKind last
kind_of (MarkerMessage pasid) = MarkerKind
kind_of ResetDoneMessage = ResetDoneKind

-- is a message older than another of its endpoint that must stay behind it?
abbrev pub holds_back : FlightWire → FlightWire → Bool
holds_back newer older =
    nat_lt older.number newer.number && older.endpoint == newer.endpoint && stays_behind (kind_of newer.message) (kind_of older.message)

-- may the message be delivered, as no older one of its endpoint holds it back?
abbrev pub may_deliver : Wire → FlightWire → Bool
may_deliver wire flight = not (list_any (holds_back flight) wire.in_flight)
