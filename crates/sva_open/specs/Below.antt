-- Endpoints below one unit: its queues are theirs together. Each endpoint's part has what the endpoint sees of its unit, and those
-- below one unit see the same.
use Rattle.std.specs.Prelude.{ℕ, ◌==◌, ◌&&◌, not, if◌then◌else◌, Bool, true, false, List, [], ◌∷◌, map, slice_get, Option, Some, None, option_map}
use Rattle.std.specs.List.{list_any}
use Rattle.sva_open.specs.declared.acts.LocalAct.{LocalAct}
use Rattle.sva_open.specs.declared.acts.LocalAct.TheVariants as local
use Rattle.sva_open.specs.declared.descriptors.Arrived.{Arrived}
use Rattle.sva_open.specs.declared.descriptors.Descriptor.{Descriptor}
use Rattle.sva_open.specs.declared.descriptors.Descriptor.TheVariants as descriptor
use Rattle.sva_open.specs.declared.descriptors.Received.{Received}
use Rattle.sva_open.specs.declared.descriptors.Received.TheVariants.{Request as Asked, Drain}
use Rattle.sva_open.specs.World.{Open, Part, without_covered}
use Rattle.sva_open.specs.Host.{is_whole_under}
use Rattle.sva_open.specs.Units.{without_entry}

-- ---- which stand below one unit

abbrev pub is_one : Option ℕ → Option ℕ → Bool
is_one None other = false
is_one (Some unit) None = false
is_one (Some unit) (Some other) = unit == other

-- Does another endpoint stand below the unit of an endpoint?
abbrev pub is_beside : (units : List ℕ) → (endpoint other : ℕ) → Bool
is_beside units endpoint other = not (other == endpoint) && is_one (slice_get units endpoint) (slice_get units other)

-- ---- at which of them something is done

-- What a unit does it does at the endpoint that it is about: whose translations strikes what it takes from its queue, or who sent the
-- oldest page request, in the page request queue or received.
abbrev pub named_or : (endpoint : ℕ) → Option ℕ → ℕ
named_or endpoint None = endpoint
named_or endpoint (Some own) = own

abbrev pub of_descriptor : (endpoint : ℕ) → Option Descriptor → ℕ
of_descriptor endpoint None = endpoint
of_descriptor endpoint (Some (descriptor.Device own scope)) = own
of_descriptor endpoint (Some (descriptor.Translations own scope)) = named_or endpoint own
of_descriptor endpoint (Some (descriptor.Entry own pasid)) = named_or endpoint own
of_descriptor endpoint (Some (descriptor.Wait name drain fence)) = endpoint
of_descriptor endpoint (Some (descriptor.Out itag)) = endpoint

abbrev pub of_arrived : (endpoint : ℕ) → Option Arrived → ℕ
of_arrived endpoint None = endpoint
of_arrived endpoint (Some one) = one.endpoint

abbrev pub of_received : (endpoint : ℕ) → Option Received → ℕ
of_received endpoint None = endpoint
of_received endpoint (Some (Drain name)) = endpoint
of_received endpoint (Some (Asked one)) = one.endpoint

-- What of the unit is an act about?
pub data Matter : Type 0 where
  OwnEndpoint : Matter
  Standing : (place : ℕ) → Matter
  Oldest : Matter
  OldestReceived : Matter

abbrev pub matter_of : LocalAct → Matter
matter_of local.Pump = Standing 0
matter_of (local.PumpAt place) = Standing place
matter_of local.Serve = Oldest
matter_of local.Write = OldestReceived
matter_of its = OwnEndpoint

abbrev pub about_part : (endpoint : ℕ) → Matter → Part → ℕ
about_part endpoint OwnEndpoint part = endpoint
about_part endpoint (Standing place) part = of_descriptor endpoint (slice_get part.queue place)
about_part endpoint Oldest part = of_arrived endpoint (slice_get part.arrived 0)
about_part endpoint OldestReceived part = of_received endpoint (slice_get part.received 0)

-- where no units are shared an act is at its own endpoint
abbrev pub about : (units : List ℕ) → (endpoint : ℕ) → LocalAct → Option Part → ℕ
about [] endpoint its part = endpoint
about (unit ∷ units) endpoint its None = endpoint
about (unit ∷ units) endpoint its (Some part) = about_part endpoint (matter_of its) part

-- ---- what the others see of it

-- an endpoint, with its unit as another one sees it
abbrev pub seen : (by other : Part) → Part
seen by other =
    record other {
      is_open = by.is_open;
      queue = by.queue;
      issued = by.issued;
      aborted = by.aborted;
      is_stalled = by.is_stalled;
      has_overflowed = by.has_overflowed;
      received = by.received;
      arrived = by.arrived;
    }

-- An invalidation of what the unit keeps strikes what it keeps of each endpoint, unless it names one (Intel VT-d, "IOTLB Invalidate"
-- and "PASID-cache Invalidate": by domain and PASID).
abbrev pub struck : Option Descriptor → Part → Part
struck (Some (descriptor.Translations None scope)) part = record part { kept = without_covered scope part.kept }
struck (Some (descriptor.Entry None pasid)) part = record part { kept_entries = without_entry pasid part.kept_entries }
struck _ part = part

-- a unit that is closed has no groups filed
abbrev pub closes : LocalAct → Bool
closes local.Close = true
closes its = false

abbrev pub unfiled : Bool → Part → Part
unfiled true part = record part { filed = [] }
unfiled false part = part

-- the place in the queue that an act is about
abbrev pub place_of : LocalAct → ℕ
place_of (local.PumpAt place) = place
place_of its = 0

-- what a unit takes by an act, of what stood at that place before
abbrev pub taken_by : LocalAct → Option Descriptor → Option Descriptor
taken_by local.Pump head = head
taken_by (local.PumpAt place) head = head
taken_by its head = None

-- what an act leaves of another endpoint, by what stood at that place of the queue before
abbrev pub left : LocalAct → (head : Option Descriptor) → (after other : Part) → Part
left its head after other = unfiled (closes its) (struck (taken_by its head) (seen after other))

abbrev pub left_at : (units : List ℕ) → (endpoint : ℕ) → LocalAct → (head : Option Descriptor) → (after other : Part) → Part
left_at units endpoint its head after other = if is_beside units endpoint other.endpoint then left its head after other else other

-- acts that change what endpoints below one unit see of it
abbrev pub is_of_unit : LocalAct → Bool
is_of_unit (local.Submit descriptors) = true
is_of_unit local.Close = true
is_of_unit local.Reopen = true
is_of_unit local.Skip = true
is_of_unit local.Resume = true
is_of_unit local.Serve = true
is_of_unit local.Pump = true
is_of_unit (local.PumpAt place) = true
is_of_unit (local.Expire itag silent) = true
is_of_unit local.Write = true
is_of_unit (local.Deliver place) = true
is_of_unit its = false

abbrev pub told : (units : List ℕ) → (endpoint : ℕ) → LocalAct → (head : Option Descriptor) → (after : Option Part) → List Part → List Part
told units endpoint its head None parts = parts
told units endpoint its head (Some after) parts = map (left_at units endpoint its head after) parts

abbrev pub with_told : (units : List ℕ) → (endpoint : ℕ) → LocalAct → (head : Option Descriptor) → Open → Open
with_told units endpoint its head next = record next { parts = told units endpoint its head (slice_get next.parts endpoint) next.parts }

-- to wait for all groups is to wait for those of each endpoint
abbrev pub awaits_all : LocalAct → Bool
awaits_all (local.AwaitGroups None) = true
awaits_all its = false

abbrev pub holds_up : (units : List ℕ) → (endpoint : ℕ) → Part → Bool
holds_up units endpoint other = is_beside units endpoint other.endpoint && list_any (is_whole_under None) other.filed

-- what stands at the place that an act is about, of the queue that an endpoint sees
abbrev pub head_of : LocalAct → Option Part → Option Descriptor
head_of its None = None
head_of its (Some part) = slice_get part.queue (place_of its)

-- an act, by what it leaves of its own endpoint, with what it leaves of the others
abbrev pub shared_by : (units : List ℕ) → (endpoint : ℕ) → LocalAct → (before : List Part) → Option Open → Option Open
shared_by units endpoint its before next =
    if awaits_all its && list_any (holds_up units endpoint) before
    then None
    else (if is_of_unit its then option_map (with_told units endpoint its (head_of its (slice_get before endpoint))) next else next)

-- where no units are shared nobody else sees anything
abbrev pub shared : (units : List ℕ) → (endpoint : ℕ) → LocalAct → (before : List Part) → Option Open → Option Open
shared [] endpoint its before next = next
shared (unit ∷ units) endpoint its before next = shared_by (unit ∷ units) endpoint its before next
