-- What the parts of a snapshot say, as the definitions by labels have it.
use Rattle.std.specs.Prelude.{ℕ, not, List, filter, map, option_map}
use Rattle.sva_model.specs.Wire.{SpaceWire, BindingWire, StageWire, TranslationWire, DeviceWire, UnitWire, HostGroupWire, JobWire, FlightWire, EndpointWire}
use Rattle.sva_model.specs.Wire.StageWire.{LiveWire, StoppingWire, DrainingWire, InvalidatingWire, QuietWire, LostWire}
use Rattle.sva_msg.specs.Seen.{page_request_seen}
use Rattle.sva_prq.specs.Groups.{OpenGroup, is_of_unit}
use Rattle.sva_prq.specs.Job.{ask_seen}
use Rattle.sva_iommu.specs.Seen.{descriptor_seen, busy_seen}
use Rattle.sva_address_spaces.specs.Seen.{pages_seen}
use Rattle.sva_parts_by_labels.specs.Device.{pasid_seen, tag_seen, slot_seen, taken_seen, group_seen as device_group_seen}
use Rattle.sva_parts_by_labels.specs.Flights.{flight_seen}
use Rattle.sva_parts_by_labels.specs.JobTable.{group_seen}
use Rattle.sva_snapshot.specs.declared.spaces.Space.{Space}
use Rattle.sva_snapshot.specs.declared.bindings.Stage.{Stage}
use Rattle.sva_snapshot.specs.declared.bindings.Stage.TheVariants.{Live, Stopping, Draining, Invalidating, Quiet, Lost}
use Rattle.sva_snapshot.specs.declared.bindings.Binding.{Binding}
use Rattle.sva_snapshot.specs.declared.devices.Cached.{Cached}
use Rattle.sva_snapshot.specs.declared.devices.Device.{Device}
use Rattle.sva_snapshot.specs.declared.units.Unit.{Unit}
use Rattle.sva_snapshot.specs.declared.jobs.HostGroup.{HostGroup}
use Rattle.sva_snapshot.specs.declared.jobs.Job.{Job}
use Rattle.sva_snapshot.specs.declared.flights.Flight.{Flight}
use Rattle.sva_snapshot.specs.declared.endpoints.Endpoint.{Endpoint}

-- a live space
abbrev pub space_shown : Space → SpaceWire
space_shown space = record { number = space.number; pages = pages_seen space.pages.items }

-- a stage
abbrev pub stage_shown : Stage → StageWire
stage_shown Live = LiveWire
stage_shown (Stopping marked) = StoppingWire marked
stage_shown (Draining cookie) = DrainingWire cookie
stage_shown (Invalidating cookie) = InvalidatingWire cookie
stage_shown Quiet = QuietWire
stage_shown Lost = LostWire

-- a binding that is not released
abbrev pub binding_shown : Binding → BindingWire
binding_shown binding =
    record {
      endpoint = binding.endpoint;
      space = binding.space;
      binding = binding.binding;
      pasid = binding.pasid;
      stage = stage_shown binding.stage;
    }

-- a cached translation
abbrev pub cached_shown : Cached → TranslationWire
cached_shown cached = record { pasid = cached.pasid; page = cached.page; frame = cached.frame; write = cached.write }

-- a device
abbrev pub device_shown : Device → DeviceWire
device_shown device =
    record {
      pasids = map pasid_seen device.pasids.items;
      tags = map tag_seen device.tags.items;
      cache = map cached_shown device.cache.items;
      slots = map slot_seen device.slots.items;
      taken = map (option_map taken_seen) device.taken.items;
      groups = map device_group_seen device.groups.items;
      is_disabled = not device.is_enabled;
    }

-- an invalidation queue with the ITags
abbrev pub unit_shown : Unit → UnitWire
unit_shown unit =
    record {
      is_open = unit.is_open;
      queue = map descriptor_seen unit.queue.items;
      busy = map (option_map busy_seen) unit.busy.items;
      front = unit.front;
      waits_end = unit.waits_end;
    }

-- an open group of the host
abbrev pub host_group_shown : HostGroup → HostGroupWire
host_group_shown group = record { binding = group.binding; index = group.index; asks = map ask_seen group.asks.items; is_whole = group.is_whole }

-- a job
abbrev pub job_shown : Job → JobWire
job_shown job = record { endpoint = job.endpoint; binding = job.binding; index = job.index; asks = map ask_seen job.asks.items }

-- a message in flight
abbrev pub flight_shown : Flight → FlightWire
flight_shown flight = flight_seen (flight.number, flight.message)

-- an endpoint with its unit
abbrev pub endpoint_shown : Endpoint → EndpointWire
endpoint_shown endpoint =
    record {
      device = device_shown endpoint.device;
      unit = unit_shown endpoint.unit;
      page_queue = map page_request_seen endpoint.page_queue.items;
      host_groups = map host_group_shown endpoint.host_groups.items;
    }

-- those of some groups that are of a unit
abbrev pub own_groups : List OpenGroup → (unit : ℕ) → List HostGroupWire
own_groups groups unit = map group_seen (filter (is_of_unit unit) groups)

-- an endpoint with these groups
abbrev pub part_with : List HostGroupWire → EndpointWire → EndpointWire
part_with groups part = record part { host_groups = groups }
