-- What the parts of a host are seen as, and what holds of them.
use Rattle.std.specs.Prelude.{◌≤◌, None, IsSome, List, [], length, map, replicate, All}
use Rattle.sva_model.specs.Wire.{Wire, EndpointWire}
use Rattle.sva_endpoint.specs.Tables.{fresh}
use Rattle.sva_endpoint.specs.Laws.{IsSound}
use Rattle.sva_pasid.specs.declared.places.TableEntry.{TableEntry}
use Rattle.sva_iommu.specs.Seen.{idle}
use Rattle.sva_parts_by_labels.specs.Device.{device_seen}
use Rattle.sva_parts_by_labels.specs.Bindings.{bindings_seen}
use Rattle.sva_parts_by_labels.specs.Flights.{flights_seen}
use Rattle.sva_host_state.specs.declared.host_state.Port.{Port}
use Rattle.sva_host_state.specs.declared.host_state.HostState.TheInside.{Inside as HostState}

-- an endpoint that does nothing yet, with a unit of which nothing was asked
abbrev pub new_port : Port
new_port = record { device = fresh; unit = idle }

-- no group of page requests is filed yet
abbrev pub part_seen : Port → EndpointWire
part_seen port = record { device = device_seen port.device; unit = port.unit.unit; page_queue = port.unit.page_queue; host_groups = [] }

-- no worker holds a job yet
abbrev pub wire_of : HostState → Wire
wire_of host =
    record {
      spaces = host.address_spaces.spaces;
      places = host.address_spaces.places;
      bindings = bindings_seen host.bindings;
      parts = map part_seen host.ports.items;
      jobs = [];
      hands = replicate host.workers None;
      in_flight = flights_seen host.in_flight;
      next_space = host.address_spaces.next_space;
      next_binding = host.next_binding;
      next_message = host.in_flight.next;
      next_cookie = host.next_cookie;
    }

-- between two steps no stage of a binding is in hand: each stands in its place
abbrev pub AreStaged : List TableEntry → Type 0
AreStaged places = All (λ (place : TableEntry). IsSome place.stage) places

-- what holds of every host: it has no more endpoints than a config may have, their devices are sound, and each binding's stage stands
-- in its place
pub record IsHostState (host : HostState) : Type 0 where
  pub few : length host.ports.items ≤ 8
  pub sound : All (λ (port : Port). IsSound port.device) host.ports.items
  pub staged : AreStaged host.bindings
