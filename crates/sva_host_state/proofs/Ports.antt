-- The ports of a host, seen.
use Rattle.std.proofs.Common.{◌≡◌, refl, ap, sym, ◌∙◌, subst, ℕ, zero, suc, ◌<◌, ◌≤◌, true, arith}
use Rattle.std.specs.Prelude.{nat_lt, Ok, List, [], ◌∷◌, map, length, slice_set, slice_index_or, All}
use Rattle.std.specs.Vec.{with_item}
use Rattle.std.proofs.lemmas.List.{map-set, length-map}
use Rattle.std.proofs.lemmas.List.Elements.{All-get_or, All-set}
use Rattle.std.proofs.lemmas.Bool.{ltb-true}
use Rattle.std.proofs.Math.ListN.{length-set}
use Rattle.sva_model.specs.Wire.{Wire, DeviceWire}
use Rattle.sva_labels.specs.Finding.{idle, part_of}
use Rattle.sva_labels.specs.Moves.{with_device}
use Rattle.sva_endpoint.specs.Tables.{Tables}
use Rattle.sva_endpoint.specs.Laws.{IsSound}
use Rattle.sva_host_state.specs.declared.host_state.Port.{Port}
use Rattle.sva_parts_by_labels.specs.Device.{device_seen}
use Rattle.sva_host_state.specs.declared.host_state.HostState.TheInside.{Inside as HostState}
use Rattle.sva_host_state.specs.Steps.{PortFor}
use Rattle.sva_host_state.specs.Inner.{part_seen, wire_of, AreStaged, IsHostState}

abbrev pub AllSound : List Port → Type 0
AllSound ports = All (λ (port : Port). IsSound port.device) ports

pub below : (ports : List Port) (e : ℕ) → nat_lt e (length (map part_seen ports)) ≡ true → e < length ports
below ports e there = ltb-true e (length ports) (ap (nat_lt e) (sym (length-map ports part_seen)) ∙ there)

-- the part at an endpoint is that of its port
pub part_there : (ports : List Port) (e : ℕ) (port : Port) → e < length ports → slice_index_or (map part_seen ports) e idle
    ≡ part_seen (slice_index_or ports e port)
part_there [] e port there = absurd (omega arith)
part_there (p ∷ ports) zero port there = refl
part_there (p ∷ ports) (suc e) port there = part_there ports e port (omega arith)

pub sound_there : (ports : List Port) (e : ℕ) (port : Port) → e < length ports → AllSound ports → IsSound (slice_index_or ports e port).device
sound_there ports e port there all = All-get_or (λ (p : Port). IsSound p.device) ports e port there all

pub sound_set : (ports : List Port) (e : ℕ) (port : Port) → IsSound port.device → AllSound ports → AllSound (slice_set ports e port)
sound_set ports e port sound all = All-set (λ (p : Port). IsSound p.device) ports e port sound all

-- the port of an endpoint of a host
pub record IsPort (host : HostState) (e : ℕ) (port : Port) : Type 0 where
  pub there : nat_lt e (length (wire_of host).parts) ≡ true
  pub part : part_of (wire_of host) e ≡ part_seen port
  pub sound : IsSound port.device

-- a port that was read
pub port_found : (host : HostState) (w : Wire) (e at : ℕ) (port : Port) → IsHostState host → wire_of host ≡ w → PortFor w e (Ok at)
    → port ≡ slice_index_or host.ports.items at port → IsPort host e port
port_found host w e at port h view for same =
    let there = ap (λ (v : Wire). nat_lt e (length v.parts)) view ∙ for.1 in
    let within = below host.ports.items e there in
    let is : port ≡ slice_index_or host.ports.items e port = same ∙ (λ i. slice_index_or host.ports.items (for.0 i) port) in
    record {
      there = there;
      part = part_there host.ports.items e port within ∙ ap part_seen (sym is);
      sound = subst (λ (p : Port). IsSound p.device) (sym is) (sound_there host.ports.items e port within h.sound);
    }

-- what stands at a place is the same, whatever stands for a place that isn't there
pub same_there : (ports : List Port) (e : ℕ) (d f : Port) → e < length ports → slice_index_or ports e d ≡ slice_index_or ports e f
same_there [] e d f there = absurd (omega arith)
same_there (p ∷ ports) zero d f there = refl
same_there (p ∷ ports) (suc e) d f there = same_there ports e d f (omega arith)

-- a port that was read, and then again to be changed
pub same_port : (host : HostState) (w : Wire) (e at : ℕ) (read port : Port) → wire_of host ≡ w → PortFor w e (Ok at)
    → read ≡ slice_index_or host.ports.items at read → port ≡ slice_index_or host.ports.items at port → port ≡ read
same_port host w e at read port view for same other =
    let within = below host.ports.items e (ap (λ (v : Wire). nat_lt e (length v.parts)) view ∙ for.1) in
    other
    ∙ (λ i. slice_index_or host.ports.items (for.0 i) port)
    ∙ same_there host.ports.items e port read within
    ∙ (λ i. slice_index_or host.ports.items (sym for.0 i) read)
    ∙ sym same

-- a port whose device was changed
pub rewritten : (host : HostState) (w : Wire) (e at : ℕ) (read port : Port) (tables : Tables) (after : Tables → Tables)
    → wire_of host ≡ w → PortFor w e (Ok at)
    → read ≡ slice_index_or host.ports.items at read → port ≡ slice_index_or host.ports.items at port → tables ≡ after port.device
    → slice_set host.ports.items at (record { device = tables; unit = port.unit })
    ≡ slice_set host.ports.items e (record read { device = after read.device })
rewritten host w e at read port tables after view for same other is =
    let items = host.ports.items in
    let one = same_port host w e at read port view for same other in
    (λ i. slice_set items (for.0 i) (record { device = is i; unit = port.unit }))
    ∙ (λ i. slice_set items e (record (one i) { device = after (one i).device }))

-- no more of them are there than a config may have
abbrev pub IsFew : List Port → Type 0
IsFew ports = length ports ≤ 8

pub few_set : (ports : List Port) (e : ℕ) (port : Port) → IsFew ports → IsFew (slice_set ports e port)
few_set ports e port few = subst (λ (n : ℕ). n ≤ 8) (sym (length-set ports e port)) few

-- the host with other tables in the device of an endpoint
abbrev pub with_tables : HostState → (e : ℕ) → Port → Tables → HostState
with_tables host e port tables = record host { ports = with_item host.ports e (record port { device = tables }) }

pub with_tables_seen : (host : HostState) (e : ℕ) (port : Port) (tables : Tables) (d : DeviceWire) → IsPort host e port → device_seen tables ≡ d
    → wire_of (with_tables host e port tables) ≡ with_device (wire_of host) e d
with_tables_seen host e port tables d is same = λ i. record (wire_of host) { parts = parts i }
  where
    parts : map part_seen (slice_set host.ports.items e (record port { device = tables }))
        ≡ slice_set (map part_seen host.ports.items) e (record (part_of (wire_of host) e) { device = d })
    parts =
        map-set part_seen host.ports.items e (record port { device = tables })
        ∙ (λ i. slice_set (map part_seen host.ports.items) e (record (sym is.part i) { device = same i }))

-- the invariant stays where the tables are sound
pub with_tables_host : (host after : HostState) (e : ℕ) (port : Port) (tables : Tables) → IsHostState host → IsSound tables
    → after.ports.items ≡ slice_set host.ports.items e (record port { device = tables }) → after.bindings ≡ host.bindings → IsHostState after
with_tables_host host after e port tables h sound same bindings = record {
  few = subst IsFew (sym same) (few_set host.ports.items e (record port { device = tables }) h.few);
  sound = subst AllSound (sym same) (sound_set host.ports.items e (record port { device = tables }) sound h.sound);
  staged = subst AreStaged (sym bindings) h.staged;
}
