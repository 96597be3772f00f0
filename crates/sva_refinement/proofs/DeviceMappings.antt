-- A device's lists read of mappings only those that are made: frame, write flag and page. So mappings that say the same of
-- these leave the lists as they are.
use Rattle.std.proofs.Common.{◌≡◌, refl, ap, ap₂, ℕ, ◌<◌, Bool, true, arith}
use Rattle.std.specs.Prelude.{Option, Some, None, option_map, ◌&&◌, nat_lt, if◌then◌else◌}
use Rattle.sva_model.specs.Words.{tabulate, is_some, holds_of, the}
use Rattle.sva_model.specs.State.{Owed, Mappings, UseState, Endpoint, World}
use Rattle.sva_model.specs.State.UseState.{Running, Dead, Ended}
use Rattle.sva_model.specs.States.{is_running, covers}
use Rattle.sva_model.specs.Unmappings.{without_pages}
use Rattle.sva_model.specs.Acts.{act}
use Rattle.sva_model.specs.Acts.Act.{Map}
use Rattle.sva_model.specs.Wire.{sorted_by, is_before, cached_wire, cache_wire, translation_wire, use_wire, is_noted, device_wire}
use Rattle.sva_model.specs.Wire.UseWire.{RunningWire, DeadWire}
use Rattle.sva_labels.proofs.Words.{put-other, some_the}
use Rattle.sva_laws.proofs.Owners.{Owners}
use Rattle.sva_refinement.proofs.DeviceRows.{row_same, select_seen}
use Rattle.sva_refinement.proofs.DeviceTaken.{taken_wire, taken_same}

-- the other mappings say the same of those that are made
pub record KeepsMade (ms other : Mappings) : Type 0 where
  pub frame : (m : ℕ) → m < ms.made → other.frame m ≡ ms.frame m
  pub write : (m : ℕ) → m < ms.made → other.write m ≡ ms.write m
  pub page : (m : ℕ) → m < ms.made → other.page m ≡ ms.page m

cached_same :
    (ms other : Mappings) (p : Endpoint) → KeepsMade ms other → Owners ms p → (r : ℕ) → is_some (p.held r) ≡ true
    → cached_wire other p r ≡ cached_wire ms p r
cached_same ms other p keeps ow r h =
    let made : the (p.held r) < ms.made = ow.held_made r (the (p.held r)) (some_the (p.held r) h) in
    ap₂ (λ f x. record { pasid = p.pasid (p.request_binding r); page = p.request_page r; frame = f; write = x }) (keeps.frame (the (p.held r)) made)
    (keeps.write (the (p.held r)) made)

use_same :
    (ms other : Mappings) (p : Endpoint) → KeepsMade ms other → (u : ℕ) (s : UseState) → (s ≡ Running → p.use_mapping u < ms.made)
    → (if is_running s then RunningWire (translation_wire other p (p.use_binding u) (other.page (p.use_mapping u)) (p.use_mapping u)) else DeadWire)
    ≡ (if is_running s then RunningWire (translation_wire ms p (p.use_binding u) (ms.page (p.use_mapping u)) (p.use_mapping u)) else DeadWire)
use_same ms other p keeps u Running h =
    let made = h refl in
    λ i.
    RunningWire (record {
      pasid = p.pasid (p.use_binding u);
      page = keeps.page (p.use_mapping u) made i;
      frame = keeps.frame (p.use_mapping u) made i;
      write = keeps.write (p.use_mapping u) made i;
    })
use_same ms other p keeps u Dead h = refl
use_same ms other p keeps u Ended h = refl

noted_same :
    (ms other : Mappings) (p : Endpoint) → KeepsMade ms other → (k uses u : ℕ) (s : UseState) → (s ≡ Running → p.use_mapping u < ms.made)
    → (nat_lt u uses && (is_running s && covers (p.order k) (p.use_binding u) (other.page (p.use_mapping u))))
    ≡ (nat_lt u uses && (is_running s && covers (p.order k) (p.use_binding u) (ms.page (p.use_mapping u))))
noted_same ms other p keeps k uses u Running h = ap (λ q. nat_lt u uses && covers (p.order k) (p.use_binding u) q) (keeps.page (p.use_mapping u) (h refl))
noted_same ms other p keeps k uses u Dead h = refl
noted_same ms other p keeps k uses u Ended h = refl

notes_same :
    (ms other : Mappings) (p : Endpoint) → KeepsMade ms other → Owners ms p → (k uses : ℕ) (o : Option ℕ)
    → holds_of (is_noted other p k uses) o ≡ holds_of (is_noted ms p k uses) o
notes_same ms other p keeps ow k uses None = refl
notes_same ms other p keeps ow k uses (Some u) = noted_same ms other p keeps k uses u (p.use_state u) (ow.running_made u)

pub device_kept : (ms other : Mappings) (p : Endpoint) → KeepsMade ms other → Owners ms p → device_wire other p ≡ device_wire ms p
device_kept ms other p keeps ow =
    let cache : cache_wire other p ≡ cache_wire ms p =
    ap (sorted_by is_before)
    (select_seen p.requests (λ r. is_some (p.held r)) (λ r. is_some (p.held r)) (cached_wire ms p) (cached_wire other p) (λ r l. refl)
    (λ r l. cached_same ms other p keeps ow r))
    in
    let slots : tabulate 16 (λ t. option_map (use_wire other p) (p.at_slot t)) ≡ tabulate 16 (λ t. option_map (use_wire ms p) (p.at_slot t)) =
    row_same 16 p.at_slot (use_wire ms p) (use_wire other p) (λ t u h. use_same ms other p keeps u (p.use_state u) (ow.running_made u))
    in
    let taken : taken_wire other p ≡ taken_wire ms p =
    taken_same ms other p p (λ t. refl) (λ t k h. refl)
    (λ t k uses h e. record { pasid = refl; extent = refl; slots = λ x. notes_same ms other p keeps ow k uses (p.at_slot x) })
    in
    λ i. record (device_wire ms p) { cache = cache i; slots = slots i; taken = taken i }

-- a mapping more
pub mapped_keeps : (w : World) (s q f : ℕ) (x : Bool) → KeepsMade w.mappings (act w (Map s q f x)).mappings
mapped_keeps w s q f x =
    record {
      frame = λ m l. put-other w.mappings.frame w.mappings.made f m (omega arith);
      write = λ m l. put-other w.mappings.write w.mappings.made x m (omega arith);
      page = λ m l. put-other w.mappings.page w.mappings.made q m (omega arith);
    }

pub device_mapped :
    (w : World) (s q f : ℕ) (x : Bool) (p : Endpoint) → Owners w.mappings p
    → device_wire (act w (Map s q f x)).mappings p ≡ device_wire w.mappings p
device_mapped w s q f x p ow = device_kept w.mappings (act w (Map s q f x)).mappings p (mapped_keeps w s q f x) ow

-- pages that are taken out
pub device_without : (ms : Mappings) (s : ℕ) (pages : ℕ → Bool) (owed : ℕ → Owed) (p : Endpoint) → device_wire (without_pages ms s pages owed) p
    ≡ device_wire ms p
device_without ms s pages owed p = refl
