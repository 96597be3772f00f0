-- How the table of bindings is seen by the definitions by labels, and what its look-ups and changes are there.
use Rattle.std.specs.Prelude.{◌≡◌, ℕ, ◌==◌, Option, Some, None, option_map, List, [], ◌∷◌, ◌++◌, map, find}
use Rattle.std.specs.List.{count_by}
use Rattle.sva_model.specs.Wire.{Wire, BindingWire, StageWire}
use Rattle.sva_model.specs.Wire.StageWire.{LiveWire, StoppingWire, DrainingWire, InvalidatingWire, QuietWire, LostWire}
use Rattle.sva_labels.specs.Finding as finding
use Rattle.sva_labels.specs.Moves as moves
use Rattle.sva_pasid.specs.declared.places.TableEntry.{TableEntry}
use Rattle.sva_pasid.specs.declared.bearers.Bearer.{Bearer}
use Rattle.sva_pasid.specs.declared.stages.Stage.{Stage}
use Rattle.sva_pasid.specs.declared.stages.Stage.TheVariants.{Live, Stopping, Draining, Invalidating, Quiet, Lost}
use Rattle.sva_pasid.specs.Places.{place_of, place_under, place_between, is_bound, bearer_of, with_stage, without, lowest, begun, after_reset}

-- a stage by labels: with the cookie of its wait, or with whether the Stop Marker is noted (PCI Express Base 5.0, section 10.4.1)
abbrev pub stage_seen : Stage → StageWire
stage_seen (Live live) = LiveWire
stage_seen (Stopping stopping) = StoppingWire stopping.marked
stage_seen (Draining draining) = DrainingWire draining.cookie
stage_seen (Invalidating invalidating) = InvalidatingWire invalidating.cookie
stage_seen (Quiet quiet) = QuietWire
stage_seen (Lost lost) = LostWire

-- a place is empty only while its stage is in hand
abbrev pub stage_or_quiet : Option Stage → StageWire
stage_or_quiet None = QuietWire
stage_or_quiet (Some stage) = stage_seen stage

-- the unreleased binding that has this place in the table
abbrev pub binding_seen : TableEntry → BindingWire
binding_seen place =
    record { endpoint = place.endpoint; space = place.space; binding = place.binding; pasid = place.pasid; stage = stage_or_quiet place.stage }

-- the unreleased bindings, in the order in which they began
abbrev pub bindings_seen : List TableEntry → List BindingWire
bindings_seen places = map binding_seen places

-- the space that bears a PASID, and how many bindings are under it
abbrev pub bearer_seen : List BindingWire → (pasid : ℕ) → Option Bearer
bearer_seen bindings pasid =
    option_map (λ (binding : BindingWire). record { space = binding.space; bindings = count_by (λ other. other.pasid == pasid) bindings })
    (find (λ binding. binding.pasid == pasid) bindings)

-- what is looked up, of a host that keeps these bindings
pub record AreLookedUp (places : List TableEntry) (wire : Wire) : Type 0 where
  pub by_number : (number : ℕ) → option_map binding_seen (place_of number places) ≡ finding.binding_of wire number
  pub by_pasid : (endpoint pasid : ℕ) → option_map binding_seen (place_under endpoint pasid places) ≡ finding.bearer wire endpoint pasid
  pub by_space : (endpoint space : ℕ) → option_map binding_seen (place_between endpoint space places) ≡ finding.bound_at wire endpoint space
  pub bound : (space : ℕ) → is_bound space places ≡ finding.is_bound wire space
  pub lowest : (space : ℕ) → lowest space places ≡ finding.pasid_for wire space
  pub bearer : (pasid : ℕ) → bearer_of pasid places ≡ bearer_seen wire.bindings pasid

-- what is changed
pub record AreChanged (places : List TableEntry) : Type 0 where
  pub begun :
      (endpoint space binding pasid : ℕ) → bindings_seen (places ++ begun endpoint space binding pasid ∷ [])
      ≡ bindings_seen places ++ record { endpoint = endpoint; space = space; binding = binding; pasid = pasid; stage = LiveWire } ∷ []
  pub staged :
      (binding : ℕ) (stage : Stage) → bindings_seen (with_stage binding (Some stage) places)
      ≡ moves.with_stage binding (stage_seen stage) (bindings_seen places)
  pub released : (binding : ℕ) → bindings_seen (without binding places) ≡ moves.without_binding binding (bindings_seen places)
  pub reset : (endpoint : ℕ) → bindings_seen (after_reset endpoint places) ≡ moves.cut_off_at endpoint (bindings_seen places)

-- each table of bindings is looked up and changed as the definitions by labels do it, at every host that keeps these bindings
abbrev pub BindingsAreSeen : Type 0
BindingsAreSeen = (places : List TableEntry) → ((wire : Wire) → wire.bindings ≡ bindings_seen places → AreLookedUp places wire) × AreChanged places
