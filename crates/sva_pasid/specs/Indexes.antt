-- Where the place of a binding stands in the table.
use Rattle.std.specs.Prelude.{◌≡◌, ℕ, ◌<◌, Option, Some, List, length, remove, slice_set}
use Rattle.std.specs.List.{slice_index_or}
use Rattle.sva_pasid.specs.Places.{place_of, with_stage, without}
use Rattle.sva_pasid.specs.declared.stages.Stage.{Stage}
use Rattle.sva_pasid.specs.declared.places.TableEntry.{TableEntry}

-- the place of the binding is the one at i: a write there, or its removal, is that of the binding's place
pub record IsIndexOf (binding : ℕ) (places : List TableEntry) (index : ℕ) : Type 0 where
  pub within : index < length places
  pub found : (fallback : TableEntry) → place_of binding places ≡ Some (slice_index_or places index fallback)
  pub written :
      (fallback : TableEntry) (stage : Option Stage)
      → slice_set places index (record (slice_index_or places index fallback) { stage = stage }) ≡ with_stage binding stage places
  pub removed : remove places index ≡ without binding places
