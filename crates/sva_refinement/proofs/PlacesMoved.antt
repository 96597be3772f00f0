-- The places of frames after an act of one endpoint are those that its move leaves.
use Rattle.std.proofs.Common.{◌≡◌, sym, ◌∙◌, ℕ, ◌≤◌, false, arith}
use Rattle.sva_model.specs.State.{Mappings, Endpoint, World}
use Rattle.sva_model.specs.Acts.{LocalAct, act}
use Rattle.sva_model.specs.Acts.Act.{AtEndpoint}
use Rattle.sva_model.specs.Wire.{Wire, places_wire, wire}
use Rattle.sva_laws.proofs.Fronts.{AllFronts}
use Rattle.sva_laws.proofs.Debts.{AllDebts}
use Rattle.sva_laws.proofs.Invariant.{Invariant}
use Rattle.sva_laws.proofs.Keeps.{Legal}
use Rattle.sva_labels.specs.Moves.{moved}
use Rattle.sva_refinement.proofs.Named.{own_move}
use Rattle.sva_refinement.proofs.PlacesKept.{settles, places_kept}
use Rattle.sva_refinement.proofs.Settling.{places_passed, places_reopened}

places_left : (w : Wire) (first e : ℕ) (ms : Mappings) (p : Endpoint) (o : LocalAct) → settles o ≡ false → (moved w (own_move first e ms p o)).places ≡ w.places
places_left w first e ms p o h = grind arith

pub places_moved :
    (w : World) (e : ℕ) (o : LocalAct) → Legal w (AtEndpoint e o) → Invariant w → AllFronts w → AllDebts w → w.config.endpoints ≤ 8
    → places_wire (act w (AtEndpoint e o)) ≡ (moved (wire w) (own_move w.config.first e w.mappings (w.part e) o)).places
places_moved w e (LocalAct.Pass k) l i f d low = places_passed w e k l i f d low
places_moved w e (LocalAct.Reopen c) l i f d low = places_reopened w e c l i d low
places_moved w e o l i f d low = places_kept w e o l i d (grind arith) ∙ sym (places_left (wire w) w.config.first e w.mappings (w.part e) o (grind arith))
