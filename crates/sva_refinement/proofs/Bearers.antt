-- The binding that bears a PASID at an endpoint, found among the bindings that a host keeps.
use Rattle.std.proofs.Common.{◌≡◌, ap, ◌∙◌, ℕ, true}
use Rattle.std.specs.Prelude.{Some, option_map}
use Rattle.sva_model.specs.State.{World}
use Rattle.sva_model.specs.States.{is_unreleased}
use Rattle.sva_model.specs.Wire.{binding_wire, wire}
use Rattle.sva_laws.proofs.Invariant.{Invariant}
use Rattle.sva_labels.specs.Finding.{bearer}
use Rattle.sva_refinement.proofs.LookedBindings.{bearer_is}

pub bearer_seen :
    (w : World) (e b : ℕ) → Invariant w → is_unreleased ((w.part e).stage b) ≡ true
    → bearer (wire w) e ((w.part e).pasid b) ≡ Some (binding_wire w.config.first e (w.part e) b)
bearer_seen w e b i u =
    bearer_is w e ((w.part e).pasid b) i ∙ ap (option_map (binding_wire w.config.first e (w.part e))) ((i.parts e).labels.bears_pasid b u)
