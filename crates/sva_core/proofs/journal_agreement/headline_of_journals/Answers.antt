use Rattle.std.proofs.Common.{◌⊎◌, inl, inr, ℕ, List, refl}
use Rattle.std.specs.Prelude.{map}
use Rattle.sva_step.specs.declared.limits.Config.{Config}
use Rattle.sva_step.specs.declared.steps.Step.{Step}
use Rattle.sva_model.specs.State.{World}
use Rattle.sva_model.specs.State.PasidRule.{PerSpace}
use Rattle.sva_model.specs.Claims.{IsPresent, IsMapped, IsWithheld}
use Rattle.sva_model.specs.Claims.Usable.{in_use}
use Rattle.sva_model.specs.Journal.{steps_of}
use Rattle.sva_model.specs.Steps.{world_after}
use Rattle.sva_model.specs.Wire.{wire}
use Rattle.sva_core.specs.Reached.{IsReached}
use Rattle.sva_core.proofs.Agreed.{agreed}
use Rattle.sva_laws.proofs.Claimed.{always_agrees}
use Rattle.sva_core.specs.Journal.{as_defined, world_of}
use Rattle.sva_core.proofs.journal_agreement.headline_of_journals.Goals as goal

pub returns-clause-agrees : goal.returns-clause-agrees
returns-clause-agrees c h legal =
    let at : IsReached (wire (world_of h)) =
    record { config = h.config; steps = steps_of (map as_defined h.entries); fits = legal.fits; is_wire = refl } in
    (at, refl, refl, agreed (wire (world_of h)) at)

-- the frame of a translation that is present is mapped
mapped_by : (w : World) (e b q m : ℕ) → IsPresent w e b q m → IsMapped w (w.mappings.frame m)
mapped_by w e b q m at = record {
  space = (w.part e).space b;
  page = q;
  is_at = record { live = at.live; mapping = at.there; maps = at.maps; leads = at.frame };
}

-- so a frame that is neither mapped nor withheld isn't that of a translation that is present or leads to a withheld frame
kept_by : (config : Config) (steps : List Step) (e b q m : ℕ)
    → IsPresent (world_after PerSpace config steps) e b q m ⊎ IsWithheld PerSpace config steps ((world_after PerSpace config steps).mappings.frame m)
    → (IsMapped (world_after PerSpace config steps) ((world_after PerSpace config steps).mappings.frame m) → ⊥)
    × (IsWithheld PerSpace config steps ((world_after PerSpace config steps).mappings.frame m) → ⊥) → ⊥
kept_by config steps e b q m (inl present) neither = neither.0 (mapped_by (world_after PerSpace config steps) e b q m present)
kept_by config steps e b q m (inr withheld) neither = neither.1 withheld

pub returns-clause-uses : goal.returns-clause-uses
returns-clause-uses c h legal e u runs free =
    let steps = steps_of (map as_defined h.entries) in
    let w = world_after PerSpace h.config steps in
    let agrees = always_agrees PerSpace h.config steps legal.fits in
    let m = (w.part e).use_mapping u in
    kept_by h.config steps e ((w.part e).use_binding u) (w.mappings.page m) m
    (agrees.usable e ((w.part e).use_binding u) (w.mappings.page m) m (in_use u runs))
    ((agrees.divided.free (w.mappings.frame m)).0 free)
