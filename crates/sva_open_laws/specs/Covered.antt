-- What an invalidation covers. Of what unreleased bindings have, it strikes in the open world, by its PASID, just what it covers by MODEL:
-- so the same translations go, and the same requests are doomed.
use Rattle.std.specs.Prelude.{◌≡◌, ℕ, true, false, List}
use Rattle.sva_step.specs.declared.limits.Config.{Config}
use Rattle.sva_step.specs.declared.steps.Step.{Step}
use Rattle.sva_model.specs.State.{Endpoint, PasidRule}
use Rattle.sva_model.specs.StateChanges.{binding_of}
use Rattle.sva_model.specs.States.{is_unreleased, is_wait}
use Rattle.sva_model.specs.States as model
use Rattle.sva_model.specs.Steps.{world_after}
use Rattle.sva_open.specs.World.{covers}
use Rattle.sva_open_laws.specs.AsOpen.{scope_of}

pub record CoversAlike (part : Endpoint) (order binding page : ℕ) : Type 0 where
  pub same :
      is_wait (part.order order) ≡ false
      → is_unreleased (part.stage (binding_of (part.order order))) ≡ true
      → is_unreleased (part.stage binding) ≡ true
      → covers (scope_of part (part.order order)) (part.pasid binding) page ≡ model.covers (part.order order) binding page

-- so it is after every list of steps
abbrev pub ScopesAreOne : Type 0
ScopesAreOne =
    (rule : PasidRule) (config : Config) (steps : List Step) (endpoint order binding page : ℕ)
    → CoversAlike ((world_after rule config steps).part endpoint) order binding page
