-- A race says of what is kept of a world, by labels, whether an endpoint may use a translation to a frame; the headline says it
-- by names, with the binding, the page and the mapping. It is the same.
use Rattle.std.specs.Prelude.{◌≡◌, ◌↔◌, ℕ, true, List}
use Rattle.sva_step.specs.declared.limits.Config.{Config}
use Rattle.sva_step.specs.declared.steps.Step.{Step}
use Rattle.sva_model.specs.State.{PasidRule, World}
use Rattle.sva_model.specs.Wire.{wire}
use Rattle.sva_model.specs.Steps.{world_after}
use Rattle.sva_model.specs.Claims.{Fits, Usable}
use Rattle.sva_race_parts.specs.Usable.{is_usable_at}

-- a translation that the endpoint may still use, to this frame
pub record MayUse (world : World) (endpoint frame : ℕ) : Type 0 where
  pub binding : ℕ
  pub page : ℕ
  pub mapping : ℕ
  pub usable : Usable world endpoint binding page mapping
  pub leads : world.mappings.frame mapping ≡ frame

-- After every list of steps, of whatever endpoint and frame.
abbrev pub UsableByNames : Type 0
UsableByNames =
    (rule : PasidRule) (config : Config) (steps : List Step) (endpoint frame : ℕ)
    → Fits config
    → (is_usable_at (wire (world_after rule config steps)) endpoint frame ≡ true) ↔ MayUse (world_after rule config steps) endpoint frame
