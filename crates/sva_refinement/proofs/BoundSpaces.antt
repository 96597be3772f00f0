-- The space of each binding is there.
use Rattle.std.proofs.Common.{◌≡◌, ap, ◌∙◌, ℕ, ◌+◌, ◌-◌, ◌<◌, true, arith}
use Rattle.std.proofs.lemmas.Bool.Decides.{nat_tests}
use Rattle.std.specs.Prelude.{◌&&◌, nat_le, nat_lt, List}
use Rattle.std.proofs.lemmas.Bool.{and_from}
use Rattle.sva_step.specs.declared.limits.Config.{Config}
use Rattle.sva_step.specs.declared.steps.Step.{Step}
use Rattle.sva_model.specs.State.{World}
use Rattle.sva_model.specs.State.PasidRule.{PerSpace}
use Rattle.sva_model.specs.Steps.{world_after}
use Rattle.sva_model.specs.Claims.{Fits}
use Rattle.sva_model.specs.Labels
use Rattle.sva_model.specs.Wire.{BindingWire, wire}
use Rattle.sva_laws.proofs.Invariant.{Invariant}
use Rattle.sva_laws.proofs.Runs.{always}
use Rattle.sva_labels.specs.Finding.{is_space}
use Rattle.sva_labels.specs.Sound.{HaveSpaces}
use Rattle.sva_refinement.proofs.LookedSpaces.{space_there}
use Rattle.sva_refinement.proofs.SoundPasids.{IsKeptAt, kept_at}

-- a number of a name that was given
numbered : (first count s : ℕ) → s < count → (nat_le first (first + s) && nat_lt (first + s - first) count) ≡ true
numbered first count s l = grind (arith, nat_tests)

named : (first s : ℕ) → first + s - first ≡ s
named first s = omega arith

pub space_live : (w : World) → Invariant w → (k : ℕ) (b : BindingWire) → IsKeptAt w k b → is_space (wire w) b.space ≡ true
space_live w i k b x =
    space_there w b.space ∙ ap (Labels.is_space w) (ap (λ z. z.space) x.seen) ∙ there
  where
    live : w.is_live ((w.part (w.endpoint_of x.of)).space x.of) ≡ true
    live = i.mapped.bound_live (w.endpoint_of x.of) x.of x.passes

    there : Labels.is_space w (w.config.first + (w.part (w.endpoint_of x.of)).space x.of) ≡ true
    there =
        and_from _ _
        (numbered w.config.first w.spaces ((w.part (w.endpoint_of x.of)).space x.of) (i.mapped.live ((w.part (w.endpoint_of x.of)).space x.of) live))
        (ap w.is_live (named w.config.first ((w.part (w.endpoint_of x.of)).space x.of)) ∙ live)

pub always_have_spaces : (config : Config) (steps : List Step) → Fits config → HaveSpaces (wire (world_after PerSpace config steps))
always_have_spaces config steps fits =
    λ k b h. space_live (world_after PerSpace config steps) (always PerSpace config steps) k b (kept_at (world_after PerSpace config steps) k b h)
