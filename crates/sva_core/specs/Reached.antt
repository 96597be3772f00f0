-- What the world does, by the definitions.
use Rattle.std.specs.Prelude.{◌≡◌, ◌+◌, List, [], ◌∷◌, Err, IsOk}
use Rattle.sva_frames.specs.declared.pool.Counts.{Counts as FrameCounts}
use Rattle.sva_step.specs.declared.limits.Config.{Config}
use Rattle.sva_step.specs.declared.refusals.Refusal.{Refusal}
use Rattle.sva_step.specs.declared.refusals.Refusal.TheVariants as refusal
use Rattle.sva_step.specs.declared.steps.Step.{Step}
use Rattle.sva_model.specs.State.PasidRule.{PerSpace}
use Rattle.sva_model.specs.State.{World}
use Rattle.sva_model.specs.Claims.{Fits}
use Rattle.sva_model.specs.Steps.{Reply, reply, next, counts, world_after}
use Rattle.sva_model.specs.Wire.{Wire, wire}
use Rattle.sva_host.specs.Applied.{TakesNoMemory}

-- what the definitions say of a step at one of their worlds; want of memory changes nothing, and comes only where they
-- would have accepted the step
abbrev pub FollowsAt : World → Step → Reply → Wire → Type 0
FollowsAt world step (Err refusal.OutOfMemory) after = IsOk (reply world step) × (after ≡ wire world)
FollowsAt world step result after = (result ≡ reply world step) × (after ≡ wire (next world step))

-- a step from what the host keeps, as the definitions have it at each world after some list of steps that is seen so
abbrev pub Follows : Wire → Step → Reply → Wire → Type 0
Follows before step result after =
    (config : Config) (steps : List Step) → Fits config → before ≡ wire (world_after PerSpace config steps)
    → FollowsAt (world_after PerSpace config steps) step result after

-- some list of steps leads to a world that is seen so
pub record IsReached (seen : Wire) : Type 0 where
  pub config : Config
  pub steps : List Step
  pub fits : Fits config
  pub is_wire : seen ≡ wire (world_after PerSpace config steps)

-- the counts of frames, as the definitions have them at each world after some list of steps that is seen so
abbrev pub CountsOf : Wire → FrameCounts → Type 0
CountsOf seen found =
    (config : Config) (steps : List Step) → Fits config → seen ≡ wire (world_after PerSpace config steps)
    → (found.free ≡ (counts (world_after PerSpace config steps)).free)
    × (found.mapped ≡ (counts (world_after PerSpace config steps)).mapped)
    × (found.withheld ≡ (counts (world_after PerSpace config steps)).withheld)

-- free, mapped and withheld frames together are the frames of the config from which it is reached
abbrev pub AddsUp : Wire → FrameCounts → Type 0
AddsUp seen found = (reached : IsReached seen) → found.free + found.mapped + found.withheld ≡ reached.config.frames

-- the answers to a list of steps, and what the last world is seen as; a step that had no memory is left out, and it is one
-- that takes memory
abbrev pub Ran : World → List Step → List Reply → Wire → Type 0
Ran world [] [] last = last ≡ wire world
Ran world (step ∷ steps) (Err refusal.OutOfMemory ∷ results) last =
    IsOk (reply world step) × (TakesNoMemory (wire world) step → ⊥) × Ran world steps results last
Ran world (step ∷ steps) (result ∷ results) last = (result ≡ reply world step) × Ran (next world step) steps results last
Ran world _ _ last = ⊥

-- the refusals of an opening
abbrev pub IsOpenRefusal : Refusal → Type 0
IsOpenRefusal refusal.BadConfig = Unit {0}
IsOpenRefusal refusal.OutOfMemory = Unit {0}
IsOpenRefusal _ = ⊥
