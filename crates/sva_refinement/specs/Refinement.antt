-- The steps by labels are the steps by names; and what a host keeps, at each world that some list of steps leads to, is as the
-- calls of the parts need it.
use Rattle.std.specs.Prelude.{◌≡◌, List}
use Rattle.sva_step.specs.declared.limits.Config.{Config}
use Rattle.sva_step.specs.declared.steps.Step.{Step}
use Rattle.sva_model.specs.State.{opened}
use Rattle.sva_model.specs.State.PasidRule.{PerSpace}
use Rattle.sva_model.specs.Steps.{reply, replies, next, world_after}
use Rattle.sva_model.specs.Claims.{Fits}
use Rattle.sva_model.specs.Wire.{wire}
use Rattle.sva_labels.specs.Host.{reply_of, next_of, first_wire, replies_of, run_of}
use Rattle.sva_labels.specs.Sound.{IsSound, HaveSpaces}

-- By the rule of one PASID for each space: at each world that some list of steps leads to, a step by labels answers what the
-- step by names answers, and leaves what the next world is seen as.
abbrev pub LabelsAreNames : Type 0
LabelsAreNames =
    (config : Config) (steps : List Step) (step : Step)
    → Fits config
    → (reply (world_after PerSpace config steps) step ≡ reply_of (wire (world_after PerSpace config steps)) step)
    × (wire (next (world_after PerSpace config steps) step) ≡ next_of (wire (world_after PerSpace config steps)) step)

-- A list of steps by labels gives the answers that the steps by names give, and leaves what the last world is seen as.
abbrev pub RunsByLabels : Type 0
RunsByLabels =
    (config : Config) (steps : List Step)
    → Fits config
    → (replies (opened PerSpace config) steps ≡ replies_of (first_wire config) steps)
    × (wire (world_after PerSpace config steps) ≡ run_of (first_wire config) steps)

-- What is kept at each world that some list of steps leads to is sound.
abbrev pub AlwaysSound : Type 0
AlwaysSound = (config : Config) (steps : List Step) → Fits config → IsSound (wire (world_after PerSpace config steps))

-- And the space of each binding is there.
abbrev pub AlwaysHaveSpaces : Type 0
AlwaysHaveSpaces = (config : Config) (steps : List Step) → Fits config → HaveSpaces (wire (world_after PerSpace config steps))
