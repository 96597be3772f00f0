-- What a host keeps of spaces, pages and frames, looked up by number, is what the definitions find by name.
use Rattle.std.specs.Prelude.{◌≡◌, ℕ, if◌then◌else◌, Some, None, option_map, List}
use Rattle.sva_step.specs.declared.limits.Config.{Config}
use Rattle.sva_step.specs.declared.steps.Step.{Step}
use Rattle.sva_model.specs.State.{PasidRule}
use Rattle.sva_model.specs.Steps.{world_after}
use Rattle.sva_model.specs.Labels
use Rattle.sva_model.specs.Wire.{page_wire, pages_wire, wire}
use Rattle.sva_labels.specs.Places.{pages_of, page_at, lowest_free}

-- At each world that some list of steps leads to: a number has pages where it is that of a live space, and they are that
-- space's; what stands at a page is the mapping there; and the lowest free frame is the lowest.
abbrev pub SpacesFound : Type 0
SpacesFound =
    (rule : PasidRule) (config : Config) (steps : List Step) (number : ℕ)
    → pages_of (wire (world_after rule config steps)).spaces number
    ≡ (if Labels.is_space (world_after rule config steps) number
    then Some (pages_wire (world_after rule config steps).mappings (Labels.name (world_after rule config steps) number))
    else None)

-- what is found at a page of a space is the mapping that is there, and nothing where none is
abbrev pub PagesFound : Type 0
PagesFound =
    (rule : PasidRule) (config : Config) (steps : List Step) (space page : ℕ)
    → page_at (pages_wire (world_after rule config steps).mappings space) page
    ≡ option_map (page_wire (world_after rule config steps).mappings) ((world_after rule config steps).mappings.at space page)

-- the lowest free place is that of the lowest free frame; where none is free both are the number of frames
abbrev pub FramesFound : Type 0
FramesFound =
    (rule : PasidRule) (config : Config) (steps : List Step)
    → lowest_free (wire (world_after rule config steps)).places ≡ Labels.lowest_frame (world_after rule config steps)
