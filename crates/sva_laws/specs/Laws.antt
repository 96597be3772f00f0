-- The parts of the headline, each by itself, and what mappings and unmappings answer.
use Rattle.sva_model.specs.State.{PasidRule}
use Rattle.std.specs.Prelude.{◌≡◌, ◌⊎◌, ◌↔◌, ℕ, ◌+◌, ◌^◌, ◌<◌, Bool, true, false, Some, List, [], ◌∷◌, ◌++◌, length}
use Rattle.std.specs.Prelude.{slice_get, Ok}
use Rattle.sva_step.specs.declared.answers.Answer.{Answer}
use Rattle.sva_step.specs.declared.answers.Answer.TheVariants.{Frame, FreeFrames, WithheldFrames, RangeFree, RangeWithheld}
use Rattle.sva_step.specs.declared.limits.Config.{Config}
use Rattle.sva_step.specs.declared.steps.Step.{Step}
use Rattle.sva_step.specs.declared.steps.Step.TheVariants.{Map, Unmap, UnmapRange}
use Rattle.sva_model.specs.Words.{count_below}
use Rattle.sva_model.specs.States.{is_unreleased, place}
use Rattle.sva_model.specs.States.Place.{Free, Withheld}
use Rattle.sva_model.specs.Labels.{number, is_mapped}
use Rattle.sva_model.specs.Steps.{reply, counts, world_after}
use Rattle.sva_model.specs.Claims.{Fits, Usable, IsPresent, IsAt, IsWithheld, IsDivided, IsMatched}

-- The headline's parts, each by itself.

-- each usable translation has an unreleased owner, and is present or leads to a withheld frame
abbrev pub AlwaysOwned : Type 0
AlwaysOwned =
    (rule : PasidRule) (config : Config) (steps : List Step) (endpoint binding page mapping : ℕ)
    → Fits config
    → Usable (world_after rule config steps) endpoint binding page mapping
    → is_unreleased (((world_after rule config steps).part endpoint).stage binding) ≡ true

-- the second half of it: the owner's live space maps the page to the same frame with the same write flag, or that frame is withheld
abbrev pub AlwaysPresentOrWithheld : Type 0
AlwaysPresentOrWithheld =
    (rule : PasidRule) (config : Config) (steps : List Step) (endpoint binding page mapping : ℕ)
    → Fits config
    → Usable (world_after rule config steps) endpoint binding page mapping
    → IsPresent (world_after rule config steps) endpoint binding page mapping
    ⊎ IsWithheld rule config steps ((world_after rule config steps).mappings.frame mapping)

-- and by the last mapping of its frame: what is usable doesn't lead to a frame that was given out again since, nor to one that is withheld for whom
-- it was given to since
abbrev pub AlwaysByTheLatest : Type 0
AlwaysByTheLatest =
    (rule : PasidRule) (config : Config) (steps : List Step) (endpoint binding page mapping : ℕ)
    → Fits config
    → Usable (world_after rule config steps) endpoint binding page mapping
    → (world_after rule config steps).mappings.latest ((world_after rule config steps).mappings.frame mapping) ≡ Some mapping

-- after every list of steps page requests, markers and responses stay with the binding that asked (PCI Express Base 5.0, section 10.4)
abbrev pub AlwaysMatched : Type 0
AlwaysMatched =
    (rule : PasidRule) (config : Config) (steps : List Step) (endpoint : ℕ)
    → Fits config
    → IsMatched ((world_after rule config steps).part endpoint)

-- each frame is at one page of one live space, or withheld, or free; and the step reads the same of it as the look back over the list
abbrev pub AlwaysDivided : Type 0
AlwaysDivided = (rule : PasidRule) (config : Config) (steps : List Step) → Fits config → IsDivided rule config steps

-- free, mapped and withheld frames together are all frames
abbrev pub AlwaysAddsUp : Type 0
AlwaysAddsUp =
    (rule : PasidRule) (config : Config) (steps : List Step)
    → Fits config
    → (counts (world_after rule config steps)).free + (counts (world_after rule config steps)).mapped +
    (counts (world_after rule config steps)).withheld ≡ config.frames

-- the place that the step reads is Withheld exactly where the look back over the list says so
abbrev pub AlwaysWithheldExactly : Type 0
AlwaysWithheldExactly = (rule : PasidRule) (config : Config) (steps : List Step) (frame : ℕ) → Fits config
    → (place (world_after rule config steps) frame ≡ Withheld) ↔ IsWithheld rule config steps frame

-- a withheld frame is free after the very step that leaves no endpoint in debt for it, and isn't mapped again by that step
abbrev pub FreeByTheLastAnswer : Type 0
FreeByTheLastAnswer =
    (rule : PasidRule) (config : Config) (steps : List Step) (step : Step) (frame : ℕ)
    → Fits config
    → IsWithheld rule config steps frame
    → (IsWithheld rule config (steps ++ step ∷ []) frame → ⊥)
    → place (world_after rule config (steps ++ step ∷ [])) frame ≡ Free

-- What an unmapping that is accepted answers: the frames that its pages had just before, in the order of the pages; and each of
-- them is said to be free exactly where it is free after the step, and withheld exactly where the look back says so.
pub record IsTold (rule : PasidRule) (config : Config) (steps : List Step) (of_space page count : ℕ) (answer : Answer) : Type 0 where
  pub space : ℕ
  pub numbered : number (world_after rule config steps) space ≡ of_space
  pub frames : List ℕ
  pub one_a_page : length frames ≡ count
  pub was_there : (offset frame : ℕ) → slice_get frames offset ≡ Some frame → IsAt (world_after rule config steps) frame space (page + offset)
  pub said : (answer ≡ FreeFrames frames) ⊎ (answer ≡ WithheldFrames frames)
  pub free : (offset frame : ℕ) → slice_get frames offset ≡ Some frame
      → (answer ≡ FreeFrames frames) ↔ (place (world_after rule config (steps ++ Unmap of_space page count ∷ [])) frame ≡ Free)
  pub withheld : (offset frame : ℕ) → slice_get frames offset ≡ Some frame
      → (answer ≡ WithheldFrames frames) ↔ IsWithheld rule config (steps ++ Unmap of_space page count ∷ []) frame

-- each unmapping of single pages that is accepted, after every list of steps, answers so
abbrev pub AlwaysTold : Type 0
AlwaysTold =
    (rule : PasidRule) (config : Config) (steps : List Step) (of_space page count : ℕ) (answer : Answer)
    → Fits config
    → reply (world_after rule config steps) (Unmap of_space page count) ≡ Ok answer
    → IsTold rule config steps of_space page count answer

-- What an unmapping of a range that is accepted answers: how many pages of the range were mapped just before, whose frames it
-- takes out; and each of these frames is said to be free exactly where it is free after the step, and withheld exactly where
-- the look back says so. No page of the range is mapped then.
pub record IsToldOfRange (rule : PasidRule) (config : Config) (steps : List Step) (of_space page order : ℕ) (answer : Answer) : Type 0 where
  pub space : ℕ
  pub numbered : number (world_after rule config steps) space ≡ of_space
  pub frames : ℕ
  pub counted : frames ≡ count_below (2 ^ order) (λ offset. is_mapped (world_after rule config steps) space (page + offset))
  pub said : (answer ≡ RangeFree frames) ⊎ (answer ≡ RangeWithheld frames)
  pub free :
      (offset frame : ℕ)
      → offset < 2 ^ order
      → IsAt (world_after rule config steps) frame space (page + offset)
      → (answer ≡ RangeFree frames) ↔ (place (world_after rule config (steps ++ UnmapRange of_space page order ∷ [])) frame ≡ Free)
  pub withheld :
      (offset frame : ℕ)
      → offset < 2 ^ order
      → IsAt (world_after rule config steps) frame space (page + offset)
      → (answer ≡ RangeWithheld frames) ↔ IsWithheld rule config (steps ++ UnmapRange of_space page order ∷ []) frame
  pub gone :
      (offset : ℕ)
      → offset < 2 ^ order
      → is_mapped (world_after rule config (steps ++ UnmapRange of_space page order ∷ [])) space (page + offset) ≡ false

-- each unmapping of a range that is accepted, after every list of steps, answers so
abbrev pub AlwaysToldOfRange : Type 0
AlwaysToldOfRange =
    (rule : PasidRule) (config : Config) (steps : List Step) (of_space page order : ℕ) (answer : Answer)
    → Fits config
    → reply (world_after rule config steps) (UnmapRange of_space page order) ≡ Ok answer
    → IsToldOfRange rule config steps of_space page order answer

-- What a mapping that is accepted answers: a frame that was free just before, and that is at the page after the step.
abbrev pub AlwaysGiven : Type 0
AlwaysGiven =
    (rule : PasidRule) (config : Config) (steps : List Step) (of_space page : ℕ) (write : Bool) (answer : Answer)
    → Fits config
    → reply (world_after rule config steps) (Map of_space page write) ≡ Ok answer
    → (space frame : ℕ)
    × (number (world_after rule config steps) space ≡ of_space)
    × (answer ≡ Frame frame)
    × (frame < config.frames)
    × (place (world_after rule config steps) frame ≡ Free)
    × IsAt (world_after rule config (steps ++ Map of_space page write ∷ [])) frame space page
