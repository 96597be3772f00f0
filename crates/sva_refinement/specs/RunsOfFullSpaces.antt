-- Runs that are worked out, from a space of as many pages as it can have.
use Rattle.std.specs.Prelude.{true, false, List, [], ◌∷◌, None, ◌++◌, Some}
use Rattle.sva_step.specs.declared.answers.Answer.TheVariants as answer
use Rattle.sva_step.specs.declared.refusals.Refusal.TheVariants as refusal
use Rattle.sva_step.specs.declared.steps.Step.TheVariants as step
use Rattle.sva_step.specs.declared.steps.Verdict.TheVariants as verdict
use Rattle.sva_model.specs.State.PasidRule.{PerSpace}
use Rattle.sva_model.specs.Runs.{Line, says, config, refused}
use Rattle.std.specs.Prelude.{◌≡◌, ℕ, zero, suc, ◌<◌, ◌≤◌, ◌^◌, ◌&&◌, ◌==◌, nat_lt, if◌then◌else◌, map}
use Rattle.sva_step.specs.declared.steps.Step.{Step}
use Rattle.sva_model.specs.Runs.{steps_of}
use Rattle.sva_model.specs.State.{World, opened}
use Rattle.sva_model.specs.State.MappingState.{Unmade, Present}
use Rattle.sva_model.specs.Steps.{replies, counts, run, world_after}

-- One space, of which the pages from 0 on are mapped, each for reading alone: page q is at frame q. It is written down, as
-- the maps of 1024 pages, one by one, would take the checker minutes; that a Space and 1024 maps reach it is
-- `FullSpaceReached`.
abbrev pub mapped_space : (pages frames first : ℕ) → World
mapped_space pages frames first =
    record (opened PerSpace (config 1 frames 1 first)) {
      spaces = 1;
      is_live = λ s. s == 0;
      mappings =
          record {
            made = pages;
            space = λ m. 0;
            page = λ m. if nat_lt m pages then m else 0;
            frame = λ m. if nat_lt m pages then m else 0;
            write = λ m. false;
            state = λ m. if nat_lt m pages then Present else Unmade;
            at = λ s q. if s == 0 && nat_lt q pages then Some q else None;
            latest = λ f. if nat_lt f pages then Some f else None;
          };
    }

-- a space of as many pages as it can have
abbrev pub full_space : (frames first : ℕ) → World
full_space = mapped_space 1024

-- the maps of the first pages of the first space, in order of pages
unfoldable pub maps_of : (pages first : ℕ) → List Step
maps_of zero first = []
maps_of (suc page) first = maps_of page first ++ step.Map first page false ∷ []

-- a Space, and a map of each page, reach the full space
abbrev pub FullSpaceReached : Type 0
FullSpaceReached =
    (frames first : ℕ)
    → 1024 ≤ frames
    → first < 2 ^ 63
    → world_after PerSpace (config 1 frames 1 first) (step.Space ∷ maps_of 1024 first) ≡ full_space frames first

-- as IsRun, from a world that is there
abbrev pub IsRunAfter : World → List Line → (free mapped withheld : ℕ) → Type 0
IsRunAfter world row free mapped withheld =
    (replies world (steps_of row) ≡ map (λ l. l.reply) row)
    × (counts (run world (steps_of row)) ≡ record { free = free; mapped = mapped; withheld = withheld })

-- a space of 1024 pages and no free frame
abbrev pub full_space_without_frames : List Line
full_space_without_frames =
    refused (step.Map 0 5 true) refusal.Mapped  -- SpaceFull too
    ∷ refused (step.Map 0 1024 false) refusal.SpaceFull  -- NoFrame too
    ∷ says (step.Bind 0 0) (answer.Binding 0 1)
    ∷ says (step.Deliver 0) answer.Started
    ∷ says (step.Fault 0 1 1024 true false None true) (answer.Group 0)
    ∷ says (step.Deliver 1) answer.Queued
    ∷ says (step.Serve 0) answer.Job
    ∷ says (step.Take 0) (answer.JobTaken 0 0 1)
    ∷ refused (step.Reply 0 verdict.Success) refusal.NoFrame  -- SpaceFull too
    ∷ says (step.Reply 0 verdict.Invalid) answer.Invalid
    ∷ says (step.Deliver 2) answer.Answered
    ∷ []

abbrev pub FullSpaceWithoutFrames : Type 0
FullSpaceWithoutFrames = IsRunAfter (full_space 1024 0) full_space_without_frames 0 1024 0

-- a space of 1024 pages, one free frame, and two numbers of messages
abbrev pub full_space_without_numbers : List Line
full_space_without_numbers =
    refused (step.Map 9223372036854775806 1024 false) refusal.SpaceFull
    ∷ says (step.Bind 0 9223372036854775806) (answer.Binding 9223372036854775806 1)
    ∷ says (step.Deliver 9223372036854775806) answer.Started
    ∷ says (step.Fault 0 1 1024 true false None true) (answer.Group 0)
    ∷ says (step.Deliver 9223372036854775807) answer.Queued
    ∷ says (step.Serve 0) answer.Job
    ∷ says (step.Take 0) (answer.JobTaken 9223372036854775806 0 1)
    ∷ refused (step.Reply 0 verdict.Success) refusal.SpaceFull  -- NumbersSpent too
    ∷ refused (step.Reply 0 verdict.Invalid) refusal.NumbersSpent
    ∷ says (step.Unmap 9223372036854775806 3 1) (answer.WithheldFrames (3 ∷ []))
    ∷ refused (step.Reply 0 verdict.Success) refusal.NumbersSpent
    ∷ []

abbrev pub FullSpaceWithoutNumbers : Type 0
FullSpaceWithoutNumbers = IsRunAfter (full_space 1025 9223372036854775806) full_space_without_numbers 1 1023 1
