-- The step, and the run over a list of steps. A refused step changes nothing. (This project's own form.)
use Rattle.std.specs.Prelude.{ℕ, Bool, true, false, List, [], ◌∷◌, Result, Ok, Err}
use Rattle.sva_step.specs.declared.answers.Answer.{Answer}
use Rattle.sva_step.specs.declared.limits.Config.{Config}
use Rattle.sva_step.specs.declared.refusals.Refusal.{Refusal}
use Rattle.sva_step.specs.declared.steps.Step.{Step}
use Rattle.sva_model.specs.Words.{count_below}
use Rattle.sva_model.specs.State.{PasidRule, World, opened}
use Rattle.sva_model.specs.States.{Place, place, is_free_place}
use Rattle.sva_model.specs.States.Place.{Mapped, Withheld}
use Rattle.sva_model.specs.Acts.{Act, act}
use Rattle.sva_model.specs.Refusals.{Cause, by_first_cause, refusals}
use Rattle.sva_model.specs.Outcomes.{Outcome, outcome}

-- an answer, or the refusal
abbrev pub Reply : Type 0
Reply = Result Answer Refusal

-- what is answered, and what is done
pub record Decision : Type 0 where
  pub reply : Reply
  pub acts : List Act

-- the first cause that holds refuses the step
abbrev pub checked : List Cause → Outcome → Decision
checked causes outcome =
    by_first_cause causes (λ refusal. record { reply = Err refusal; acts = [] }) (record { reply = Ok outcome.answer; acts = outcome.acts })

-- what a step is answered, and what it does
abbrev pub decide : World → Step → Decision
decide world step = checked (refusals world step) (outcome world step)

-- the world after acts, one after another
abbrev pub after_acts : World → List Act → World
after_acts world [] = world
after_acts world (first ∷ acts) = after_acts (act world first) acts

-- the answer to a step, and the next world
abbrev pub reply : World → Step → Reply
reply world step = (decide world step).reply

-- the next world
abbrev pub next : World → Step → World
next world step = after_acts world (decide world step).acts

-- the world after a list of steps
abbrev pub run : World → List Step → World
run world [] = world
run world (step ∷ steps) = run (next world step) steps

-- the answers to a list of steps
unfoldable pub replies : World → List Step → List Reply
replies world [] = []
replies world (step ∷ steps) = reply world step ∷ replies (next world step) steps

-- the world after a list of steps from the first
abbrev pub world_after : PasidRule → Config → List Step → World
world_after rule config steps = run (opened rule config) steps

-- is the place mapped?
abbrev pub is_mapped_at : Place → Bool
is_mapped_at Mapped = true
is_mapped_at _ = false

-- is the place withheld?
abbrev pub is_withheld_at : Place → Bool
is_withheld_at Withheld = true
is_withheld_at _ = false

-- how many frames are at each place
pub record Counts : Type 0 where
  pub free : ℕ
  pub mapped : ℕ
  pub withheld : ℕ

-- the counts of a world's frames
abbrev pub counts : World → Counts
counts world =
    record {
      free = count_below world.config.frames (λ f. is_free_place (place world f));
      mapped = count_below world.config.frames (λ f. is_mapped_at (place world f));
      withheld = count_below world.config.frames (λ f. is_withheld_at (place world f));
    }
