-- What holds a step back that was refused, blocked or withheld.
use Rattle.std.specs.Prelude.{ℕ, Ok, Err, List, [], ◌∷◌, slice_get}
use Rattle.sva_step.specs.declared.answers.Answer.TheVariants as answer
use Rattle.sva_step.specs.declared.steps.Step.{Step}
use Rattle.sva_step.specs.declared.steps.Step.TheVariants as step
use Rattle.sva_model.specs.Steps.{Reply}
use Rattle.sva_model.specs.Wire.{Wire}
use Rattle.sva_explain.specs.Ranges.{withheld_range}
use Rattle.sva_explain.specs.declared.blockers.levels.Level.TheVariants.{First}
use Rattle.sva_explain.specs.Units.{blocked_lines, of_part, place_lines}
use Rattle.sva_why.specs.Causes.{refused_lines}

-- the head of a queue is blocked
abbrev pub blocked : Wire → Step → List ℕ
blocked wire (step.Pump endpoint) =
    of_part (λ part. blocked_lines First wire endpoint part part.unit.queue) (slice_get wire.parts endpoint)
blocked wire other = []

-- a frame is withheld; of an unmapping the first, since all of its frames wait for the same
abbrev pub looked : Wire → Step → List ℕ
looked wire (step.Look frame) = place_lines wire (slice_get wire.places frame)
looked wire other = []

abbrev pub first_lines : Wire → (frames : List ℕ) → List ℕ
first_lines wire [] = []
first_lines wire (frame ∷ frames) = place_lines wire (slice_get wire.places frame)

-- what holds a step back that was answered so, where this is kept behind it
abbrev pub why_of : Wire → Step → Reply → List ℕ
why_of wire asked (Err refusal) = refused_lines wire asked refusal
why_of wire asked (Ok answer.Blocked) = blocked wire asked
why_of wire asked (Ok answer.Withheld) = looked wire asked
why_of wire asked (Ok (answer.WithheldFrames frames)) = first_lines wire frames
why_of wire asked (Ok (answer.RangeWithheld frames)) = withheld_range wire asked
why_of wire asked (Ok other) = []
