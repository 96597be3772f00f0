-- What explains to a report why a step is held back.
use Rattle.std.specs.Prelude.{◌≡◌, ℕ, Bool, true, false, List, [], Ok, Err}
use Rattle.sva_step.specs.declared.answers.Answer.TheVariants as answer
use Rattle.sva_step.specs.declared.steps.Step.{Step}
use Rattle.sva_model.specs.Steps.{Reply}
use Rattle.sva_model.specs.Wire.{Wire}

-- what is said of a step that was answered so, where this is kept behind it
abbrev pub Explaining : Type 0
Explaining = Wire → Step → Reply → List ℕ

-- a step is held back where it is refused or blocked, or where frames are withheld
abbrev pub is_held : Reply → Bool
is_held (Err refusal) = true
is_held (Ok answer.Blocked) = true
is_held (Ok answer.Withheld) = true
is_held (Ok (answer.WithheldFrames frames)) = true
is_held (Ok (answer.RangeWithheld frames)) = true
is_held (Ok other) = false

-- of a step that isn't held back nothing is said
abbrev pub IsSilent : Explaining → Type 0
IsSilent explained = (wire : Wire) (step : Step) (reply : Reply) → is_held reply ≡ false → explained wire step reply ≡ []
