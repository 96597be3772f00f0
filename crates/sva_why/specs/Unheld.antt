-- A step that isn't held back.
use Rattle.std.proofs.Common.{◌≡◌, refl, false, List, [], Ok, Err}
use Rattle.sva_step.specs.declared.answers.Answer.TheVariants as answer
use Rattle.sva_step.specs.declared.steps.Step.{Step}
use Rattle.sva_model.specs.Steps.{Reply}
use Rattle.sva_model.specs.Wire.{Wire}
use Rattle.sva_snapshot.specs.Explaining.{is_held}
use Rattle.sva_why.specs.Why.{why_of}

-- nothing is said of it
pub nothing_said : (wire : Wire) (asked : Step) (reply : Reply) → is_held reply ≡ false → why_of wire asked reply ≡ []
nothing_said wire asked (Err refusal) free = absurd (cc free)
nothing_said wire asked (Ok answer.Blocked) free = absurd (cc free)
nothing_said wire asked (Ok answer.Withheld) free = absurd (cc free)
nothing_said wire asked (Ok (answer.WithheldFrames frames)) free = absurd (cc free)
nothing_said wire asked (Ok (answer.RangeWithheld frames)) free = absurd (cc free)
nothing_said wire asked (Ok other) free = refl
