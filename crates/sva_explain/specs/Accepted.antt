-- Steps that would be accepted now.
use Rattle.std.specs.Prelude.{◌≡◌, ℕ, ◌^◌, Bool, true, nat_lt, not, if◌then◌else◌, is_ok}
use Rattle.std.specs.List.{list_any}
use Rattle.sva_step.specs.declared.steps.Step.{Step}
use Rattle.sva_model.specs.Refusals.{Cause}
use Rattle.sva_model.specs.Wire.{Wire}
use Rattle.sva_labels.specs.Causes.{causes_of}
use Rattle.sva_labels.specs.Host.{reply_of}

-- no cause refuses the step
abbrev pub is_accepted : Wire → Step → Bool
is_accepted wire step = not (list_any (λ (cause : Cause). cause.0) (causes_of wire step))

-- the vector that names an ITag alone; there are 32
abbrev pub vector_of : (itag : ℕ) → ℕ
vector_of itag = if nat_lt itag 32 then 2 ^ itag else 0

-- such a step is answered, and not refused
abbrev pub AcceptedAreAnswered : Type 0
AcceptedAreAnswered = (wire : Wire) (step : Step) → is_accepted wire step ≡ true → is_ok (reply_of wire step) ≡ true
