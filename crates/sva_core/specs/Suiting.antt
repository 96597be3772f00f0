-- Which answers the steps may have that make, move or spend a token, and that no other step has one that makes or spends one.
use Rattle.std.specs.Prelude.{IfOk}
use Rattle.sva_step.specs.declared.answers.Answer.{Answer}
use Rattle.sva_step.specs.declared.answers.Answer.TheVariants as answer
use Rattle.sva_step.specs.declared.steps.Step.{Step}
use Rattle.sva_step.specs.declared.steps.Step.TheVariants as step
use Rattle.sva_model.specs.Steps.{Reply}

-- of a bind
abbrev pub IsBinding : Answer → Type 0
IsBinding (answer.Binding binding pasid) = Unit {0}
IsBinding _ = ⊥

-- of an unbind
abbrev pub IsUnbound : Answer → Type 0
IsUnbound answer.Stopping = Unit {0}
IsUnbound answer.Quiet = Unit {0}
IsUnbound _ = ⊥

-- of an advance that doesn't release
abbrev pub IsMoved : Answer → Type 0
IsMoved answer.Draining = Unit {0}
IsMoved answer.Invalidating = Unit {0}
IsMoved answer.Quiet = Unit {0}
IsMoved _ = ⊥

-- of an advance
abbrev pub IsAdvanced : Answer → Type 0
IsAdvanced answer.Released = Unit {0}
IsAdvanced said = IsMoved said

-- of a use that begins
abbrev pub IsUse : Answer → Type 0
IsUse (answer.Use slot frame) = Unit {0}
IsUse _ = ⊥

-- of a use that ends
abbrev pub IsOver : Answer → Type 0
IsOver answer.Ended = Unit {0}
IsOver answer.Dead = Unit {0}
IsOver _ = ⊥

-- of a step that makes, moves and spends no token
abbrev pub IsStill : Answer → Type 0
IsStill (answer.Binding binding pasid) = ⊥
IsStill answer.Released = ⊥
IsStill (answer.Use slot frame) = ⊥
IsStill answer.Ended = ⊥
IsStill answer.Dead = ⊥
IsStill _ = Unit {0}

-- the answer is one that this kind of step may have, where the step isn't refused
abbrev pub SuitsStep : Step → Answer → Type 0
SuitsStep (step.Bind endpoint space) said = IsBinding said
SuitsStep (step.Unbind binding) said = IsUnbound said
SuitsStep (step.Advance binding) said = IsAdvanced said
SuitsStep (step.BeginUse endpoint pasid page write) said = IsUse said
SuitsStep (step.EndUse endpoint slot) said = IsOver said
SuitsStep _ said = IsStill said

-- a refusal suits each step
abbrev pub Suits : Step → Reply → Type 0
Suits asked reply = IfOk reply (λ (said : Answer). SuitsStep asked said)
