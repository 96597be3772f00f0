-- The text of a reply to a step, and of a line.
use Rattle.std.specs.Prelude.{ℕ, List, [], ◌∷◌, ◌++◌, Result, Ok, Err}
use Rattle.sva_step.specs.declared.answers.Answer.{Answer}
use Rattle.sva_step.specs.declared.refusals.Refusal.{Refusal}
use Rattle.sva_step.specs.Refusals.{refusal_text}
use Rattle.sva_step.specs.Texts.{answer_text}

-- a line is ended by LF
abbrev pub ended : List ℕ → List ℕ
ended text = text ++ 10 ∷ []

-- an answer's text, or `refused N Name`
abbrev pub reply_text : Result Answer Refusal → List ℕ
reply_text (Ok answer) = answer_text answer
reply_text (Err refusal) = refusal_text refusal
