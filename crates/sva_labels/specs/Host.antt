-- The steps by numbers and labels: what a host answers, and what it keeps afterwards, read off what it keeps before.
use Rattle.std.specs.Prelude.{List, [], ◌∷◌, None, Ok, Err}
use Rattle.sva_step.specs.declared.limits.Config.{Config}
use Rattle.sva_step.specs.declared.steps.Step.{Step}
use Rattle.sva_model.specs.Words.{tabulate}
use Rattle.sva_model.specs.Refusals.{Cause, by_first_cause}
use Rattle.sva_model.specs.Steps.{Reply}
use Rattle.sva_model.specs.Wire.{Wire}
use Rattle.sva_model.specs.Wire.PlaceWire.{FreeWire}
use Rattle.sva_labels.specs.Finding.{idle}
use Rattle.sva_labels.specs.Causes.{causes_of}
use Rattle.sva_labels.specs.Moves.{Move, all_moved}
use Rattle.sva_labels.specs.Outcomes as outcomes
use Rattle.sva_labels.specs.Outcomes.{result_of}

-- what is answered, and what is moved
pub record Decision : Type 0 where
  pub reply : Reply
  pub moves : List Move

-- the first cause that holds refuses the step
abbrev pub checked : List Cause → outcomes.Result → Decision
checked causes result =
    by_first_cause causes (λ refusal. record { reply = Err refusal; moves = [] }) (record { reply = Ok result.answer; moves = result.moves })

-- what a step is answered, and what it moves
abbrev pub decide_of : Wire → Step → Decision
decide_of wire step = checked (causes_of wire step) (result_of wire step)

-- the answer to a step, or its refusal
abbrev pub reply_of : Wire → Step → Reply
reply_of wire step = (decide_of wire step).reply

-- what is kept after a step
abbrev pub next_of : Wire → Step → Wire
next_of wire step = all_moved wire (decide_of wire step).moves

-- what a host keeps before the first step
abbrev pub first_wire : Config → Wire
first_wire config =
    record {
      spaces = [];
      places = tabulate config.frames (λ frame. FreeWire);
      bindings = [];
      parts = tabulate config.endpoints (λ endpoint. idle);
      jobs = [];
      hands = tabulate config.workers (λ worker. None);
      in_flight = [];
      next_space = config.first;
      next_binding = config.first;
      next_message = config.first;
      next_cookie = config.first;
    }

-- the answers to a list of steps
unfoldable pub replies_of : Wire → List Step → List Reply
replies_of wire [] = []
replies_of wire (step ∷ steps) = reply_of wire step ∷ replies_of (next_of wire step) steps

-- what is kept after it
abbrev pub run_of : Wire → List Step → Wire
run_of wire [] = wire
run_of wire (step ∷ steps) = run_of (next_of wire step) steps
