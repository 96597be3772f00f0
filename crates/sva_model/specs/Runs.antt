-- How a run that is worked out is written: line by line, each step with its answer, and at last the counts of frames.
use Rattle.std.specs.Prelude.{◌≡◌, ℕ, zero, suc, false, List, [], ◌∷◌, ◌++◌, Ok, Err, map}
use Rattle.sva_step.specs.declared.answers.Answer.{Answer}
use Rattle.sva_step.specs.declared.limits.Config.{Config}
use Rattle.sva_step.specs.declared.refusals.Refusal.{Refusal}
use Rattle.sva_step.specs.declared.steps.Step.{Step}
use Rattle.sva_model.specs.State.PasidRule.{PerSpace}
use Rattle.sva_model.specs.Words.{tabulate}
use Rattle.sva_model.specs.Message.{Scope, Message}
use Rattle.sva_model.specs.Message.Scope.{Coded}
use Rattle.sva_model.specs.State.{PasidRule, Order, Endpoint, World, opened}
use Rattle.sva_model.specs.State.Order.{RangeOf}
use Rattle.sva_model.specs.Steps.{Reply, replies, counts, world_after}

-- one line of a run: a step, and its answer or refusal
pub record Line : Type 0 where
  pub step : Step
  pub reply : Reply

-- the step is accepted with this answer
abbrev pub says : Step → Answer → Line
says asked answered = record { step = asked; reply = Ok answered }

-- the step is refused for this cause
abbrev pub refused : Step → Refusal → Line
refused asked cause = record { step = asked; reply = Err cause }

-- one page, as an Invalidate Request names it
abbrev pub one_page : (page : ℕ) → Scope
one_page page = Coded (record { page = page; s = false })

-- the invalidation of one page of a binding
abbrev pub page_of : (binding page : ℕ) → Order
page_of binding page = RangeOf binding (record { base = page; order = 0 })

-- so many lines, of which each goes by its place
abbrev pub lines : ℕ → (ℕ → Line) → List Line
lines zero line_at = []
lines (suc place) line_at = lines place line_at ++ line_at place ∷ []

-- a config, by its numbers in the order of the line `config`, and the first number of each counter
abbrev pub config : (endpoints frames workers first : ℕ) → Config
config endpoints frames workers first = record { endpoints = endpoints; frames = frames; workers = workers; first = first }

-- the steps of a run, without their answers
abbrev pub steps_of : List Line → List Step
steps_of row = map (λ l. l.step) row

-- by a rule of PASIDs the answers of the definitions over the row's steps are the row's answers, and so are the counts at its
-- end
abbrev pub IsRunBy : PasidRule → Config → List Line → (free mapped withheld : ℕ) → Type 0
IsRunBy rule limits row free mapped withheld =
    (replies (opened rule limits) (steps_of row) ≡ map (λ l. l.reply) row)
    × (counts (world_after rule limits (steps_of row)) ≡ record { free = free; mapped = mapped; withheld = withheld })

-- by that of one PASID for each space
abbrev pub IsRun : Config → List Line → (free mapped withheld : ℕ) → Type 0
IsRun = IsRunBy PerSpace

-- a message as it was sent, whatever its endpoint
abbrev pub carried_after : World → ℕ → Message
carried_after world message = (world.part (world.link_of message)).carried message

-- the messages of a run as they were sent, from the first on, are these
abbrev pub AreSentInAll : Config → List Line → (count : ℕ) → List Message → Type 0
AreSentInAll limits row count messages = tabulate count (carried_after (world_after PerSpace limits (steps_of row))) ≡ messages

-- the orders of a unit, in the order of submission
abbrev pub orders_of : Endpoint → List Order
orders_of part = tabulate part.orders part.order

-- those of an endpoint's unit after a run are these
abbrev pub AreOrdered : Config → List Line → (endpoint : ℕ) → List Order → Type 0
AreOrdered limits row endpoint orders = orders_of ((world_after PerSpace limits (steps_of row)).part endpoint) ≡ orders
