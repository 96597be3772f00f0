-- How many page requests wait to be filed; and that each that is filed waited before, and each that waits anew took the number of
-- a message. So no more are ever filed than messages are numbered.
use Rattle.std.specs.Prelude.{ℕ, ◌+◌, ◌≤◌, Bool, true, false, length, Ok}
use Rattle.std.specs.List.{count_by, sum_by}
use Rattle.sva_step.specs.declared.answers.Answer.TheVariants as answer
use Rattle.sva_step.specs.declared.steps.Step.{Step}
use Rattle.sva_model.specs.Message.{Message}
use Rattle.sva_model.specs.Message.Message.{PageRequestMessage}
use Rattle.sva_model.specs.Steps.{Reply}
use Rattle.sva_model.specs.Wire.{Wire, EndpointWire, FlightWire}
use Rattle.sva_labels.specs.Host.{reply_of, next_of}

-- is it a page request? A Stop Marker isn't one here, and never stands in the queue (this project's own,
-- in place of PCI Express Base 5.0, section 10.4.1).
abbrev pub is_page_request : Message → Bool
is_page_request (PageRequestMessage pasid index page read write last) = true
is_page_request _ = false

-- in flight, and in the page request queues of all endpoints
abbrev pub waiting : Wire → ℕ
waiting wire =
    count_by (λ (flight : FlightWire). is_page_request flight.message) wire.in_flight + sum_by (λ (part : EndpointWire). length part.page_queue) wire.parts

-- how many are filed by a step with this reply
abbrev pub files : Reply → ℕ
files (Ok answer.Part) = 1
files (Ok answer.Job) = 1
files _ = 0

-- of every wire, whether some list of steps leads to it or not
abbrev pub FiledInTurn : Type 0
FiledInTurn =
    (wire : Wire) (step : Step)
    → waiting (next_of wire step) + files (reply_of wire step) + wire.next_message ≤ waiting wire + (next_of wire step).next_message
