-- A script that is run: what each of its lines comes to.
use Rattle.std.specs.Prelude.{◌≡◌, ℕ, ◌-◌, ◌==◌, List, length, slice_get, find, Option, Some, None, option_map, Result, Ok, Err}
use Rattle.sva_step.specs.declared.steps.Step.{Step}
use Rattle.sva_step.specs.declared.steps.Step.TheVariants.{Deliver, Space}
use Rattle.sva_step.specs.declared.refusals.Refusal.TheVariants.{OutOfMemory}
use Rattle.sva_model.specs.Message.{Message}
use Rattle.sva_model.specs.Steps.{Reply}
use Rattle.sva_model.specs.Wire.{Wire}
use Rattle.sva_labels.specs.Host.{next_of, reply_of}
use Rattle.sva_parts_by_labels.specs.Flights.{kind_seen}
use Rattle.sva_script.specs.declared.faults.Stop.{Stop}
use Rattle.sva_script.specs.declared.faults.Stop.TheVariants as stop
use Rattle.sva_script.specs.declared.faults.Wrong.{Wrong}
use Rattle.sva_script.specs.declared.given.Told.{Told}
use Rattle.sva_script.specs.Lines.{Parts}
use Rattle.sva_script.specs.Names.{Known, with_name}
use Rattle.sva_script_runs.specs.declared.running.Came.{Came}
use Rattle.sva_script_runs.specs.declared.running.Came.TheVariants as came
use Rattle.sva_script_runs.specs.declared.running.Taken.{Taken}
use Rattle.sva_script_reading.specs.Lines.{IsStopped, LineRead, Plain, expected_text, line_read, plain_text}
use Rattle.sva_script_reading.specs.Messages.{Link, link_of}

-- where a script is: what the host and the link keep, and the names so far
pub record Running : Type 0 where
  pub seen : Wire
  pub known : Known

-- ---- A step

-- what a step comes to where these are kept: its answer, and the numbers that its messages get
abbrev pub told_of : Wire → Step → Told
told_of wire step = record { reply = reply_of wire step; first = wire.next_message; next = (next_of wire step).next_message }

-- the message of a number
abbrev pub message_of : Link → (number : ℕ) → Option Message
message_of link number = option_map (λ flight. flight.message) (find (λ flight. flight.number == number) link.flights)

-- the first of so many messages that were sent last
abbrev pub sent_of : Link → (sent : ℕ) → Option Message
sent_of link sent = option_map (λ flight. flight.message) (slice_get link.flights (length link.flights - sent))

-- what a step delivers, where it is accepted
abbrev pub delivered_by : Link → Reply → Step → Option Message
delivered_by link (Err why) step = None
delivered_by link (Ok reply) (Deliver message) = message_of link message
delivered_by link (Ok reply) step = None

-- what is told of a step that was taken where these are kept
pub record IsTaken (wire : Wire) (step : Step) (taken : Taken) : Type 0 where
  pub is_step : taken.step ≡ step
  pub told : taken.told ≡ told_of wire step
  pub delivered : option_map kind_seen taken.delivered ≡ delivered_by (link_of (Some wire)) (reply_of wire step) step
  pub first_sent : option_map kind_seen taken.first_sent ≡ sent_of (link_of (Some (next_of wire step))) ((next_of wire step).next_message - wire.next_message)

-- a step was taken, and what is told of it is in its place; the names are those of before
abbrev pub Applies : Running → Step → Running → Taken → Result (Unit {0}) Stop → Type 0
Applies old step new taken (Ok done) = IsTaken old.seen step taken × (new ≡ record { seen = next_of old.seen step; known = old.known })
Applies old step new taken (Err stop.Memory) = Unit {0}
Applies old step new taken (Err (stop.Wrong fault)) = ⊥

-- of no step: a place for what is told
abbrev pub none_taken : Taken
none_taken = record {
  step = Space;
  told = record { reply = Err OutOfMemory; first = 0; next = 0 };
  delivered = None;
  first_sent = None;
}

-- ---- A line

-- where a script is behind a line that was read: where it has no step nothing changes, and else the step is taken, and the line's name noted
abbrev pub behind : Running → (line : ℕ) → (name : Option (List ℕ)) → Option Plain → Running
behind running line name None = running
behind running line name (Some plain) = record {
  seen = next_of running.seen plain.step;
  known = with_name running.known name (record { line = line; told = Some (told_of running.seen plain.step) });
}

-- a line's name was noted with what it came to, and the world is that of before
abbrev pub IsNamed : Running → (line : ℕ) → Option (List ℕ) → Told → Running → Result (Unit {0}) Stop → Type 0
IsNamed old line name told new (Ok done) =
    new ≡ record { seen = old.seen; known = with_name old.known name (record { line = line; told = Some told }) }
IsNamed old line name told new (Err stop.Memory) = Unit {0}
IsNamed old line name told new (Err (stop.Wrong fault)) = ⊥

-- what is told of a line: of a step what is in its place, and nothing of the last line
abbrev pub told_in : Taken → Came → Option Taken
told_in taken came.Step = Some taken
told_in taken came.End = None

-- what came of a line
abbrev pub came_of : Taken → Result Came Stop → Result (Option Taken) Stop
came_of taken (Ok which) = Ok (told_in taken which)
came_of taken (Err why) = Err why

-- what is told of a line's step
abbrev pub TellsStep : Wire → Option Plain → Option Taken → Type 0
TellsStep wire None None = Unit {0}
TellsStep wire (Some plain) (Some taken) = IsTaken wire plain.step taken
TellsStep wire plain taken = ⊥

-- what a call makes of a line that was read so; a line that is wrong changes nothing, and after want of memory nothing is said
abbrev pub TakesRead : Running → (line : ℕ) → Parts → Running → (text expected : List ℕ) → Result LineRead Wrong → Result (Option Taken) Stop → Type 0
TakesRead old line parts new text expected (Ok read) (Ok taken) =
    TellsStep old.seen read.step taken × (new ≡ behind old line parts.name read.step) × (text ≡ plain_text read.step)
    × (expected ≡ expected_text read.expected)
TakesRead old line parts new text expected (Ok read) (Err stop.Memory) = Unit {0}
TakesRead old line parts new text expected (Ok read) (Err (stop.Wrong fault)) = ⊥
TakesRead old line parts new text expected (Err fault) result = IsStopped fault result × (new ≡ old)

-- the line is read where the script is
abbrev pub read_at : Running → Parts → Result LineRead Wrong
read_at running parts = line_read running.known (link_of (Some running.seen)) parts

abbrev pub Takes : Running → (line : ℕ) → Parts → Running → (text expected : List ℕ) → Result (Option Taken) Stop → Type 0
Takes old line parts new text expected result = TakesRead old line parts new text expected (read_at old parts) result
