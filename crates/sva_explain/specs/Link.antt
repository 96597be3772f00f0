-- What is said of messages in flight that hold something back.
use Rattle.std.specs.Prelude.{ℕ, ◌==◌, Bool, false, true, ◌&&◌, if◌then◌else◌, List, [], ◌++◌, codes, flat_map}
use Rattle.std.specs.List.{find}
use Rattle.sva_step.specs.declared.steps.Step.TheVariants as step
use Rattle.sva_model.specs.Labels.{is_set}
use Rattle.sva_model.specs.Message.{Message}
use Rattle.sva_model.specs.Message.Message.{StartMessage, StopMessage, ResetMessage, CompletionMessage, InvalidateMessage, ResponseMessage, RequestMessage}
use Rattle.sva_model.specs.Message.Message.{InvalidatedMessage, PageRequestMessage, MarkerMessage, ResetDoneMessage}
use Rattle.sva_model.specs.Wire.{FlightWire, Wire}
use Rattle.sva_labels.specs.Finding.{holds_back}
use Rattle.sva_lines.specs.Kinds.{behind_text}
use Rattle.sva_lines.specs.Kinds.{message_text}
use Rattle.sva_lines.specs.Pieces.{field, line_end}
use Rattle.sva_explain.specs.declared.blockers.link.Topic.{Topic}
use Rattle.sva_explain.specs.declared.blockers.link.Topic.TheVariants.{Start, Stop, Marker, Reset, Itag, Tag, Asks, Responds}
use Rattle.sva_explain.specs.declared.blockers.levels.Level.{Level}
use Rattle.sva_explain.specs.declared.blockers.levels.Level.TheVariants.{First}
use Rattle.sva_explain.specs.Accepted.{is_accepted}
use Rattle.sva_explain.specs.Lines.{bracket, indent}

-- is the message about it? A reset and a reset-done are about a reset; a request and its completion, or its response, about their label.
abbrev pub is_about : Topic → Message → Bool
is_about (Start pasid) (StartMessage own) = own == pasid
is_about (Stop pasid) (StopMessage own) = own == pasid
is_about (Marker pasid) (MarkerMessage own) = own == pasid
is_about Reset ResetMessage = true
is_about Reset ResetDoneMessage = true
is_about (Itag itag) (InvalidateMessage own pasid scope) = own == itag
is_about (Itag itag) (InvalidatedMessage vector count) = is_set vector itag
is_about (Tag tag) (RequestMessage own pasid page) = own == tag
is_about (Tag tag) (CompletionMessage own frame read write) = own == tag
is_about (Asks index) (PageRequestMessage pasid own page read write last) = own == index
is_about (Responds index) (ResponseMessage pasid own code) = own == index
is_about topic message = false

-- ` [deliver 3]`; or the oldest message that holds it back: `, behind 2`
abbrev pub link_text : Wire → FlightWire → List ℕ
link_text wire flight =
    if is_accepted wire (step.Deliver flight.number) then bracket true (codes " [deliver ") flight.number
    else behind_text (find (holds_back flight) wire.in_flight)

-- `message 3 is in flight: stop pasid 1 [deliver 3]`
abbrev pub message_line : Level → (stands : List ℕ) → Wire → FlightWire → List ℕ
message_line level stands wire flight =
    indent level ++ field (codes "message ") flight.number ++ stands ++ message_text flight.message ++ link_text wire flight ++ line_end

-- each message of an endpoint that is about something
abbrev pub about_if : Level → Wire → (endpoint : ℕ) → Topic → FlightWire → List ℕ
about_if level wire endpoint topic flight =
    if flight.endpoint == endpoint && is_about topic flight.message then message_line level (codes " is in flight:") wire flight else []

abbrev pub about_lines : Level → Wire → (endpoint : ℕ) → Topic → List ℕ
about_lines level wire endpoint topic = flat_map (about_if level wire endpoint topic) wire.in_flight

-- each message that has to arrive before another
abbrev pub older_if : Wire → FlightWire → FlightWire → List ℕ
older_if wire flight older = if holds_back flight older then message_line First (codes " is older:") wire older else []

abbrev pub older_lines : Wire → FlightWire → List ℕ
older_lines wire flight = flat_map (older_if wire flight) wire.in_flight
