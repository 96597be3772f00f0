-- What is said of the messages in flight.
use Rattle.std.specs.Prelude.{ℕ, if◌then◌else◌, List, ◌++◌, codes}
use Rattle.std.specs.List.{find}
use Rattle.sva_model.specs.Wire.{FlightWire, Wire}
use Rattle.sva_labels.specs.Finding.{holds_back, may_deliver}
use Rattle.sva_lines.specs.Kinds.{behind_text, message_text}
use Rattle.sva_lines.specs.Pieces.{field, head, line_end}

abbrev pub standing_text : Wire → FlightWire → List ℕ
standing_text wire flight =
    if may_deliver wire flight then codes ", may be delivered" else behind_text (find (holds_back flight) wire.in_flight)

-- `message 3   endpoint 0 invalidate itag 0 pasid 1 page 16, may be delivered`
abbrev pub message_line : Wire → FlightWire → List ℕ
message_line wire flight =
    head (codes "message ") flight.number ++ field (codes " endpoint ") flight.endpoint ++ message_text flight.message
    ++ standing_text wire flight ++ line_end
