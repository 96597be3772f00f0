-- Messages in flight, by their kinds and by their age.
use Rattle.std.specs.Prelude.{ℕ, ◌-◌, ◌==◌, ◌&&◌, Bool, List, [], ◌∷◌, length, slice_get, codes, find, Option, Some, None}
use Rattle.std.specs.Option.{option_map_or}
use Rattle.std.specs.Str.{bytes_eq}
use Rattle.sva_model.specs.Message.{Message}
use Rattle.sva_model.specs.Message.Message.{StartMessage, StopMessage, ResetMessage, CompletionMessage, InvalidateMessage, ResponseMessage, RequestMessage}
use Rattle.sva_model.specs.Message.Message.{InvalidatedMessage, PageRequestMessage, MarkerMessage, ResetDoneMessage}
use Rattle.sva_model.specs.Wire.{FlightWire, Wire}

-- the word for a kind of message
abbrev pub kind_word : Message → List ℕ
kind_word (StartMessage pasid) = codes "start"
kind_word (StopMessage pasid) = codes "stop"
kind_word ResetMessage = codes "reset"
kind_word (CompletionMessage tag frame read write) = codes "completion"
kind_word (InvalidateMessage itag pasid scope) = codes "invalidate"
kind_word (ResponseMessage pasid index code) = codes "response"
kind_word (RequestMessage tag pasid page) = codes "request"
kind_word (InvalidatedMessage vector field) = codes "invalidated"
kind_word (PageRequestMessage pasid index page read write last) = codes "page-request"
kind_word (MarkerMessage pasid) = codes "marker"
kind_word ResetDoneMessage = codes "reset-done"

-- the messages in flight, oldest first, and the number that the next one gets, which none of them has
pub record Link : Type 0 where
  pub flights : List FlightWire
  pub next : ℕ

-- as long as lines are only read, nothing is in flight
abbrev pub link_of : Option Wire → Link
link_of None = record { flights = []; next = 0 }
link_of (Some wire) = record { flights = wire.in_flight; next = wire.next_message }

-- the number of a message; where there is none, the number that the next one gets
abbrev pub number_or_next : Link → Option FlightWire → ℕ
number_or_next link found = option_map_or (λ flight. flight.number) found link.next

-- is it a message of this kind and of this endpoint?
abbrev pub is_of : (kind : List ℕ) → (endpoint : ℕ) → FlightWire → Bool
is_of kind endpoint flight = flight.endpoint == endpoint && bytes_eq (kind_word flight.message) kind

-- the oldest message of a kind at an endpoint
abbrev pub oldest_of : Link → (kind : List ℕ) → (endpoint : ℕ) → ℕ
oldest_of link kind endpoint = number_or_next link (find (is_of kind endpoint) link.flights)

-- the oldest message in flight, and the newest
abbrev pub oldest : Link → ℕ
oldest link = number_or_next link (slice_get link.flights 0)

abbrev pub newest : Link → ℕ
newest link = number_or_next link (slice_get link.flights (length link.flights - 1))
