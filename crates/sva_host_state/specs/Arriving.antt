-- A message that arrives, by its kind.
use Rattle.std.specs.Prelude.{◌≡◌, ℕ, Bool, true, false, Option, Some, None, option_map, slice_get}
use Rattle.sva_model.specs.Wire.{Wire, FlightWire}
use Rattle.sva_labels.specs.Finding.{flight_of, may_deliver, unit_of}
use Rattle.sva_labels.specs.Causes.{delivery_sends}
use Rattle.sva_msg.specs.declared.in_flight.Flight.{Flight}
use Rattle.sva_msg.specs.declared.messages.Kind.{Kind}
use Rattle.sva_parts_by_labels.specs.Flights.{flight_seen}

-- a message of this kind is in flight under a number, on the way of an endpoint, and nothing holds it back
pub record IsArriving (world : Wire) (number endpoint : ℕ) (kind : Kind) : Type 0 where
  pub found : flight_of world number ≡ Some (flight_seen (number, record { endpoint = endpoint; kind = kind }))
  pub free : may_deliver world (flight_seen (number, record { endpoint = endpoint; kind = kind })) ≡ true

-- it stands at the place among those in flight where it was found
abbrev pub StandsAt : Wire → Flight → Type 0
StandsAt world flight = option_map (λ (f : FlightWire). f.number) (slice_get world.in_flight flight.place) ≡ Some flight.number

-- does the delivery of what is in flight, if anything is, send a message?
abbrev pub answers : Wire → Option FlightWire → Bool
answers world None = false
answers world (Some flight) = delivery_sends (unit_of world flight.endpoint) flight.message
