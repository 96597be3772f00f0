-- A message in flight that was found in its bag.
use Rattle.std.specs.Prelude.{◌≡◌, Some, option_map, slice_get}
use Rattle.sva_msg.specs.Bag.{InFlight, message_at}
use Rattle.sva_msg.specs.declared.in_flight.Flight.{Flight}

-- it is in flight under its number, and stands at its place
pub record IsIn (bag : InFlight) (flight : Flight) : Type 0 where
  pub found : message_at bag flight.number ≡ Some flight.message
  pub stands : slice_get bag.messages flight.place ≡ Some (flight.number, flight.message)

-- its number stands there, whatever is told of the message
abbrev pub IsAt : InFlight → Flight → Type 0
IsAt bag flight = option_map (λ entry. entry.0) (slice_get bag.messages flight.place) ≡ Some flight.number
