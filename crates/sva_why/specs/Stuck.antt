-- What only a reset helps: an unfinished group at an endpoint whose page requests are disabled (PCI Express Base 5.0, section 10.4.2).
use Rattle.std.specs.Prelude.{◌≡◌, ◌≢◌, ℕ, ◌==◌, ◌&&◌, Bool, true, false, Option, Some, None, slice_get}
use Rattle.sva_step.specs.declared.steps.Step.{Step}
use Rattle.sva_step.specs.declared.steps.Step.TheVariants as step
use Rattle.sva_model.specs.Message.{Message}
use Rattle.sva_model.specs.Message.Message.{ResetMessage, ResponseMessage}
use Rattle.sva_model.specs.States.{is_collecting}
use Rattle.sva_model.specs.Wire.{EndpointWire, FlightWire, GroupWire, Wire}
use Rattle.sva_labels.specs.Finding.{flight_of}
use Rattle.sva_labels.specs.Host.{next_of}
use Rattle.sva_labels.specs.Moves.{Move, moved}

-- the endpoint's page requests are disabled, and the group of the index isn't finished
pub record IsStuck (wire : Wire) (endpoint index : ℕ) (group : GroupWire) : Type 0 where
  pub part : EndpointWire
  pub there : slice_get wire.parts endpoint ≡ Some part
  pub disabled : part.device.is_disabled ≡ true
  pub bears : slice_get part.device.groups index ≡ Some (Some group)
  pub unfinished : is_collecting group.state ≡ true

-- a move isn't one of the four that could change this: a reset that arrives at the endpoint, a response to the index that arrives there, and a
-- page request of the endpoint, of a new group or of one that goes on. Disabled page requests are refused (`device_causes_of_fault`), and an
-- unfinished group has no response.
abbrev pub IsOther : (endpoint index : ℕ) → Move → Type 0
IsOther endpoint index (Move.ResetArrives at message) = at ≢ endpoint
IsOther endpoint index (Move.Answered at message own code) = at ≡ endpoint → own ≢ index
IsOther endpoint index (Move.Group at pasid own page read write last) = at ≢ endpoint
IsOther endpoint index (Move.Request at pasid own page read write last) = at ≢ endpoint
IsOther endpoint index other = Unit {0}

-- no other move changes it, by itself
abbrev pub StaysByMoves : Type 0
StaysByMoves =
    (wire : Wire) (made : Move) (endpoint index : ℕ) (group : GroupWire) → IsStuck wire endpoint index group → IsOther endpoint index made
    → IsStuck (moved wire made) endpoint index group

-- a reset, and a response to the group of the index
abbrev pub helps : (index : ℕ) → Message → Bool
helps index ResetMessage = true
helps index (ResponseMessage pasid own code) = own == index
helps index message = false

-- the step delivers such a message to the endpoint. Where a group isn't finished, no response to it is in flight, so that only a reset is left
abbrev pub is_helped_by : (endpoint index : ℕ) → Option FlightWire → Bool
is_helped_by endpoint index None = false
is_helped_by endpoint index (Some flight) = flight.endpoint == endpoint && helps index flight.message

abbrev pub is_helped : Wire → (endpoint index : ℕ) → Step → Bool
is_helped wire endpoint index (step.Deliver number) = is_helped_by endpoint index (flight_of wire number)
is_helped wire endpoint index other = false

-- no other step changes it
abbrev pub StuckStays : Type 0
StuckStays =
    (wire : Wire) (taken : Step) (endpoint index : ℕ) (group : GroupWire) → IsStuck wire endpoint index group
    → is_helped wire endpoint index taken ≡ false → IsStuck (next_of wire taken) endpoint index group
