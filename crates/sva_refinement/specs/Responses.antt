-- Responses by labels: one in flight finds by its index a group of its PASID, whose last page request was sent (PCI Express Base 5.0,
-- section 10.4.2). So of a group that isn't finished none is in flight.
use Rattle.std.specs.Prelude.{◌≡◌, ℕ, false, List, Some, slice_get}
use Rattle.sva_step.specs.declared.limits.Config.{Config}
use Rattle.sva_step.specs.declared.steps.Step.{Step}
use Rattle.sva_model.specs.Message.{Code}
use Rattle.sva_model.specs.Message.Message.{ResponseMessage}
use Rattle.sva_model.specs.State.{PasidRule}
use Rattle.sva_model.specs.States.{is_collecting}
use Rattle.sva_model.specs.Steps.{world_after}
use Rattle.sva_model.specs.Wire.{FlightWire, GroupWire, Wire, wire}
use Rattle.sva_labels.specs.Finding.{device_of}

-- it finds a group, by its index, and whose
pub record FindsFinished (wire : Wire) (flight : FlightWire) (pasid index : ℕ) : Type 0 where
  pub group : GroupWire
  pub bears : slice_get (device_of wire flight.endpoint).groups index ≡ Some (Some group)
  pub own : group.pasid ≡ pasid
  pub finished : is_collecting group.state ≡ false

-- so each does after every list of steps
abbrev pub AlwaysFindsFinished : Type 0
AlwaysFindsFinished =
    (rule : PasidRule) (config : Config) (steps : List Step) (position : ℕ) (flight : FlightWire) (pasid index : ℕ) (code : Code)
    → slice_get (wire (world_after rule config steps)).in_flight position ≡ Some flight
    → flight.message ≡ ResponseMessage pasid index code
    → FindsFinished (wire (world_after rule config steps)) flight pasid index
