-- The number of a group that begins is above those of all that is left of older groups of its index, so by its number what is of one of
-- them is never taken for what is of another.
use Rattle.std.specs.Prelude.{◌≡◌, ◌<◌, ℕ, true, Bool, Contains, Some, slice_get}
use Rattle.sva_open.specs.declared.messages.Message.TheVariants as message
use Rattle.sva_open.specs.declared.messages.PageRequest.{PageRequest}
use Rattle.sva_open.specs.declared.messages.Sent.{Sent}
use Rattle.sva_open.specs.declared.descriptors.Arrived.{Arrived}
use Rattle.sva_open.specs.declared.descriptors.Filed.{Filed}
use Rattle.sva_open.specs.declared.descriptors.Received.TheVariants.{Request as Asked}
use Rattle.sva_open.specs.declared.works.Group.{Group}
use Rattle.sva_open.specs.Devices.{fresh_number}
use Rattle.sva_open.specs.World.{Part, lowest_free}

-- What is left of a group of this index and number: a page request of it in flight, one that the unit has received, or one in its queue;
-- what was filed of it; a response to that in flight; or the group itself, which awaits its response.
pub data IsLeft (part : Part) (index number : ℕ) : Type 0 where
  asked :
      (one : Sent) (request : PageRequest)
      → Contains part.flight one
      → one.message ≡ message.PageRequest request
      → request.index ≡ index
      → one.number ≡ number
      → IsLeft part index number
  received : (one : Arrived) → Contains part.received (Asked one) → one.request.index ≡ index → one.number ≡ number → IsLeft part index number
  arrived : (one : Arrived) → Contains part.arrived one → one.request.index ≡ index → one.number ≡ number → IsLeft part index number
  filed : (one : Filed) → Contains part.filed one → one.index ≡ index → one.number ≡ number → IsLeft part index number
  answered :
      (one : Sent) (fails : Bool)
      → Contains part.flight one
      → one.message ≡ message.Response index fails true
      → one.number ≡ number
      → IsLeft part index number
  itself : (group : Group) → slice_get part.groups index ≡ Some (Some group) → group.number ≡ number → IsLeft part index number

-- a group begins under the lowest free index
abbrev pub NumbersAreFresh : Type 0
NumbersAreFresh = (part : Part) (number : ℕ) → IsLeft part (lowest_free part.groups) number → number < fresh_number part
