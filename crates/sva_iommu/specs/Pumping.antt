-- What a unit does with the head of its invalidation queue.
use Rattle.std.specs.Prelude.{◌≡◌, ℕ, suc, Bool, true, false, ◌&&◌, ◌||◌, not, ◌==◌, Some, List, [], ◌∷◌, drop, length, slice_set}
use Rattle.sva_step.specs.declared.answers.Answer.TheVariants as answer
use Rattle.sva_queue.specs.declared.heads.Next.{Next}
use Rattle.sva_queue.specs.declared.heads.Next.TheVariants.{Idle, Blocked, Send, Pass}
use Rattle.sva_queue.specs.Heads.{send_next}
use Rattle.sva_msg.specs.declared.extents.Extent.TheVariants.{Pages, All}
use Rattle.sva_msg.specs.Seen.{extent_seen}
use Rattle.sva_model.specs.Wire.{EndpointWire, UnitWire, DeviceWire, HostGroupWire, Descriptor}
use Rattle.sva_model.specs.Wire.BusyWire.{Fresh}
use Rattle.sva_model.specs.Wire.Descriptor.{RangeDescriptor, PasidDescriptor, WaitDescriptor}
use Rattle.sva_labels.specs.Finding.{lowest_label, is_some_busy}
use Rattle.sva_labels.specs.Moves.{Move}
use Rattle.sva_labels.specs.Outcomes.{Result, says, by_one, pump_result}
use Rattle.sva_iommu.specs.Seen.{UnitSeen}

-- a wait is passed where no ITag is busy and, if it drains, no page request waits
abbrev pub pass_next : (cookie : ℕ) → Bool → Next
pass_next cookie true = Pass cookie
pass_next cookie false = Blocked

-- is the wait done that stands at the head (Intel VT-d, "Invalidation Wait Descriptor", "Page Request Drain")?
abbrev pub may_pass : UnitSeen → (drain : Bool) → Bool
may_pass seen drain = not (is_some_busy seen.unit) && (not drain || length seen.page_queue == 0)

-- what becomes of the first of these descriptors; with none the unit is idle
abbrev pub next_at : UnitSeen → List Descriptor → Next
next_at seen [] = Idle
next_at seen (RangeDescriptor pasid range ∷ queue) = send_next pasid (Pages range) (lowest_label seen.unit.busy)
next_at seen (PasidDescriptor pasid ∷ queue) = send_next pasid All (lowest_label seen.unit.busy)
next_at seen (WaitDescriptor cookie drain ∷ queue) = pass_next cookie (may_pass seen drain)

-- what becomes of the head
abbrev pub next_of : UnitSeen → Next
next_of seen = next_at seen seen.unit.queue

-- what the definitions answer and move at that
abbrev pub pumped : (endpoint : ℕ) → Next → Result
pumped endpoint Idle = says answer.Idle []
pumped endpoint Blocked = says answer.Blocked []
pumped endpoint (Send sending) = by_one (answer.Itag sending.itag) (Move.Send endpoint sending.itag sending.pasid (extent_seen sending.extent))
pumped endpoint (Pass cookie) = by_one answer.WaitDone (Move.Pass endpoint cookie)

-- the unit at its endpoint, with whatever stands beside it there
abbrev pub at_endpoint : UnitSeen → DeviceWire → List HostGroupWire → EndpointWire
at_endpoint seen device groups = record { device = device; unit = seen.unit; page_queue = seen.page_queue; host_groups = groups }

-- it is what the definitions by labels do
abbrev pub IsPump : UnitSeen → Next → Type 0
IsPump seen next =
    (endpoint : ℕ) (device : DeviceWire) (groups : List HostGroupWire)
    → pump_result (at_endpoint seen device groups) endpoint seen.unit.queue ≡ pumped endpoint next

-- the unit once the invalidation at the head is sent under this ITag; once the wait at the head is passed
abbrev pub unit_sent : UnitWire → (itag : ℕ) → UnitWire
unit_sent unit itag = record unit { queue = drop 1 unit.queue; busy = slice_set unit.busy itag (Some Fresh) }

-- its front is just past the cookie of that wait, by which it is known to be done
abbrev pub unit_passed : UnitWire → (cookie : ℕ) → UnitWire
unit_passed unit cookie = record unit { queue = drop 1 unit.queue; front = suc cookie }
