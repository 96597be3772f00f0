-- What becomes of the head of a queue, with what is sent.
use Rattle.std.specs.Prelude.{◌≡◌, ℕ, Bool, Option, Some, None, slice_get}
use Rattle.sva_msg.specs.declared.extents.Extent.{Extent}
use Rattle.sva_msg.specs.declared.extents.Extent.TheVariants.{Pages, All}
use Rattle.sva_queue.specs.declared.descriptors.Descriptor.{Descriptor}
use Rattle.sva_queue.specs.declared.descriptors.Descriptor.TheVariants.{Range, Pasid, Wait}
use Rattle.sva_queue.specs.declared.descriptors.Pumped.{Pumped}
use Rattle.sva_queue.specs.declared.descriptors.Pumped.TheVariants as pumped
use Rattle.sva_queue.specs.declared.heads.Next.{Next}
use Rattle.sva_queue.specs.declared.heads.Next.TheVariants.{Idle, Blocked, Send, Pass}
use Rattle.sva_queue.specs.declared.heads.Sending.{Sending}
use Rattle.sva_queue.specs.Queue.{Queue, next_of}

-- what an invalidation is of; a wait is of nothing
abbrev pub extent_of : Descriptor → Extent
extent_of (Range pasid range) = Pages range
extent_of _ = All

-- the PASID that an invalidation is of; a wait is of none, for which 0 stands
abbrev pub pasid_of : Descriptor → ℕ
pasid_of (Range pasid range) = pasid
pasid_of (Pasid pasid) = pasid
pasid_of (Wait cookie drain) = 0

-- an invalidation as it goes to the endpoint under this ITag
abbrev pub sending_of : (itag : ℕ) → Descriptor → Sending
sending_of itag order = record { itag = itag; pasid = pasid_of order; extent = extent_of order }

-- an invalidation is sent under the lowest ITag that is free
abbrev pub send_next : (pasid : ℕ) → Extent → Option ℕ → Next
send_next pasid extent None = Blocked
send_next pasid extent (Some itag) = Send (record { itag = itag; pasid = pasid; extent = extent })

-- what the answer of `pump` says of the descriptor at the head
abbrev pub next_by : Pumped → Option Descriptor → Next
next_by pumped.Idle head = Idle
next_by pumped.Blocked head = Blocked
next_by (pumped.Done cookie) head = Pass cookie
next_by (pumped.Issued itag) None = Blocked
next_by (pumped.Issued itag) (Some order) = Send (sending_of itag order)

-- what becomes of the head
abbrev pub look_of : Queue → Bool → Next
look_of queue prq_empty = next_by (next_of queue prq_empty) (slice_get queue.descriptors 0)

-- and what `pump` answers of it
abbrev pub pumped_of : Next → Pumped
pumped_of Idle = pumped.Idle
pumped_of Blocked = pumped.Blocked
pumped_of (Send sending) = pumped.Issued sending.itag
pumped_of (Pass cookie) = pumped.Done cookie

-- `pump` answers this, by some word of its caller on the page request queue
abbrev pub IsAnswered : Queue → Pumped → Type 0
IsAnswered queue answer = (prq_empty : Bool) × (next_of queue prq_empty ≡ answer)
