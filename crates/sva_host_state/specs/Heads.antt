-- The head of an invalidation queue.
use Rattle.std.specs.Prelude.{◌≡◌, ℕ, ◌<◌, true, length}
use Rattle.sva_model.specs.Wire.{Wire}
use Rattle.sva_labels.specs.Finding.{part_of, unit_of}
use Rattle.sva_msg.specs.declared.messages.Kind.{Kind}
use Rattle.sva_msg.specs.declared.messages.Kind.TheVariants.{Invalidate}
use Rattle.sva_queue.specs.declared.heads.Next.{Next}
use Rattle.sva_queue.specs.declared.heads.Sending.{Sending}
use Rattle.sva_iommu.specs.Seen.{UnitSeen}
use Rattle.sva_iommu.specs.Pumping.{next_of}
use Rattle.sva_msg.specs.Extents.{scope_sent}

-- the unit of an endpoint, with its page request queue
abbrev pub unit_at : Wire → (endpoint : ℕ) → UnitSeen
unit_at world endpoint = record { unit = unit_of world endpoint; page_queue = (part_of world endpoint).page_queue }

-- the endpoint is there, its unit is open, and this becomes of the head of the unit's queue
pub record IsHead (world : Wire) (endpoint : ℕ) (next : Next) : Type 0 where
  pub there : endpoint < length world.parts
  pub opened : (unit_of world endpoint).is_open ≡ true
  pub heads : next_of (unit_at world endpoint) ≡ next

-- the Invalidate Request of an invalidation that goes to the endpoint
abbrev pub request_of : Sending → Kind
request_of sending = Invalidate sending.itag sending.pasid (scope_sent sending.extent)
