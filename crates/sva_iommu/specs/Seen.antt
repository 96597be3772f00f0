-- How what the parts of a remapping unit keep is seen by the definitions.
use Rattle.std.specs.Prelude.{ℕ, ◌++◌, [], ◌∷◌, false, List, map, option_map}
use Rattle.sva_itags.specs.declared.itags.Busy.{Busy}
use Rattle.sva_itags.specs.declared.itags.Busy.TheVariants as place
use Rattle.sva_msg.specs.declared.messages.PageRequest.{PageRequest}
use Rattle.sva_msg.specs.Seen.{page_request_seen}
use Rattle.sva_queue.specs.declared.descriptors.Descriptor.{Descriptor}
use Rattle.sva_queue.specs.declared.descriptors.Descriptor.TheVariants.{Range, Pasid, Wait}
use Rattle.sva_queue.specs.Queue.{Queue}
use Rattle.sva_model.specs.Words.{tabulate}
use Rattle.sva_model.specs.Unmappings.{range_at}
use Rattle.sva_model.specs.Wire.{UnitWire, BusyWire, PageRequestWire, Descriptor as DescriptorWire}
use Rattle.sva_model.specs.Wire.BusyWire.{Fresh, Counting}
use Rattle.sva_model.specs.Wire.Descriptor.{RangeDescriptor, PasidDescriptor, WaitDescriptor}
use Rattle.sva_labels.specs.Finding.{idle_unit}

-- a unit with its page request queue
pub record UnitSeen : Type 0 where
  pub unit : UnitWire
  pub page_queue : List PageRequestWire

-- a descriptor of the invalidation queue (Intel VT-d, "Queued Invalidation Interface")
abbrev pub descriptor_seen : Descriptor → DescriptorWire
descriptor_seen (Range pasid range) = RangeDescriptor pasid range
descriptor_seen (Pasid pasid) = PasidDescriptor pasid
descriptor_seen (Wait cookie drain) = WaitDescriptor cookie drain

-- a busy ITag, with how many of its completions have come; their count is known from the first (PCI Express Base 5.0, section 10.3.3)
abbrev pub busy_seen : Busy → BusyWire
busy_seen place.Fresh = Fresh
busy_seen (place.Counting count arrived) = Counting count arrived

-- the number after the greatest cookie that was submitted is where the waits end
abbrev pub unit_seen : Queue → UnitWire
unit_seen queue =
    record {
      is_open = queue.is_open;
      queue = map descriptor_seen queue.descriptors;
      busy = map (option_map busy_seen) queue.tags;
      front = queue.front;
      waits_end = queue.back;
    }

-- a unit by its invalidation queue and the page requests that stand in its page request queue
abbrev pub seen : Queue → List PageRequest → UnitSeen
seen queue requests = record { unit = unit_seen queue; page_queue = map page_request_seen requests }

-- a unit that nothing was asked of
abbrev pub idle : UnitSeen
idle = record { unit = idle_unit; page_queue = [] }

-- the same page requests beside another unit
abbrev pub with_unit : UnitSeen → UnitWire → UnitSeen
with_unit old unit = record old { unit = unit }

-- the invalidations of ranges, one behind another
abbrev pub ranges_for : (pasid page count order : ℕ) → List Descriptor
ranges_for pasid page count order = tabulate count (λ number. Range pasid (range_at page order number))

-- the same, and the wait behind them
abbrev pub orders_for : (pasid page count order cookie : ℕ) → List Descriptor
orders_for pasid page count order cookie = ranges_for pasid page count order ++ Wait cookie false ∷ []
