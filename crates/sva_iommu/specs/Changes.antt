-- What completions, page requests and a reset leave of a unit.
use Rattle.std.specs.Prelude.{ℕ, true, false, ◌&&◌, Option, None, List, [], map}
use Rattle.sva_step.specs.Limits
use Rattle.sva_model.specs.Words.{count_below}
use Rattle.sva_model.specs.Labels.{is_set}
use Rattle.sva_model.specs.Wire.{UnitWire, BusyWire, PageRequestWire}
use Rattle.sva_labels.specs.Finding.{busy_at}
use Rattle.sva_labels.specs.Moves.{completed}
use Rattle.sva_labels.specs.Outcomes.{is_last_of}
use Rattle.sva_iommu.specs.Seen.{UnitSeen}

-- how many ITags a completion with this vector and count frees
abbrev pub freed_by : UnitWire → (vector count : ℕ) → ℕ
freed_by unit vector count = count_below Limits.itags (λ itag. is_set vector itag && is_last_of count (busy_at unit itag))

-- the unit once it has counted a completion (PCI Express Base 5.0, section 10.3.3): a named ITag is free where it was the last one owed
abbrev pub unit_completed : UnitWire → (vector count : ℕ) → UnitWire
unit_completed unit vector count = record unit { busy = completed vector count unit.busy }

-- the same unit beside other page requests
abbrev pub with_requests : UnitSeen → List PageRequestWire → UnitSeen
with_requests old requests = record old { page_queue = requests }

-- a reset begins: both queues are emptied, and the unit isn't open
abbrev pub reset_begun : UnitSeen → UnitSeen
reset_begun old = record { unit = record old.unit { is_open = false; queue = [] }; page_queue = [] }

-- it ends: the unit is open, every ITag is free, and the front is past all waits that were submitted
abbrev pub unit_reopened : UnitWire → UnitWire
unit_reopened unit = record unit { is_open = true; busy = map (λ (tag : Option BusyWire). None) unit.busy; front = unit.waits_end }
