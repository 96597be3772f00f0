-- The groups of page requests of an endpoint (PCI Express Base 5.0, section 10.4).
use Rattle.std.specs.Prelude.{◌≡◌, ℕ, ◌+◌, ◌<◌, [], ◌∷◌, Bool, true, false, List, replicate, slice_index_or, sum_by, ◌==◌, if◌then◌else◌}
use Rattle.sva_step.specs.Limits
use Rattle.sva_endpoint.specs.declared.groups.GroupPlace.{GroupPlace}
use Rattle.sva_endpoint.specs.declared.groups.GroupPlace.TheVariants.{Free, Collecting, Out, Stale}

-- no index has a group. Of the 9 bits of a Page Request Group Index 0 to 31 are used (a limit of this project)
abbrev pub no_groups : List GroupPlace
no_groups = replicate Limits.groups Free

-- an index from 32 on is never taken
abbrev pub group_at : List GroupPlace → ℕ → GroupPlace
group_at groups index = slice_index_or groups index Free

-- may a new group begin under the index? A stale group has its index still
abbrev pub is_free : GroupPlace → Bool
is_free Free = true
is_free (Collecting pasid requests) = false
is_free (Out pasid requests) = false
is_free (Stale pasid requests) = false

-- is it a group of this PASID whose last request wasn't sent?
abbrev pub is_collecting : ℕ → GroupPlace → Bool
is_collecting pasid Free = false
is_collecting pasid (Collecting sender requests) = sender == pasid
is_collecting pasid (Out sender requests) = false
is_collecting pasid (Stale sender requests) = false

-- how many page requests a group has
abbrev pub requests_of : GroupPlace → ℕ
requests_of Free = 0
requests_of (Collecting pasid requests) = requests
requests_of (Out pasid requests) = requests
requests_of (Stale pasid requests) = requests

-- the page requests that are outstanding: those of all groups, each until its group's response or a reset comes
-- (Outstanding Page Request Allocation, PCI Express Base 5.0, section 10.5.2)
abbrev pub outstanding : List GroupPlace → ℕ
outstanding groups = sum_by requests_of groups

-- a group of so many requests, the last of them sent or not
abbrev pub group_of : ℕ → ℕ → Bool → GroupPlace
group_of pasid requests last = if last then Out pasid requests else Collecting pasid requests

-- an unfinished group after one request more
abbrev pub with_request : Bool → GroupPlace → GroupPlace
with_request last Free = Free
with_request last (Collecting pasid requests) = group_of pasid (requests + 1) last
with_request last (Out pasid requests) = Out pasid requests
with_request last (Stale pasid requests) = Stale pasid requests

-- a PASID that is quit leaves its groups out stale: they keep their indexes and their requests
abbrev pub stale_of : ℕ → GroupPlace → GroupPlace
stale_of pasid Free = Free
stale_of pasid (Collecting sender requests) = Collecting sender requests
stale_of pasid (Out sender requests) = if sender == pasid then Stale sender requests else Out sender requests
stale_of pasid (Stale sender requests) = Stale sender requests

-- each group has a request
abbrev pub HaveRequests : List GroupPlace → Type 0
HaveRequests [] = Unit {0}
HaveRequests (group ∷ groups) = (is_free group ≡ false → 0 < requests_of group) × HaveRequests groups
