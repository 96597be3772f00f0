-- The limits of a world and of its tables. They are this project's own, but where a standard's section stands beside one.
use Rattle.std.specs.Prelude.{◌≡◌, ℕ, ◌+◌, ◌≤◌, ◌^◌}
use Rattle.sva_step.specs.declared.limits.TheConstants.{CACHED, GROUPS, ITAGS, MOST_COMPLETIONS, MOST_ENDPOINTS, MOST_FRAMES, MOST_MAPPED, MOST_ORDER}
use Rattle.sva_step.specs.declared.limits.TheConstants.{MOST_PAGES, MOST_SPACES, MOST_WORKERS, NUMBERS, PAGES, PAGE_REQUESTS, PASIDS, PASID_PLACES}
use Rattle.sva_step.specs.declared.limits.TheConstants.{QUEUE_PLACES, REQUEST_TAGS, USE_SLOTS}
use Rattle.sva_step.specs.declared.limits.Config.{Config}

-- the most endpoints of a world, each with a remapping unit of its own
abbrev pub most_endpoints : ℕ
most_endpoints = 8

-- the most frames of a world
abbrev pub most_frames : ℕ
most_frames = 4096

-- the most workers of a world
abbrev pub most_workers : ℕ
most_workers = 4

-- page numbers are below this
abbrev pub page_numbers : ℕ
page_numbers = 2 ^ 36

-- the numbers of spaces, bindings, messages and cookies are below this
abbrev pub label_numbers : ℕ
label_numbers = 2 ^ 63

-- the most spaces that live at a time
abbrev pub most_spaces : ℕ
most_spaces = 64

-- the most pages that a space has mapped at a time
abbrev pub most_mapped : ℕ
most_mapped = 1024

-- the most pages that one Unmap takes out of a space
abbrev pub most_pages : ℕ
most_pages = 48

-- the greatest order of a range, which has 2^order pages
abbrev pub most_order : ℕ
most_order = 9

-- the PASIDs are 1 to this (PCI Express Base 5.0, section 6.20)
abbrev pub pasids : ℕ
pasids = 32

-- the places of a unit's invalidation queue (Intel VT-d, "Queued Invalidation Interface")
abbrev pub queue_places : ℕ
queue_places = 64

-- the ITags are below this: five bits (PCI Express Base 5.0, section 10.3.1)
abbrev pub itags : ℕ
itags = 32

-- an invalidation is completed by at most so many completions (PCI Express Base 5.0, section 10.3.2)
abbrev pub most_completions : ℕ
most_completions = 8

-- the tags of translation requests are below this
abbrev pub request_tags : ℕ
request_tags = 32

-- the most translations that an endpoint keeps
abbrev pub cached : ℕ
cached = 64

-- the use slots of an endpoint are below this
abbrev pub use_slots : ℕ
use_slots = 16

-- the most page requests that are outstanding at an endpoint
abbrev pub page_requests : ℕ
page_requests = 32

-- the Page Request Group Indexes in use are below this (PCI Express Base 5.0, section 10.4.1)
abbrev pub groups : ℕ
groups = 32

-- the constants of the program are these numbers
pub record AreLimits : Type 0 where
  pub endpoints_stand : MOST_ENDPOINTS ≡ most_endpoints
  pub frames_stand : MOST_FRAMES ≡ most_frames
  pub workers_stand : MOST_WORKERS ≡ most_workers
  pub page_numbers_stand : PAGES ≡ page_numbers
  pub label_numbers_stand : NUMBERS ≡ label_numbers
  pub spaces_stand : MOST_SPACES ≡ most_spaces
  pub mapped_stand : MOST_MAPPED ≡ most_mapped
  pub pages_stand : MOST_PAGES ≡ most_pages
  pub order_stands : MOST_ORDER ≡ most_order
  pub pasids_stand : PASIDS ≡ pasids
  pub pasid_places_stand : PASID_PLACES ≡ pasids + 1
  pub queue_places_stand : QUEUE_PLACES ≡ queue_places
  pub itags_stand : ITAGS ≡ itags
  pub completions_stand : MOST_COMPLETIONS ≡ most_completions
  pub request_tags_stand : REQUEST_TAGS ≡ request_tags
  pub cached_stand : CACHED ≡ cached
  pub use_slots_stand : USE_SLOTS ≡ use_slots
  pub page_requests_stand : PAGE_REQUESTS ≡ page_requests
  pub groups_stand : GROUPS ≡ groups

-- 1 to 8 endpoints, 1 to 4096 frames, 1 to 4 workers, and numbers that begin at 2^63 or below
pub record Fits (config : Config) : Type 0 where
  pub some_endpoint : 1 ≤ config.endpoints
  pub most_endpoints : config.endpoints ≤ most_endpoints
  pub some_frame : 1 ≤ config.frames
  pub most_frames : config.frames ≤ most_frames
  pub some_worker : 1 ≤ config.workers
  pub most_workers : config.workers ≤ most_workers
  pub first_number : config.first ≤ label_numbers
