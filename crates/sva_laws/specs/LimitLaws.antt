-- How many there are: what waits, and what a host and an endpoint keep.
use Rattle.sva_model.specs.State.{PasidRule}
use Rattle.std.specs.Prelude.{◌≡◌, ℕ, ◌≤◌, true, List, length}
use Rattle.sva_step.specs.declared.limits.Config.{Config}
use Rattle.sva_step.specs.declared.steps.Step.{Step}
use Rattle.sva_step.specs.Limits
use Rattle.sva_model.specs.Words.{count_below, select, is_some}
use Rattle.sva_model.specs.State.{Endpoint, World}
use Rattle.sva_model.specs.States.{is_open_group, is_arrived}
use Rattle.sva_model.specs.Labels.{outstanding, is_waiting, live_spaces, pages_of, asks, queue_length}
use Rattle.sva_model.specs.Steps.{world_after}
use Rattle.sva_model.specs.Claims.{Fits}

-- page requests that have arrived and aren't filed: their number, and their list in order of arrival
abbrev pub page_queue : Endpoint → ℕ
page_queue part = count_below part.page_requests (λ request. is_arrived (part.page_request request))

-- the arrivals that stand in the unit's page request queue, oldest first (Intel VT-d, "Page Request Queue")
abbrev pub waiting : Endpoint → List ℕ
waiting part = select part.arrivals (is_waiting part)

-- At most 32 page requests of an endpoint wait for their response (its allocation: section 10.5.2), so the 32 places of its
-- unit's page request queue are never too few.
pub record IsLimited (part : Endpoint) : Type 0 where
  pub outstanding : outstanding part ≤ Limits.page_requests
  pub page_queue : page_queue part ≤ Limits.page_requests
  pub waiting : length (waiting part) ≤ Limits.page_requests

-- after every list of steps no endpoint is beyond its allocation, and no unit's page request queue is overfull
abbrev pub AlwaysLimited : Type 0
AlwaysLimited =
    (rule : PasidRule) (config : Config) (steps : List Step) (endpoint : ℕ)
    → Fits config
    → IsLimited ((world_after rule config steps).part endpoint)

-- how many translations an endpoint has cached
abbrev pub cached_translations : Endpoint → ℕ
cached_translations part = count_below part.requests (λ request. is_some (part.held request))

-- Limits of the host: live spaces, pages of a space, and page requests that are filed of a group which is open; the descriptors in
-- a unit's invalidation queue; and those of an endpoint: the translations that it caches.
pub record KeepsLimits (world : World) : Type 0 where
  pub spaces : live_spaces world ≤ Limits.most_spaces
  pub pages : (space : ℕ) → pages_of world space ≤ Limits.most_mapped
  pub requests : (endpoint group : ℕ) → is_open_group ((world.part endpoint).host_group group) ≡ true
      → length (asks (world.part endpoint) group) ≤ Limits.page_requests
  pub queued : (endpoint : ℕ) → queue_length (world.part endpoint) ≤ Limits.queue_places
  pub cached : (endpoint : ℕ) → cached_translations (world.part endpoint) ≤ Limits.cached

-- after every list of steps no more is kept than these limits allow
abbrev pub AlwaysKeepsLimits : Type 0
AlwaysKeepsLimits = (rule : PasidRule) (config : Config) (steps : List Step) → Fits config → KeepsLimits (world_after rule config steps)
