-- A refusal is answered only for its own cause: what holds of the world where a step is refused so, in words of its own endpoint,
-- space or binding; of endpoints and the link in EndpointCauses. (Which refusals there are, and the limits, are this
-- project's own, except where a comment names a
-- standard: sections are those of PCI Express Base 5.0.)
use Rattle.std.specs.Prelude.{◌≡◌, ◌≢◌, ◌⊎◌, ℕ, ◌+◌, ◌%◌, ◌^◌, ◌<◌, ◌≤◌, true, false, Option, Some, None, List, [], ◌∷◌, length}
use Rattle.std.specs.Prelude.{IsSomeAnd}
use Rattle.sva_step.specs.declared.steps.Step.{Step}
use Rattle.sva_step.specs.declared.steps.Step.TheVariants as step
use Rattle.sva_step.specs.declared.steps.Verdict.TheVariants as verdict_is
use Rattle.sva_step.specs.Limits
use Rattle.sva_model.specs.Words.{count_below}
use Rattle.sva_model.specs.State.{PasidRule, Stage, Endpoint, World}
use Rattle.sva_model.specs.State.PasidRule.{PerEndpoint, PerSpace}
use Rattle.sva_model.specs.State.Stage.{Live, Stopping, Draining, Invalidating, Lost}
use Rattle.sva_model.specs.State.OrderState.{Queued, Done}
use Rattle.sva_model.specs.State.Subject.{FunctionReset, RequestOf}
use Rattle.sva_model.specs.State.Phase.{Open}
use Rattle.sva_model.specs.States.{is_unreleased, is_open_group, is_before_invalidating, is_wait, place}
use Rattle.sva_model.specs.States.Place.{Free}
use Rattle.sva_model.specs.Unmappings.{submits}
use Rattle.sva_model.specs.Labels.{number, name, live_spaces, pages_of, free_frames, queue_length}
use Rattle.sva_model.specs.Replies.{job_part, job_space}
use Rattle.sva_laws.specs.Asked.{IsAskedFor, stage_of}

-- What a step names: an endpoint, the endpoint of its binding, a space, a binding, a worker.

-- the endpoint that the step names by its number
abbrev pub named_endpoint : Step → Option ℕ
named_endpoint (step.Bind endpoint space) = Some endpoint
named_endpoint (step.Pump endpoint) = Some endpoint
named_endpoint (step.Serve endpoint) = Some endpoint
named_endpoint (step.Reset endpoint) = Some endpoint
named_endpoint (step.Ask endpoint pasid page) = Some endpoint
named_endpoint (step.BeginUse endpoint pasid page write) = Some endpoint
named_endpoint (step.EndUse endpoint slot) = Some endpoint
named_endpoint (step.Evict endpoint pasid page) = Some endpoint
named_endpoint (step.Fault endpoint pasid page read write group last) = Some endpoint
named_endpoint (step.Finish endpoint vector count) = Some endpoint
named_endpoint (step.Quit endpoint pasid) = Some endpoint
named_endpoint _ = None

-- the endpoint whose unit a step of the host asks: the one that it names, or that of its binding
abbrev pub own_unit : World → Step → Option ℕ
own_unit world (step.Bind endpoint space) = Some endpoint
own_unit world (step.Unbind binding) = Some (world.endpoint_of (name world binding))
own_unit world (step.Advance binding) = Some (world.endpoint_of (name world binding))
own_unit world (step.Pump endpoint) = Some endpoint
own_unit world (step.Serve endpoint) = Some endpoint
own_unit world (step.Reset endpoint) = Some endpoint
own_unit world _ = None

-- the number of a space that the step names
abbrev pub named_space : Step → Option ℕ
named_space (step.DropSpace space) = Some space
named_space (step.Map space page write) = Some space
named_space (step.Unmap space page count) = Some space
named_space (step.UnmapRange space page order) = Some space
named_space (step.Bind endpoint space) = Some space
named_space _ = None

-- the number of a binding that the step names
abbrev pub named_binding : Step → Option ℕ
named_binding (step.Unbind binding) = Some binding
named_binding (step.Advance binding) = Some binding
named_binding _ = None

-- the worker that the step names
abbrev pub named_worker : Step → Option ℕ
named_worker (step.Take worker) = Some worker
named_worker (step.Reply worker verdict) = Some worker
named_worker _ = None

-- the end of the pages that the step names: one more than the last of them
abbrev pub pages_end : Step → Option ℕ
pages_end (step.Map space page write) = Some (page + 1)
pages_end (step.Unmap space page count) = Some (page + count)
pages_end (step.UnmapRange space page order) = Some (page + 2 ^ order)
pages_end (step.Ask endpoint pasid page) = Some (page + 1)
pages_end (step.BeginUse endpoint pasid page write) = Some (page + 1)
pages_end (step.Evict endpoint pasid page) = Some (page + 1)
pages_end (step.Fault endpoint pasid page read write group last) = Some (page + 1)
pages_end _ = None

-- Causes of several steps.

-- the config has no endpoint of this number
abbrev pub IsNoEndpoint : World → Step → Type 0
IsNoEndpoint world next = IsSomeAnd (named_endpoint next) (λ endpoint. world.config.endpoints ≤ endpoint)

-- no live space has this number
abbrev pub IsNoSpace : World → Step → Type 0
IsNoSpace world next = IsSomeAnd (named_space next) (λ named. (space : ℕ) → number world space ≡ named → world.is_live space ≢ true)

-- no unreleased binding has this number
abbrev pub IsNoBinding : World → Step → Type 0
IsNoBinding world next =
    IsSomeAnd (named_binding next)
    (λ named. (binding : ℕ) → number world binding ≡ named → is_unreleased ((world.part (world.endpoint_of binding)).stage binding) ≢ true)

-- the config has no worker of this number
abbrev pub IsNoWorker : World → Step → Type 0
IsNoWorker world next = IsSomeAnd (named_worker next) (λ worker. world.config.workers ≤ worker)

-- a page of the step is 2^36 or more
abbrev pub IsPastPages : Step → Type 0
IsPastPages next = IsSomeAnd (pages_end next) (λ past. Limits.page_numbers < past)

-- the step's own unit is in reset (section 6.6.2), whatever others are
abbrev pub IsResetting : World → Step → Type 0
IsResetting world next = IsSomeAnd (own_unit world next) (λ endpoint. (world.part endpoint).phase ≢ Open)

-- so many numbers aren't left behind those given
abbrev pub AreSpent : World → (given needed : ℕ) → Type 0
AreSpent world given needed = Limits.label_numbers < world.config.first + given + needed

-- Fewer numbers are left than the step needs: of spaces or bindings, for the messages that it sends, or for the cookies of its waits.
abbrev pub IsNumbersSpent : World → Step → Type 0
IsNumbersSpent world step.Space = AreSpent world world.spaces 1
IsNumbersSpent world (step.Bind endpoint space) = AreSpent world world.bindings 1 ⊎ AreSpent world world.messages 1
IsNumbersSpent world (step.Unmap space page count) =
    AreSpent world world.cookies (count_below world.config.endpoints (submits world (name world space)))
IsNumbersSpent world (step.UnmapRange space page order) =
    AreSpent world world.cookies (count_below world.config.endpoints (submits world (name world space)))
IsNumbersSpent world (step.Advance binding) = AreSpent world world.cookies 1
IsNumbersSpent world (step.Pump endpoint) =
    AreSpent world world.messages 1
    × ((order : ℕ) × ((world.part endpoint).order_state order ≡ Queued) × (is_wait ((world.part endpoint).order order) ≡ false))
IsNumbersSpent world (step.Reply worker verdict) =
    AreSpent world world.messages 1
    × ((job : ℕ) × (world.hand worker ≡ Some job) × ((job_part world job).phase ≡ Open) × (is_before_invalidating (stage_of world job) ≡ true))
IsNumbersSpent world (step.Finish endpoint vector count) = AreSpent world world.messages count
IsNumbersSpent world (step.Deliver delivered) =
    AreSpent world world.messages 1
    × (((world.part (world.link_of (name world delivered))).message (name world delivered) ≡ Some FunctionReset)
    ⊎ ((request : ℕ)
    × ((world.part (world.link_of (name world delivered))).message (name world delivered) ≡ Some (RequestOf request))
    × ((world.part (world.link_of (name world delivered))).phase ≡ Open)))
IsNumbersSpent world (step.Unbind binding) = AreSpent world world.messages 1
IsNumbersSpent world (step.Reset endpoint) = AreSpent world world.messages 1
IsNumbersSpent world (step.Ask endpoint pasid page) = AreSpent world world.messages 1
IsNumbersSpent world (step.Fault endpoint pasid page read write group last) = AreSpent world world.messages 1
IsNumbersSpent world (step.Quit endpoint pasid) = AreSpent world world.messages 1
IsNumbersSpent world _ = ⊥

-- Spaces and frames.

-- as many spaces live as may
abbrev pub IsTooManySpaces : World → Step → Type 0
IsTooManySpaces world step.Space = Limits.most_spaces ≤ live_spaces world
IsTooManySpaces world _ = ⊥

-- a binding of this very space is unreleased, at some endpoint; what workers hold doesn't count
abbrev pub IsStillBound : World → Step → Type 0
IsStillBound world (step.DropSpace space) =
    (endpoint : ℕ)
    × (binding : ℕ)
    × (is_unreleased ((world.part endpoint).stage binding) ≡ true)
    × ((world.part endpoint).space binding ≡ name world space)
IsStillBound world _ = ⊥

-- the page is mapped in this space
abbrev pub IsMappedPage : World → Step → Type 0
IsMappedPage world (step.Map space page write) = (mapping : ℕ) × (world.mappings.at (name world space) page ≡ Some mapping)
IsMappedPage world _ = ⊥

-- one of the pages isn't mapped in this space
abbrev pub IsNotMapped : World → Step → Type 0
IsNotMapped world (step.Unmap space page count) =
    (offset : ℕ) × (offset < count) × (world.mappings.at (name world space) (page + offset) ≡ None)
IsNotMapped world _ = ⊥

-- no page of the range is mapped in this space
abbrev pub IsNothingMapped : World → Step → Type 0
IsNothingMapped world (step.UnmapRange space page order) =
    (offset : ℕ) → offset < 2 ^ order → world.mappings.at (name world space) (page + offset) ≡ None
IsNothingMapped world _ = ⊥

-- a range has 1 to 512 pages (sections 10.2.3.2, 10.3.1)
abbrev pub IsBadOrder : Step → Type 0
IsBadOrder (step.UnmapRange space page order) = Limits.most_order < order
IsBadOrder _ = ⊥

-- and is aligned to its size
abbrev pub IsNotAligned : Step → Type 0
IsNotAligned (step.UnmapRange space page order) = page % 2 ^ order ≢ 0
IsNotAligned _ = ⊥

-- the page isn't one of these
abbrev pub IsNotIn : ℕ → List ℕ → Type 0
IsNotIn page [] = Unit {0}
IsNotIn page (first ∷ pages) = (first ≢ page) × IsNotIn page pages

-- Pages that a success would map: each once, each asked for by a page request of the job that is filed, and none of them mapped
-- in the space of the job's binding.
abbrev pub AreNewPages : World → (job : ℕ) → List ℕ → Type 0
AreNewPages world job [] = Unit {0}
AreNewPages world job (page ∷ pages) =
    IsAskedFor world job page × (world.mappings.at (job_space world job) page ≡ None) × IsNotIn page pages × AreNewPages world job pages

-- The worker says `success` for a job in its hand, whose unit is open and whose binding is Live; and of its new pages, all of
-- which the success would map, this holds.
abbrev pub IsOfNewPages : World → (worker : ℕ) → ((job : ℕ) → List ℕ → Type 0) → Type 0
IsOfNewPages world worker holds =
    (job : ℕ)
    × (world.hand worker ≡ Some job)
    × ((job_part world job).phase ≡ Open)
    × (stage_of world job ≡ Live)
    × ((pages : List ℕ) × AreNewPages world job pages × holds job pages)

-- no frame is free; or fewer are than a success would map pages; or the config has no frame of this number
abbrev pub IsNoFrame : World → Step → Type 0
IsNoFrame world (step.Map space page write) = (frame : ℕ) → frame < world.config.frames → place world frame ≢ Free
IsNoFrame world (step.Reply worker verdict_is.Success) = IsOfNewPages world worker (λ job pages. free_frames world < length pages)
IsNoFrame world (step.Look frame) = world.config.frames ≤ frame
IsNoFrame world _ = ⊥

-- the space has its 1024 pages; or would have more with those that a success maps, which are no more than it lacks
abbrev pub IsSpaceFull : World → Step → Type 0
IsSpaceFull world (step.Map space page write) = Limits.most_mapped ≤ pages_of world (name world space)
IsSpaceFull world (step.Reply worker verdict_is.Success) =
    IsOfNewPages world worker (λ job pages. Limits.most_mapped < pages_of world (job_space world job) + length pages)
IsSpaceFull world _ = ⊥

-- Bindings.

-- the space has an unreleased binding at this very endpoint
abbrev pub IsAlreadyBound : World → Step → Type 0
IsAlreadyBound world (step.Bind endpoint space) =
    (binding : ℕ)
    × (is_unreleased ((world.part endpoint).stage binding) ≡ true)
    × ((world.part endpoint).space binding ≡ name world space)
IsAlreadyBound world _ = ⊥

-- each of the PASIDs 1 to 32 (section 6.20) is borne: by a binding of this endpoint, or by one of another space at some endpoint
abbrev pub AreAllBorne : PasidRule → World → (endpoint space : ℕ) → Type 0
AreAllBorne PerEndpoint world endpoint space =
    (pasid : ℕ) → 0 < pasid → pasid ≤ Limits.pasids → (binding : ℕ) × ((world.part endpoint).at_pasid pasid ≡ Some binding)
AreAllBorne PerSpace world endpoint space =
    (pasid : ℕ)
    → 0 < pasid
    → pasid ≤ Limits.pasids
    → (other : ℕ) × (binding : ℕ) × ((world.part other).at_pasid pasid ≡ Some binding) × ((world.part other).space binding ≢ space)

-- no PASID can be given, by the rule
abbrev pub IsNoPasid : World → Step → Type 0
IsNoPasid world (step.Bind endpoint space) = AreAllBorne world.rule world endpoint (name world space)
IsNoPasid world _ = ⊥

-- the binding was told to stop already
abbrev pub IsNotLive : World → Step → Type 0
IsNotLive world (step.Unbind binding) =
    ((world.part (world.endpoint_of (name world binding))).stage (name world binding) ≢ Live)
    × ((world.part (world.endpoint_of (name world binding))).stage (name world binding) ≢ Lost)
IsNotLive world _ = ⊥

-- What the stage of a binding waits for: to be told to stop; for its Stop Marker (section 10.4.1); for its wait, and for the answers
-- to its own groups of page requests; for the wait behind its PASID's invalidation.
abbrev pub IsWaitingFor : Endpoint → (binding : ℕ) → Stage → Type 0
IsWaitingFor part binding Live = Unit {0}
IsWaitingFor part binding Lost = Unit {0}
IsWaitingFor part binding (Stopping marked) = marked ≡ false
IsWaitingFor part binding (Draining wait) =
    (part.order_state wait ≢ Done)
    ⊎ ((group : ℕ) × (is_open_group (part.host_group group) ≡ true) × (part.filed_under group ≡ binding))
IsWaitingFor part binding (Invalidating invalidation wait) = part.order_state wait ≢ Done
IsWaitingFor part binding _ = ⊥

-- it isn't there yet, for this very binding
abbrev pub IsNotYet : World → Step → Type 0
IsNotYet world (step.Advance binding) =
    IsWaitingFor (world.part (world.endpoint_of (name world binding))) (name world binding)
    ((world.part (world.endpoint_of (name world binding))).stage (name world binding))
IsNotYet world _ = ⊥

-- the unit's invalidation queue hasn't so many places left (Intel VT-d, "Queued Invalidation Interface")
abbrev pub LacksPlaces : Endpoint → (descriptors : ℕ) → Type 0
LacksPlaces part descriptors = Limits.queue_places < queue_length part + descriptors

-- a unit that is open lacks places for what the unmapping submits there, since the space has a Live, Stopping or Draining binding there
abbrev pub IsUnitFull : World → (space descriptors : ℕ) → Type 0
IsUnitFull world space descriptors =
    (endpoint : ℕ)
    × (endpoint < world.config.endpoints)
    × ((world.part endpoint).phase ≡ Open)
    × ((binding : ℕ)
    × ((world.part endpoint).space binding ≡ space)
    × (is_before_invalidating ((world.part endpoint).stage binding) ≡ true))
    × LacksPlaces (world.part endpoint) descriptors

-- the descriptors that a binding's next stage submits: a wait that drains; its PASID's invalidation and a wait
abbrev pub LacksPlacesFor : Endpoint → Stage → Type 0
LacksPlacesFor part (Stopping marked) = LacksPlaces part 1
LacksPlacesFor part (Draining wait) = LacksPlaces part 2
LacksPlacesFor part _ = ⊥

-- they don't fit: at a unit of the space, a range for each page, or one for all of them, and a wait; or at the unit of the binding
abbrev pub IsQueueFull : World → Step → Type 0
IsQueueFull world (step.Unmap space page count) = IsUnitFull world (name world space) (count + 1)
IsQueueFull world (step.UnmapRange space page order) = IsUnitFull world (name world space) 2
IsQueueFull world (step.Advance binding) =
    LacksPlacesFor (world.part (world.endpoint_of (name world binding)))
    ((world.part (world.endpoint_of (name world binding))).stage (name world binding))
IsQueueFull world _ = ⊥
