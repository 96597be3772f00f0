-- Which label a step gives out, and when a wait is done. (That it is the lowest free one, and when a wait is taken, are this project's
-- own; a wait and its drain are those of Intel VT-d, "Invalidation Wait Descriptor" and "Page Request Drain".)
use Rattle.std.specs.Prelude.{◌≡◌, ◌≢◌, ◌⊎◌, ℕ, ◌<◌, ◌≤◌, Bool, true, false, Option, Some, None, List, Ok}
use Rattle.sva_step.specs.declared.answers.Answer.{Answer}
use Rattle.sva_step.specs.declared.answers.Answer.TheVariants as answer
use Rattle.sva_step.specs.declared.limits.Config.{Config}
use Rattle.sva_step.specs.declared.steps.Step.{Step}
use Rattle.sva_step.specs.declared.steps.Step.TheVariants as step
use Rattle.sva_step.specs.Limits
use Rattle.sva_model.specs.State.{PasidRule, Endpoint, World}
use Rattle.sva_model.specs.State.PasidRule.{PerEndpoint, PerSpace}
use Rattle.sva_model.specs.State.PageRequestState.{Arrived}
use Rattle.sva_model.specs.State.OrderState.{Queued}
use Rattle.sva_model.specs.States.{is_busy, is_wait, is_unreleased, drains, place}
use Rattle.sva_model.specs.States.Place.{Free}
use Rattle.sva_model.specs.Labels.{name, head}
use Rattle.sva_model.specs.Steps.{reply, world_after}
use Rattle.sva_model.specs.Claims.{Fits}

-- of the labels below `count` the lowest that no record bears
pub record IsLowestFree (count : ℕ) (at : ℕ → Option ℕ) (label : ℕ) : Type 0 where
  pub low : label < count
  pub free : at label ≡ None
  pub taken : (lower : ℕ) → lower < label → (bearer : ℕ) × (at lower ≡ Some bearer)

-- a binding of an endpoint of the world bears the PASID, and its space is this
pub record IsBorneBy (world : World) (pasid space : ℕ) : Type 0 where
  pub endpoint : ℕ
  pub is_endpoint : endpoint < world.config.endpoints
  pub binding : ℕ
  pub bears : (world.part endpoint).at_pasid pasid ≡ Some binding
  pub its_space : (world.part endpoint).space binding ≡ space

-- the lowest of the PASIDs 1 to 32 that no binding of the endpoint bears
pub record IsLowestAtEndpoint (part : Endpoint) (pasid : ℕ) : Type 0 where
  pub some : 0 < pasid
  pub low : pasid ≤ Limits.pasids
  pub free : part.at_pasid pasid ≡ None
  pub taken : (lower : ℕ) → 0 < lower → lower < pasid → (binding : ℕ) × (part.at_pasid lower ≡ Some binding)

-- the lowest of the PASIDs 1 to 32 that no binding of any endpoint bears, for a space that bears none
pub record IsLowestOfAll (world : World) (space pasid : ℕ) : Type 0 where
  pub some : 0 < pasid
  pub low : pasid ≤ Limits.pasids
  pub free : (owner : ℕ) → IsBorneBy world pasid owner → ⊥
  pub taken : (lower : ℕ) → 0 < lower → lower < pasid → (owner : ℕ) × IsBorneBy world lower owner
  pub first : (endpoint binding : ℕ) → is_unreleased ((world.part endpoint).stage binding) ≡ true → (world.part endpoint).space binding ≢ space

-- the PASID that a new binding of the space at the endpoint is given, by the rule: the lowest free one of the endpoint; or that of
-- the space, and where it has none the lowest of all
abbrev pub IsGivenPasid : PasidRule → World → (endpoint space pasid : ℕ) → Type 0
IsGivenPasid PerEndpoint world endpoint space pasid = IsLowestAtEndpoint (world.part endpoint) pasid
IsGivenPasid PerSpace world endpoint space pasid = IsBorneBy world pasid space ⊎ IsLowestOfAll world space pasid

-- What a step gives out is the lowest free one: a request tag, a use slot, a Page Request Group Index, an ITag, a frame, a PASID.
pub record GivesLowest (world : World) : Type 0 where
  pub tag :
      (endpoint pasid page tag : ℕ)
      → reply world (step.Ask endpoint pasid page) ≡ Ok (answer.Tag tag)
      → IsLowestFree Limits.request_tags (world.part endpoint).at_tag tag
  pub slot :
      (endpoint pasid page slot frame : ℕ) (write : Bool)
      → reply world (step.BeginUse endpoint pasid page write) ≡ Ok (answer.Use slot frame)
      → IsLowestFree Limits.use_slots (world.part endpoint).at_slot slot
  pub index :
      (endpoint pasid page index : ℕ) (read write last : Bool)
      → reply world (step.Fault endpoint pasid page read write None last) ≡ Ok (answer.Group index)
      → IsLowestFree Limits.groups (world.part endpoint).at_index index
  pub itag :
      (endpoint itag : ℕ)
      → reply world (step.Pump endpoint) ≡ Ok (answer.Itag itag)
      → IsLowestFree Limits.itags (world.part endpoint).at_itag itag
  pub frame :
      (space page frame : ℕ) (write : Bool)
      → reply world (step.Map space page write) ≡ Ok (answer.Frame frame)
      → (frame < world.config.frames) × (place world frame ≡ Free) × ((lower : ℕ) → lower < frame → place world lower ≢ Free)
  pub pasid :
      (endpoint space binding pasid : ℕ)
      → reply world (step.Bind endpoint space) ≡ Ok (answer.Binding binding pasid)
      → IsGivenPasid world.rule world endpoint (name world space) pasid

-- so it is after every list of steps
abbrev pub AlwaysGivesLowest : Type 0
AlwaysGivesLowest = (rule : PasidRule) (config : Config) (steps : List Step) → Fits config → GivesLowest (world_after rule config steps)

-- What a pump's answer tells of the unit. A wait is done only where no order bears an ITag and, if it drains, no page request waits in the
-- page request queue; what is blocked is a wait for which that isn't so, or an invalidation for which no ITag is free; and
-- what is sent is an invalidation.
pub record Pumps (part : Endpoint) (said : Answer) : Type 0 where
  pub quiet : said ≡ answer.WaitDone → (order : ℕ) → is_busy (part.order_state order) ≡ false
  pub untagged : said ≡ answer.WaitDone → (itag : ℕ) → part.at_itag itag ≡ None
  pub drained : said ≡ answer.WaitDone → drains (part.order (head part)) ≡ true → (request : ℕ) → part.page_request request ≢ Arrived
  pub blocked :
      said ≡ answer.Blocked
      → ((is_wait (part.order (head part)) ≡ true)
      × (((order : ℕ) × (is_busy (part.order_state order) ≡ true))
      ⊎ ((drains (part.order (head part)) ≡ true) × ((request : ℕ) × (part.page_request request ≡ Arrived)))))
      ⊎ ((is_wait (part.order (head part)) ≡ false) × ((itag : ℕ) → itag < Limits.itags → (order : ℕ) × (part.at_itag itag ≡ Some order)))
  pub sent : (itag : ℕ) → said ≡ answer.Itag itag → is_wait (part.order (head part)) ≡ false
  pub idle : said ≡ answer.Idle → (order : ℕ) → part.order_state order ≢ Queued

-- each pump that is accepted, after every list of steps, is answered so
abbrev pub AlwaysPumps : Type 0
AlwaysPumps =
    (rule : PasidRule) (config : Config) (steps : List Step) (endpoint : ℕ) (said : Answer)
    → Fits config
    → reply (world_after rule config steps) (step.Pump endpoint) ≡ Ok said
    → Pumps ((world_after rule config steps).part endpoint) said
