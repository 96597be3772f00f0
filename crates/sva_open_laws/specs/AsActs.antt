-- Steps of this project's own host are acts of the open world: seen as an open world, what an accepted step leaves is what its acts leave,
-- one after another, each permitted. Nothing is left out of that but the steps for which no acts are said here.
use Rattle.std.specs.Prelude.{◌≡◌, ℕ, ◌&&◌, ◌||◌, not, nat_lt, Bool, true, false, List, [], ◌∷◌, ◌++◌, map, Option, Some, None, option_and_then, Ok}
use Rattle.sva_step.specs.declared.answers.Answer.{Answer}
use Rattle.sva_step.specs.declared.answers.Answer.TheVariants as answer
use Rattle.sva_step.specs.declared.limits.Config.{Config}
use Rattle.sva_step.specs.declared.steps.Step.{Step}
use Rattle.sva_step.specs.declared.steps.Step.TheVariants as step
use Rattle.sva_model.specs.Words.{any_below, count_below, is_some, select, the}
use Rattle.sva_model.specs.State.{Endpoint, PasidRule, RequestState, Subject, UseState, World}
use Rattle.sva_model.specs.State.RequestState.{Out}
use Rattle.sva_model.specs.State.Subject.{CompletionOf, InvalidateOf, PageRequestOf, RequestOf, ResponseOf, StartOf}
use Rattle.sva_model.specs.State.UseState.{Running}
use Rattle.sva_model.specs.States.{is_free, is_running, is_taken}
use Rattle.sva_model.specs.Labels.{lowest_frame, name, pasid_for}
use Rattle.sva_model.specs.Outcomes.{is_full}
use Rattle.sva_model.specs.Steps.{Reply, next, reply, world_after}
use Rattle.sva_model.specs.Claims.{Fits}
use Rattle.sva_open.specs.declared.acts.Act.{Act}
use Rattle.sva_open.specs.declared.acts.Act.TheVariants as act
use Rattle.sva_open.specs.declared.acts.LocalAct.TheVariants as local
use Rattle.sva_open.specs.World.{Open}
use Rattle.sva_open.specs.Acts.{next_open}
use Rattle.sva_open_laws.specs.AsOpen.{open_of}
use Rattle.sva_open_laws.specs.LinkOrders.{place_of_message}

-- acts, one after another; none where one of them isn't permitted
unfoldable pub acted : List Act → Open → Option Open
acted [] now = Some now
acted (its ∷ rest) now = option_and_then (acted rest) (next_open now its)

-- the place of a use that runs, among what the endpoint is at
abbrev pub place_of_use : Endpoint → (used : ℕ) → ℕ
place_of_use part used = count_below used (λ u. is_running (part.use_state u))

-- a use that a reset has ended is there no more
abbrev pub end_acts : Endpoint → (endpoint used : ℕ) → UseState → List Act
end_acts part endpoint used Running = act.At endpoint (local.End (place_of_use part used)) ∷ []
end_acts part endpoint used _ = []

-- A use begins behind the invalidations that are taken. By names their order isn't told, and each use stands before them; so nothing is
-- said of a use that begins while one is taken.
abbrev pub begin_acts : (is_taken : Bool) → (endpoint pasid page : ℕ) → Option (List Act)
begin_acts true endpoint pasid page = None
begin_acts false endpoint pasid page = Some (act.At endpoint (local.Use pasid page) ∷ [])

-- a binding begins: the entry of its PASID leads to its space, and the endpoint is told
abbrev pub bind_acts : (endpoint space pasid : ℕ) → List Act
bind_acts endpoint space pasid = act.At endpoint (local.SetEntry pasid space) ∷ act.At endpoint (local.Start pasid) ∷ []

abbrev pub has_taken : Endpoint → Bool
has_taken part = any_below part.orders (λ k. is_taken (part.order_state k))

-- the frames that a step frees
abbrev pub freed_by : (before after : World) → List ℕ
freed_by before after = select before.config.frames (λ f. is_free after f && not (is_free before f))

-- A pump that sends an invalidation, or passes a wait: what this withheld, the host then gives away. One that is idle or blocked is none.
abbrev pub pump_acts : (endpoint : ℕ) → (freed : List ℕ) → Reply → List Act
pump_acts endpoint freed (Ok (answer.Itag itag)) = act.At endpoint local.Pump ∷ []
pump_acts endpoint freed (Ok answer.WaitDone) = act.At endpoint local.Pump ∷ map act.FreeFrame freed
pump_acts endpoint freed _ = []

abbrev pub unless_so : Bool → List Act → Option (List Act)
unless_so true acts = None
unless_so false acts = Some acts

-- By names the invalidations that are taken stand as they were submitted, and what is held as it was asked for; in the open world as they
-- came. So nothing is said of one that comes behind a newer one; nor of a translation that the cache has no room for.
abbrev pub comes_late : Endpoint → (order : ℕ) → Bool
comes_late part order = any_below part.orders (λ k. nat_lt order k && is_taken (part.order_state k))

abbrev pub is_kept_late : Endpoint → (request : ℕ) → Bool
is_kept_late part request = any_below part.requests (λ r. nat_lt request r && is_some (part.held r))

abbrev pub is_left_open : Endpoint → (request : ℕ) → (found : Option ℕ) → RequestState → Bool
is_left_open part request (Some mapping) Out = is_full part request || is_kept_late part request
is_left_open part request found state = false

-- of deliveries it is said of a start, a response, an invalidation, a page request, a translation request, and the answer to one
abbrev pub deliver_acts : Endpoint → (endpoint place : ℕ) → Option Subject → Option (List Act)
deliver_acts part endpoint place (Some (StartOf binding)) = Some (act.At endpoint (local.Deliver place) ∷ [])
deliver_acts part endpoint place (Some (ResponseOf group code)) = Some (act.At endpoint (local.Deliver place) ∷ [])
deliver_acts part endpoint place (Some (InvalidateOf order)) = unless_so (comes_late part order) (act.At endpoint (local.Deliver place) ∷ [])
deliver_acts part endpoint place (Some (RequestOf request)) = Some (act.At endpoint (local.Deliver place) ∷ [])
deliver_acts part endpoint place (Some (PageRequestOf request)) = Some (act.At endpoint (local.Deliver place) ∷ [])
deliver_acts part endpoint place (Some (CompletionOf request found)) =
    unless_so (is_left_open part request found (part.request request)) (act.At endpoint (local.Deliver place) ∷ [])
deliver_acts part endpoint place _ = None

-- the acts that stand for a step; none are said of those that aren't named here
abbrev pub acts_of : World → Step → Option (List Act)
acts_of world step.Space = Some []
acts_of world (step.Map space page write) = Some (act.SetPage (name world space) page (lowest_frame world) write ∷ [])
acts_of world (step.Bind endpoint space) =
    Some (bind_acts endpoint (name world space) (the (pasid_for world endpoint (name world space))))
acts_of world (step.Ask endpoint pasid page) = Some (act.At endpoint (local.Ask pasid page) ∷ [])
acts_of world (step.BeginUse endpoint pasid page write) = begin_acts (has_taken (world.part endpoint)) endpoint pasid page
acts_of world (step.EndUse endpoint slot) =
    Some
    (end_acts (world.part endpoint) endpoint (the ((world.part endpoint).at_slot slot))
    ((world.part endpoint).use_state (the ((world.part endpoint).at_slot slot))))
acts_of world (step.Evict endpoint pasid page) = Some (act.At endpoint (local.Evict pasid page) ∷ [])
acts_of world (step.Deliver number) =
    deliver_acts (world.part (world.link_of (name world number))) (world.link_of (name world number))
    (place_of_message world.mappings (world.part (world.link_of (name world number))) (name world number))
    ((world.part (world.link_of (name world number))).message (name world number))
acts_of world (step.Pump endpoint) =
    Some (pump_acts endpoint (freed_by world (next world (step.Pump endpoint))) (reply world (step.Pump endpoint)))
acts_of world (step.Look frame) = Some []
acts_of world (step.Bearer pasid) = Some []
acts_of world _ = None

-- so it is after every list of steps
abbrev pub StepsAreActs : Type 0
StepsAreActs =
    (rule : PasidRule) (config : Config) (steps : List Step) (its : Step) (said : Answer) (acts : List Act)
    → Fits config
    → reply (world_after rule config steps) its ≡ Ok said
    → acts_of (world_after rule config steps) its ≡ Some acts
    → acted acts (open_of (world_after rule config steps)) ≡ Some (open_of (world_after rule config (steps ++ its ∷ [])))
