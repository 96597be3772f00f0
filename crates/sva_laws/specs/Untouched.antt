-- What a step at an endpoint leaves as it was: of an evict, an invalidation that is taken, a translation request and its completion,
-- a Stop and a quit, all that it changes, and that nothing else of the endpoint and its unit changes; what disables the page request interface; and to
-- which stage a reset leads. Sections are those of PCI Express Base 5.0.
use Rattle.std.specs.Prelude.{◌≡◌, ◌≢◌, ◌⊎◌, ℕ, Bool, true, false, Option, Some, None, List, [], ◌∷◌, ◌++◌, Ok, Err}
use Rattle.sva_step.specs.declared.answers.Answer.{Answer}
use Rattle.sva_step.specs.declared.answers.Answer.TheVariants as answer
use Rattle.sva_step.specs.declared.limits.Config.{Config}
use Rattle.sva_step.specs.declared.refusals.Refusal.TheVariants as refusal
use Rattle.sva_step.specs.declared.steps.Step.{Step}
use Rattle.sva_step.specs.declared.steps.Step.TheVariants as step
use Rattle.sva_model.specs.Message.Code.{FailureCode}
use Rattle.sva_model.specs.State.{PasidRule, Subject, Endpoint, World}
use Rattle.sva_model.specs.State.Subject.{StopOf, FunctionReset, CompletionOf, InvalidateOf, ResponseOf, RequestOf, MarkerOf, ResetDone}
use Rattle.sva_model.specs.State.PasidState.{Off, Ending}
use Rattle.sva_model.specs.State.RequestState.{Out, Doomed, Over}
use Rattle.sva_model.specs.State.GroupState.{Awaiting, Stale}
use Rattle.sva_model.specs.State.OrderState.{Taken}
use Rattle.sva_model.specs.State.Stage.{Unbound, Live, Stopping, Draining, Invalidating, Quiet, Lost, Released}
use Rattle.sva_model.specs.States.{covers, drains}
use Rattle.sva_model.specs.Labels.{bearer}
use Rattle.sva_model.specs.Steps.{reply, world_after}
use Rattle.sva_model.specs.Claims.{Fits}
use Rattle.sva_laws.specs.UnitSteps.{Delivers}

-- One message is delivered, which spoke of this, and is in flight no more; each other one is or isn't in flight as before.
pub record LosesMessage (before after : Endpoint) (subject : Subject) : Type 0 where
  pub number : ℕ
  pub spoke : before.message number ≡ Some subject
  pub gone : after.message number ≡ None
  pub others : (other : ℕ) → other ≢ number → after.message other ≡ before.message other

-- One message is sent, which speaks of this; each other one is or isn't in flight as before, and carries what it did.
pub record SendsMessage (before after : Endpoint) (subject : Subject) : Type 0 where
  pub number : ℕ
  pub fresh : before.message number ≡ None
  pub speaks : after.message number ≡ Some subject
  pub others :
      (other : ℕ)
      → other ≢ number
      → (after.message other ≡ before.message other) × (after.carried other ≡ before.carried other)

-- An evict takes the translation that is cached for the page under the bearer of the PASID, and changes nothing else there.
pub record Evicts (before after : Endpoint) (pasid page : ℕ) : Type 0 where
  pub request : ℕ
  pub mapping : ℕ
  pub was_cached : before.held request ≡ Some mapping
  pub of_bearer : before.request_binding request ≡ bearer before pasid
  pub of_page : before.request_page request ≡ page
  pub gone : after.held request ≡ None
  pub others : (other : ℕ) → other ≢ request → after.held other ≡ before.held other
  pub alone : record after { held = before.held } ≡ before

-- each evict that is accepted, after every list of steps, takes that one translation and leaves the rest of its endpoint
abbrev pub AlwaysEvicts : Type 0
AlwaysEvicts =
    (rule : PasidRule) (config : Config) (steps : List Step) (endpoint pasid page : ℕ) (said : Answer)
    → Fits config
    → reply (world_after rule config steps) (step.Evict endpoint pasid page) ≡ Ok said
    → Evicts ((world_after rule config steps).part endpoint) ((world_after rule config (steps ++ step.Evict endpoint pasid page ∷ [])).part endpoint) pasid page

-- An Invalidate Request that is taken (section 10.3.1) drops the translations that it covers, and no other; dooms the translation
-- requests that are out and that it covers, and no other; notes how many uses had begun; and changes nothing else.
pub record Takes (before after : Endpoint) (order : ℕ) : Type 0 where
  pub dropped : (request : ℕ) → covers (before.order order) (before.request_binding request) (before.request_page request) ≡ true → after.held request ≡ None
  pub kept :
      (request : ℕ)
      → covers (before.order order) (before.request_binding request) (before.request_page request) ≡ false
      → after.held request ≡ before.held request
  pub doomed :
      (request : ℕ)
      → covers (before.order order) (before.request_binding request) (before.request_page request) ≡ true
      → before.request request ≡ Out
      → after.request request ≡ Doomed
  pub not_out : (request : ℕ) → before.request request ≢ Out → after.request request ≡ before.request request
  pub not_doomed :
      (request : ℕ)
      → covers (before.order order) (before.request_binding request) (before.request_page request) ≡ false
      → after.request request ≡ before.request request
  pub taken : after.order_state order ≡ Taken before.uses
  pub other_orders : (other : ℕ) → other ≢ order → after.order_state other ≡ before.order_state other
  pub delivered : LosesMessage before after (InvalidateOf order)
  pub alone : record after { held = before.held; request = before.request; order_state = before.order_state; message = before.message } ≡ before

-- each Invalidate Request that is delivered, after every list of steps, is taken so, and at once
abbrev pub AlwaysTakes : Type 0
AlwaysTakes =
    (rule : PasidRule) (config : Config) (steps : List Step) (next : Step) (endpoint order : ℕ)
    → Fits config
    → Delivers (world_after rule config steps) next endpoint (InvalidateOf order)
    → Takes ((world_after rule config steps).part endpoint) ((world_after rule config (steps ++ next ∷ [])).part endpoint) order

-- A translation completion (section 10.2.3) that is kept replaces what is cached of its binding and page, and drops nothing else; one
-- that isn't kept drops nothing; its request is over, whose tag is free unless it was over before; and nothing else changes.
pub record Brings (before after : Endpoint) (request : ℕ) (found : Option ℕ) (said : Answer) : Type 0 where
  pub kept : said ≡ answer.Held → (mapping : ℕ) × (found ≡ Some mapping) × (after.held request ≡ Some mapping)
  pub replaced :
      said ≡ answer.Held
      → (other : ℕ)
      → other ≢ request
      → before.request_binding other ≡ before.request_binding request
      → before.request_page other ≡ before.request_page request
      → after.held other ≡ None
  pub others :
      said ≡ answer.Held
      → (other : ℕ)
      → other ≢ request
      → (before.request_binding other ≢ before.request_binding request) ⊎ (before.request_page other ≢ before.request_page request)
      → after.held other ≡ before.held other
  pub not_kept : said ≢ answer.Held → (other : ℕ) → after.held other ≡ before.held other
  pub over : after.request request ≡ Over
  pub other_requests : (other : ℕ) → other ≢ request → after.request other ≡ before.request other
  pub freed : before.request request ≢ Over → after.at_tag (before.request_tag request) ≡ None
  pub other_tags : (tag : ℕ) → tag ≢ before.request_tag request → after.at_tag tag ≡ before.at_tag tag
  pub delivered : LosesMessage before after (CompletionOf request found)
  pub alone : record after { held = before.held; request = before.request; at_tag = before.at_tag; message = before.message } ≡ before

-- each translation completion that is delivered, after every list of steps, changes the cache only where it is answered `held`
abbrev pub AlwaysBrings : Type 0
AlwaysBrings =
    (rule : PasidRule) (config : Config) (steps : List Step) (next : Step) (endpoint request : ℕ) (found : Option ℕ) (said : Answer)
    → Fits config
    → Delivers (world_after rule config steps) next endpoint (CompletionOf request found)
    → reply (world_after rule config steps) next ≡ Ok said
    → Brings ((world_after rule config steps).part endpoint) ((world_after rule config (steps ++ next ∷ [])).part endpoint) request found said

-- A Stop that arrives tells one PASID to stop, and changes nothing else.
pub record Stops (before after : Endpoint) (binding : ℕ) : Type 0 where
  pub ending : after.pasid_state binding ≡ Ending
  pub others : (other : ℕ) → other ≢ binding → after.pasid_state other ≡ before.pasid_state other
  pub delivered : LosesMessage before after (StopOf binding)
  pub alone : record after { pasid_state = before.pasid_state; message = before.message } ≡ before

-- each Stop that is delivered, after every list of steps, touches no translation, no request, no use and no other PASID
abbrev pub AlwaysStops : Type 0
AlwaysStops =
    (rule : PasidRule) (config : Config) (steps : List Step) (next : Step) (endpoint binding : ℕ)
    → Fits config
    → Delivers (world_after rule config steps) next endpoint (StopOf binding)
    → Stops ((world_after rule config steps).part endpoint) ((world_after rule config (steps ++ next ∷ [])).part endpoint) binding

-- A quit turns one PASID off; its groups of page requests that await their response are stale (section 10.4.1.2); and nothing else
-- changes, but for the Stop Marker that it sends.
pub record Quits (before after : Endpoint) (pasid : ℕ) : Type 0 where
  pub off : after.pasid_state (bearer before pasid) ≡ Off
  pub others : (other : ℕ) → other ≢ bearer before pasid → after.pasid_state other ≡ before.pasid_state other
  pub stale : (group : ℕ) → before.asker group ≡ bearer before pasid → before.group group ≡ Awaiting → after.group group ≡ Stale
  pub other_groups : (group : ℕ) → (before.asker group ≢ bearer before pasid) ⊎ (before.group group ≢ Awaiting) → after.group group ≡ before.group group
  pub marker : SendsMessage before after (MarkerOf (bearer before pasid))
  pub alone : record after { pasid_state = before.pasid_state; group = before.group; message = before.message; carried = before.carried } ≡ before

-- each quit that is accepted, after every list of steps, touches no translation, no translation request and no other PASID
abbrev pub AlwaysQuits : Type 0
AlwaysQuits =
    (rule : PasidRule) (config : Config) (steps : List Step) (endpoint pasid : ℕ) (said : Answer)
    → Fits config
    → reply (world_after rule config steps) (step.Quit endpoint pasid) ≡ Ok said
    → Quits ((world_after rule config steps).part endpoint) ((world_after rule config (steps ++ step.Quit endpoint pasid ∷ [])).part endpoint) pasid

-- A translation request that is sent (section 10.2.2) is a new one of the bearer of the PASID; no older one changes, and what is
-- cached, in use, started, asked for or ordered stays as it was.
pub record Asks (before after : Endpoint) (pasid page : ℕ) : Type 0 where
  pub out : after.request before.requests ≡ Out
  pub of_bearer : after.request_binding before.requests ≡ bearer before pasid
  pub of_page : after.request_page before.requests ≡ page
  pub older :
      (request : ℕ)
      → request ≢ before.requests
      → (after.request request ≡ before.request request)
      × (after.request_binding request ≡ before.request_binding request)
      × (after.request_page request ≡ before.request_page request)
      × (after.request_tag request ≡ before.request_tag request)
      × (after.request_message request ≡ before.request_message request)
  pub tagged : after.at_tag (after.request_tag before.requests) ≡ Some before.requests
  pub other_tags : (tag : ℕ) → tag ≢ after.request_tag before.requests → after.at_tag tag ≡ before.at_tag tag
  pub asked : SendsMessage before after (RequestOf before.requests)
  pub alone :
      record after {
        requests = before.requests;
        request_binding = before.request_binding;
        request_page = before.request_page;
        request_tag = before.request_tag;
        request = before.request;
        request_message = before.request_message;
        at_tag = before.at_tag;
        message = before.message;
        carried = before.carried;
      } ≡ before

-- each `ask` that is accepted, after every list of steps, adds its own request and changes no older one
abbrev pub AlwaysAsks : Type 0
AlwaysAsks =
    (rule : PasidRule) (config : Config) (steps : List Step) (endpoint pasid page : ℕ) (said : Answer)
    → Fits config
    → reply (world_after rule config steps) (step.Ask endpoint pasid page) ≡ Ok said
    → Asks ((world_after rule config steps).part endpoint) ((world_after rule config (steps ++ step.Ask endpoint pasid page ∷ [])).part endpoint) pasid page

-- The page request interface is disabled by a Response Failure (code 1111b, section 10.4.2) that is delivered, and by nothing else.
pub record Disables (world : World) (next : Step) (endpoint : ℕ) (after : Endpoint) : Type 0 where
  pub disabled :
      after.is_disabled ≡ true
      → ((world.part endpoint).is_disabled ≡ true) ⊎ ((group : ℕ) × Delivers world next endpoint (ResponseOf group FailureCode))
  pub disables : (group : ℕ) → Delivers world next endpoint (ResponseOf group FailureCode) → after.is_disabled ≡ true

-- after every list of steps the next step disables an endpoint's interface exactly by such a delivery
abbrev pub AlwaysDisables : Type 0
AlwaysDisables =
    (rule : PasidRule) (config : Config) (steps : List Step) (next : Step) (endpoint : ℕ)
    → Fits config
    → Disables (world_after rule config steps) next endpoint ((world_after rule config (steps ++ next ∷ [])).part endpoint)

-- An interface that is disabled stays so until the endpoint takes its Reset, which enables it.
pub record StaysDisabled (world : World) (next : Step) (endpoint : ℕ) (after : Endpoint) : Type 0 where
  pub stays : (world.part endpoint).is_disabled ≡ true → (Delivers world next endpoint FunctionReset → ⊥) → after.is_disabled ≡ true
  pub enabled : Delivers world next endpoint FunctionReset → after.is_disabled ≡ false

-- so it does after every list of steps, whatever step comes next
abbrev pub AlwaysStaysDisabled : Type 0
AlwaysStaysDisabled =
    (rule : PasidRule) (config : Config) (steps : List Step) (next : Step) (endpoint : ℕ)
    → Fits config
    → StaysDisabled (world_after rule config steps) next endpoint ((world_after rule config (steps ++ next ∷ [])).part endpoint)

-- A reset-done leaves a Live binding Lost, one that was told to stop, drained or was being invalidated Quiet, and others as they were.
pub record CutsOff (before after : Endpoint) : Type 0 where
  pub live : (binding : ℕ) → before.stage binding ≡ Live → after.stage binding ≡ Lost
  pub stopping : (binding : ℕ) (marked : Bool) → before.stage binding ≡ Stopping marked → after.stage binding ≡ Quiet
  pub draining : (binding wait : ℕ) → before.stage binding ≡ Draining wait → after.stage binding ≡ Quiet
  pub invalidating : (binding invalidation wait : ℕ) → before.stage binding ≡ Invalidating invalidation wait → after.stage binding ≡ Quiet
  pub others :
      (binding : ℕ)
      → (before.stage binding ≡ Unbound) ⊎ ((before.stage binding ≡ Quiet) ⊎ ((before.stage binding ≡ Lost) ⊎ (before.stage binding ≡ Released)))
      → after.stage binding ≡ before.stage binding

-- each reset-done that is delivered, after every list of steps, leads the bindings of its endpoint to these stages
abbrev pub AlwaysCutsOff : Type 0
AlwaysCutsOff =
    (rule : PasidRule) (config : Config) (steps : List Step) (next : Step) (endpoint : ℕ)
    → Fits config
    → Delivers (world_after rule config steps) next endpoint ResetDone
    → CutsOff ((world_after rule config steps).part endpoint) ((world_after rule config (steps ++ next ∷ [])).part endpoint)

-- The wait that a draining binding waits for drains the page request queue (Intel VT-d, "Page Request Drain"), and the one behind
-- the invalidation of a PASID doesn't.
pub record DrainsOnce (part : Endpoint) : Type 0 where
  pub draining : (binding wait : ℕ) → part.stage binding ≡ Draining wait → drains (part.order wait) ≡ true
  pub invalidating : (binding invalidation wait : ℕ) → part.stage binding ≡ Invalidating invalidation wait → drains (part.order wait) ≡ false

-- after every list of steps a binding on its way out waits for one drain, and for that before its PASID is invalidated
abbrev pub AlwaysDrainsOnce : Type 0
AlwaysDrainsOnce =
    (rule : PasidRule) (config : Config) (steps : List Step) (endpoint : ℕ)
    → Fits config
    → DrainsOnce ((world_after rule config steps).part endpoint)

-- What an endpoint does itself, and what is delivered, isn't refused because the unit is in reset.
abbrev pub is_of_endpoint : Step → Bool
is_of_endpoint (step.Ask endpoint pasid page) = true
is_of_endpoint (step.BeginUse endpoint pasid page write) = true
is_of_endpoint (step.EndUse endpoint used) = true
is_of_endpoint (step.Evict endpoint pasid page) = true
is_of_endpoint (step.Fault endpoint pasid page read write group last) = true
is_of_endpoint (step.Finish endpoint vector count) = true
is_of_endpoint (step.Quit endpoint pasid) = true
is_of_endpoint (step.Deliver number) = true
is_of_endpoint _ = false

-- after every list of steps no act of an endpoint, and no delivery, is refused Resetting
abbrev pub AlwaysGoesOnInReset : Type 0
AlwaysGoesOnInReset =
    (rule : PasidRule) (config : Config) (steps : List Step) (next : Step)
    → Fits config
    → is_of_endpoint next ≡ true
    → reply (world_after rule config steps) next ≢ Err refusal.Resetting
