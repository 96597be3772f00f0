-- What answers tell of the step that gave them. (This project's own.)
use Rattle.std.specs.Prelude.{◌≡◌, ◌↔◌, ℕ, ◌+◌, ◌<◌, ◌≤◌, Bool, true, false, ◌&&◌, not, Some, None, List, [], ◌∷◌, ◌++◌, Ok}
use Rattle.sva_step.specs.declared.answers.Answer.{Answer}
use Rattle.sva_step.specs.declared.answers.Answer.TheVariants as answer
use Rattle.sva_step.specs.declared.limits.Config.{Config}
use Rattle.sva_step.specs.declared.steps.Step.{Step}
use Rattle.sva_step.specs.declared.steps.Step.TheVariants as step
use Rattle.sva_step.specs.declared.steps.Verdict.{Verdict}
use Rattle.sva_step.specs.Limits
use Rattle.sva_model.specs.Words.{count_below}
use Rattle.sva_model.specs.State.{PasidRule, Endpoint, World}
use Rattle.sva_model.specs.State.Subject.{InvalidatedOf}
use Rattle.sva_model.specs.State.MappingState.{Present}
use Rattle.sva_model.specs.State.OrderState.{Completing}
use Rattle.sva_model.specs.State.UseState.{Running}
use Rattle.sva_model.specs.State.Phase.{Open}
use Rattle.sva_model.specs.States.{is_done, place}
use Rattle.sva_model.specs.States.Place.{Free, Mapped, Withheld}
use Rattle.sva_model.specs.Labels.{bearer, is_named, pages_of}
use Rattle.sva_model.specs.Replies.{job_space}
use Rattle.sva_model.specs.Steps.{reply, world_after}
use Rattle.sva_model.specs.Claims.{Fits}
use Rattle.sva_laws.specs.UnitSteps.{Delivers}

-- A finish of `count` completions: each order that the vector names is owed that many of that many; and as many completions
-- that name these orders are in flight, as the newest messages of the endpoint. (PCI Express Base 5.0, section 10.3.3.)
pub record Finishes (before after : World) (endpoint vector count : ℕ) (said : Answer) : Type 0 where
  pub answered : said ≡ answer.Sent count
  pub completing : (order : ℕ) → is_named (before.part endpoint) vector order ≡ true → (after.part endpoint).order_state order ≡ Completing count count
  pub others :
      (order : ℕ)
      → is_named (before.part endpoint) vector order ≡ false
      → (after.part endpoint).order_state order ≡ (before.part endpoint).order_state order
  pub messages : after.messages ≡ before.messages + count
  pub sent :
      (offset : ℕ)
      → offset < count
      → ((after.part endpoint).message (before.messages + offset) ≡ Some (InvalidatedOf (is_named (before.part endpoint) vector)))
      × (after.link_of (before.messages + offset) ≡ endpoint)

-- each finish that is accepted, after every list of steps, leaves the orders that it names owed as many completions as it sends
abbrev pub AlwaysFinishes : Type 0
AlwaysFinishes =
    (rule : PasidRule) (config : Config) (steps : List Step) (endpoint vector count : ℕ) (said : Answer)
    → Fits config
    → reply (world_after rule config steps) (step.Finish endpoint vector count) ≡ Ok said
    → Finishes (world_after rule config steps) (world_after rule config (steps ++ step.Finish endpoint vector count ∷ [])) endpoint vector count said

-- A use: it begins in the slot that is answered, by the translation that is cached for the page under the bearer of the PASID,
-- and the frame that is answered is that translation's.
pub record Uses (before after : World) (endpoint pasid page : ℕ) (said : Answer) : Type 0 where
  pub slot : ℕ
  pub low : slot < Limits.use_slots
  pub request : ℕ
  pub mapping : ℕ
  pub held : (before.part endpoint).held request ≡ Some mapping
  pub of_bearer : (before.part endpoint).request_binding request ≡ bearer (before.part endpoint) pasid
  pub of_page : (before.part endpoint).request_page request ≡ page
  pub answered : said ≡ answer.Use slot (before.mappings.frame mapping)
  pub used : ℕ
  pub in_slot : (after.part endpoint).at_slot slot ≡ Some used
  pub runs : (after.part endpoint).use_state used ≡ Running
  pub by : (after.part endpoint).use_mapping used ≡ mapping

-- each use that is accepted, after every list of steps, runs in the slot that its answer names, and its frame is the one that is answered
abbrev pub AlwaysUses : Type 0
AlwaysUses =
    (rule : PasidRule) (config : Config) (steps : List Step) (endpoint pasid page : ℕ) (write : Bool) (said : Answer)
    → Fits config
    → reply (world_after rule config steps) (step.BeginUse endpoint pasid page write) ≡ Ok said
    → Uses (world_after rule config steps) (world_after rule config (steps ++ step.BeginUse endpoint pasid page write ∷ [])) endpoint pasid page said

-- A look answers the place of the frame.
pub record Looks (world : World) (frame : ℕ) (said : Answer) : Type 0 where
  pub free : (said ≡ answer.Free) ↔ (place world frame ≡ Free)
  pub mapped : (said ≡ answer.Mapped) ↔ (place world frame ≡ Mapped)
  pub withheld : (said ≡ answer.Withheld) ↔ (place world frame ≡ Withheld)

-- each look that is accepted, after every list of steps, tells where the frame is just then
abbrev pub AlwaysLooks : Type 0
AlwaysLooks =
    (rule : PasidRule) (config : Config) (steps : List Step) (frame : ℕ) (said : Answer)
    → Fits config
    → reply (world_after rule config steps) (step.Look frame) ≡ Ok said
    → Looks (world_after rule config steps) frame said

-- how many of the orders that a unit had are done now and weren't then
abbrev pub made_done : (was now : Endpoint) → ℕ
made_done was now = count_below was.orders (λ order. is_done (now.order_state order) && not (is_done (was.order_state order)))

-- An invalidate completion that is counted at an open unit answers how many orders the step makes done (section 10.3.3).
abbrev pub AlwaysFrees : Type 0
AlwaysFrees =
    (rule : PasidRule) (config : Config) (steps : List Step) (next : Step) (endpoint : ℕ) (names : ℕ → Bool)
    → Fits config
    → ((world_after rule config steps).part endpoint).phase ≡ Open
    → Delivers (world_after rule config steps) next endpoint (InvalidatedOf names)
    → reply (world_after rule config steps) next
    ≡ Ok (answer.Freed (made_done ((world_after rule config steps).part endpoint) ((world_after rule config (steps ++ next ∷ [])).part endpoint)))

-- From one world to the next `count` pages of a space are mapped that weren't, and so many more it has; each by a new mapping,
-- while the old ones stay, and no page is taken out.
pub record MapsPages (before after : World) (space count : ℕ) : Type 0 where
  pub pages : pages_of after space ≡ pages_of before space + count
  pub made : after.mappings.made ≡ before.mappings.made + count
  pub fresh :
      (mapping : ℕ)
      → before.mappings.made ≤ mapping
      → mapping < after.mappings.made
      → (after.mappings.state mapping ≡ Present) × (after.mappings.space mapping ≡ space) × (before.mappings.at space (after.mappings.page mapping) ≡ None)
  pub kept :
      (mapping : ℕ)
      → mapping < before.mappings.made
      → (after.mappings.state mapping ≡ before.mappings.state mapping)
      × (after.mappings.space mapping ≡ before.mappings.space mapping)
      × (after.mappings.page mapping ≡ before.mappings.page mapping)
  pub mapped : (page : ℕ) → after.mappings.at space page ≡ None → before.mappings.at space page ≡ None

-- A worker's success answers how many pages of the space of its job's binding it maps.
pub record Succeeds (before after : World) (worker count : ℕ) : Type 0 where
  pub job : ℕ
  pub in_hand : before.hand worker ≡ Some job
  pub maps : MapsPages before after (job_space before job) count

-- each reply that is answered by a success, after every list of steps, maps as many pages as the answer says
abbrev pub AlwaysSucceeds : Type 0
AlwaysSucceeds =
    (rule : PasidRule) (config : Config) (steps : List Step) (worker : ℕ) (verdict : Verdict) (count : ℕ)
    → Fits config
    → reply (world_after rule config steps) (step.Reply worker verdict) ≡ Ok (answer.Success count)
    → Succeeds (world_after rule config steps) (world_after rule config (steps ++ step.Reply worker verdict ∷ [])) worker count
