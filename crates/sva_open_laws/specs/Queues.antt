-- A unit's invalidation queue with its waits and ITags, and what an invalidation strikes: of a world that is read off each rule of the
-- open world comes to what MODEL's does.
use Rattle.std.specs.Prelude.{◌≡◌, ℕ, ◌&&◌, not, Bool, true, false, List, [], ◌∷◌, length, map, Option, Some, None, option_map, Ok, slice_get}
use Rattle.std.specs.List.{list_any}
use Rattle.sva_step.specs.Limits
use Rattle.sva_step.specs.declared.answers.Answer.{Answer}
use Rattle.sva_step.specs.declared.answers.Answer.TheVariants as answer
use Rattle.sva_step.specs.declared.limits.Config.{Config}
use Rattle.sva_step.specs.declared.steps.Step.{Step}
use Rattle.sva_step.specs.declared.steps.Step.TheVariants as step
use Rattle.sva_model.specs.Words.{find, is_some, select}
use Rattle.sva_model.specs.State.{Endpoint, PasidRule, World}
use Rattle.sva_model.specs.State.Subject.{InvalidateOf, InvalidatedOf, ResetDone}
use Rattle.sva_model.specs.States.{is_open, is_queued}
use Rattle.sva_model.specs.StateChanges.{is_last_left}
use Rattle.sva_model.specs.Outcomes as model
use Rattle.sva_model.specs.Refusals.{is_queue_short}
use Rattle.sva_model.specs.Steps.{next, reply, world_after}
use Rattle.sva_laws.specs.UnitSteps.{Delivers}
use Rattle.sva_open.specs.declared.descriptors.Descriptor.{Descriptor}
use Rattle.sva_open.specs.declared.scopes.Scope.{Scope}
use Rattle.sva_open.specs.World.{Part}
use Rattle.sva_open.specs.Devices.{invalidated}
use Rattle.sva_open.specs.Host.{may_submit, reopen}
use Rattle.sva_open.specs.Units.{complete_itag, free_itag, has_itag, may_pass, pump}
use Rattle.sva_open_laws.specs.AsOpen.{descriptor_of, open_of, part_of, scope_of}

-- an endpoint with its unit, as it is in the open world
abbrev pub shown : World → (endpoint : ℕ) → Part
shown world endpoint = part_of world endpoint (world.part endpoint)

-- ---- What stands where, and what may be taken

-- the oldest descriptor that is queued
abbrev pub oldest : Endpoint → Option ℕ
oldest part = find part.orders (λ k. is_queued (part.order_state k))

pub record IsUnitAlike (world : World) (endpoint : ℕ) : Type 0 where
  -- it stands at the head
  pub head :
      slice_get (shown world endpoint).queue 0
      ≡ option_map (λ k. descriptor_of endpoint (world.part endpoint) ((world.part endpoint).order k)) (oldest (world.part endpoint))
  -- an ITag is busy where an invalidation bears it, and the lowest that isn't is given next
  pub busy : (itag : ℕ) → list_any (has_itag itag) (shown world endpoint).issued ≡ is_some ((world.part endpoint).at_itag itag)
  pub free : free_itag (shown world endpoint).issued Limits.itags 0 ≡ find Limits.itags (λ t. not (is_some ((world.part endpoint).at_itag t)))
  -- whether a wait may leave the queue
  pub passes :
      (drain fence : Bool)
      → may_pass (open_of world).settings (shown world endpoint) drain fence ≡ model.may_pass (world.part endpoint) drain
  -- whether an open unit has room for so many descriptors more
  pub room :
      (descriptors : List Descriptor)
      → may_submit (shown world endpoint) descriptors
      ≡ (is_open (world.part endpoint).phase && not (is_queue_short (world.part endpoint) (length descriptors)))

abbrev pub UnitsAreOne : Type 0
UnitsAreOne = (rule : PasidRule) (config : Config) (steps : List Step) (endpoint : ℕ) → IsUnitAlike (world_after rule config steps) endpoint

-- what a pump leaves that says this; where it is idle or blocked, none is permitted in the open world
abbrev pub if_taken : Answer → Part → Option Part
if_taken answer.Idle after = None
if_taken answer.Blocked after = None
if_taken _ after = Some after

pub record IsPumpedAlike (world : World) (endpoint : ℕ) : Type 0 where
  pub pumped :
      (said : Answer)
      → reply world (step.Pump endpoint) ≡ Ok said
      → pump (open_of world).settings (shown world endpoint) ≡ if_taken said (shown (next world (step.Pump endpoint)) endpoint)
  -- in reset nothing is taken
  pub closed : is_open (world.part endpoint).phase ≡ false → pump (open_of world).settings (shown world endpoint) ≡ None

abbrev pub PumpsAreOne : Type 0
PumpsAreOne = (rule : PasidRule) (config : Config) (steps : List Step) (endpoint : ℕ) → IsPumpedAlike (world_after rule config steps) endpoint

-- ---- What an invalidation strikes

-- What is held, and what is asked for, is afterwards as an invalidation leaves it in the open world: so the same requests are doomed.
pub record IsStruckAlike (before after : Part) (itag : ℕ) (scope : Scope) : Type 0 where
  pub held : after.held ≡ (invalidated before itag scope).held
  pub requests : after.requests ≡ (invalidated before itag scope).requests

abbrev pub StrikesAreOne : Type 0
StrikesAreOne =
    (rule : PasidRule) (config : Config) (steps : List Step) (its : Step) (endpoint order : ℕ)
    → Delivers (world_after rule config steps) its endpoint (InvalidateOf order)
    → IsStruckAlike (shown (world_after rule config steps) endpoint) (shown (next (world_after rule config steps) its) endpoint)
    (((world_after rule config steps).part endpoint).itag order)
    (scope_of ((world_after rule config steps).part endpoint) (((world_after rule config steps).part endpoint).order order))

-- ---- When an ITag is free again

-- ITags that are completed, one after another
unfoldable pub completed : List ℕ → Part → Part
completed [] part = part
completed (itag ∷ itags) part = completed itags (complete_itag part itag)

-- the ITags of the invalidations that a completion names and is the last of
abbrev pub last_of : Endpoint → (names : ℕ → Bool) → List ℕ
last_of part names = map part.itag (select part.orders (λ k. names k && is_last_left (part.order_state k)))

-- A completion frees these; one at a unit in reset frees none.
pub record IsFreedAlike (world : World) (endpoint : ℕ) (names : ℕ → Bool) (after : Part) : Type 0 where
  pub freed :
      is_open (world.part endpoint).phase ≡ true
      → after.issued ≡ (completed (last_of (world.part endpoint) names) (shown world endpoint)).issued
  pub dropped : is_open (world.part endpoint).phase ≡ false → after.issued ≡ (shown world endpoint).issued

abbrev pub CompletionsAreOne : Type 0
CompletionsAreOne =
    (rule : PasidRule) (config : Config) (steps : List Step) (its : Step) (endpoint : ℕ) (names : ℕ → Bool)
    → Delivers (world_after rule config steps) its endpoint (InvalidatedOf names)
    → IsFreedAlike (world_after rule config steps) endpoint names (shown (next (world_after rule config steps) its) endpoint)

-- A reset that ends frees all, and leaves nothing queued.
pub record IsReopenedAlike (before after : Part) : Type 0 where
  pub left : Part
  pub reopens : reopen before ≡ Some left
  pub is_open : after.is_open ≡ left.is_open
  pub queue : after.queue ≡ left.queue
  pub issued : after.issued ≡ left.issued

abbrev pub ResetsAreOne : Type 0
ResetsAreOne =
    (rule : PasidRule) (config : Config) (steps : List Step) (its : Step) (endpoint : ℕ)
    → Delivers (world_after rule config steps) its endpoint ResetDone
    → IsReopenedAlike (shown (world_after rule config steps) endpoint) (shown (next (world_after rule config steps) its) endpoint)
