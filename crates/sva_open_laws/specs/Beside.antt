-- A run of both worlds side by side: what steps of this project's own host leave is what acts of the open world leave that stand
-- for them. A page is mapped, its space bound, and the page asked for; it is unmapped, and its invalidation sent; the endpoint
-- answers, and the frame is free; the page is mapped again, by another tenure of the frame, and asked for. Or once it was asked for the
-- endpoint is reset. And as long as the endpoint doesn't answer, its invalidation is out.
use Rattle.std.specs.Prelude.{◌≡◌, ℕ, Bool, true, false, List, [], ◌∷◌, ◌++◌, slice_get, Option, Some, None, is_some, option_map, option_and_then, map}
use Rattle.sva_step.specs.declared.limits.Config.{Config}
use Rattle.sva_step.specs.declared.steps.Step.{Step}
use Rattle.sva_step.specs.declared.steps.Step.TheVariants as step
use Rattle.sva_model.specs.State.PasidRule.{PerSpace}
use Rattle.sva_model.specs.Steps.{world_after}
use Rattle.sva_open.specs.declared.acts.Act.{Act}
use Rattle.sva_open.specs.declared.acts.Act.TheVariants as act
use Rattle.sva_open.specs.declared.acts.LocalAct.TheVariants as local
use Rattle.sva_open.specs.declared.frames.Mapping.{Mapping}
use Rattle.sva_open.specs.declared.frames.Tenure.{Tenure}
use Rattle.sva_open.specs.declared.frames.Translation.{Translation}
use Rattle.sva_open.specs.declared.rows.Row.{Row}
use Rattle.sva_open.specs.declared.works.Work.{Work}
use Rattle.sva_open.specs.declared.messages.Sent.{Sent}
use Rattle.sva_open.specs.declared.descriptors.Descriptor.{Descriptor}
use Rattle.sva_open.specs.declared.descriptors.Descriptor.TheVariants as descriptor
use Rattle.sva_open.specs.declared.descriptors.Issued.{Issued}
use Rattle.sva_open.specs.declared.scopes.Scope.TheVariants as scope
use Rattle.sva_open.specs.declared.settings.Timeouts.TheVariants.{On}
use Rattle.sva_open.specs.World.{Open, Part, opened}
use Rattle.sva_open.specs.Acts.{next_open}
use Rattle.sva_open.specs.Host.{submit}
use Rattle.sva_open_laws.specs.AsOpen.{open_of}

-- ---- what is compared: all but the empty places behind the tags and indices that were ever taken

pub record Shown : Type 0 where
  pub rows : List Row
  pub held : List Translation
  pub works : List Work
  pub has_ats : Bool
  pub has_requests : Bool
  pub is_master : Bool
  pub is_gone : Bool
  pub flight : List Sent
  pub queue : List Descriptor
  pub issued : List Issued
  pub aborted : List ℕ
  pub is_stalled : Bool
  pub has_overflowed : Bool
  pub time : ℕ

abbrev pub shown_at : Part → Shown
shown_at part =
    record {
      rows = part.rows;
      held = part.held;
      works = part.works;
      has_ats = part.has_ats;
      has_requests = part.has_requests;
      is_master = part.is_master;
      is_gone = part.is_gone;
      flight = part.flight;
      queue = part.queue;
      issued = part.issued;
      aborted = part.aborted;
      is_stalled = part.is_stalled;
      has_overflowed = part.has_overflowed;
      time = part.time;
    }

pub record AllShown : Type 0 where
  pub mappings : List Mapping
  pub frames : List Tenure
  pub parts : List Shown

abbrev pub shown : Open → AllShown
shown now = record { mappings = now.mappings; frames = now.frames; parts = map shown_at now.parts }

-- ---- the acts, one after another

-- an act, or what the host submits at once at endpoint 0
pub data Move : Type 0 where
  Does : Act → Move
  Submits : List Descriptor → Move

abbrev pub submitted : List Descriptor → Open → Option Open
submitted descriptors now =
    option_and_then (λ (part : Part). option_map (λ (its : Part). record now { parts = its ∷ [] }) (submit part descriptors))
    (slice_get now.parts 0)

abbrev pub moved : Move → Open → Option Open
moved (Does its) now = next_open now its
moved (Submits descriptors) now = submitted descriptors now

unfoldable pub moved_by : List Move → Open → Option Open
moved_by [] now = Some now
moved_by (its ∷ rest) now = option_and_then (moved_by rest) (moved its now)

-- ---- the run

abbrev pub one_endpoint : Config
one_endpoint = record { endpoints = 1; frames = 4; workers = 1; first = 0 }

abbrev pub closed_after : List Step → Open
closed_after steps = open_of (world_after PerSpace one_endpoint steps)

abbrev pub before_all : Open
before_all = opened (closed_after []).settings (record { lies = false; awaits = false } ∷ []) [] 33 4

abbrev pub StandBeside : List Step → List Move → Type 0
StandBeside steps moves = option_map shown (moved_by moves before_all) ≡ Some (shown (closed_after steps))

abbrev pub asked_steps : List Step
asked_steps =
    step.Space ∷ step.Map 0 16 true ∷ step.Bind 0 0 ∷ step.Deliver 0 ∷ step.Ask 0 1 16 ∷ step.Deliver 1 ∷ step.Deliver 2 ∷ []

abbrev pub asked_moves : List Move
asked_moves =
    Move.Does (act.SetPage 0 16 0 true) ∷ Move.Does (act.At 0 (local.SetEntry 1 0)) ∷ Move.Does (act.At 0 (local.Start 1))
    ∷ Move.Does (act.At 0 (local.Deliver 0)) ∷ Move.Does (act.At 0 (local.Ask 1 16)) ∷ Move.Does (act.At 0 (local.Deliver 0))
    ∷ Move.Does (act.At 0 (local.Deliver 0)) ∷ []

abbrev pub sent_steps : List Step
sent_steps = asked_steps ++ step.Unmap 0 16 1 ∷ step.Pump 0 ∷ []

abbrev pub sent_moves : List Move
sent_moves =
    asked_moves ++ Move.Does (act.ClearPage 0 16)
    ∷ Move.Submits (descriptor.Device 0 (scope.Pages 1 16 1) ∷ descriptor.Wait 0 false true ∷ [])
    ∷ Move.Does (act.At 0 local.Pump) ∷ []

-- the pump that ends the wait frees the frame
abbrev pub freed_steps : List Step
freed_steps = sent_steps ++ step.Deliver 3 ∷ step.Finish 0 1 1 ∷ step.Deliver 4 ∷ step.Pump 0 ∷ []

abbrev pub freed_moves : List Move
freed_moves =
    sent_moves ++ Move.Does (act.At 0 (local.Deliver 0)) ∷ Move.Does (act.At 0 (local.Finish 0))
    ∷ Move.Does (act.At 0 (local.Deliver 0)) ∷ Move.Does (act.At 0 local.Pump) ∷ Move.Does (act.FreeFrame 0) ∷ []

abbrev pub again_steps : List Step
again_steps = freed_steps ++ step.Map 0 16 true ∷ step.Ask 0 1 16 ∷ step.Deliver 5 ∷ []

abbrev pub again_moves : List Move
again_moves =
    freed_moves ++ Move.Does (act.SetPage 0 16 0 true) ∷ Move.Does (act.At 0 (local.Ask 1 16))
    ∷ Move.Does (act.At 0 (local.Deliver 0)) ∷ []

-- the entry leads nowhere once the endpoint was reset; the binding has its PASID until it is unbound
abbrev pub reset_steps : List Step
reset_steps = asked_steps ++ step.Reset 0 ∷ step.Deliver 3 ∷ step.Deliver 4 ∷ []

abbrev pub reset_moves : List Move
reset_moves =
    asked_moves ++ Move.Does (act.At 0 local.Close) ∷ Move.Does (act.At 0 local.Reset) ∷ Move.Does (act.At 0 (local.Deliver 0))
    ∷ Move.Does (act.At 0 (local.Deliver 0)) ∷ Move.Does (act.At 0 local.AwaitResets) ∷ Move.Does (act.At 0 (local.ClearEntry 1))
    ∷ Move.Does (act.At 0 local.Reopen) ∷ []

-- the invalidation that is out runs out of time, whoever may be silent
abbrev pub expires : Open → Option Open
expires now = next_open now (act.At 0 (local.Expire 0 true))

abbrev pub with_timeouts : Open → Open
with_timeouts now = record now { settings = record now.settings { timeouts = On } }

pub record RunsBeside : Type 0 where
  pub asked : StandBeside asked_steps asked_moves
  pub sent : StandBeside sent_steps sent_moves
  pub freed : StandBeside freed_steps freed_moves
  pub again : StandBeside again_steps again_moves
  pub reset : StandBeside reset_steps reset_moves
  -- this project's own host awaits an answer for ever; another's wait would be over
  pub awaited : expires (closed_after sent_steps) ≡ None
  pub timed : is_some (expires (with_timeouts (closed_after sent_steps))) ≡ true
