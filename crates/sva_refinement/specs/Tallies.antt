-- How many bindings are unreleased, and how many use slots are taken; and that a step changes these as its answer says.
use Rattle.std.specs.Prelude.{◌≡◌, ℕ, suc, ◌+◌, Option, Some, None, List, [], ◌∷◌, length, Ok}
use Rattle.sva_step.specs.declared.answers.Answer.TheVariants as answer
use Rattle.sva_step.specs.declared.limits.Config.{Config}
use Rattle.sva_step.specs.declared.steps.Step.{Step}
use Rattle.sva_model.specs.State.{PasidRule}
use Rattle.sva_model.specs.Steps.{Reply, reply, next, world_after}
use Rattle.sva_model.specs.Claims.{Fits}
use Rattle.sva_model.specs.Wire.{Wire, EndpointWire, UseWire, wire}

-- how many bindings are unreleased, at all endpoints together
abbrev pub unreleased : Wire → ℕ
unreleased wire = length wire.bindings

-- how many use slots of an endpoint are taken, by running and dead uses
abbrev pub taken_in : List (Option UseWire) → ℕ
taken_in [] = 0
taken_in (None ∷ slots) = taken_in slots
taken_in (Some used ∷ slots) = suc (taken_in slots)

-- how many use slots are taken at these endpoints
abbrev pub slots_in : List EndpointWire → ℕ
slots_in [] = 0
slots_in (part ∷ parts) = taken_in part.device.slots + slots_in parts

-- of all endpoints
abbrev pub slots_taken : Wire → ℕ
slots_taken wire = slots_in wire.parts

-- how many bindings begin by a step with this reply, and how many are released; and how many slots are given out, and given
-- back, that of a use which a reset ended among them
abbrev pub binds : Reply → ℕ
binds (Ok (answer.Binding binding pasid)) = 1
binds _ = 0

-- how many bindings are released: that which leaves its last stage
abbrev pub releases : Reply → ℕ
releases (Ok answer.Released) = 1
releases _ = 0

-- how many use slots are given out: that of a use which begins
abbrev pub begins : Reply → ℕ
begins (Ok (answer.Use slot frame)) = 1
begins _ = 0

-- how many use slots are given back; a dead use has its own until it is ended too
abbrev pub ends : Reply → ℕ
ends (Ok answer.Ended) = 1
ends (Ok answer.Dead) = 1
ends _ = 0

-- a step with this reply changes the number of unreleased bindings and that of taken use slots as the reply says
pub record IsTallied (before after : Wire) (reply : Reply) : Type 0 where
  pub bindings : unreleased after + releases reply ≡ unreleased before + binds reply
  pub slots : slots_taken after + ends reply ≡ slots_taken before + begins reply

-- after every list of steps, and by either rule of PASIDs, the next step changes these two numbers as its reply says
abbrev pub AlwaysTallied : Type 0
AlwaysTallied =
    (rule : PasidRule) (config : Config) (steps : List Step) (step : Step)
    → Fits config
    → IsTallied (wire (world_after rule config steps)) (wire (next (world_after rule config steps) step)) (reply (world_after rule config steps) step)
