-- Whether a thread of a storm wanted memory, and what the threads leave.
use Rattle.std.specs.Prelude.{◌||◌, Bool, false, List, [], ◌∷◌, ℕ}
use Rattle.sva_step.specs.declared.limits.Config.{Config}
use Rattle.sva_step.specs.declared.steps.Step.{Step}
use Rattle.sva_fabric.specs.declared.ports.Ports.{Ports}
use Rattle.sva_fabric.specs.Ends.{lacks}
use Rattle.sva_scenario.specs.Played.{ThreadView, AreEach, IsOfHost, IsOfLink, IsOfService, IsOfEndpoint, IsOfWorker}

-- did one of these threads want memory, or not run?
abbrev pub one_lacks : List ThreadView → Bool
one_lacks [] = false
one_lacks (thread ∷ threads) = lacks thread.spent || one_lacks threads

-- did one of all: the host's, the link's, the service's, an endpoint's or a worker's?
abbrev pub any_lacks : (host link service : ThreadView) → (endpoints workers : List ThreadView) → Bool
any_lacks host link service endpoints workers =
    (((lacks host.spent || lacks link.spent) || lacks service.spent) || one_lacks endpoints) || one_lacks workers

-- each port that is left was called by its own thread, whose loop has ended
pub record ArePartsPlayed {C : Type 0} (config : Config) (steps : List Step) (turns : ℕ) (ports : Ports C) : Type 0 where
  pub host : IsOfHost config steps turns ports.host
  pub link : IsOfLink config turns ports.link
  pub service : IsOfService config turns ports.service
  pub endpoints : AreEach (IsOfEndpoint config steps turns) ports.endpoints.items
  pub workers : AreEach (IsOfWorker config turns) ports.workers.items
