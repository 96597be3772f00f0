-- What the thread of each port has played.
use Rattle.std.specs.Prelude.{◌≡◌, ◌≤◌, ◌<◌, ◌-◌, ◌+◌, ℕ, Bool, true, false, List, [], ◌∷◌, ◌++◌, length, Option, Some, None}
use Rattle.sva_step.specs.declared.limits.Config.{Config}
use Rattle.sva_step.specs.declared.steps.Step.{Step}
use Rattle.sva_fabric.specs.Receipts.{PortState, new_port}
use Rattle.sva_fabric.specs.TokenNumbers.{LeaseNumbers, TicketNumbers}
use Rattle.sva_fabric.specs.Asks.{HasDelivered, HasServed}
use Rattle.sva_fabric.specs.Jobs.{HasAnswered}
use Rattle.sva_scenario.specs.Lines.{lines_of_owner}
use Rattle.sva_fabric.specs.LoopTokens.{tokens_of_bindings, tokens_of_tickets}
use Rattle.sva_fabric.specs.Plays.{HasPlayed}
use Rattle.sva_fabric.specs.declared.loops.endings.Spent.{Spent}
use Rattle.sva_scenario.specs.declared.lines.Owner.TheVariants as owner

-- A thread as contracts see it: its port, and how its turns were spent, if it has run.
pub record ThreadView : Type 0 where
  pub port : PortState
  pub spent : Option Spent

-- what a loop says of the turns that it used and left, of its want of memory, and of its port before and after
abbrev pub LoopClause : Type 1
LoopClause = (turns_used turns_left : ℕ) → (out_of_memory : Bool) → (before after : PortState) → Type 0

-- A thread by the port of this number, with so many turns: nothing was asked yet, or its loop says what was.
abbrev pub IsThread : (number turns : ℕ) → LoopClause → Option Spent → PortState → Type 0
IsThread number turns Says None port = port ≡ new_port number
IsThread number turns Says (Some spent) port =
    (spent.turns_left ≤ turns) × Says (turns - spent.turns_left) spent.turns_left spent.out_of_memory (new_port number) port

-- The loop of a thread by the port of this number has ended, from the port's first call on and with no want of memory: it says so of the
-- turns that it left, and of those that it used of so many.
abbrev pub HasEnded : (number turns : ℕ) → LoopClause → PortState → Type 0
HasEnded number turns Says port = (left : ℕ) × (left ≤ turns) × Says (turns - left) left false (new_port number) port

-- ---- Each kind of thread

-- the host's loop: it has played the host's lines, with no token in hand at first
abbrev pub PlaysAsHost : Config → List Step → List LeaseNumbers → (leavings : List ℕ) → LoopClause
PlaysAsHost config steps leases leavings = λ used left lacking before after.
    HasPlayed config (lines_of_owner owner.Host steps) used left lacking before after (tokens_of_bindings [] []) (tokens_of_bindings leases leavings)

-- the loop of an endpoint: it has played that endpoint's lines, with no ticket in hand at first
abbrev pub PlaysAsEndpoint : Config → List Step → (endpoint : ℕ) → List TicketNumbers → LoopClause
PlaysAsEndpoint config steps endpoint tickets = λ used left lacking before after.
    HasPlayed config (lines_of_owner (owner.Endpoint endpoint) steps) used left lacking before after (tokens_of_tickets []) (tokens_of_tickets tickets)

-- the host's port, with the tokens that are left in hand
pub record IsOfHost (config : Config) (steps : List Step) (turns : ℕ) (port : PortState) : Type 0 where
  pub leases : List LeaseNumbers
  pub leavings : List ℕ
  pub played : HasEnded 0 turns (PlaysAsHost config steps leases leavings) port

-- the link's
abbrev pub IsOfLink : Config → (turns : ℕ) → PortState → Type 0
IsOfLink config turns port = HasEnded 1 turns (HasDelivered config) port

-- the service's
abbrev pub IsOfService : Config → (turns : ℕ) → PortState → Type 0
IsOfService config turns port = HasEnded 2 turns (HasServed config config.endpoints) port

-- an endpoint's, with the tickets that are left in hand
pub record IsOfEndpoint (config : Config) (steps : List Step) (turns : ℕ) (port : PortState) : Type 0 where
  pub endpoint : ℕ
  pub below : endpoint < config.endpoints
  pub tickets : List TicketNumbers
  pub played : HasEnded (3 + endpoint) turns (PlaysAsEndpoint config steps endpoint tickets) port

-- a worker's
pub record IsOfWorker (config : Config) (turns : ℕ) (port : PortState) : Type 0 where
  pub worker : ℕ
  pub below : worker < config.workers
  pub answered : HasEnded (3 + config.endpoints + worker) turns (HasAnswered config worker) port

-- each of these ports is such a one
abbrev pub AreEach : (PortState → Type 0) → List PortState → Type 0
AreEach Is [] = Unit {0}
AreEach Is (port ∷ ports) = Is port × AreEach Is ports

-- The ports of a storm of these lines with so many turns a thread, in the order in which they are audited: each was called by its own
-- thread alone, whose loop has ended.
pub record ArePlayed (config : Config) (steps : List Step) (turns : ℕ) (ports : List PortState) : Type 0 where
  pub host : PortState
  pub link : PortState
  pub service : PortState
  pub endpoints : List PortState
  pub workers : List PortState
  pub in_order : ports ≡ host ∷ link ∷ service ∷ (endpoints ++ workers)
  pub endpoint_count : length endpoints ≡ config.endpoints
  pub worker_count : length workers ≡ config.workers
  pub by_host : IsOfHost config steps turns host
  pub by_link : IsOfLink config turns link
  pub by_service : IsOfService config turns service
  pub by_endpoints : AreEach (IsOfEndpoint config steps turns) endpoints
  pub by_workers : AreEach (IsOfWorker config turns) workers
