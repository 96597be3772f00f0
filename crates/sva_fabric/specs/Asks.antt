-- What the link and the service ask by the calls of a port.
use Rattle.std.specs.Prelude.{◌≡◌, ◌≤◌, ◌==◌, ◌/◌, ◌%◌, max, ℕ, ◌+◌, Bool, true, false, List, [], ◌∷◌, ◌++◌, length, if◌then◌else◌}
use Rattle.sva_step.specs.declared.limits.Config.{Config}
use Rattle.sva_step.specs.declared.steps.Step.{Step}
use Rattle.sva_step.specs.declared.steps.Step.TheVariants.{Deliver, Pump, Serve}
use Rattle.sva_core.specs.declared.receipts.Receipt.{Receipt}
use Rattle.sva_fabric.specs.Receipts.{PortState}
use Rattle.sva_fabric.specs.Ends.{HasStrayed, AreSpent}
use Rattle.sva_fabric.specs.Plays.{is_accepted}
use Rattle.sva_fabric.specs.declared.loops.endings.Turn.{Turn}
use Rattle.sva_fabric.specs.declared.loops.endings.Turn.TheVariants.{Accepted, Again, Memory, Strayed}

-- ---- The link

-- the number of the message that is due after a call: the next one, where the call was accepted
abbrev pub due_after : (message : ℕ) → Receipt → ℕ
due_after message receipt = if is_accepted receipt.answer then message + 1 else message

-- and after some calls
abbrev pub due_at_last : (message : ℕ) → List Receipt → ℕ
due_at_last message [] = message
due_at_last message (receipt ∷ receipts) = due_at_last (due_after message receipt) receipts

-- each call delivers the message that is due then
abbrev pub AreDeliveries : (message : ℕ) → List Receipt → Type 0
AreDeliveries message [] = Unit {0}
AreDeliveries message (receipt ∷ receipts) = (receipt.step ≡ Deliver message) × AreDeliveries (due_after message receipt) receipts

-- The link has made these calls by its port, one in each turn but perhaps the last: it delivered the messages by their numbers, from 0 on,
-- each tried until it was accepted.
pub record HasDelivered (config : Config) (turns_used turns_left : ℕ) (out_of_memory : Bool) (before after : PortState) : Type 0 where
  pub calls : List Receipt
  pub number : after.number ≡ before.number
  pub kept : after.receipts ≡ before.receipts ++ calls
  pub deliveries : AreDeliveries 0 calls
  pub few : length calls ≤ turns_used
  pub each : turns_used ≤ length calls + 1
  pub spent : AreSpent config (length calls) turns_used turns_left out_of_memory after

-- ---- The service

-- which endpoint has a turn: two turns for each of them in a row. A world has one at least.
abbrev pub endpoint_at : (turn endpoints : ℕ) → ℕ
endpoint_at turn endpoints = turn / 2 % max endpoints 1

-- what is asked then: it pumps in the first of the two turns, and serves in the second
abbrev pub service_at : (turn endpoints : ℕ) → Step
service_at turn endpoints = if turn % 2 == 0 then Pump (endpoint_at turn endpoints) else Serve (endpoint_at turn endpoints)

-- each call is what is asked in its turn
abbrev pub AreServices : (turn endpoints : ℕ) → List Receipt → Type 0
AreServices turn endpoints [] = Unit {0}
AreServices turn endpoints (receipt ∷ receipts) = (receipt.step ≡ service_at turn endpoints) × AreServices (turn + 1) endpoints receipts

-- The service has made these calls by its port, one in each turn but perhaps the last: it pumped and served each endpoint in turn.
pub record HasServed (config : Config) (endpoints turns_used turns_left : ℕ) (out_of_memory : Bool) (before after : PortState) : Type 0 where
  pub calls : List Receipt
  pub number : after.number ≡ before.number
  pub kept : after.receipts ≡ before.receipts ++ calls
  pub services : AreServices 0 endpoints calls
  pub few : length calls ≤ turns_used
  pub each : turns_used ≤ length calls + 1
  pub spent : AreSpent config (length calls) turns_used turns_left out_of_memory after

-- ---- One turn

-- one call more, of this step
pub record HasAsked (step : Step) (before after : PortState) (accepted : Bool) : Type 0 where
  pub receipt : Receipt
  pub kept : after ≡ record before { receipts = before.receipts ++ receipt ∷ [] }
  pub of_step : receipt.step ≡ step
  pub answered : is_accepted receipt.answer ≡ accepted

-- what a turn did to its port: a call of this step, or none, where memory was wanted or the port had strayed
abbrev pub IsAsked : Config → Step → (before after : PortState) → Turn → Type 0
IsAsked config step before after Accepted = HasAsked step before after true
IsAsked config step before after Again = HasAsked step before after false
IsAsked config step before after Memory = after ≡ before
IsAsked config step before after Strayed = (after ≡ before) × HasStrayed config before
