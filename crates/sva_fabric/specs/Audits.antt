-- The audit at the end: the receipts of all ports against the journal.
use Rattle.std.specs.Prelude.{◌≡◌, ◌≤◌, ◌<◌, ◌⊎◌, ℕ, ◌+◌, Result, Ok, Err, List, [], ◌∷◌, ◌++◌, length, if◌then◌else◌, nat_eq, IfOk}
use Rattle.sva_step.specs.declared.limits.Config.{Config}
use Rattle.sva_model.specs.Steps.{counts}
use Rattle.sva_core.specs.declared.journal.Entry.{Entry}
use Rattle.sva_core.specs.declared.receipts.Receipt.{Receipt}
use Rattle.sva_fabric.specs.declared.ports.Ports.{Ports}
use Rattle.sva_fabric.specs.declared.tokens.Tokens.{Tokens}
use Rattle.sva_fabric.specs.declared.audits.Audit.{Audit}
use Rattle.sva_fabric.specs.declared.audits.FirstBadReceipt.{FirstBadReceipt}
use Rattle.sva_core.specs.Journal.{History, IsLegal, world_of, bindings_of, uses_of}
use Rattle.sva_fabric.specs.Receipts.{PortState, new_port, new_ports_from}
use Rattle.sva_core.specs.Receipts.{Stands}

-- the ports in the order of their numbers
abbrev pub states_of : {C : Type 0} → Ports C → List PortState
states_of ports = ports.host ∷ ports.link ∷ ports.service ∷ (ports.endpoints.items ++ ports.workers.items)

-- the ports of a config, of which nothing was asked
abbrev pub new_ports : Config → List PortState
new_ports config = new_port 0 ∷ new_port 1 ∷ new_port 2 ∷ (new_ports_from 3 config.endpoints ++ new_ports_from (3 + config.endpoints) config.workers)

-- each receipt stands
abbrev pub AllStand : List Entry → (port : ℕ) → List Receipt → Type 0
AllStand entries port [] = Unit {0}
AllStand entries port (receipt ∷ rest) = Stands entries port receipt × AllStand entries port rest

-- the place of the first receipt that doesn't
abbrev pub IsFirstBad : List Entry → (port : ℕ) → List Receipt → (place : ℕ) → Type 0
IsFirstBad entries port [] place = ⊥
IsFirstBad entries port (receipt ∷ rest) place =
    ((Stands entries port receipt → ⊥) × (place ≡ receipt.place))
    ⊎ (Stands entries port receipt × IsFirstBad entries port rest place)

-- each receipt of each port stands as a call of that port, the first of these ports being the one of this number
abbrev pub EachStands : List Entry → (first : ℕ) → List PortState → Type 0
EachStands entries first [] = Unit {0}
EachStands entries first (state ∷ states) = AllStand entries first state.receipts × EachStands entries (first + 1) states

-- the port and the place of the first receipt that doesn't
abbrev pub IsFirstBadOf : List Entry → (first : ℕ) → List PortState → (port place : ℕ) → Type 0
IsFirstBadOf entries first [] port place = ⊥
IsFirstBadOf entries first (state ∷ states) port place =
    ((port ≡ first) × IsFirstBad entries first state.receipts place)
    ⊎ (AllStand entries first state.receipts × IsFirstBadOf entries (first + 1) states port place)

-- the calls of all ports
abbrev pub calls_of : List PortState → ℕ
calls_of [] = 0
calls_of (state ∷ states) = length state.receipts + calls_of states

-- the tokens of bindings, and those of uses
abbrev pub held_by : {C : Type 0} → Tokens C → ℕ
held_by tokens = length tokens.leases.items + length tokens.leavings.items

-- the tickets: each is for a use slot that is taken, whether its use runs or is dead
abbrev pub used_by : {C : Type 0} → Tokens C → ℕ
used_by tokens = length tokens.tickets.items

-- the calls add up to the journal's length, and there are as many tokens as its world has unreleased bindings and taken use slots
abbrev pub AddUp : History → List PortState → (held used : ℕ) → Type 0
AddUp history states held used = (calls_of states ≡ length history.entries) × (held ≡ bindings_of history) × (used ≡ uses_of history)

-- Ok exactly where each receipt stands, and calls and tokens add up. Else the first receipt that doesn't stand; where all do and calls
-- or tokens don't add up, the number of ports and the journal's length.
abbrev pub IsAudit : History → List PortState → (held used : ℕ) → Result Audit FirstBadReceipt → Type 0
IsAudit history states held used (Ok audit) =
    EachStands history.entries 0 states
    × AddUp history states held used
    × (audit.calls ≡ length history.entries)
    × (audit.free ≡ (counts (world_of history)).free)
    × (audit.mapped ≡ (counts (world_of history)).mapped)
    × (audit.withheld ≡ (counts (world_of history)).withheld)
IsAudit history states held used (Err bad) =
    IsFirstBadOf history.entries 0 states bad.port bad.place
    ⊎ (EachStands history.entries 0 states × (AddUp history states held used → ⊥) × (bad.port ≡ length states) × (bad.place ≡ length history.entries))

-- how many of a port's receipts name a place
abbrev pub told_at : (place : ℕ) → List Receipt → ℕ
told_at place [] = 0
told_at place (receipt ∷ rest) = (if nat_eq receipt.place place then 1 else 0) + told_at place rest

-- how many of all ports' receipts do
abbrev pub told_by : (place : ℕ) → List PortState → ℕ
told_by place [] = 0
told_by place (state ∷ states) = told_at place state.receipts + told_by place states

-- each receipt's entry stands at its place, and of each place one receipt tells
abbrev pub IsToldOnce : List Entry → List PortState → Type 0
IsToldOnce entries states = EachStands entries 0 states × ((place : ℕ) → place < length entries → told_by place states ≡ 1)

-- what a call that takes the journal out of the lock says: there is a legal journal of the config that was opened of which this is the
-- audit; it has as many calls as these ports or more, and as many where these are all; there are no more tokens than its world has
-- unreleased bindings and taken use slots; and where nothing is found wrong it is what the ports' receipts tell, each once
pub record IsFinished (config : Config) (parts : ℕ) (states : List PortState) (held used : ℕ) (result : Result Audit FirstBadReceipt) : Type 0 where
  pub journal : History
  pub legal : IsLegal journal
  pub of_config : journal.config ≡ config
  pub counted : calls_of states ≤ length journal.entries
  pub all_counted : length states ≡ parts → calls_of states ≡ length journal.entries
  pub few_held : held ≤ bindings_of journal
  pub few_used : used ≤ uses_of journal
  pub is_audit : IsAudit journal states held used result
  pub once : IfOk result (λ audit. IsToldOnce journal.entries states)
