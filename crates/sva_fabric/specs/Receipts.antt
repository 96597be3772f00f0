-- Receipts: what a port was told of its own calls, and where they stand in a journal.
use Rattle.std.specs.Prelude.{◌≡◌, ◌<◌, ◌-◌, ℕ, zero, suc, ◌+◌, Option, List, [], ◌∷◌, ◌++◌, length, slice_get, IfSome}
use Rattle.sva_frames.specs.declared.pool.Counts.{Counts}
use Rattle.sva_step.specs.declared.limits.Config.{Config}
use Rattle.sva_step.specs.declared.steps.Step.{Step}
use Rattle.sva_core.specs.declared.receipts.Receipt.{Receipt}
use Rattle.sva_core.specs.declared.running.StepFault.{StepFault}
use Rattle.sva_core.specs.declared.running.StepFault.TheVariants as fault
use Rattle.sva_core.specs.declared.running.Strayed.{Strayed}
use Rattle.sva_core.specs.Receipts.{Stands, HasStrayed}
use Rattle.sva_core.specs.Journal.{History, IsLegal, CountsOf}

-- a port: its number, and the receipts of its calls
pub record PortState : Type 0 where
  pub number : ℕ
  pub receipts : List Receipt

-- a port with this number that has made no call
abbrev pub new_port : ℕ → PortState
new_port number = record { number = number; receipts = [] }

-- so many new ports, numbered from this number on
unfoldable pub new_ports_from : (first count : ℕ) → List PortState
new_ports_from first zero = []
new_ports_from first (suc count) = new_ports_from first count ++ new_port (first + count) ∷ []

-- the receipt of a port's last answered call; none where there was no such call. The next call tests it against the journal
abbrev pub last_of : List Receipt → Option Receipt
last_of receipts = slice_get receipts (length receipts - 1)

-- each receipt's place is above the one before it
abbrev pub AreRising : List Receipt → Type 0
AreRising [] = Unit {0}
AreRising (first ∷ []) = Unit {0}
AreRising (first ∷ second ∷ rest) = (first.place < second.place) × AreRising (second ∷ rest)

-- For the calls that take the lock themselves no clause can name what lay under it. They say that there is a legal journal of the
-- config that was opened, with what they tell: the new receipt stands in it, and before it, at a lower place, the port's last one.
pub record IsAnswered (config : Config) (port : ℕ) (last : Option Receipt) (step : Step) (receipt : Receipt) : Type 0 where
  pub journal : History
  pub legal : IsLegal journal
  pub of_config : journal.config ≡ config
  pub step_is : receipt.step ≡ step
  pub stands : Stands journal.entries port receipt
  pub last_stands : IfSome last (λ previous. (previous.place < receipt.place) × Stands journal.entries port previous)

-- there is a legal journal of that config that has something else where the port's last receipt should stand
abbrev pub IsAstray : Config → (port : ℕ) → Option Receipt → Strayed → Type 0
IsAstray config port last strayed =
    (journal : History) × IsLegal journal × (journal.config ≡ config) × HasStrayed journal.entries port last strayed

-- memory lacked, or the port strayed
abbrev pub IsRefused : Config → (port : ℕ) → Option Receipt → StepFault → Type 0
IsRefused config port last fault.Memory = Unit {0}
IsRefused config port last (fault.Strayed strayed) = IsAstray config port last strayed

-- the counts of frames at the world of a legal journal of that config that holds the port's last receipt
pub record IsCounted (config : Config) (port : ℕ) (last : Option Receipt) (found : Counts) : Type 0 where
  pub journal : History
  pub legal : IsLegal journal
  pub of_config : journal.config ≡ config
  pub last_stands : IfSome last (λ previous. Stands journal.entries port previous)
  pub counts : CountsOf journal found
