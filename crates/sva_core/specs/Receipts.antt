-- Where the receipts of a port stand in a journal, and what a call under the lock does.
use Rattle.std.specs.Prelude.{◌≡◌, ◌≢◌, ℕ, Option, Some, List, length, slice_get, IfSome, IsSomeAnd}
use Rattle.sva_step.specs.declared.steps.Step.{Step}
use Rattle.sva_core.specs.declared.journal.Entry.{Entry}
use Rattle.sva_core.specs.declared.receipts.Receipt.{Receipt}
use Rattle.sva_core.specs.declared.running.StepFault.{StepFault}
use Rattle.sva_core.specs.declared.running.StepFault.TheVariants as fault
use Rattle.sva_core.specs.declared.running.Strayed.{Strayed}
use Rattle.sva_core.specs.Journal.{History, entry_of, answer_of}

-- the entry that a receipt of this port tells of
abbrev pub entry_told : (port : ℕ) → Receipt → Entry
entry_told port receipt = entry_of port receipt.step receipt.answer

-- the receipt's entry stands at its place
abbrev pub Stands : List Entry → (port : ℕ) → Receipt → Type 0
Stands entries port receipt = slice_get entries receipt.place ≡ Some (entry_told port receipt)

-- a call that was answered: it stands behind all that the journal had, its answer is the one of the definitions there, and the
-- port's last receipt stands
pub record IsAnsweredAt (before : History) (port : ℕ) (last : Option Receipt) (step : Step) (receipt : Receipt) : Type 0 where
  pub step_is : receipt.step ≡ step
  pub place_is : receipt.place ≡ length before.entries
  pub answer_is : receipt.answer ≡ answer_of before step
  pub last_stands : IfSome last (λ previous. Stands before.entries port previous)

-- something else stands where the port's last receipt should
abbrev pub HasStrayed : List Entry → (port : ℕ) → Option Receipt → Strayed → Type 0
HasStrayed entries port last strayed =
    (strayed.found ≡ slice_get entries strayed.place)
    × IsSomeAnd last (λ previous. (previous.place ≡ strayed.place) × (strayed.found ≢ Some (entry_told port previous)))

-- a call that was not: memory lacked, or the port strayed
abbrev pub IsRefusedAt : List Entry → (port : ℕ) → Option Receipt → StepFault → Type 0
IsRefusedAt entries port last fault.Memory = IfSome last (λ previous. Stands entries port previous)
IsRefusedAt entries port last (fault.Strayed strayed) = HasStrayed entries port last strayed
