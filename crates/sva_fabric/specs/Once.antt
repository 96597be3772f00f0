-- Where an audit finds nothing wrong the journal is what the ports' receipts tell, each once.
use Rattle.std.specs.Prelude.{ℕ, Ok, List, [], ◌∷◌}
use Rattle.sva_core.specs.Journal.{History}
use Rattle.sva_fabric.specs.declared.audits.Audit.{Audit}
use Rattle.sva_fabric.specs.Receipts.{PortState, AreRising}
use Rattle.sva_fabric.specs.Audits.{IsAudit, IsToldOnce}

-- the places of each port's receipts rise, as those of every `Port` do
abbrev pub AllRise : List PortState → Type 0
AllRise [] = Unit {0}
AllRise (state ∷ states) = AreRising state.receipts × AllRise states

-- so of every audit of such ports
abbrev pub AuditsTellOnce : Type 0
AuditsTellOnce =
    (history : History) (states : List PortState) (held used : ℕ) (audit : Audit)
    → AllRise states → IsAudit history states held used (Ok audit) → IsToldOnce history.entries states
