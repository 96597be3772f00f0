use Rattle.std.proofs.Common.{ℕ, drop}
use Rattle.sva_fabric.specs.Audits.{AllStand, IsFirstBad}
use Rattle.sva_fabric.proofs.auditing.first_bad_of.Given as goal

-- what holds of the receipts that are left gives what holds of all
abbrev pub invariant-loop-receipt : goal.invariant-loop-receipt
invariant-loop-receipt l =
    (AllStand l.journaled.entries l.port (drop l.receipt-index l.receipts) → AllStand l.journaled.entries l.port l.receipts)
    × ((place : ℕ) → IsFirstBad l.journaled.entries l.port (drop l.receipt-index l.receipts) place → IsFirstBad l.journaled.entries l.port l.receipts place)
