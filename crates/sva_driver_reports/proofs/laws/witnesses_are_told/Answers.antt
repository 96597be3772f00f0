use Rattle.sva_driver_reports.proofs.AllFound.{findings_are_told}
use Rattle.sva_driver_reports.proofs.Ends.{ends_are_told}
use Rattle.sva_driver_reports.proofs.Witnesses.{leaks_are_told, witnesses_are_told}
use Rattle.sva_driver_reports.proofs.laws.witnesses_are_told.Goals as goal

pub returns-clause-witness : goal.returns-clause-witness
returns-clause-witness c = witnesses_are_told

pub returns-clause-findings : goal.returns-clause-findings
returns-clause-findings c = findings_are_told

pub returns-clause-leak : goal.returns-clause-leak
returns-clause-leak c = leaks_are_told

pub returns-clause-end : goal.returns-clause-end
returns-clause-end c = ends_are_told
