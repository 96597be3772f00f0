use Rattle.sva_laws.proofs.Untouched.{always_evicts, always_takes, always_stops, always_quits, always_asks, always_disables, always_cuts_off}
use Rattle.sva_laws.proofs.Untouched.{always_brings, always_drains_once}
use Rattle.sva_laws.proofs.GoingOn.{always_goes_on}
use Rattle.sva_laws.proofs.InReset.{always_stays_disabled}
use Rattle.sva_laws.proofs.what_steps_leave.Goals as goal

pub returns-clause-evicts : goal.returns-clause-evicts
returns-clause-evicts c = λ rule config steps e pasid page said fits accepted. always_evicts rule config steps e pasid page said accepted

pub returns-clause-takes : goal.returns-clause-takes
returns-clause-takes c = λ rule config steps s e order fits delivers. always_takes rule config steps s e order delivers

pub returns-clause-stops : goal.returns-clause-stops
returns-clause-stops c = λ rule config steps s e binding fits delivers. always_stops rule config steps s e binding delivers

pub returns-clause-quits : goal.returns-clause-quits
returns-clause-quits c = λ rule config steps e pasid said fits accepted. always_quits rule config steps e pasid said accepted

pub returns-clause-asks : goal.returns-clause-asks
returns-clause-asks c = λ rule config steps e pasid page said fits accepted. always_asks rule config steps e pasid page said accepted

pub returns-clause-disables : goal.returns-clause-disables
returns-clause-disables c = λ rule config steps s e fits. always_disables rule config steps s e

pub returns-clause-cuts_off : goal.returns-clause-cuts_off
returns-clause-cuts_off c = λ rule config steps s e fits delivers. always_cuts_off rule config steps s e delivers

pub returns-clause-drains : goal.returns-clause-drains
returns-clause-drains c = λ rule config steps e fits. always_drains_once rule config steps e

pub returns-clause-brings : goal.returns-clause-brings
returns-clause-brings c = λ rule config steps s e request found said fits delivers accepted.
    always_brings rule config steps s e request found said delivers accepted

pub returns-clause-goes_on : goal.returns-clause-goes_on
returns-clause-goes_on c = λ rule config steps s fits own. always_goes_on rule config steps s own

pub returns-clause-stays_disabled : goal.returns-clause-stays_disabled
returns-clause-stays_disabled c = λ rule config steps s e fits. always_stays_disabled rule config steps s e
