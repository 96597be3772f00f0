use Rattle.std.proofs.Common.{refl}
use Rattle.sva_open_laws.proofs.occasions.rows_of_occasions.Goals as goal

pub returns-clause-places : goal.returns-clause-places
returns-clause-places c = λ settings. (refl, refl)

pub returns-clause-less : goal.returns-clause-less
returns-clause-less c = λ settings. (refl, refl, refl, refl)

pub returns-clause-times : goal.returns-clause-times
returns-clause-times c = λ settings. (refl, refl, refl, refl)

pub returns-clause-units : goal.returns-clause-units
returns-clause-units c = λ settings. (refl, refl, refl)

pub returns-clause-both : goal.returns-clause-both
returns-clause-both c = λ settings. (refl, refl, refl, refl, refl, refl)
