use Rattle.std.proofs.Common.{refl}
use Rattle.sva_open_laws.proofs.pages.rows_of_pages.Goals as goal

pub returns-clause-places : goal.returns-clause-places
returns-clause-places c = λ settings. (refl, refl)

pub returns-clause-less : goal.returns-clause-less
returns-clause-less c = λ settings. (refl, refl, refl, refl)

pub returns-clause-others : goal.returns-clause-others
returns-clause-others c = (refl, refl)
