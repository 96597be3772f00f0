use Rattle.sva_laws.proofs.UnitSteps.{always_counts, always_changes, always_notes}
use Rattle.sva_laws.proofs.Voids.{always_void}
use Rattle.sva_laws.proofs.Cookies.{always_cookies}
use Rattle.sva_laws.proofs.orders_and_resets.Goals as goal

pub returns-clause-counted : goal.returns-clause-counted
returns-clause-counted c = λ rule config steps s e fits. always_counts rule config steps s e

pub returns-clause-ended : goal.returns-clause-ended
returns-clause-ended c = λ rule config steps s e fits. always_changes rule config steps s e

pub returns-clause-void : goal.returns-clause-void
returns-clause-void c = λ rule config before since e fits. always_void rule config before since e

pub returns-clause-noted : goal.returns-clause-noted
returns-clause-noted c = λ rule config steps s e fits. always_notes rule config steps s e

pub returns-clause-cookies : goal.returns-clause-cookies
returns-clause-cookies c = λ rule config steps fits. always_cookies rule config steps
