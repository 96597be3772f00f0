use Rattle.sva_laws.proofs.Bearers.{always_tells_bearer}
use Rattle.sva_laws.proofs.Given.{always_gives_lowest, always_pumps}
use Rattle.sva_laws.proofs.labels_and_turns.Goals as goal

pub returns-clause-lowest : goal.returns-clause-lowest
returns-clause-lowest c = λ rule config steps fits. always_gives_lowest rule config steps

pub returns-clause-bearers : goal.returns-clause-bearers
returns-clause-bearers c = λ rule config steps t fits. always_tells_bearer rule config steps t

pub returns-clause-pumps : goal.returns-clause-pumps
returns-clause-pumps c = λ rule config steps e said fits accepted. always_pumps rule config steps e said accepted
