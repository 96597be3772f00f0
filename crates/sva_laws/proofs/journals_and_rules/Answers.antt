use Rattle.sva_laws.proofs.Journals.{front_legal, more_legal}
use Rattle.sva_laws.proofs.OneEndpoint.{one_endpoint}
use Rattle.sva_laws.proofs.journals_and_rules.Goals as goal

pub returns-clause-fronts : goal.returns-clause-fronts
returns-clause-fronts c = λ rule config journal rest legal. front_legal rule config journal rest legal

pub returns-clause-entries : goal.returns-clause-entries
returns-clause-entries c = λ rule config journal entry legal. more_legal rule config journal entry legal

pub returns-clause-rules : goal.returns-clause-rules
returns-clause-rules c = λ config steps fits one. one_endpoint config steps one
