use Rattle.std.proofs.Common.{rules}
use Rattle.sva_open_safe.specs.contracts.wrongs.WrongEq.TheImpl.Laws.{laws-law}
use Rattle.sva_open_safe.proofs.SameWrongs.{same_wrong}
use Rattle.sva_open_safe.proofs.wrongs.is_same_wrong.Goals as goal

pub returns-clause-same : goal.returns-clause-same
returns-clause-same c = λ is. same_wrong c.args.one c.args.other (search rules)

pub returns-clause-always : goal.returns-clause-always
returns-clause-always c = λ is. search (rules, is, laws-law.refl c.args.one)
