use Rattle.sva_open_laws.proofs.FreshNumbers.{numbers_are_fresh}
use Rattle.sva_open_laws.proofs.fresh.numbers_are_fresh.Goals as goal

pub returns : goal.returns
returns c = numbers_are_fresh
