use Rattle.std.proofs.Common.{rules}
use Rattle.sva_program.proofs.run.answer.Goals as goal

pub returns-in_default-show : goal.returns-in_default-show
returns-in_default-show g c = search rules

pub returns-in_default-show-2 : goal.returns-in_default-show-2
returns-in_default-show-2 g c = search rules
