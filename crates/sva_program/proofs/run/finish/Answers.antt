use Rattle.std.proofs.Common.{rules}
use Rattle.sva_program.proofs.run.finish.Goals as goal

pub returns-in-Err-clause-said : goal.returns-in-Err-clause-said
returns-in-Err-clause-said g c = search rules
