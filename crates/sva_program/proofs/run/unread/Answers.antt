use Rattle.std.proofs.Common.{rules}
use Rattle.sva_program.proofs.run.unread.Goals as goal

pub returns-in-OutOfMemory-clause-memory : goal.returns-in-OutOfMemory-clause-memory
returns-in-OutOfMemory-clause-memory g c = search rules
