use Rattle.std.proofs.Common.{rules}
use Rattle.sva_core.proofs.journal.Journaled.calls.Goals as goal

pub returns-clause-calls : goal.returns-clause-calls
returns-clause-calls c = search rules
