use Rattle.std.proofs.Common.{rules}
use Rattle.sva_core.proofs.journal.Journaled.counts.Goals as goal

pub returns-clause-counts : goal.returns-clause-counts
returns-clause-counts c = search rules
