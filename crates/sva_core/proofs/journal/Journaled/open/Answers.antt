use Rattle.sva_core.proofs.JournalEntries.{begun}
use Rattle.sva_core.proofs.journal.Journaled.open.Goals as goal

pub invariant_of-result : goal.invariant_of-result
invariant_of-result c = begun c.args.config c.new.result.items c.in_ok-world.world c.in_ok-world.ensures.ok.0 c.new.ensures.items c.in_ok-world.ensures.ok.1
