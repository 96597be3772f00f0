use Rattle.std.proofs.Common.{ap, ◌∙◌}
use Rattle.sva_refinement.specs.Tallies.{unreleased}
use Rattle.sva_core.specs.Journal.{bindings_of}
use Rattle.sva_core.proofs.journal.Journaled.bindings.Goals as goal

pub returns-clause-count : goal.returns-clause-count
returns-clause-count c = c.self.invariant.2 ∙ (ap unreleased c.self.invariant.1 ∙ ap bindings_of c.self.view_is)
