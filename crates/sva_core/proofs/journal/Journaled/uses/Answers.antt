use Rattle.std.proofs.Common.{ap, ◌∙◌}
use Rattle.sva_refinement.specs.Tallies.{slots_taken}
use Rattle.sva_core.specs.Journal.{uses_of}
use Rattle.sva_core.proofs.journal.Journaled.uses.Goals as goal

pub returns-clause-count : goal.returns-clause-count
returns-clause-count c = c.self.invariant.4 ∙ (ap slots_taken c.self.invariant.1 ∙ ap uses_of c.self.view_is)
