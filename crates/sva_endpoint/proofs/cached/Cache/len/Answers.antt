use Rattle.std.proofs.Common.{sym, ◌∙◌}
use Rattle.sva_endpoint.proofs.Edits.{length_is}
use Rattle.sva_endpoint.proofs.cached.Cache.len.Goals as goal

pub returns-clause-count : goal.returns-clause-count
returns-clause-count c = sym (length_is _ _ c.self.invariant.0 c.self.view_is ∙ sym c.len.ensures.value)
