use Rattle.std.proofs.Common.{◌∙◌}
use Rattle.sva_core.proofs.running.Running.empty_shares.Goals as goal

pub invariant_of-self : goal.invariant_of-self
invariant_of-self g c = (c.empty_shares.ensures.same ∙ c.self.invariant.0, c.self.invariant.1)
