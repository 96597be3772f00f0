use Rattle.sva_msg.proofs.CodeLemmas.{most, end}
use Rattle.sva_msg.proofs.ranges.Range.pages.Goals as goal

pub returns-clause-most : goal.returns-clause-most
returns-clause-most c = most c.self.inside.order c.self.invariant.small

pub returns-clause-end : goal.returns-clause-end
returns-clause-end c =
    rw (← c.self.view_is)
    (end c.self.inside.base c.self.inside.order c.self.invariant.small c.self.invariant.low c.self.invariant.aligned)
