use Rattle.sva_fabric.proofs.tokens.Tokens.new.Goals as goal

pub returns-clause-leases : goal.returns-clause-leases
returns-clause-leases g c = c.new.ensures.items

pub returns-clause-leavings : goal.returns-clause-leavings
returns-clause-leavings g c = c.new-2.ensures.items

pub returns-clause-tickets : goal.returns-clause-tickets
returns-clause-tickets g c = c.new-3.ensures.items
