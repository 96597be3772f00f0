use Rattle.sva_open_laws.proofs.LinkLists.{deliveries_are_one}
use Rattle.sva_open_laws.proofs.LinkOrders.{orders_are_one}
use Rattle.sva_open_laws.proofs.alongside.orders_are_one.Goals as goal

pub returns-clause-pairs : goal.returns-clause-pairs
returns-clause-pairs c = orders_are_one

pub returns-clause-deliveries : goal.returns-clause-deliveries
returns-clause-deliveries c = deliveries_are_one
