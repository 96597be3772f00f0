use Rattle.sva_host_state.proofs.Moving.{moves_to}
use Rattle.sva_host_state.proofs.stages.settle_lost.Goals as goal

-- the stage isn't named: it is that which was put there
pub returns : goal.returns
returns c =
    let moved = moves_to c.args.binding c.args.bindings.now c.take.new.self c.put.new.self _ c.take.ensures.places c.put.ensures in
    moved
