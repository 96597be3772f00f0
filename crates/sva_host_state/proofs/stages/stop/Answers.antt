use Rattle.std.proofs.Common.{ap, subst, Bool}
use Rattle.sva_model.specs.Wire.StageWire.{StoppingWire}
use Rattle.sva_pasid.specs.States.{Stop}
use Rattle.sva_pasid.specs.declared.stages.Stage.TheVariants.{Stopping}
use Rattle.sva_host_state.specs.Stages.{MovesTo}
use Rattle.sva_host_state.proofs.Moving.{moves_to}
use Rattle.sva_host_state.proofs.stages.stop.Goals as goal

pub returns : goal.returns
returns c =
    subst (λ (b : Bool). MovesTo (StoppingWire b) c.args.binding c.args.bindings.now c.put.new.self) (ap (λ (s : Stop). s.marked) c.stop.ensures)
    (moves_to c.args.binding c.args.bindings.now c.take.new.self c.put.new.self (Stopping c.stop.result) c.take.ensures.places c.put.ensures)
