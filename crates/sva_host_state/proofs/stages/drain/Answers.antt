use Rattle.std.proofs.Common.{◌≡◌, ap, refl, sym, subst, ◌∙◌, ℕ, Bool}
use Rattle.std.specs.Prelude.{Some, Ok, Err, true, false}
use Rattle.sva_model.specs.Wire.StageWire.{StoppingWire, DrainingWire}
use Rattle.sva_pasid.specs.States.{Stop, Wait, drain_of}
use Rattle.sva_pasid.specs.declared.stages.Stage.TheVariants.{Stopping, Draining}
use Rattle.sva_host_state.specs.Stages.{MovesTo, stage_drained}
use Rattle.sva_host_state.proofs.Moving.{moves_to, seen_here, goes_on, drain_given}
use Rattle.sva_host_state.proofs.stages.drain.Goals as goal

pub returns-in-Ok-clause-noted : goal.returns-in-Ok-clause-noted
returns-in-Ok-clause-noted c =
    seen_here _ c.args.binding c.args.bindings.now _ (Stopping c.in-Some-Stopping.stopping) c.take.ensures.stage
    (c.in-Some-Stopping.is ∙ ap Some c.in-Some-Stopping.field-0-is)
    (ap StoppingWire c.in-Ok.ensures.ok.0)

pub returns-in-Ok-clause-moves : goal.returns-in-Ok-clause-moves
returns-in-Ok-clause-moves c =
    subst (λ (k : ℕ). MovesTo (DrainingWire k) c.args.binding c.args.bindings.now c.put.new.self) (ap (λ (w : Wait). w.cookie) c.in-Ok.ensures.ok.1)
    (moves_to c.args.binding c.args.bindings.now c.take.new.self c.put.new.self (Draining c.in-Ok.draining) c.take.ensures.places c.put.ensures)

pub returns-in-Err-clause-noted : goal.returns-in-Err-clause-noted
returns-in-Err-clause-noted c =
    seen_here _ c.args.binding c.args.bindings.now _ (Stopping c.in-Some-Stopping.stopping) c.take.ensures.stage
    (c.in-Some-Stopping.is ∙ ap Some c.in-Some-Stopping.field-0-is)
    (ap StoppingWire c.in-Err.ensures.err.0)

pub returns-in-Err-clause-moves : goal.returns-in-Err-clause-moves
returns-in-Err-clause-moves c =
    let marked = ap (λ (s : Stop). s.marked) c.in-Err.ensures.err.1 in (
      StoppingWire c.in-Some-Stopping.stopping.marked,
      seen_here _ c.args.binding c.args.bindings.now _ (Stopping c.in-Some-Stopping.stopping) c.take.ensures.stage
          (c.in-Some-Stopping.is ∙ ap Some c.in-Some-Stopping.field-0-is) refl,
      subst (λ (b : Bool). MovesTo (StoppingWire b) c.args.binding c.args.bindings.now c.put-in-Err.new.self) marked
          (moves_to c.args.binding c.args.bindings.now c.take.new.self c.put-in-Err.new.self (Stopping c.in-Err.stopping) c.take.ensures.places
          c.put-in-Err.ensures),
    )

pub returns-in-Ok-clause-exactly : goal.returns-in-Ok-clause-exactly
returns-in-Ok-clause-exactly c own stands =
    let given : Ok c.in-Ok.draining ≡ drain_of own c.args.cookie =
    drain_given own c.in-Some-Stopping.stopping c.args.cookie c.args.binding c.args.bindings.now _ (Ok c.in-Ok.draining) c.take.ensures.stage
    (c.in-Some-Stopping.is ∙ ap Some c.in-Some-Stopping.field-0-is) (sym c.in-Ok.is ∙ c.drain.ensures.value) stands in
    goes_on stage_drained (Ok c.in-Ok.draining) (drain_of own c.args.cookie) c.args.binding true c.args.bindings.now c.take.new.self
    c.put.new.self given refl c.take.ensures.places c.put.ensures

pub returns-in-Err-clause-exactly : goal.returns-in-Err-clause-exactly
returns-in-Err-clause-exactly c own stands =
    let given : Err c.in-Err.stopping ≡ drain_of own c.args.cookie =
    drain_given own c.in-Some-Stopping.stopping c.args.cookie c.args.binding c.args.bindings.now _ (Err c.in-Err.stopping) c.take.ensures.stage
    (c.in-Some-Stopping.is ∙ ap Some c.in-Some-Stopping.field-0-is) (sym c.in-Err.is ∙ c.drain.ensures.value) stands in
    goes_on stage_drained (Err c.in-Err.stopping) (drain_of own c.args.cookie) c.args.binding false c.args.bindings.now c.take.new.self
    c.put-in-Err.new.self given refl c.take.ensures.places c.put-in-Err.ensures
