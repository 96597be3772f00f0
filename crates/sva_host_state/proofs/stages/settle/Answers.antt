use Rattle.std.proofs.Common.{◌≡◌, refl, ap, sym, subst, ◌∙◌, ℕ}
use Rattle.std.specs.Prelude.{Some, Ok, Err, true, false}
use Rattle.sva_model.specs.Wire.StageWire.{InvalidatingWire}
use Rattle.sva_labels.specs.Finding.{is_wait_done}
use Rattle.sva_pasid.specs.States.{Wait, quiet_of}
use Rattle.sva_pasid.specs.declared.stages.Stage.TheVariants.{Invalidating, Quiet}
use Rattle.sva_host_state.specs.Stages.{MovesTo, stage_settled, told_by}
use Rattle.sva_host_state.proofs.Moving.{moves_to, seen_here, invalidating_cookie, told_waited, told_cookie, goes_on, quiet_given}
use Rattle.sva_host_state.proofs.stages.settle.Goals as goal

pub returns-in-Ok-clause-due : goal.returns-in-Ok-clause-due
returns-in-Ok-clause-due c own seen done = refl

pub returns-in-Ok-clause-moves : goal.returns-in-Ok-clause-moves
returns-in-Ok-clause-moves c =
    moves_to c.args.binding c.args.bindings.now c.take.new.self c.put.new.self (Quiet c.in-Ok.quiet) c.take.ensures.places c.put.ensures

pub returns-in-Err-clause-due : goal.returns-in-Err-clause-due
returns-in-Err-clause-due c own seen done =
    let here = seen_here _ c.args.binding c.args.bindings.now _ (Invalidating c.in-Some-Invalidating.invalidating) c.take.ensures.stage
    (c.in-Some-Invalidating.is ∙ ap Some c.in-Some-Invalidating.field-0-is) refl in
    let same = invalidating_cookie c.in-Some-Invalidating.invalidating.cookie own c.args.binding c.args.bindings.now here seen in
    let told = ap (λ (w : Wait). w.waited) c.invalidated.ensures
    ∙ told_waited c.args.unit.now.unit c.in-Some-Invalidating.invalidating (ap (is_wait_done c.args.unit.now.unit) same ∙ done) in
    sym c.in-Err.ensures.err.0 ∙ told

pub returns-in-Err-clause-moves : goal.returns-in-Err-clause-moves
returns-in-Err-clause-moves c =
    let kept = ap (λ (w : Wait). w.cookie) (c.in-Err.ensures.err.1 ∙ c.invalidated.ensures)
    ∙ told_cookie c.args.unit.now.unit c.in-Some-Invalidating.invalidating in (
      InvalidatingWire c.in-Some-Invalidating.invalidating.cookie,
      seen_here _ c.args.binding c.args.bindings.now _ (Invalidating c.in-Some-Invalidating.invalidating) c.take.ensures.stage
          (c.in-Some-Invalidating.is ∙ ap Some c.in-Some-Invalidating.field-0-is) refl,
      subst (λ (k : ℕ). MovesTo (InvalidatingWire k) c.args.binding c.args.bindings.now c.put-in-Err.new.self) kept
          (moves_to c.args.binding c.args.bindings.now c.take.new.self c.put-in-Err.new.self (Invalidating c.in-Err.invalidating) c.take.ensures.places
          c.put-in-Err.ensures),
    )

pub returns-in-Ok-clause-exactly : goal.returns-in-Ok-clause-exactly
returns-in-Ok-clause-exactly c own stands =
    let moved = quiet_of (told_by c.args.unit.now.unit own) in
    let given : Ok c.in-Ok.quiet ≡ moved =
    quiet_given c.args.unit.now.unit own c.in-Some-Invalidating.invalidating c.invalidated.result c.args.binding c.args.bindings.now _
    (Ok c.in-Ok.quiet) c.take.ensures.stage (c.in-Some-Invalidating.is ∙ ap Some c.in-Some-Invalidating.field-0-is) c.invalidated.ensures
    (sym c.in-Ok.is ∙ c.quiet.ensures.value) stands in
    goes_on stage_settled (Ok c.in-Ok.quiet) moved c.args.binding true c.args.bindings.now c.take.new.self c.put.new.self given refl
    c.take.ensures.places c.put.ensures

pub returns-in-Err-clause-exactly : goal.returns-in-Err-clause-exactly
returns-in-Err-clause-exactly c own stands =
    let moved = quiet_of (told_by c.args.unit.now.unit own) in
    let given : Err c.in-Err.invalidating ≡ moved =
    quiet_given c.args.unit.now.unit own c.in-Some-Invalidating.invalidating c.invalidated.result c.args.binding c.args.bindings.now _
    (Err c.in-Err.invalidating) c.take.ensures.stage (c.in-Some-Invalidating.is ∙ ap Some c.in-Some-Invalidating.field-0-is) c.invalidated.ensures
    (sym c.in-Err.is ∙ c.quiet.ensures.value) stands in
    goes_on stage_settled (Err c.in-Err.invalidating) moved c.args.binding false c.args.bindings.now c.take.new.self c.put-in-Err.new.self given refl
    c.take.ensures.places c.put-in-Err.ensures
