use Rattle.std.proofs.Common.{◌≡◌, refl, ap, sym, subst, ◌∙◌, ℕ, Bool}
use Rattle.std.specs.Prelude.{Some, Ok, Err, true, false, ◌&&◌, not}
use Rattle.sva_model.specs.Wire.StageWire.{DrainingWire, InvalidatingWire}
use Rattle.sva_labels.specs.Finding.{is_wait_done}
use Rattle.sva_pasid.specs.States.{Wait, invalidation_of}
use Rattle.sva_pasid.specs.declared.stages.Stage.TheVariants.{Draining, Invalidating}
use Rattle.sva_host_state.specs.Stages.{MovesTo, stage_invalidated, told_by}
use Rattle.sva_host_state.proofs.Moving.{moves_to, seen_here, draining_cookie, told_waited, told_cookie, goes_on, invalidation_given}
use Rattle.sva_host_state.proofs.stages.invalidate.Goals as goal

pub returns-in-Ok-clause-due : goal.returns-in-Ok-clause-due
returns-in-Ok-clause-due c own seen done = sym (ap not c.in-Ok.ensures.ok.1)

pub returns-in-Ok-clause-moves : goal.returns-in-Ok-clause-moves
returns-in-Ok-clause-moves c =
    subst (λ (k : ℕ). MovesTo (InvalidatingWire k) c.args.binding c.args.bindings.now c.put.new.self) (ap (λ (w : Wait). w.cookie) c.in-Ok.ensures.ok.2)
    (moves_to c.args.binding c.args.bindings.now c.take.new.self c.put.new.self (Invalidating c.in-Ok.invalidating) c.take.ensures.places c.put.ensures)

pub returns-in-Err-clause-due : goal.returns-in-Err-clause-due
returns-in-Err-clause-due c own seen done =
    let here = seen_here _ c.args.binding c.args.bindings.now _
    (Draining c.in-Some-Draining.draining) c.take.ensures.stage
    (c.in-Some-Draining.is ∙ ap Some c.in-Some-Draining.field-0-is) refl in
    let same = draining_cookie c.in-Some-Draining.draining.cookie own c.args.binding c.args.bindings.now here seen in
    let told = ap (λ (w : Wait). w.waited) c.drained.ensures
    ∙ told_waited c.args.unit.now.unit c.in-Some-Draining.draining (ap (is_wait_done c.args.unit.now.unit) same ∙ done) in
    sym (ap (λ (b : Bool). b && not c.args.groups_open) (sym told) ∙ c.in-Err.ensures.err.0)

pub returns-in-Err-clause-moves : goal.returns-in-Err-clause-moves
returns-in-Err-clause-moves c =
    let kept = ap (λ (w : Wait). w.cookie) (c.in-Err.ensures.err.1 ∙ c.drained.ensures) ∙ told_cookie c.args.unit.now.unit c.in-Some-Draining.draining in (
      DrainingWire c.in-Some-Draining.draining.cookie,
      seen_here _ c.args.binding c.args.bindings.now _ (Draining c.in-Some-Draining.draining) c.take.ensures.stage
          (c.in-Some-Draining.is ∙ ap Some c.in-Some-Draining.field-0-is) refl,
      subst (λ (k : ℕ). MovesTo (DrainingWire k) c.args.binding c.args.bindings.now c.put-in-Err.new.self) kept
          (moves_to c.args.binding c.args.bindings.now c.take.new.self c.put-in-Err.new.self (Draining c.in-Err.draining) c.take.ensures.places
          c.put-in-Err.ensures),
    )

pub returns-in-Ok-clause-exactly : goal.returns-in-Ok-clause-exactly
returns-in-Ok-clause-exactly c own stands =
    let moved = invalidation_of (told_by c.args.unit.now.unit own) c.args.cookie c.args.groups_open in
    let given : Ok c.in-Ok.invalidating ≡ moved =
    invalidation_given c.args.unit.now.unit own c.in-Some-Draining.draining c.drained.result c.args.cookie c.args.groups_open c.args.binding
    c.args.bindings.now _ (Ok c.in-Ok.invalidating) c.take.ensures.stage (c.in-Some-Draining.is ∙ ap Some c.in-Some-Draining.field-0-is)
    c.drained.ensures (sym c.in-Ok.is ∙ c.invalidate.ensures.value) stands in
    goes_on stage_invalidated (Ok c.in-Ok.invalidating) moved c.args.binding true c.args.bindings.now c.take.new.self c.put.new.self given refl
    c.take.ensures.places c.put.ensures

pub returns-in-Err-clause-exactly : goal.returns-in-Err-clause-exactly
returns-in-Err-clause-exactly c own stands =
    let moved = invalidation_of (told_by c.args.unit.now.unit own) c.args.cookie c.args.groups_open in
    let given : Err c.in-Err.draining ≡ moved =
    invalidation_given c.args.unit.now.unit own c.in-Some-Draining.draining c.drained.result c.args.cookie c.args.groups_open c.args.binding
    c.args.bindings.now _ (Err c.in-Err.draining) c.take.ensures.stage (c.in-Some-Draining.is ∙ ap Some c.in-Some-Draining.field-0-is)
    c.drained.ensures (sym c.in-Err.is ∙ c.invalidate.ensures.value) stands in
    goes_on stage_invalidated (Err c.in-Err.draining) moved c.args.binding false c.args.bindings.now c.take.new.self c.put-in-Err.new.self given refl
    c.take.ensures.places c.put-in-Err.ensures
