use Rattle.std.proofs.Common.{◌+◌, ◌∙◌, ap, sym}
use Rattle.sva_step.specs.declared.steps.Step.TheVariants as step
use Rattle.std.specs.Prelude.{Ok}
use Rattle.sva_model.specs.Wire.{Wire}
use Rattle.sva_model.specs.Outcomes.{unmap_answer}
use Rattle.sva_labels.specs.Finding.{frames_of, pages_in}
use Rattle.sva_host_state.proofs.Devices.{kept}
use Rattle.sva_host_state.proofs.PagesOut.{unmap_other, units_other, unmap_refused, units_refuse, units_fit, cookies_left, at_least_one, room_for}
use Rattle.sva_host_state.proofs.PagesOut.{unmap_ends, empty_if, awaited_if}
use Rattle.sva_host_state.proofs.Planning.{plan_with_wait}
use Rattle.sva_host_state.proofs.NeverForMemory.{not_for_memory}
use Rattle.sva_host.proofs.spaces.unmapping.unmap.Goals as goal
use Rattle.sva_host.proofs.spaces.unmapping.unmap.Goals.{then-is_empty, else-is_empty}

pub returns-in_err-may_unmap-clause-step : goal.returns-in_err-may_unmap-clause-step
returns-in_err-may_unmap-clause-step c =
    kept _ _ (step.Unmap c.args.space c.args.page c.args.count) _ _ c.host.view_is c.from_residual.ensures
    (unmap_refused c.host.inside c.args.space c.args.page c.args.count _ c.in_err-may_unmap.ensures)

pub returns-in_err-plan-clause-step : goal.returns-in_err-plan-clause-step
returns-in_err-plan-clause-step c =
    kept _ _ (step.Unmap c.args.space c.args.page c.args.count) _ _ c.host.view_is c.from_residual-in_err-plan.ensures
    (units_refuse c.host.inside _ c.args.space c.args.page c.args.count _ c.host.view_is c.in_ok-may_unmap.ensures c.in_err-plan.ensures)

pub submit-requires-clause-plan : goal.submit-requires-clause-plan
submit-requires-clause-plan c = (c.args.space, plan_with_wait c.args.host.now c.args.space c.args.count c.in_ok-plan.plan c.in_ok-plan.ensures.0)

pub submit-requires-clause-cookies : goal.submit-requires-clause-cookies
submit-requires-clause-cookies c =
    cookies_left c.args.host.now c.args.space (c.args.count + 1) c.in_ok-plan.plan c.in_ok-plan.ensures.0 c.in_ok-plan.ensures.1

pub unmap-frames-requires-clause-room : goal.unmap-frames-requires-clause-room
unmap-frames-requires-clause-room c =
    room_for c.args.host.now c.args.space c.args.count c.host-2.inside.address_spaces.places _ c.requires
    (at_least_one c.host.inside.address_spaces c.args.space c.args.page c.args.count c.in_ok-may_unmap.ensures)
    (units_fit c.args.host.now c.args.space (c.args.count + 1) c.in_ok-plan.ensures.1)
    (ap (λ (w : Wire). w.places) (c.host-2.view_is ∙ c.submit.ensures c.args.space
    (plan_with_wait c.args.host.now c.args.space c.args.count c.in_ok-plan.plan c.in_ok-plan.ensures.0)))
    c.in_ok-plan.ensures.0.waits

pub returns-clause-step : goal.returns-clause-step
returns-clause-step c =
    let seen = c.host-2.view_is ∙ c.submit.ensures c.args.space
    (plan_with_wait c.args.host.now c.args.space c.args.count c.in_ok-plan.plan c.in_ok-plan.ensures.0) in
    let frames = c.unmap-frames.ensures.frames ∙ ap (λ (w : Wire). frames_of (pages_in w c.args.space) c.args.page c.args.count) seen in
    unmap_ends c.host.inside c.host-2.inside c.args.host.now c.args.space c.args.page c.args.count c.in_ok-plan.plan.waits c.unmap-frames.new.self
    c.if-is_empty.result
    c.host.view_is c.in_ok-may_unmap.ensures c.in_ok-plan.ensures.1 seen c.in_ok-plan.ensures.0.waits c.unmap-frames.ensures.after
    (elim c.if-is_empty.branch [
      | then-is_empty w ↦ w.result-is ∙ (λ i. Ok (unmap_answer (sym (empty_if c.is_empty.result _ c.is_empty.ensures w.if-is_empty.true) i) (frames i)))
      | else-is_empty w ↦ w.result-is ∙ (λ i. Ok (unmap_answer (sym (awaited_if c.is_empty.result _ c.is_empty.ensures w.if-is_empty.false) i) (frames i)))
    ])

pub returns-in_err-may_unmap-clause-memory : goal.returns-in_err-may_unmap-clause-memory
returns-in_err-may_unmap-clause-memory c =
    not_for_memory _ _ c.from_residual.ensures (unmap_other c.host.inside.address_spaces c.args.space c.args.page c.args.count _ c.in_err-may_unmap.ensures)

pub returns-in_err-plan-clause-memory : goal.returns-in_err-plan-clause-memory
returns-in_err-plan-clause-memory c =
    not_for_memory _ _ c.from_residual-in_err-plan.ensures (units_other c.args.host.now c.args.space (c.args.count + 1) _ c.in_err-plan.ensures)
