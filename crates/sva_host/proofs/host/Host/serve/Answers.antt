use Rattle.std.proofs.Common.{Bool, sym, ap, subst, ◌∙◌}
use Rattle.std.specs.Prelude.{Ok}
use Rattle.sva_step.specs.declared.steps.Step.TheVariants as step
use Rattle.sva_step.specs.declared.answers.Answer.TheVariants as answer
use Rattle.sva_model.specs.Wire.{Wire}
use Rattle.sva_labels.specs.Sound.{IsSound}
use Rattle.sva_host_state.specs.Steps.{ByLabels}
use Rattle.sva_host_state.proofs.Devices.{kept}
use Rattle.sva_prq.specs.JobTable.{JobTable, CanFile, filed}
use Rattle.sva_host.specs.Inner.{wire_of}
use Rattle.sva_host.proofs.Filing.{serve_refused, serve_empty, serve_unfiled, serve_done, serve_still, some_waits, never_lost, head_is, can_file}
use Rattle.sva_host.proofs.Filing.{filing_answer, reserved, unreserved}
use Rattle.sva_host.proofs.host.Host.serve.Goals as goal
use Rattle.sva_host.proofs.host.Host.serve.Goals.{then-file, else-file}

pub returns-in_err-may_serve-clause-step : goal.returns-in_err-may_serve-clause-step
returns-in_err-may_serve-clause-step c =
    kept (wire_of c.self.inside) _ (step.Serve c.args.endpoint) _ _ c.self.view_is c.from_residual.ensures
    (serve_refused c.self.inside c.args.endpoint _ c.in_err-may_serve.ensures)

pub returns-in_default-clause-step : goal.returns-in_default-clause-step
returns-in_default-clause-step c =
    subst (λ (w : Wire). ByLabels w (step.Serve c.args.endpoint) (Ok answer.Empty) w) c.self.view_is
    (serve_empty c.self.inside c.args.endpoint c.in_ok-may_serve.ensures c.in_default.ensures)

pub unreachable-requires : goal.unreachable-requires
unreachable-requires c =
    never_lost c.self.inside c.args.endpoint c.in-Some.request (subst IsSound (sym c.self.view_is) c.requires) c.in_ok-may_serve.ensures c.in-Some.ensures
    c.in_default-bearer_at.ensures

pub returns-then-is_err-clause-step : goal.returns-then-is_err-clause-step
returns-then-is_err-clause-step c =
    serve_unfiled c.self.inside _ c.args.endpoint c.in-Some-bearer_at.binding c.in-Some.request c.reserve.new.self c.self.view_is c.in_ok-may_serve.ensures
    (head_is c.self.inside c.args.endpoint c.in-Some.request c.in-Some-bearer_at.binding c.in_ok-may_serve.ensures c.in-Some.ensures
    c.in-Some-bearer_at.ensures)
    (unreserved c.reserve.result _ _ c.reserve.ensures.err (sym c.is_err.ensures.value ∙ c.if-is_err.true))

pub returns-then-is_err-clause-memory : goal.returns-then-is_err-clause-memory
returns-then-is_err-clause-memory c none wants =
    some_waits c.self.inside _ c.args.endpoint c.in-Some-bearer_at.binding c.in-Some.request c.self.view_is
    (head_is c.self.inside c.args.endpoint c.in-Some.request c.in-Some-bearer_at.binding c.in_ok-may_serve.ensures c.in-Some.ensures
    c.in-Some-bearer_at.ensures) none

pub file-requires : goal.file-requires
file-requires c =
    subst (λ (s : JobTable). CanFile s c.args.endpoint c.in-Some-bearer_at.binding c.in-Some.request)
    (sym (reserved c.reserve.result _ _ c.reserve.ensures.ok (sym c.is_err.ensures.value ∙ c.if-is_err.false)))
    (can_file c.self.inside c.args.endpoint c.in-Some-bearer_at.binding c.in-Some.request c.self.invariant (subst IsSound (sym c.self.view_is) c.requires)
    (head_is c.self.inside c.args.endpoint c.in-Some.request c.in-Some-bearer_at.binding c.in_ok-may_serve.ensures c.in-Some.ensures
    c.in-Some-bearer_at.ensures))

pub invariant_of-self-2 : goal.invariant_of-self-2
invariant_of-self-2 c =
    serve_still c.self.inside c.args.endpoint c.in-Some-bearer_at.binding c.in-Some.request c.take_request.new.host c.file.new.self c.self.invariant
    (subst IsSound (sym c.self.view_is) c.requires)
    (head_is c.self.inside c.args.endpoint c.in-Some.request c.in-Some-bearer_at.binding c.in_ok-may_serve.ensures c.in-Some.ensures
    c.in-Some-bearer_at.ensures)
    c.take_request.ensures
    (c.file.ensures.new ∙ ap (λ (s : JobTable). filed s c.args.endpoint c.in-Some-bearer_at.binding c.in-Some.request)
    (reserved c.reserve.result _ _ c.reserve.ensures.ok (sym c.is_err.ensures.value ∙ c.if-is_err.false)))

pub returns-clause-step : goal.returns-clause-step
returns-clause-step c =
    serve_done c.self.inside _ c.args.endpoint c.in-Some-bearer_at.binding c.in-Some.request c.if-file.result c.take_request.new.host c.file.new.self
    c.self.view_is
    c.in_ok-may_serve.ensures
    (head_is c.self.inside c.args.endpoint c.in-Some.request c.in-Some-bearer_at.binding c.in_ok-may_serve.ensures c.in-Some.ensures
    c.in-Some-bearer_at.ensures)
    c.take_request.ensures
    (c.file.ensures.new ∙ ap (λ (s : JobTable). filed s c.args.endpoint c.in-Some-bearer_at.binding c.in-Some.request)
    (reserved c.reserve.result _ _ c.reserve.ensures.ok (sym c.is_err.ensures.value ∙ c.if-is_err.false)))
    (elim c.if-file.branch [
      | then-file w ↦ w.result-is ∙ ap (λ (b : Bool). Ok (filing_answer b)) (sym w.if-file.true ∙ c.file.ensures.job)
      | else-file w ↦ w.result-is ∙ ap (λ (b : Bool). Ok (filing_answer b)) (sym w.if-file.false ∙ c.file.ensures.job)
    ])
