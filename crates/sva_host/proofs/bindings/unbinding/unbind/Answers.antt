use Rattle.std.proofs.Common.{refl}
use Rattle.sva_step.specs.declared.steps.Step.TheVariants as step
use Rattle.sva_host_state.specs.Inner.{wire_of}
use Rattle.sva_host_state.proofs.Devices.{kept, went}
use Rattle.sva_host_state.proofs.Unbinds.{unbind_refused, refused_otherwise, ends_at_once, lost_there, ended, ends_by_stop, live_there, unsent, stopped}
use Rattle.sva_host_state.proofs.Unbinds.{not_memory, not_lost}
use Rattle.sva_host.proofs.bindings.unbinding.unbind.Goals as goal

pub returns-in_err-endpoint-clause-step : goal.returns-in_err-endpoint-clause-step
returns-in_err-endpoint-clause-step c =
    kept c.args.host.now c.args.host.now (step.Unbind c.args.binding) _ c.in_err-endpoint.field-0.0 refl c.from_residual.ensures
    (unbind_refused c.args.host.now c.args.binding c.in_err-endpoint.field-0.0 c.in_err-endpoint.ensures)

pub returns-in_err-endpoint-clause-memory : goal.returns-in_err-endpoint-clause-memory
returns-in_err-endpoint-clause-memory c = λ b found lost.
    not_memory _ c.in_err-endpoint.field-0.0 c.from_residual.ensures
    (refused_otherwise c.args.host.now c.args.binding c.in_err-endpoint.field-0.0 c.in_err-endpoint.ensures)

pub settle_lost-requires : goal.settle_lost-requires
settle_lost-requires c =
    lost_there c.host.inside c.args.host.now c.args.binding c.host.invariant c.host.view_is
    (ends_at_once c.args.host.now c.args.binding c.in_ok-endpoint.field-0 c.in_ok-endpoint.ensures c.in_default.is)

pub returns-in_default-clause-step : goal.returns-in_default-clause-step
returns-in_default-clause-step c =
    ended c.host.inside c.args.host.now c.args.binding c.settle_lost.new.bindings c.host.view_is
    (ends_at_once c.args.host.now c.args.binding c.in_ok-endpoint.field-0 c.in_ok-endpoint.ensures c.in_default.is) c.settle_lost.ensures

pub stop-requires : goal.stop-requires
stop-requires c =
    live_there c.host.inside c.args.host.now c.args.binding c.in-ByStop.endpoint c.in-ByStop.pasid c.host.invariant c.host.view_is
    (ends_by_stop c.args.host.now c.args.binding c.in-ByStop.endpoint c.in-ByStop.pasid c.in_ok-endpoint.field-0 c.in_ok-endpoint.ensures c.in-ByStop.is)

pub returns-in_err-send-clause-step : goal.returns-in_err-send-clause-step
returns-in_err-send-clause-step c =
    went c.args.host.now c.args.host.now (wire_of (record c.host.inside { in_flight = c.send.new.bag })) (step.Unbind c.args.binding) _
    c.in_err-send.field-0.0 refl c.from_residual-in_err-send.ensures
    (unsent c.host.inside c.args.host.now c.args.binding c.in-ByStop.endpoint c.in-ByStop.pasid c.send.new.bag c.in_err-send.field-0.0 c.host.view_is
    (ends_by_stop c.args.host.now c.args.binding c.in-ByStop.endpoint c.in-ByStop.pasid c.in_ok-endpoint.field-0 c.in_ok-endpoint.ensures c.in-ByStop.is)
    c.in_err-send.ensures.sends)

pub returns-in_err-send-clause-memory : goal.returns-in_err-send-clause-memory
returns-in_err-send-clause-memory c = λ b found lost.
    absurd
    (not_lost c.args.host.now c.args.binding c.in-ByStop.endpoint c.in-ByStop.pasid b
    (ends_by_stop c.args.host.now c.args.binding c.in-ByStop.endpoint c.in-ByStop.pasid c.in_ok-endpoint.field-0 c.in_ok-endpoint.ensures
    c.in-ByStop.is) found lost)

pub returns-clause-step : goal.returns-clause-step
returns-clause-step c =
    stopped c.host.inside c.args.host.now c.args.binding c.in-ByStop.endpoint c.in-ByStop.pasid c.send.new.bag c.stop.new.bindings c.host.view_is
    (ends_by_stop c.args.host.now c.args.binding c.in-ByStop.endpoint c.in-ByStop.pasid c.in_ok-endpoint.field-0 c.in_ok-endpoint.ensures c.in-ByStop.is)
    c.in_ok-send.ensures.sends c.stop.ensures
