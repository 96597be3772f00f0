use Rattle.std.proofs.Common.{sym, ap, subst, ◌∙◌, refl}
use Rattle.std.specs.Prelude.{is_ok}
use Rattle.sva_step.specs.declared.answers.Answer.TheVariants as answer
use Rattle.sva_step.specs.declared.steps.Step.TheVariants as step
use Rattle.sva_endpoint.specs.Calls as call
use Rattle.sva_endpoint.specs.Tables.{Tables}
use Rattle.sva_endpoint.specs.Steps.{after_finish, MayFinish}
use Rattle.sva_endpoint.proofs.SoundLaws.{sound_after}
use Rattle.sva_host_state.proofs.Flights.{flight_laws}
use Rattle.sva_host_state.specs.Inner.{wire_of}
use Rattle.sva_host_state.specs.declared.host_state.Port.{Port}
use Rattle.sva_host_state.proofs.Ports.{port_found, rewritten, with_tables_host, same_port}
use Rattle.sva_host_state.proofs.Devices.{kept, went, ended}
use Rattle.sva_host_state.proofs.Finishes.{left_by_finish, finish_refused, finish_unsent, finish_done}
use Rattle.sva_host.proofs.Reached.{within, finish_nowhere, none_in}
use Rattle.sva_host.proofs.endpoints.endpoints.finish.Goals as goal

pub returns-in_err-finishing : goal.returns-in_err-finishing
returns-in_err-finishing c =
    let is = port_found c.host.inside _ c.args.endpoint c.in_ok-at.at c.index.result.now c.host.invariant c.host.view_is c.in_ok-at.ensures
    c.index.ensures in
    kept _ _ (step.Finish c.args.endpoint c.args.vector c.args.count) _ _ c.host.view_is c.from_residual-in_err-finishing.ensures
    (finish_refused c.host.inside c.args.endpoint c.args.vector c.args.count _ _ c.ranges.vector.fits is c.in_err-finishing.ensures.answer)

pub returns-in_err-send : goal.returns-in_err-send
returns-in_err-send c =
    let is = port_found c.host.inside _ c.args.endpoint c.in_ok-at.at c.index.result.now c.host.invariant c.host.view_is c.in_ok-at.ensures
    c.index.ensures in
    went _ _ (wire_of (record c.host.inside { in_flight = c.send.new.bag })) (step.Finish c.args.endpoint c.args.vector c.args.count) _ _
    c.host.view_is c.from_residual-in_err-send.ensures
    (finish_unsent c.host.inside c.args.endpoint c.args.vector c.args.count _ c.in_ok-finishing.finishing c.kind.result _ _ _
    (c.from.ensures ∙ c.get-copies.ensures.value) c.ranges.vector.fits is c.in_ok-finishing.ensures.answer c.in_err-send.ensures.sends)

pub invariant_of-host-2 : goal.invariant_of-host-2
invariant_of-host-2 c =
    let is = port_found c.host.inside _ c.args.endpoint c.in_ok-at.at c.index.result.now c.host.invariant c.host.view_is c.in_ok-at.ensures
    c.index.ensures in
    let tables = λ (s : Tables). after_finish s c.args.vector in
    with_tables_host c.host.inside _ c.args.endpoint c.index.result.now _
    c.host.invariant
    (sound_after _ (call.Finish c.args.vector c.args.count) (ap is_ok (sym c.in_ok-finishing.ensures.answer)) is.sound)
    (rewritten c.host.inside _ c.args.endpoint c.in_ok-at.at c.index.result.now c.index_mut.result.now c.finish.new.self tables
    c.host.view_is c.in_ok-at.ensures c.index.ensures c.index_mut.ensures.value
    (left_by_finish c.index_mut.result.now.device
    c.finish.new.self c.args.vector c.args.count c.in_ok-finishing.finishing
    c.index.result.now.device c.in_ok-finishing.ensures.answer c.finish.ensures)) refl

pub returns : goal.returns
returns c =
    let is = port_found c.host.inside _ c.args.endpoint c.in_ok-at.at c.index.result.now c.host.invariant c.host.view_is c.in_ok-at.ensures
    c.index.ensures in
    let tables = λ (s : Tables). after_finish s c.args.vector in
    ended c.host.inside _ (step.Finish c.args.endpoint c.args.vector c.args.count) (answer.Sent c.get-copies.result) _ _ _ c.send.new.bag c.host.view_is
    (rewritten c.host.inside _ c.args.endpoint c.in_ok-at.at c.index.result.now c.index_mut.result.now c.finish.new.self tables
    c.host.view_is c.in_ok-at.ensures c.index.ensures c.index_mut.ensures.value
    (left_by_finish c.index_mut.result.now.device
    c.finish.new.self c.args.vector c.args.count c.in_ok-finishing.finishing
    c.index.result.now.device c.in_ok-finishing.ensures.answer c.finish.ensures))
    (ap answer.Sent c.get-copies.ensures.value)
    (finish_done c.host.inside c.args.endpoint c.args.vector c.args.count _ c.in_ok-finishing.finishing c.kind.result c.send.new.bag _
    (c.from.ensures ∙ c.get-copies.ensures.value) c.ranges.vector.fits (flight_laws c.host.inside.in_flight c.in_ok-send.ensures.numbered) is
    c.in_ok-finishing.ensures.answer c.kind.ensures c.in_ok-send.ensures.sends)

pub port-requires : goal.port-requires
port-requires c = tt

pub branch-at-requires : goal.branch-at-requires
branch-at-requires c κs = (none_in _, none_in _)

pub from_residual-requires : goal.from_residual-requires
from_residual-requires c κs = (none_in _, (none_in _, none_in _))

pub returns-in_err-at : goal.returns-in_err-at
returns-in_err-at c =
    kept _ _ (step.Finish c.args.endpoint c.args.vector c.args.count) _ _ refl c.from_residual.ensures
    (finish_nowhere c.args.host.now c.args.endpoint c.args.vector c.args.count _ c.in_err-at.ensures)

pub index-requires : goal.index-requires
index-requires c = within c.host.inside _ c.args.endpoint c.in_ok-at.at c.host.view_is c.in_ok-at.ensures

pub may_finish-requires : goal.may_finish-requires
may_finish-requires c = tt

pub branch-finishing-requires : goal.branch-finishing-requires
branch-finishing-requires c κs = (none_in _, none_in _)

pub from_residual-requires-in_err-finishing : goal.from_residual-requires-in_err-finishing
from_residual-requires-in_err-finishing c κs = (none_in _, (none_in _, none_in _))

pub branch-send-requires : goal.branch-send-requires
branch-send-requires c κs = (none_in _, none_in _)

pub from_residual-requires-in_err-send : goal.from_residual-requires-in_err-send
from_residual-requires-in_err-send c κs = (none_in _, (none_in _, none_in _))

pub invariant_of-host : goal.invariant_of-host
invariant_of-host c = record { few = c.host.invariant.few; sound = c.host.invariant.sound; staged = c.host.invariant.staged }

pub index_mut-requires : goal.index_mut-requires
index_mut-requires c = within c.host.inside _ c.args.endpoint c.in_ok-at.at c.host.view_is c.in_ok-at.ensures

pub finish-requires : goal.finish-requires
finish-requires c =
    subst (λ (p : Port). MayFinish p.device c.in_ok-finishing.finishing)
    (sym
    (same_port c.host.inside _ c.args.endpoint c.in_ok-at.at c.index.result.now c.index_mut.result.now c.host.view_is
    c.in_ok-at.ensures c.index.ensures c.index_mut.ensures.value))
    c.in_ok-finishing.ensures.may
