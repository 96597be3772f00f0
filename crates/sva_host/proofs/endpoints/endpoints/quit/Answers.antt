use Rattle.std.proofs.Common.{sym, ap, subst, refl, arith}
use Rattle.std.specs.Prelude.{is_ok}
use Rattle.sva_step.specs.declared.answers.Answer.TheVariants as answer
use Rattle.sva_step.specs.declared.steps.Step.TheVariants as step
use Rattle.sva_endpoint.specs.Calls as call
use Rattle.sva_endpoint.specs.Tables.{Tables}
use Rattle.sva_endpoint.specs.Steps.{after_quit, MayQuit}
use Rattle.sva_endpoint.proofs.SoundLaws.{sound_after}
use Rattle.sva_host_state.specs.declared.host_state.Port.{Port}
use Rattle.sva_host_state.specs.Inner.{wire_of}
use Rattle.sva_host_state.proofs.Ports.{port_found, same_port, rewritten, with_tables_host}
use Rattle.sva_host_state.proofs.Devices.{kept, went, ended}
use Rattle.sva_host_state.proofs.Quits.{left_by_quit, quit_refused, quit_unsent, quit_done}
use Rattle.sva_host.proofs.Reached.{within, quit_nowhere, none_in}
use Rattle.sva_host.proofs.endpoints.endpoints.quit.Goals as goal

pub returns-in_err-quitting : goal.returns-in_err-quitting
returns-in_err-quitting c =
    let is = port_found c.host.inside _ c.args.endpoint c.in_ok-at.at c.index.result.now c.host.invariant c.host.view_is c.in_ok-at.ensures
    c.index.ensures in
    kept _ _ (step.Quit c.args.endpoint c.args.pasid) _ _ c.host.view_is c.from_residual-in_err-quitting.ensures
    (quit_refused c.host.inside c.args.endpoint c.args.pasid _ _ is c.in_err-quitting.ensures.answer)

pub returns-in_err-send : goal.returns-in_err-send
returns-in_err-send c =
    let is = port_found c.host.inside _ c.args.endpoint c.in_ok-at.at c.index.result.now c.host.invariant c.host.view_is c.in_ok-at.ensures
    c.index.ensures in
    went _ _ (wire_of (record c.host.inside { in_flight = c.send.new.bag })) (step.Quit c.args.endpoint c.args.pasid) _ _ c.host.view_is
    c.from_residual-in_err-send.ensures
    (quit_unsent c.host.inside c.args.endpoint c.args.pasid _ c.in_ok-quitting.quitting c.kind.result _ _ is c.in_ok-quitting.ensures.answer
    c.in_err-send.ensures.sends)

pub invariant_of-host-2 : goal.invariant_of-host-2
invariant_of-host-2 c =
    let is = port_found c.host.inside _ c.args.endpoint c.in_ok-at.at c.index.result.now c.host.invariant c.host.view_is c.in_ok-at.ensures
    c.index.ensures in
    let tables = λ (s : Tables). after_quit s c.args.pasid in
    with_tables_host c.host.inside _ c.args.endpoint c.index.result.now _
    c.host.invariant
    (sound_after _ (call.Quit c.args.pasid) (ap is_ok (sym c.in_ok-quitting.ensures.answer)) is.sound)
    (rewritten c.host.inside _ c.args.endpoint c.in_ok-at.at c.index.result.now c.index_mut.result.now c.quit.new.self tables
    c.host.view_is c.in_ok-at.ensures c.index.ensures c.index_mut.ensures.value
    (left_by_quit c.index_mut.result.now.device
    c.quit.new.self c.args.pasid c.in_ok-quitting.quitting
    c.index.result.now.device c.in_ok-quitting.ensures.answer c.quit.ensures)) refl

pub returns : goal.returns
returns c =
    let is = port_found c.host.inside _ c.args.endpoint c.in_ok-at.at c.index.result.now c.host.invariant c.host.view_is c.in_ok-at.ensures
    c.index.ensures in
    let tables = λ (s : Tables). after_quit s c.args.pasid in
    ended c.host.inside _ (step.Quit c.args.endpoint c.args.pasid) (answer.Marker) _ _ _ c.send.new.bag c.host.view_is
    (rewritten c.host.inside _ c.args.endpoint c.in_ok-at.at c.index.result.now c.index_mut.result.now c.quit.new.self tables
    c.host.view_is c.in_ok-at.ensures c.index.ensures c.index_mut.ensures.value
    (left_by_quit c.index_mut.result.now.device
    c.quit.new.self c.args.pasid c.in_ok-quitting.quitting
    c.index.result.now.device c.in_ok-quitting.ensures.answer c.quit.ensures))
    (refl)
    (quit_done c.host.inside c.args.endpoint c.args.pasid _ c.in_ok-quitting.quitting c.kind.result c.send.new.bag is c.in_ok-quitting.ensures.answer
    c.kind.ensures c.in_ok-send.ensures.sends)

pub port-requires : goal.port-requires
port-requires c = tt

pub branch-at-requires : goal.branch-at-requires
branch-at-requires c κs = (none_in _, none_in _)

pub from_residual-requires : goal.from_residual-requires
from_residual-requires c κs = (none_in _, (none_in _, none_in _))

pub returns-in_err-at : goal.returns-in_err-at
returns-in_err-at c =
    kept _ _ (step.Quit c.args.endpoint c.args.pasid) _ _ refl c.from_residual.ensures
    (quit_nowhere c.args.host.now c.args.endpoint c.args.pasid _ c.in_err-at.ensures)

pub index-requires : goal.index-requires
index-requires c = within c.host.inside _ c.args.endpoint c.in_ok-at.at c.host.view_is c.in_ok-at.ensures

pub may_quit-requires : goal.may_quit-requires
may_quit-requires c = tt

pub branch-quitting-requires : goal.branch-quitting-requires
branch-quitting-requires c κs = (none_in _, none_in _)

pub from_residual-requires-in_err-quitting : goal.from_residual-requires-in_err-quitting
from_residual-requires-in_err-quitting c κs = (none_in _, (none_in _, none_in _))

pub send-requires-clause-at_least_one : goal.send-requires-clause-at_least_one
send-requires-clause-at_least_one c = omega arith

pub send-requires-clause-at_most_eight : goal.send-requires-clause-at_most_eight
send-requires-clause-at_most_eight c = omega arith

pub branch-send-requires : goal.branch-send-requires
branch-send-requires c κs = (none_in _, none_in _)

pub from_residual-requires-in_err-send : goal.from_residual-requires-in_err-send
from_residual-requires-in_err-send c κs = (none_in _, (none_in _, none_in _))

pub invariant_of-host : goal.invariant_of-host
invariant_of-host c = record { few = c.host.invariant.few; sound = c.host.invariant.sound; staged = c.host.invariant.staged }

pub index_mut-requires : goal.index_mut-requires
index_mut-requires c = within c.host.inside _ c.args.endpoint c.in_ok-at.at c.host.view_is c.in_ok-at.ensures

pub quit-requires : goal.quit-requires
quit-requires c =
    subst (λ (p : Port). MayQuit p.device c.in_ok-quitting.quitting)
    (sym
    (same_port c.host.inside _ c.args.endpoint c.in_ok-at.at c.index.result.now c.index_mut.result.now c.host.view_is
    c.in_ok-at.ensures c.index.ensures c.index_mut.ensures.value))
    c.in_ok-quitting.ensures.may
