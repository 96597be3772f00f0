use Rattle.std.proofs.Common.{sym, ap, subst, arith, refl}
use Rattle.std.specs.Prelude.{is_ok}
use Rattle.sva_step.specs.declared.answers.Answer.TheVariants as answer
use Rattle.sva_step.specs.declared.steps.Step.TheVariants as step
use Rattle.sva_endpoint.specs.Calls as call
use Rattle.sva_endpoint.specs.Tables.{Tables}
use Rattle.sva_endpoint.specs.Steps.{after_ask, MayAsk}
use Rattle.sva_endpoint.proofs.SoundLaws.{sound_after}
use Rattle.sva_host_state.specs.declared.host_state.Port.{Port}
use Rattle.sva_host_state.specs.Inner.{wire_of}
use Rattle.sva_host_state.proofs.Ports.{port_found, same_port, rewritten, with_tables_host}
use Rattle.sva_host_state.proofs.Devices.{kept, went, ended}
use Rattle.sva_host_state.proofs.Asks.{left_by_ask, ask_refused, ask_unsent, ask_done}
use Rattle.sva_host.proofs.Reached.{within, ask_nowhere, none_in}
use Rattle.sva_host.proofs.endpoints.endpoints.ask.Goals as goal

pub returns-in_err-asking : goal.returns-in_err-asking
returns-in_err-asking c =
    let is = port_found c.host.inside _ c.args.endpoint c.in_ok-at.at c.index.result.now c.host.invariant c.host.view_is c.in_ok-at.ensures
    c.index.ensures in
    kept _ _ (step.Ask c.args.endpoint c.args.pasid c.args.page) _ _ c.host.view_is c.from_residual-in_err-asking.ensures
    (ask_refused c.host.inside c.args.endpoint c.args.pasid c.args.page _ _ is c.in_err-asking.ensures.answer)

pub returns-in_err-send : goal.returns-in_err-send
returns-in_err-send c =
    let is = port_found c.host.inside _ c.args.endpoint c.in_ok-at.at c.index.result.now c.host.invariant c.host.view_is c.in_ok-at.ensures
    c.index.ensures in
    went _ _ (wire_of (record c.host.inside { in_flight = c.send.new.bag })) (step.Ask c.args.endpoint c.args.pasid c.args.page) _ _ c.host.view_is
    c.from_residual-in_err-send.ensures
    (ask_unsent c.host.inside c.args.endpoint c.args.pasid c.args.page _ c.in_ok-asking.asking c.kind.result _ _ is c.in_ok-asking.ensures.answer
    c.in_err-send.ensures.sends)

pub invariant_of-host-2 : goal.invariant_of-host-2
invariant_of-host-2 c =
    let is = port_found c.host.inside _ c.args.endpoint c.in_ok-at.at c.index.result.now c.host.invariant c.host.view_is c.in_ok-at.ensures
    c.index.ensures in
    let tables = λ (s : Tables). after_ask s c.args.pasid c.args.page in
    with_tables_host c.host.inside _ c.args.endpoint c.index.result.now _
    c.host.invariant
    (sound_after _ (call.Ask c.args.pasid c.args.page) (ap is_ok (sym c.in_ok-asking.ensures.answer)) is.sound)
    (rewritten c.host.inside _ c.args.endpoint c.in_ok-at.at c.index.result.now c.index_mut.result.now c.ask.new.self tables
    c.host.view_is c.in_ok-at.ensures c.index.ensures c.index_mut.ensures.value
    (left_by_ask c.index_mut.result.now.device c.ask.new.self
    c.args.pasid c.args.page c.in_ok-asking.asking
    c.index.result.now.device c.in_ok-asking.ensures.answer c.ask.ensures)) refl

pub returns : goal.returns
returns c =
    let is = port_found c.host.inside _ c.args.endpoint c.in_ok-at.at c.index.result.now c.host.invariant c.host.view_is c.in_ok-at.ensures
    c.index.ensures in
    let tables = λ (s : Tables). after_ask s c.args.pasid c.args.page in
    ended c.host.inside _ (step.Ask c.args.endpoint c.args.pasid c.args.page) (answer.Tag c.in_ok-asking.asking.tag) _ _ _ c.send.new.bag c.host.view_is
    (rewritten c.host.inside _ c.args.endpoint c.in_ok-at.at c.index.result.now c.index_mut.result.now c.ask.new.self tables
    c.host.view_is c.in_ok-at.ensures c.index.ensures c.index_mut.ensures.value
    (left_by_ask c.index_mut.result.now.device c.ask.new.self
    c.args.pasid c.args.page c.in_ok-asking.asking
    c.index.result.now.device c.in_ok-asking.ensures.answer c.ask.ensures))
    refl
    (ask_done c.host.inside c.args.endpoint c.args.pasid c.args.page _ c.in_ok-asking.asking c.kind.result c.send.new.bag is c.in_ok-asking.ensures.answer
    c.kind.ensures c.in_ok-send.ensures.sends)

pub port-requires : goal.port-requires
port-requires c = tt

pub branch-at-requires : goal.branch-at-requires
branch-at-requires c κs = (none_in _, none_in _)

pub from_residual-requires : goal.from_residual-requires
from_residual-requires c κs = (none_in _, (none_in _, none_in _))

pub returns-in_err-at : goal.returns-in_err-at
returns-in_err-at c =
    kept _ _ (step.Ask c.args.endpoint c.args.pasid c.args.page) _ _ refl c.from_residual.ensures
    (ask_nowhere c.args.host.now c.args.endpoint c.args.pasid c.args.page _ c.in_err-at.ensures)

pub index-requires : goal.index-requires
index-requires c = within c.host.inside _ c.args.endpoint c.in_ok-at.at c.host.view_is c.in_ok-at.ensures

pub may_ask-requires : goal.may_ask-requires
may_ask-requires c = tt

pub branch-asking-requires : goal.branch-asking-requires
branch-asking-requires c κs = (none_in _, none_in _)

pub from_residual-requires-in_err-asking : goal.from_residual-requires-in_err-asking
from_residual-requires-in_err-asking c κs = (none_in _, (none_in _, none_in _))

pub send-requires-clause-at_least_one : goal.send-requires-clause-at_least_one
send-requires-clause-at_least_one c = omega arith

pub send-requires-clause-at_most_eight : goal.send-requires-clause-at_most_eight
send-requires-clause-at_most_eight c = omega arith

pub branch-send-requires : goal.branch-send-requires
branch-send-requires c κs = (none_in _, none_in _)

pub from_residual-requires-in_err-send : goal.from_residual-requires-in_err-send
from_residual-requires-in_err-send c κs = (none_in _, (none_in _, none_in _))

pub invariant_of-host : goal.invariant_of-host
invariant_of-host c = record { few = c.host.invariant.few; sound = c.host.invariant.sound; staged = c.host.invariant.staged }

pub index_mut-requires : goal.index_mut-requires
index_mut-requires c = within c.host.inside _ c.args.endpoint c.in_ok-at.at c.host.view_is c.in_ok-at.ensures

pub ask-requires : goal.ask-requires
ask-requires c =
    subst (λ (p : Port). MayAsk p.device c.in_ok-asking.asking)
    (sym
    (same_port c.host.inside _ c.args.endpoint c.in_ok-at.at c.index.result.now c.index_mut.result.now c.host.view_is
    c.in_ok-at.ensures c.index.ensures c.index_mut.ensures.value))
    c.in_ok-asking.ensures.may
