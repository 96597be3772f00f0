use Rattle.std.proofs.Common.{sym, ap, subst, arith, refl}
use Rattle.std.specs.Prelude.{is_ok}
use Rattle.sva_step.specs.declared.answers.Answer.TheVariants as answer
use Rattle.sva_step.specs.declared.steps.Step.TheVariants as step
use Rattle.sva_endpoint.specs.Calls as call
use Rattle.sva_endpoint.specs.Tables.{Tables}
use Rattle.sva_endpoint.specs.Steps.{after_fault, MayFault}
use Rattle.sva_endpoint.proofs.SoundLaws.{sound_after}
use Rattle.sva_host_state.specs.declared.host_state.Port.{Port}
use Rattle.sva_host_state.specs.Inner.{wire_of}
use Rattle.sva_host_state.proofs.Ports.{port_found, same_port, rewritten, with_tables_host}
use Rattle.sva_host_state.proofs.Devices.{kept, went, ended}
use Rattle.sva_host_state.proofs.Faults.{left_by_fault, fault_refused, fault_unsent, fault_done}
use Rattle.sva_host.proofs.Reached.{within, fault_nowhere, none_in}
use Rattle.sva_host.proofs.endpoints.endpoints.fault.Goals as goal

pub returns-in_err-faulting : goal.returns-in_err-faulting
returns-in_err-faulting c =
    let is = port_found c.host.inside _ c.args.endpoint c.in_ok-at.at c.index.result.now c.host.invariant c.host.view_is c.in_ok-at.ensures
    c.index.ensures in
    kept _ _ (step.Fault c.args.endpoint c.args.fault.now.pasid c.args.fault.now.page c.args.fault.now.read c.args.fault.now.write
    c.args.fault.now.group c.args.fault.now.last) _ _ c.host.view_is c.from_residual-in_err-faulting.ensures
    (fault_refused c.host.inside c.args.endpoint c.args.fault.now _ _ is c.in_err-faulting.ensures.answer)

pub returns-in_err-send : goal.returns-in_err-send
returns-in_err-send c =
    let is = port_found c.host.inside _ c.args.endpoint c.in_ok-at.at c.index.result.now c.host.invariant c.host.view_is c.in_ok-at.ensures
    c.index.ensures in
    went _ _ (wire_of (record c.host.inside { in_flight = c.send.new.bag }))
    (step.Fault c.args.endpoint c.args.fault.now.pasid c.args.fault.now.page c.args.fault.now.read c.args.fault.now.write c.args.fault.now.group
    c.args.fault.now.last) _ _ c.host.view_is c.from_residual-in_err-send.ensures
    (fault_unsent c.host.inside c.args.endpoint c.args.fault.now _ c.in_ok-faulting.faulting c.kind.result _ _ is c.in_ok-faulting.ensures.answer
    c.in_err-send.ensures.sends)

pub invariant_of-host-2 : goal.invariant_of-host-2
invariant_of-host-2 c =
    let is = port_found c.host.inside _ c.args.endpoint c.in_ok-at.at c.index.result.now c.host.invariant c.host.view_is c.in_ok-at.ensures
    c.index.ensures in
    let tables = λ (s : Tables). after_fault s c.args.fault.now in
    with_tables_host c.host.inside _ c.args.endpoint c.index.result.now _
    c.host.invariant
    (sound_after _ (call.SendFault c.args.fault.now) (ap is_ok (sym c.in_ok-faulting.ensures.answer)) is.sound)
    (rewritten c.host.inside _ c.args.endpoint c.in_ok-at.at c.index.result.now c.index_mut.result.now c.fault.new.self tables
    c.host.view_is c.in_ok-at.ensures c.index.ensures c.index_mut.ensures.value
    (left_by_fault c.index_mut.result.now.device
    c.fault.new.self c.args.fault.now c.in_ok-faulting.faulting
    c.index.result.now.device c.in_ok-faulting.ensures.answer c.fault.ensures)) refl

pub returns : goal.returns
returns c =
    let is = port_found c.host.inside _ c.args.endpoint c.in_ok-at.at c.index.result.now c.host.invariant c.host.view_is c.in_ok-at.ensures
    c.index.ensures in
    let tables = λ (s : Tables). after_fault s c.args.fault.now in
    ended c.host.inside _ (step.Fault c.args.endpoint c.args.fault.now.pasid c.args.fault.now.page c.args.fault.now.read c.args.fault.now.write
    c.args.fault.now.group c.args.fault.now.last) (answer.Group c.in_ok-faulting.faulting.request.index) _ _ _ c.send.new.bag c.host.view_is
    (rewritten c.host.inside _ c.args.endpoint c.in_ok-at.at c.index.result.now c.index_mut.result.now c.fault.new.self tables
    c.host.view_is c.in_ok-at.ensures c.index.ensures c.index_mut.ensures.value
    (left_by_fault c.index_mut.result.now.device
    c.fault.new.self c.args.fault.now c.in_ok-faulting.faulting
    c.index.result.now.device c.in_ok-faulting.ensures.answer c.fault.ensures))
    refl
    (fault_done c.host.inside c.args.endpoint c.args.fault.now _ c.in_ok-faulting.faulting c.kind.result c.send.new.bag is c.in_ok-faulting.ensures.answer
    c.kind.ensures c.in_ok-send.ensures.sends)

pub port-requires : goal.port-requires
port-requires c = tt

pub branch-at-requires : goal.branch-at-requires
branch-at-requires c κs = (none_in _, none_in _)

pub from_residual-requires : goal.from_residual-requires
from_residual-requires c κs = (none_in _, (none_in _, none_in _))

pub returns-in_err-at : goal.returns-in_err-at
returns-in_err-at c =
    let fault = c.args.fault.now in
    kept _ _ (step.Fault c.args.endpoint fault.pasid fault.page fault.read fault.write fault.group fault.last) _ _ refl c.from_residual.ensures
    (fault_nowhere c.args.host.now c.args.endpoint fault.pasid fault.page fault.read fault.write fault.group fault.last _ c.in_err-at.ensures)

pub index-requires : goal.index-requires
index-requires c = within c.host.inside _ c.args.endpoint c.in_ok-at.at c.host.view_is c.in_ok-at.ensures

pub may_fault-requires : goal.may_fault-requires
may_fault-requires c = tt

pub branch-faulting-requires : goal.branch-faulting-requires
branch-faulting-requires c κs = (none_in _, none_in _)

pub from_residual-requires-in_err-faulting : goal.from_residual-requires-in_err-faulting
from_residual-requires-in_err-faulting c κs = (none_in _, (none_in _, none_in _))

pub send-requires-clause-at_least_one : goal.send-requires-clause-at_least_one
send-requires-clause-at_least_one c = omega arith

pub send-requires-clause-at_most_eight : goal.send-requires-clause-at_most_eight
send-requires-clause-at_most_eight c = omega arith

pub branch-send-requires : goal.branch-send-requires
branch-send-requires c κs = (none_in _, none_in _)

pub from_residual-requires-in_err-send : goal.from_residual-requires-in_err-send
from_residual-requires-in_err-send c κs = (none_in _, (none_in _, none_in _))

pub invariant_of-host : goal.invariant_of-host
invariant_of-host c = record { few = c.host.invariant.few; sound = c.host.invariant.sound; staged = c.host.invariant.staged }

pub index_mut-requires : goal.index_mut-requires
index_mut-requires c = within c.host.inside _ c.args.endpoint c.in_ok-at.at c.host.view_is c.in_ok-at.ensures

pub fault-requires : goal.fault-requires
fault-requires c =
    subst (λ (p : Port). MayFault p.device c.in_ok-faulting.faulting)
    (sym
    (same_port c.host.inside _ c.args.endpoint c.in_ok-at.at c.index.result.now c.index_mut.result.now c.host.view_is
    c.in_ok-at.ensures c.index.ensures c.index_mut.ensures.value))
    c.in_ok-faulting.ensures.may
