use Rattle.std.proofs.Common.{sym, ap, subst, refl}
use Rattle.std.specs.Prelude.{is_ok}
use Rattle.sva_step.specs.declared.answers.Answer.TheVariants as answer
use Rattle.sva_step.specs.declared.steps.Step.TheVariants as step
use Rattle.sva_endpoint.specs.Calls as call
use Rattle.sva_endpoint.specs.Tables.{Tables}
use Rattle.sva_endpoint.specs.Steps.{after_begin_use, MayBeginUse}
use Rattle.sva_endpoint.proofs.SoundLaws.{sound_after}
use Rattle.sva_host_state.specs.declared.host_state.Port.{Port}
use Rattle.sva_host_state.proofs.Ports.{port_found, same_port, rewritten, with_tables_host}
use Rattle.sva_host_state.proofs.Devices.{kept, ended}
use Rattle.sva_host_state.proofs.Uses.{left_by_use, use_other, use_refused, use_done}
use Rattle.sva_host_state.proofs.NeverForMemory.{other_port, not_for_memory}
use Rattle.sva_host.proofs.Reached.{within, begin_use_nowhere, none_in, no_error}
use Rattle.sva_host.proofs.endpoints.endpoints.begin_use.Goals as goal

pub returns-in_err-using-clause-step : goal.returns-in_err-using-clause-step
returns-in_err-using-clause-step c =
    let is = port_found c.host.inside _ c.args.endpoint c.in_ok-at.at c.index.result.now c.host.invariant c.host.view_is c.in_ok-at.ensures
    c.index.ensures in
    kept _ _ (step.BeginUse c.args.endpoint c.args.pasid c.args.page c.args.write) _ _ c.host.view_is c.from_residual-in_err-using.ensures
    (use_refused c.host.inside c.args.endpoint c.args.pasid c.args.page c.args.write _ _ is c.in_err-using.ensures.answer)

pub invariant_of-host : goal.invariant_of-host
invariant_of-host c =
    let is = port_found c.host.inside _ c.args.endpoint c.in_ok-at.at c.index.result.now c.host.invariant c.host.view_is c.in_ok-at.ensures
    c.index.ensures in
    let tables = λ (s : Tables). after_begin_use s c.args.pasid c.args.page in
    with_tables_host c.host.inside _ c.args.endpoint c.index.result.now _ c.host.invariant
    (sound_after _ (call.BeginUse c.args.pasid c.args.page c.args.write) (ap is_ok (sym c.in_ok-using.ensures.answer)) is.sound)
    (rewritten c.host.inside _ c.args.endpoint c.in_ok-at.at c.index.result.now c.index_mut.result.now c.begin_use.new.self
    tables c.host.view_is c.in_ok-at.ensures c.index.ensures c.index_mut.ensures.value
    (left_by_use c.index_mut.result.now.device
    c.begin_use.new.self c.args.pasid c.args.page c.args.write c.in_ok-using.using
    c.index.result.now.device c.in_ok-using.ensures.answer c.begin_use.ensures)) refl

pub returns-clause-step : goal.returns-clause-step
returns-clause-step c =
    let is = port_found c.host.inside _ c.args.endpoint c.in_ok-at.at c.index.result.now c.host.invariant c.host.view_is c.in_ok-at.ensures
    c.index.ensures in
    let tables = λ (s : Tables). after_begin_use s c.args.pasid c.args.page in
    ended c.host.inside _ (step.BeginUse c.args.endpoint c.args.pasid c.args.page c.args.write)
    (answer.Use c.in_ok-using.using.slot c.in_ok-using.using.begun.frame) _ _ _ c.host.inside.in_flight c.host.view_is
    (rewritten c.host.inside _ c.args.endpoint c.in_ok-at.at c.index.result.now c.index_mut.result.now c.begin_use.new.self
    tables c.host.view_is c.in_ok-at.ensures c.index.ensures c.index_mut.ensures.value
    (left_by_use c.index_mut.result.now.device
    c.begin_use.new.self c.args.pasid c.args.page c.args.write c.in_ok-using.using
    c.index.result.now.device c.in_ok-using.ensures.answer c.begin_use.ensures))
    (refl)
    (use_done c.host.inside c.args.endpoint c.args.pasid c.args.page c.args.write _ c.in_ok-using.using is c.in_ok-using.ensures.answer)

pub returns-in_err-at-clause-memory : goal.returns-in_err-at-clause-memory
returns-in_err-at-clause-memory c = not_for_memory _ _ c.from_residual.ensures (other_port c.args.host.now c.args.endpoint _ c.in_err-at.ensures)

pub returns-in_err-using-clause-memory : goal.returns-in_err-using-clause-memory
returns-in_err-using-clause-memory c =
    not_for_memory _ _ c.from_residual-in_err-using.ensures
    (use_other c.index.result.now.device c.args.pasid c.args.page
    c.args.write _ c.in_err-using.ensures.answer)

pub port-requires : goal.port-requires
port-requires c = tt

pub branch-at-requires : goal.branch-at-requires
branch-at-requires c κs = (none_in _, none_in _)

pub from_residual-requires : goal.from_residual-requires
from_residual-requires c κs = (none_in _, (none_in _, none_in _))

pub returns-in_err-at-clause-step : goal.returns-in_err-at-clause-step
returns-in_err-at-clause-step c =
    kept _ _ (step.BeginUse c.args.endpoint c.args.pasid c.args.page c.args.write) _ _ refl c.from_residual.ensures
    (begin_use_nowhere c.args.host.now c.args.endpoint c.args.pasid c.args.page c.args.write _ c.in_err-at.ensures)

pub index-requires : goal.index-requires
index-requires c = within c.host.inside _ c.args.endpoint c.in_ok-at.at c.host.view_is c.in_ok-at.ensures

pub may_begin_use-requires : goal.may_begin_use-requires
may_begin_use-requires c = tt

pub branch-using-requires : goal.branch-using-requires
branch-using-requires c κs = (none_in _, none_in _)

pub from_residual-requires-in_err-using : goal.from_residual-requires-in_err-using
from_residual-requires-in_err-using c κs = (none_in _, (none_in _, none_in _))

pub index_mut-requires : goal.index_mut-requires
index_mut-requires c = within c.host.inside _ c.args.endpoint c.in_ok-at.at c.host.view_is c.in_ok-at.ensures

pub begin_use-requires : goal.begin_use-requires
begin_use-requires c =
    subst (λ (p : Port). MayBeginUse p.device c.in_ok-using.using)
    (sym
    (same_port c.host.inside _ c.args.endpoint c.in_ok-at.at c.index.result.now c.index_mut.result.now c.host.view_is
    c.in_ok-at.ensures c.index.ensures c.index_mut.ensures.value))
    c.in_ok-using.ensures.may

pub returns-clause-memory : goal.returns-clause-memory
returns-clause-memory c = no_error _ _
