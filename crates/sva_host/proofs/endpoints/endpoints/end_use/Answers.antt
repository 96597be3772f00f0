use Rattle.std.proofs.Common.{sym, ap, refl, ◌∙◌}
use Rattle.std.specs.Prelude.{is_ok}
use Rattle.sva_step.specs.declared.steps.Step.TheVariants as step
use Rattle.sva_endpoint.specs.Calls as call
use Rattle.sva_endpoint.specs.Tables.{Tables}
use Rattle.sva_endpoint.specs.Steps.{after_end_use, ending}
use Rattle.sva_endpoint.proofs.SoundLaws.{sound_after}
use Rattle.sva_host_state.specs.declared.host_state.Port.{Port}
use Rattle.sva_host_state.proofs.Ports.{port_found, rewritten, with_tables_host, same_port}
use Rattle.sva_host_state.proofs.Devices.{kept, ended}
use Rattle.sva_host_state.proofs.Uses.{end_other, end_refused, end_done}
use Rattle.sva_host_state.proofs.NeverForMemory.{other_port, not_for_memory}
use Rattle.sva_host.proofs.Reached.{within, end_use_nowhere, none_in, no_error}
use Rattle.sva_host.proofs.endpoints.endpoints.end_use.Goals as goal

pub returns-in_err-answer-clause-step : goal.returns-in_err-answer-clause-step
returns-in_err-answer-clause-step c =
    let is = port_found c.host.inside _ c.args.endpoint c.in_ok-at.at c.index.result.now c.host.invariant c.host.view_is c.in_ok-at.ensures
    c.index.ensures in
    kept _ _ (step.EndUse c.args.endpoint c.args.slot) _ _ c.host.view_is c.from_residual-in_err-answer.ensures
    (end_refused c.host.inside c.args.endpoint c.args.slot _ _ is c.in_err-answer.ensures)

pub invariant_of-host : goal.invariant_of-host
invariant_of-host c =
    let is = port_found c.host.inside _ c.args.endpoint c.in_ok-at.at c.index.result.now c.host.invariant c.host.view_is c.in_ok-at.ensures
    c.index.ensures in
    let tables = λ (s : Tables). after_end_use s c.args.slot in
    with_tables_host c.host.inside _ c.args.endpoint c.index.result.now _ c.host.invariant
    (sound_after _ (call.EndUse c.args.slot) (ap is_ok (sym c.in_ok-answer.ensures)) is.sound)
    (rewritten c.host.inside _ c.args.endpoint c.in_ok-at.at c.index.result.now c.index_mut.result.now c.end_use.new.self tables
    c.host.view_is c.in_ok-at.ensures c.index.ensures c.index_mut.ensures.value c.end_use.ensures) refl

pub returns-clause-step : goal.returns-clause-step
returns-clause-step c =
    let is = port_found c.host.inside _ c.args.endpoint c.in_ok-at.at c.index.result.now c.host.invariant c.host.view_is c.in_ok-at.ensures
    c.index.ensures in
    let tables = λ (s : Tables). after_end_use s c.args.slot in
    ended c.host.inside _ (step.EndUse c.args.endpoint c.args.slot) (c.in_ok-answer.answer) _ _ _ c.host.inside.in_flight c.host.view_is
    (rewritten c.host.inside _ c.args.endpoint c.in_ok-at.at c.index.result.now c.index_mut.result.now c.end_use.new.self tables
    c.host.view_is c.in_ok-at.ensures c.index.ensures c.index_mut.ensures.value c.end_use.ensures)
    (refl)
    (end_done c.host.inside c.args.endpoint c.args.slot _ c.in_ok-answer.answer is c.in_ok-answer.ensures)

pub returns-in_err-at-clause-memory : goal.returns-in_err-at-clause-memory
returns-in_err-at-clause-memory c = not_for_memory _ _ c.from_residual.ensures (other_port c.args.host.now c.args.endpoint _ c.in_err-at.ensures)

pub returns-in_err-answer-clause-memory : goal.returns-in_err-answer-clause-memory
returns-in_err-answer-clause-memory c =
    not_for_memory _ _ c.from_residual-in_err-answer.ensures
    (end_other c.index.result.now.device c.args.slot _ c.in_err-answer.ensures)

pub port-requires : goal.port-requires
port-requires c = tt

pub branch-at-requires : goal.branch-at-requires
branch-at-requires c κs = (none_in _, none_in _)

pub from_residual-requires : goal.from_residual-requires
from_residual-requires c κs = (none_in _, (none_in _, none_in _))

pub returns-in_err-at-clause-step : goal.returns-in_err-at-clause-step
returns-in_err-at-clause-step c =
    kept _ _ (step.EndUse c.args.endpoint c.args.slot) _ _ refl c.from_residual.ensures
    (end_use_nowhere c.args.host.now c.args.endpoint c.args.slot _ c.in_err-at.ensures)

pub index-requires : goal.index-requires
index-requires c = within c.host.inside _ c.args.endpoint c.in_ok-at.at c.host.view_is c.in_ok-at.ensures

pub may_end_use-requires : goal.may_end_use-requires
may_end_use-requires c = tt

pub branch-answer-requires : goal.branch-answer-requires
branch-answer-requires c κs = (none_in _, none_in _)

pub from_residual-requires-in_err-answer : goal.from_residual-requires-in_err-answer
from_residual-requires-in_err-answer c κs = (none_in _, (none_in _, none_in _))

pub index_mut-requires : goal.index_mut-requires
index_mut-requires c = within c.host.inside _ c.args.endpoint c.in_ok-at.at c.host.view_is c.in_ok-at.ensures

pub end_use-requires : goal.end_use-requires
end_use-requires c =
    ap (λ (p : Port). is_ok (ending p.device c.args.slot))
    (same_port c.host.inside _ c.args.endpoint c.in_ok-at.at c.index.result.now c.index_mut.result.now c.host.view_is
    c.in_ok-at.ensures c.index.ensures c.index_mut.ensures.value)
    ∙ ap is_ok (sym c.in_ok-answer.ensures)

pub returns-clause-memory : goal.returns-clause-memory
returns-clause-memory c = no_error _ _
