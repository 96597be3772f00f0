use Rattle.std.proofs.Common.{sym, ap, refl, ◌∙◌}
use Rattle.std.specs.Prelude.{is_ok}
use Rattle.sva_step.specs.declared.answers.Answer.TheVariants as answer
use Rattle.sva_step.specs.declared.steps.Step.TheVariants as step
use Rattle.sva_endpoint.specs.Calls as call
use Rattle.sva_endpoint.specs.Tables.{Tables}
use Rattle.sva_endpoint.specs.Steps.{after_evict, evicting}
use Rattle.sva_endpoint.proofs.SoundLaws.{sound_after}
use Rattle.sva_host_state.specs.declared.host_state.Port.{Port}
use Rattle.sva_host_state.proofs.Ports.{port_found, rewritten, with_tables_host, same_port}
use Rattle.sva_host_state.proofs.Devices.{kept, ended}
use Rattle.sva_host_state.proofs.Uses.{evict_other, evict_refused, evict_done}
use Rattle.sva_host_state.proofs.NeverForMemory.{other_port, not_for_memory}
use Rattle.sva_host.proofs.Reached.{within, evict_nowhere, none_in, no_error}
use Rattle.sva_host.proofs.endpoints.endpoints.evict.Goals as goal

pub returns-in_err-may_evict-clause-step : goal.returns-in_err-may_evict-clause-step
returns-in_err-may_evict-clause-step c =
    let is = port_found c.host.inside _ c.args.endpoint c.in_ok-at.at c.index.result.now c.host.invariant c.host.view_is c.in_ok-at.ensures
    c.index.ensures in
    kept _ _ (step.Evict c.args.endpoint c.args.pasid c.args.page) _ _ c.host.view_is c.from_residual-in_err-may_evict.ensures
    (evict_refused c.host.inside c.args.endpoint c.args.pasid c.args.page _ _ is c.in_err-may_evict.ensures)

pub invariant_of-host : goal.invariant_of-host
invariant_of-host c =
    let is = port_found c.host.inside _ c.args.endpoint c.in_ok-at.at c.index.result.now c.host.invariant c.host.view_is c.in_ok-at.ensures
    c.index.ensures in
    let tables = λ (s : Tables). after_evict s c.args.pasid c.args.page in
    with_tables_host c.host.inside _ c.args.endpoint c.index.result.now _ c.host.invariant
    (sound_after _ (call.Evict c.args.pasid c.args.page) (ap is_ok (sym c.in_ok-may_evict.ensures)) is.sound)
    (rewritten c.host.inside _ c.args.endpoint c.in_ok-at.at c.index.result.now c.index_mut.result.now c.evict.new.self tables
    c.host.view_is c.in_ok-at.ensures c.index.ensures c.index_mut.ensures.value c.evict.ensures) refl

pub returns-clause-step : goal.returns-clause-step
returns-clause-step c =
    let is = port_found c.host.inside _ c.args.endpoint c.in_ok-at.at c.index.result.now c.host.invariant c.host.view_is c.in_ok-at.ensures
    c.index.ensures in
    let tables = λ (s : Tables). after_evict s c.args.pasid c.args.page in
    ended c.host.inside _ (step.Evict c.args.endpoint c.args.pasid c.args.page) (answer.Evicted) _ _ _ c.host.inside.in_flight c.host.view_is
    (rewritten c.host.inside _ c.args.endpoint c.in_ok-at.at c.index.result.now c.index_mut.result.now c.evict.new.self tables
    c.host.view_is c.in_ok-at.ensures c.index.ensures c.index_mut.ensures.value c.evict.ensures)
    (refl)
    (evict_done c.host.inside c.args.endpoint c.args.pasid c.args.page _ is c.in_ok-may_evict.ensures)

pub returns-in_err-at-clause-memory : goal.returns-in_err-at-clause-memory
returns-in_err-at-clause-memory c = not_for_memory _ _ c.from_residual.ensures (other_port c.args.host.now c.args.endpoint _ c.in_err-at.ensures)

pub returns-in_err-may_evict-clause-memory : goal.returns-in_err-may_evict-clause-memory
returns-in_err-may_evict-clause-memory c =
    not_for_memory _ _ c.from_residual-in_err-may_evict.ensures
    (evict_other c.index.result.now.device c.args.pasid c.args.page _ c.in_err-may_evict.ensures)

pub port-requires : goal.port-requires
port-requires c = tt

pub branch-at-requires : goal.branch-at-requires
branch-at-requires c κs = (none_in _, none_in _)

pub from_residual-requires : goal.from_residual-requires
from_residual-requires c κs = (none_in _, (none_in _, none_in _))

pub returns-in_err-at-clause-step : goal.returns-in_err-at-clause-step
returns-in_err-at-clause-step c =
    kept _ _ (step.Evict c.args.endpoint c.args.pasid c.args.page) _ _ refl c.from_residual.ensures
    (evict_nowhere c.args.host.now c.args.endpoint c.args.pasid c.args.page _ c.in_err-at.ensures)

pub index-requires : goal.index-requires
index-requires c = within c.host.inside _ c.args.endpoint c.in_ok-at.at c.host.view_is c.in_ok-at.ensures

pub may_evict-requires : goal.may_evict-requires
may_evict-requires c = tt

pub branch-may_evict-requires : goal.branch-may_evict-requires
branch-may_evict-requires c κs = (none_in _, none_in _)

pub from_residual-requires-in_err-may_evict : goal.from_residual-requires-in_err-may_evict
from_residual-requires-in_err-may_evict c κs = (none_in _, (none_in _, none_in _))

pub index_mut-requires : goal.index_mut-requires
index_mut-requires c = within c.host.inside _ c.args.endpoint c.in_ok-at.at c.host.view_is c.in_ok-at.ensures

pub evict-requires : goal.evict-requires
evict-requires c =
    ap (λ (p : Port). is_ok (evicting p.device c.args.pasid c.args.page))
    (same_port c.host.inside _ c.args.endpoint c.in_ok-at.at c.index.result.now c.index_mut.result.now c.host.view_is
    c.in_ok-at.ensures c.index.ensures c.index_mut.ensures.value)
    ∙ ap is_ok (sym c.in_ok-may_evict.ensures)

pub returns-clause-memory : goal.returns-clause-memory
returns-clause-memory c = no_error _ _
