use Rattle.sva_host_state.proofs.Advances.{kept_by, advance_refused, refused_otherwise, releases, quiet_there, released}
use Rattle.sva_host_state.proofs.Unbinds.{not_memory}
use Rattle.sva_host.proofs.bindings.advancing.advance.Goals as goal

pub returns-in_err-endpoint-clause-step : goal.returns-in_err-endpoint-clause-step
returns-in_err-endpoint-clause-step c =
    kept_by c.args.host.now c.args.groups_open c.args.binding _ c.in_err-endpoint.field-0.0 c.from_residual.ensures
    (advance_refused c.args.host.now c.args.groups_open c.args.binding c.in_err-endpoint.field-0.0 c.in_err-endpoint.ensures)

pub returns-in_err-endpoint-clause-memory : goal.returns-in_err-endpoint-clause-memory
returns-in_err-endpoint-clause-memory c =
    not_memory _ c.in_err-endpoint.field-0.0 c.from_residual.ensures
    (refused_otherwise c.args.host.now c.args.groups_open c.args.binding c.in_err-endpoint.field-0.0 c.in_err-endpoint.ensures)

pub release-requires : goal.release-requires
release-requires c =
    quiet_there c.host.inside c.args.host.now c.args.groups_open c.args.binding c.host.invariant c.host.view_is
    (releases c.args.host.now c.args.groups_open c.args.binding c.in_ok-endpoint.field-0 c.in_ok-endpoint.ensures c.in-Release.is)

pub returns-in-Release-clause-step : goal.returns-in-Release-clause-step
returns-in-Release-clause-step c =
    released c.host.inside c.args.host.now c.args.groups_open c.args.binding c.release.new.bindings c.host.view_is
    (releases c.args.host.now c.args.groups_open c.args.binding c.in_ok-endpoint.field-0 c.in_ok-endpoint.ensures c.in-Release.is) c.release.ensures
