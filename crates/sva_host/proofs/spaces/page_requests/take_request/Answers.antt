use Rattle.std.proofs.Common.{ap, ◌∙◌}
use Rattle.std.specs.Prelude.{List, map}
use Rattle.sva_host_state.specs.declared.host_state.Port.{Port}
use Rattle.sva_host_state.specs.Inner.{part_seen, wire_of}
use Rattle.sva_host_state.proofs.Ports.{port_found}
use Rattle.sva_host_state.proofs.Units.{with_unit_host, unit_rewritten}
use Rattle.sva_host_state.proofs.Waiting.{without_first, port_for, first_taken}
use Rattle.sva_host.proofs.spaces.page_requests.take_request.Goals as goal

pub invariant_of-host : goal.invariant_of-host
invariant_of-host c =
    let is = port_found c.host.inside _ c.args.endpoint c.args.endpoint c.index_mut.result.now c.host.invariant
    c.host.view_is (port_for c.args.host.now c.args.endpoint c.requires) c.index_mut.ensures.value in
    with_unit_host c.host.inside _ c.args.endpoint c.index_mut.result.now _
    c.host.invariant is.sound
    (unit_rewritten c.host.inside _ c.args.endpoint c.args.endpoint c.index_mut.result.now c.index_mut.result.now c.take_request-request.new.self without_first
    c.host.view_is (port_for c.args.host.now c.args.endpoint c.requires) c.index_mut.ensures.value c.index_mut.ensures.value
    c.take_request-request.ensures.rest) c.host.invariant.staged

pub returns : goal.returns
returns c =
    let is = port_found c.host.inside _ c.args.endpoint c.args.endpoint c.index_mut.result.now c.host.invariant
    c.host.view_is (port_for c.args.host.now c.args.endpoint c.requires) c.index_mut.ensures.value in
    ap (λ (ports : List Port). record (wire_of c.host.inside) { parts = map part_seen ports })
    (unit_rewritten c.host.inside _ c.args.endpoint c.args.endpoint c.index_mut.result.now c.index_mut.result.now c.take_request-request.new.self without_first
    c.host.view_is (port_for c.args.host.now c.args.endpoint c.requires) c.index_mut.ensures.value c.index_mut.ensures.value
    c.take_request-request.ensures.rest)
    ∙ first_taken c.host.inside _ c.args.endpoint c.index_mut.result.now
    c.host.view_is is
