use Rattle.std.proofs.Common.{sym, subst, refl, arith}
use Rattle.std.specs.Prelude.{Ok}
use Rattle.sva_step.specs.declared.steps.Step.TheVariants as step
use Rattle.sva_msg.specs.Bag.{InFlight}
use Rattle.sva_endpoint.specs.Calls as call
use Rattle.sva_endpoint.specs.Tables.{Tables}
use Rattle.sva_endpoint.specs.Deliveries.{after_receive, answer_to}
use Rattle.sva_endpoint.proofs.SoundLaws.{sound_after}
use Rattle.sva_host_state.specs.declared.host_state.Port.{Port}
use Rattle.sva_host_state.specs.Inner.{wire_of}
use Rattle.sva_host_state.specs.Steps.{ByLabels}
use Rattle.sva_host_state.proofs.Ports.{port_found, rewritten, with_tables, with_tables_host}
use Rattle.sva_host_state.proofs.Devices.{ended}
use Rattle.sva_host_state.proofs.Arrived.{numbered}
use Rattle.sva_host_state.proofs.Arriving.{may_take, stands_at, arriving_port, arriving_within, seen_found, seen_free}
use Rattle.sva_host_state.proofs.Arrivals.{deliver_done}
use Rattle.sva_host.proofs.link.deliveries.goes_down.Goals as goal

pub deliver_found-requires-clause-stands : goal.deliver_found-requires-clause-stands
deliver_found-requires-clause-stands c = stands_at c.host.inside _ c.args.flight.now c.host.view_is c.requires.there

pub deliver_found-requires-clause-may : goal.deliver_found-requires-clause-may
deliver_found-requires-clause-may c =
    may_take c.host.inside _ c.args.flight.now.number c.args.flight.now.message.endpoint c.args.flight.now.message.kind
    c.host.view_is (numbered c.host.inside _ c.host.view_is c.requires.sound) c.requires.arriving

pub index_mut-requires : goal.index_mut-requires
index_mut-requires c =
    let within =
    arriving_within c.host.inside _ c.args.flight.now.number c.args.flight.now.message.endpoint
    c.args.flight.now.message.kind c.host.view_is c.requires.sound c.requires.arriving in
    omega (arith, within)

pub invariant_of-host : goal.invariant_of-host
invariant_of-host c =
    let e = c.args.flight.now.message.endpoint in
    let for = arriving_port _ c.args.flight.now.number e c.args.flight.now.message.kind c.requires.sound c.requires.arriving in
    let is = port_found c.host.inside _ e e c.index_mut.result.now c.host.invariant c.host.view_is for
    c.index_mut.ensures.value in
    let tables = λ (s : Tables). after_receive s c.args.flight.now.message.kind in
    with_tables_host c.host.inside _ e c.index_mut.result.now _ c.host.invariant
    (sound_after _ (call.Receive c.args.flight.now.message.kind) refl is.sound)
    (rewritten c.host.inside _ e e c.index_mut.result.now c.index_mut.result.now
    c.receive-received.new.self tables c.host.view_is for c.index_mut.ensures.value c.index_mut.ensures.value c.receive-received.ensures.after) refl

pub returns : goal.returns
returns c =
    let e = c.args.flight.now.message.endpoint in
    let for = arriving_port _ c.args.flight.now.number e c.args.flight.now.message.kind c.requires.sound c.requires.arriving in
    let is = port_found c.host.inside _ e e c.index_mut.result.now c.host.invariant c.host.view_is for
    c.index_mut.ensures.value in
    let tables = λ (s : Tables). after_receive s c.args.flight.now.message.kind in
    let port : Port = c.index_mut.result.now in
    ended c.host.inside _ (step.Deliver c.args.flight.now.number) c.receive-received.result.answer _ _ _ c.deliver_found.new.self c.host.view_is
    (rewritten c.host.inside _ e e c.index_mut.result.now c.index_mut.result.now
    c.receive-received.new.self tables c.host.view_is for c.index_mut.ensures.value c.index_mut.ensures.value c.receive-received.ensures.after)
    c.receive-received.ensures.answer
    (subst
    (λ (bag : InFlight).
    ByLabels (wire_of c.host.inside) (step.Deliver c.args.flight.now.number) (Ok (answer_to port.device c.args.flight.now.message.kind))
    (wire_of (record (with_tables c.host.inside e port (after_receive port.device c.args.flight.now.message.kind)) { in_flight = bag })))
    (sym c.deliver_found.ensures)
    (deliver_done c.host.inside e c.args.flight.now.number c.args.flight.now.message.kind port (numbered c.host.inside _ c.host.view_is c.requires.sound) is
    (seen_found c.host.inside _ c.args.flight.now.number e c.args.flight.now.message.kind c.host.view_is c.requires.arriving)
    (seen_free c.host.inside _ c.args.flight.now.number e c.args.flight.now.message.kind c.host.view_is c.requires.arriving)
    c.requires.down))
