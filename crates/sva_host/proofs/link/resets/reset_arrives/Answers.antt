use Rattle.std.proofs.Common.{refl, arith}
use Rattle.sva_step.specs.declared.answers.Answer.TheVariants as answer
use Rattle.sva_step.specs.declared.steps.Step.TheVariants as step
use Rattle.sva_msg.specs.declared.messages.Kind.TheVariants.{Reset}
use Rattle.sva_endpoint.specs.Calls as call
use Rattle.sva_endpoint.specs.Tables.{Tables}
use Rattle.sva_endpoint.specs.Deliveries.{after_receive}
use Rattle.sva_endpoint.proofs.SoundLaws.{sound_after}
use Rattle.sva_host_state.proofs.Arrived.{here}
use Rattle.sva_host_state.proofs.Arriving.{arriving_port, arriving_within, may_take, stands_at}
use Rattle.sva_host_state.proofs.Devices.{ended}
use Rattle.sva_host_state.proofs.Ports.{port_found, rewritten, with_tables_host}
use Rattle.sva_host_state.proofs.ResetMessages.{may_still, still_at, reset_delivered}
use Rattle.sva_host.proofs.link.resets.reset_arrives.Goals as goal

pub deliver_found-requires-clause-stands : goal.deliver_found-requires-clause-stands
deliver_found-requires-clause-stands c =
    still_at c.host.inside.in_flight c.send.new.bag c.args.flight.now _ (stands_at c.host.inside _ c.args.flight.now c.host.view_is c.requires.there)
    c.in_ok-send.ensures.sends.1

pub deliver_found-requires-clause-may : goal.deliver_found-requires-clause-may
deliver_found-requires-clause-may c =
    may_still c.host.inside.in_flight c.send.new.bag c.args.flight.now.number _ c.send.ensures.numbered
    (may_take c.host.inside _ c.args.flight.now.number c.args.flight.now.message.endpoint Reset c.host.view_is
    c.send.ensures.numbered c.requires.arriving) c.in_ok-send.ensures.sends.1

pub index_mut-requires : goal.index_mut-requires
index_mut-requires c =
    let within =
    arriving_within c.host.inside _ c.args.flight.now.number c.args.flight.now.message.endpoint Reset c.host.view_is c.requires.sound
    c.requires.arriving in
    omega (arith, within)

pub invariant_of-host-2 : goal.invariant_of-host-2
invariant_of-host-2 c =
    let for = arriving_port _ c.args.flight.now.number c.args.flight.now.message.endpoint Reset c.requires.sound c.requires.arriving in
    let is = port_found c.host.inside _ c.args.flight.now.message.endpoint c.args.flight.now.message.endpoint
    c.index_mut.result.now c.host.invariant c.host.view_is
    for c.index_mut.ensures.value in
    let tables = λ (s : Tables). after_receive s Reset in
    with_tables_host c.host.inside _ c.args.flight.now.message.endpoint
    c.index_mut.result.now _ c.host.invariant
    (sound_after _ (call.Receive Reset) refl is.sound)
    (rewritten c.host.inside _ c.args.flight.now.message.endpoint c.args.flight.now.message.endpoint
    c.index_mut.result.now c.index_mut.result.now c.receive-received.new.self tables c.host.view_is for c.index_mut.ensures.value c.index_mut.ensures.value
    c.receive-received.ensures.after) refl

pub returns : goal.returns
returns c =
    let for = arriving_port _ c.args.flight.now.number c.args.flight.now.message.endpoint Reset c.requires.sound c.requires.arriving in
    let is = port_found c.host.inside _ c.args.flight.now.message.endpoint c.args.flight.now.message.endpoint
    c.index_mut.result.now c.host.invariant c.host.view_is
    for c.index_mut.ensures.value in
    let tables = λ (s : Tables). after_receive s Reset in
    let arriving = here c.host.inside _ _ _ _ c.host.view_is c.requires.arriving in
    let may = may_take c.host.inside _ c.args.flight.now.number c.args.flight.now.message.endpoint Reset c.host.view_is
    c.send.ensures.numbered c.requires.arriving in
    ended c.host.inside _ (step.Deliver c.args.flight.now.number) c.receive-received.result.answer answer.Reset _ _ c.deliver_found.new.self c.host.view_is
    (rewritten c.host.inside _ c.args.flight.now.message.endpoint c.args.flight.now.message.endpoint
    c.index_mut.result.now c.index_mut.result.now c.receive-received.new.self tables c.host.view_is for c.index_mut.ensures.value c.index_mut.ensures.value
    c.receive-received.ensures.after)
    c.receive-received.ensures.answer
    (reset_delivered c.host.inside c.args.flight.now.number c.args.flight.now.message.endpoint
    c.index_mut.result.now
    c.send.new.bag c.deliver_found.new.self c.send.ensures.numbered may is arriving
    c.in_ok-send.ensures.sends c.deliver_found.ensures)
