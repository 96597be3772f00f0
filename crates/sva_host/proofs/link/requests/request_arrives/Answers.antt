use Rattle.std.proofs.Common.{sym, ap, ◌∙◌, arith}
use Rattle.sva_labels.specs.Outcomes.{completion_of}
use Rattle.sva_msg.specs.declared.messages.Kind.TheVariants.{Request}
use Rattle.sva_host_state.proofs.Arrived.{numbered, port_there}
use Rattle.sva_host_state.proofs.Arriving.{arriving_within, may_take, stands_at}
use Rattle.sva_host_state.proofs.Requested.{unasked, answered}
use Rattle.sva_host_state.proofs.ResetMessages.{may_still, still_at}
use Rattle.sva_host.proofs.link.requests.request_arrives.Goals as goal

pub index-requires : goal.index-requires
index-requires c =
    let within =
    arriving_within c.host.inside _ c.args.flight.now.number c.args.flight.now.message.endpoint
    (Request c.args.tag c.args.pasid c.args.page) c.host.view_is
    c.requires.sound c.requires.arriving in
    omega (arith, within)

pub deliver_found-requires-clause-stands : goal.deliver_found-requires-clause-stands
deliver_found-requires-clause-stands c = stands_at c.host.inside _ c.args.flight.now c.host.view_is c.requires.there

pub deliver_found-requires-clause-may : goal.deliver_found-requires-clause-may
deliver_found-requires-clause-may c =
    may_take c.host.inside _ c.args.flight.now.number c.args.flight.now.message.endpoint (Request c.args.tag c.args.pasid c.args.page) c.host.view_is
    (numbered c.host.inside _ c.host.view_is c.requires.sound) c.requires.arriving

pub returns-then-not-is_open-clause-step : goal.returns-then-not-is_open-clause-step
returns-then-not-is_open-clause-step c =
    unasked c.host.inside _ c.args.flight.now.number c.args.flight.now.message.endpoint c.args.tag c.args.pasid c.args.page
    c.index.result.now c.deliver_found.new.self
    c.host.view_is (numbered c.host.inside _ c.host.view_is c.requires.sound)
    (port_there c.host.inside _ c.args.flight.now.number c.args.flight.now.message.endpoint
    (Request c.args.tag c.args.pasid c.args.page) c.index.result.now c.host.invariant c.host.view_is c.requires.sound
    c.requires.arriving c.index.ensures)
    c.requires.arriving (sym c.is_open.ensures ∙ c.if-not-is_open.true) c.deliver_found.ensures

pub deliver_found-requires-2-clause-stands : goal.deliver_found-requires-2-clause-stands
deliver_found-requires-2-clause-stands c =
    still_at c.host.inside.in_flight c.send.new.bag c.args.flight.now _ (stands_at c.host.inside _ c.args.flight.now c.host.view_is c.requires.there)
    c.in_ok-send.ensures.sends.1

pub deliver_found-requires-2-clause-may : goal.deliver_found-requires-2-clause-may
deliver_found-requires-2-clause-may c =
    may_still c.host.inside.in_flight c.send.new.bag c.args.flight.now.number _ c.send.ensures.numbered
    (may_take c.host.inside _ c.args.flight.now.number c.args.flight.now.message.endpoint
    (Request c.args.tag c.args.pasid c.args.page) c.host.view_is c.send.ensures.numbered
    c.requires.arriving)
    c.in_ok-send.ensures.sends.1

pub returns-clause-step : goal.returns-clause-step
returns-clause-step c =
    answered c.host.inside _ c.args.flight.now.number c.args.flight.now.message.endpoint c.args.tag c.args.pasid c.args.page
    c.index.result.now c.completion.result
    c.send.new.bag c.deliver_found-2.new.self c.host.view_is c.send.ensures.numbered
    (may_take c.host.inside _ c.args.flight.now.number c.args.flight.now.message.endpoint
    (Request c.args.tag c.args.pasid c.args.page) c.host.view_is c.send.ensures.numbered
    c.requires.arriving)
    (port_there c.host.inside _ c.args.flight.now.number c.args.flight.now.message.endpoint
    (Request c.args.tag c.args.pasid c.args.page) c.index.result.now c.host.invariant c.host.view_is c.requires.sound
    c.requires.arriving c.index.ensures)
    c.requires.arriving (sym c.is_open.ensures ∙ c.if-not-is_open.false) (c.completion.ensures c.args.page
    ∙ ap (completion_of c.args.tag) c.translation-found.ensures) c.in_ok-send.ensures.sends
    c.deliver_found-2.ensures
