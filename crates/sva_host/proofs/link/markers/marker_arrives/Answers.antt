use Rattle.std.proofs.Common.{ap, sym, ◌∙◌, arith}
use Rattle.std.specs.Prelude.{None}
use Rattle.sva_msg.specs.declared.messages.Kind.TheVariants.{Marker}
use Rattle.sva_host_state.proofs.Arrived.{numbered}
use Rattle.sva_host_state.proofs.Arriving.{may_take, stands_at, arriving_within}
use Rattle.sva_host_state.proofs.TakenOut.{unit_there}
use Rattle.sva_host_state.proofs.Marking.{markable, bearer_there, none_borne, stopping_there, dropped, marked}
use Rattle.sva_host.proofs.link.markers.marker_arrives.Goals as goal

pub deliver_found-requires-clause-stands : goal.deliver_found-requires-clause-stands
deliver_found-requires-clause-stands c = stands_at c.host.inside _ c.args.flight.now c.host.view_is c.requires.there

pub deliver_found-requires-clause-may : goal.deliver_found-requires-clause-may
deliver_found-requires-clause-may c =
    may_take c.host.inside c.args.host.now c.args.flight.now.number c.args.flight.now.message.endpoint
    (Marker c.args.pasid) c.host.view_is (numbered c.host.inside _ c.host.view_is c.requires.sound)
    c.requires.arriving

pub index-requires : goal.index-requires
index-requires c =
    let within =
    arriving_within c.host.inside c.args.host.now c.args.flight.now.number c.args.flight.now.message.endpoint
    (Marker c.args.pasid) c.host.view_is
    c.requires.sound c.requires.arriving in
    omega (arith, within)

pub returns-then-not-is_open-clause-step : goal.returns-then-not-is_open-clause-step
returns-then-not-is_open-clause-step c =
    let within = arriving_within c.host.inside c.args.host.now c.args.flight.now.number
    c.args.flight.now.message.endpoint (Marker c.args.pasid) c.host.view_is c.requires.sound c.requires.arriving in
    let unit = unit_there c.host.inside c.args.host.now c.args.flight.now.message.endpoint c.index.result.now c.host.view_is within
    c.index.ensures in
    dropped c.host.inside c.args.host.now c.args.flight.now.number c.args.flight.now.message.endpoint c.args.pasid c.deliver_found.new.self c.host.view_is
    (numbered c.host.inside _ c.host.view_is c.requires.sound) c.requires.arriving
    (sym (c.is_open.ensures ∙ ap (λ u. u.is_open) unit) ∙ c.if-not-is_open.true) c.deliver_found.ensures

pub unreachable-requires : goal.unreachable-requires
unreachable-requires c =
    let within = arriving_within c.host.inside c.args.host.now c.args.flight.now.number
    c.args.flight.now.message.endpoint (Marker c.args.pasid) c.host.view_is c.requires.sound c.requires.arriving in
    let unit = unit_there c.host.inside c.args.host.now c.args.flight.now.message.endpoint c.index.result.now c.host.view_is within
    c.index.ensures in
    none_borne c.args.host.now c.args.flight.now.message.endpoint c.args.pasid
    (markable c.args.host.now c.args.flight.now.number c.args.flight.now.message.endpoint c.args.pasid c.requires.sound c.requires.arriving
    (sym (c.is_open.ensures ∙ ap (λ u. u.is_open) unit) ∙ c.if-not-is_open.false))
    (bearer_there c.host.inside c.args.host.now c.args.flight.now.message.endpoint c.args.pasid None c.host.view_is c.in_default.ensures)

pub mark-requires : goal.mark-requires
mark-requires c =
    let within = arriving_within c.host.inside c.args.host.now c.args.flight.now.number
    c.args.flight.now.message.endpoint (Marker c.args.pasid) c.host.view_is c.requires.sound c.requires.arriving in
    let unit = unit_there c.host.inside c.args.host.now c.args.flight.now.message.endpoint c.index.result.now c.host.view_is within
    c.index.ensures in
    stopping_there c.host.inside c.args.host.now c.args.flight.now.message.endpoint c.args.pasid c.in-Some.place.now
    c.host.invariant c.host.view_is c.requires.sound
    (markable c.args.host.now c.args.flight.now.number c.args.flight.now.message.endpoint c.args.pasid c.requires.sound c.requires.arriving
    (sym (c.is_open.ensures ∙ ap (λ u. u.is_open) unit) ∙ c.if-not-is_open.false))
    c.in-Some.ensures

pub returns-clause-step : goal.returns-clause-step
returns-clause-step c =
    let within = arriving_within c.host.inside c.args.host.now c.args.flight.now.number
    c.args.flight.now.message.endpoint (Marker c.args.pasid) c.host.view_is c.requires.sound c.requires.arriving in
    let unit = unit_there c.host.inside c.args.host.now c.args.flight.now.message.endpoint c.index.result.now c.host.view_is within
    c.index.ensures in
    marked c.host.inside c.args.host.now c.args.flight.now.number c.args.flight.now.message.endpoint c.args.pasid
    c.in-Some.place.now c.deliver_found.new.self c.mark.new.bindings
    c.host.view_is (numbered c.host.inside _ c.host.view_is c.requires.sound) c.requires.arriving
    (sym (c.is_open.ensures ∙ ap (λ u. u.is_open) unit) ∙ c.if-not-is_open.false)
    c.in-Some.ensures c.deliver_found.ensures c.mark.ensures
