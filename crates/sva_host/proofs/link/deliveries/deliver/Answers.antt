use Rattle.std.proofs.Common.{ℕ, ap, sym, subst, refl}
use Rattle.std.specs.Prelude.{option_map, IsTrue}
use Rattle.sva_step.specs.declared.steps.Step.TheVariants as step
use Rattle.sva_msg.specs.Bag.{MayDeliver}
use Rattle.sva_msg.specs.declared.messages.Kind.TheVariants.{Reset, Request, Invalidated, PageRequest, Marker, ResetDone}
use Rattle.sva_host_state.specs.Steps.{ByLabels}
use Rattle.sva_host_state.specs.Arriving.{IsArriving}
use Rattle.sva_host_state.proofs.Arriving.{stands_there}
use Rattle.sva_host_state.proofs.Arrivals.{no_message, overtakes, arrives, reset_answers, request_answers}
use Rattle.sva_host.proofs.link.deliveries.deliver.Goals as goal

pub returns-in_default-clause-step : goal.returns-in_default-clause-step
returns-in_default-clause-step c = no_message c.host.inside _ c.args.message c.host.view_is c.find.ensures.numbered c.in_default.ensures.message

pub returns-then-not-may_deliver_found-clause-step : goal.returns-then-not-may_deliver_found-clause-step
returns-then-not-may_deliver_found-clause-step c =
    overtakes c.host.inside _ c.args.message c.in-Some.flight.message c.may_deliver_found.result c.host.view_is c.find.ensures.numbered
    c.in-Some.ensures.message
    (subst (λ (n : ℕ). MayDeliver c.host.inside.in_flight n → IsTrue c.may_deliver_found.result) c.in-Some.ensures.found.0
    c.may_deliver_found.ensures.1)
    c.if-not-may_deliver_found.true

pub reset_arrives-requires-clause-arriving : goal.reset_arrives-requires-clause-arriving
reset_arrives-requires-clause-arriving c =
    arrives c.host.inside _ c.in-Some.flight.number c.in-Some.flight.message Reset c.may_deliver_found.result c.host.view_is
    c.find.ensures.numbered (sym c.in-Some.ensures.found.1.found) c.may_deliver_found.ensures.0 c.if-not-may_deliver_found.false c.in-Reset.is

pub reset_arrives-requires-clause-there : goal.reset_arrives-requires-clause-there
reset_arrives-requires-clause-there c =
    stands_there c.host.inside _ c.in-Some.flight c.host.view_is (ap (option_map (λ e. e.0)) c.in-Some.ensures.found.1.stands)

pub request_arrives-requires-clause-arriving : goal.request_arrives-requires-clause-arriving
request_arrives-requires-clause-arriving c =
    arrives c.host.inside _ c.in-Some.flight.number c.in-Some.flight.message
    (Request c.in-Request.tag c.in-Request.pasid c.in-Request.page) c.may_deliver_found.result c.host.view_is
    c.find.ensures.numbered (sym c.in-Some.ensures.found.1.found) c.may_deliver_found.ensures.0 c.if-not-may_deliver_found.false c.in-Request.is

pub request_arrives-requires-clause-there : goal.request_arrives-requires-clause-there
request_arrives-requires-clause-there c =
    stands_there c.host.inside _ c.in-Some.flight c.host.view_is (ap (option_map (λ e. e.0)) c.in-Some.ensures.found.1.stands)

pub invalidated_arrives-requires-clause-arriving : goal.invalidated_arrives-requires-clause-arriving
invalidated_arrives-requires-clause-arriving c =
    arrives c.host.inside _ c.in-Some.flight.number c.in-Some.flight.message
    (Invalidated c.in-Invalidated.vector c.in-Invalidated.count) c.may_deliver_found.result c.host.view_is
    c.find.ensures.numbered (sym c.in-Some.ensures.found.1.found) c.may_deliver_found.ensures.0 c.if-not-may_deliver_found.false c.in-Invalidated.is

pub invalidated_arrives-requires-clause-there : goal.invalidated_arrives-requires-clause-there
invalidated_arrives-requires-clause-there c =
    stands_there c.host.inside _ c.in-Some.flight c.host.view_is (ap (option_map (λ e. e.0)) c.in-Some.ensures.found.1.stands)

pub page_request_arrives-requires-clause-arriving : goal.page_request_arrives-requires-clause-arriving
page_request_arrives-requires-clause-arriving c =
    arrives c.host.inside _ c.in-Some.flight.number c.in-Some.flight.message (PageRequest c.in-PageRequest.request) c.may_deliver_found.result c.host.view_is
    c.find.ensures.numbered (sym c.in-Some.ensures.found.1.found) c.may_deliver_found.ensures.0 c.if-not-may_deliver_found.false c.in-PageRequest.is

pub page_request_arrives-requires-clause-there : goal.page_request_arrives-requires-clause-there
page_request_arrives-requires-clause-there c =
    stands_there c.host.inside _ c.in-Some.flight c.host.view_is (ap (option_map (λ e. e.0)) c.in-Some.ensures.found.1.stands)

pub marker_arrives-requires-clause-arriving : goal.marker_arrives-requires-clause-arriving
marker_arrives-requires-clause-arriving c =
    arrives c.host.inside _ c.in-Some.flight.number c.in-Some.flight.message (Marker c.in-Marker.pasid) c.may_deliver_found.result c.host.view_is
    c.find.ensures.numbered (sym c.in-Some.ensures.found.1.found) c.may_deliver_found.ensures.0 c.if-not-may_deliver_found.false c.in-Marker.is

pub marker_arrives-requires-clause-there : goal.marker_arrives-requires-clause-there
marker_arrives-requires-clause-there c =
    stands_there c.host.inside _ c.in-Some.flight c.host.view_is (ap (option_map (λ e. e.0)) c.in-Some.ensures.found.1.stands)

pub reset_done_arrives-requires-clause-arriving : goal.reset_done_arrives-requires-clause-arriving
reset_done_arrives-requires-clause-arriving c =
    arrives c.host.inside _ c.in-Some.flight.number c.in-Some.flight.message ResetDone c.may_deliver_found.result c.host.view_is
    c.find.ensures.numbered (sym c.in-Some.ensures.found.1.found) c.may_deliver_found.ensures.0 c.if-not-may_deliver_found.false c.in-ResetDone.is

pub reset_done_arrives-requires-clause-there : goal.reset_done_arrives-requires-clause-there
reset_done_arrives-requires-clause-there c =
    stands_there c.host.inside _ c.in-Some.flight c.host.view_is (ap (option_map (λ e. e.0)) c.in-Some.ensures.found.1.stands)

pub goes_down-requires-clause-arriving : goal.goes_down-requires-clause-arriving
goes_down-requires-clause-arriving c =
    arrives c.host.inside _ c.in-Some.flight.number c.in-Some.flight.message _ c.may_deliver_found.result c.host.view_is
    c.find.ensures.numbered (sym c.in-Some.ensures.found.1.found) c.may_deliver_found.ensures.0 c.if-not-may_deliver_found.false refl

pub goes_down-requires-clause-there : goal.goes_down-requires-clause-there
goes_down-requires-clause-there c =
    stands_there c.host.inside _ c.in-Some.flight c.host.view_is (ap (option_map (λ e. e.0)) c.in-Some.ensures.found.1.stands)

pub returns-in-Reset-clause-step : goal.returns-in-Reset-clause-step
returns-in-Reset-clause-step c =
    subst (λ (n : ℕ). ByLabels c.args.host.now (step.Deliver n) c.reset_arrives.result c.reset_arrives.new.host)
    c.in-Some.ensures.found.0 c.reset_arrives.ensures

pub returns-in-Request-clause-step : goal.returns-in-Request-clause-step
returns-in-Request-clause-step c =
    subst (λ (n : ℕ). ByLabels c.args.host.now (step.Deliver n) c.request_arrives.result c.request_arrives.new.host)
    c.in-Some.ensures.found.0 c.request_arrives.ensures.step

pub returns-in-Invalidated-clause-step : goal.returns-in-Invalidated-clause-step
returns-in-Invalidated-clause-step c =
    subst (λ (n : ℕ). ByLabels c.args.host.now (step.Deliver n) c.invalidated_arrives.result
    c.invalidated_arrives.new.host) c.in-Some.ensures.found.0 c.invalidated_arrives.ensures.step

pub returns-in-PageRequest-clause-step : goal.returns-in-PageRequest-clause-step
returns-in-PageRequest-clause-step c =
    subst (λ (n : ℕ). ByLabels c.args.host.now (step.Deliver n) c.page_request_arrives.result
    c.page_request_arrives.new.host) c.in-Some.ensures.found.0 c.page_request_arrives.ensures.step

pub returns-in-Marker-clause-step : goal.returns-in-Marker-clause-step
returns-in-Marker-clause-step c =
    subst (λ (n : ℕ). ByLabels c.args.host.now (step.Deliver n) c.marker_arrives.result c.marker_arrives.new.host)
    c.in-Some.ensures.found.0 c.marker_arrives.ensures.step

pub returns-in-ResetDone-clause-step : goal.returns-in-ResetDone-clause-step
returns-in-ResetDone-clause-step c =
    subst (λ (n : ℕ). ByLabels c.args.host.now (step.Deliver n) c.reset_done_arrives.result
    c.reset_done_arrives.new.host) c.in-Some.ensures.found.0 c.reset_done_arrives.ensures.step

pub returns-in-Reset-clause-memory : goal.returns-in-Reset-clause-memory
returns-in-Reset-clause-memory c =
    let arriving = subst (λ (n : ℕ). IsArriving c.args.host.now n c.in-Some.flight.message.endpoint Reset) c.in-Some.ensures.found.0
    (arrives c.host.inside _ c.in-Some.flight.number c.in-Some.flight.message Reset c.may_deliver_found.result c.host.view_is
    c.find.ensures.numbered (sym c.in-Some.ensures.found.1.found) c.may_deliver_found.ensures.0 c.if-not-may_deliver_found.false c.in-Reset.is) in
    λ none _. reset_answers _ c.args.message c.in-Some.flight.message.endpoint arriving none

pub returns-in-Request-clause-memory : goal.returns-in-Request-clause-memory
returns-in-Request-clause-memory c =
    let kind = Request c.in-Request.tag c.in-Request.pasid c.in-Request.page in
    let arriving = subst (λ (n : ℕ). IsArriving c.args.host.now n c.in-Some.flight.message.endpoint kind) c.in-Some.ensures.found.0
    (arrives c.host.inside _ c.in-Some.flight.number c.in-Some.flight.message kind c.may_deliver_found.result c.host.view_is
    c.find.ensures.numbered (sym c.in-Some.ensures.found.1.found) c.may_deliver_found.ensures.0 c.if-not-may_deliver_found.false c.in-Request.is) in
    λ none. c.request_arrives.ensures.memory
    (request_answers _ c.args.message c.in-Some.flight.message.endpoint c.in-Request.tag c.in-Request.pasid c.in-Request.page arriving none)
