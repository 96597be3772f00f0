use Rattle.std.proofs.Common.{sym, ap, ◌∙◌, arith}
use Rattle.std.specs.Prelude.{List, map}
use Rattle.sva_step.specs.declared.answers.Answer.TheVariants as answer
use Rattle.sva_step.specs.declared.steps.Step.TheVariants as step
use Rattle.sva_msg.specs.declared.messages.Kind.TheVariants.{Invalidated}
use Rattle.sva_host_state.specs.declared.host_state.Port.{Port}
use Rattle.sva_host_state.specs.Inner.{part_seen, wire_of}
use Rattle.sva_host_state.proofs.Arrived.{here, numbered, port_there}
use Rattle.sva_host_state.proofs.Arriving.{arriving_port, arriving_within, may_take, stands_at}
use Rattle.sva_host_state.proofs.Ports.{same_port}
use Rattle.sva_host_state.proofs.Units.{with_unit_host, unit_rewritten, ended_by}
use Rattle.sva_host_state.proofs.Counted.{with_counted, read_as, uncounted, counted, few_freed}
use Rattle.sva_host.proofs.link.completions.invalidated_arrives.Goals as goal

pub deliver_found-requires-clause-stands : goal.deliver_found-requires-clause-stands
deliver_found-requires-clause-stands c = stands_at c.host.inside _ c.args.flight.now c.host.view_is c.requires.there

pub deliver_found-requires-clause-may : goal.deliver_found-requires-clause-may
deliver_found-requires-clause-may c =
    may_take c.host.inside _ c.args.flight.now.number c.args.flight.now.message.endpoint (Invalidated c.args.vector c.args.count) c.host.view_is
    (numbered c.host.inside _ c.host.view_is c.requires.sound) c.requires.arriving

pub index-requires : goal.index-requires
index-requires c =
    let within =
    arriving_within c.host.inside _ c.args.flight.now.number c.args.flight.now.message.endpoint
    (Invalidated c.args.vector c.args.count) c.host.view_is c.requires.sound c.requires.arriving in
    omega (arith, within)

pub returns-then-not-is_open-clause-step : goal.returns-then-not-is_open-clause-step
returns-then-not-is_open-clause-step c =
    uncounted c.host.inside _ c.args.flight.now.number c.args.flight.now.message.endpoint c.args.vector c.args.count
    c.index.result.now c.deliver_found.new.self c.host.view_is
    (numbered c.host.inside _ c.host.view_is c.requires.sound)
    (port_there c.host.inside _ c.args.flight.now.number c.args.flight.now.message.endpoint
    (Invalidated c.args.vector c.args.count) c.index.result.now
    c.host.invariant c.host.view_is c.requires.sound c.requires.arriving c.index.ensures)
    c.requires.arriving (sym c.is_open.ensures ∙ c.if-not-is_open.true) c.deliver_found.ensures

pub index_mut-requires : goal.index_mut-requires
index_mut-requires c =
    let within =
    arriving_within c.host.inside _ c.args.flight.now.number c.args.flight.now.message.endpoint
    (Invalidated c.args.vector c.args.count) c.host.view_is
    c.requires.sound c.requires.arriving in
    omega (arith, within)

pub invariant_of-host-2 : goal.invariant_of-host-2
invariant_of-host-2 c =
    let for = arriving_port _ c.args.flight.now.number c.args.flight.now.message.endpoint
    (Invalidated c.args.vector c.args.count) c.requires.sound c.requires.arriving in
    let is = port_there c.host.inside _ c.args.flight.now.number c.args.flight.now.message.endpoint
    (Invalidated c.args.vector c.args.count) c.index_mut.result.now c.host.invariant c.host.view_is c.requires.sound
    c.requires.arriving c.index_mut.ensures.value in
    with_unit_host c.host.inside _ c.args.flight.now.message.endpoint
    c.index_mut.result.now _
    c.host.invariant is.sound
    (unit_rewritten c.host.inside _ c.args.flight.now.message.endpoint c.args.flight.now.message.endpoint
    c.index_mut.result.now c.index_mut.result.now c.complete-freed.new.self (with_counted c.args.vector c.from_field.result) c.host.view_is for
    c.index_mut.ensures.value c.index_mut.ensures.value c.complete-freed.ensures.unit) c.host.invariant.staged

pub returns-clause-step : goal.returns-clause-step
returns-clause-step c =
    let for = arriving_port _ c.args.flight.now.number c.args.flight.now.message.endpoint
    (Invalidated c.args.vector c.args.count) c.requires.sound c.requires.arriving in
    let is = port_there c.host.inside _ c.args.flight.now.number c.args.flight.now.message.endpoint
    (Invalidated c.args.vector c.args.count) c.index_mut.result.now c.host.invariant c.host.view_is c.requires.sound
    c.requires.arriving c.index_mut.ensures.value in
    let same = same_port c.host.inside _ c.args.flight.now.message.endpoint c.args.flight.now.message.endpoint
    c.index.result.now c.index_mut.result.now c.host.view_is for c.index.ensures c.index_mut.ensures.value in
    ended_by c.host.inside _ (step.Deliver c.args.flight.now.number) (answer.Freed c.complete-freed.result) _
    (λ (ports : List Port). record (wire_of (record c.host.inside { in_flight = c.deliver_found.new.self })) { parts = map part_seen ports }) _ _ c.host.view_is
    (unit_rewritten c.host.inside _ c.args.flight.now.message.endpoint c.args.flight.now.message.endpoint
    c.index_mut.result.now c.index_mut.result.now c.complete-freed.new.self (with_counted c.args.vector c.from_field.result) c.host.view_is for
    c.index_mut.ensures.value c.index_mut.ensures.value c.complete-freed.ensures.unit)
    (ap answer.Freed c.complete-freed.ensures.freed)
    (counted c.host.inside c.args.flight.now.number c.args.flight.now.message.endpoint c.args.vector c.args.count c.from_field.result
    c.index_mut.result.now c.deliver_found.new.self
    (numbered c.host.inside _ c.host.view_is c.requires.sound) is
    (here c.host.inside _ _ _ _ c.host.view_is c.requires.arriving) (ap (λ (p : Port). p.unit.unit.is_open) same ∙ sym c.is_open.ensures
    ∙ c.if-not-is_open.false)
    (read_as c.args.count c.from_field.result (λ z. c.from_field.ensures.zero (c.get.ensures.value ∙ z))
    (λ nz. c.from_field.ensures.other (λ z. nz (sym c.get.ensures.value ∙ z)) ∙ c.get.ensures.value)) c.deliver_found.ensures)

pub overflow_cast-result : goal.overflow_cast-result
overflow_cast-result c =
    let few = few_freed c.index_mut.result.now.unit.unit c.args.vector
    c.from_field.result c.complete-freed.result c.complete-freed.ensures.freed in
    omega (arith, few)
