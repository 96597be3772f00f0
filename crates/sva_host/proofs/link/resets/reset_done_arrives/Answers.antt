use Rattle.std.proofs.Common.{refl, sym, subst, arith}
use Rattle.std.specs.Prelude.{List, map}
use Rattle.sva_step.specs.declared.answers.Answer.TheVariants as answer
use Rattle.sva_step.specs.declared.steps.Step.TheVariants as step
use Rattle.sva_msg.specs.declared.messages.Kind.TheVariants.{ResetDone}
use Rattle.sva_iommu.specs.Changes.{unit_reopened}
use Rattle.sva_iommu.specs.Seen.{UnitSeen, with_unit}
use Rattle.sva_host_state.specs.declared.host_state.Port.{Port}
use Rattle.sva_host_state.specs.Inner.{part_seen, wire_of, AreStaged}
use Rattle.sva_host_state.proofs.Arrived.{here, numbered, port_there}
use Rattle.sva_host_state.proofs.Arriving.{arriving_port, arriving_within, may_take, stands_at}
use Rattle.sva_host_state.proofs.Reopening.{is_shut, reopened}
use Rattle.sva_host_state.proofs.Staged.{reset_staged}
use Rattle.sva_host_state.proofs.Units.{with_unit_host, unit_rewritten, ended_by}
use Rattle.sva_host.proofs.link.resets.reset_done_arrives.Goals as goal

pub deliver_found-requires-clause-stands : goal.deliver_found-requires-clause-stands
deliver_found-requires-clause-stands c = stands_at c.host.inside _ c.args.flight.now c.host.view_is c.requires.there

pub deliver_found-requires-clause-may : goal.deliver_found-requires-clause-may
deliver_found-requires-clause-may c =
    may_take c.host.inside _ c.args.flight.now.number c.args.flight.now.message.endpoint ResetDone c.host.view_is
    (numbered c.host.inside _ c.host.view_is c.requires.sound) c.requires.arriving

pub index_mut-requires : goal.index_mut-requires
index_mut-requires c =
    let within =
    arriving_within c.host.inside _ c.args.flight.now.number c.args.flight.now.message.endpoint ResetDone c.host.view_is c.requires.sound
    c.requires.arriving in
    omega (arith, within)

pub reopen-requires : goal.reopen-requires
reopen-requires c =
    is_shut c.host.inside _ c.args.flight.now.number c.args.flight.now.message.endpoint _ c.host.view_is c.requires.sound
    (port_there c.host.inside _ c.args.flight.now.number c.args.flight.now.message.endpoint ResetDone
    c.index_mut.result.now c.host.invariant c.host.view_is
    c.requires.sound c.requires.arriving c.index_mut.ensures.value)
    c.requires.arriving

pub invariant_of-host : goal.invariant_of-host
invariant_of-host c =
    let for = arriving_port _ c.args.flight.now.number c.args.flight.now.message.endpoint ResetDone c.requires.sound c.requires.arriving in
    let is = port_there c.host.inside _ c.args.flight.now.number c.args.flight.now.message.endpoint ResetDone
    c.index_mut.result.now c.host.invariant
    c.host.view_is c.requires.sound c.requires.arriving c.index_mut.ensures.value in
    with_unit_host c.host.inside _ c.args.flight.now.message.endpoint
    c.index_mut.result.now _
    c.host.invariant
    is.sound
    (unit_rewritten c.host.inside _ c.args.flight.now.message.endpoint c.args.flight.now.message.endpoint
    c.index_mut.result.now c.index_mut.result.now c.reopen.new.self
    (λ (u : UnitSeen). with_unit u (unit_reopened u.unit)) c.host.view_is for c.index_mut.ensures.value c.index_mut.ensures.value c.reopen.ensures)
    (subst AreStaged (sym c.by_reset.ensures) (reset_staged c.host.inside.bindings c.args.flight.now.message.endpoint c.host.invariant.staged))

pub returns-clause-step : goal.returns-clause-step
returns-clause-step c =
    let for = arriving_port _ c.args.flight.now.number c.args.flight.now.message.endpoint ResetDone c.requires.sound c.requires.arriving in
    let is = port_there c.host.inside _ c.args.flight.now.number c.args.flight.now.message.endpoint ResetDone
    c.index_mut.result.now c.host.invariant
    c.host.view_is c.requires.sound c.requires.arriving c.index_mut.ensures.value in
    ended_by c.host.inside _ (step.Deliver c.args.flight.now.number) answer.ResetDone answer.ResetDone
    (λ (ports : List Port).
    record (wire_of (record c.host.inside {
      in_flight = c.deliver_found.new.self;
      bindings = c.by_reset.new.self;
      address_spaces = c.settle_all.new.self;
    })) { parts = map part_seen ports }) _ _
    c.host.view_is
    (unit_rewritten c.host.inside _ c.args.flight.now.message.endpoint c.args.flight.now.message.endpoint
    c.index_mut.result.now c.index_mut.result.now c.reopen.new.self
    (λ (u : UnitSeen). with_unit u (unit_reopened u.unit)) c.host.view_is for c.index_mut.ensures.value c.index_mut.ensures.value c.reopen.ensures)
    refl
    (reopened c.host.inside c.args.flight.now.number c.args.flight.now.message.endpoint
    c.index_mut.result.now
    c.deliver_found.new.self c.by_reset.new.self c.settle_all.new.self
    (numbered c.host.inside _ c.host.view_is c.requires.sound) is (here c.host.inside _ _ _ _ c.host.view_is c.requires.arriving)
    c.deliver_found.ensures c.by_reset.ensures c.settle_all.ensures)
