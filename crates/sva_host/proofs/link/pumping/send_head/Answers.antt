use Rattle.std.proofs.Common.{refl}
use Rattle.std.specs.Prelude.{map}
use Rattle.sva_step.specs.declared.answers.Answer.TheVariants as answer
use Rattle.sva_step.specs.declared.steps.Step.TheVariants as step
use Rattle.sva_queue.specs.declared.heads.Next.TheVariants as Next
use Rattle.sva_host_state.specs.declared.host_state.Port.{Port}
use Rattle.sva_host_state.specs.Inner.{part_seen, wire_of}
use Rattle.sva_host_state.proofs.Ports.{port_found}
use Rattle.sva_host_state.proofs.Devices.{went}
use Rattle.sva_host_state.proofs.Units.{unit_rewritten, with_unit_host, ended_by}
use Rattle.sva_host_state.proofs.Heads.{place_for, head_of, after_send, pump_unsent, pump_sent}
use Rattle.sva_host.proofs.link.pumping.send_head.Goals as goal

pub returns-in_err-send : goal.returns-in_err-send
returns-in_err-send c =
    went _ _ (wire_of (record c.host.inside { in_flight = c.send.new.bag })) (step.Pump c.args.at) _ _ c.host.view_is c.from_residual.ensures
    (pump_unsent c.host.inside _ c.args.at c.args.sending c.message.result _ _ c.host.view_is c.requires c.in_err-send.ensures.sends)

pub send-requires-2 : goal.send-requires-2
send-requires-2 c =
    let port : Port = c.index_mut.result.now in
    let is = port_found c.host.inside _ c.args.at c.args.at c.index_mut.result.now c.host.invariant c.host.view_is
    (place_for c.args.host.now c.args.at c.requires.there) c.index_mut.ensures.value in
    head_of c.host.inside _ c.args.at port (Next.Send c.args.sending) c.host.view_is is c.requires

pub invariant_of-host-2 : goal.invariant_of-host-2
invariant_of-host-2 c =
    let for = place_for c.args.host.now c.args.at c.requires.there in
    let port : Port = c.index_mut.result.now in
    let is = port_found c.host.inside _ c.args.at c.args.at c.index_mut.result.now c.host.invariant c.host.view_is for
    c.index_mut.ensures.value in
    with_unit_host c.host.inside _ c.args.at port (after_send c.args.sending port.unit) c.host.invariant is.sound
    (unit_rewritten c.host.inside _ c.args.at c.args.at c.index_mut.result.now c.index_mut.result.now c.send-2.new.self
    (after_send c.args.sending) c.host.view_is for c.index_mut.ensures.value c.index_mut.ensures.value c.send-2.ensures) c.host.invariant.staged

pub returns : goal.returns
returns c =
    let for = place_for c.args.host.now c.args.at c.requires.there in
    let port : Port = c.index_mut.result.now in
    let is = port_found c.host.inside _ c.args.at c.args.at c.index_mut.result.now c.host.invariant c.host.view_is for
    c.index_mut.ensures.value in
    ended_by c.host.inside _ (step.Pump c.args.at) (answer.Itag c.args.sending.itag) (answer.Itag c.args.sending.itag)
    (λ items. record (wire_of (record c.host.inside { in_flight = c.send.new.bag })) { parts = map part_seen items }) _ _ c.host.view_is
    (unit_rewritten c.host.inside _ c.args.at c.args.at c.index_mut.result.now c.index_mut.result.now c.send-2.new.self
    (after_send c.args.sending) c.host.view_is for c.index_mut.ensures.value c.index_mut.ensures.value c.send-2.ensures)
    refl
    (pump_sent c.host.inside _ c.args.at port c.args.sending _ c.send.new.bag c.host.view_is is c.requires c.message.ensures c.in_ok-send.ensures.sends)
