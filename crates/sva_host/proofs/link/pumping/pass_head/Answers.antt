use Rattle.std.proofs.Common.{refl}
use Rattle.std.specs.Prelude.{map}
use Rattle.sva_step.specs.declared.answers.Answer.TheVariants as answer
use Rattle.sva_step.specs.declared.steps.Step.TheVariants as step
use Rattle.sva_queue.specs.declared.heads.Next.TheVariants as Next
use Rattle.sva_host_state.specs.declared.host_state.Port.{Port}
use Rattle.sva_host_state.specs.Inner.{part_seen, wire_of}
use Rattle.sva_host_state.proofs.Ports.{port_found}
use Rattle.sva_host_state.proofs.Units.{unit_rewritten, with_unit_host, ended_by}
use Rattle.sva_host_state.proofs.Heads.{place_for, head_of, after_pass, pump_passed}
use Rattle.sva_host.proofs.link.pumping.pass_head.Goals as goal

pub pass-requires : goal.pass-requires
pass-requires c =
    let port : Port = c.index_mut.result.now in
    let is = port_found c.host.inside _ c.args.at c.args.at c.index_mut.result.now c.host.invariant c.host.view_is
    (place_for c.args.host.now c.args.at c.requires.there) c.index_mut.ensures.value in
    head_of c.host.inside _ c.args.at port (Next.Pass c.args.cookie) c.host.view_is is c.requires

pub invariant_of-host : goal.invariant_of-host
invariant_of-host c =
    let for = place_for c.args.host.now c.args.at c.requires.there in
    let port : Port = c.index_mut.result.now in
    let is = port_found c.host.inside _ c.args.at c.args.at c.index_mut.result.now c.host.invariant c.host.view_is for
    c.index_mut.ensures.value in
    with_unit_host c.host.inside _ c.args.at port (after_pass c.args.cookie port.unit) c.host.invariant is.sound
    (unit_rewritten c.host.inside _ c.args.at c.args.at c.index_mut.result.now c.index_mut.result.now c.pass.new.self
    (after_pass c.args.cookie) c.host.view_is for c.index_mut.ensures.value c.index_mut.ensures.value c.pass.ensures) c.host.invariant.staged

pub returns : goal.returns
returns c =
    let for = place_for c.args.host.now c.args.at c.requires.there in
    let port : Port = c.index_mut.result.now in
    let is = port_found c.host.inside _ c.args.at c.args.at c.index_mut.result.now c.host.invariant c.host.view_is for
    c.index_mut.ensures.value in
    ended_by c.host.inside _ (step.Pump c.args.at) answer.WaitDone answer.WaitDone
    (λ items. record (wire_of (record c.host.inside { address_spaces = c.settle.new.self })) { parts = map part_seen items }) _ _ c.host.view_is
    (unit_rewritten c.host.inside _ c.args.at c.args.at c.index_mut.result.now c.index_mut.result.now c.pass.new.self
    (after_pass c.args.cookie) c.host.view_is for c.index_mut.ensures.value c.index_mut.ensures.value c.pass.ensures)
    refl
    (pump_passed c.host.inside _ c.args.at port c.args.cookie c.settle.new.self c.host.view_is is c.requires c.settle.ensures)
