use Rattle.std.proofs.Common.{sym, ap, refl, ◌∙◌}
use Rattle.std.specs.Prelude.{List, map}
use Rattle.sva_step.specs.declared.answers.Answer.TheVariants as answer
use Rattle.sva_step.specs.declared.steps.Step.TheVariants as step
use Rattle.sva_iommu.specs.Changes.{reset_begun}
use Rattle.sva_host_state.specs.declared.host_state.Port.{Port}
use Rattle.sva_host_state.specs.Inner.{part_seen, wire_of}
use Rattle.sva_host_state.proofs.Ports.{port_found, same_port}
use Rattle.sva_host_state.proofs.Resetting.{reset_begins}
use Rattle.sva_host_state.proofs.Units.{with_unit_host, unit_rewritten, ended_by}
use Rattle.sva_host.proofs.link.resets.reset.Goals as goal

pub invariant_of-host-2 : goal.invariant_of-host-2
invariant_of-host-2 c =
    let is = port_found c.host.inside _ c.args.endpoint c.in_ok-at.at c.index_mut.result.now c.host.invariant c.host.view_is
    c.in_ok-at.ensures c.index_mut.ensures.value in
    with_unit_host c.host.inside _ c.args.endpoint c.index_mut.result.now _ c.host.invariant
    is.sound
    (unit_rewritten c.host.inside _ c.args.endpoint c.in_ok-at.at c.index_mut.result.now c.index_mut.result.now
    c.reset.new.self reset_begun c.host.view_is c.in_ok-at.ensures
    c.index_mut.ensures.value c.index_mut.ensures.value c.reset.ensures) c.host.invariant.staged

pub returns : goal.returns
returns c =
    let is = port_found c.host.inside _ c.args.endpoint c.in_ok-at.at c.index_mut.result.now c.host.invariant c.host.view_is
    c.in_ok-at.ensures c.index_mut.ensures.value in
    let same = same_port c.host.inside _ c.args.endpoint c.in_ok-at.at c.index.result.now c.index_mut.result.now
    c.host.view_is c.in_ok-at.ensures c.index.ensures c.index_mut.ensures.value in
    ended_by c.host.inside _ (step.Reset c.args.endpoint) answer.Resetting answer.Resetting
    (λ (ports : List Port). record (wire_of (record c.host.inside { in_flight = c.send.new.bag })) { parts = map part_seen ports }) _ _ c.host.view_is
    (unit_rewritten c.host.inside _ c.args.endpoint c.in_ok-at.at c.index_mut.result.now c.index_mut.result.now
    c.reset.new.self reset_begun c.host.view_is c.in_ok-at.ensures
    c.index_mut.ensures.value c.index_mut.ensures.value c.reset.ensures)
    refl
    (reset_begins c.host.inside c.args.endpoint c.index_mut.result.now c.send.new.bag is
    (ap (λ (p : Port). p.unit.unit.is_open) same ∙ sym c.is_open.ensures ∙ c.if-not-is_open.false) c.in_ok-send.ensures.sends)
