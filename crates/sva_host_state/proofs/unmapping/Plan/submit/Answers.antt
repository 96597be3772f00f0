use Rattle.std.proofs.Common.{◌∙◌, ◌+◌, ◌<◌, ◌≤◌, ◌^◌, ℕ, suc, ap, refl, sym, subst, arith}
use Rattle.std.specs.Prelude.{List, length, map}
use Rattle.sva_model.specs.Wire.{Wire, EndpointWire}
use Rattle.sva_labels.specs.Finding.{has_room}
use Rattle.sva_labels.specs.Moves.{descriptors_for, with_descriptors}
use Rattle.sva_iommu.specs.Seen.{UnitSeen, with_unit}
use Rattle.sva_host_state.specs.declared.host_state.HostState.TheInside.{Inside as HostState}
use Rattle.sva_host_state.specs.declared.host_state.Port.{Port}
use Rattle.sva_host_state.specs.Inner.{part_seen, wire_of, AreStaged, IsHostState}
use Rattle.sva_host_state.specs.Unmapping.{IsPlan}
use Rattle.sva_host_state.proofs.TakenOut.{parts_seen}
use Rattle.sva_host_state.proofs.Units.{unit_rewritten, with_unit_host}
use Rattle.sva_host_state.proofs.Submitting.{room_there, given_there, cookie_low, planned_at, opened_there, asked_some, asked_none, none_yet, all_have}
use Rattle.sva_host_state.proofs.Submitting.{long_so_far, port_now, port_for, part_now, gets, gets_none}
use Rattle.sva_host_state.proofs.unmapping.Plan.submit.Goals as goal
use Rattle.sva_host_state.proofs.unmapping.Plan.submit.Goals.{in-Some, in_default}

pub loop-endpoint-init : goal.loop-endpoint-init
loop-endpoint-init c = (
  λ n plan. c.host.view_is ∙ none_yet c.args.host.now n c.args.page c.args.count c.args.order,
  c.host.invariant,
)

pub index_mut-requires : goal.index_mut-requires
index_mut-requires c =
    let n = c.requires.plan.0 in
    let long = long_so_far c.loop-endpoint.host-inside c.args.host.now n c.args.page c.args.count c.args.order
    c.loop-endpoint.endpoint (c.loop-endpoint.invariant.0 n c.requires.plan.1) in
    let parts = parts_seen c.host.inside c.args.host.now c.host.view_is in
    omega arith

pub submit_ranges-requires-clause-opened : goal.submit_ranges-requires-clause-opened
submit_ranges-requires-clause-opened c =
    let w = c.args.host.now in
    let n = c.requires.plan.0 in
    let plan = c.requires.plan.1 in
    let is = c.loop-endpoint.invariant.0 n plan in
    let e = c.loop-endpoint.endpoint in
    let parts = parts_seen c.host.inside w c.host.view_is in
    let most = c.host.invariant.few in
    let there : e < length w.parts = omega arith in
    let at = port_now c.loop-endpoint.host-inside w n c.args.page c.args.count c.args.order e c.index_mut.result.now
    c.loop-endpoint.invariant.1 is there c.index_mut.ensures.value in
    let asked = asked_some w n e c.in-Some.pasid (sym c.in-Some.is
    ∙ planned_at w n (suc c.args.count) e _ c.args.self.now plan there (omega arith)) in
    ap (λ (p : EndpointWire). p.unit.is_open)
    (part_now c.loop-endpoint.host-inside w n c.args.page c.args.count c.args.order e _ is there at)
    ∙ opened_there w n e asked.0

pub submit_ranges-requires-clause-room : goal.submit_ranges-requires-clause-room
submit_ranges-requires-clause-room c =
    let w = c.args.host.now in
    let n = c.requires.plan.0 in
    let plan = c.requires.plan.1 in
    let is = c.loop-endpoint.invariant.0 n plan in
    let e = c.loop-endpoint.endpoint in
    let parts = parts_seen c.host.inside w c.host.view_is in
    let most = c.host.invariant.few in
    let there : e < length w.parts = omega arith in
    let at = port_now c.loop-endpoint.host-inside w n c.args.page c.args.count c.args.order e c.index_mut.result.now
    c.loop-endpoint.invariant.1 is there c.index_mut.ensures.value in
    let asked = asked_some w n e c.in-Some.pasid (sym c.in-Some.is
    ∙ planned_at w n (suc c.args.count) e _ c.args.self.now plan there (omega arith)) in
    ap (λ (p : EndpointWire). has_room p.unit (suc c.args.count))
    (part_now c.loop-endpoint.host-inside w n c.args.page c.args.count c.args.order e _ is there at)
    ∙ room_there w n (suc c.args.count) e plan.room there asked.0

pub submit_ranges-requires-clause-later : goal.submit_ranges-requires-clause-later
submit_ranges-requires-clause-later c =
    let w = c.args.host.now in
    let n = c.requires.plan.0 in
    let plan = c.requires.plan.1 in
    let is = c.loop-endpoint.invariant.0 n plan in
    let e = c.loop-endpoint.endpoint in
    let parts = parts_seen c.host.inside w c.host.view_is in
    let there : e < length w.parts = omega arith in
    let at = port_now c.loop-endpoint.host-inside w n c.args.page c.args.count c.args.order e c.index_mut.result.now
    c.loop-endpoint.invariant.1 is there c.index_mut.ensures.value in
    let low = given_there w n e c.requires.given there in
    let same = ap (λ (p : EndpointWire). p.unit.waits_end)
    (part_now c.loop-endpoint.host-inside w n c.args.page c.args.count c.args.order e _ is there at) in
    let cookie = ap (λ (u : Wire). u.next_cookie) is in
    omega arith

pub submit_ranges-requires-clause-number : goal.submit_ranges-requires-clause-number
submit_ranges-requires-clause-number c =
    let w = c.args.host.now in
    let n = c.requires.plan.0 in
    let plan = c.requires.plan.1 in
    let is = c.loop-endpoint.invariant.0 n plan in
    let e = c.loop-endpoint.endpoint in
    let parts = parts_seen c.host.inside w c.host.view_is in
    let most = c.host.invariant.few in
    let there : e < length w.parts = omega arith in
    let asked = asked_some w n e c.in-Some.pasid (sym c.in-Some.is
    ∙ planned_at w n (suc c.args.count) e _ c.args.self.now plan there (omega arith)) in
    let low = cookie_low w n e (2 ^ 63) (subst (λ (k : ℕ). w.next_cookie + k ≤ 2 ^ 63) plan.cookies c.requires.cookies) there asked.0 in
    let cookie = ap (λ (u : Wire). u.next_cookie) is in
    omega arith

pub overflow_add-host : goal.overflow_add-host
overflow_add-host c =
    let w = c.args.host.now in
    let n = c.requires.plan.0 in
    let plan = c.requires.plan.1 in
    let is = c.loop-endpoint.invariant.0 n plan in
    let e = c.loop-endpoint.endpoint in
    let parts = parts_seen c.host.inside w c.host.view_is in
    let most = c.host.invariant.few in
    let there : e < length w.parts = omega arith in
    let asked = asked_some w n e c.in-Some.pasid (sym c.in-Some.is
    ∙ planned_at w n (suc c.args.count) e _ c.args.self.now plan there (omega arith)) in
    let low = cookie_low w n e (2 ^ 63) (subst (λ (k : ℕ). w.next_cookie + k ≤ 2 ^ 63) plan.cookies c.requires.cookies) there asked.0 in
    let cookie = ap (λ (u : Wire). u.next_cookie) is in
    omega arith

pub loop-endpoint-preserved : goal.loop-endpoint-preserved
loop-endpoint-preserved c =
    let w = c.args.host.now in
    let n = c.requires.plan.0 in
    let so_far = c.loop-endpoint.invariant.0 n c.requires.plan.1 in
    let e = c.loop-endpoint.endpoint in
    let host = c.loop-endpoint.host-inside in
    let is = c.loop-endpoint.invariant in
    let parts = parts_seen c.host.inside w c.host.view_is in
    let most = c.host.invariant.few in
    let there : e < length w.parts = omega arith in
    let for = port_for host w n c.args.page c.args.count c.args.order e so_far there in
    elim c.match-self-endpoint.branch [
      | in-Some x ↦
          let port : Port = x.index_mut.result.now in
          let at = port_now host w n c.args.page c.args.count c.args.order e x.index_mut.result.now is.1 so_far there
          x.index_mut.ensures.value in
          let asked = λ (m : ℕ) (of : IsPlan w m (suc c.args.count) c.args.self.now). asked_some w m e x.in-Some.pasid (sym x.in-Some.is
          ∙ planned_at w m (suc c.args.count) e _ c.args.self.now of there (omega arith)) in
          let after : UnitSeen → UnitSeen = λ (u : UnitSeen).
          with_unit u (with_descriptors u.unit (descriptors_for x.in-Some.pasid c.args.page c.args.count c.args.order host.next_cookie) host.next_cookie) in
          let rewritten = unit_rewritten host (wire_of host) e e x.index_mut.result.now x.index_mut.result.now
          x.submit_ranges.new.self after refl for x.index_mut.ensures.value x.index_mut.ensures.value x.submit_ranges.ensures in (
            λ m of. ap wire_of x.host-inside-is
                ∙ ap (λ (items : List Port). record (wire_of (record host { next_cookie = host.next_cookie + 1 })) { parts = map part_seen items }) rewritten
                ∙ gets host w m c.args.page c.args.count c.args.order e x.in-Some.pasid port (is.0 m of) there at (asked m of).0 (asked m of).1,
            with_unit_host host c.match-self-endpoint.host-inside e port (after port.unit) is.1 at.sound
                (ap (λ (h : HostState). h.ports.items) x.host-inside-is ∙ rewritten)
                (subst (λ (h : HostState). AreStaged h.bindings) (sym x.host-inside-is) is.1.staged),
          )
      | in_default x ↦ (
        λ m of. ap wire_of x.host-inside-is ∙ is.0 m of
            ∙ gets_none w m c.args.page c.args.count c.args.order e (asked_none w m e (sym x.in_default.is
            ∙ planned_at w m (suc c.args.count) e _ c.args.self.now of there (omega arith))),
        subst IsHostState (sym x.host-inside-is) is.1,
      )
    ]

pub returns : goal.returns
returns c =
    let last = c.loop-endpoint-test.false in
    let most = c.loop-endpoint.auto.endpoint-end in
    let parts = parts_seen c.host.inside c.args.host.now c.host.view_is in
    λ n plan. c.loop-endpoint.invariant.0 n plan
    ∙ all_have c.args.host.now n c.args.page c.args.count c.args.order c.loop-endpoint.endpoint (omega arith)
