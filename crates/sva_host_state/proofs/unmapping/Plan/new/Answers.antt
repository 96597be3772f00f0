use Rattle.std.proofs.Common.{◌≡◌, ◌∙◌, ◌<◌, ap, refl, sym, arith}
use Rattle.std.specs.Prelude.{◌&&◌, None, Some, length}
use Rattle.sva_model.specs.Wire.{Wire}
use Rattle.sva_labels.specs.Finding.{has_room, is_before_invalidating}
use Rattle.sva_labels.specs.Moves.{pasid_or_0}
use Rattle.sva_labels.proofs.Tests.{and_no}
use Rattle.sva_parts_by_labels.specs.Bindings.{stage_or_quiet}
use Rattle.sva_host_state.specs.declared.unmapping.Plan.{Plan}
use Rattle.sva_host_state.specs.Unmapping.{target_at}
use Rattle.sva_host_state.proofs.TakenOut.{parts_seen, unit_there, bound_there}
use Rattle.sva_host_state.proofs.Planning.{nothing_yet, few_cookies, target_is, submits_there, starts, unbound, IsNoted, awaits, awaits_nothing, asks, asks_not}
use Rattle.sva_host_state.proofs.Planning.{no_room}
use Rattle.sva_host_state.proofs.unmapping.Plan.new.Goals as goal
use Rattle.sva_host_state.proofs.unmapping.Plan.new.Goals.{in-Some-target_of, in_default-target_of}
use Rattle.sva_host_state.proofs.unmapping.Plan.new.Goals.{then-is_open+then-is_before_invalidating+else-not-has_room, else-is_open}
use Rattle.sva_host_state.proofs.unmapping.Plan.new.Goals.{else-is_open-via-then-is_open+else-is_before_invalidating, else-is_open-via-else-is_open}

pub loop-endpoint-init : goal.loop-endpoint-init
loop-endpoint-init c = starts c.args.host.now c.args.space c.args.descriptors _ refl c.new.ensures refl

pub loop-endpoint-preserved-in_default : goal.loop-endpoint-preserved-in_default
loop-endpoint-preserved-in_default c =
    unbound c.args.host.now c.args.space c.args.descriptors c.loop-endpoint.endpoint c.loop-endpoint.plan c.loop-endpoint.invariant
    (sym (bound_there c.host.inside c.args.host.now c.loop-endpoint.endpoint c.args.space None c.host.view_is c.in_default.ensures))

pub overflow_add-host-inside : goal.overflow_add-host-inside
overflow_add-host-inside c =
    let most = c.host.invariant.few in
    let few = few_cookies c.args.host.now c.args.space c.args.descriptors c.loop-endpoint.endpoint c.loop-endpoint.plan c.loop-endpoint.invariant in
    let is = ap (λ (w : Wire). w.next_cookie) c.host.view_is in
    let low = c.requires.cookies in
    omega arith

pub push-requires : goal.push-requires
push-requires c =
    let most = c.host.invariant.few in
    nothing_yet (target_at c.args.host.now c.args.space) c.loop-endpoint.plan.waits c.loop-endpoint.endpoint c.loop-endpoint.invariant.waits (omega arith)

pub returns-then-not-has_room : goal.returns-then-not-has_room
returns-then-not-has_room c =
    let e = c.loop-endpoint.endpoint in
    let ports = parts_seen c.host.inside c.args.host.now c.host.view_is in
    let within : e < length c.host.inside.ports.items = omega arith in
    let unit = unit_there c.host.inside c.args.host.now e c.index.result.now c.host.view_is within c.index.ensures in
    let gets = sym (submits_there c.host.inside c.args.host.now e c.args.space c.index.result.now c.in-Some.place.now
    c.is_open.result c.is_before_invalidating.result c.host.view_is within c.index.ensures c.in-Some.ensures c.is_open.ensures
    c.is_before_invalidating.ensures) ∙ (λ i. c.if-is_open.true i && c.if-is_before_invalidating.true i) in
    no_room c.args.host.now c.args.space c.args.descriptors e (omega arith) gets
    (sym (c.has_room.ensures ∙ ap (λ u. has_room u c.args.descriptors) unit) ∙ c.if-not-has_room.true)

pub overflow_add-plan : goal.overflow_add-plan
overflow_add-plan c =
    let most = c.host.invariant.few in
    let few = few_cookies c.args.host.now c.args.space c.args.descriptors c.loop-endpoint.endpoint c.loop-endpoint.plan c.loop-endpoint.invariant in
    let same : c.match-target_of.plan.cookies ≡ c.loop-endpoint.plan.cookies =
    elim c.match-target_of.branch [
      | in-Some-target_of w ↦ ap (λ (p : Plan). p.cookies) w.plan-is
      | in_default-target_of w ↦ ap (λ (p : Plan). p.cookies) w.plan-is
    ] in
    omega arith

pub loop-endpoint-preserved : goal.loop-endpoint-preserved
loop-endpoint-preserved c =
    let v = c.args.host.now in
    let n = c.args.space in
    let e = c.loop-endpoint.endpoint in
    let plan = c.loop-endpoint.plan in
    let is = c.loop-endpoint.invariant in
    let within : e < length c.host.inside.ports.items = omega arith in
    let unit = unit_there c.host.inside v e c.index.result.now c.host.view_is within c.index.ensures in
    let target = target_is c.host.inside v e n plan.cookies c.host.inside.next_cookie c.index.result.now
    c.in-Some.place.now c.host.view_is within c.index.ensures c.in-Some.ensures refl is.cookies in
    let noted : IsNoted v n e plan c.match-target_of.plan =
    elim c.match-target_of.branch [
      | in-Some-target_of w ↦ awaits v n e plan c.match-target_of.plan w.in-Some-target_of.target w.push.new.self is.waits
          (w.in-Some-target_of.ensures ∙ target) w.plan-is w.push.ensures
      | in_default-target_of w ↦ awaits_nothing v n e plan c.match-target_of.plan is.waits (w.in_default-target_of.ensures ∙ target) w.plan-is
    ] in
    elim c.if-is_open.branch [
      | then-is_open+then-is_before_invalidating+else-not-has_room w ↦ asks v n c.args.descriptors e c.in-Some.place.now.pasid plan
          c.match-target_of.plan c.if-is_open.plan is noted
          (sym (submits_there c.host.inside v e n c.index.result.now c.in-Some.place.now
          c.is_open.result w.is_before_invalidating.result c.host.view_is within c.index.ensures c.in-Some.ensures c.is_open.ensures
          w.is_before_invalidating.ensures) ∙ (λ i. w.if-is_open.true i && w.if-is_before_invalidating.true i))
          (sym (w.has_room.ensures ∙ ap (λ u. has_room u c.args.descriptors) unit) ∙ w.if-not-has_room.false)
          (ap pasid_or_0 (bound_there c.host.inside v e n (Some c.in-Some.place.now) c.host.view_is c.in-Some.ensures))
          w.plan-is
      | else-is_open w ↦ asks_not v n c.args.descriptors e plan c.match-target_of.plan c.if-is_open.plan is noted
          (elim w.else-is_open.branch [
            | else-is_open-via-then-is_open+else-is_before_invalidating x ↦
                sym (submits_there c.host.inside v e n c.index.result.now c.in-Some.place.now
                c.is_open.result x.is_before_invalidating.result c.host.view_is within c.index.ensures c.in-Some.ensures c.is_open.ensures
                x.is_before_invalidating.ensures) ∙ ap (λ b. c.is_open.result && b) x.if-is_before_invalidating.false ∙ and_no c.is_open.result
            | else-is_open-via-else-is_open x ↦
                sym (submits_there c.host.inside v e n c.index.result.now c.in-Some.place.now
                c.is_open.result (is_before_invalidating (stage_or_quiet c.in-Some.place.now.stage)) c.host.view_is within c.index.ensures
                c.in-Some.ensures c.is_open.ensures refl)
                ∙ ap (λ b. b && is_before_invalidating (stage_or_quiet c.in-Some.place.now.stage)) x.if-is_open.false
          ]) w.plan-is
    ]
