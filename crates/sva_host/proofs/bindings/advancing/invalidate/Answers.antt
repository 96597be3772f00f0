use Rattle.std.proofs.Common.{◌≡◌, ℕ, refl, ap, sym, ◌∙◌, arith}
use Rattle.std.specs.Prelude.{true, false, not, [], ◌∷◌}
use Rattle.sva_model.specs.Wire.{Wire, UnitWire}
use Rattle.sva_model.specs.Wire.StageWire.{DrainingWire, InvalidatingWire}
use Rattle.sva_model.specs.Wire.Descriptor.{PasidDescriptor, WaitDescriptor}
use Rattle.sva_labels.specs.Finding.{has_room, is_wait_done}
use Rattle.sva_labels.specs.Moves.{with_descriptors}
use Rattle.sva_iommu.specs.Seen.{UnitSeen, with_unit}
use Rattle.sva_host_state.proofs.Advances.{invalidates, home_is, port_for, seen_there, submitted}
use Rattle.sva_host_state.proofs.Bound.{kind_in}
use Rattle.sva_host_state.proofs.Moving.{moved_on, if_staged}
use Rattle.sva_host_state.proofs.Ports.{port_found}
use Rattle.sva_host_state.proofs.TakenOut.{parts_seen, unit_there}
use Rattle.sva_host_state.proofs.Units.{unit_rewritten, with_unit_host}
use Rattle.sva_host.proofs.bindings.advancing.invalidate.Goals as goal

pub index_mut-requires : goal.index_mut-requires
index_mut-requires c =
    let all = invalidates c.args.host.now c.args.groups_open c.args.binding c.args.endpoint c.args.pasid c.requires.may in
    let is = all.submits in
    let there = home_is c.args.host.now _ c.args.binding c.args.endpoint _ _ _ _ c.requires.sound is in
    let long = parts_seen c.host.inside c.args.host.now c.host.view_is in
    omega (arith, there, long)

pub submit_pasid-requires-clause-opened : goal.submit_pasid-requires-clause-opened
submit_pasid-requires-clause-opened c =
    let all = invalidates c.args.host.now c.args.groups_open c.args.binding c.args.endpoint c.args.pasid c.requires.may in
    let is = all.submits in
    let there = home_is c.args.host.now _ c.args.binding c.args.endpoint _ _ _ _ c.requires.sound is in
    let long = parts_seen c.host.inside c.args.host.now c.host.view_is in
    let unit = unit_there c.host.inside c.args.host.now c.args.endpoint c.index_mut.result.now c.host.view_is
    (omega (arith, there, long)) c.index_mut.ensures.value in
    ap (λ (u : UnitWire). u.is_open) unit ∙ is.is_open

pub submit_pasid-requires-clause-room : goal.submit_pasid-requires-clause-room
submit_pasid-requires-clause-room c =
    let all = invalidates c.args.host.now c.args.groups_open c.args.binding c.args.endpoint c.args.pasid c.requires.may in
    let is = all.submits in
    let there = home_is c.args.host.now _ c.args.binding c.args.endpoint _ _ _ _ c.requires.sound is in
    let long = parts_seen c.host.inside c.args.host.now c.host.view_is in
    let unit = unit_there c.host.inside c.args.host.now c.args.endpoint c.index_mut.result.now c.host.view_is
    (omega (arith, there, long)) c.index_mut.ensures.value in
    ap (λ (u : UnitWire). has_room u 2) unit ∙ is.room

pub submit_pasid-requires-clause-later : goal.submit_pasid-requires-clause-later
submit_pasid-requires-clause-later c =
    let all = invalidates c.args.host.now c.args.groups_open c.args.binding c.args.endpoint c.args.pasid c.requires.may in
    let is = all.submits in
    let there = home_is c.args.host.now _ c.args.binding c.args.endpoint _ _ _ _ c.requires.sound is in
    let long = parts_seen c.host.inside c.args.host.now c.host.view_is in
    let unit = unit_there c.host.inside c.args.host.now c.args.endpoint c.index_mut.result.now c.host.view_is
    (omega (arith, there, long)) c.index_mut.ensures.value in
    let next : c.host.inside.next_cookie ≡ c.args.host.now.next_cookie = ap (λ (w : Wire). w.next_cookie) c.host.view_is in
    let low = c.requires.sound.waits_given c.args.endpoint there in
    let same = ap (λ (u : UnitWire). u.waits_end) unit in
    omega (arith, low, same, next)

pub submit_pasid-requires-clause-number : goal.submit_pasid-requires-clause-number
submit_pasid-requires-clause-number c =
    let all = invalidates c.args.host.now c.args.groups_open c.args.binding c.args.endpoint c.args.pasid c.requires.may in
    let is = all.submits in
    let next : c.host.inside.next_cookie ≡ c.args.host.now.next_cookie = ap (λ (w : Wire). w.next_cookie) c.host.view_is in
    omega (arith, is.cookies, next)

pub invalidate-requires : goal.invalidate-requires
invalidate-requires c =
    let all = invalidates c.args.host.now c.args.groups_open c.args.binding c.args.endpoint c.args.pasid c.requires.may in
    let is = all.submits in
    kind_in (DrainingWire all.cookie) c.args.binding c.host.inside.bindings
    (seen_there c.host.inside c.args.host.now _ c.args.binding c.args.endpoint _ _ _ _ c.host.invariant c.host.view_is is)

pub index-requires : goal.index-requires
index-requires c =
    let all = invalidates c.args.host.now c.args.groups_open c.args.binding c.args.endpoint c.args.pasid c.requires.may in
    let is = all.submits in
    let there = home_is c.args.host.now _ c.args.binding c.args.endpoint _ _ _ _ c.requires.sound is in
    let long = parts_seen c.host.inside c.args.host.now c.host.view_is in
    omega (arith, there, long)

-- the wait is done and no group is open: the state itself doesn't refuse
pub returns-then-not-invalidate-clause-step : goal.returns-then-not-invalidate-clause-step
returns-then-not-invalidate-clause-step c =
    let all = invalidates c.args.host.now c.args.groups_open c.args.binding c.args.endpoint c.args.pasid c.requires.may in
    let is = all.submits in
    let there = home_is c.args.host.now _ c.args.binding c.args.endpoint _ _ _ _ c.requires.sound is in
    let long = parts_seen c.host.inside c.args.host.now c.host.view_is in
    let unit = unit_there c.host.inside c.args.host.now c.args.endpoint c.index.result.now c.host.view_is
    (omega (arith, there, long)) c.index.ensures in
    let seen = seen_there c.host.inside c.args.host.now _ c.args.binding c.args.endpoint _ _ _ _ c.host.invariant c.host.view_is is in
    let done = ap (λ (u : UnitWire). is_wait_done u all.cookie) unit ∙ all.is_done in
    let wrong : false ≡ true = sym c.if-not-invalidate.true ∙ c.invalidate.ensures.due all.cookie seen done ∙ ap not all.closed in
    absurd (cc)

pub invariant_of-host : goal.invariant_of-host
invariant_of-host c =
    record {
      few = c.host.invariant.few;
      sound = c.host.invariant.sound;
      staged = if_staged c.invalidate.result _ c.args.binding c.host.inside.bindings c.invalidate.new.bindings
          c.invalidate.ensures.moves c.host.invariant.staged;
    }

pub invariant_of-host-2 : goal.invariant_of-host-2
invariant_of-host-2 c =
    let all = invalidates c.args.host.now c.args.groups_open c.args.binding c.args.endpoint c.args.pasid c.requires.may in
    let is = all.submits in
    let for = port_for c.args.host.now _ c.args.binding c.args.endpoint _ _ _ _ c.requires.sound is in
    let port = port_found c.host.inside c.args.host.now c.args.endpoint c.args.endpoint c.index_mut.result.now
    c.host.invariant c.host.view_is for c.index_mut.ensures.value in
    let change = λ (u : UnitSeen). with_unit u
    (with_descriptors u.unit (PasidDescriptor c.args.pasid ∷ WaitDescriptor c.host.inside.next_cookie false ∷ []) c.host.inside.next_cookie) in
    let written = unit_rewritten c.host.inside c.args.host.now c.args.endpoint c.args.endpoint c.index_mut.result.now
    c.index_mut.result.now c.submit_pasid.new.self change c.host.view_is for
    c.index_mut.ensures.value c.index_mut.ensures.value c.submit_pasid.ensures in
    with_unit_host c.host.inside _ c.args.endpoint c.index_mut.result.now _
    c.host.invariant port.sound written
    (if_staged c.invalidate.result _ c.args.binding c.host.inside.bindings c.invalidate.new.bindings c.invalidate.ensures.moves c.host.invariant.staged)

pub returns-clause-step : goal.returns-clause-step
returns-clause-step c =
    let all = invalidates c.args.host.now c.args.groups_open c.args.binding c.args.endpoint c.args.pasid c.requires.may in
    let is = all.submits in
    let for = port_for c.args.host.now _ c.args.binding c.args.endpoint _ _ _ _ c.requires.sound is in
    let port = port_found c.host.inside c.args.host.now c.args.endpoint c.args.endpoint c.index_mut.result.now
    c.host.invariant c.host.view_is for c.index_mut.ensures.value in
    let change = λ (u : UnitSeen). with_unit u
    (with_descriptors u.unit (PasidDescriptor c.args.pasid ∷ WaitDescriptor c.host.inside.next_cookie false ∷ []) c.host.inside.next_cookie) in
    let written = unit_rewritten c.host.inside c.args.host.now c.args.endpoint c.args.endpoint c.index_mut.result.now
    c.index_mut.result.now c.submit_pasid.new.self change c.host.view_is for
    c.index_mut.ensures.value c.index_mut.ensures.value c.submit_pasid.ensures in
    submitted c.host.inside c.args.host.now _ c.args.binding c.args.endpoint _ _ _ _ (λ (k : ℕ). PasidDescriptor c.args.pasid ∷ WaitDescriptor k false
    ∷ []) InvalidatingWire
    c.index_mut.result.now _ c.invalidate.new.bindings c.host.view_is is port
    written
    (moved_on c.invalidate.result _ c.args.binding c.host.inside.bindings c.invalidate.new.bindings c.invalidate.ensures.moves c.if-not-invalidate.false)
    (λ w. refl)
