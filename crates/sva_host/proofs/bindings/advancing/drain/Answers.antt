use Rattle.std.proofs.Common.{◌≡◌, ℕ, refl, ap, sym, ◌∙◌, arith}
use Rattle.std.specs.Prelude.{true, false, [], ◌∷◌}
use Rattle.sva_model.specs.Wire.{Wire, UnitWire}
use Rattle.sva_model.specs.Wire.StageWire.{StoppingWire, DrainingWire}
use Rattle.sva_model.specs.Wire.Descriptor.{WaitDescriptor}
use Rattle.sva_labels.specs.Finding.{has_room}
use Rattle.sva_labels.specs.Moves.{with_descriptors}
use Rattle.sva_iommu.specs.Seen.{UnitSeen, with_unit}
use Rattle.sva_host_state.proofs.Advances.{drains, home_is, port_for, seen_there, submitted}
use Rattle.sva_host_state.proofs.Bound.{kind_in}
use Rattle.sva_host_state.proofs.Moving.{marked_not_noted, moved_on, if_staged}
use Rattle.sva_host_state.proofs.Ports.{port_found}
use Rattle.sva_host_state.proofs.TakenOut.{parts_seen, unit_there}
use Rattle.sva_host_state.proofs.Units.{unit_rewritten, with_unit_host}
use Rattle.sva_host.proofs.bindings.advancing.drain.Goals as goal

pub index_mut-requires : goal.index_mut-requires
index_mut-requires c =
    let is = drains c.args.host.now c.requires.may.0 c.args.binding c.args.endpoint c.requires.may.1 c.requires.may.0 in
    let there = home_is c.args.host.now _ c.args.binding c.args.endpoint _ _ _ _ c.requires.sound is in
    let long = parts_seen c.host.inside c.args.host.now c.host.view_is in
    omega (arith, there, long)

pub submit_drain-requires-clause-opened : goal.submit_drain-requires-clause-opened
submit_drain-requires-clause-opened c =
    let is = drains c.args.host.now c.requires.may.0 c.args.binding c.args.endpoint c.requires.may.1 c.requires.may.0 in
    let there = home_is c.args.host.now _ c.args.binding c.args.endpoint _ _ _ _ c.requires.sound is in
    let long = parts_seen c.host.inside c.args.host.now c.host.view_is in
    let unit = unit_there c.host.inside c.args.host.now c.args.endpoint c.index_mut.result.now c.host.view_is
    (omega (arith, there, long)) c.index_mut.ensures.value in
    ap (λ (u : UnitWire). u.is_open) unit ∙ is.is_open

pub submit_drain-requires-clause-room : goal.submit_drain-requires-clause-room
submit_drain-requires-clause-room c =
    let is = drains c.args.host.now c.requires.may.0 c.args.binding c.args.endpoint c.requires.may.1 c.requires.may.0 in
    let there = home_is c.args.host.now _ c.args.binding c.args.endpoint _ _ _ _ c.requires.sound is in
    let long = parts_seen c.host.inside c.args.host.now c.host.view_is in
    let unit = unit_there c.host.inside c.args.host.now c.args.endpoint c.index_mut.result.now c.host.view_is
    (omega (arith, there, long)) c.index_mut.ensures.value in
    ap (λ (u : UnitWire). has_room u 1) unit ∙ is.room

pub submit_drain-requires-clause-later : goal.submit_drain-requires-clause-later
submit_drain-requires-clause-later c =
    let is = drains c.args.host.now c.requires.may.0 c.args.binding c.args.endpoint c.requires.may.1 c.requires.may.0 in
    let there = home_is c.args.host.now _ c.args.binding c.args.endpoint _ _ _ _ c.requires.sound is in
    let long = parts_seen c.host.inside c.args.host.now c.host.view_is in
    let unit = unit_there c.host.inside c.args.host.now c.args.endpoint c.index_mut.result.now c.host.view_is
    (omega (arith, there, long)) c.index_mut.ensures.value in
    let next : c.host.inside.next_cookie ≡ c.args.host.now.next_cookie = ap (λ (w : Wire). w.next_cookie) c.host.view_is in
    let low = c.requires.sound.waits_given c.args.endpoint there in
    let same = ap (λ (u : UnitWire). u.waits_end) unit in
    omega (arith, low, same, next)

pub submit_drain-requires-clause-number : goal.submit_drain-requires-clause-number
submit_drain-requires-clause-number c =
    let is = drains c.args.host.now c.requires.may.0 c.args.binding c.args.endpoint c.requires.may.1 c.requires.may.0 in
    let next : c.host.inside.next_cookie ≡ c.args.host.now.next_cookie = ap (λ (w : Wire). w.next_cookie) c.host.view_is in
    omega (arith, is.cookies, next)

pub drain-requires : goal.drain-requires
drain-requires c =
    let is = drains c.args.host.now c.requires.may.0 c.args.binding c.args.endpoint c.requires.may.1 c.requires.may.0 in
    kind_in (StoppingWire true) c.args.binding c.host.inside.bindings
    (seen_there c.host.inside c.args.host.now _ c.args.binding c.args.endpoint _ _ _ _ c.host.invariant c.host.view_is is)

-- the marker is noted: the state itself doesn't refuse
pub returns-then-not-drain-clause-step : goal.returns-then-not-drain-clause-step
returns-then-not-drain-clause-step c h =
    let is = drains c.args.host.now c.requires.may.0 c.args.binding c.args.endpoint c.requires.may.1 c.requires.may.0 in
    let seen = seen_there c.host.inside c.args.host.now _ c.args.binding c.args.endpoint _ _ _ _ c.host.invariant c.host.view_is is in
    let wrong : false ≡ true = sym c.if-not-drain.true ∙ marked_not_noted c.drain.result c.args.binding c.host.inside.bindings c.drain.ensures.noted seen in
    absurd (cc)

pub invariant_of-host : goal.invariant_of-host
invariant_of-host c =
    record {
      few = c.host.invariant.few;
      sound = c.host.invariant.sound;
      staged = if_staged c.drain.result _ c.args.binding c.host.inside.bindings c.drain.new.bindings c.drain.ensures.moves c.host.invariant.staged;
    }

pub invariant_of-host-2 : goal.invariant_of-host-2
invariant_of-host-2 c =
    let is = drains c.args.host.now c.requires.may.0 c.args.binding c.args.endpoint c.requires.may.1 c.requires.may.0 in
    let for = port_for c.args.host.now _ c.args.binding c.args.endpoint _ _ _ _ c.requires.sound is in
    let port = port_found c.host.inside c.args.host.now c.args.endpoint c.args.endpoint c.index_mut.result.now
    c.host.invariant c.host.view_is for c.index_mut.ensures.value in
    let change = λ (u : UnitSeen). with_unit u (with_descriptors u.unit (WaitDescriptor c.host.inside.next_cookie true ∷ [])
    c.host.inside.next_cookie) in
    let written = unit_rewritten c.host.inside c.args.host.now c.args.endpoint c.args.endpoint c.index_mut.result.now
    c.index_mut.result.now c.submit_drain.new.self change c.host.view_is for
    c.index_mut.ensures.value c.index_mut.ensures.value c.submit_drain.ensures in
    with_unit_host c.host.inside _ c.args.endpoint c.index_mut.result.now _
    c.host.invariant port.sound written
    (if_staged c.drain.result _ c.args.binding c.host.inside.bindings c.drain.new.bindings c.drain.ensures.moves c.host.invariant.staged)

pub returns-clause-step : goal.returns-clause-step
returns-clause-step c h =
    let is = drains c.args.host.now c.requires.may.0 c.args.binding c.args.endpoint c.requires.may.1 h in
    let for = port_for c.args.host.now _ c.args.binding c.args.endpoint _ _ _ _ c.requires.sound is in
    let port = port_found c.host.inside c.args.host.now c.args.endpoint c.args.endpoint c.index_mut.result.now
    c.host.invariant c.host.view_is for c.index_mut.ensures.value in
    let change = λ (u : UnitSeen). with_unit u (with_descriptors u.unit (WaitDescriptor c.host.inside.next_cookie true ∷ [])
    c.host.inside.next_cookie) in
    let written = unit_rewritten c.host.inside c.args.host.now c.args.endpoint c.args.endpoint c.index_mut.result.now
    c.index_mut.result.now c.submit_drain.new.self change c.host.view_is for
    c.index_mut.ensures.value c.index_mut.ensures.value c.submit_drain.ensures in
    submitted c.host.inside c.args.host.now h c.args.binding c.args.endpoint _ _ _ _ (λ (k : ℕ). WaitDescriptor k true ∷ []) DrainingWire
    c.index_mut.result.now _ c.drain.new.bindings c.host.view_is is port written
    (moved_on c.drain.result _ c.args.binding c.host.inside.bindings c.drain.new.bindings c.drain.ensures.moves c.if-not-drain.false) (λ w. refl)
