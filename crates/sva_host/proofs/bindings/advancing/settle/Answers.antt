use Rattle.std.proofs.Common.{◌≡◌, ap, sym, ◌∙◌, arith}
use Rattle.std.specs.Prelude.{true, false}
use Rattle.sva_model.specs.Wire.{UnitWire}
use Rattle.sva_model.specs.Wire.StageWire.{InvalidatingWire}
use Rattle.sva_labels.specs.Finding.{is_wait_done}
use Rattle.sva_host_state.proofs.Advances.{settles, settling_home, invalidating_there, settled}
use Rattle.sva_host_state.proofs.Bound.{kind_in}
use Rattle.sva_host_state.proofs.Moving.{moved_on}
use Rattle.sva_host_state.proofs.TakenOut.{parts_seen, unit_there}
use Rattle.sva_host.proofs.bindings.advancing.settle.Goals as goal

pub index-requires : goal.index-requires
index-requires c =
    let is = settles c.args.host.now c.requires.may.0 c.args.binding c.args.endpoint c.requires.may.1 c.requires.may.0 in
    let there = settling_home c.args.host.now _ c.args.binding c.args.endpoint c.requires.sound is in
    let long = parts_seen c.host.inside c.args.host.now c.host.view_is in
    omega (arith, there, long)

pub settle-requires : goal.settle-requires
settle-requires c =
    let is = settles c.args.host.now c.requires.may.0 c.args.binding c.args.endpoint c.requires.may.1 c.requires.may.0 in
    kind_in (InvalidatingWire is.cookie) c.args.binding c.host.inside.bindings
    (invalidating_there c.host.inside c.args.host.now _ c.args.binding c.args.endpoint c.host.invariant c.host.view_is is)

-- the wait is done: the state itself doesn't refuse
pub returns-then-not-settle-clause-step : goal.returns-then-not-settle-clause-step
returns-then-not-settle-clause-step c h =
    let is = settles c.args.host.now c.requires.may.0 c.args.binding c.args.endpoint c.requires.may.1 h in
    let there = settling_home c.args.host.now _ c.args.binding c.args.endpoint c.requires.sound is in
    let long = parts_seen c.host.inside c.args.host.now c.host.view_is in
    let unit = unit_there c.host.inside c.args.host.now c.args.endpoint c.index.result.now c.host.view_is
    (omega (arith, there, long)) c.index.ensures in
    let seen = invalidating_there c.host.inside c.args.host.now _ c.args.binding c.args.endpoint c.host.invariant c.host.view_is is in
    let done = ap (λ (u : UnitWire). is_wait_done u is.cookie) unit ∙ is.is_done in
    let wrong : false ≡ true = sym c.if-not-settle.true ∙ c.settle.ensures.due is.cookie seen done in
    absurd (cc)

pub returns-clause-step : goal.returns-clause-step
returns-clause-step c h =
    let is = settles c.args.host.now c.requires.may.0 c.args.binding c.args.endpoint c.requires.may.1 h in
    settled c.host.inside c.args.host.now h c.args.binding c.args.endpoint c.settle.new.bindings c.host.view_is is
    (moved_on c.settle.result _ c.args.binding c.host.inside.bindings c.settle.new.bindings c.settle.ensures.moves c.if-not-settle.false)
