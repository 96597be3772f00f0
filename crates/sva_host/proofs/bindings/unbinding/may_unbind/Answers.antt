use Rattle.std.proofs.Common.{◌≡◌, ◌<◌, ◌≤◌, ◌^◌, ap, sym, ◌∙◌, arith}
use Rattle.sva_model.specs.Wire.{Wire}
use Rattle.sva_host_state.proofs.Bound.{binding_at, home_within}
use Rattle.sva_host_state.proofs.TakenOut.{unit_there}
use Rattle.sva_host_state.proofs.Unbinds.{no_such_binding, lost_ends, not_live, in_reset, messages_spent, is_stopped}
use Rattle.sva_host.proofs.bindings.unbinding.may_unbind.Goals as goal

pub returns-in_default : goal.returns-in_default
returns-in_default c =
    no_such_binding c.args.host.now c.args.binding (binding_at c.host.inside c.args.host.now c.args.binding _ c.host.view_is c.in_default.ensures)

pub returns-then-is_lost : goal.returns-then-is_lost
returns-then-is_lost c =
    lost_ends c.args.host.now c.args.binding _ (binding_at c.host.inside c.args.host.now c.args.binding _ c.host.view_is c.in-Some.ensures)
    (sym c.is_lost.ensures ∙ c.if-is_lost.true)

pub returns-then-not-is_live : goal.returns-then-not-is_live
returns-then-not-is_live c =
    not_live c.args.host.now c.args.binding _ (binding_at c.host.inside c.args.host.now c.args.binding _ c.host.view_is c.in-Some.ensures)
    (sym c.is_lost.ensures ∙ c.if-is_lost.false)
    (sym c.is_live.ensures ∙ c.if-not-is_live.true)

pub index-requires : goal.index-requires
index-requires c =
    let within =
    (home_within c.host.inside c.args.host.now c.args.binding _ c.host.view_is c.requires
    (binding_at c.host.inside c.args.host.now c.args.binding _ c.host.view_is c.in-Some.ensures)) in
    omega (arith, within)

pub returns-then-not-is_open : goal.returns-then-not-is_open
returns-then-not-is_open c =
    let found = binding_at c.host.inside c.args.host.now c.args.binding _ c.host.view_is c.in-Some.ensures in
    let unit = unit_there c.host.inside c.args.host.now c.in-Some.place.now.endpoint c.index.result.now c.host.view_is
    (home_within c.host.inside c.args.host.now c.args.binding _ c.host.view_is c.requires found) c.index.ensures in
    in_reset c.args.host.now c.args.binding _ found (sym c.is_lost.ensures ∙ c.if-is_lost.false) (sym c.is_live.ensures ∙ c.if-not-is_live.false)
    (sym (c.is_open.ensures ∙ ap (λ u. u.is_open) unit) ∙ c.if-not-is_open.true)

pub returns-then-left-eq0 : goal.returns-then-left-eq0
returns-then-left-eq0 c =
    let found = binding_at c.host.inside c.args.host.now c.args.binding _ c.host.view_is c.in-Some.ensures in
    let unit = unit_there c.host.inside c.args.host.now c.in-Some.place.now.endpoint c.index.result.now c.host.view_is
    (home_within c.host.inside c.args.host.now c.args.binding _ c.host.view_is c.requires found) c.index.ensures in
    let next : c.host.inside.in_flight.next ≡ c.args.host.now.next_message = ap (λ (w : Wire). w.next_message) c.host.view_is in
    let over : 2 ^ 63 ≤ c.args.host.now.next_message = omega (arith, c.left.ensures.left, c.if-left-eq0.true, next) in
    messages_spent c.args.host.now c.args.binding _ found (sym c.is_lost.ensures ∙ c.if-is_lost.false) (sym c.is_live.ensures ∙ c.if-not-is_live.false)
    (sym (c.is_open.ensures ∙ ap (λ u. u.is_open) unit) ∙ c.if-not-is_open.false) over

pub returns : goal.returns
returns c =
    let found = binding_at c.host.inside c.args.host.now c.args.binding _ c.host.view_is c.in-Some.ensures in
    let unit = unit_there c.host.inside c.args.host.now c.in-Some.place.now.endpoint c.index.result.now c.host.view_is
    (home_within c.host.inside c.args.host.now c.args.binding _ c.host.view_is c.requires found) c.index.ensures in
    let next : c.host.inside.in_flight.next ≡ c.args.host.now.next_message = ap (λ (w : Wire). w.next_message) c.host.view_is in
    let under : c.args.host.now.next_message < 2 ^ 63 = omega (arith, c.left.ensures.left, c.if-left-eq0.false, next) in
    is_stopped c.args.host.now c.args.binding _ found (sym c.is_lost.ensures ∙ c.if-is_lost.false) (sym c.is_live.ensures ∙ c.if-not-is_live.false)
    (sym (c.is_open.ensures ∙ ap (λ u. u.is_open) unit) ∙ c.if-not-is_open.false) under
