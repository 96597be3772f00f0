use Rattle.std.proofs.Common.{sym, ap, ◌∙◌, ◌≤◌, ◌<◌, ◌^◌, arith}
use Rattle.std.specs.Prelude.{is_some, is_none, not}
use Rattle.sva_host_state.proofs.Binds.{can_bind, some_mapped, already_bound, out_of_pasids, bindings_spent, messages_spent, binds}
use Rattle.sva_host.proofs.bindings.bindings.may_bind.Goals as goal

pub returns-then-is_some : goal.returns-then-is_some
returns-then-is_some c =
    already_bound c.host.inside _ c.args.endpoint c.args.space c.host.view_is
    (can_bind c.host.inside _ c.args.endpoint c.args.space c.in_ok-at.at c.index.result.now _ _ c.host.invariant
    c.host.view_is c.in_ok-at.ensures c.index.ensures c.has_space.ensures c.if-not-has_space.false c.is_open.ensures c.if-not-is_open.false)
    (sym (ap is_some c.place_between.ensures) ∙ some_mapped _ c.place_between.result ∙ sym c.is_some.ensures ∙ c.if-is_some.true)

pub returns-then-is_none : goal.returns-then-is_none
returns-then-is_none c =
    out_of_pasids c.host.inside _ c.args.endpoint c.args.space c.host.view_is
    (can_bind c.host.inside _ c.args.endpoint c.args.space c.in_ok-at.at c.index.result.now _ _ c.host.invariant
    c.host.view_is c.in_ok-at.ensures c.index.ensures c.has_space.ensures c.if-not-has_space.false c.is_open.ensures c.if-not-is_open.false)
    (sym (ap is_some c.place_between.ensures) ∙ some_mapped _ c.place_between.result ∙ sym c.is_some.ensures ∙ c.if-is_some.false)
    (ap is_none (sym c.lowest.ensures.value) ∙ ap not c.is_none.ensures ∙ ap (λ b. not (not b)) c.if-is_none.true)

pub returns-then-host-ge-NUMBERS : goal.returns-then-host-ge-NUMBERS
returns-then-host-ge-NUMBERS c =
    let over : 2 ^ 63 ≤ c.host.inside.next_binding = omega (arith, c.if-host-ge-NUMBERS.true) in
    bindings_spent c.host.inside _ c.args.endpoint c.args.space c.host.view_is
    (can_bind c.host.inside _ c.args.endpoint c.args.space c.in_ok-at.at c.index.result.now _ _ c.host.invariant
    c.host.view_is c.in_ok-at.ensures c.index.ensures c.has_space.ensures c.if-not-has_space.false c.is_open.ensures c.if-not-is_open.false)
    (sym (ap is_some c.place_between.ensures) ∙ some_mapped _ c.place_between.result ∙ sym c.is_some.ensures ∙ c.if-is_some.false)
    (ap is_none (sym c.lowest.ensures.value) ∙ ap not c.is_none.ensures ∙ ap (λ b. not (not b)) c.if-is_none.false) over

pub returns-then-left-eq0 : goal.returns-then-left-eq0
returns-then-left-eq0 c =
    let under : c.host.inside.next_binding < 2 ^ 63 = omega (arith, c.if-host-ge-NUMBERS.false) in
    let over : 2 ^ 63 ≤ c.host.inside.in_flight.next = omega (arith, c.left.ensures.left, c.if-left-eq0.true) in
    messages_spent c.host.inside _ c.args.endpoint c.args.space c.host.view_is
    (can_bind c.host.inside _ c.args.endpoint c.args.space c.in_ok-at.at c.index.result.now _ _ c.host.invariant
    c.host.view_is c.in_ok-at.ensures c.index.ensures c.has_space.ensures c.if-not-has_space.false c.is_open.ensures c.if-not-is_open.false)
    (sym (ap is_some c.place_between.ensures) ∙ some_mapped _ c.place_between.result ∙ sym c.is_some.ensures ∙ c.if-is_some.false)
    (ap is_none (sym c.lowest.ensures.value) ∙ ap not c.is_none.ensures ∙ ap (λ b. not (not b)) c.if-is_none.false) under over

pub returns : goal.returns
returns c =
    let under : c.host.inside.next_binding < 2 ^ 63 = omega (arith, c.if-host-ge-NUMBERS.false) in
    let less : c.host.inside.in_flight.next < 2 ^ 63 = omega (arith, c.left.ensures.left, c.if-left-eq0.false) in
    binds c.host.inside _ c.args.endpoint c.args.space c.host.view_is
    (can_bind c.host.inside _ c.args.endpoint c.args.space c.in_ok-at.at c.index.result.now _ _ c.host.invariant
    c.host.view_is c.in_ok-at.ensures c.index.ensures c.has_space.ensures c.if-not-has_space.false c.is_open.ensures c.if-not-is_open.false)
    (sym (ap is_some c.place_between.ensures) ∙ some_mapped _ c.place_between.result ∙ sym c.is_some.ensures ∙ c.if-is_some.false)
    (ap is_none (sym c.lowest.ensures.value) ∙ ap not c.is_none.ensures ∙ ap (λ b. not (not b)) c.if-is_none.false) under less
