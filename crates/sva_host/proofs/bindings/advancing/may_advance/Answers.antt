use Rattle.std.proofs.Common.{◌≡◌, ◌<◌, ◌≤◌, ◌^◌, ap, sym, ◌∙◌, arith}
use Rattle.std.specs.Prelude.{Ok}
use Rattle.sva_model.specs.Wire.{Wire}
use Rattle.sva_labels.specs.Finding.{has_room}
use Rattle.sva_host_state.specs.Bindings.{stage_or_quiet}
use Rattle.sva_host_state.specs.Advancing.{is_due}
use Rattle.sva_host_state.proofs.Bound.{binding_at, home_within}
use Rattle.sva_host_state.proofs.TakenOut.{unit_there}
use Rattle.sva_host_state.proofs.Advances.{no_such_binding, quiet_goes, in_reset, not_yet, settles_next, queue_full, cookies_spent, goes_on}
use Rattle.sva_host.proofs.bindings.advancing.may_advance.Goals as goal

pub returns-in_default : goal.returns-in_default
returns-in_default c =
    no_such_binding c.args.host.now c.args.groups_open c.args.binding
    (binding_at c.host.inside c.args.host.now c.args.binding _ c.host.view_is c.in_default.ensures)

pub returns-then-is_quiet : goal.returns-then-is_quiet
returns-then-is_quiet c =
    ap Ok c.next_course.ensures
    ∙ quiet_goes c.args.host.now c.args.groups_open c.args.binding _
    (binding_at c.host.inside c.args.host.now c.args.binding _ c.host.view_is c.in-Some.ensures)
    (sym c.is_quiet.ensures ∙ c.if-is_quiet.true)

pub index-requires : goal.index-requires
index-requires c =
    let within =
    (home_within c.host.inside c.args.host.now c.args.binding _ c.host.view_is c.requires
    (binding_at c.host.inside c.args.host.now c.args.binding _ c.host.view_is c.in-Some.ensures)) in
    omega (arith, within)

pub returns-then-not-is_open : goal.returns-then-not-is_open
returns-then-not-is_open c =
    let found = binding_at c.host.inside c.args.host.now c.args.binding _ c.host.view_is c.in-Some.ensures in
    let unit = unit_there c.host.inside c.args.host.now c.in-Some.place.now.endpoint c.index.result.now c.host.view_is
    (home_within c.host.inside c.args.host.now c.args.binding _ c.host.view_is c.requires found) c.index.ensures in
    in_reset c.args.host.now c.args.groups_open c.args.binding _ found
    (sym c.is_quiet.ensures ∙ c.if-is_quiet.false)
    (sym (c.is_open.ensures ∙ ap (λ u. u.is_open) unit) ∙ c.if-not-is_open.true)

pub returns-then-not-is_due : goal.returns-then-not-is_due
returns-then-not-is_due c =
    let found = binding_at c.host.inside c.args.host.now c.args.binding _ c.host.view_is c.in-Some.ensures in
    let unit = unit_there c.host.inside c.args.host.now c.in-Some.place.now.endpoint c.index.result.now c.host.view_is
    (home_within c.host.inside c.args.host.now c.args.binding _ c.host.view_is c.requires found) c.index.ensures in
    not_yet c.args.host.now c.args.groups_open c.args.binding _ found
    (sym c.is_quiet.ensures ∙ c.if-is_quiet.false)
    (sym (c.is_open.ensures ∙ ap (λ u. u.is_open) unit) ∙ c.if-not-is_open.false)
    (sym (c.is_due.ensures ∙ ap (λ u. is_due u c.args.groups_open (stage_or_quiet c.in-Some.place.now.stage)) unit) ∙ c.if-not-is_due.true)

pub returns-then-descriptors-eq0 : goal.returns-then-descriptors-eq0
returns-then-descriptors-eq0 c =
    let found = binding_at c.host.inside c.args.host.now c.args.binding _ c.host.view_is c.in-Some.ensures in
    let unit = unit_there c.host.inside c.args.host.now c.in-Some.place.now.endpoint c.index.result.now c.host.view_is
    (home_within c.host.inside c.args.host.now c.args.binding _ c.host.view_is c.requires found) c.index.ensures in
    ap Ok c.next_course-then-descriptors-eq0.ensures
    ∙ settles_next c.args.host.now c.args.groups_open c.args.binding _ found
    (sym c.is_quiet.ensures ∙ c.if-is_quiet.false)
    (sym (c.is_open.ensures ∙ ap (λ u. u.is_open) unit) ∙ c.if-not-is_open.false)
    (sym (c.is_due.ensures ∙ ap (λ u. is_due u c.args.groups_open (stage_or_quiet c.in-Some.place.now.stage)) unit) ∙ c.if-not-is_due.false)
    (sym c.descriptors_of-descriptors.ensures ∙ c.if-descriptors-eq0.true)

pub returns-then-not-has_room : goal.returns-then-not-has_room
returns-then-not-has_room c =
    let found = binding_at c.host.inside c.args.host.now c.args.binding _ c.host.view_is c.in-Some.ensures in
    let unit = unit_there c.host.inside c.args.host.now c.in-Some.place.now.endpoint c.index.result.now c.host.view_is
    (home_within c.host.inside c.args.host.now c.args.binding _ c.host.view_is c.requires found) c.index.ensures in
    queue_full c.args.host.now c.args.groups_open c.args.binding _ found
    (sym c.is_quiet.ensures ∙ c.if-is_quiet.false)
    (sym (c.is_open.ensures ∙ ap (λ u. u.is_open) unit) ∙ c.if-not-is_open.false)
    (sym (c.is_due.ensures ∙ ap (λ u. is_due u c.args.groups_open (stage_or_quiet c.in-Some.place.now.stage)) unit) ∙ c.if-not-is_due.false)
    (λ none. c.if-descriptors-eq0.false (c.descriptors_of-descriptors.ensures ∙ none))
    (sym (c.has_room.ensures ∙ (λ i. has_room (unit i) (c.descriptors_of-descriptors.ensures i))) ∙ c.if-not-has_room.true)

pub returns-then-host-ge-NUMBERS : goal.returns-then-host-ge-NUMBERS
returns-then-host-ge-NUMBERS c =
    let found = binding_at c.host.inside c.args.host.now c.args.binding _ c.host.view_is c.in-Some.ensures in
    let unit = unit_there c.host.inside c.args.host.now c.in-Some.place.now.endpoint c.index.result.now c.host.view_is
    (home_within c.host.inside c.args.host.now c.args.binding _ c.host.view_is c.requires found) c.index.ensures in
    let next : c.host.inside.next_cookie ≡ c.args.host.now.next_cookie = ap (λ (w : Wire). w.next_cookie) c.host.view_is in
    let over : 2 ^ 63 ≤ c.args.host.now.next_cookie = omega (arith, c.if-host-ge-NUMBERS.true, next) in
    cookies_spent c.args.host.now c.args.groups_open c.args.binding _ found
    (sym c.is_quiet.ensures ∙ c.if-is_quiet.false)
    (sym (c.is_open.ensures ∙ ap (λ u. u.is_open) unit) ∙ c.if-not-is_open.false)
    (sym (c.is_due.ensures ∙ ap (λ u. is_due u c.args.groups_open (stage_or_quiet c.in-Some.place.now.stage)) unit) ∙ c.if-not-is_due.false)
    (λ none. c.if-descriptors-eq0.false (c.descriptors_of-descriptors.ensures ∙ none))
    (sym (c.has_room.ensures ∙ (λ i. has_room (unit i) (c.descriptors_of-descriptors.ensures i))) ∙ c.if-not-has_room.false)
    over

pub returns : goal.returns
returns c =
    let found = binding_at c.host.inside c.args.host.now c.args.binding _ c.host.view_is c.in-Some.ensures in
    let unit = unit_there c.host.inside c.args.host.now c.in-Some.place.now.endpoint c.index.result.now c.host.view_is
    (home_within c.host.inside c.args.host.now c.args.binding _ c.host.view_is c.requires found) c.index.ensures in
    let next : c.host.inside.next_cookie ≡ c.args.host.now.next_cookie = ap (λ (w : Wire). w.next_cookie) c.host.view_is in
    let under : c.args.host.now.next_cookie < 2 ^ 63 = omega (arith, c.if-host-ge-NUMBERS.false, next) in
    ap Ok c.next_course-2.ensures
    ∙ goes_on c.args.host.now c.args.groups_open c.args.binding _ found
    (sym c.is_quiet.ensures ∙ c.if-is_quiet.false)
    (sym (c.is_open.ensures ∙ ap (λ u. u.is_open) unit) ∙ c.if-not-is_open.false)
    (sym (c.is_due.ensures ∙ ap (λ u. is_due u c.args.groups_open (stage_or_quiet c.in-Some.place.now.stage)) unit) ∙ c.if-not-is_due.false)
    (λ none. c.if-descriptors-eq0.false (c.descriptors_of-descriptors.ensures ∙ none))
    (sym (c.has_room.ensures ∙ (λ i. has_room (unit i) (c.descriptors_of-descriptors.ensures i))) ∙ c.if-not-has_room.false)
    under
