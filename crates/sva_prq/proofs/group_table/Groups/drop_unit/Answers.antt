use Rattle.std.proofs.Common.{◌+◌, ap, ◌∙◌, arith}
use Rattle.sva_prq.specs.Groups.{without_unit}
use Rattle.sva_prq.proofs.Slots.{kept-dropped, groups-dropped, counted}
use Rattle.sva_prq.proofs.group_table.Groups.drop_unit.Goals as goal

pub room_after-self-inside-requires : goal.room_after-self-inside-requires
room_after-self-inside-requires c =
    let count = c.take_unit-gone.ensures.count in
    let capacity = c.take_unit-gone.ensures.capacity in
    let fits = c.self.invariant.1 in
    omega (arith, count, capacity, fits)

pub invariant_of-self : goal.invariant_of-self
invariant_of-self c =
    let count = c.take_unit-gone.ensures.count in
    let capacity = c.take_unit-gone.ensures.capacity in
    let room = c.room_after-self-inside.ensures in
    let fits = c.self.invariant.1 in (
      kept-dropped _ _ c.self.inside.cells c.self.inside.next c.args.unit c.self.invariant.0 c.take_unit-gone.ensures.gone c.take_unit-gone.ensures.kept,
      omega (arith, count, capacity, room, fits),
    )

pub returns : goal.returns
returns c =
    let old = c.self.inside.slots.slots in
    let new = c.take_unit-gone.new.slots.slots in
    let groups = groups-dropped old new c.self.inside.cells c.self.inside.next c.args.unit c.self.invariant.0 c.take_unit-gone.ensures.gone
    c.take_unit-gone.ensures.kept in
    let count = counted old new c.args.unit c.take_unit-gone.result groups c.take_unit-gone.ensures.count in
    (λ i. record { groups = groups i; room = (c.room_after-self-inside.ensures ∙ ap (λ n. c.self.inside.room + n) count) i; next = c.self.inside.next })
    ∙ ap (λ s. without_unit s c.args.unit) c.self.view_is
