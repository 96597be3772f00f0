use Rattle.std.proofs.Common.{sym, ◌∙◌, arith}
use Rattle.sva_prq.specs.Groups.{Groups, has_job, after_answer}
use Rattle.sva_prq.specs.Slots.{groups_in}
use Rattle.sva_prq.proofs.Slots.{passing_at, failing_at, any_at, none_in, kept-removed, groups-answered}
use Rattle.sva_prq.proofs.Searches.{answered-some, answered-none}
use Rattle.sva_prq.proofs.group_table.Groups.answered.Goals as goal

pub room_after-self-inside-requires : goal.room_after-self-inside-requires
room_after-self-inside-requires c =
    let len = c.remove.ensures.len in
    let capacity = c.remove.ensures.capacity in
    let fits = c.self.invariant.1 in
    omega (arith, len, capacity, fits)

pub invariant_of-self : goal.invariant_of-self
invariant_of-self c =
    let there = passing_at _ _ c.in-Some.ensures.found in
    let updates = c.remove.ensures.updates in
    let len = c.remove.ensures.len in
    let capacity = c.remove.ensures.capacity in
    let room = c.room_after-self-inside.ensures in
    let fits = c.self.invariant.1 in (
      kept-removed _ _ c.self.inside.cells c.self.inside.next c.self.invariant.0 c.in-Some.key there.0 there.1 updates.others updates.changed,
      omega (arith, len, capacity, room, fits),
    )

pub returns-in-Some : goal.returns-in-Some
returns-in-Some c =
    let old = c.self.inside.slots.slots in
    let s : Groups = record { groups = groups_in old; room = c.self.inside.room; next = c.self.inside.next } in
    let serial = c.serial.result in
    let there = passing_at _ _ c.in-Some.ensures.found in
    let updates = c.remove.ensures.updates in
    (λ i. record { groups = groups_in c.remove.new.self.slots; room = c.room_after-self-inside.ensures i; next = c.self.inside.next })
    ∙ answered-some s serial (groups_in c.remove.new.self.slots) (any_at (has_job serial) old c.in-Some.key there.0 there.1 there.2)
    (groups-answered _ _ c.self.inside.cells c.self.inside.next c.self.invariant.0 c.in-Some.key there.0 there.1 updates.others serial there.2
    updates.changed)
    ∙ (λ i. after_answer (c.self.view_is i) (c.serial.ensures i))

pub returns-in_default : goal.returns-in_default
returns-in_default c =
    let old = c.self.inside.slots.slots in
    let s : Groups = record { groups = groups_in old; room = c.self.inside.room; next = c.self.inside.next } in
    let serial = c.serial.result in
    sym c.self.view_is
    ∙ answered-none s serial (none_in (has_job serial) old (failing_at (has_job serial) old c.in_default.ensures.absent))
    ∙ (λ i. after_answer (c.self.view_is i) (c.serial.ensures i))
