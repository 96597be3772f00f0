use Rattle.std.proofs.Common.{ℕ, Bool, ap, set, ◌∙◌, arith}
use Rattle.sva_frames.specs.Frames.{after_waits}
use Rattle.sva_address_spaces.proofs.Counting.{balanced-none}
use Rattle.sva_address_spaces.proofs.Ranges.{all_from, all_left, below_end, found_from, left_from, lowest_mapped, more_from, next_from, none_left, none_told}
use Rattle.sva_address_spaces.proofs.pages.take_mapped.Goals as goal

pub returns-in_default : goal.returns-in_default
returns-in_default c =
    let rising = c.mapped_between.ensures.rising in
    let none = none_told c.args.space.now c.args.page c.args.count c.in_default.ensures.mapped in
    let out = none_left c.args.space.now c.args.space.now c.args.pool.now c.args.pool.now c.args.waits.now c.args.page c.args.count
    0 rising (all_left c.args.space.now c.args.pool.now c.args.waits.now c.args.page c.args.count rising c.requires.room) none in
    record { frames = out.counted; pages = out.pages; places = out.places; balanced = balanced-none c.args.space.now c.args.pool.now }

pub loop-turn-init : goal.loop-turn-init
loop-turn-init c =
    left_from c.args.space.now c.args.pool.now c.args.waits.now c.args.page c.args.count c.in-Some.lowest c.in-Some.number
    c.mapped_between.ensures.rising c.requires.room c.in-Some.ensures.mapped

pub unreachable-requires : goal.unreachable-requires
unreachable-requires c =
    more_from c.args.space.now c.loop-turn.space c.args.pool.now c.loop-turn.pool c.args.waits.now c.args.page c.args.count
    c.loop-turn._turn c.loop-turn.next c.in-Some.lowest c.in-Some.number c.loop-turn.invariant c.in-Some.ensures.mapped
    c.loop-turn-test.true c.in_default-unmap_first.ensures.none.0

pub withhold-requires-clause-mapped : goal.withhold-requires-clause-mapped
withhold-requires-clause-mapped c =
    let taken : ℕ × (ℕ × Bool) = (c.in-Some-unmap_first.taken, (c.in-Some-unmap_first.frame, c.in-Some-unmap_first._write)) in
    lowest_mapped c.args.space.now c.loop-turn.space c.args.pool.now c.loop-turn.pool c.args.waits.now c.args.page c.args.count
    c.loop-turn._turn taken c.requires.owned c.loop-turn.invariant.leaving
    (found_from c.args.space.now c.loop-turn.space c.args.pool.now c.loop-turn.pool c.args.waits.now c.args.page c.args.count
    c.loop-turn._turn c.loop-turn.next _ c.loop-turn.invariant c.in-Some-unmap_first.ensures.some)

pub overflow_add-next : goal.overflow_add-next
overflow_add-next c =
    let taken : ℕ × (ℕ × Bool) = (c.in-Some-unmap_first.taken, (c.in-Some-unmap_first.frame, c.in-Some-unmap_first._write)) in
    let below = below_end c.args.space.now c.loop-turn.space c.args.pool.now c.loop-turn.pool c.args.waits.now c.args.page
    c.args.count c.loop-turn._turn c.loop-turn.next taken c.loop-turn.invariant c.in-Some-unmap_first.ensures.some in
    omega (arith, below, c.requires.range)

pub loop-turn-preserved : goal.loop-turn-preserved
loop-turn-preserved c =
    let taken : ℕ × (ℕ × Bool) = (c.in-Some-unmap_first.taken, (c.in-Some-unmap_first.frame, c.in-Some-unmap_first._write)) in
    next_from c.args.space.now c.loop-turn.space c.unmap_first.new.self c.args.pool.now c.loop-turn.pool c.withhold.new.self
    c.args.waits.now c.args.page c.args.count c.loop-turn._turn c.loop-turn.next taken c.requires.owned c.loop-turn.invariant
    c.in-Some-unmap_first.ensures.some c.in-Some-unmap_first.ensures.after c.unmap_first.ensures.rising
    (c.withhold.ensures ∙ ap (λ ts. set c.loop-turn.pool c.in-Some-unmap_first.frame (after_waits ts)) c.copied.ensures)

pub returns-clause-frames : goal.returns-clause-frames
returns-clause-frames c =
    (all_from c.args.space.now c.loop-turn.space c.args.pool.now c.loop-turn.pool c.args.waits.now c.args.page c.args.count
    c.loop-turn._turn c.loop-turn.next c.in-Some.lowest c.in-Some.number c.mapped_between.ensures.rising c.loop-turn.invariant
    c.in-Some.ensures.mapped c.loop-turn-test.false).counted

pub returns-clause-pages : goal.returns-clause-pages
returns-clause-pages c =
    (all_from c.args.space.now c.loop-turn.space c.args.pool.now c.loop-turn.pool c.args.waits.now c.args.page c.args.count
    c.loop-turn._turn c.loop-turn.next c.in-Some.lowest c.in-Some.number c.mapped_between.ensures.rising c.loop-turn.invariant
    c.in-Some.ensures.mapped c.loop-turn-test.false).pages

pub returns-clause-places : goal.returns-clause-places
returns-clause-places c =
    (all_from c.args.space.now c.loop-turn.space c.args.pool.now c.loop-turn.pool c.args.waits.now c.args.page c.args.count
    c.loop-turn._turn c.loop-turn.next c.in-Some.lowest c.in-Some.number c.mapped_between.ensures.rising c.loop-turn.invariant
    c.in-Some.ensures.mapped c.loop-turn-test.false).places
