use Rattle.std.proofs.Common.{ℕ, ◌<◌, ◌+◌, ◌-◌, ◌≡◌, length, sym, subst, refl, ◌∙◌, arith}
use Rattle.sva_address_spaces.proofs.Counting.{owns-on, owned-mapped}
use Rattle.sva_address_spaces.proofs.Mapping.{AreBack, none_back, one_more_back, none_more_back, pages_all_back, places_all_back}
use Rattle.sva_address_spaces.proofs.asked.take_back.Goals as goal

pub loop-number-init : goal.loop-number-init
loop-number-init c = none_back c.args.pages.now c.args.space.now c.args.pool.now _ refl c.len-mapped.ensures.rising

pub give-requires : goal.give-requires
give-requires c =
    owned-mapped c.loop-number.space c.loop-number.pool _ (c.in-Some.frame, c.in-Some._write)
    (owns-on c.args.space.now c.loop-number.space c.args.pool.now c.loop-number.pool c.requires c.loop-number.invariant.balanced)
    (sym c.in-Some.ensures.value)

pub loop-number-preserved-in-Some : goal.loop-number-preserved-in-Some
loop-number-preserved-in-Some c =
    let within : c.loop-number.number - 1 < length c.args.pages.now = omega arith in
    let next : c.loop-number.number ≡ c.loop-number.number - 1 + 1 = omega arith in
    one_more_back c.args.pages.now c.args.space.now c.args.pool.now
    (c.loop-number.number - 1) c.loop-number.space c.loop-number.pool _ c.in-Some.frame c.in-Some._write c.unmap.new.self c.give.new.self
    within refl c.requires (subst (λ (k : ℕ). AreBack c.args.pages.now c.args.space.now c.args.pool.now k c.loop-number.space c.loop-number.pool) next
    c.loop-number.invariant)
    (sym c.in-Some.ensures.value) c.unmap.ensures.after c.unmap.ensures.rising c.give.ensures

pub loop-number-preserved : goal.loop-number-preserved
loop-number-preserved c =
    let within : c.loop-number.number - 1 < length c.args.pages.now = omega arith in
    let next : c.loop-number.number ≡ c.loop-number.number - 1 + 1 = omega arith in
    none_more_back c.args.pages.now c.args.space.now c.args.pool.now
    (c.loop-number.number - 1) c.loop-number.space c.loop-number.pool _ c.unmap.new.self c.loop-number.pool
    within refl (subst (λ (k : ℕ). AreBack c.args.pages.now c.args.space.now c.args.pool.now k c.loop-number.space c.loop-number.pool) next
    c.loop-number.invariant)
    (sym c.unmap.ensures.value ∙ c.in_default.is) c.unmap.ensures.after c.unmap.ensures.rising refl

pub returns-clause-pages : goal.returns-clause-pages
returns-clause-pages c = pages_all_back c.args.pages.now c.args.space.now c.args.pool.now c.loop-number.number c.loop-number.space c.loop-number.pool
    (omega arith) c.loop-number.invariant

pub returns-clause-places : goal.returns-clause-places
returns-clause-places c = places_all_back c.args.pages.now c.args.space.now c.args.pool.now c.loop-number.number c.loop-number.space c.loop-number.pool
    (omega arith) c.loop-number.invariant

pub returns-clause-balanced : goal.returns-clause-balanced
returns-clause-balanced c = c.loop-number.invariant.balanced
