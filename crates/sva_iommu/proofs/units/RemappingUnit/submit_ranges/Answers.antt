use Rattle.std.proofs.Common.{◌≡◌, ◌+◌, ◌*◌, ◌^◌, ◌<◌, ◌≤◌, true, suc, ap, sym, subst, ◌∙◌, arith, length, refl}
use Rattle.std.specs.Prelude.{All}
use Rattle.std.proofs.lemmas.Bool.Decides.{nat_tests}
use Rattle.sva_queue.specs.Cookies.{AreRising, HasNumber}
use Rattle.std.proofs.lemmas.Nat.{pow_pos}
use Rattle.sva_labels.specs.Finding.{has_room}
use Rattle.sva_labels.specs.Moves.{descriptors_for, with_descriptors}
use Rattle.sva_iommu.specs.Seen.{orders_for, with_unit}
use Rattle.sva_iommu.proofs.Submitted.{orders_length, orders_number, orders_rise, orders_after, orders_seen}
use Rattle.sva_iommu.proofs.units.RemappingUnit.submit_ranges.Goals as goal

pub submit-requires-clause-room : goal.submit-requires-clause-room
submit-requires-clause-room c =
    let same : length c.deref.result.now ≡ c.args.count + 1 =
    ap length (c.deref.ensures.0 ∙ c.orders_for-orders.ensures) ∙ orders_length c.args.pasid c.args.page c.args.count c.args.order c.args.cookie in
    let fits : length c.args.self.now.unit.queue + suc c.args.count ≤ 64 = grind (arith, nat_tests, c.requires.room) in
    omega (arith, same, fits)

pub submit-requires-clause-numbers : goal.submit-requires-clause-numbers
submit-requires-clause-numbers c =
    subst (All HasNumber) (sym (c.deref.ensures.0 ∙ c.orders_for-orders.ensures))
    (orders_number c.args.pasid c.args.page c.args.count c.args.order c.args.cookie c.requires.number)

pub submit-requires-clause-rising : goal.submit-requires-clause-rising
submit-requires-clause-rising c =
    subst (AreRising c.args.self.now.unit.waits_end) (sym (c.deref.ensures.0 ∙ c.orders_for-orders.ensures))
    (orders_rise c.args.pasid c.args.page c.args.count c.args.order c.args.cookie c.args.self.now.unit.waits_end c.requires.later)

pub submit_range-requires-clause-room : goal.submit_range-requires-clause-room
submit_range-requires-clause-room c = subst (λ n. has_room c.args.self.now.unit (suc n) ≡ true) c.if-count-eq1.true c.requires.room

pub submit_range-requires-clause-low : goal.submit_range-requires-clause-low
submit_range-requires-clause-low c =
    let some : 0 < 2 ^ c.args.order = pow_pos c.args.order in
    let one : c.args.page + 1 * 2 ^ c.args.order ≤ 2 ^ 36 = subst (λ n. c.args.page + n * 2 ^ c.args.order ≤ 2 ^ 36) c.if-count-eq1.true c.requires.low in
    omega (arith, some, one)

pub returns-then-count-eq1 : goal.returns-then-count-eq1
returns-then-count-eq1 c = c.submit_range.ensures ∙ ap (λ n. with_unit c.args.self.now (with_descriptors c.args.self.now.unit
    (descriptors_for c.args.pasid c.args.page n c.args.order c.args.cookie) c.args.cookie)) (sym c.if-count-eq1.true)

pub returns : goal.returns
returns c =
    let t = c.args.pasid in
    let q = c.args.page in
    let n = c.args.count in
    let order = c.args.order in
    let cookie = c.args.cookie in
    let same : c.deref.result.now ≡ orders_for t q n order cookie = c.deref.ensures.0 ∙ c.orders_for-orders.ensures in
    rw (c.submit.ensures, same, orders_seen t q n order cookie, orders_after t q n order cookie c.args.self.now.unit.waits_end) refl
