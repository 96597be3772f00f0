use Rattle.std.proofs.Common.{◌+◌, ◌*◌, ◌%◌, ◌≤◌, ◌^◌, false, true, arith, sym}
use Rattle.sva_address_spaces.specs.Seen.{pages_seen}
use Rattle.sva_address_spaces.proofs.Permits.{size, size-most, range-tested}
use Rattle.sva_address_spaces.proofs.pages.may_unmap_range.Goals as goal

pub is_some_mapped-requires : goal.is_some_mapped-requires
is_some_mapped-requires c =
    let small : c.args.order ≤ 9 = omega (arith, c.if-order-from.false, c.from.ensures) in
    let most : 1 * 2 ^ c.args.order % 2 ^ 64 ≤ 512 = size-most c.args.order small in
    omega (arith, most, c.if-page-count.false)

pub returns-then-not-is_some_mapped : goal.returns-then-not-is_some_mapped
returns-then-not-is_some_mapped c =
    let small : c.args.order ≤ 9 = omega (arith, c.if-order-from.false, c.from.ensures) in
    let most : 1 * 2 ^ c.args.order % 2 ^ 64 ≤ 512 = size-most c.args.order small in
    let range : c.args.page + 1 * 2 ^ c.args.order % 2 ^ 64 ≤ 2 ^ 36 = omega (arith, most, c.if-page-count.false) in
    sym (range-tested (pages_seen c.args.space.now) c.args.page c.args.order (1 * 2 ^ c.args.order % 2 ^ 64) false small (size c.args.order small)
    range c.if-page-count-ne0.false (sym c.if-not-is_some_mapped.ensures))

pub returns : goal.returns
returns c =
    let small : c.args.order ≤ 9 = omega (arith, c.if-order-from.false, c.from.ensures) in
    let most : 1 * 2 ^ c.args.order % 2 ^ 64 ≤ 512 = size-most c.args.order small in
    let range : c.args.page + 1 * 2 ^ c.args.order % 2 ^ 64 ≤ 2 ^ 36 = omega (arith, most, c.if-page-count.false) in
    sym (range-tested (pages_seen c.args.space.now) c.args.page c.args.order (1 * 2 ^ c.args.order % 2 ^ 64) true small (size c.args.order small)
    range c.if-page-count-ne0.false (sym c.if-not-is_some_mapped.ensures))
