use Rattle.std.proofs.Common.{◌+◌, ◌≤◌, ◌^◌, arith, sym}
use Rattle.sva_address_spaces.specs.Seen.{pages_seen}
use Rattle.sva_address_spaces.proofs.Permits.{some-unmapped, all-mapped}
use Rattle.sva_address_spaces.proofs.pages.may_unmap.Goals as goal

pub returns-then-not-are_mapped : goal.returns-then-not-are_mapped
returns-then-not-are_mapped c =
    let range : c.args.page + c.args.count ≤ 2 ^ 36 = omega arith in
    some-unmapped (pages_seen c.args.space.now) c.args.page c.args.count c.if-count-lt1.false c.if-count.false range (sym c.if-not-are_mapped.ensures)

pub returns : goal.returns
returns c =
    let range : c.args.page + c.args.count ≤ 2 ^ 36 = omega arith in
    all-mapped (pages_seen c.args.space.now) c.args.page c.args.count c.if-count-lt1.false c.if-count.false range (sym c.if-not-are_mapped.ensures)
