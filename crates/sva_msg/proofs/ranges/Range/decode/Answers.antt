use Rattle.std.proofs.Common.{arith, sym}
use Rattle.sva_msg.proofs.CodeLemmas.{many, read, is_range}
use Rattle.sva_msg.proofs.ranges.Range.decode.Goals as goal

pub returns-then-ones-ge-MOST_ORDER : goal.returns-then-ones-ge-MOST_ORDER
returns-then-ones-ge-MOST_ORDER c =
    rw c.if-not-s.false (sym (many c.args.page c.if-page-ge-PAGES.false (omega arith)))

pub invariant_of-result-2 : goal.invariant_of-result-2
invariant_of-result-2 c = is_range c.args.page c.trailing_ones-ones.result c.if-page-ge-PAGES.false c.if-ones-ge-MOST_ORDER.false

pub returns : goal.returns
returns c =
    rw c.if-not-s.false
    (read c.args.page c.trailing_ones-ones.result c.if-page-ge-PAGES.false c.trailing_ones-ones.ensures c.if-ones-ge-MOST_ORDER.false)
