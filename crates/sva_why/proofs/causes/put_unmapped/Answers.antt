use Rattle.std.proofs.Common.{◌≤◌, arith}
use Rattle.std.proofs.lemmas.Bool.Decides.{nat_tests}
use Rattle.sva_address_spaces.specs.Seen.{pages_seen}
use Rattle.sva_why.proofs.Pages.{page_last, page_more}
use Rattle.sva_why.proofs.causes.put_unmapped.Goals as goal

pub loop-offset-preserved : goal.loop-offset-preserved
loop-offset-preserved c =
    page_more (pages_seen c.args.pages.now) c.args.page c.args.count c.loop-offset.offset _ _ _ c.loop-offset-test.true c.loop-offset.invariant
    c.in_ok-put_unmapped_if.ensures

pub returns : goal.returns
returns c =
    let past : c.args.count ≤ c.loop-offset.offset = grind (arith, nat_tests) in
    page_last (pages_seen c.args.pages.now) c.args.page c.args.count c.loop-offset.offset _ _ past c.loop-offset.invariant
