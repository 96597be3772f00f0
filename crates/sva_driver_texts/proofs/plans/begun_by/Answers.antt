use Rattle.std.proofs.Common.{◌≤◌, length, rules}
use Rattle.sva_driver_texts.specs.Plans.{begun_at}
use Rattle.sva_driver_texts.proofs.Lists.{piece_end}
use Rattle.sva_driver_texts.proofs.plans.begun_by.Goals as goal

pub returns : goal.returns
returns c =
    let past : length c.args.pages.now ≤ c.loop-page.page-index = search rules in
    piece_end begun_at c.args.pages.now c.loop-page.page-index c.loop-page.list.items _ past c.loop-page.invariant
