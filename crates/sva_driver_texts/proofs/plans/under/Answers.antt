use Rattle.std.proofs.Common.{◌≤◌, length, rules}
use Rattle.sva_driver_texts.specs.Plans.{under_one}
use Rattle.sva_driver_texts.proofs.Lists.{piece_end}
use Rattle.sva_driver_texts.proofs.plans.under.Goals as goal

pub returns : goal.returns
returns c =
    let past : length c.args.pasids.now ≤ c.loop-pasid.pasid-index = search rules in
    piece_end (under_one c.args.pages.now) c.args.pasids.now c.loop-pasid.pasid-index c.loop-pasid.list.items _ past c.loop-pasid.invariant
