use Rattle.std.proofs.Common.{◌<◌, length, rules}
use Rattle.sva_variants.proofs.Trials.{on_more}
use Rattle.sva_variants.proofs.standing.try_each.Goals as goal

pub loop-place-preserved : goal.loop-place-preserved
loop-place-preserved g c =
    let inside : c.loop-place.place < length c.args.platforms.now = search rules in
    on_more c.args.text.now c.args.most c.args.platforms.now c.loop-place.place _ c.loop-place.all.items _ c.in_ok-tried.tried inside
    c.loop-place.invariant c.in_ok-tried.ensures c.in_ok-push.ensures.items
