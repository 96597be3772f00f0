use Rattle.std.proofs.Common.{sym, ◌∙◌}
use Rattle.sva_snapshot.proofs.More.{copied_more}
use Rattle.sva_snapshot.proofs.units.requests_of.Goals as goal

pub loop-place-preserved : goal.loop-place-preserved
loop-place-preserved c =
    c.in_ok-push.ensures.items
    ∙ copied_more c.loop-place.requests.items c.args.queue.now c.loop-place.place c.in-Some.request (sym c.in-Some.ensures) c.loop-place.invariant
