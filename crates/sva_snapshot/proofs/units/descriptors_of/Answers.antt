use Rattle.std.proofs.Common.{sym, ◌∙◌}
use Rattle.sva_snapshot.proofs.More.{copied_more}
use Rattle.sva_snapshot.proofs.units.descriptors_of.Goals as goal

pub loop-place-preserved : goal.loop-place-preserved
loop-place-preserved c =
    c.in_ok-push.ensures.items
    ∙ copied_more c.loop-place.descriptors.items c.args.unit.now.descriptors c.loop-place.place c.in-Some.descriptor
    (sym c.in-Some.ensures) c.loop-place.invariant
