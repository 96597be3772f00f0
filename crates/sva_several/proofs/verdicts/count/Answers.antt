use Rattle.std.proofs.Common.{◌∙◌, ap, arith, refl}
use Rattle.sva_several.specs.Verdicts.{is_same, one_if}
use Rattle.sva_several.proofs.Walks.{counted_end, counted_next, one_at_most}
use Rattle.sva_several.proofs.verdicts.count.Goals as goal

pub loop-place-preserved : goal.loop-place-preserved
loop-place-preserved c =
    let adds = c.one_if-count.ensures ∙ ap one_if (c.is_same.ensures ∙ ap (is_same c.args.verdict) c.verdict_of.ensures) in record {
      counted = counted_next c.args.verdict c.args.all.now c.loop-place.place c.index-all-place.result c.loop-place.count c.one_if-count.result _ _
          c.loop-place-test.true c.index-all-place.is adds refl c.loop-place.invariant.counted;
      few = omega (arith, c.loop-place.invariant.few, one_at_most c.one_if-count.result _ c.one_if-count.ensures);
    }

pub returns : goal.returns
returns c =
    counted_end c.args.verdict c.args.all.now c.loop-place.place c.loop-place.count _ c.loop-place-test.false c.loop-place.invariant.counted
