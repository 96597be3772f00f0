use Rattle.std.proofs.Common.{◌∙◌, ap, arith, refl}
use Rattle.sva_cli.specs.Inputs.{is_input, one_if}
use Rattle.sva_cli.proofs.InputLemmas.{counted_end, counted_next, one_at_most}
use Rattle.sva_cli.proofs.inputs.inputs_in.Goals as goal

pub loop-place-preserved : goal.loop-place-preserved
loop-place-preserved c =
    let adds = c.one_if-count.ensures ∙ ap one_if (c.is_input.ensures ∙ ap is_input c.as_str.ensures.value) in record {
      counted = counted_next c.args.names.now c.loop-place.place c.index-names-place.result c.loop-place.count c.one_if-count.result _ _
          c.loop-place-test.true c.index-names-place.is adds refl c.loop-place.invariant.counted;
      few = omega (arith, c.loop-place.invariant.few, one_at_most c.one_if-count.result _ c.one_if-count.ensures);
    }

pub returns : goal.returns
returns c = counted_end c.args.names.now c.loop-place.place c.loop-place.count _ c.loop-place-test.false c.loop-place.invariant.counted
