use Rattle.std.proofs.Common.{◌∙◌, sym}
use Rattle.sva_script.proofs.ItemLemmas.{with_first, with_last, with_wrong}
use Rattle.sva_script.proofs.placed_words.with_items.Goals as goal

pub returns-in-Err : goal.returns-in-Err
returns-in-Err c =
    sym (with_wrong c.args.at c.args.names.now c.loop-item.vector c.in-Err.wrong _ _ c.in-Some.item.now c.in-Some.ensures.some
    (sym c.with_item.ensures ∙ c.in-Err.is)) ∙ c.loop-item.invariant

pub loop-item-preserved : goal.loop-item-preserved
loop-item-preserved c =
    sym (with_first c.args.at c.args.names.now c.loop-item.vector c.in-Ok.vector _ _ c.in-Some.item.now c.in-Some.ensures.some
    (sym c.with_item.ensures ∙ c.in-Ok.is)) ∙ c.loop-item.invariant

pub returns : goal.returns
returns c =
    c.with_item-2.ensures ∙ sym (with_last c.args.at c.args.names.now c.loop-item.vector _ c.loop-item.rest.now c.in_default.ensures.none)
    ∙ c.loop-item.invariant
