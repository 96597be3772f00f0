use Rattle.std.proofs.Common.{◌∙◌, ◌<◌, ◌≤◌, ◌++◌, ap, length, rules}
use Rattle.sva_driver_texts.specs.Blocks.{block_seen, under_one}
use Rattle.sva_driver_texts.specs.declared.blocks.Block.{Block}
use Rattle.sva_driver_texts.proofs.OpenBlocks.{under_end, under_next}
use Rattle.sva_driver_texts.proofs.blocks.under_of.Goals as goal

pub loop-block-preserved : goal.loop-block-preserved
loop-block-preserved c =
    let inside : c.loop-block.block-index < length c.args.list.now = search rules in
    under_next c.args.thread.now c.args.list.now c.loop-block.block-index _ c.loop-block.under.items c.add_one.new.under.items _ inside
    (c.in_ok-add_one.ensures
    ∙ ap (λ (block : Block). c.loop-block.under.items ++ under_one c.args.thread.now (block_seen block)) c.block-item.is)
    c.loop-block.invariant

pub returns : goal.returns
returns c =
    let past : length c.args.list.now ≤ c.loop-block.block-index = search rules in
    under_end c.args.thread.now c.args.list.now c.loop-block.block-index c.loop-block.under.items _ past c.loop-block.invariant
