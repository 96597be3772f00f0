use Rattle.std.proofs.Common.{◌∙◌, ◌<◌, ◌≤◌, ◌++◌, ap, length, rules}
use Rattle.sva_driver_texts.specs.Blocks.{block_seen, open_text}
use Rattle.sva_driver_texts.specs.declared.blocks.Block.{Block}
use Rattle.sva_driver_texts.proofs.OpenBlocks.{open_end, open_next}
use Rattle.sva_driver_texts.proofs.blocks.put_open.Goals as goal

pub loop-block-preserved : goal.loop-block-preserved
loop-block-preserved c =
    let inside : c.loop-block.block-index < length c.args.list.now = search rules in
    open_next c.args.names.now c.args.list.now c.loop-block.block-index _ c.loop-block.out.items c.put_one.new.out.items _ inside
    (c.in_ok-put_one.ensures
    ∙ ap (λ (block : Block). c.loop-block.out.items ++ open_text c.args.names.now (block_seen block)) c.block-item.is)
    c.loop-block.invariant

pub returns : goal.returns
returns c =
    let past : length c.args.list.now ≤ c.loop-block.block-index = search rules in
    open_end c.args.names.now c.args.list.now c.loop-block.block-index c.loop-block.out.items _ past c.loop-block.invariant
