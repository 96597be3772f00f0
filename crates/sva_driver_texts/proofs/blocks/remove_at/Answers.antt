use Rattle.std.proofs.Common.{◌∙◌, ap, map}
use Rattle.sva_driver_texts.specs.Blocks.{block_seen}
use Rattle.sva_driver_texts.proofs.OpenBlocks.{removed_seen}
use Rattle.sva_driver_texts.proofs.blocks.remove_at.Goals as goal

pub returns-then-place-len : goal.returns-then-place-len
returns-then-place-len c =
    ap (map block_seen) c.remove.ensures.items ∙ removed_seen block_seen c.args.list.now.items c.args.place
