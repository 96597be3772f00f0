use Rattle.std.proofs.Common.{◌≡◌, ◌∙◌, ◌<◌, ap, get_or, length, refl, rules, slice_set, true}
use Rattle.sva_driver_texts.specs.Blocks.{block_seen, turned}
use Rattle.sva_driver_texts.specs.declared.blocks.Block.{Block}
use Rattle.sva_driver_texts.proofs.OpenBlocks.{any_default, turned_once}
use Rattle.sva_driver_texts.proofs.blocks.turn_at.Goals as goal

pub returns : goal.returns
returns c =
    let list = c.args.list.now.items in
    let block = c.index_mut.result.now in
    let inside : c.args.place < length list = search rules in
    let same : block ≡ get_or list c.args.place block = search rules in
    let read : (get_or list c.args.place c.index.result.now).under.so ≡ true = search rules in
    let first : (get_or list c.args.place block).under.so ≡ true =
    ap (λ (own : Block). own.under.so) (any_default list c.args.place block c.index.result.now inside) ∙ read in
    turned_once list (slice_set list c.args.place c.turn.new.block) c.args.place block c.turn.new.block inside first
    (c.turn.ensures ∙ ap (λ (own : Block). turned (block_seen own)) same) refl
