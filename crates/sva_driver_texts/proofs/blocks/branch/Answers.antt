use Rattle.std.proofs.Common.{◌≡◌, ◌∙◌, List, Ok, Some, ap, map, sym}
use Rattle.sva_driver_texts.specs.Blocks.{block_seen, last_of}
use Rattle.sva_driver_texts.specs.declared.blocks.Block.{Block}
use Rattle.sva_driver_texts.proofs.OpenBlocks.{else_in, end_in, none_open, seen}
use Rattle.sva_driver_texts.proofs.blocks.branch.Goals as goal

pub returns : goal.returns
returns c =
    let list = seen c.args.list.now.items in
    let is : last_of c.args.thread.now list ≡ Some c.in-Some.place =
    sym (c.last_of.ensures ∙ ap (λ (blocks : List Block). last_of c.args.thread.now (map block_seen blocks)) c.as_slice.ensures.value)
    ∙ c.in-Some.is in
    end_in list c.args.thread.now c.args.word.now c.in-Some.place is (sym c.is.ensures ∙ c.if-is.false) ∙ ap Ok (sym c.remove_at.ensures)
