use Rattle.std.proofs.Common.{◌≡◌, ◌++◌, drop, map}
use Rattle.sva_driver_texts.specs.Blocks.{block_seen, open_texts}
use Rattle.sva_driver_texts.proofs.blocks.put_open.Given as goal

-- what is told so far, with what is told of those that are left
abbrev pub invariant-loop-block : goal.invariant-loop-block
invariant-loop-block l =
    l.out.items ++ open_texts l.names (map block_seen (drop l.block-index l.list))
    ≡ l.initial.out.items ++ open_texts l.names (map block_seen l.list)
