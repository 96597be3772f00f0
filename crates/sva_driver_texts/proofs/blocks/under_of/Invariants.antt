use Rattle.std.proofs.Common.{◌≡◌, ◌++◌, drop, map}
use Rattle.sva_driver_texts.specs.Blocks.{block_seen, under_of}
use Rattle.sva_driver_texts.proofs.blocks.under_of.Given as goal

-- those so far, with those that are left
abbrev pub invariant-loop-block : goal.invariant-loop-block
invariant-loop-block l =
    l.under.items ++ under_of l.thread (map block_seen (drop l.block-index l.list)) ≡ under_of l.thread (map block_seen l.list)
