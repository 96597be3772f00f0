use Rattle.std.proofs.Common.{◌≡◌, None, map, take}
use Rattle.sva_driver_words.specs.Awaits.{last_from}
use Rattle.sva_driver_texts.specs.Blocks.{block_seen, is_of}
use Rattle.sva_driver_texts.proofs.blocks.last_of.Given as goal

-- the last one among those before this place is the last of all
abbrev pub invariant-loop-place : goal.invariant-loop-place
invariant-loop-place l =
    last_from (is_of l.thread) 0 None (map block_seen (take l.place l.list)) ≡ last_from (is_of l.thread) 0 None (map block_seen l.list)
