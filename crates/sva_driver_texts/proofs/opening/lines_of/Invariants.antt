use Rattle.std.proofs.Common.{◌≡◌, ◌+◌, ◌++◌, length, map, take}
use Rattle.std.specs.Vec.Iter.{into_iter_items}
use Rattle.sva_driver_words.specs.Awaits.{line_seen}
use Rattle.sva_driver_texts.specs.Texts.{done_of, done_seen, told_of, told_seen}
use Rattle.sva_driver_texts.specs.Ways.{way_seen}
use Rattle.sva_driver_texts.proofs.opening.lines_of.Given as goal

-- the lines so far, with those that are left; and each has its way
abbrev pub invariant-loop-line : goal.invariant-loop-line
invariant-loop-line l = record {
  lines : map done_seen l.lines.items ++ map (λ line. done_of (line_seen line)) (into_iter_items l.line-iterator)
      ≡ map (λ line. done_of (line_seen line)) l.fn.read.items;
  said : map told_seen l.all.items ++ map (λ line. told_of (line_seen line)) (into_iter_items l.line-iterator)
      ≡ map (λ line. told_of (line_seen line)) l.fn.read.items;
  count : length l.lines.items + length (into_iter_items l.line-iterator) ≡ length l.ways;
  ways : map way_seen l.lines.items ≡ take (length l.lines.items) l.ways;
}
