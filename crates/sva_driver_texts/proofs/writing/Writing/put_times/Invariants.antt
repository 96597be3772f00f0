use Rattle.std.proofs.Common.{◌≡◌, ◌-◌}
use Rattle.sva_driver_texts.specs.Bodies.{lines_seen}
use Rattle.sva_driver_texts.specs.WrittenOut.{put_times}
use Rattle.sva_driver_texts.proofs.writing.Writing.put_times.Given as goal

-- what comes of the times that are left is what comes of all
abbrev pub invariant-loop-time : goal.invariant-loop-time
invariant-loop-time l =
    put_times (l.times - l._time) l.self l.number l.word (lines_seen l.lines) ≡ put_times l.times l.initial.self l.number l.word (lines_seen l.lines)
