use Rattle.std.proofs.Common.{◌≡◌, None, take}
use Rattle.sva_driver_words.specs.Awaits.{last_from}
use Rattle.sva_driver_words.specs.Timeouts.{awaits_before}
use Rattle.sva_driver_words.proofs.Lasts.{seen}
use Rattle.sva_driver_words.proofs.timeouts.last_await.Given as goal

-- the last one among those before this place is the last of all
abbrev pub invariant-loop-place : goal.invariant-loop-place
invariant-loop-place l =
    last_from (awaits_before l.thread l.under) 0 None (seen (take l.place l.lines)) ≡ last_from (awaits_before l.thread l.under) 0 None (seen l.lines)
