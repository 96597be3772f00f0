use Rattle.std.proofs.Common.{◌≡◌, None, take}
use Rattle.sva_driver_words.specs.Awaits.{last_from, submits_there}
use Rattle.sva_driver_words.proofs.Lasts.{seen}
use Rattle.sva_driver_words.proofs.awaits.last_wait.Given as goal

-- the last one among those before this place is the last of all
abbrev pub invariant-loop-place : goal.invariant-loop-place
invariant-loop-place l =
    last_from (submits_there l.units l.thread l.endpoint) 0 None (seen (take l.place l.lines))
    ≡ last_from (submits_there l.units l.thread l.endpoint) 0 None (seen l.lines)
