use Rattle.std.proofs.Common.{◌≡◌, ◌-◌, length}
use Rattle.sva_open.specs.Units.{takes_any}
use Rattle.sva_open_acts.proofs.loose.takes_any.Given as goal

abbrev pub invariant-loop-place : goal.invariant-loop-place
invariant-loop-place l =
    takes_any l.settings l.part (length l.part.queue - l.place) l.place ≡ takes_any l.settings l.part (length l.part.queue) 0
