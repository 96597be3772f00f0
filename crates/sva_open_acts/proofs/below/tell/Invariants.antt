use Rattle.std.proofs.Common.{◌≡◌, ◌++◌, map, take, drop}
use Rattle.sva_open.specs.Below.{left_at}
use Rattle.sva_open_acts.proofs.below.tell.Given as goal

abbrev pub invariant-loop-place : goal.invariant-loop-place
invariant-loop-place l =
    l.parts.items
    ≡ map (left_at l.units l.endpoint l.act l.head l.after) (take l.place l.initial.parts.items) ++ drop l.place l.initial.parts.items
