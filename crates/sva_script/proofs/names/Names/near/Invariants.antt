use Rattle.std.proofs.Common.{◌≡◌, drop}
use Rattle.sva_script.specs.Names.{names_of}
use Rattle.sva_script.specs.Near.{near_among}
use Rattle.sva_script.proofs.names.Names.near.Given as goal

-- of those that are left the first is near that is of the last 1000
abbrev pub invariant-loop-place : goal.invariant-loop-place
invariant-loop-place l = near_among (drop l.place (names_of l.self)) l.word ≡ near_among (drop l.initial.place (names_of l.self)) l.word
