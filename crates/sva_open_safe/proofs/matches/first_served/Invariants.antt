use Rattle.std.proofs.Common.{◌≡◌, drop}
use Rattle.sva_open_safe.specs.Wrongs as wrongs
use Rattle.sva_open_safe.proofs.matches.first_served.Given as goal

-- the first of those that are left is the first of all
abbrev pub invariant-loop-place : goal.invariant-loop-place
invariant-loop-place l =
    wrongs.first_in (wrongs.filed_served l.settings l.domains l.endpoint) (drop l.place l.list)
    ≡ wrongs.first_in (wrongs.filed_served l.settings l.domains l.endpoint) l.list
