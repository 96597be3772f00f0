use Rattle.std.proofs.Common.{◌≡◌, drop}
use Rattle.sva_open_safe.specs.Wrongs as wrongs
use Rattle.sva_open_safe.proofs.frames.first_sent.Given as goal

-- the first of those that are left is the first of all
abbrev pub invariant-loop-place : goal.invariant-loop-place
invariant-loop-place l =
    wrongs.first_in (wrongs.sent_wrong l.sort l.now l.endpoint l.part) (drop l.place l.list)
    ≡ wrongs.first_in (wrongs.sent_wrong l.sort l.now l.endpoint l.part) l.list
