use Rattle.std.proofs.Common.{take}
use Rattle.sva_cli.specs.Reading.{AreGiven}
use Rattle.sva_cli.proofs.reading.give_all.Given as goal

-- the files so far give this
abbrev pub invariant-loop-place : goal.invariant-loop-place
invariant-loop-place g l =
    AreGiven (g.S.Opens.opened l.opens) g.S.File.Read.remaining (g.S.Opens.fails l.opens) l.standard (take l.place l.names) l.all.items
