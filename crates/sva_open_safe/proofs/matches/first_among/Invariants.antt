use Rattle.std.proofs.Common.{◌≡◌, drop}
use Rattle.sva_open_safe.specs.Wrongs.{first_from}
use Rattle.sva_open_safe.proofs.matches.first_among.Given as goal

-- what is wrong first at the endpoints that are left is first of all
abbrev pub invariant-loop-endpoint : goal.invariant-loop-endpoint
invariant-loop-endpoint l = first_from l.now l.sort l.endpoint (drop l.endpoint l.parts) ≡ first_from l.now l.sort 0 l.parts
