use Rattle.std.proofs.Common.{◌≡◌, ◌++◌, flat_map, map, take}
use Rattle.sva_snapshot.specs.Shown.{flight_shown}
use Rattle.sva_explain.specs.Link.{about_if}
use Rattle.sva_explain.proofs.blockers.link.put_about_among.Given as goal

-- what was said so far
abbrev pub invariant-loop-flight : goal.invariant-loop-flight
invariant-loop-flight l =
    l.out.items ≡ l.initial.out.items ++ flat_map (about_if l.level l.snapshot l.endpoint l.topic) (map flight_shown (take l.flight-index l.flights))
