use Rattle.std.proofs.Common.{◌≡◌, ◌++◌, flat_map, map, take}
use Rattle.sva_snapshot.specs.Shown.{flight_shown}
use Rattle.sva_explain.specs.Link.{older_if}
use Rattle.sva_explain.proofs.blockers.link.put_older_among.Given as goal

-- what was said so far
abbrev pub invariant-loop-older : goal.invariant-loop-older
invariant-loop-older l =
    l.out.items ≡ l.initial.out.items ++ flat_map (older_if l.snapshot (flight_shown l.flight)) (map flight_shown (take l.older-index l.flights))
