use Rattle.std.proofs.Common.{◌≡◌, ◌++◌, flat_map, map, take}
use Rattle.sva_lines.specs.Devices.{cached_line}
use Rattle.sva_snapshot.specs.Shown.{cached_shown}
use Rattle.sva_lines.proofs.devices.put_cache.Given as goal

abbrev pub invariant-loop-cached : goal.invariant-loop-cached
invariant-loop-cached l =
    l.out.items ≡ l.initial.out.items ++ flat_map (cached_line l.endpoint) (map cached_shown (take l.cached-index l.cache))
