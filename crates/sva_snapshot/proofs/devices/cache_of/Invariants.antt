use Rattle.std.proofs.Common.{◌≡◌, map, take}
use Rattle.std.specs.FinMap.{entries}
use Rattle.sva_parts_by_labels.specs.Device.{translation_seen}
use Rattle.sva_snapshot.specs.Shown.{cached_shown}
use Rattle.sva_snapshot.proofs.devices.cache_of.Given as goal

abbrev pub invariant-loop-place : goal.invariant-loop-place
invariant-loop-place l = map cached_shown l.translations.items ≡ map translation_seen (take l.place (entries l.cache))
