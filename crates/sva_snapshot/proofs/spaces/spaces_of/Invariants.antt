use Rattle.std.proofs.Common.{◌≡◌, map, take}
use Rattle.sva_address_spaces.specs.Lives.{space_seen}
use Rattle.sva_snapshot.specs.Shown.{space_shown}
use Rattle.sva_snapshot.proofs.spaces.spaces_of.Given as goal

abbrev pub invariant-loop-live : goal.invariant-loop-live
invariant-loop-live l = map space_shown l.spaces.items ≡ map space_seen (take l.live-index l.lives)
