use Rattle.std.proofs.Common.{◌≡◌, length}
use Rattle.sva_labels.specs.Moves.{placed}
use Rattle.sva_model.specs.Wire.PlaceWire.{FreeWire}
use Rattle.sva_address_spaces.specs.Owned.{Balanced}
use Rattle.sva_address_spaces.specs.Seen.{pages_seen, places_seen}
use Rattle.sva_address_spaces.proofs.pages.give_all.Given as goal

-- what is out of the space is back in the pool, and the rest is still to be freed
abbrev pub invariant-loop-page : goal.invariant-loop-page
invariant-loop-page l =
    Balanced l.fn.space l.fn.pool l.space l.pool
    × (placed FreeWire (pages_seen l.space) (places_seen l.pool) ≡ placed FreeWire (pages_seen l.fn.space) (places_seen l.fn.pool))

abbrev pub decreases-loop-page : goal.decreases-loop-page
decreases-loop-page l = length l.space
