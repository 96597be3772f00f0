use Rattle.std.proofs.Common.{length}
use Rattle.sva_script.proofs.placed_words.+put_places.Given as goal

-- a place is filled at each call
abbrev pub decreases-put_places : goal.decreases-put_places
decreases-put_places l = length l.places.now
