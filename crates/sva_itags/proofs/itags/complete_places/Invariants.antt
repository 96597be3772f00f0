use Rattle.std.proofs.Common.{◌≡◌}
use Rattle.sva_itags.proofs.Completions.{done_below, freed_below}
use Rattle.sva_itags.proofs.itags.complete_places.Given as goal

abbrev pub invariant-loop-tag : goal.invariant-loop-tag
invariant-loop-tag l =
    record {
      places : l.places ≡ done_below l.tag 0 l.vector l.count l.fn.places;
      freed : l.freed ≡ freed_below l.tag l.vector l.count l.fn.places;
    }
