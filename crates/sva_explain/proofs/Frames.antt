-- Where frames are.
use Rattle.std.proofs.Common.{◌≡◌, refl, ap, List, [], ◌∷◌, map}
use Rattle.sva_frames.specs.declared.reading.Held.{Held}
use Rattle.sva_frames.specs.Reading.{holding_of}
use Rattle.sva_address_spaces.specs.Seen.{places_seen}
use Rattle.sva_explain.specs.Units.{held_seen}

pub all_seen : (frames : List Held) → map held_seen frames ≡ places_seen (map holding_of frames)
all_seen [] = refl
all_seen (held ∷ frames) = ap (λ places. held_seen held ∷ places) (all_seen frames)
