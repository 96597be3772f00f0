use Rattle.sva_renumbering.proofs.Placing as placing
use Rattle.sva_renumbering.proofs.places_named.Goals as goal

pub returns : goal.returns
returns c = record { named = placing.places_named; as_many = placing.as_many_places; oldest = placing.oldest_alike; any = placing.any_alike }
