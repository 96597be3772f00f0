-- A world of which only the mappings are others.
use Rattle.sva_model.specs.State.{Mappings, World}

-- the world with other mappings
abbrev pub with_mappings : World → Mappings → World
with_mappings w ms = record w { mappings = ms }
