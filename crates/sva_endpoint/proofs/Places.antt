-- Facts on tables of places.
use Rattle.std.proofs.lemmas.List.{set_past, get_or_past}

-- a place beyond the end of a table
pub ruleset past_the_end = (set_past, get_or_past)
