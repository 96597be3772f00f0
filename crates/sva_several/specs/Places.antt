-- Where a line is shown in place.
use Rattle.std.specs.Prelude.{Bool}

-- what it is written to, and whether that is a terminal
pub record Place (W : Type 0) : Type 0 where
  pub to : W
  pub is_terminal : Bool
