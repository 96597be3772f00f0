-- What the fields of a memory are seen as, and what holds of them.
use Rattle.std.specs.Prelude.{◌≤◌, ℕ}
use Rattle.sva_address_spaces.specs.declared.address_spaces.AddressSpaces.TheInside.{Inside}
use Rattle.sva_address_spaces.specs.Seen.{AddressSpacesSeen, places_seen}
use Rattle.sva_address_spaces.specs.Lives.{spaces_seen, count_all, AreNumbered}
use Rattle.sva_address_spaces.specs.Owned.{mapped_bit}

-- what a memory is seen as: its live spaces, the places of its frames, and the number of the next space
abbrev pub spaces_in : Inside → AddressSpacesSeen
spaces_in memory = record { spaces = spaces_seen memory.spaces.items; places = places_seen memory.pool; next_space = memory.next_space }

-- no two spaces have one number, the next number is new, and no frame is at two pages, nor at one if it isn't mapped
pub record AreAddressSpaces (memory : Inside) : Type 0 where
  pub numbered : AreNumbered memory.spaces.items memory.next_space
  pub owned : (frame : ℕ) → count_all frame memory.spaces.items ≤ mapped_bit frame memory.pool
