-- The highest of what a list's elements have, found from the front.
use Rattle.std.proofs.Common.{◌≡◌, ℕ, List, drop}
use Rattle.std.specs.Prelude.{max}
use Rattle.sva_open.specs.Devices.{highest}

-- what was looked at, and the rest, come to the whole
abbrev pub Found : {X : Type 0} → (X → ℕ) → List X → (k top : ℕ) → Type 0
Found at xs k top = max top (highest at (drop k xs)) ≡ highest at xs
