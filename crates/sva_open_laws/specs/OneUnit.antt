-- Endpoints below one unit see one unit, whatever acts come.
use Rattle.std.specs.Prelude.{◌≡◌, ℕ, true, List, Some, slice_get}
use Rattle.sva_open.specs.declared.acts.Act.{Act}
use Rattle.sva_open.specs.declared.settings.Conduct.{Conduct}
use Rattle.sva_open.specs.declared.settings.Settings.{Settings}
use Rattle.sva_open.specs.Below.{is_one, seen}
use Rattle.sva_open.specs.World.{Open, Part, opened}
use Rattle.sva_open_laws.specs.Pages.{after}

pub record SeeOneUnit (now : Open) : Type 0 where
  -- each endpoint stands at its number
  pub numbered : (endpoint : ℕ) (part : Part) → slice_get now.parts endpoint ≡ Some part → part.endpoint ≡ endpoint
  -- what one of two below a unit sees of it is what the other one does
  pub same : (one other : ℕ) (its their : Part) → slice_get now.parts one ≡ Some its → slice_get now.parts other ≡ Some their
      → is_one (slice_get now.units one) (slice_get now.units other) ≡ true → seen its their ≡ their

abbrev pub AlwaysSeeOneUnit : Type 0
AlwaysSeeOneUnit =
    (settings : Settings) (conducts : List Conduct) (units : List ℕ) (pasids frames : ℕ) (acts : List Act) (now : Open)
    → after (Some (opened settings conducts units pasids frames)) acts ≡ Some now → SeeOneUnit now
