-- Rows that show what would be false of the worlds of pages.
use Rattle.std.specs.Prelude.{◌≡◌, ℕ, true, false, [], ◌∷◌, Some, None, is_some}
use Rattle.sva_open.specs.declared.frames.Translation.{Translation}
use Rattle.sva_open.specs.declared.rows.State.TheVariants.{Stopping}
use Rattle.sva_open.specs.declared.works.Request.{Request}
use Rattle.sva_open.specs.declared.works.Work.TheVariants.{Use}
use Rattle.sva_open.specs.declared.scopes.Scope.TheVariants as scope
use Rattle.sva_open.specs.declared.settings.Settings.{Settings}
use Rattle.sva_open.specs.declared.acts.LocalAct.TheVariants as local
use Rattle.sva_open.specs.World.{Part, blank, part_opened, untouched}
use Rattle.sva_open.specs.Devices.{doomed}
use Rattle.sva_open.specs.Acts.{next_part}
use Rattle.sva_open_laws.specs.Pages.{its_local, its_part}

abbrev leading_at : (page : ℕ) → Translation
leading_at page = record { pasid = 0; page = page; owner = 0; target = record { frame = 0; tenure = untouched; write = true } }

-- an endpoint that is to stop PASID 0, under which it uses page 17 and, begun later, page 16
abbrev stopping : Part
stopping =
    record (part_opened 1 0 (record { lies = false; awaits = false })) {
      rows = record blank { state = Stopping } ∷ [];
      works = Use (leading_at 17) ∷ Use (leading_at 16) ∷ [];
    }

-- The second use of all is the first in the world of page 16. Named there by its place among all, it couldn't end.
abbrev pub PlacesMove : Type 0
PlacesMove = (settings : Settings)
    → (its_local 16 stopping (local.End 1) ≡ Some (local.End 0)) × (next_part settings [] (its_part 16 stopping) (local.End 1) ≡ None)

-- What isn't permitted of the whole may be so in the world of a page: as long as a use runs the endpoint may not say that it has
-- stopped, and the host doesn't see it idle; and no use is of page 18.
abbrev pub LessIsAwaited : Type 0
LessIsAwaited = (settings : Settings)
    → (next_part settings [] stopping (local.Quit 0) ≡ None)
    × (is_some (next_part settings [] (its_part 18 stopping) (local.Quit 0)) ≡ true)
    × (next_part settings [] stopping local.AwaitIdle ≡ None)
    × (is_some (next_part settings [] (its_part 18 stopping) local.AwaitIdle) ≡ true)

abbrev asked : (page : ℕ) → Request
asked page = record { pasid = 0; page = page; owner = 0; is_doomed = false; noted = None }

-- Other pages can't be taken for one, though they all lead nowhere: an invalidation of page 18 dooms the request for that, and not the
-- one for page 17.
abbrev pub OthersAreSeveral : Type 0
OthersAreSeveral =
    (doomed (scope.Pages 0 18 1) (Some (asked 18)) ≡ Some (record (asked 18) { is_doomed = true }))
    × (doomed (scope.Pages 0 18 1) (Some (asked 17)) ≡ Some (asked 17))
