-- The headline, of what lies under a lock.
use Rattle.std.specs.Prelude.{◌≡◌, ◌≢◌, ℕ, map}
use Rattle.sva_model.specs.Journal.{steps_of}
use Rattle.sva_model.specs.State.UseState.{Running}
use Rattle.sva_model.specs.States.{place}
use Rattle.sva_model.specs.States.Place.{Free}
use Rattle.sva_model.specs.Wire.{wire}
use Rattle.sva_core.specs.Headline.{IsAgreed}
use Rattle.sva_core.specs.Reached.{IsReached}
use Rattle.sva_core.specs.Journal.{History, IsLegal, as_defined, world_of}

-- at the world to which a legal journal leads the headline holds, after the journal's own steps
abbrev pub JournalsAgree : Type 0
JournalsAgree =
    (history : History) → IsLegal history
    → (reached : IsReached (wire (world_of history)))
    × (reached.config ≡ history.config)
    × (reached.steps ≡ steps_of (map as_defined history.entries))
    × IsAgreed (wire (world_of history)) reached

-- a use of an endpoint runs at the journal's world
abbrev pub IsRunning : History → (endpoint use_of : ℕ) → Type 0
IsRunning history endpoint use_of = ((world_of history).part endpoint).use_state use_of ≡ Running

-- the frame of a use isn't free there
abbrev pub KeepsItsFrame : History → (endpoint use_of : ℕ) → Type 0
KeepsItsFrame history endpoint use_of =
    place (world_of history) ((world_of history).mappings.frame (((world_of history).part endpoint).use_mapping use_of)) ≢ Free
