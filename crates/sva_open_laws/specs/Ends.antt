-- Each driver comes to an end: whatever is chosen lowers a measure, so that no list of events is longer than the driver's start measures.
use Rattle.std.specs.Prelude.{◌≡◌, ◌<◌, ◌≤◌, ⊤, ℕ, ◌+◌, ◌*◌, false, List, ◌++◌, drop, length, sum_by, Option, Some, None, slice_get}
use Rattle.sva_search.specs.Rules.{LeadsTo}
use Rattle.sva_open.specs.declared.drivers.Budget.{Budget}
use Rattle.sva_open.specs.declared.drivers.Driver.{Driver}
use Rattle.sva_open.specs.declared.drivers.Line.{Line}
use Rattle.sva_open.specs.declared.drivers.Saying.{Saying}
use Rattle.sva_open.specs.declared.drivers.Saying.TheVariants.{Does, Names}
use Rattle.sva_open.specs.declared.naming.Named.{Named}
use Rattle.sva_open.specs.declared.naming.Named.TheVariants as named
use Rattle.sva_judge.specs.Choices.{next_in}
use Rattle.sva_judge.specs.Rules.{rules_of, waits_at}
use Rattle.sva_judge.specs.Spots.{Spot, start_of}
use Rattle.sva_judge.specs.Verdicts.{IsStuck}
use Rattle.sva_judge.specs.declared.choices.Choice.{Choice}
use Rattle.sva_driver_texts.specs.Texts.{ReadsDriver, driver_of}
use Rattle.sva_driver_texts.specs.declared.kept.Begun.TheVariants.{Stands}
use Rattle.sva_driver_texts.specs.declared.kept.Text.{Text}
use Rattle.sva_open_laws.specs.Weights.{AreNumbered, act_price, further_price, world_weight}

-- ---- lines go forward

abbrev pub IsBehind : (place : ℕ) → Option ℕ → Type 0
IsBehind place None = ⊤
IsBehind place (Some next) = place < next

-- A thread goes on with a line that stands behind the one that was taken, or with none.
abbrev pub GoesForward : Driver → Type 0
GoesForward driver = (place : ℕ) (line : Line) → slice_get driver.lines.items place ≡ Some line
    → IsBehind place line.next × IsBehind place line.other

-- So it is of each driver that is read from a text; and at its start each endpoint stands at its number.
abbrev pub TextsGoForward : Type 0
TextsGoForward = (text : List ℕ) (its : Text) (out : List ℕ) → ReadsDriver (driver_of text) (Stands its) out
    → GoesForward its.driver × AreNumbered its.driver.start.parts

-- ---- the measure of a moment: of what the threads have before them, of the budgets, and of the world

abbrev pub named_price : Named → ℕ
named_price (named.More pasid index page write last) = further_price last
named_price _ = 0

abbrev pub saying_price : Saying → ℕ
saying_price (Does its) = act_price its
saying_price (Names endpoint name) = named_price name
saying_price _ = 1

abbrev pub line_price : Line → ℕ
line_price line = saying_price line.saying

-- that of a thread, by its next line: it comes to some of those from there on
abbrev pub ahead_of : List Line → Option ℕ → ℕ
ahead_of lines None = 0
ahead_of lines (Some place) = sum_by line_price (drop place lines)

abbrev pub budget_weight : Budget → ℕ
budget_weight left = 6 * left.asks + 2 * left.uses + 12 * left.faults

abbrev pub measure : Driver → Spot → ℕ
measure driver spot = sum_by (ahead_of driver.lines.items) spot.at + sum_by budget_weight spot.left + world_weight spot.world

-- ---- each driver ends

-- Each event that is permitted lowers it.
abbrev pub EachEventLowers : Type 0
EachEventLowers = (driver : Driver) → GoesForward driver → (spot next : Spot) (choice : Choice) → AreNumbered spot.world.parts
    → next_in driver spot choice ≡ Some next → measure driver next < measure driver spot

-- So there is no endless list of events: one leads no further than to what the start measures.
abbrev pub ListsAreBounded : Type 0
ListsAreBounded = (driver : Driver) → GoesForward driver → AreNumbered driver.start.parts
    → (choices : List Choice) (spot : Spot) → LeadsTo (rules_of driver) choices spot
    → length choices + measure driver spot ≤ measure driver (start_of driver)

-- nothing is permitted any more
abbrev pub IsAtRest : Driver → Spot → Type 0
IsAtRest driver spot = (choice : Choice) → next_in driver spot choice ≡ None

-- some list that begins with these leads to such a moment
abbrev pub ComesToRest : Driver → List Choice → (Spot → Type 0) → Type 0
ComesToRest driver choices Such =
    (more : List Choice) × (last : Spot) × LeadsTo (rules_of driver) (choices ++ more) last × IsAtRest driver last × Such last

-- From each moment one is reached at which nothing is permitted: there is an end.
abbrev pub EndsAreThere : Type 0
EndsAreThere = (driver : Driver) → GoesForward driver → AreNumbered driver.start.parts
    → (choices : List Choice) (spot : Spot) → LeadsTo (rules_of driver) choices spot
    → ComesToRest driver choices (λ last. ⊤)

-- no line waits
abbrev pub IsDone : Spot → Type 0
IsDone spot = waits_at spot ≡ false

-- Of a driver that is never stuck each list can be led on until each thread has taken its last line, and nothing is permitted; and
-- wherever nothing is permitted, that is so.
abbrev pub NeverStuckIsDone : Type 0
NeverStuckIsDone = (driver : Driver) → GoesForward driver → AreNumbered driver.start.parts
    → ((choices : List Choice) → IsStuck driver choices → ⊥)
    → (choices : List Choice) (spot : Spot) → LeadsTo (rules_of driver) choices spot
    → ComesToRest driver choices IsDone × (IsAtRest driver spot → IsDone spot)
