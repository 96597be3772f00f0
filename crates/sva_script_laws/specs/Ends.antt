-- Each race comes to an end: a line is taken once, and whatever else is chosen lowers a measure.
use Rattle.std.specs.Prelude.{◌≡◌, ◌<◌, ℕ, suc, ◌+◌, Bool, true, false, not, List, ◌++◌, Some, None, count_by, sum_by}
use Rattle.sva_search.specs.Rules.{LeadsTo}
use Rattle.sva_race_texts.specs.declared.terms.choices.Act.{Act}
use Rattle.sva_race_texts.specs.declared.terms.choices.Act.TheVariants as act
use Rattle.sva_race_texts.specs.declared.terms.choices.Choice.{Choice}
use Rattle.sva_race_texts.specs.declared.terms.races.Race.{Race}
use Rattle.sva_race.specs.Acts.{next_in}
use Rattle.sva_race.specs.Moments.{Moment}
use Rattle.sva_race.specs.Rules.{rules_of}
use Rattle.sva_script_laws.specs.Weights.{budget_weight, wire_weight}

-- how many lines weren't taken yet
abbrev pub lines_left : Moment → ℕ
lines_left moment = count_by not moment.taken

-- what host, endpoints and link have yet to do, and what is left to devices
abbrev pub measure : Moment → ℕ
measure moment = sum_by budget_weight moment.left + wire_weight moment.wire

abbrev pub is_line : Act → Bool
is_line act.Line = true
is_line _ = false

-- Where a line is taken, one less is left.
abbrev pub LinesAreTakenOnce : Type 0
LinesAreTakenOnce = (race : Race) (moment next : Moment) (choice : Choice) → is_line choice.act ≡ true → next_in race moment choice ≡ Some next
    → lines_left next < lines_left moment

-- Whatever else is permitted lowers the measure, and takes no line.
abbrev pub EachActLowers : Type 0
EachActLowers = (race : Race) (moment next : Moment) (choice : Choice) → is_line choice.act ≡ false → next_in race moment choice ≡ Some next
    → (measure next < measure moment) × (lines_left next ≡ lines_left moment)

-- So there is no endless list of choices, from whatever moment.
abbrev pub NoneIsEndless : Type 0
NoneIsEndless = (race : Race) (moments : ℕ → Moment) (choices : ℕ → Choice)
    → ((k : ℕ) → next_in race (moments k) (choices k) ≡ Some (moments (suc k))) → ⊥

-- nothing is permitted any more
abbrev pub IsAtRest : Race → Moment → Type 0
IsAtRest race moment = (choice : Choice) → next_in race moment choice ≡ None

-- From each moment one is reached at which nothing is permitted: there is an end.
abbrev pub EndsAreThere : Type 0
EndsAreThere = (race : Race) (choices : List Choice) (moment : Moment) → LeadsTo (rules_of race) choices moment
    → (more : List Choice) × (last : Moment) × LeadsTo (rules_of race) (choices ++ more) last × IsAtRest race last
