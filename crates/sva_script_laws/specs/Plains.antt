-- What a replay takes is its own plain scenario.
use Rattle.std.specs.Prelude.{◌≡◌, true, false, if◌then◌else◌, List, ℕ, [], ◌∷◌, ◌++◌, Ok}
use Rattle.sva_grammar.specs.Grammar.{Script, scenario_of}
use Rattle.sva_grammar.specs.Laws.{is_ended}
use Rattle.sva_reports.specs.Report.{report_of}
use Rattle.sva_grammar.specs.Configs.{is_fit}
use Rattle.sva_script_reading.specs.Said.{bad, well}
use Rattle.sva_script_reports.specs.Scripts.{if_small, plain_of}

-- a text with an LF (10) behind its last line
abbrev pub whole : List ℕ → List ℕ
whole text = if is_ended text then text else text ++ 10 ∷ []

-- A scenario that a replay runs is given back byte for byte, with the LF that its last line may lack, unless that makes
-- it too large.
abbrev pub ScenariosArePlain : Type 0
ScenariosArePlain =
    (text : List ℕ) (script : Script) → scenario_of text ≡ Ok script → is_fit script.config ≡ true
    → plain_of text ≡ if_small (whole text)

-- what is given back is the same scenario, and so has the same report
abbrev pub PlainsAreSame : Type 0
PlainsAreSame =
    (text plain : List ℕ) (script : Script) → scenario_of text ≡ Ok script → plain_of text ≡ well plain
    → (scenario_of plain ≡ Ok script) × (report_of plain ≡ report_of text)

-- where the config is out of its limits, `plain` says what the report says
abbrev pub UnfitIsTold : Type 0
UnfitIsTold =
    (text : List ℕ) (script : Script) → scenario_of text ≡ Ok script → is_fit script.config ≡ false
    → plain_of text ≡ bad (report_of text)

-- the plain scenario of a script is its own
abbrev pub PlainsStay : Type 0
PlainsStay = (text plain : List ℕ) → plain_of text ≡ well plain → plain_of plain ≡ well plain
