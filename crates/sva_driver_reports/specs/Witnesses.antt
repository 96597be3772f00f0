-- What is told of a driver that is unsafe, or stuck, is so: a list of events that leads there, each with its line, and what is wrong,
-- or waits, at its end.
use Rattle.std.specs.Prelude.{◌≡◌, ◌⊎◌, ◌<◌, ◌≤◌, ◌==◌, ℕ, Bool, true, false, List, [], ◌∷◌, ◌++◌, codes, flat_map, length}
use Rattle.std.specs.Prelude.{replicate, slice_get, Option, Some, Ok}
use Rattle.std.specs.List.{list_any}
use Rattle.sva_grammar.specs.Replies.{ended}
use Rattle.sva_open.specs.declared.drivers.Driver.{Driver}
use Rattle.sva_open.specs.declared.drivers.Line.{Line}
use Rattle.sva_open_safe.specs.Wrongs.{first_wrong}
use Rattle.sva_open_safe.specs.declared.wrongs.Wrong.{Wrong}
use Rattle.sva_search.specs.Rules.{IsEnd}
use Rattle.sva_judge.specs.Choices.{next_in}
use Rattle.sva_judge.specs.Findings.{AreFound}
use Rattle.sva_judge.specs.Rules.{rules_of, waits_at}
use Rattle.sva_judge.specs.Spots.{Spot, start_of}
use Rattle.sva_judge.specs.Verdicts.{IsAlwaysSafe, IsLeak, IsStuck}
use Rattle.sva_judge.specs.declared.choices.Choice.{Choice}
use Rattle.sva_judge.specs.declared.findings.Finding.{Finding}
use Rattle.sva_driver_texts.specs.Texts.{DriverRead, IsRead, IsText, behind_first, driver_of, line_choice}
use Rattle.sva_driver_texts.specs.declared.kept.Read.{Read}
use Rattle.sva_driver_texts.specs.declared.kept.Text.{Text}
use Rattle.sva_driver_reports.specs.Findings.{wrong_text}
use Rattle.sva_driver_reports.specs.Judged.{IsTextJudged, IsTextRun, unsafe_at}
use Rattle.sva_driver_reports.specs.Reports.{budgets_text, events_count, last_text, others_text, parts_from, ruling_of_all, waiting_text}
use Rattle.sva_driver_reports.specs.Witness.{EventSaid, event_of, front_text}
use Rattle.sva_driver_reports.specs.declared.reports.Ruling.{Ruling}
use Rattle.sva_driver_reports.specs.declared.reports.Ruling.TheVariants as ruling
use Rattle.sva_driver_reports.specs.declared.wanted.Wanted.{Wanted}

-- ---- A witness

-- an event that waits or looks, and does nothing else, is a comment; behind all others stands, after some blanks, who acts
abbrev pub IsLineBy : (is_comment : Bool) → EventSaid → (line : List ℕ) → Type 0
IsLineBy true event line = line ≡ codes "# " ++ event.who ++ codes ": " ++ event.text
IsLineBy false event line = (blanks : ℕ) × (line ≡ event.text ++ replicate blanks 32 ++ codes " # " ++ event.who)

-- no line end (10) is in it
abbrev pub IsOneLine : List ℕ → Type 0
IsOneLine line = list_any (λ byte. byte == 10) line ≡ false

-- the line tells of the choice what it is at this spot
pub record TellsChoice (text : Text) (spot : Spot) (choice : Choice) (line : List ℕ) : Type 0 where
  pub event : EventSaid
  pub is : event_of text spot choice ≡ Some event
  pub told : IsLineBy event.is_comment event line
  pub whole : IsOneLine line

-- A line for each choice, in order: each choice is permitted at the spot to which those before it lead, its line tells what it is
-- there, and all of them lead to the last spot.
abbrev pub AreTold : Text → Spot → List Choice → (lines : List (List ℕ)) → (last : Spot) → Type 0
AreTold text spot [] [] last = spot ≡ last
AreTold text spot (choice ∷ choices) (line ∷ lines) last =
    TellsChoice text spot choice line × ((next : Spot) × (next_in text.driver spot choice ≡ Some next) × AreTold text next choices lines last)
AreTold text spot choices lines last = ⊥

-- The first line says how many events there are, and what is wrong behind them; then comes the front, and then a line for each event,
-- and no more. No list of fewer events leads to a moment that isn't safe.
pub record HasWitness (text : Text) (out : List ℕ) : Type 0 where
  pub choices : List Choice
  pub shortest : (other : List Choice) → IsLeak text.driver other → length choices ≤ length other
  pub lines : List (List ℕ)
  pub last : Spot
  pub told : AreTold text (start_of text.driver) choices lines last
  pub found : Wrong
  pub wrong : first_wrong last.world ≡ Some found
  pub report : out
      ≡ codes "unsafe in " ++ events_count (length lines) ++ codes ": " ++ wrong_text found
      ++ 10 ∷ (front_text text ++ flat_map ended lines)

-- The first line says how many events there are, and which line waits for ever behind them; then comes what else waits there, what the
-- endpoints have, the budgets and the front, and then a line for each event, and no more. They lead to an end at which a line waits, and
-- no list of fewer events does; and each moment is safe.
pub record HasEnd (text : Text) (out : List ℕ) : Type 0 where
  pub choices : List Choice
  pub shortest : (other : List Choice) → IsStuck text.driver other → length choices ≤ length other
  pub safe : IsAlwaysSafe text.driver
  pub lines : List (List ℕ)
  pub last : Spot
  pub told : AreTold text (start_of text.driver) choices lines last
  pub ends : IsEnd (rules_of text.driver) last
  pub waits : waits_at last ≡ true
  pub report : out
      ≡ codes "stuck in " ++ events_count (length lines) ++ codes ": " ++ waiting_text text last
      ++ 10 ∷ others_text text last ++ parts_from 0 last.world.parts ++ budgets_text (codes "# ") text
      ++ (front_text text ++ flat_map ended lines)

-- ---- All findings

-- The first line says how many events there are, and what is wrong behind them; then comes the front, and then a line for each event.
pub record TellsFinding (text : Text) (one : Finding) (out : List ℕ) : Type 0 where
  pub lines : List (List ℕ)
  pub last : Spot
  pub told : AreTold text (start_of text.driver) one.witness.items lines last
  pub wrong : first_wrong last.world ≡ Some one.wrong
  pub report : out
      ≡ (codes "unsafe in " ++ events_count (length lines) ++ codes ": " ++ wrong_text one.wrong ++ 10 ∷ [])
      ++ (front_text text ++ flat_map ended lines)

-- one after another, and no more
abbrev pub TellEach : Text → List Finding → (out : List ℕ) → Type 0
TellEach text [] out = out ≡ []
TellEach text (one ∷ found) out =
    (own : List ℕ) × (rest : List ℕ) × TellsFinding text one own × TellEach text found rest × (out ≡ own ++ rest)

-- All that is wrong where a list leads that was tried, each once, with a list as short as any; then how many there are, and whether the
-- search was cut off.
pub record HasFindings (text : Text) (said : Ruling) (out : List ℕ) : Type 0 where
  pub found : List Finding
  pub cut : Option ℕ
  pub moments : ℕ
  pub rules : said ≡ ruling_of_all cut
  pub are : AreFound text.driver cut found
  pub each : List ℕ
  pub told : TellEach text found each
  pub report : out ≡ each ++ last_text (length found) cut moments

-- ---- A line behind which something is wrong

-- The first of so many lines that is such: those before it lead to nothing wrong, it is permitted there, and what is wrong behind it is
-- told with its number, and nothing else.
pub record HasLeak (driver : Driver) (count : ℕ) (out : List ℕ) : Type 0 where
  pub place : ℕ
  pub among : place < count
  pub line : Line
  pub stands : slice_get driver.lines.items place ≡ Some line
  pub before : Spot
  pub first : behind_first driver place ≡ Ok before
  pub spot : Spot
  pub leads : next_in driver before (line_choice place) ≡ Some spot
  pub found : Wrong
  pub wrong : first_wrong spot.world ≡ Some found
  pub report : out ≡ unsafe_at line.number found

-- ---- The laws

-- a driver is read of the text, and of that it is so
abbrev pub HasRead : (text : List ℕ) → (IsSo : Read → Type 0) → Type 0
HasRead text IsSo = (from : DriverRead) × (read : Read) × (driver_of text ≡ Ok from) × IsRead from read × IsSo read

-- a text that is judged as unsafe, where not all findings are wanted, is told as unsafe at a line before `race`, or has a witness behind
-- these
abbrev pub WitnessesAreTold : Type 0
WitnessesAreTold = (text : List ℕ) (wanted : Wanted) (out : List ℕ) → wanted.all ≡ false → IsTextJudged text wanted (Some ruling.Unsafe) out
    → HasRead text (λ (read : Read). HasLeak read.opening read.before out ⊎ ((behind : Text) × IsText read behind × HasWitness behind out))

-- unsafe, whether all findings are told or not all may be
abbrev pub IsUnsafe : Ruling → Type 0
IsUnsafe said = (said ≡ ruling.Unsafe) ⊎ (said ≡ ruling.UnsafeSoFar)

-- and where they are, with their witnesses, it has all findings behind these lines
abbrev pub FindingsAreTold : Type 0
FindingsAreTold = (text : List ℕ) (wanted : Wanted) (said : Ruling) (out : List ℕ) → wanted.all ≡ true → wanted.lines_alone ≡ false → IsUnsafe said
    → IsTextJudged text wanted (Some said) out
    → HasRead text (λ (read : Read). HasLeak read.opening read.before out ⊎ ((behind : Text) × IsText read behind × HasFindings behind said out))

-- one that is judged as stuck has a list to an end at which a line waits
abbrev pub EndsAreTold : Type 0
EndsAreTold = (text : List ℕ) (wanted : Wanted) (out : List ℕ) → IsTextJudged text wanted (Some ruling.Stuck) out
    → HasRead text (λ (read : Read). (behind : Text) × IsText read behind × HasEnd behind out)

-- and one whose lines are taken one after another, at one of all its lines
abbrev pub LeaksAreTold : Type 0
LeaksAreTold = (text out : List ℕ) → IsTextRun text (Some ruling.Unsafe) out
    → HasRead text (λ (read : Read). HasLeak read.opening (length read.opening.lines.items) out)
