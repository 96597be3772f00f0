-- What a command line asks for. clap's definitions say what a parse makes of words; here is the command that they speak of.
use Rattle.std.specs.Prelude.{◌≡◌, ◌≢◌, ◌⊎◌, ℕ, Bool, List, [], ◌∷◌, ◌++◌, false, true, codes, map, if◌then◌else◌, Option, None, Some, String, string_bytes}
use Rattle.std.specs.Prelude.{◌&&◌, ◌||◌, nat_le}
use Rattle.std.specs.Option.{option_map_or}
use Rattle.std.specs.Str.{bytes_eq}
use Rattle.std.specs.Str.Parse.{digits_value, without_leading_plus}
use Rattle.clap.specs.Faults.{level_fault}
use Rattle.clap.specs.Kinds.{or_else}
use Rattle.clap.specs.Simple.{subcommand_of}
use Rattle.clap.specs.ValueTests.{is_unsigned_in}
use Rattle.clap.specs.Walk.{first_of, nothing_held, rows_after}
use Rattle.clap.specs.Words.{App, IsAmong, IsUnsignedIn, Kinds, Row, Rule, Shape, Text, built, fault_of, new_app, new_rule, one_of}
use Rattle.clap.specs.Words.{with_rule, with_subcommand}
use Rattle.clap.specs.declared.builder.action.ArgAction.TheVariants.{Set, SetTrue}
use Rattle.clap.specs.declared.builder.value_parser.ValueParser.TheVariants.{Unsigned}
use Rattle.clap.specs.declared.error.kind.ErrorKind.{ErrorKind}
use Rattle.clap.specs.declared.error.kind.ErrorKind.TheVariants.{ArgumentConflict, DisplayHelp, DisplayVersion}
use Rattle.sva_command.specs.declared.command.Asked.{Asked}
use Rattle.sva_command.specs.declared.command.Beside.{Beside}
use Rattle.sva_command.specs.declared.command.Asked.TheVariants.{Replay, Check, Storm, Plain, Test, Show, Why, Chart, Explore, Judge, Trace}

-- `--turns N`, a number that is read as u64, from 1 to 1000000, or 10000 where it isn't given
abbrev pub turns_rule : Rule
turns_rule = record (new_rule (codes "turns")) {
  long = Some (codes "turns");
  action = Some Set;
  value_names = 1;
  defaults = codes "10000" ∷ [];
  parser = Some (Unsigned 1 1000000);
}

-- `--most N`, a number that is read as u64, from 1 to 1000000000, or 1000000 where it isn't given
abbrev pub most_rule : Rule
most_rule = record (new_rule (codes "most")) {
  long = Some (codes "most");
  action = Some Set;
  value_names = 1;
  defaults = codes "1000000" ∷ [];
  parser = Some (Unsigned 1 1000000000);
}

-- a flag, as `--live`
abbrev pub flag_rule : Text → Rule
flag_rule name = record (new_rule name) { long = Some name; action = Some SetTrue }

-- `svahost` with a version, before its commands, of which one is wanted
abbrev pub no_commands : App
no_commands = let plain = new_app (codes "svahost") in
    record plain { top = record plain.top { has_version = true; subcommand_required = true; disable_help_subcommand = true } }

-- the command `judge`
abbrev pub judge_app : App
judge_app =
    with_rule (with_rule (with_rule (with_rule (with_rule (with_rule (with_rule (new_app (codes "judge")) most_rule) (flag_rule (codes "run")))
    (flag_rule (codes "strict"))) (flag_rule (codes "all"))) (flag_rule (codes "needed"))) (flag_rule (codes "platforms")))
    (flag_rule (codes "chart"))

-- `svahost` with a version and its commands: `storm`, which takes `--turns`, `chart`, which takes `--svg`, `explore`, which takes `--most`,
-- `--why` and `--ends`, `judge`, which takes `--most`, `--run`, `--strict`, `--all`, `--needed`, `--platforms` and `--chart`, `trace`,
-- which takes `--live` and `--why`, and those that take no arguments; each has clap's flags for help
abbrev pub svahost : App
svahost =
    let replaying = with_subcommand no_commands (new_app (codes "replay")).top in
    let checking = with_subcommand replaying (new_app (codes "check")).top in
    let storming = with_subcommand checking (with_rule (new_app (codes "storm")) turns_rule).top in
    let plain_too = with_subcommand storming (new_app (codes "plain")).top in
    let testing = with_subcommand plain_too (new_app (codes "test")).top in
    let showing = with_subcommand testing (new_app (codes "show")).top in
    let explaining = with_subcommand showing (new_app (codes "why")).top in
    let charting = with_subcommand explaining (with_rule (new_app (codes "chart")) (flag_rule (codes "svg"))).top in
    let exploring = with_subcommand charting
    (with_rule (with_rule (with_rule (new_app (codes "explore")) most_rule) (flag_rule (codes "why"))) (flag_rule (codes "ends"))).top in
    let judging = with_subcommand exploring judge_app.top in
    with_subcommand judging (with_rule (with_rule (new_app (codes "trace")) (flag_rule (codes "live"))) (flag_rule (codes "why"))).top

-- the words of a command line as texts
abbrev pub texts : {Z : Type 0} → List (String Z) → List Text
texts = map string_bytes

-- the words are the program's name and this command. As behind the words of each command `--` may stand
abbrev pub IsCommand : Text → List Text → Type 0
IsCommand command words = (name : Text) × ((words ≡ name ∷ command ∷ []) ⊎ (words ≡ name ∷ command ∷ codes "--" ∷ []))

-- the text writes this number of turns: its decimal digits, behind a plus sign or none, and it is from 1 to 1000000
abbrev pub WritesTurns : ℕ → Text → Type 0
WritesTurns turns text = IsUnsignedIn 1 1000000 text × (turns ≡ digits_value 10 (without_leading_plus text))

-- the words behind `storm` give this number of turns: it stands in a word of its own, or behind `=`; or it is 10000
pub data GivesTurns (turns : ℕ) (words : List Text) : Type 0 where
  usual : words ≡ [] → turns ≡ 10000 → GivesTurns turns words
  apart : (text : Text) → words ≡ codes "--turns" ∷ text ∷ [] → WritesTurns turns text → GivesTurns turns words
  attached : (text : Text) → words ≡ (codes "--turns=" ++ text) ∷ [] → WritesTurns turns text → GivesTurns turns words

-- the words are the program's name, `storm`, and words that give this number of turns. As behind those `--` may stand
abbrev pub IsStorm : ℕ → List Text → Type 0
IsStorm turns words =
    (name : Text) × (rest : List Text) × GivesTurns turns rest
    × ((words ≡ name ∷ codes "storm" ∷ rest) ⊎ (words ≡ name ∷ codes "storm" ∷ rest ++ codes "--" ∷ []))

-- the command `trace` as clap builds it: the last one
abbrev pub last_shape : Shape → List Shape → Shape
last_shape shape [] = shape
last_shape shape (next ∷ shapes) = last_shape next shapes

abbrev pub trace_shape : Shape
trace_shape = last_shape (built svahost).top (built svahost).subs

-- the commands `chart`, `explore` and `judge` as clap builds them: the last but three, the last but two, and the last but one
abbrev pub last_but_three : Shape → List Shape → Shape
last_but_three shape [] = shape
last_but_three shape (last ∷ []) = shape
last_but_three shape (other ∷ last ∷ []) = shape
last_but_three shape (one ∷ other ∷ last ∷ []) = shape
last_but_three shape (next ∷ two ∷ one ∷ other ∷ shapes) = last_but_three next (two ∷ one ∷ other ∷ shapes)

abbrev pub last_but_two : Shape → List Shape → Shape
last_but_two shape [] = shape
last_but_two shape (last ∷ []) = shape
last_but_two shape (other ∷ last ∷ []) = shape
last_but_two shape (next ∷ one ∷ other ∷ shapes) = last_but_two next (one ∷ other ∷ shapes)

abbrev pub last_but_one : Shape → List Shape → Shape
last_but_one shape [] = shape
last_but_one shape (last ∷ []) = shape
last_but_one shape (next ∷ other ∷ shapes) = last_but_one next (other ∷ shapes)

abbrev pub chart_shape : Shape
chart_shape = last_but_three (built svahost).top (built svahost).subs

abbrev pub explore_shape : Shape
explore_shape = last_but_two (built svahost).top (built svahost).subs

abbrev pub judge_shape : Shape
judge_shape = last_but_one (built svahost).top (built svahost).subs

-- what was found of `--most`
abbrev pub most_text : List Row → Option Text
most_text = one_of (codes "most")

-- how many moments are to be looked at: the number that was found, or 1000000 where none was
abbrev pub most_by : Option Text → ℕ
most_by None = 1000000
most_by (Some text) = if is_unsigned_in 1 1000000000 text then digits_value 10 (without_leading_plus text) else 1000000

-- a number of moments that was read, where it is within its limits
abbrev pub within : Option ℕ → ℕ
within None = 1000000
within (Some most) = if nat_le 1 most && nat_le most 1000000000 then most else 1000000

-- was a flag found?
abbrev pub is_given : (flag : Text) → List Row → Bool
is_given flag rows = option_map_or (λ text. bytes_eq text (codes "true")) (first_of flag rows) false

-- the words behind `explore`, by clap's definitions: they have no fault, they give this number, and `--why` and `--ends` are among them or not
abbrev pub GivesWanted : (most : ℕ) → (whys few_ends : Bool) → List Text → Type 0
GivesWanted most whys few_ends words =
    (level_fault explore_shape [] nothing_held words false [] ≡ [])
    × (most ≡ most_by (most_text (rows_after explore_shape.rules [] words)))
    × (whys ≡ is_given (codes "why") (rows_after explore_shape.rules [] words))
    × (few_ends ≡ is_given (codes "ends") (rows_after explore_shape.rules [] words))

-- the words are the program's name, `explore`, and words that give this number of moments and say this of `--why` and of `--ends`
abbrev pub IsExplore : (most : ℕ) → (whys few_ends : Bool) → List Text → Type 0
IsExplore most whys few_ends words =
    (name : Text) × (rest : List Text) × GivesWanted most whys few_ends rest × (words ≡ name ∷ codes "explore" ∷ rest)

-- the words behind `trace`, by clap's definitions: they have no fault, and each of its flags is among them or not
abbrev pub GivesFlags : (live whys : Bool) → List Text → Type 0
GivesFlags live whys words =
    (level_fault trace_shape [] nothing_held words false [] ≡ [])
    × (live ≡ is_given (codes "live") (rows_after trace_shape.rules [] words))
    × (whys ≡ is_given (codes "why") (rows_after trace_shape.rules [] words))

-- the words are the program's name, `trace`, and words that say this of `--live` and of `--why`
abbrev pub IsTrace : (live whys : Bool) → List Text → Type 0
IsTrace live whys words = (name : Text) × (rest : List Text) × GivesFlags live whys rest × (words ≡ name ∷ codes "trace" ∷ rest)

-- what is asked of a driver beside its verdict
abbrev pub beside_in : List Row → Beside
beside_in rows = record { needed = is_given (codes "needed") rows; platforms = is_given (codes "platforms") rows; chart = is_given (codes "chart") rows }

-- the words behind `judge`, by clap's definitions: they have no fault, each of its flags is among them or not, and they give this number
abbrev pub GivesJudge : (run : Bool) → (most : ℕ) → (strict all : Bool) → Beside → List Text → Type 0
GivesJudge run most strict all beside words =
    (level_fault judge_shape [] nothing_held words false [] ≡ [])
    × (run ≡ is_given (codes "run") (rows_after judge_shape.rules [] words))
    × (most ≡ most_by (most_text (rows_after judge_shape.rules [] words)))
    × (strict ≡ is_given (codes "strict") (rows_after judge_shape.rules [] words))
    × (all ≡ is_given (codes "all") (rows_after judge_shape.rules [] words))
    × (beside ≡ beside_in (rows_after judge_shape.rules [] words))

-- the words are the program's name, `judge`, and words that say this of `--most` and of each of its flags
abbrev pub IsJudge : (run : Bool) → (most : ℕ) → (strict all : Bool) → Beside → List Text → Type 0
IsJudge run most strict all beside words =
    (name : Text) × (rest : List Text) × GivesJudge run most strict all beside rest × (words ≡ name ∷ codes "judge" ∷ rest)

-- the words behind `chart`, by clap's definitions: they have no fault, and `--svg` is among them or not
abbrev pub GivesSvg : Bool → List Text → Type 0
GivesSvg svg words =
    (level_fault chart_shape [] nothing_held words false [] ≡ []) × (svg ≡ is_given (codes "svg") (rows_after chart_shape.rules [] words))

-- the words are the program's name, `chart`, and words that say this of `--svg`
abbrev pub IsChart : Bool → List Text → Type 0
IsChart svg words = (name : Text) × (rest : List Text) × GivesSvg svg rest × (words ≡ name ∷ codes "chart" ∷ rest)

-- by clap's definitions the words ask for this command
abbrev pub Enters : Asked → List Text → Type 0
Enters Replay words = IsCommand (codes "replay") words
Enters Check words = IsCommand (codes "check") words
Enters (Storm turns) words = IsStorm turns words
Enters Plain words = IsCommand (codes "plain") words
Enters Test words = IsCommand (codes "test") words
Enters Show words = IsCommand (codes "show") words
Enters Why words = IsCommand (codes "why") words
Enters (Chart svg) words = IsChart svg words
Enters (Explore most whys few_ends) words = IsExplore most whys few_ends words
Enters (Judge run most strict all beside) words = IsJudge run most strict all beside words
Enters (Trace live whys) words = IsTrace live whys words

-- one of these was given, or two of them
abbrev pub is_any : Beside → Bool
is_any beside = beside.needed || beside.platforms || beside.chart

abbrev pub is_more : Beside → Bool
is_more beside = beside.needed && (beside.platforms || beside.chart) || beside.platforms && beside.chart

-- each is of a verdict on all orders, and with `--run` there is none. Where other texts of a driver are judged too, none of its findings is
-- told, and it is no matter what was tried; and one thing is asked at a time
abbrev pub clash : (run strict all : Bool) → Beside → Bool
clash run strict all beside =
    run && (strict || all || is_any beside) || (strict || all) && is_any beside || is_more beside

abbrev pub is_clash : Asked → Bool
is_clash (Judge run most strict all beside) = clash run strict all beside
is_clash asked = false

-- two options can't be meant together
abbrev pub own_faults : Asked → Kinds
own_faults asked = if is_clash asked then ArgumentConflict ∷ [] else []

-- the words ask for this command, and it can be meant
abbrev pub Asks : Asked → List Text → Type 0
Asks asked words = Enters asked words × (own_faults asked ≡ [])

-- the command that clap entered, by its name and by what was found of `--turns`
abbrev pub turns_text : List Row → Option Text
turns_text = one_of (codes "turns")

-- how many turns a storm is to have: the number that was found, or 10000 where none was
abbrev pub turns_by : Option Text → ℕ
turns_by None = 10000
turns_by (Some text) = digits_value 10 (without_leading_plus text)

-- the command that was asked for, by the subcommand that clap entered. What is none of the others stands for `replay`: where clap takes
-- the words, it has entered one of them
abbrev pub asked_by : Option (Text × List Row) → Asked
asked_by None = Replay
asked_by (Some (name, rows)) =
    if bytes_eq name (codes "check") then Check else
    if bytes_eq name (codes "storm") then Storm (turns_by (turns_text rows)) else
    if bytes_eq name (codes "plain") then Plain else
    if bytes_eq name (codes "test") then Test else
    if bytes_eq name (codes "show") then Show else
    if bytes_eq name (codes "why") then Why else
    if bytes_eq name (codes "chart") then Chart (is_given (codes "svg") rows) else
    if bytes_eq name (codes "explore") then Explore (most_by (most_text rows)) (is_given (codes "why") rows) (is_given (codes "ends") rows) else
    if bytes_eq name (codes "judge") then
    Judge (is_given (codes "run") rows) (most_by (most_text rows)) (is_given (codes "strict") rows) (is_given (codes "all") rows)
    (beside_in rows) else
    if bytes_eq name (codes "trace") then Trace (is_given (codes "live") rows) (is_given (codes "why") rows) else
    Replay

-- the faults of words: those that clap's definitions find, and where they find none, that of the command that was asked for
unfoldable pub faults_of : List Text → Kinds
faults_of words = or_else (fault_of svahost words) (own_faults (asked_by (subcommand_of svahost words)))

-- what was found of `--turns` is a number of turns
abbrev pub IsWritten : Option Text → Type 0
IsWritten found = (text : Text) → found ≡ Some text → IsUnsignedIn 1 1000000 text

-- the same of the subcommand that clap entered, where that is `storm`
abbrev pub IsReadable : Option (Text × List Row) → Type 0
IsReadable None = Unit {0}
IsReadable (Some (name, rows)) = name ≡ codes "storm" → IsWritten (turns_text rows)

-- the words ask for a run that reads standard input
abbrev pub AsksRun : List Text → Type 0
AsksRun words = (asked : Asked) × Asks asked words

-- the words ask for a race to be explored
abbrev pub AsksExplore : List Text → Type 0
AsksExplore words = (most : ℕ) × (whys : Bool) × (few_ends : Bool) × Asks (Explore most whys few_ends) words

-- the words ask for a driver to be judged, or its lines to be taken
abbrev pub AsksJudge : List Text → Type 0
AsksJudge words =
    (run : Bool) × (most : ℕ) × (strict : Bool) × (all : Bool) × (beside : Beside) × Asks (Judge run most strict all beside) words

-- the words ask for a driver to be judged, and for a verdict that says nothing to have a status of its own
abbrev pub AsksStrict : List Text → Type 0
AsksStrict words = (most : ℕ) × (all : Bool) × (beside : Beside) × Asks (Judge false most true all beside) words

-- a call for help: by a flag in the place of the command, whatever follows, or behind the command
pub data CallsHelp (words : List Text) : Type 0 where
  by_long : (name : Text) (rest : List Text) → words ≡ name ∷ codes "--help" ∷ rest → CallsHelp words
  by_short : (name : Text) (rest : List Text) → words ≡ name ∷ codes "-h" ∷ rest → CallsHelp words
  behind_replay : (name : Text) → words ≡ name ∷ codes "replay" ∷ codes "--help" ∷ [] → CallsHelp words
  behind_check : (name : Text) → words ≡ name ∷ codes "check" ∷ codes "--help" ∷ [] → CallsHelp words
  behind_storm : (name : Text) → words ≡ name ∷ codes "storm" ∷ codes "--help" ∷ [] → CallsHelp words
  behind_plain : (name : Text) → words ≡ name ∷ codes "plain" ∷ codes "--help" ∷ [] → CallsHelp words
  behind_test : (name : Text) → words ≡ name ∷ codes "test" ∷ codes "--help" ∷ [] → CallsHelp words
  behind_show : (name : Text) → words ≡ name ∷ codes "show" ∷ codes "--help" ∷ [] → CallsHelp words
  behind_why : (name : Text) → words ≡ name ∷ codes "why" ∷ codes "--help" ∷ [] → CallsHelp words
  behind_chart : (name : Text) → words ≡ name ∷ codes "chart" ∷ codes "--help" ∷ [] → CallsHelp words
  behind_explore : (name : Text) → words ≡ name ∷ codes "explore" ∷ codes "--help" ∷ [] → CallsHelp words
  behind_judge : (name : Text) → words ≡ name ∷ codes "judge" ∷ codes "--help" ∷ [] → CallsHelp words
  behind_trace : (name : Text) → words ≡ name ∷ codes "trace" ∷ codes "--help" ∷ [] → CallsHelp words

-- a call for the version: by a flag in the place of the command, whatever follows
pub data CallsVersion (words : List Text) : Type 0 where
  by_long_version : (name : Text) (rest : List Text) → words ≡ name ∷ codes "--version" ∷ rest → CallsVersion words
  by_short_version : (name : Text) (rest : List Text) → words ≡ name ∷ codes "-V" ∷ rest → CallsVersion words

-- the words ask for help or for the version, by clap's definitions
abbrev pub AsksText : List Text → Type 0
AsksText words = IsAmong DisplayHelp (faults_of words) ⊎ IsAmong DisplayVersion (faults_of words)

-- by clap's definitions the words have a fault, and it isn't that they ask for help or for the version
abbrev pub IsMistaken : List Text → Type 0
IsMistaken words = (kind : ErrorKind) × (kind ≢ DisplayHelp) × (kind ≢ DisplayVersion) × IsAmong kind (faults_of words)
