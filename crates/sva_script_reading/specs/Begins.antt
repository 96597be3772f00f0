-- A script before it is run: its lines, its config, and all that is wrong with them.
use Rattle.std.specs.Prelude.{ℕ, ◌+◌, nat_lt, Bool, true, false, if◌then◌else◌, List, [], ◌∷◌, ◌++◌, codes}
use Rattle.std.specs.Prelude.{flat_map, length}
use Rattle.std.specs.Prelude.{is_err, is_none, position, Option, None, Result, Ok, Err}
use Rattle.std.specs.List.{enumerate_from}
use Rattle.std.specs.Option.{unwrap_or}
use Rattle.std.specs.Str.{bytes_eq}
use Rattle.sva_step.specs.declared.limits.Config.{Config}
use Rattle.sva_step.specs.declared.refusals.Refusal.TheVariants.{BadConfig}
use Rattle.sva_step.specs.Refusals.{refusal_text}
use Rattle.sva_grammar.specs.declared.faults.Cause.{Cause}
use Rattle.sva_grammar.specs.Grammar.{config_read, is_too_large, lines_of, number}
use Rattle.sva_grammar.specs.Configs.{is_fit}
use Rattle.sva_grammar.specs.Replies.{ended}
use Rattle.sva_script.specs.declared.faults.Wanted.{Wanted}
use Rattle.sva_script.specs.declared.faults.Wanted.TheVariants as wanted
use Rattle.sva_script.specs.declared.faults.Wrong.{Wrong}
use Rattle.sva_script.specs.declared.places.Field.TheVariants.{Count}
use Rattle.sva_script.specs.Lines.{parts_of, script_words}
use Rattle.sva_script.specs.Names.{Known}
use Rattle.sva_script_reading.specs.Faults.{Fault}
use Rattle.sva_script_reading.specs.Said.{Said, bad, faulty}
use Rattle.sva_script_reading.specs.Lines.{LineRead, line_read, named}
use Rattle.sva_script_reading.specs.Messages.{link_of}
use Rattle.sva_script.specs.Names.{with_name}

-- a line: its number, and its text
abbrev pub Line : Type 0
Line = ℕ × List ℕ

-- the lines of a text, the first of this number
abbrev pub lines_from : (first : ℕ) → List ℕ → List Line
lines_from first text = enumerate_from first (lines_of text)

-- words, one space (32) between two
abbrev pub joined_words : List (List ℕ) → List ℕ
joined_words [] = []
joined_words (word ∷ words) = word ++ flat_map (λ next. 32 ∷ next) words

-- a line that is wrong, where these are the names before it
abbrev pub fault_of : Known → (line : ℕ) → List (List ℕ) → Wrong → Fault
fault_of known line words wrong = record { line = line; words = words; wrong = wrong; known = known }

abbrev pub at_word : ℕ → Wanted → Wrong
at_word at wanted = record { at = at; wanted = wanted }

-- ---- The config

-- how many counts are numbers, up to the first that isn't one
abbrev pub good_counts : List (List ℕ) → ℕ
good_counts counts = unwrap_or (position (λ count. is_err (number count)) counts) (length counts)

-- behind `config` stand three counts, and no more
abbrev pub counts_wrong : (good : ℕ) → Wrong
counts_wrong good = if nat_lt good 3 then at_word (good + 1) (wanted.Field Count) else at_word 4 wanted.NoMore

-- what is wrong with words that are no config
abbrev pub config_wrong : List (List ℕ) → Wrong
config_wrong [] = at_word 0 wanted.Config
config_wrong (first ∷ counts) = if bytes_eq first (codes "config") then counts_wrong (good_counts counts) else at_word 0 wanted.Config

-- the config that a line writes, or what is wrong with it
abbrev pub config_by : (line : ℕ) → List (List ℕ) → Result Config Cause → Result Config Fault
config_by line words (Ok config) = Ok config
config_by line words (Err cause) = Err (fault_of [] line words (config_wrong words))

-- the config with the lines behind it
abbrev pub config_with : List Line → Result Config Fault → Result (Config × List Line) Fault
config_with lines (Ok config) = Ok (config, lines)
config_with lines (Err fault) = Err fault

-- the config is the first line that says something; the line before these has the number `before`
abbrev pub config_at : Line → List Line → (later : Result (Config × List Line) Fault) → List (List ℕ) → Result (Config × List Line) Fault
config_at line lines later [] = later
config_at line lines later words = config_with lines (config_by line.0 words (config_read (joined_words words)))

unfoldable pub config_in : (before : ℕ) → List Line → Result (Config × List Line) Fault
config_in before [] = Err (fault_of [] (before + 1) [] (at_word 0 wanted.Config))
config_in before (line ∷ lines) = config_at line lines (config_in line.0 lines) (script_words line.1)

-- ---- The lines, before anything is run

-- the names behind a line: its own stands from here on where it is one and new, also where the line is wrong
abbrev pub noted_if : Known → (line : ℕ) → Option (List ℕ) → Result (Unit {0}) Wrong → Known
noted_if known line name (Ok done) = with_name known name (record { line = line; told = None })
noted_if known line name (Err wrong) = known

abbrev pub noted : Known → (line : ℕ) → Option (List ℕ) → Known
noted known line name = noted_if known line name (named known name)

-- what is wrong with a line that was read so, and with those behind it
abbrev pub faults_read : Known → (line : ℕ) → List (List ℕ) → (rest : Known → Bool → List Fault) → Result LineRead Wrong → List Fault
faults_read known line words rest (Ok read) = rest (noted known line (parts_of words).name) (is_none read.step)
faults_read known line words rest (Err wrong) = fault_of known line words wrong ∷ rest (noted known line (parts_of words).name) false

-- behind `end => ..` no line may say anything
abbrev pub faults_at : Known → (is_past : Bool) → (line : ℕ) → (rest : Known → Bool → List Fault) → List (List ℕ) → List Fault
faults_at known is_past line rest [] = rest known is_past
faults_at known is_past line rest words =
    if is_past then fault_of known line words (at_word 0 wanted.NoLine) ∷ rest known true
    else faults_read known line words rest (line_read known (link_of None) (parts_of words))

-- what is wrong with the lines from here on
unfoldable pub faults_from : Known → (is_past : Bool) → List Line → List Fault
faults_from known is_past [] = []
faults_from known is_past (line ∷ lines) = faults_at known is_past line.0 (λ names past. faults_from names past lines) (script_words line.1)

-- a config whose lines are right
abbrev pub if_right : Config → List Fault → Result Config Said
if_right config [] = Ok config
if_right config (fault ∷ faults) = Err (faulty (fault ∷ faults))

abbrev pub begun : Result (Config × List Line) Fault → Result Config Said
begun (Ok (config, lines)) = if_right config (faults_from [] false lines)
begun (Err fault) = Err (faulty (fault ∷ []))

abbrev pub too_large : Said
too_large = bad (ended (codes "line 0: the script has more than 1048576 bytes or 65536 lines"))

-- the config of a script, whatever is wrong with the lines behind it, or what is said of one that has none
abbrev pub config_alone : Result (Config × List Line) Fault → Result Config Said
config_alone (Ok (config, lines)) = Ok config
config_alone (Err fault) = Err (faulty (fault ∷ []))

abbrev pub first_config : List ℕ → Result Config Said
first_config text = if is_too_large text then Err too_large else config_alone (config_in 0 (lines_from 1 text))

-- the config of a script, or what is said of one that can't be run
abbrev pub begin_of : List ℕ → Result Config Said
begin_of text = if is_too_large text then Err too_large else begun (config_in 0 (lines_from 1 text))

-- a script is run where its config is within its limits
abbrev pub said_by : (run : Config → Said) → Result Config Said → Said
said_by run (Ok config) = if is_fit config then run config else bad (ended (refusal_text BadConfig))
said_by run (Err said) = said
