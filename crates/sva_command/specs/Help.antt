-- Help: what a command line asks for as to that, and which passages a topic has.
use Rattle.std.specs.Prelude.{Bool, false, List, [], ◌∷◌, ◌++◌, codes, if◌then◌else◌, ◌||◌, is_some, ℕ, Option, Some, None}
use Rattle.std.specs.Str.{bytes_eq}
use Rattle.clap.specs.Words.{Text}
use Rattle.sva_script.specs.Near.{is_near}
use Rattle.sva_command.specs.Command.{texts}
use Rattle.sva_command.specs.Files.{takes_of}
use Rattle.sva_command.specs.declared.topics.Called.TheVariants as code
use Rattle.sva_command.specs.declared.topics.Called as the
use Rattle.sva_command.specs.declared.topics.Passage.{Passage}
use Rattle.sva_command.specs.declared.topics.Passage.TheVariants as passage
use Rattle.sva_command.specs.declared.topics.Topic.{Topic}
use Rattle.sva_command.specs.declared.topics.Topic.TheVariants.{Scenarios, Scripts, Races, Drivers, Statuses, All}

-- nothing, or what the command line answers by these words; help on a topic; or this is told
pub data Called : Type 0 where
  Own : (words : List Text) → Called
  On : Topic → Called
  Wrong : (said : List ℕ) → Called

-- the same of the code's value
abbrev pub means : the.Called → Called
means (code.Own words) = Own (texts words.items)
means (code.On topic) = On topic
means (code.Wrong said) = Wrong said.items

-- ---- Topics

-- a topic's passages, in the order that they have in all of help
abbrev pub passages_of : Topic → List Passage
passages_of Scenarios = passage.Scenarios ∷ passage.Running ∷ passage.Steps ∷ passage.Messages ∷ passage.More ∷ []
passages_of Scripts = passage.Scripts ∷ passage.Steps ∷ passage.Messages ∷ passage.More ∷ []
passages_of Races = passage.Races ∷ passage.Steps ∷ passage.More ∷ []
passages_of Drivers = passage.Drivers ∷ passage.Acts ∷ passage.More ∷ []
passages_of Statuses = passage.Statuses ∷ []
passages_of All =
    passage.Program ∷ passage.Drivers ∷ passage.Scenarios ∷ passage.Building ∷ passage.Running ∷ passage.Scripts ∷ passage.Races
    ∷ passage.Files ∷ passage.Steps ∷ passage.Acts ∷ passage.Messages ∷ passage.Statuses ∷ passage.More ∷ []

abbrev pub topic_of : Text → Option Topic
topic_of word =
    if bytes_eq word (codes "scenarios") then Some Scenarios else
    if bytes_eq word (codes "scripts") then Some Scripts else
    if bytes_eq word (codes "races") then Some Races else
    if bytes_eq word (codes "drivers") then Some Drivers else
    if bytes_eq word (codes "statuses") then Some Statuses else
    if bytes_eq word (codes "all") then Some All else None

-- ---- What can't be meant

-- the first topic whose name is near to a word
abbrev pub near_told : Text → List ℕ
near_told word =
    if is_near (codes "scenarios") word then codes " (scenarios?)" else
    if is_near (codes "scripts") word then codes " (scripts?)" else
    if is_near (codes "races") word then codes " (races?)" else
    if is_near (codes "drivers") word then codes " (drivers?)" else
    if is_near (codes "statuses") word then codes " (statuses?)" else
    if is_near (codes "all") word then codes " (all?)" else []

abbrev pub no_help : Text → List ℕ
no_help word =
    codes "svahost: there is no help on '" ++ word ++ codes "'" ++ near_told word
    ++ codes "; there is on each command, and on scenarios, scripts, races, drivers, statuses, all\n"

abbrev pub one_more : Text → List ℕ
one_more word = codes "svahost: help is on one word, and not one more, '" ++ word ++ codes "'\n"

-- ---- What is asked for

-- help on the program is what it says by `--help`, and so is help on a command
abbrev pub of_program : (name : Text) → Called
of_program name = Own (name ∷ codes "--help" ∷ [])

abbrev pub of_command : (name command : Text) → Called
of_command name command = Own (name ∷ command ∷ codes "--help" ∷ [])

abbrev pub is_command : Text → Bool
is_command word = is_some (takes_of word)

abbrev pub asks_help : Text → Bool
asks_help word = bytes_eq word (codes "--help") || bytes_eq word (codes "-h")

abbrev pub on_topic : Text → Option Topic → Called
on_topic word (Some topic) = On topic
on_topic word None = Wrong (no_help word)

abbrev pub of_word : (name word : Text) → Called
of_word name word =
    if is_command word then of_command name word else
    if asks_help word then of_program name else on_topic word (topic_of word)

-- by the words behind `help`
abbrev pub called_by : (name : Text) → List Text → Called
called_by name [] = of_program name
called_by name (word ∷ []) = of_word name word
called_by name (word ∷ next ∷ words) = Wrong (one_more next)

abbrev pub is_call : List Text → Bool
is_call (name ∷ command ∷ words) = bytes_eq command (codes "help")
is_call words = false

abbrev pub called_behind : List Text → Called
called_behind (name ∷ command ∷ words) = called_by name words
called_behind words = Own []

-- by the words of a command line, the program's name first
abbrev pub called : List Text → Called
called words = if is_call words then called_behind words else Own words
