-- What the words of a command line say of files. How each word is taken is said by the definitions of sva_command, which part
-- and how many at once too.
use Rattle.std.specs.Prelude.{◌≡◌, ◌≢◌, ◌⊎◌, ℕ, ◌&&◌, ◌||◌, nat_lt, not, is_some, unwrap_or, Bool, true, false, codes, if◌then◌else◌}
use Rattle.std.specs.Prelude.{List, [], ◌∷◌, ◌++◌, Option, Some, None, Result, Ok, Err, string_bytes}
use Rattle.clap.specs.Words.{Text}
use Rattle.sva_command.specs.Command.{Asks, faults_of, is_any, texts}
use Rattle.sva_command.specs.Help.{Called, called}
use Rattle.sva_command.specs.Help as help
use Rattle.sva_command.specs.Files.{Named, after_of, files_of, jobs_of, named_in, part_of}
use Rattle.sva_command.specs.declared.command.Asked.{Asked}
use Rattle.sva_command.specs.declared.command.Asked.TheVariants.{Check, Explore, Judge, Test, Why}
use Rattle.sva_command.specs.declared.files.Awaited.{Awaited}
use Rattle.sva_command.specs.declared.files.Awaited.TheVariants as awaited
use Rattle.sva_command.specs.declared.files.Part.{Part}
use Rattle.sva_command.specs.declared.files.Takes.{Takes}
use Rattle.sva_command.specs.declared.files.Takes.TheVariants.{Many}
use Rattle.sva_command.specs.declared.topics.Topic.{Topic}
use Rattle.sva_several.specs.declared.driving.Wanted.{Wanted}
use Rattle.sva_cli.specs.Inputs.{inputs_in}
use Rattle.sva_several.specs.declared.searching.Search.{Search}
use Rattle.sva_several.specs.declared.searching.Search.TheVariants.{Drivers, Lines, Races, Steps, Tests, Whys}
use Rattle.sva_cli.specs.declared.files.Files.{Files}
use Rattle.sva_cli.specs.declared.files.Files.TheVariants as files

-- ---- What is said

-- standard input is read, if anything is; a file in its place; files are searched; help is on this topic; or this is told
pub data Spoken : Type 0 where
  Input : (own : List Text) → Spoken
  One : Asked → (after : Option ℕ) → (file : Text) → Spoken
  Several : (wanted : Wanted) → (names : List Text) → Spoken
  OnTopic : Topic → Spoken
  Wrong : (said : List ℕ) → Spoken

-- the same of the code's value
abbrev pub means : Files → Spoken
means (files.Input own) = Input (texts own.items)
means (files.One one) = One one.asked one.after (string_bytes one.file)
means (files.Several several) = Several several.wanted (texts several.names.items)
means (files.Topic topic) = OnTopic topic
means (files.Wrong said) = Wrong said.items

-- ---- Which search

-- with `--run` the lines of drivers are taken; else all their orders are judged, within `--most`, by `--strict` and `--all` or not; races
-- are explored, scenarios are read, and scripts tested or explained. No other command takes several files
abbrev pub search_of : Asked → Search
search_of (Judge true most strict all beside) = Lines
search_of (Judge false most strict all beside) = Drivers most all strict
search_of (Explore most whys few_ends) = Races most
search_of Check = Steps
search_of Test = Tests
search_of Why = Whys
search_of asked = Lines

abbrev pub wanted_by : Asked → (jobs : ℕ) → Wanted
wanted_by asked jobs = record { search = search_of asked; jobs = jobs; is_part = false }

-- ---- What can't be meant

abbrev pub no_meaning : (takes : List ℕ) → (text : Text) → Spoken
no_meaning takes text = Wrong (takes ++ text ++ codes "'\n")

abbrev pub takes_part : List ℕ
takes_part = codes "svahost: --part takes K/N with K from 1 to N, as 2/3, and not '"

abbrev pub takes_jobs : List ℕ
takes_jobs = codes "svahost: --jobs takes a number from 1 to 256, and not '"

abbrev pub part_of_none : List ℕ
part_of_none = codes "svahost: --part is a part of several files, and none is named\n"

abbrev pub jobs_of_none : List ℕ
jobs_of_none = codes "svahost: --jobs is of several files, and none is named\n"

abbrev pub inputs_twice : List ℕ
inputs_twice = codes "svahost: '-' is standard input, and is named more than once\n"

abbrev pub takes_after : List ℕ
takes_after = codes "svahost: --after takes the number of a line, 1 to 999999999, and not '"

abbrev pub takes_one : List ℕ
takes_one = codes "svahost: this command takes one file, and not one more, '"

-- ---- Which files

abbrev pub are_none : List Text → Bool
are_none [] = true
are_none (file ∷ files) = false

-- some of the files, where standard input is named no more than once among all
abbrev pub once : Wanted → (all names : List Text) → Spoken
once wanted all names = if nat_lt 1 (inputs_in all) then Wrong inputs_twice else Several wanted names

abbrev pub several_of : Wanted → (files : List Text) → Spoken
several_of wanted files = once wanted files files

-- of a part those that `--part` says, where some are named
abbrev pub part_said : Wanted → Text → (files : List Text) → Option Part → Spoken
part_said wanted text files None = no_meaning takes_part text
part_said wanted text [] (Some part) = Wrong part_of_none
part_said wanted text (file ∷ files) (Some part) = once (record wanted { is_part = true }) (file ∷ files) (files_of part (file ∷ files))

abbrev pub part_in : Wanted → Text → (files : List Text) → Spoken
part_in wanted text files = part_said wanted text files (part_of text)

-- one is no search of several, and standard input is read once
abbrev pub all_of : Asked → Wanted → (files : List Text) → Spoken
all_of asked wanted [] = several_of wanted []
all_of asked wanted (file ∷ []) = One asked None file
all_of asked wanted (file ∷ next ∷ files) = several_of wanted (file ∷ next ∷ files)

abbrev pub part_or_all : Asked → Wanted → (files : List Text) → (part : Option Text) → Spoken
part_or_all asked wanted files None = all_of asked wanted files
part_or_all asked wanted files (Some text) = part_in wanted text files

abbrev pub awaits_part : Awaited → Bool
awaits_part awaited.Word = false
awaits_part awaited.Value = false
awaits_part awaited.Part = true
awaits_part awaited.Jobs = false
awaits_part awaited.After = false
awaits_part awaited.File = false

-- where no word is behind the last `--part`, its text is empty
abbrev pub of_files : Asked → Wanted → Named → Spoken
of_files asked wanted named =
    if awaits_part named.awaited then part_in wanted [] named.files else part_or_all asked wanted named.files named.part

-- ---- How many at once

abbrev pub awaits_jobs : Awaited → Bool
awaits_jobs awaited.Word = false
awaits_jobs awaited.Value = false
awaits_jobs awaited.Part = false
awaits_jobs awaited.Jobs = true
awaits_jobs awaited.After = false
awaits_jobs awaited.File = false

-- as many as are said, or where nothing is as many as usual
abbrev pub jobs_or : (usual : ℕ) → Option Text → Option ℕ
jobs_or usual None = Some usual
jobs_or usual (Some text) = jobs_of text

-- where no word is behind the last `--jobs`, its text is empty, and says no number
abbrev pub jobs_in : Named → (usual : ℕ) → Option ℕ
jobs_in named usual = if awaits_jobs named.awaited then None else jobs_or usual named.jobs

abbrev pub jobs_text : Named → Text
jobs_text named = if awaits_jobs named.awaited then [] else unwrap_or named.jobs []

-- ---- What the words say of several files, where the others are a command

abbrev pub names_nothing : Named → Bool
names_nothing named = are_none named.files && not (is_some named.part)

abbrev pub by_jobs : Asked → Named → Option ℕ → Spoken
by_jobs asked named None = no_meaning takes_jobs (jobs_text named)
by_jobs asked named (Some jobs) = if names_nothing named then Wrong jobs_of_none else of_files asked (wanted_by asked jobs) named

abbrev pub files_by : Asked → (usual : ℕ) → Named → Spoken
files_by asked usual named = by_jobs asked named (jobs_in named usual)

-- ---- And of one

abbrev pub awaits_after : Awaited → Bool
awaits_after awaited.Word = false
awaits_after awaited.Value = false
awaits_after awaited.Part = false
awaits_after awaited.Jobs = false
awaits_after awaited.After = true
awaits_after awaited.File = false

abbrev pub after_by : Option ℕ → Result (Option ℕ) (Unit {0})
after_by None = Err tt
after_by (Some line) = Ok (Some line)

abbrev pub after_said : Option Text → Result (Option ℕ) (Unit {0})
after_said None = Ok None
after_said (Some text) = after_by (after_of text)

-- where no word is behind the last `--after`, its text is empty, and says no line
abbrev pub after_in : Named → Result (Option ℕ) (Unit {0})
after_in named = if awaits_after named.awaited then Err tt else after_said named.after

abbrev pub after_text : Named → Text
after_text named = if awaits_after named.awaited then [] else unwrap_or named.after []

-- where none is named it is standard input
abbrev pub only_of : Asked → (after : Option ℕ) → (files : List Text) → Spoken
only_of asked after [] = One asked after (codes "-")
only_of asked after (file ∷ []) = One asked after file
only_of asked after (file ∷ next ∷ files) = no_meaning takes_one next

abbrev pub by_after : Asked → Named → Result (Option ℕ) (Unit {0}) → Spoken
by_after asked named (Err nothing) = no_meaning takes_after (after_text named)
by_after asked named (Ok after) = only_of asked after named.files

abbrev pub file_by : Asked → Named → Spoken
file_by asked named = by_after asked named (after_in named)

-- ---- What they say

-- no file is named, and nothing is said of any. A last `--part` is left for the command line
abbrev pub is_bare : Named → Bool
is_bare named =
    are_none named.files && not (is_some named.part) && not (is_some named.jobs) && not (is_some named.after)
    && not (awaits_jobs named.awaited || awaits_after named.awaited)

-- what is asked of a driver beside its verdict is asked of one file
abbrev pub is_of_one : Asked → Bool
is_of_one (Judge run most strict all beside) = is_any beside
is_of_one asked = false

abbrev pub of_several : List ℕ
of_several = codes "svahost: --jobs and --part are of several files, and --needed, --platforms and --chart take one\n"

abbrev pub says_of_several : Named → Bool
says_of_several named =
    is_some named.part || is_some named.jobs || (awaits_part named.awaited || awaits_jobs named.awaited)

abbrev pub one_by : Asked → Named → Spoken
one_by asked named = if says_of_several named then Wrong of_several else file_by asked named

abbrev pub many_by : Asked → (usual : ℕ) → Named → Spoken
many_by asked usual named = if is_of_one asked then one_by asked named else files_by asked usual named

abbrev pub meant_by : Takes → Asked → (usual : ℕ) → Named → Spoken
meant_by Many asked usual named = many_by asked usual named
meant_by takes asked usual named = file_by asked named

abbrev pub meant : Asked → (usual : ℕ) → Named → Spoken
meant asked usual named = meant_by named.takes asked usual named

-- where the other words are a command, that of it; where they have a fault, or ask for help, it is they that are answered
abbrev pub IsMeant : (usual : ℕ) → Named → Spoken → Type 0
IsMeant usual named spoken =
    ((asked : Asked) × Asks asked named.own × (spoken ≡ meant asked usual named))
    ⊎ ((faults_of named.own ≢ []) × (spoken ≡ Input named.own))

abbrev pub IsSaidOf : (usual : ℕ) → (words : List Text) → Named → (is_bare : Bool) → Spoken → Type 0
IsSaidOf usual words named true spoken = spoken ≡ Input words
IsSaidOf usual words named false spoken = IsMeant usual named spoken

abbrev pub IsSpokenBy : (usual : ℕ) → (words : List Text) → Option Named → Spoken → Type 0
IsSpokenBy usual words None spoken = spoken ≡ Input words
IsSpokenBy usual words (Some named) spoken = IsSaidOf usual words named (is_bare named) spoken

abbrev pub IsSpokenOwn : (usual : ℕ) → (words : List Text) → Spoken → Type 0
IsSpokenOwn usual words spoken = IsSpokenBy usual words (named_in words) spoken

abbrev pub IsSpokenCalled : (usual : ℕ) → Called → Spoken → Type 0
IsSpokenCalled usual (help.Own words) spoken = IsSpokenOwn usual words spoken
IsSpokenCalled usual (help.On topic) spoken = spoken ≡ OnTopic topic
IsSpokenCalled usual (help.Wrong said) spoken = spoken ≡ Wrong said

-- this is what the words say, the program's name first
abbrev pub IsSpoken : (usual : ℕ) → (words : List Text) → Spoken → Type 0
IsSpoken usual words spoken = IsSpokenCalled usual (called words) spoken
