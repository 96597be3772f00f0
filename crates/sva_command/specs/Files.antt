-- The files that a command names, the part of them that is taken, how many are taken at once, and the line behind which `show` looks.
use Rattle.std.specs.Prelude.{ℕ, ◌+◌, ◌-◌, ◌==◌, ◌&&◌, ◌||◌, nat_le, if◌then◌else◌, Bool, List, [], ◌∷◌, ◌++◌, codes, drop, length, take}
use Rattle.std.specs.Prelude.{Option, Some, None, Result, Ok}
use Rattle.std.specs.List.{position}
use Rattle.std.specs.Str.{bytes_eq}
use Rattle.clap.specs.Words.{Text}
use Rattle.sva_grammar.specs.Grammar.{number}
use Rattle.sva_grammar.specs.declared.faults.Cause.{Cause}
use Rattle.sva_command.specs.declared.files.Awaited.{Awaited}
use Rattle.sva_command.specs.declared.files.Awaited.TheVariants as awaited
use Rattle.sva_command.specs.declared.files.Kind.{Kind}
use Rattle.sva_command.specs.declared.files.Kind.TheVariants as kind
use Rattle.sva_command.specs.declared.files.Part.{Part}
use Rattle.sva_command.specs.declared.files.Takes.{Takes}
use Rattle.sva_command.specs.declared.files.Takes.TheVariants.{Many, One, Shown}

-- ---- The words

-- the words that are left for the command line, the files, what was said of the part, of how many at once and of the line, which files the
-- command takes, and what the next word is
pub record Named : Type 0 where
  pub own : List Text
  pub files : List Text
  pub part : Option Text
  pub jobs : Option Text
  pub after : Option Text
  pub takes : Takes
  pub awaited : Awaited

abbrev pub begun : Takes → (name command : Text) → Named
begun takes name command =
    record { own = name ∷ command ∷ []; files = []; part = None; jobs = None; after = None; takes = takes; awaited = awaited.Word }

abbrev pub with_own : Named → Text → Named
with_own named word = record named { own = named.own ++ word ∷ [] }

abbrev pub with_file : Named → Text → Named
with_file named word = record named { files = named.files ++ word ∷ [] }

abbrev pub with_part : Named → Text → Named
with_part named text = record named { part = Some text }

abbrev pub with_jobs : Named → Text → Named
with_jobs named text = record named { jobs = Some text }

abbrev pub with_after : Named → Text → Named
with_after named text = record named { after = Some text }

abbrev pub awaiting : Named → Awaited → Named
awaiting named next = record named { awaited = next }

abbrev pub begins : (text with : Text) → Bool
begins text with = nat_le (length with) (length text) && bytes_eq (take (length with) text) with

-- what an option is of a command that takes any number of files
abbrev pub kind_of_many : Text → Kind
kind_of_many word =
    if bytes_eq word (codes "--part") then kind.Part else
    if begins word (codes "--part=") then kind.PartIs else
    if bytes_eq word (codes "--jobs") then kind.Jobs else
    if begins word (codes "--jobs=") then kind.JobsIs else
    kind.Own

-- what an option of `show` is
abbrev pub kind_of_shown : Text → Kind
kind_of_shown word =
    if bytes_eq word (codes "--after") then kind.After else
    if begins word (codes "--after=") then kind.AfterIs else
    kind.Own

abbrev pub kind_of_option : Takes → Text → Kind
kind_of_option Many word = kind_of_many word
kind_of_option One word = kind.Own
kind_of_option Shown word = kind_of_shown word

-- what a word is where an option or a file may stand: what begins with `-` is an option, but that `-` alone is a file, standard input
abbrev pub kind_of : Takes → Text → Kind
kind_of takes word =
    if bytes_eq word (codes "--") then kind.Files else
    if bytes_eq word (codes "-") then kind.File else
    if bytes_eq word (codes "--most") || bytes_eq word (codes "--turns") then kind.Value else
    if begins word (codes "-") then kind_of_option takes word else
    kind.File

-- `--` is left for the command line, and what stands behind it is a file; so are `--most` and `--turns` with the word behind them; of
-- `--part`, `--jobs` and `--after`, whose text stands in the next word or behind `=`, the command line has nothing
abbrev pub with_kind : Kind → Named → Text → Named
with_kind kind.Files named word = awaiting (with_own named word) awaited.File
with_kind kind.Value named word = awaiting (with_own named word) awaited.Value
with_kind kind.Part named word = awaiting named awaited.Part
with_kind kind.PartIs named word = with_part named (drop 7 word)
with_kind kind.Jobs named word = awaiting named awaited.Jobs
with_kind kind.JobsIs named word = with_jobs named (drop 7 word)
with_kind kind.After named word = awaiting named awaited.After
with_kind kind.AfterIs named word = with_after named (drop 8 word)
with_kind kind.Own named word = with_own named word
with_kind kind.File named word = with_file named word

abbrev pub with_awaited : Awaited → Named → Text → Named
with_awaited awaited.Word named word = with_kind (kind_of named.takes word) named word
with_awaited awaited.Value named word = with_own (awaiting named awaited.Word) word
with_awaited awaited.Part named word = with_part (awaiting named awaited.Word) word
with_awaited awaited.Jobs named word = with_jobs (awaiting named awaited.Word) word
with_awaited awaited.After named word = with_after (awaiting named awaited.Word) word
with_awaited awaited.File named word = with_file named word

abbrev pub with_word : Named → Text → Named
with_word named word = with_awaited named.awaited named word

unfoldable pub with_words : Named → List Text → Named
with_words named [] = named
with_words named (word ∷ words) = with_words (with_word named word) words

-- the commands that take any number of files, and those that take one
abbrev pub takes_many : Text → Bool
takes_many command =
    bytes_eq command (codes "check") || bytes_eq command (codes "test") || bytes_eq command (codes "why")
    || bytes_eq command (codes "explore") || bytes_eq command (codes "judge")

abbrev pub takes_one : Text → Bool
takes_one command =
    bytes_eq command (codes "replay") || bytes_eq command (codes "plain") || bytes_eq command (codes "chart")
    || bytes_eq command (codes "trace") || bytes_eq command (codes "storm")

abbrev pub takes_of : Text → Option Takes
takes_of command =
    if takes_many command then Some Many else
    if takes_one command then Some One else
    if bytes_eq command (codes "show") then Some Shown else None

-- the words of a command that takes these files
abbrev pub named_by : Takes → (name command : Text) → List Text → Named
named_by takes name command words = with_words (begun takes name command) words

abbrev pub named_if : (name command : Text) → List Text → Option Takes → Option Named
named_if name command words (Some takes) = Some (named_by takes name command words)
named_if name command words None = None

-- the words of a command line, the program's name first
abbrev pub named_in : List Text → Option Named
named_in (name ∷ command ∷ words) = named_if name command words (takes_of command)
named_in words = None

-- ---- The part

-- How many parts there are, and which of them it is, from 1 on: `--part` has the two numbers about a `/`.
abbrev pub part_by : (one other : Result ℕ Cause) → Option Part
part_by (Ok index) (Ok count) =
    if nat_le 1 index && nat_le index count && nat_le count 999999 then Some (record { index = index; count = count }) else None
part_by one other = None

abbrev pub part_at : Text → Option ℕ → Option Part
part_at text None = None
part_at text (Some at) = part_by (number (take at text)) (number (drop (at + 1) text))

abbrev pub part_of : Text → Option Part
part_of text = part_at text (position (λ byte. byte == 47) text)

-- every N-th of a list, behind so many that are left out
unfoldable pub every : {A : Type 0} → (count before : ℕ) → List A → List A
every count before [] = []
every count before (item ∷ items) =
    if before == 0 then item ∷ every count (count - 1) items else every count (before - 1) items

-- the files of a part: every N-th, from the K-th on
abbrev pub files_of : Part → List Text → List Text
files_of part files = every part.count (part.index - 1) files

-- ---- How many at once

abbrev pub jobs_by : Result ℕ Cause → Option ℕ
jobs_by (Ok jobs) = if nat_le 1 jobs && nat_le jobs 256 then Some jobs else None
jobs_by fault = None

abbrev pub jobs_of : Text → Option ℕ
jobs_of text = jobs_by (number text)

-- ---- Behind which line

abbrev pub after_by : Result ℕ Cause → Option ℕ
after_by (Ok line) = if nat_le 1 line && nat_le line 999999999 then Some line else None
after_by fault = None

abbrev pub after_of : Text → Option ℕ
after_of text = after_by (number text)
