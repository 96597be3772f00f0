-- What is read of a driver, line by line.
use Rattle.std.specs.Prelude.{ℕ, ◌+◌, ◌==◌, ◌&&◌, ◌||◌, not, nat_lt, if◌then◌else◌, Bool, true, false, List, [], ◌∷◌}
use Rattle.std.specs.Prelude.{◌++◌, codes, length}
use Rattle.std.specs.Prelude.{◌≡◌, replicate, slice_get, slice_set, Option, Some, None, is_some, Result, Ok, Err}
use Rattle.std.specs.List.{list_any}
use Rattle.std.specs.Str.{bytes_eq}
use Rattle.sva_step.specs.declared.limits.Config.{Config}
use Rattle.sva_grammar.specs.Grammar.{◌>>=◌}
use Rattle.sva_script.specs.declared.faults.Wanted.TheVariants as script
use Rattle.sva_script.specs.Lines.{Parts, parts_of, step_begins}
use Rattle.sva_script.specs.Names.{Known, is_name}
use Rattle.sva_script_reading.specs.Begins.{joined_words}
use Rattle.sva_open.specs.declared.settings.Settings.{Settings}
use Rattle.sva_open.specs.declared.drivers.Workers.{Workers}
use Rattle.sva_race_texts.specs.Words.{word_at}
use Rattle.sva_race_texts.specs.declared.faults.RaceWanted.TheVariants as race
use Rattle.sva_driver_words.specs.Awaits.{LineSaid, is_named}
use Rattle.sva_driver_texts.specs.Blocks.{BlockSaid, branched, open_texts, opened_wrong, under_of, with_block}
use Rattle.sva_driver_texts.specs.Devices.{DeviceSaid, is_setting, parts_from, setting_line, unsaid, untold, workers_of}
use Rattle.sva_driver_texts.specs.Units.{units_of, units_or_own}
use Rattle.sva_driver_words.specs.Faults.{fault_text, wrong_at, no_more, placed}
use Rattle.sva_driver_words.specs.Fields.{endpoint_at, has_word, says}
use Rattle.sva_driver_words.specs.Sayings.{SayingSaid}
use Rattle.sva_driver_words.specs.Says.{is_act, saying_by, with_flag, with_lock}
use Rattle.sva_driver_words.specs.declared.faults.DriverWanted.TheVariants as wanted
use Rattle.sva_driver_words.specs.declared.faults.DriverStop.{DriverStop}
use Rattle.sva_driver_words.specs.declared.faults.DriverStop.TheVariants as stop
use Rattle.sva_driver_words.specs.declared.faults.DriverWrong.{DriverWrong}
use Rattle.sva_driver_words.specs.declared.kept.Under.{Under}
use Rattle.sva_driver_words.specs.declared.written.WrittenWanted.TheVariants as written
use Rattle.sva_driver_texts.specs.WrittenOut.{Worded, is_title}

pub record Reading : Type 0 where
  -- the thread of the heading above; empty where there is none
  pub heading : List ℕ
  -- was `race` read?
  pub is_race : Bool
  -- the lines of acts, those before `race` too, and how many these are
  pub lines : List LineSaid
  pub before : ℕ
  -- the locks that they name
  pub locks : List (List ℕ)
  -- the flags that they name
  pub flags : List (List ℕ)
  -- the blocks that are open, the outermost of a thread first
  pub blocks : List BlockSaid
  -- the settings, and the words of those that were said
  pub settings : Settings
  pub set : List (List ℕ)
  -- the units of endpoints, where some share one
  pub units : List ℕ
  -- what workers answer, if that was said, and what each endpoint was told
  pub workers : Option Workers
  pub devices : List DeviceSaid
  -- what is wrong with the lines, and the numbers of these
  pub said : List ℕ
  pub told : List ℕ

abbrev pub nothing : Config → Reading
nothing config = record {
  heading = [];
  is_race = false;
  lines = [];
  before = 0;
  locks = [];
  flags = [];
  blocks = [];
  settings = unsaid;
  set = [];
  units = [];
  workers = None;
  devices = replicate config.endpoints untold;
  said = [];
  told = [];
}

-- a line that is written out several times is told once
abbrev pub with_fault : Reading → Known → (line : ℕ) → List (List ℕ) → DriverWrong → Reading
with_fault reading known line words wrong =
    if list_any (λ own. own == line) reading.told then reading else
    record reading { said = reading.said ++ fault_text known line words wrong; told = reading.told ++ line ∷ [] }

-- ---- Whose an act is, where no heading says it

abbrev pub is_of_endpoint : (word : List ℕ) → Bool
is_of_endpoint word =
    bytes_eq word (codes "ask")
    || bytes_eq word (codes "use")
    || bytes_eq word (codes "end")
    || bytes_eq word (codes "evict")
    || bytes_eq word (codes "fault")
    || bytes_eq word (codes "finish")
    || bytes_eq word (codes "pass")
    || bytes_eq word (codes "quit")
    || bytes_eq word (codes "gone")

abbrev pub is_of_unit : (word : List ℕ) → Bool
is_of_unit word =
    bytes_eq word (codes "pump")
    || bytes_eq word (codes "expire")
    || bytes_eq word (codes "write")
    || bytes_eq word (codes "forget")

abbrev pub role_of : (word first : List ℕ) → List ℕ
role_of word first =
    if is_of_endpoint word then codes "endpoint " ++ first else
    if is_of_unit word then codes "unit " ++ first else
    if bytes_eq word (codes "deliver") then codes "link" else
    codes "host"

abbrev pub headed : (heading : List ℕ) → List (List ℕ) → List ℕ
headed [] words = role_of (word_at 0 words) (word_at 1 words)
headed heading words = heading

-- before `race` all is one thread, without a name
abbrev pub thread_of : Reading → List (List ℕ) → List ℕ
thread_of reading words = if reading.is_race then headed reading.heading words else []

-- ---- A line of an act

-- what it names or opens is noted: a lock, a flag, a block
abbrev pub with_lock_of : Reading → List (List ℕ) → Reading
with_lock_of reading words = record reading { locks = with_lock reading.locks words }

abbrev pub with_flag_of : Reading → List (List ℕ) → Reading
with_flag_of reading words = record reading { flags = with_flag reading.flags words }

abbrev pub with_block_of : Reading → (thread : List ℕ) → (number : ℕ) → List (List ℕ) → Reading
with_block_of reading thread number words =
    record reading { blocks = with_block reading.blocks thread number (length reading.lines) words }

abbrev pub with_line : Reading → (number : ℕ) → (name thread : List ℕ) → List (List ℕ) → SayingSaid → Reading
with_line reading number name thread words saying = record reading {
  lines = reading.lines ++ (record {
    number = number;
    under = under_of thread reading.blocks;
    name = name;
    thread = thread;
    text = joined_words words;
    saying = saying;
  }) ∷ [];
  locks = with_lock reading.locks words;
  flags = with_flag reading.flags words;
  blocks = with_block reading.blocks thread number (length reading.lines) words;
}

-- a line's name is one, and no line before has it; it is no word behind `await`
abbrev pub is_awaited_word : (name : List ℕ) → Bool
is_awaited_word name =
    bytes_eq name (codes "stopped")
    || bytes_eq name (codes "passed")
    || bytes_eq name (codes "queue")
    || bytes_eq name (codes "groups")
    || bytes_eq name (codes "idle")
    || bytes_eq name (codes "gone")

abbrev pub name_judged : List LineSaid → (name : Option (List ℕ)) → Result (Unit {0}) DriverWrong
name_judged lines None = Ok tt
name_judged lines (Some name) =
    if not (is_name name) || is_awaited_word name then wrong_at 0 (wanted.Race (race.Script script.Name)) else
    if list_any (is_named name) lines then wrong_at 0 (wanted.Race (race.Script script.NewName)) else
    Ok tt

abbrev pub name_of : Option (List ℕ) → List ℕ
name_of None = []
name_of (Some name) = name

-- no answer is expected
abbrev pub unanswered : Parts → Result (Unit {0}) DriverWrong
unanswered parts =
    if is_some parts.expected then wrong_at (step_begins parts + length parts.step) wanted.NoAnswer else Ok tt

-- what its words say, with the units of endpoints, the lines above, the locks and flags that they name, and the blocks in which it
-- stands
abbrev pub saying_under : Config → Reading → (under : List Under) → (thread : List ℕ) → List (List ℕ) → Result SayingSaid DriverWrong
saying_under config reading under thread words =
    saying_by config reading.units reading.lines reading.locks reading.flags under thread words (word_at 0 words)

abbrev pub saying_in : Config → Reading → (thread : List ℕ) → List (List ℕ) → Result SayingSaid DriverWrong
saying_in config reading thread words = saying_under config reading (under_of thread reading.blocks) thread words

abbrev pub act_said : Config → Reading → Parts → (thread : List ℕ) → Result SayingSaid DriverWrong
act_said config reading parts thread = do
  _ ← name_judged reading.lines parts.name
  _ ← unanswered parts
  placed (step_begins parts) (saying_in config reading thread parts.step)

abbrev pub act_line : Config → Reading → (number : ℕ) → Parts → (thread : List ℕ) → Result Reading DriverWrong
act_line config reading number parts thread =
    act_said config reading parts thread
    >>= λ saying. Ok (with_line reading number (name_of parts.name) thread parts.step saying)

-- ---- Lines that are no acts

-- a setting stands before the first act, and but for units once; a platform before each other setting
abbrev pub is_word : (word own : List ℕ) → Bool
is_word word own = bytes_eq own word

-- endpoints come to share units, each by one line
abbrev pub unit_line : Config → Reading → List (List ℕ) → Result Reading DriverWrong
unit_line config reading words =
    units_of config (units_or_own config reading.units) words
    >>= λ units. Ok (record reading { units = units; set = reading.set ++ word_at 0 words ∷ [] })

abbrev pub set_line : Config → Reading → List (List ℕ) → Result Reading DriverWrong
set_line config reading words =
    if nat_lt 0 (length reading.lines) then wrong_at 0 wanted.Earlier else
    if says 0 (codes "unit") words then unit_line config reading words else
    if list_any (is_word (word_at 0 words)) reading.set then wrong_at 0 wanted.OneLine else
    if says 0 (codes "platform") words && nat_lt 0 (length reading.set) then wrong_at 0 wanted.Ahead else
    (setting_line reading.settings words
    >>= λ settings. Ok (record reading { settings = settings; set = reading.set ++ word_at 0 words ∷ [] }))

abbrev pub workers_line : Reading → List (List ℕ) → Result Reading DriverWrong
workers_line reading words =
    if is_some reading.workers then wrong_at 0 wanted.OneLine else
    (workers_of words >>= λ workers. Ok (record reading { workers = Some workers }))

abbrev pub is_told : Option DeviceSaid → Bool
is_told None = false
is_told (Some device) = device.is_told

abbrev pub told_by_parts : List (List ℕ) → Result DeviceSaid DriverWrong
told_by_parts words = parts_from (record untold { is_told = true }) 2 words

abbrev pub told_by : Reading → (endpoint : ℕ) → List (List ℕ) → Option DeviceSaid → Result Reading DriverWrong
told_by reading endpoint words device =
    if is_told device then wrong_at 1 wanted.OneLine else
    if has_word 2 words
    then (told_by_parts words
    >>= λ told. Ok (record reading { devices = slice_set reading.devices endpoint told }))
    else wrong_at 2 wanted.Part

abbrev pub device_line : Config → Reading → List (List ℕ) → Result Reading DriverWrong
device_line config reading words =
    endpoint_at config 1 words >>= λ endpoint. told_by reading endpoint words (slice_get reading.devices endpoint)

abbrev pub race_line : Reading → List (List ℕ) → Result Reading DriverWrong
race_line reading words =
    if reading.is_race then wrong_at 0 wanted.NoRace else
    (no_more 1 words >>= λ done. Ok (record reading { is_race = true; before = length reading.lines }))

abbrev pub heading_line : Reading → List (List ℕ) → Result Reading DriverWrong
heading_line reading words =
    if not (is_title (word_at 1 words)) then wrong_at 1 (wanted.Written written.Name) else
    (no_more 2 words >>= λ done. Ok (record reading { heading = word_at 1 words }))

-- `else`, and `end` alone, are of the thread of which an `if` is there
abbrev pub with_branch : Reading → (thread word : List ℕ) → Result Reading DriverWrong
with_branch reading thread word = branched reading.blocks thread word >>= λ blocks. Ok (record reading { blocks = blocks })

abbrev pub branch_line : Reading → List (List ℕ) → Result Reading DriverWrong
branch_line reading words =
    no_more 1 words >>= λ done. with_branch reading (thread_of reading (codes "if" ∷ [])) (word_at 0 words)

-- nothing but an act has a name
abbrev pub nameless : Option (List ℕ) → Result (Unit {0}) DriverWrong
nameless None = Ok tt
nameless (Some name) = wrong_at 0 (wanted.Race race.NoName)

abbrev pub other_before : Config → Reading → List (List ℕ) → Result Reading DriverWrong
other_before config reading words =
    if is_setting (word_at 0 words) then set_line config reading words else wrong_at 0 wanted.Before

abbrev pub other_behind : Reading → List (List ℕ) → Result Reading DriverWrong
other_behind reading words = if says 0 (codes "thread") words then heading_line reading words else wrong_at 0 wanted.Behind

abbrev pub begins_branch : (word : List ℕ) → Bool
begins_branch word = bytes_eq word (codes "else") || bytes_eq word (codes "end")

abbrev pub other_line : Config → Reading → List (List ℕ) → Result Reading DriverWrong
other_line config reading words =
    if begins_branch (word_at 0 words) then branch_line reading words else
    if says 0 (codes "workers") words then workers_line reading words else
    if says 0 (codes "device") words then device_line config reading words else
    if says 0 (codes "race") words then race_line reading words else
    if reading.is_race then other_behind reading words else
    other_before config reading words

-- the words that begin a line which is no act
abbrev pub begins_other : (word : List ℕ) → Bool
begins_other word =
    is_setting word || bytes_eq word (codes "workers") || bytes_eq word (codes "device") || bytes_eq word (codes "race")
    || bytes_eq word (codes "thread") || begins_branch word

-- behind a name stands a word that begins no line: an act was meant
abbrev pub is_misspelt : Parts → Bool
is_misspelt parts = is_some parts.name && not (begins_other (word_at 0 parts.step))

-- `end` alone is no act
abbrev pub is_end : Parts → Bool
is_end parts = says 0 (codes "end") parts.step && not (has_word 1 parts.step) && not (is_some parts.expected)

abbrev pub is_of_act : Parts → Bool
is_of_act parts = is_act (word_at 0 parts.step) && not (is_end parts)

abbrev pub line_by : Config → Reading → (number : ℕ) → List (List ℕ) → Parts → Result Reading DriverWrong
line_by config reading number words parts =
    if is_of_act parts then act_line config reading number parts (thread_of reading parts.step) else
    if is_misspelt parts then wrong_at (step_begins parts) wanted.Act else
    (nameless parts.name >>= λ done. other_line config reading words)

-- ---- All lines behind the config

abbrev pub with_wrong_block : Reading → (number : ℕ) → Parts → Reading
with_wrong_block reading number parts =
    if says 0 (codes "if") parts.step
    then record reading { blocks = reading.blocks ++ opened_wrong (thread_of reading parts.step) number ∷ [] }
    else reading

abbrev pub behind : Reading → Known → (line : ℕ) → List (List ℕ) → Result Reading DriverWrong → Reading
behind reading known line words (Ok read) = read
behind reading known line words (Err wrong) = with_fault (with_wrong_block reading line (parts_of words)) known line words wrong

abbrev pub behind_words : Config → Known → Reading → (line : ℕ) → List (List ℕ) → Reading
behind_words config known reading line [] = reading
behind_words config known reading line words =
    behind reading known line words (line_by config reading line words (parts_of words))

unfoldable pub behind_lines : Config → Known → Reading → List Worded → Reading
behind_lines config known reading [] = reading
behind_lines config known reading (line ∷ lines) =
    behind_lines config known (behind_words config known reading line.0 line.1) lines

-- and behind the last of them, where each block that is open is told
abbrev pub with_open : Known → Reading → Reading
with_open known reading = record reading { said = reading.said ++ open_texts known reading.blocks }

abbrev pub behind_all : Config → Known → Reading → List Worded → Reading
behind_all config known reading lines = with_open known (behind_lines config known reading lines)

-- of a driver with all these lines; a wrong name is told with a near one of any line
abbrev pub read_of : Config → Known → List Worded → Reading
read_of config known lines = behind_all config known (nothing config) lines

-- ---- As code keeps it

-- a line is read with what was read before; one that is wrong changes nothing, and after want of memory nothing is said
abbrev pub Takes : Result Reading DriverWrong → (old new : Reading) → Result (Unit {0}) DriverStop → Type 0
Takes read old new (Ok done) = read ≡ Ok new
Takes read old new (Err (stop.Wrong found)) = (read ≡ Err found) × (new ≡ old)
Takes read old new (Err stop.Memory) = Unit {0}
