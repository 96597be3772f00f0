-- A text as a driver: what is read of its lines, and the world behind those that stand before `race`.
use Rattle.std.specs.Prelude.{◌≡◌, ℕ, zero, suc, ◌+◌, if◌then◌else◌, Bool, true, false, List, [], length, map, replicate, slice_get}
use Rattle.std.specs.Prelude.{Option, Some, None, Result, Ok, Err, codes}
use Rattle.std.specs.Option.{unwrap_or}
use Rattle.sva_step.specs.declared.limits.Config.{Config}
use Rattle.sva_grammar.specs.Grammar.{◌>>=◌, is_too_large}
use Rattle.sva_grammar.specs.Configs.{is_fit}
use Rattle.sva_grammar.specs.Replies.{ended}
use Rattle.sva_script.specs.Lines.{script_words}
use Rattle.sva_script.specs.Names.{Known}
use Rattle.sva_script_reading.specs.Begins.{Line, config_in, lines_from}
use Rattle.sva_script_reading.specs.Faults as scripts
use Rattle.sva_script_reading.specs.Faults.{Fault}
use Rattle.sva_race_texts.specs.Limits.{limits_text}
use Rattle.sva_race_texts.specs.Texts.{names_from}
use Rattle.sva_race_texts.specs.declared.faults.RaceWanted.TheVariants as race
use Rattle.sva_open.specs.World.{Open, opened}
use Rattle.sva_open.specs.declared.settings.Conduct.{Conduct}
use Rattle.sva_open.specs.declared.settings.Settings.{Settings}
use Rattle.sva_open_safe.specs.Wrongs.{first_wrong}
use Rattle.sva_open_safe.specs.declared.wrongs.Wrong.{Wrong}
use Rattle.sva_judge.specs.declared.choices.Choice.{Choice}
use Rattle.sva_judge.specs.declared.choices.Doing.TheVariants as doing
use Rattle.sva_open.specs.declared.drivers.Driver.{Driver}
use Rattle.sva_open.specs.declared.drivers.Line.{Line as Kept}
use Rattle.sva_open.specs.declared.drivers.Workers.{Workers}
use Rattle.sva_judge.specs.Choices.{next_in}
use Rattle.sva_judge.specs.Spots.{Spot, start_of}
use Rattle.sva_driver_words.specs.Faults.{fault_text}
use Rattle.sva_driver_words.specs.declared.faults.DriverWanted.TheVariants as wanted
use Rattle.sva_driver_words.specs.Awaits.{LineSaid}
use Rattle.sva_driver_words.specs.Sayings.{SayingSaid, saying_seen}
use Rattle.sva_driver_texts.specs.Devices.{DeviceSaid, no_workers}
use Rattle.sva_driver_texts.specs.Readings.{Reading, read_of}
use Rattle.sva_driver_texts.specs.Needs.{need_of}
use Rattle.sva_driver_texts.specs.Pasids.{pasids_of}
use Rattle.sva_driver_texts.specs.Plans.{device_seen, planned_from}
use Rattle.sva_driver_texts.specs.WrittenOut.{Worded, written_out}
use Rattle.sva_driver_texts.specs.Ways.{firsts_of, is_past, way_seen, ways_of}
use Rattle.sva_driver_texts.specs.declared.kept.Begun.{Begun}
use Rattle.sva_driver_texts.specs.declared.kept.Begun.TheVariants as begun
use Rattle.sva_driver_texts.specs.declared.kept.Halt.{Halt}
use Rattle.sva_driver_texts.specs.declared.kept.Halt.TheVariants as halt
use Rattle.sva_driver_texts.specs.declared.kept.Read.{Read}
use Rattle.sva_driver_texts.specs.declared.kept.Said.{Said}
use Rattle.sva_driver_texts.specs.declared.kept.Text.{Text}

-- ---- The lines, as they are judged, but for their ways, and as they are told

pub record LineDone : Type 0 where
  pub number : ℕ
  pub saying : SayingSaid

abbrev pub done_of : LineSaid → LineDone
done_of line = record { number = line.number; saying = line.saying }

abbrev pub done_seen : Kept → LineDone
done_seen line = record { number = line.number; saying = saying_seen line.saying }

pub record LineTold : Type 0 where
  pub thread : List ℕ
  pub text : List ℕ

abbrev pub told_of : LineSaid → LineTold
told_of line = record { thread = line.thread; text = line.text }

abbrev pub told_seen : Said → LineTold
told_seen said = record { thread = said.thread.items; text = said.text.items }

-- ---- The world in which nothing was done yet

abbrev pub conduct_of : DeviceSaid → Conduct
conduct_of device = record { lies = device.lies; awaits = device.awaits }

abbrev pub workers_or : Option Workers → Workers
workers_or workers = unwrap_or workers no_workers

abbrev pub with_workers : Settings → Workers → Settings
with_workers settings workers = record settings { has_workers = workers.are_there }

abbrev pub opened_by : Config → Reading → Open
opened_by config reading =
    opened (with_workers reading.settings (workers_or reading.workers)) (map conduct_of reading.devices) reading.units
    (pasids_of reading.lines) config.frames

-- the driver of what was read, before its first line
pub record IsOpening (config : Config) (reading : Reading) (driver : Driver) : Type 0 where
  pub start : driver.start ≡ opened_by config reading
  pub lines : map done_seen driver.lines.items ≡ map done_of reading.lines
  pub ways : map way_seen driver.lines.items ≡ ways_of reading.lines
  pub taken : driver.taken.items ≡ replicate (length reading.lines) false
  pub at : driver.at.items ≡ firsts_of reading.lines
  pub locked : driver.locked.items ≡ replicate (length reading.locks) false
  pub flags : driver.flags.items ≡ replicate (length reading.flags) false
  pub devices : map device_seen driver.devices.items ≡ planned_from reading.lines 0 reading.devices
  pub workers : driver.workers ≡ workers_or reading.workers

-- ---- The lines before `race`, one after another

abbrev pub line_choice : (place : ℕ) → Choice
line_choice place = record { doing = doing.Line; at = 0; number = place }

-- the number of a line; 0 of none
abbrev pub number_of : Option Kept → ℕ
number_of None = 0
number_of (Some line) = line.number

abbrev pub unless_wrong : (number : ℕ) → Spot → Option Wrong → Result Spot Halt
unless_wrong number spot None = Ok spot
unless_wrong number spot (Some found) = Err (halt.Leaks number found)

-- behind a line, where it is permitted and nothing is wrong there
abbrev pub by_next : (place number : ℕ) → Option Spot → Result Spot Halt
by_next place number None = Err (halt.Refused place)
by_next place number (Some spot) = unless_wrong number spot (first_wrong spot.world)

-- a line that its thread has gone past is left out
abbrev pub is_left_out : Spot → (place : ℕ) → Option Kept → Bool
is_left_out spot place None = false
is_left_out spot place (Some line) = is_past spot place line

abbrev pub behind_next : Driver → (place : ℕ) → Spot → Result Spot Halt
behind_next driver place spot =
    if is_left_out spot place (slice_get driver.lines.items place) then Ok spot else
    by_next place (number_of (slice_get driver.lines.items place)) (next_in driver spot (line_choice place))

-- where so many lines lead; or the first of them that isn't permitted, or behind which something is wrong
unfoldable pub behind_first : Driver → (count : ℕ) → Result Spot Halt
behind_first driver zero = Ok (start_of driver)
behind_first driver (suc place) = behind_first driver place >>= behind_next driver place

-- the driver behind them
pub record IsBehind (opening : Driver) (spot : Spot) (driver : Driver) : Type 0 where
  pub start : driver.start ≡ spot.world
  pub taken : driver.taken.items ≡ spot.taken
  pub at : driver.at.items ≡ spot.at
  pub locked : driver.locked.items ≡ spot.locked
  pub flags : driver.flags.items ≡ spot.flags
  pub lines : driver.lines ≡ opening.lines
  pub devices : driver.devices ≡ opening.devices
  pub workers : driver.workers ≡ opening.workers

-- ---- The text

-- what was read of a text, with the names of all its lines, and the number behind that of its last one
pub record DriverRead : Type 0 where
  pub config : Config
  pub known : Known
  pub next : ℕ
  pub reading : Reading

abbrev pub driver_read : Config → (all : List Line) → (lines : List Worded) → DriverRead
driver_read config all lines = record {
  config = config;
  known = names_from [] all;
  next = length all + 1;
  reading = read_of config (names_from [] all) lines;
}

-- a driver is one where nothing is said of its lines
abbrev pub if_right : DriverRead → (said : List ℕ) → Result DriverRead (List ℕ)
if_right read [] = Ok read
if_right read said = Err said

abbrev pub right_or_said : DriverRead → Result DriverRead (List ℕ)
right_or_said read = if_right read read.reading.said

-- what is wrong with definitions, calls and repeats is told alone
abbrev pub driver_written : Config → (all : List Line) → Result (List Worded) (List ℕ) → Result DriverRead (List ℕ)
driver_written config all (Ok lines) = right_or_said (driver_read config all lines)
driver_written config all (Err said) = Err said

-- so is what is wrong with the config
abbrev pub driver_with : Config → (all lines : List Line) → Result DriverRead (List ℕ)
driver_with config all lines =
    if is_fit config then driver_written config all (written_out lines) else Err (limits_text config all)

abbrev pub driver_behind : (all : List Line) → Result (Config × List Line) Fault → Result DriverRead (List ℕ)
driver_behind all (Err fault) = Err (scripts.fault_text fault)
driver_behind all (Ok (config, lines)) = driver_with config all lines

abbrev pub too_large : List ℕ
too_large = ended (codes "line 0: the driver has more than 1048576 bytes or 65536 lines")

abbrev pub driver_of : List ℕ → Result DriverRead (List ℕ)
driver_of text =
    if is_too_large text then Err too_large else driver_behind (lines_from 1 text) (config_in 0 (lines_from 1 text))

-- what was read, as it is kept before its first line is taken
pub record IsRead (read : DriverRead) (kept : Read) : Type 0 where
  pub config : kept.config ≡ read.config
  pub known : kept.names ≡ read.known
  pub next : kept.next ≡ read.next
  pub is_race : kept.is_race ≡ read.reading.is_race
  pub before : kept.before ≡ read.reading.before
  pub opening : IsOpening read.config read.reading kept.opening
  pub said : map told_seen kept.said.items ≡ map told_of read.reading.lines

-- a driver was read and nothing said; or what is wrong is said
abbrev pub ReadsText : Result DriverRead (List ℕ) → Option Read → (out : List ℕ) → Type 0
ReadsText (Ok read) (Some kept) out = IsRead read kept × (out ≡ [])
ReadsText (Err said) None out = out ≡ said
ReadsText read found out = ⊥

-- ---- The driver, behind the lines before `race`

pub record IsText (read : Read) (text : Text) : Type 0 where
  pub config : text.config ≡ read.config
  pub before : text.before ≡ read.before
  pub said : text.said ≡ read.said
  pub opened : text.opened ≡ start_of read.opening
  pub spot : Spot
  pub first : behind_first read.opening read.before ≡ Ok spot
  pub driver : IsBehind read.opening spot text.driver

-- a driver has a `race`
abbrev pub race_missing : Read → List ℕ
race_missing read = fault_text read.names read.next [] (record { at = 0; wanted = wanted.Race race.Race })

-- what is told of a line that isn't permitted where it stands
abbrev pub refused_text : Known → Option Kept → Option Said → List ℕ
refused_text known (Some line) (Some said) =
    fault_text known line.number (script_words said.text.items) (record { at = 0; wanted = wanted.Permitted (need_of line.saying) })
refused_text known line said = []

abbrev pub refused_at : Read → (place : ℕ) → List ℕ
refused_at read place =
    refused_text read.names (slice_get read.opening.lines.items place) (slice_get read.said.items place)

-- it stands; or a line isn't permitted, which is told alone; or something is wrong behind one, of which nothing is told yet
abbrev pub StandsAt : Read → Result Spot Halt → Begun → (out : List ℕ) → Type 0
StandsAt read (Ok spot) (begun.Stands text) out = IsText read text × (out ≡ [])
StandsAt read (Err (halt.Refused place)) begun.Faulted out = out ≡ refused_at read place
StandsAt read (Err (halt.Leaks number found)) to out = (to ≡ begun.Leaks number found) × (out ≡ [])
StandsAt read led to out = ⊥

abbrev pub StandsBy : Read → (is_race : Bool) → Begun → (out : List ℕ) → Type 0
StandsBy read true to out = StandsAt read (behind_first read.opening read.before) to out
StandsBy read false to out = (to ≡ begun.Faulted) × (out ≡ race_missing read)

abbrev pub ReadsDriver : Result DriverRead (List ℕ) → Begun → (out : List ℕ) → Type 0
ReadsDriver (Err said) to out = (to ≡ begun.Faulted) × (out ≡ said)
ReadsDriver (Ok read) to out = (kept : Read) × IsRead read kept × StandsBy kept kept.is_race to out
