-- The chart of a driver: its rows are the events of the witness that `judge` prints, in order, each with its number, the number of its
-- line, and its text. What is drawn between these, and what is said of the messages that an event sends, is a picture of which no more
-- is known.
use Rattle.std.specs.Prelude.{◌≡◌, ℕ, ◌+◌, ◌-◌, ◌==◌, if◌then◌else◌, Bool, true, false, List, [], ◌∷◌, ◌++◌, codes, decimal, flat_map}
use Rattle.std.specs.Prelude.{drop, length, position, replicate, slice_get, take, Option, Some, None, Result, Ok, Err}
use Rattle.std.specs.Io.KnownBytes.{Appends}
use Rattle.std.specs.Option.{unwrap_or}
use Rattle.std.specs.Str.{bytes_eq}
use Rattle.sva_streams.specs.declared.streams.DriveFault.{DriveFault}
use Rattle.sva_streams.specs.declared.streams.DriveFault.TheVariants.{Write}
use Rattle.sva_streams.specs.Streams.{AppendsPrefix}
use Rattle.sva_script.specs.Lines.{begins_comment, script_words}
use Rattle.sva_script_reading.specs.Begins.{Line, lines_from}
use Rattle.sva_script_reading.specs.Faults.{shown_word}
use Rattle.sva_open.specs.Finding.{kind_of}
use Rattle.sva_open.specs.declared.frames.Target.{Target}
use Rattle.sva_open.specs.declared.messages.Message.{Message}
use Rattle.sva_open.specs.declared.messages.Message.TheVariants as message
use Rattle.sva_driver_words.specs.Pieces.{access_text, and_number, kind_text}
use Rattle.sva_driver_reports.specs.Judged.{IsTextJudged}
use Rattle.sva_driver_reports.specs.declared.reports.Ruling.{Ruling}
use Rattle.sva_driver_reports.specs.declared.wanted.Wanted.{Wanted}
use Rattle.sva_charts.specs.declared.sketch.Drawn.{Drawn}
use Rattle.sva_charts.specs.declared.sketch.Head.{Head}
use Rattle.sva_charts.specs.declared.sketch.Sign.{Sign}
use Rattle.sva_charts.specs.declared.sketch.Sign.TheVariants as sign
use Rattle.sva_charts.specs.declared.sketch.Sketch.{Sketch}

-- ---- A witness in a report

-- the first line of a report
abbrev pub head_of : List Line → List ℕ
head_of [] = []
head_of (line ∷ lines) = line.1

abbrev pub first_line : (report : List ℕ) → List ℕ
first_line report = head_of (lines_from 1 report)

-- the events of a witness: the lines behind `# race`, where there is that
abbrev pub is_race : (line : List ℕ) → Bool
is_race line = bytes_eq line (codes "# race")

unfoldable pub behind_race : List Line → Option (List Line)
behind_race [] = None
behind_race (line ∷ lines) = if is_race line.1 then Some lines else behind_race lines

abbrev pub events_in : (report : List ℕ) → Option (List Line)
events_in report = behind_race (lines_from 1 report)

-- ---- The line of an event: `TEXT # WHO`, or, as a comment, `# WHO: TEXT`

-- where a byte stands first, or the end
abbrev pub place_of : (byte : ℕ) → List ℕ → ℕ
place_of byte text = unwrap_or (position (λ one. one == byte) text) (length text)

abbrev pub up_to : (byte : ℕ) → List ℕ → List ℕ
up_to byte text = take (place_of byte text) text

-- what stands behind so many bytes that begin with this one
abbrev pub behind : (byte count : ℕ) → List ℕ → List ℕ
behind byte count text = drop (place_of byte text + count) text

-- a colon is 58, # is 35
abbrev pub who_if : (is_comment : Bool) → (line : List ℕ) → List ℕ
who_if true line = up_to 58 (drop 2 line)
who_if false line = behind 35 2 line

abbrev pub who_in : (line : List ℕ) → List ℕ
who_in line = who_if (begins_comment line) line

abbrev pub said_if : (is_comment : Bool) → (line : List ℕ) → List ℕ
said_if true line = behind 58 2 line
said_if false line = line

-- its words
abbrev pub words_in : (line : List ℕ) → List (List ℕ)
words_in line = script_words (said_if (begins_comment line) line)

-- who acts is `THREAD, line L`, or no line: `, line ` has seven bytes, of which the first is 44
abbrev pub number_in : (line : List ℕ) → List ℕ
number_in line = behind 44 7 (who_in line)

-- ---- What is drawn

abbrev pub sign_byte : Sign → ℕ
sign_byte sign.Blank = 32
sign_byte sign.Rail = 58
sign_byte sign.Lane = 124
sign_byte sign.Dash = 45
sign_byte sign.Dot = 111
sign_byte sign.Queue = 113
sign_byte sign.Start = 46
sign_byte sign.End = 39
sign_byte sign.Left = 60
sign_byte sign.Right = 62
sign_byte sign.Lost = 120

abbrev pub sign_text : Sign → List ℕ
sign_text one = sign_byte one ∷ []

abbrev pub signs_text : List Sign → List ℕ
signs_text signs = flat_map sign_text signs

-- where a completion leads
abbrev pub target_text : Option Target → List ℕ
target_text None = codes ": no frame"
target_text (Some target) = codes ": frame" ++ and_number target.frame ++ access_text target.write

abbrev pub led_text : Message → List ℕ
led_text (message.Completion tag page target) = target_text target
led_text other = []

abbrev pub sent_text : Message → List ℕ
sent_text one = codes "  -> " ++ kind_text (kind_of one) ++ led_text one

-- ---- Rows

-- a text in a column, and a space
abbrev pub cell : (width : ℕ) → List ℕ → List ℕ
cell width text = text ++ replicate (width - length text) 32 ++ 32 ∷ []

-- words, a space before each
abbrev pub words_text : List (List ℕ) → List ℕ
words_text words = flat_map (λ word. 32 ∷ word) words

-- what an event sends stands behind it; or, where it delivers a message too, in a line of its own, without a number
abbrev pub sent_behind : (more : List Sign) → List Message → List ℕ
sent_behind [] sent = flat_map sent_text sent ++ 10 ∷ []
sent_behind more sent = 10 ∷ cell 5 [] ++ cell 5 [] ++ signs_text more ++ flat_map sent_text sent ++ 10 ∷ []

abbrev pub front_of : (number : ℕ) → (line : List ℕ) → List ℕ
front_of number line = cell 5 (decimal number) ++ cell 5 (number_in line)

abbrev pub row_text : (number : ℕ) → (line : List ℕ) → Option Drawn → List ℕ
row_text number line None = front_of number line ++ words_text (words_in line) ++ 10 ∷ []
row_text number line (Some drawn) =
    front_of number line ++ signs_text drawn.signs.items ++ words_text (words_in line) ++ sent_behind drawn.more.items drawn.sent.items

-- a row for each event, from a place on
unfoldable pub rows_from : List Drawn → (place : ℕ) → List Line → List ℕ
rows_from drawn place [] = []
rows_from drawn place (line ∷ lines) = row_text (place + 1) line.1 (slice_get drawn place) ++ rows_from drawn (place + 1) lines

-- the heads of the rails, behind those of the columns
abbrev pub head_text : Head → List ℕ
head_text head = replicate head.blanks 32 ++ shown_word head.name.items ++ flat_map and_number head.numbers.items

abbrev pub heads_text : List Head → List ℕ
heads_text heads = cell 5 (codes "event") ++ cell 5 (codes "line") ++ flat_map head_text heads ++ 10 ∷ []

-- ---- The chart

abbrev pub charted : (report : List ℕ) → Sketch → (events : List Line) → List ℕ
charted report sketch events =
    first_line report ++ 10 ∷ (heads_text sketch.heads.items ++ rows_from sketch.rows.items 0 events)

-- a report without a witness stands as it is; else its first line does, and below it a row for each event, whatever is drawn in it
abbrev pub IsChartBy : (report : List ℕ) → Option (List Line) → (out : List ℕ) → Type 0
IsChartBy report None out = out ≡ report
IsChartBy report (Some events) out = (sketch : Sketch) × (out ≡ charted report sketch events)

abbrev pub IsChartOf : (report out : List ℕ) → Type 0
IsChartOf report out = IsChartBy report (events_in report) out

-- the text was judged, a nearest finding of it, and its report charted
abbrev pub wanted_of : (most : ℕ) → Wanted
wanted_of most = record { most = most; all = false; lines_alone = false }

pub record IsTextCharted (text : List ℕ) (most : ℕ) (said : Option Ruling) (out : List ℕ) : Type 0 where
  pub report : List ℕ
  pub judged : IsTextJudged text (wanted_of most) said report
  pub charted : IsChartOf report out

-- ---- What is written of it: all, or a prefix where writing failed; where memory lacked, nothing is

abbrev pub ChartsDriver : (text : List ℕ) → (most : ℕ) → (old new : Option (List ℕ)) → Result (Option Ruling) DriveFault → Type 0
ChartsDriver text most old new (Ok said) = (out : List ℕ) × IsTextCharted text most said out × Appends old new out
ChartsDriver text most old new (Err Write) =
    (out : List ℕ) × (said : Option Ruling) × IsTextCharted text most said out × AppendsPrefix old new out
ChartsDriver text most old new (Err fault) = AppendsPrefix old new []
