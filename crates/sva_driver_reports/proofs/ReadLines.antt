-- Nor has a line of a text that was read, or its thread; so what is told of an event has none.
use Rattle.std.proofs.Common.{◌≡◌, refl, subst, sym, ℕ, zero, suc, ◌==◌, Bool, true, false, List, [], ◌∷◌, ◌++◌}
use Rattle.std.proofs.Common.{codes, decimal, Option, Some, None, Result, Ok, Err}
use Rattle.std.proofs.lemmas.Option.{same_Some}
use Rattle.std.specs.List.{list_any}
use Rattle.std.specs.Str.{bytes_eq}
use Rattle.std.specs.Prelude.{◌&&◌, if◌then◌else◌, length, map, nat_lt, slice_get, slice_set}
use Rattle.sva_step.specs.declared.limits.Config.{Config}
use Rattle.sva_grammar.specs.Configs.{is_fit}
use Rattle.sva_grammar.specs.Grammar.{◌>>=◌, is_too_large, lines_of}
use Rattle.sva_script.specs.Lines.{Parts, parts_of, said, script_words}
use Rattle.sva_script.specs.Names.{Known}
use Rattle.sva_script_reading.specs.Begins.{Line, config_at, config_in, config_with, lines_from}
use Rattle.sva_script_reading.specs.Faults.{Fault}
use Rattle.sva_race_texts.specs.Limits.{limits_text}
use Rattle.sva_race_texts.specs.Words.{word_at}
use Rattle.sva_open.specs.World.{Part}
use Rattle.sva_open.specs.declared.acts.LocalAct.{LocalAct}
use Rattle.sva_judge.specs.Choices.{act_of}
use Rattle.sva_judge.specs.Spots.{Spot}
use Rattle.sva_judge.specs.declared.choices.Doing.{Doing}
use Rattle.sva_judge.specs.declared.choices.Doing.TheVariants as doing
use Rattle.sva_driver_words.specs.Awaits.{LineSaid}
use Rattle.sva_driver_words.specs.Faults.{wrong_at}
use Rattle.sva_driver_words.specs.Fields.{has_word, says}
use Rattle.sva_driver_words.specs.declared.faults.DriverWanted.TheVariants as wanted
use Rattle.sva_driver_words.specs.declared.faults.DriverWrong.{DriverWrong}
use Rattle.sva_driver_texts.specs.Blocks.{BlockSaid, branched}
use Rattle.sva_driver_texts.specs.Readings.{Reading, act_line, begins_branch, behind, behind_lines, behind_words, branch_line, device_line, headed}
use Rattle.sva_driver_texts.specs.Readings.{heading_line, is_misspelt, is_of_act}
use Rattle.sva_driver_texts.specs.Readings.{line_by, nothing, other_before, other_behind, other_line, race_line, role_of, set_line}
use Rattle.sva_driver_texts.specs.Readings.{is_of_endpoint, is_of_unit, is_told, is_word, thread_of, told_by}
use Rattle.sva_driver_texts.specs.Readings.{told_by_parts, unit_line, with_wrong_block, workers_line}
use Rattle.sva_driver_texts.specs.Units.{units_of, units_or_own}
use Rattle.sva_driver_texts.specs.Devices.{DeviceSaid, setting_line}
use Rattle.sva_driver_texts.specs.WrittenOut.{Worded, written_out}
use Rattle.sva_driver_texts.specs.Texts.{DriverRead, IsRead, LineTold, driver_behind, driver_of, driver_read, driver_written, if_right, told_of, told_seen}
use Rattle.sva_driver_texts.specs.Texts.{too_large}
use Rattle.sva_driver_texts.specs.declared.kept.Read.{Read}
use Rattle.sva_driver_texts.specs.declared.kept.Said.{Said}
use Rattle.sva_driver_texts.specs.declared.kept.Text.{Text}
use Rattle.sva_open.specs.declared.drivers.Line.{Line as Kept}
use Rattle.sva_driver_reports.specs.Witness.{EventSaid, act_event, answer_of, event_by, line_event, threaded}
use Rattle.sva_driver_reports.specs.Witnesses.{IsOneLine}
use Rattle.sva_driver_reports.proofs.TextLines.{AreOneLines, joined_one, lines_one, parts_one, word_one}
use Rattle.sva_driver_reports.proofs.WrittenLines.{AreFound, AreLines, AreWorded, numbered_one, written_one}
use Rattle.sva_driver_reports.proofs.OneLines.{act_one, answer_one, both, decimal_one, either, who_one}

-- ---- Whose a line is

role_one : (word first : List ℕ) → IsOneLine first → IsOneLine (role_of word first)
role_one word first h =
    either (is_of_endpoint word) (codes "endpoint " ++ first)
    (if is_of_unit word then codes "unit " ++ first else if bytes_eq word (codes "deliver") then codes "link" else codes "host")
    (both (codes "endpoint ") first refl h)
    (either (is_of_unit word) (codes "unit " ++ first) (if bytes_eq word (codes "deliver") then codes "link" else codes "host")
    (both (codes "unit ") first refl h) (either (bytes_eq word (codes "deliver")) (codes "link") (codes "host") refl refl))

headed_one : (heading : List ℕ) (words : List (List ℕ)) → IsOneLine heading → AreOneLines words → IsOneLine (headed heading words)
headed_one [] words h all = role_one (word_at 0 words) (word_at 1 words) (word_one 1 words all)
headed_one (byte ∷ heading) words h all = h

-- ---- What is read, line by line

abbrev AreTidy : List LineSaid → Type 0
AreTidy [] = Unit {0}
AreTidy (line ∷ lines) = IsOneLine line.thread × IsOneLine line.text × AreTidy lines

tidy_more : (lines : List LineSaid) (line : LineSaid) → AreTidy lines → IsOneLine line.thread → IsOneLine line.text → AreTidy (lines ++ line ∷ [])
tidy_more [] line h thread text = (thread, text, tt)
tidy_more (first ∷ lines) line h thread text = (h.0, h.1, tidy_more lines line h.2 thread text)

abbrev Good : Reading → Type 0
Good reading = AreTidy reading.lines × IsOneLine reading.heading

-- where a line is read, what was read with it is good
IsGood : Result Reading DriverWrong → Type 0
IsGood (Ok reading) = Good reading
IsGood (Err wrong) = Unit {0}

right : (reading : Reading) → Good reading → IsGood (Ok reading)
unfolding IsGood
right reading h = h

wrong : (it : DriverWrong) → IsGood (Err it)
unfolding IsGood
wrong it = tt

bound : {A : Type 0} (first : Result A DriverWrong) (next : A → Result Reading DriverWrong) → ((a : A) → IsGood (next a)) → IsGood (first >>= next)
unfolding IsGood
bound (Ok a) next h = h a
bound (Err it) next h = tt

one_of : (test : Bool) (one other : Result Reading DriverWrong) → IsGood one → IsGood other → IsGood (if test then one else other)
one_of true one other a b = a
one_of false one other a b = b

thread_good : (reading : Reading) (words : List (List ℕ)) → Good reading → AreOneLines words → IsOneLine (thread_of reading words)
thread_good reading words good all = either reading.is_race (headed reading.heading words) [] (headed_one reading.heading words good.1 all) refl

act_good : (config : Config) (reading : Reading) (number : ℕ) (parts : Parts) (thread : List ℕ) → Good reading → AreOneLines parts.step → IsOneLine thread
    → IsGood (act_line config reading number parts thread)
act_good config reading number parts thread good all one =
    bound _ _ (λ saying. right _ (tidy_more reading.lines _ good.0 one (joined_one parts.step all), good.1))

unit_good : (config : Config) (reading : Reading) (words : List (List ℕ)) → Good reading → IsGood (unit_line config reading words)
unit_good config reading words good =
    bound (units_of config (units_or_own config reading.units) words)
    (λ (units : List ℕ). Ok (record reading { units = units; set = reading.set ++ word_at 0 words ∷ [] }))
    (λ (units : List ℕ). right (record reading { units = units; set = reading.set ++ word_at 0 words ∷ [] }) good)

set_good : (config : Config) (reading : Reading) (words : List (List ℕ)) → Good reading → IsGood (set_line config reading words)
set_good config reading words good =
    let read : Result Reading DriverWrong = setting_line reading.settings words
    >>= λ settings. Ok (record reading { settings = settings; set = reading.set ++ word_at 0 words ∷ [] }) in
    let ahead : Result Reading DriverWrong =
    if says 0 (codes "platform") words && nat_lt 0 (length reading.set) then wrong_at 0 wanted.Ahead else read in
    let once : Result Reading DriverWrong = if list_any (is_word (word_at 0 words)) reading.set then wrong_at 0 wanted.OneLine else ahead in
    let shares : Result Reading DriverWrong = if says 0 (codes "unit") words then unit_line config reading words else once in
    one_of (nat_lt 0 (length reading.lines)) (wrong_at 0 wanted.Earlier) shares (wrong (record { at = 0; wanted = wanted.Earlier }))
    (one_of (says 0 (codes "unit") words) (unit_line config reading words) once (unit_good config reading words good)
    (one_of (list_any (is_word (word_at 0 words)) reading.set) (wrong_at 0 wanted.OneLine) ahead (wrong (record { at = 0; wanted = wanted.OneLine }))
    (one_of (says 0 (codes "platform") words && nat_lt 0 (length reading.set)) (wrong_at 0 wanted.Ahead) read
    (wrong (record { at = 0; wanted = wanted.Ahead }))
    (bound (setting_line reading.settings words) (λ settings. Ok (record reading { settings = settings; set = reading.set ++ word_at 0 words ∷ [] }))
    (λ settings. right (record reading { settings = settings; set = reading.set ++ word_at 0 words ∷ [] }) good)))))

workers_good : (reading : Reading) (words : List (List ℕ)) → Good reading → IsGood (workers_line reading words)
workers_good reading words good = one_of _ _ _ (wrong _) (bound _ _ (λ workers. right _ good))

told_good : (reading : Reading) (endpoint : ℕ) (words : List (List ℕ)) (device : Option DeviceSaid) → Good reading
    → IsGood (told_by reading endpoint words device)
told_good reading endpoint words device good =
    let read : Result Reading DriverWrong = told_by_parts words
    >>= λ told. Ok (record reading { devices = slice_set reading.devices endpoint told }) in
    one_of (is_told device) (wrong_at 1 wanted.OneLine) (if has_word 2 words then read else wrong_at 2 wanted.Part)
    (wrong (record { at = 1; wanted = wanted.OneLine }))
    (one_of (has_word 2 words) read (wrong_at 2 wanted.Part)
    (bound (told_by_parts words) (λ told. Ok (record reading { devices = slice_set reading.devices endpoint told }))
    (λ told. right (record reading { devices = slice_set reading.devices endpoint told }) good))
    (wrong (record { at = 2; wanted = wanted.Part })))

device_good : (config : Config) (reading : Reading) (words : List (List ℕ)) → Good reading → IsGood (device_line config reading words)
device_good config reading words good =
    bound _ _ (λ endpoint. told_good reading endpoint words (slice_get reading.devices endpoint) good)

race_good : (reading : Reading) (words : List (List ℕ)) → Good reading → IsGood (race_line reading words)
race_good reading words good = one_of _ _ _ (wrong _) (bound _ _ (λ done. right _ good))

heading_good : (reading : Reading) (words : List (List ℕ)) → Good reading → AreOneLines words → IsGood (heading_line reading words)
heading_good reading words good all = one_of _ _ _ (wrong _) (bound _ _ (λ done. right _ (good.0, word_one 1 words all)))

branch_good : (reading : Reading) (words : List (List ℕ)) → Good reading → IsGood (branch_line reading words)
branch_good reading words good =
    let thread = thread_of reading (codes "if" ∷ []) in
    bound _ _ (λ done. bound (branched reading.blocks thread (word_at 0 words)) (λ (blocks : List BlockSaid). Ok (record reading { blocks = blocks }))
    (λ (blocks : List BlockSaid). right (record reading { blocks = blocks }) good))

before_good : (config : Config) (reading : Reading) (words : List (List ℕ)) → Good reading → IsGood (other_before config reading words)
before_good config reading words good = one_of _ _ _ (set_good config reading words good) (wrong _)

behind_good : (reading : Reading) (words : List (List ℕ)) → Good reading → AreOneLines words → IsGood (other_behind reading words)
behind_good reading words good all = one_of _ _ _ (heading_good reading words good all) (wrong _)

other_good : (config : Config) (reading : Reading) (words : List (List ℕ)) → Good reading → AreOneLines words → IsGood (other_line config reading words)
other_good config reading words good all =
    one_of (begins_branch (word_at 0 words)) _ _ (branch_good reading words good)
    (one_of _ _ _ (workers_good reading words good) (one_of _ _ _ (device_good config reading words good)
    (one_of _ _ _ (race_good reading words good)
    (one_of _ _ _ (behind_good reading words good all) (before_good config reading words good)))))

line_good : (config : Config) (reading : Reading) (number : ℕ) (words : List (List ℕ)) → Good reading → AreOneLines words
    → IsGood (line_by config reading number words (parts_of words))
line_good config reading number words good all =
    one_of (is_of_act (parts_of words)) _ _
    (act_good config reading number (parts_of words) (thread_of reading (parts_of words).step) good (parts_one words all)
    (thread_good reading (parts_of words).step good (parts_one words all)))
    (one_of (is_misspelt (parts_of words)) _ _ (wrong _) (bound _ _ (λ done. other_good config reading words good all)))

good_of : (test : Bool) (one other : Reading) → Good one → Good other → Good (if test then one else other)
good_of true one other a b = a
good_of false one other a b = b

-- the block of a wrong line is no line
abbrev blocked : Reading → (line : ℕ) → List (List ℕ) → Reading
blocked reading line words = with_wrong_block reading line (parts_of words)

blocked_good : (reading : Reading) (line : ℕ) (words : List (List ℕ)) → Good reading → Good (blocked reading line words)
blocked_good reading line words good = good_of (says 0 (codes "if") (parts_of words).step) _ _ good good

after_good : (reading : Reading) (known : Known) (line : ℕ) (words : List (List ℕ)) (read : Result Reading DriverWrong) → Good reading → IsGood read
    → Good (behind reading known line words read)
unfolding IsGood
after_good reading known line words (Ok read) good h = h
after_good reading known line words (Err it) good h =
    good_of (list_any (λ own. own == line) (blocked reading line words).told) _ _ (blocked_good reading line words good)
    (blocked_good reading line words good)

words_good : (config : Config) (known : Known) (reading : Reading) (line : ℕ) (words : List (List ℕ)) → Good reading → AreOneLines words
    → Good (behind_words config known reading line words)
words_good config known reading line [] good all = good
words_good config known reading line (word ∷ words) good all =
    after_good reading known line (word ∷ words) (line_by config reading line (word ∷ words) (parts_of (word ∷ words))) good
    (line_good config reading line (word ∷ words) good all)

-- ---- All lines

lines_good : (config : Config) (known : Known) (reading : Reading) (lines : List Worded) → Good reading → AreWorded lines
    → Good (behind_lines config known reading lines)
unfolding behind_lines
lines_good config known reading [] good all = good
lines_good config known reading (line ∷ lines) good all =
    lines_good config known (behind_words config known reading line.0 line.1) lines
    (words_good config known reading line.0 line.1 good all.0) all.1

-- those behind the config are some of all
abbrev AreLeft : Result (Config × List Line) Fault → Type 0
AreLeft (Ok found) = AreLines found.1
AreLeft (Err fault) = Unit {0}

with_config : (lines : List Line) (config : Result Config Fault) → AreLines lines → AreLeft (config_with lines config)
with_config lines (Ok config) h = h
with_config lines (Err fault) h = tt

at_config : (line : Line) (lines : List Line) (later : Result (Config × List Line) Fault) (words : List (List ℕ)) → AreLines lines → AreLeft later
    → AreLeft (config_at line lines later words)
at_config line lines later [] h rest = rest
at_config line lines later (word ∷ words) h rest = with_config lines _ h

left_good : (before : ℕ) (lines : List Line) → AreLines lines → AreLeft (config_in before lines)
unfolding config_in
left_good before [] h = tt
left_good before (line ∷ lines) h = at_config line lines (config_in line.0 lines) (script_words line.1) h.1 (left_good line.0 lines h.1)

-- ---- What is read of a text

abbrev IsGoodRead : Result DriverRead (List ℕ) → Type 0
IsGoodRead (Ok read) = AreTidy read.reading.lines
IsGoodRead (Err said) = Unit {0}

right_read : (read : DriverRead) (said : List ℕ) → AreTidy read.reading.lines → IsGoodRead (if_right read said)
right_read read [] h = h
right_read read (byte ∷ said) h = tt

one_read : (test : Bool) (one other : Result DriverRead (List ℕ)) → IsGoodRead one → IsGoodRead other → IsGoodRead (if test then one else other)
one_read true one other a b = a
one_read false one other a b = b

written_read : (config : Config) (all : List Line) (found : Result (List Worded) (List ℕ)) → AreFound found
    → IsGoodRead (driver_written config all found)
written_read config all (Err said) h = tt
written_read config all (Ok lines) h =
    let read = driver_read config all lines in
    right_read read read.reading.said (lines_good config read.known (nothing config) lines (tt, refl) h).0

behind_read : (all : List Line) (found : Result (Config × List Line) Fault) → AreLeft found → IsGoodRead (driver_behind all found)
behind_read all (Err fault) h = tt
behind_read all (Ok (config, lines)) h =
    one_read (is_fit config) (driver_written config all (written_out lines)) (Err (limits_text config all))
    (written_read config all (written_out lines) (written_one lines h)) tt

text_good : (text : List ℕ) → IsGoodRead (driver_of text)
text_good text =
    let lines = numbered_one 1 (lines_of text) (lines_one text) in
    one_read (is_too_large text) (Err too_large) (driver_behind (lines_from 1 text) (config_in 0 (lines_from 1 text))) tt
    (behind_read (lines_from 1 text) (config_in 0 (lines_from 1 text)) (left_good 0 (lines_from 1 text) lines))

-- ---- What is told of a line

abbrev AreToldWell : List LineTold → Type 0
AreToldWell [] = Unit {0}
AreToldWell (line ∷ lines) = IsOneLine line.thread × IsOneLine line.text × AreToldWell lines

told_well : (lines : List LineSaid) → AreTidy lines → AreToldWell (map told_of lines)
told_well [] h = tt
told_well (line ∷ lines) h = (h.0, h.1, told_well lines h.2)

at_place : (saids : List Said) (place : ℕ) (it : Said) → AreToldWell (map told_seen saids) → slice_get saids place ≡ Some it
    → IsOneLine it.thread.items × IsOneLine it.text.items
at_place [] place it h is = absurd (cc is)
at_place (said ∷ saids) zero it h is = subst (λ (it : Said). IsOneLine it.thread.items × IsOneLine it.text.items) (same_Some said it is) (h.0, h.1)
at_place (said ∷ saids) (suc place) it h is = at_place saids place it h.2 is

-- the words and the thread of each line of a text that was read
pub AreWhole : List Said → Type 0
AreWhole saids = (place : ℕ) (it : Said) → slice_get saids place ≡ Some it → IsOneLine it.thread.items × IsOneLine it.text.items

pub are_whole : (text : List ℕ) (from : DriverRead) (read : Read) → driver_of text ≡ Ok from → IsRead from read → AreWhole read.said.items
unfolding AreWhole
are_whole text from read is reads = λ place it stands.
    at_place read.said.items place it
    (subst AreToldWell (sym reads.said) (told_well from.reading.lines (subst IsGoodRead is (text_good text)))) stands

-- ---- An event

abbrev IsWhole : Option EventSaid → Type 0
IsWhole None = Unit {0}
IsWhole (Some event) = IsOneLine event.who × IsOneLine event.text

threaded_one : (thread : List ℕ) → IsOneLine thread → IsOneLine (threaded thread)
threaded_one [] h = refl
threaded_one (byte ∷ thread) h = both (byte ∷ thread) (codes ", ") h refl

line_whole : (spot : Spot) (saids : List Said) (place : ℕ) (line : Option Kept) (told : Option Said) → AreWhole saids → slice_get saids place ≡ told
    → IsWhole (line_event spot line told)
unfolding AreWhole
line_whole spot saids place None told whole is = tt
line_whole spot saids place (Some line) None whole is = tt
line_whole spot saids place (Some line) (Some it) whole is =
    let one = whole place it is in
    let thread = threaded it.thread.items in (
      both (thread ++ codes "line ") (decimal line.number) (both thread (codes "line ") (threaded_one it.thread.items one.0) refl) (decimal_one line.number),
      both it.text.items (answer_of spot line.saying) one.1 (answer_one spot line.saying),
    )

act_whole : (own : Doing) (at : ℕ) (part : Option Part) (its : Option LocalAct) → IsWhole (act_event own at part its)
act_whole own at None its = tt
act_whole own at (Some part) None = tt
act_whole own at (Some part) (Some its) = (who_one own at, act_one part at its)

pub event_whole : (text : Text) (spot : Spot) (own : Doing) (at number : ℕ) (event : EventSaid) → AreWhole text.said.items
    → event_by text spot own at number ≡ Some event → IsOneLine event.who × IsOneLine event.text
event_whole text spot own at number event whole is = subst IsWhole is (by_own own)
  where
    by_own : (it : Doing) → IsWhole (event_by text spot it at number)
    by_own doing.Line = line_whole spot text.said.items number (slice_get text.driver.lines.items number) (slice_get text.said.items number) whole refl
    by_own it = act_whole it at (slice_get spot.world.parts at) (act_of text.driver spot it at number)
