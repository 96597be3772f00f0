-- What `plain` and `test` make of a whole script.
use Rattle.std.specs.Prelude.{ℕ, ◌+◌, ◌==◌, not, Bool, true, false, if◌then◌else◌, List, [], ◌∷◌, ◌++◌, codes, decimal, drop, is_none}
use Rattle.std.specs.Prelude.{position, Option, Some, None, Result, Ok, Err}
use Rattle.std.specs.Option.{option_map_or}
use Rattle.sva_step.specs.declared.limits.Config.{Config}
use Rattle.sva_labels.specs.Host.{first_wire, next_of, reply_of}
use Rattle.sva_model.specs.Wire.{Wire}
use Rattle.sva_grammar.specs.Grammar.{is_too_large, words_of}
use Rattle.sva_grammar.specs.Replies.{ended, reply_text}
use Rattle.sva_snapshot.specs.Explaining.{Explaining}
use Rattle.sva_script.specs.declared.faults.Wanted.TheVariants as wanted
use Rattle.sva_script.specs.declared.faults.Wrong.{Wrong}
use Rattle.sva_script.specs.Expect.{are_as_expected}
use Rattle.sva_script.specs.Lines.{Parts, parts_of, script_words}
use Rattle.sva_streams.specs.declared.streams.Outcome.{Outcome}
use Rattle.sva_streams.specs.declared.streams.Outcome.TheVariants.{Done, Faulted}
use Rattle.sva_script_reading.specs.Begins.{Line, at_word, begin_of, fault_of, first_config, joined_words, lines_from, said_by}
use Rattle.sva_reports.specs.Counts.{counts_at}
use Rattle.sva_script_reading.specs.Said.{Said, bad, faulty, well}
use Rattle.sva_script_reading.specs.Lines.{LineRead, Plain}
use Rattle.sva_script_runs.specs.Runs.{Running, behind, read_at}

-- ---- In the run

-- where a script is: is the config's line still to come? What is kept, and the names
pub record At : Type 0 where
  pub is_config : Bool
  pub running : Running

-- before its first line
abbrev pub start : Config → At
start config = record { is_config = true; running = record { seen = first_wire config; known = [] } }

-- behind the config, and behind a line that was read so
abbrev pub past_config : At → At
past_config at = record { is_config = false; running = at.running }

abbrev pub past_line : Running → (line : ℕ) → Parts → LineRead → At
past_line running line parts read = record { is_config = false; running = behind running line parts.name read.step }

-- ---- The plain scenario

-- the comment of a line that says nothing else: what stands behind its spaces (32)
abbrev pub comment_of : List ℕ → List ℕ
comment_of text = option_map_or (λ first. drop first text) (position (λ byte. not (byte == 32)) text) []

-- a step's line of the scenario; `end => ..` has none
abbrev pub step_line : Option Plain → List ℕ
step_line None = []
step_line (Some plain) = ended plain.text

-- a scenario that a replay takes
abbrev pub if_small : List ℕ → Said
if_small text = if is_too_large text then bad (ended (codes "line 0: the scenario has more than 1048576 bytes or 65536 lines")) else well text

-- what a line comes to whose words are these; `rest` is what those behind it come to, from what was written then
abbrev pub plain_read : Running → (line : ℕ) → List (List ℕ) → (out : List ℕ) → (rest : List ℕ → At → Said) → Result LineRead Wrong → Said
plain_read running line words out rest (Ok read) = rest (out ++ step_line read.step) (past_line running line (parts_of words) read)
plain_read running line words out rest (Err wrong) = faulty (fault_of running.known line words wrong ∷ [])

abbrev pub plain_step : Running → (line : ℕ) → List (List ℕ) → (out : List ℕ) → (rest : List ℕ → At → Said) → Said
plain_step running line words out rest = plain_read running line words out rest (read_at running (parts_of words))

abbrev pub plain_line : At → Line → (out : List ℕ) → (rest : List ℕ → At → Said) → List (List ℕ) → Said
plain_line at line out rest [] = rest (out ++ ended (comment_of line.1)) at
plain_line at line out rest words =
    if at.is_config then rest (out ++ ended (joined_words words)) (past_config at) else plain_step at.running line.0 words out rest

-- what is said where this was written so far, and these lines are left
unfoldable pub plain_from : (out : List ℕ) → At → List Line → Said
plain_from out at [] = if_small out
plain_from out at (line ∷ lines) = plain_line at line out (λ text next. plain_from text next lines) (script_words line.1)

-- what `plain` says of a script
abbrev pub plain_of : List ℕ → Said
plain_of text = said_by (λ config. plain_from [] (start config) (lines_from 1 text)) (begin_of text)

-- ---- The test

-- what a line is answered: a step by the definitions, and the last line the counts
abbrev pub answer_at : Wire → Option Plain → List ℕ
answer_at wire None = counts_at wire
answer_at wire (Some plain) = reply_text (reply_of wire plain.step)

-- what holds its step back where that has left this; of a step that isn't held back, and of the last line, nothing
abbrev pub held_at : Explaining → Wire → Option Plain → List ℕ
held_at explained wire None = []
held_at explained wire (Some plain) = explained (next_of wire plain.step) plain.step (reply_of wire plain.step)

-- is the answer as expected, word by word?
abbrev pub is_expected : (expected answer : List ℕ) → Bool
is_expected expected answer = are_as_expected (words_of expected) (words_of answer)

-- a step, as it is told; the last line is `end`
abbrev pub told_step : Option Plain → List ℕ
told_step None = codes "end"
told_step (Some plain) = plain.text

-- the line of an answer that isn't as expected
abbrev pub miss_text : (line : ℕ) → (step expected answer : List ℕ) → List ℕ
miss_text line step expected answer =
    codes "line " ++ decimal line ++ codes ": " ++ step ++ codes ": expected '" ++ expected ++ codes "', answered '" ++ answer ++ ended (codes "'")

-- `N answers as expected`
abbrev pub verdict_text : ℕ → List ℕ
verdict_text count = decimal count ++ ended (if count == 1 then codes " answer as expected" else codes " answers as expected")

-- one more is as expected, or it is told that it isn't, and what holds the step back
abbrev pub judged : (count line : ℕ) → (step answer whys expected : List ℕ) → (rest : ℕ → Said) → Said
judged count line step answer whys expected rest =
    if is_expected expected answer then rest (count + 1) else bad (miss_text line step expected answer ++ whys)

-- the answer is compared with what is expected, which has a space before each word; where nothing is, nothing is compared
abbrev pub compared : (count line : ℕ) → (step answer whys : List ℕ) → (rest : ℕ → Said) → (expected : Option (List ℕ)) → Said
compared count line step answer whys rest None = rest count
compared count line step answer whys rest (Some expected) = judged count line step answer whys (drop 1 expected) rest

-- what a test makes of a line that was taken
abbrev pub test_made : (is_expected : Bool) → (line : ℕ) → (told answer whys expected : List ℕ) → (count : ℕ) → (rest : ℕ → Said) → Said
test_made false line told answer whys expected count rest = rest count
test_made true line told answer whys expected count rest = judged count line told answer whys (drop 1 expected) rest

-- what a line comes to where so many answers were as expected; `rest` is what those behind it come to
abbrev pub test_read : Explaining → Running → (line : ℕ) → List (List ℕ) → (count : ℕ) → (rest : ℕ → Bool → At → Said) → Result LineRead Wrong → Said
test_read explained running line words count rest (Ok read) =
    compared count line (told_step read.step) (answer_at running.seen read.step) (held_at explained running.seen read.step)
    (λ more. rest more (is_none read.step) (past_line running line (parts_of words) read)) read.expected
test_read explained running line words count rest (Err wrong) = faulty (fault_of running.known line words wrong ∷ [])

abbrev pub test_step : Explaining → Running → (line : ℕ) → List (List ℕ) → (count : ℕ) → (rest : ℕ → Bool → At → Said) → Said
test_step explained running line words count rest = test_read explained running line words count rest (read_at running (parts_of words))

-- behind `end => ..` no line may say anything
abbrev pub test_line : Explaining → At → (is_past : Bool) → Line → (count : ℕ) → (rest : ℕ → Bool → At → Said) → List (List ℕ) → Said
test_line explained at is_past line count rest [] = rest count is_past at
test_line explained at is_past line count rest words =
    if at.is_config then rest count is_past (past_config at)
    else if is_past then faulty (fault_of at.running.known line.0 words (at_word 0 wanted.NoLine) ∷ [])
    else test_step explained at.running line.0 words count rest

-- what is said where so many answers were as expected, the last line was there or not, and these lines are left
unfoldable pub test_from : Explaining → (count : ℕ) → (is_past : Bool) → At → List Line → Said
test_from explained count is_past at [] = well (verdict_text count)
test_from explained count is_past at (line ∷ lines) =
    test_line explained at is_past line count (λ more past next. test_from explained more past next lines) (script_words line.1)

-- what is wrong with the lines of a script is told in place of the first answer that differs, and all of it
abbrev pub told_by : Outcome → (said wrong : Said) → Said
told_by Done said wrong = said
told_by Faulted said wrong = wrong

abbrev pub or_wrong : Result Config Said → Said → Said
or_wrong (Ok config) said = said
or_wrong (Err wrong) said = told_by said.outcome said wrong

abbrev pub tested : Explaining → List ℕ → Result Config Said → Said
tested explained text (Ok config) = or_wrong (begin_of text) (said_by (λ config. test_from explained 0 false (start config) (lines_from 1 text)) (Ok config))
tested explained text (Err said) = said

-- what `test` says of a script
abbrev pub test_of : Explaining → List ℕ → Said
test_of explained text = tested explained text (first_config text)
