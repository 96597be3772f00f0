-- The grammar of scenarios, which is this project's own, over the whole text. A text is a list of bytes.
use Rattle.std.specs.Prelude.{◌≡◌, ℕ, ◌+◌, ◌^◌, ◌==◌, ◌&&◌, ◌||◌, not, nat_le, nat_lt, if◌then◌else◌, Bool, true, false, List, [], ◌∷◌, length, filter}
use Rattle.std.specs.Prelude.{codes, slice_index_or, Option, Some, None, Result, Ok, Err, IsOk}
use Rattle.std.specs.Char.{is_ascii_digit}
use Rattle.std.specs.List.{enumerate_from, list_all, list_any, onto_first, slice_split}
use Rattle.std.specs.Str.{all_ascii_digits, bytes_eq}
use Rattle.std.specs.Str.Parse.{digits_value}
use Rattle.sva_step.specs.declared.limits.Config.{Config}
use Rattle.sva_step.specs.declared.steps.Step.{Step}
use Rattle.sva_step.specs.declared.steps.Step.TheVariants.{Space, DropSpace, Map, Unmap, UnmapRange, Bind, Unbind, Advance, Pump, Serve, Reset, Take}
use Rattle.sva_step.specs.declared.steps.Step.TheVariants.{Reply, Ask, BeginUse, EndUse, Evict, Fault, Finish, Quit, Deliver, Look, Bearer}
use Rattle.sva_step.specs.declared.steps.Verdict.{Verdict}
use Rattle.sva_step.specs.declared.steps.Verdict.TheVariants.{Success, Invalid, Failure}
use Rattle.sva_grammar.specs.declared.faults.Cause.{Cause}
use Rattle.sva_grammar.specs.declared.faults.Cause.TheVariants.{NoConfig, UnknownStep, WordCount, BadWord, TooLarge}
use Rattle.sva_grammar.specs.declared.faults.LineFault.{LineFault}
use Rattle.sva_grammar.specs.declared.faults.ParseFault.{ParseFault}
use Rattle.sva_grammar.specs.declared.faults.ParseFault.TheVariants.{Line, Memory}

-- ---- What one part reads is handed to the next; the first fault stands for the whole.

infixl 10 ◌>>=◌
-- by this `do` reads one part after another: `next` reads on with what was read, and reads nothing behind a fault
abbrev pub ◌>>=◌ : {A B E : Type 0} → Result A E → (A → Result B E) → Result B E
(Ok value) >>= next = next value
(Err cause) >>= next = Err cause

-- ---- Lines

-- the lines of a text: each is ended by LF (10), and the last LF may be missing
abbrev pub lines_of : List ℕ → List (List ℕ)
lines_of [] = []
lines_of (byte ∷ text) = if byte == 10 then [] ∷ lines_of text else onto_first byte (lines_of text)

-- a line that says nothing: it is empty, or begins with # (35)
abbrev pub is_skipped : List ℕ → Bool
is_skipped [] = true
is_skipped (byte ∷ _) = byte == 35

-- the lines that say something, each with its number; all lines are counted, and the first bears this number
abbrev pub said_lines : ℕ → List (List ℕ) → List (ℕ × List ℕ)
said_lines first lines = filter (λ line. not (is_skipped line.1)) (enumerate_from first lines)

-- ---- Words

-- the words of a line: one space (32) stands between two, so that two spaces have an empty word between them
abbrev pub words_of : List ℕ → List (List ℕ)
words_of line = slice_split (λ byte. byte == 32) line

-- a number begins with a digit other than 0 (48), or is 0 alone
abbrev pub begins_number : List ℕ → Bool
begins_number [] = false
begins_number (digit ∷ digits) = (nat_lt 48 digit && nat_lt digit 58) || (digit == 48 && length digits == 0)

-- a number: decimal digits that fit 64 bits
unfoldable pub number : List ℕ → Result ℕ Cause
number word =
    if begins_number word && all_ascii_digits word && nat_lt (digits_value 10 word) (2 ^ 64) then Ok (digits_value 10 word) else Err BadWord

-- may the page be written? `r` says no, and `w` says yes
unfoldable pub access : List ℕ → Result Bool Cause
access word = if bytes_eq word (codes "w") then Ok true else if bytes_eq word (codes "r") then Ok false else Err BadWord

-- the bits R and W of a page request: it asks to read, to write, or both
unfoldable pub flags : List ℕ → Result (Bool × Bool) Cause
flags word =
    if bytes_eq word (codes "r") then Ok (true, false) else
    if bytes_eq word (codes "w") then Ok (false, true) else
    if bytes_eq word (codes "rw") then Ok (true, true) else
    Err BadWord

-- the group of a page request: `new` for a new one, or the index of one that has begun
unfoldable pub group : List ℕ → Result (Option ℕ) Cause
group word = if bytes_eq word (codes "new") then Ok None else number word >>= λ index. Ok (Some index)

-- is a page request the last of its group? `last` says yes, and `more` says no
unfoldable pub is_last : List ℕ → Result Bool Cause
is_last word = if bytes_eq word (codes "last") then Ok true else if bytes_eq word (codes "more") then Ok false else Err BadWord

-- what a worker decides
unfoldable pub verdict : List ℕ → Result Verdict Cause
verdict word =
    if bytes_eq word (codes "success") then Ok Success else
    if bytes_eq word (codes "invalid") then Ok Invalid else
    if bytes_eq word (codes "failure") then Ok Failure else
    Err BadWord

-- a digit of a vector: 0 to 9 (48 to 57), or a to f (97 to 102)
abbrev pub is_vector_digit : ℕ → Bool
is_vector_digit byte = is_ascii_digit byte || (nat_le 97 byte && nat_le byte 102)

-- a vector is eight such digits
abbrev pub is_vector : List ℕ → Bool
is_vector word = length word == 8 && list_all is_vector_digit word

-- a vector: its digits are hexadecimal
unfoldable pub vector : List ℕ → Result ℕ Cause
vector word = if is_vector word then Ok (digits_value 16 word) else Err BadWord

-- the word at a place of a line; the first word stands at 0
abbrev pub word : ℕ → List (List ℕ) → List ℕ
word place words = slice_index_or words place []

-- the line has so many words, the first one counted too
abbrev pub has_words : ℕ → List (List ℕ) → Result (Unit {0}) Cause
has_words count words = if length words == count then Ok tt else Err WordCount

-- the line has so many words, or so many
abbrev pub has_words_or : ℕ → ℕ → List (List ℕ) → Result (Unit {0}) Cause
has_words_or count other words = if length words == count || length words == other then Ok tt else Err WordCount

-- ---- The config

-- `config E N W`: how many endpoints, frames and workers there are; numbers begin at 0
unfoldable pub config_counts : List (List ℕ) → Result Config Cause
config_counts words = do
  _ ← has_words 4 words
  endpoints ← number (word 1 words)
  frames ← number (word 2 words)
  workers ← number (word 3 words)
  Ok (record { endpoints = endpoints; frames = frames; workers = workers; first = 0 })

-- the config's line begins with its name
unfoldable pub config_of : List (List ℕ) → Result Config Cause
config_of words = if bytes_eq (word 0 words) (codes "config") then config_counts words else Err NoConfig

-- ---- Steps: by the first word, the form of the line

-- the number of a line that has one word beside its name
unfoldable pub one_number : List (List ℕ) → Result ℕ Cause
one_number words = do
  _ ← has_words 2 words
  number (word 1 words)

-- `space`
unfoldable pub space_step : List (List ℕ) → Result Step Cause
space_step words = do
  _ ← has_words 1 words
  Ok Space

-- `drop S`
unfoldable pub drop_step : List (List ℕ) → Result Step Cause
drop_step words = do
  space ← one_number words
  Ok (DropSpace space)

-- `map S PAGE r` or `map S PAGE w`
unfoldable pub map_step : List (List ℕ) → Result Step Cause
map_step words = do
  _ ← has_words 4 words
  space ← number (word 1 words)
  page ← number (word 2 words)
  write ← access (word 3 words)
  Ok (Map space page write)

-- `unmap S PAGE`, of one page, or `unmap S PAGE COUNT`
unfoldable pub unmap_step : List (List ℕ) → Result Step Cause
unmap_step words = do
  _ ← has_words_or 3 4 words
  space ← number (word 1 words)
  page ← number (word 2 words)
  count ← (if length words == 4 then number (word 3 words) else Ok 1)
  Ok (Unmap space page count)

-- `unmapr S PAGE K`
unfoldable pub unmapr_step : List (List ℕ) → Result Step Cause
unmapr_step words = do
  _ ← has_words 4 words
  space ← number (word 1 words)
  page ← number (word 2 words)
  order ← number (word 3 words)
  Ok (UnmapRange space page order)

-- `look F`
unfoldable pub look_step : List (List ℕ) → Result Step Cause
look_step words = do
  frame ← one_number words
  Ok (Look frame)

-- `bearer P`
unfoldable pub bearer_step : List (List ℕ) → Result Step Cause
bearer_step words = do
  pasid ← one_number words
  Ok (Bearer pasid)

-- `bind E S`
unfoldable pub bind_step : List (List ℕ) → Result Step Cause
bind_step words = do
  _ ← has_words 3 words
  endpoint ← number (word 1 words)
  space ← number (word 2 words)
  Ok (Bind endpoint space)

-- `unbind B`
unfoldable pub unbind_step : List (List ℕ) → Result Step Cause
unbind_step words = do
  binding ← one_number words
  Ok (Unbind binding)

-- `advance B`
unfoldable pub advance_step : List (List ℕ) → Result Step Cause
advance_step words = do
  binding ← one_number words
  Ok (Advance binding)

-- `pump E`
unfoldable pub pump_step : List (List ℕ) → Result Step Cause
pump_step words = do
  endpoint ← one_number words
  Ok (Pump endpoint)

-- `serve E`
unfoldable pub serve_step : List (List ℕ) → Result Step Cause
serve_step words = do
  endpoint ← one_number words
  Ok (Serve endpoint)

-- `reset E`
unfoldable pub reset_step : List (List ℕ) → Result Step Cause
reset_step words = do
  endpoint ← one_number words
  Ok (Reset endpoint)

-- `take W`
unfoldable pub take_step : List (List ℕ) → Result Step Cause
take_step words = do
  worker ← one_number words
  Ok (Take worker)

-- `answer W V`
unfoldable pub answer_step : List (List ℕ) → Result Step Cause
answer_step words = do
  _ ← has_words 3 words
  worker ← number (word 1 words)
  verdict ← verdict (word 2 words)
  Ok (Reply worker verdict)

-- `ask E P PAGE`
unfoldable pub ask_step : List (List ℕ) → Result Step Cause
ask_step words = do
  _ ← has_words 4 words
  endpoint ← number (word 1 words)
  pasid ← number (word 2 words)
  page ← number (word 3 words)
  Ok (Ask endpoint pasid page)

-- `use E P PAGE r` or `use E P PAGE w`
unfoldable pub use_step : List (List ℕ) → Result Step Cause
use_step words = do
  _ ← has_words 5 words
  endpoint ← number (word 1 words)
  pasid ← number (word 2 words)
  page ← number (word 3 words)
  write ← access (word 4 words)
  Ok (BeginUse endpoint pasid page write)

-- `end E U`
unfoldable pub end_step : List (List ℕ) → Result Step Cause
end_step words = do
  _ ← has_words 3 words
  endpoint ← number (word 1 words)
  slot ← number (word 2 words)
  Ok (EndUse endpoint slot)

-- `evict E P PAGE`
unfoldable pub evict_step : List (List ℕ) → Result Step Cause
evict_step words = do
  _ ← has_words 4 words
  endpoint ← number (word 1 words)
  pasid ← number (word 2 words)
  page ← number (word 3 words)
  Ok (Evict endpoint pasid page)

-- `fault E P PAGE A G L`
unfoldable pub fault_step : List (List ℕ) → Result Step Cause
fault_step words = do
  _ ← has_words 7 words
  endpoint ← number (word 1 words)
  pasid ← number (word 2 words)
  page ← number (word 3 words)
  flags ← flags (word 4 words)
  group ← group (word 5 words)
  last ← is_last (word 6 words)
  Ok (Fault endpoint pasid page flags.0 flags.1 group last)

-- `finish E VECTOR COUNT`
unfoldable pub finish_step : List (List ℕ) → Result Step Cause
finish_step words = do
  _ ← has_words 4 words
  endpoint ← number (word 1 words)
  vector ← vector (word 2 words)
  count ← number (word 3 words)
  Ok (Finish endpoint vector count)

-- `quit E P`
unfoldable pub quit_step : List (List ℕ) → Result Step Cause
quit_step words = do
  _ ← has_words 3 words
  endpoint ← number (word 1 words)
  pasid ← number (word 2 words)
  Ok (Quit endpoint pasid)

-- `deliver M`
unfoldable pub deliver_step : List (List ℕ) → Result Step Cause
deliver_step words = do
  message ← one_number words
  Ok (Deliver message)

-- the steps of endpoints and of the link, one row for each
unfoldable pub endpoint_step : List (List ℕ) → Result Step Cause
endpoint_step words =
    if bytes_eq (word 0 words) (codes "ask") then ask_step words else
    if bytes_eq (word 0 words) (codes "use") then use_step words else
    if bytes_eq (word 0 words) (codes "end") then end_step words else
    if bytes_eq (word 0 words) (codes "evict") then evict_step words else
    if bytes_eq (word 0 words) (codes "fault") then fault_step words else
    if bytes_eq (word 0 words) (codes "finish") then finish_step words else
    if bytes_eq (word 0 words) (codes "quit") then quit_step words else
    if bytes_eq (word 0 words) (codes "deliver") then deliver_step words else
    Err UnknownStep

-- those of bindings, units and workers, and else one of the above
unfoldable pub host_step : List (List ℕ) → Result Step Cause
host_step words =
    if bytes_eq (word 0 words) (codes "bind") then bind_step words else
    if bytes_eq (word 0 words) (codes "unbind") then unbind_step words else
    if bytes_eq (word 0 words) (codes "advance") then advance_step words else
    if bytes_eq (word 0 words) (codes "pump") then pump_step words else
    if bytes_eq (word 0 words) (codes "serve") then serve_step words else
    if bytes_eq (word 0 words) (codes "reset") then reset_step words else
    if bytes_eq (word 0 words) (codes "take") then take_step words else
    if bytes_eq (word 0 words) (codes "answer") then answer_step words else
    endpoint_step words

-- the step of a line: one of spaces, frames and PASIDs, and else one of the above; a line of another name is of no step
unfoldable pub step_of : List (List ℕ) → Result Step Cause
step_of words =
    if bytes_eq (word 0 words) (codes "space") then space_step words else
    if bytes_eq (word 0 words) (codes "drop") then drop_step words else
    if bytes_eq (word 0 words) (codes "map") then map_step words else
    if bytes_eq (word 0 words) (codes "unmap") then unmap_step words else
    if bytes_eq (word 0 words) (codes "unmapr") then unmapr_step words else
    if bytes_eq (word 0 words) (codes "look") then look_step words else
    if bytes_eq (word 0 words) (codes "bearer") then bearer_step words else
    host_step words

-- ---- One line by itself, which has no LF (10) in it

-- it is read by these, or it isn't a line
abbrev pub single : {A : Type 0} → (List (List ℕ) → Result A Cause) → List ℕ → Result A Cause
single read line = if list_any (λ byte. byte == 10) line then Err BadWord else read (words_of line)

-- the step that it writes
abbrev pub step_read : List ℕ → Result Step Cause
step_read line = single step_of line

-- the config that it writes
abbrev pub config_read : List ℕ → Result Config Cause
config_read line = single config_of line

-- ---- The whole text

-- what a scenario says
pub record Script : Type 0 where
  pub config : Config
  pub steps : List Step

-- what a text is read as that has this fault at this line
abbrev pub fault : {A : Type 0} → ℕ → Cause → Result A LineFault
fault line cause = Err (record { line = line; cause = cause })

-- a fault stands with the number of its line
abbrev pub at_line : {A : Type 0} → ℕ → Result A Cause → Result A LineFault
at_line line (Ok value) = Ok value
at_line line (Err cause) = fault line cause

-- the steps, one a line
abbrev pub steps_of : List (ℕ × List ℕ) → Result (List Step) LineFault
steps_of [] = Ok []
steps_of (line ∷ lines) = do
  step ← at_line line.0 (step_of (words_of line.1))
  steps ← steps_of lines
  Ok (step ∷ steps)

-- the first line is the config, every other a step; where there is none, the config is missed behind the last line
abbrev pub script_of : ℕ → List (ℕ × List ℕ) → Result Script LineFault
script_of count [] = fault (count + 1) NoConfig
script_of count (first ∷ others) = do
  config ← at_line first.0 (config_of (words_of first.1))
  steps ← steps_of others
  Ok (record { config = config; steps = steps })

-- a text may have 1,048,576 bytes, and 65,536 lines
abbrev pub is_too_large : List ℕ → Bool
is_too_large text = nat_lt 1048576 (length text) || nat_lt 65536 (length (lines_of text))

-- the scenario that a text writes, or its first fault
unfoldable pub scenario_of : List ℕ → Result Script LineFault
scenario_of text = if is_too_large text then fault 0 TooLarge else script_of (length (lines_of text)) (said_lines 1 (lines_of text))

-- the first of these lines is a step
abbrev pub IsStepFirst : List (ℕ × List ℕ) → Type 0
IsStepFirst [] = ⊥
IsStepFirst (line ∷ lines) = IsOk (step_of (words_of line.1))

-- the first of these lines is a config, and the one behind it a step
abbrev pub HasStep : List (ℕ × List ℕ) → Type 0
HasStep [] = ⊥
HasStep (first ∷ others) = IsOk (config_of (words_of first.1)) × IsStepFirst others

-- What a function of the code returned, seen by `shown`, is what the grammar reads: the value or the fault. Want of
-- memory stands for neither.
abbrev pub Reads : {A B : Type 0} → (A → B) → Result A ParseFault → Result B LineFault → Type 0
Reads shown (Ok value) read = read ≡ Ok (shown value)
Reads shown (Err (Line line_fault)) read = read ≡ Err line_fault
Reads shown (Err Memory) read = Unit {0}
