-- A driver written out: the lines that are read of a text with `def`, `call` and `repeat`, and what is wrong with these.
use Rattle.std.specs.Prelude.{◌≡◌, ℕ, zero, suc, ◌+◌, ◌-◌, ◌==◌, ◌&&◌, ◌||◌, not, nat_le, nat_lt, if◌then◌else◌, Bool, true, false}
use Rattle.std.specs.Prelude.{List, [], ◌∷◌, ◌++◌, codes, drop, flat_map, length, map, position, slice_get, slice_index_or, take}
use Rattle.std.specs.Prelude.{Option, Some, None, is_some, Result, Ok, Err}
use Rattle.std.specs.Char.{is_ascii_alphabetic, is_ascii_alphanumeric}
use Rattle.std.specs.List.{find, list_all, list_any}
use Rattle.std.specs.Option.{unwrap_or}
use Rattle.std.specs.Str.{bytes_eq}
use Rattle.sva_script.specs.declared.faults.Wanted.TheVariants as script
use Rattle.sva_script.specs.Lines.{parts_of, script_words, step_begins}
use Rattle.sva_script.specs.Names.{Known, given_of}
use Rattle.sva_script_reading.specs.Begins.{Line}
use Rattle.sva_race_texts.specs.Words.{word_at}
use Rattle.sva_race_texts.specs.declared.faults.RaceWanted.TheVariants as race
use Rattle.sva_driver_words.specs.Faults.{fault_text}
use Rattle.sva_driver_words.specs.Fields.{has_word, says, times_at}
use Rattle.sva_driver_words.specs.declared.faults.DriverWanted.TheVariants as wanted
use Rattle.sva_driver_words.specs.declared.faults.DriverWrong.{DriverWrong}
use Rattle.sva_driver_words.specs.declared.written.WrittenWanted.{WrittenWanted}
use Rattle.sva_driver_words.specs.declared.written.WrittenWanted.TheVariants as written
use Rattle.sva_driver_texts.specs.Devices.{is_setting}
use Rattle.sva_driver_texts.specs.declared.bodies.Opener.{Opener}
use Rattle.sva_driver_texts.specs.declared.bodies.Opener.TheVariants as opener

-- a line that is read: its number in the text, and its words
abbrev pub Worded : Type 0
Worded = ℕ × List (List ℕ)

-- a line of the text, as it stands there
abbrev pub worded : Line → Worded
worded line = (line.0, script_words line.1)

-- ---- Words

-- a letter, a digit, - (45) or _ (95)
abbrev pub is_title_byte : ℕ → Bool
is_title_byte byte = (is_ascii_alphanumeric byte || byte == 45) || byte == 95

-- the name of a definition or of a thread: a letter, then such bytes. It may be a word of the format, since it stands at places of its own
abbrev pub is_title : List ℕ → Bool
is_title [] = false
is_title (first ∷ rest) = is_ascii_alphabetic first && list_all is_title_byte rest

-- what begins with $ (36) is a parameter
abbrev pub begins_parameter : List ℕ → Bool
begins_parameter [] = false
begins_parameter (byte ∷ _) = byte == 36

-- and behind that stands a name
abbrev pub is_parameter : List ℕ → Bool
is_parameter word = begins_parameter word && is_title (drop 1 word)

abbrev pub is_among : List (List ℕ) → (word : List ℕ) → Bool
is_among words word = list_any (λ own. bytes_eq own word) words

-- a line's words behind its name
abbrev pub behind_name : List (List ℕ) → List (List ℕ)
behind_name words = drop (step_begins (parts_of words)) words

-- `end` by itself
abbrev pub is_bare_end : List (List ℕ) → Bool
is_bare_end words = length words == 1 && says 0 (codes "end") words

abbrev pub is_if : List (List ℕ) → Bool
is_if words = says 0 (codes "if") (behind_name words)

-- ---- A body written out: each parameter is the word that the call has in its place

-- a definition: its name, its parameters, and its lines, in which each call is written out
pub record Defined : Type 0 where
  pub name : List ℕ
  pub parameters : List (List ℕ)
  pub lines : List Worded

abbrev pub put_at : (given : List (List ℕ)) → (word : List ℕ) → Option ℕ → List ℕ
put_at given word None = word
put_at given word (Some place) = slice_index_or given place word

-- a whole word is a parameter, or it isn't one
abbrev pub put_in : (parameters given : List (List ℕ)) → (word : List ℕ) → List ℕ
put_in parameters given word = put_at given word (position (λ own. bytes_eq own word) parameters)

-- the line keeps its number
abbrev pub put_line : (parameters given : List (List ℕ)) → Worded → Worded
put_line parameters given line = (line.0, map (put_in parameters given) line.1)

abbrev pub put_lines : Defined → (given : List (List ℕ)) → List Worded
put_lines defined given = map (put_line defined.parameters given) defined.lines

-- ---- What is kept of the lines so far

-- a body that is open, with its lines so far, written out; and how many `if` of its own have no `end` yet. The text itself is one
pub record BodySaid : Type 0 where
  pub opener : Opener
  pub number : ℕ
  -- of a definition
  pub name : List ℕ
  -- of a repeat
  pub times : ℕ
  pub ifs : ℕ
  pub lines : List Worded

-- a line that is wrong
pub record WrongSaid : Type 0 where
  pub number : ℕ
  pub words : List (List ℕ)
  pub wrong : DriverWrong

pub record Writing : Type 0 where
  -- the innermost body, and those around it, the outermost first
  pub body : BodySaid
  pub around : List BodySaid
  -- the parameters, within a definition
  pub parameters : Option (List (List ℕ))
  -- the definitions that are ended, and the names of all that were begun
  pub defined : List Defined
  pub known : Known
  -- how many lines and bytes calls and repeats may still write out, and whether one passed that
  pub left : ℕ
  pub bytes : ℕ
  pub is_full : Bool
  pub wrongs : List WrongSaid

abbrev pub text_itself : BodySaid
text_itself = record { opener = opener.Text; number = 0; name = []; times = 0; ifs = 0; lines = [] }

abbrev pub nothing_written : Writing
nothing_written = record {
  body = text_itself;
  around = [];
  parameters = None;
  defined = [];
  known = [];
  left = 65536;
  bytes = 1048576;
  is_full = false;
  wrongs = [];
}

abbrev pub with_wrong : Writing → (number : ℕ) → List (List ℕ) → DriverWrong → Writing
with_wrong writing number words wrong =
    record writing { wrongs = writing.wrongs ++ (record { number = number; words = words; wrong = wrong }) ∷ [] }

abbrev pub with_lines : BodySaid → List Worded → BodySaid
with_lines body lines = record body { lines = body.lines ++ lines }

-- ---- Lines that are written out, within what may be

-- each word counts its bytes and one behind it
unfoldable pub size_of_words : List (List ℕ) → ℕ
size_of_words [] = 0
size_of_words (word ∷ words) = length word + 1 + size_of_words words

unfoldable pub size_of : List Worded → ℕ
size_of [] = 0
size_of (line ∷ lines) = size_of_words line.1 + size_of lines

-- what is left behind them, where there is room
abbrev pub room_behind : Writing → List Worded → Option (ℕ × ℕ)
room_behind writing lines =
    if nat_le (length lines) writing.left && nat_le (size_of lines) writing.bytes
    then Some (writing.left - length lines, writing.bytes - size_of lines)
    else None

abbrev pub wrong_of : (at : ℕ) → WrittenWanted → DriverWrong
wrong_of at want = record { at = at; wanted = wanted.Written want }

-- what passes that is told of the call or repeat that does, and behind it nothing is written out any more
abbrev pub put_by : Writing → (number : ℕ) → (word : List ℕ) → List Worded → Option (ℕ × ℕ) → Writing
put_by writing number word lines None = with_wrong (record writing { is_full = true }) number (word ∷ []) (wrong_of 0 written.Few)
put_by writing number word lines (Some (left, bytes)) =
    record writing { body = with_lines writing.body lines; left = left; bytes = bytes }

abbrev pub put_once : Writing → (number : ℕ) → (word : List ℕ) → List Worded → Writing
put_once writing number word lines =
    if writing.is_full then writing else put_by writing number word lines (room_behind writing lines)

unfoldable pub put_times : (times : ℕ) → Writing → (number : ℕ) → (word : List ℕ) → List Worded → Writing
put_times zero writing number word lines = writing
put_times (suc times) writing number word lines = put_times times (put_once writing number word lines) number word lines

-- ---- What is wrong with a line

abbrev pub is_wrong : (at : ℕ) → WrittenWanted → Option DriverWrong
is_wrong at want = Some (wrong_of at want)

-- a word too many
abbrev pub one_more : (at : ℕ) → Option DriverWrong
one_more at = Some (record { at = at; wanted = wanted.Race (race.Script script.NoMore) })

-- the first of two
abbrev pub or_wrong : Option DriverWrong → Option DriverWrong → Option DriverWrong
or_wrong None second = second
or_wrong (Some first) second = Some first

abbrev pub is_in_block : Writing → Bool
is_in_block writing = nat_lt 0 (length writing.around) || nat_lt 0 writing.body.ifs

-- a parameter behind those above it: 16 at most, and each once
abbrev pub parameter_wrong : (above : List (List ℕ)) → (word : List ℕ) → Option DriverWrong
parameter_wrong above word =
    if nat_le 16 (length above) then is_wrong 18 written.FewParameters else
    if not (is_parameter word) then is_wrong (length above + 2) written.Parameter else
    if is_among above word then is_wrong (length above + 2) written.NewParameter else
    None

unfoldable pub parameters_wrong : (above : List (List ℕ)) → List (List ℕ) → Option DriverWrong
parameters_wrong above [] = None
parameters_wrong above (word ∷ words) = or_wrong (parameter_wrong above word) (parameters_wrong (above ++ word ∷ []) words)

-- `def NAME [PARAMETER ..]`
abbrev pub def_wrong : Writing → List (List ℕ) → Option DriverWrong
def_wrong writing words =
    if is_in_block writing then is_wrong 0 written.NoBlock else
    if not (is_title (word_at 1 words)) then is_wrong 1 written.Name else
    if is_some (given_of (word_at 1 words) writing.known) then is_wrong 1 written.NewName else
    parameters_wrong [] (drop 2 words)

-- `repeat N`
abbrev pub repeat_by : List (List ℕ) → Result ℕ DriverWrong → Option DriverWrong
repeat_by words (Err wrong) = Some wrong
repeat_by words (Ok times) = if has_word 2 words then one_more 2 else None

abbrev pub repeat_wrong : List (List ℕ) → Option DriverWrong
repeat_wrong words = repeat_by words (times_at 1 words)

-- `call NAME [WORD ..]`, with a word for each parameter
abbrev pub definition_of : List Defined → (name : List ℕ) → Option Defined
definition_of defined name = find (λ own. bytes_eq own.name name) defined

abbrev pub call_by : List (List ℕ) → Option Defined → Option DriverWrong
call_by words None = is_wrong 1 written.Defined
call_by words (Some defined) =
    if has_word (length defined.parameters + 2) words then one_more (length defined.parameters + 2) else
    if nat_lt (length words) (length defined.parameters + 2) then is_wrong (length words) written.Given else
    None

abbrev pub call_wrong : Writing → List (List ℕ) → Option DriverWrong
call_wrong writing words = call_by words (definition_of writing.defined (word_at 1 words))

-- these stand in no body
abbrev pub is_outside : (word : List ℕ) → Bool
is_outside word =
    is_setting word || bytes_eq word (codes "workers") || bytes_eq word (codes "device") || bytes_eq word (codes "race")
    || bytes_eq word (codes "thread")

-- within a definition each word that begins with $ is a parameter of it
abbrev pub is_stray : (parameters : List (List ℕ)) → (word : List ℕ) → Bool
is_stray parameters word = begins_parameter word && not (is_among parameters word)

abbrev pub stray_at : Option ℕ → Option DriverWrong
stray_at None = None
stray_at (Some place) = is_wrong place written.OwnParameter

abbrev pub stray_in : List (List ℕ) → Option (List (List ℕ)) → Option DriverWrong
stray_in words None = None
stray_in words (Some parameters) = stray_at (position (is_stray parameters) words)

abbrev pub begins_own : (word : List ℕ) → Bool
begins_own word = bytes_eq word (codes "def") || bytes_eq word (codes "repeat") || bytes_eq word (codes "call")

-- of `def`, `repeat` and `call`
abbrev pub own_wrong : Writing → List (List ℕ) → Option DriverWrong
own_wrong writing words =
    if says 0 (codes "def") words then def_wrong writing words else
    or_wrong (stray_in words writing.parameters) (if says 0 (codes "call") words then call_wrong writing words else repeat_wrong words)

-- of another line
abbrev pub other_wrong : Writing → List (List ℕ) → Option DriverWrong
other_wrong writing words =
    if nat_lt 0 (length writing.around) && is_outside (word_at 0 words) then is_wrong 0 written.InBody else
    stray_in words writing.parameters

-- `def`, `repeat` and `call` have no name
abbrev pub line_wrong : Writing → List (List ℕ) → Option DriverWrong
line_wrong writing words =
    if begins_own (word_at 0 words) then own_wrong writing words else
    if begins_own (word_at 0 (behind_name words)) then Some (record { at = 0; wanted = wanted.Race race.NoName }) else
    other_wrong writing words

-- ---- What a line does, be it right or not: where something is wrong, all that is told is that

abbrev pub opened : Writing → BodySaid → Writing
opened writing body = record writing { body = body; around = writing.around ++ writing.body ∷ [] }

-- a name that is one stands from here on
abbrev pub noted_definition : Known → (number : ℕ) → (name : List ℕ) → Known
noted_definition known number name =
    if is_title name && not (is_some (given_of name known))
    then known ++ (name, record { line = number; told = None }) ∷ []
    else known

abbrev pub def_opened : Writing → (number : ℕ) → List (List ℕ) → Writing
def_opened writing number words =
    opened (record writing {
      parameters = Some (take 16 (drop 2 words));
      known = noted_definition writing.known number (word_at 1 words);
    })
    (record { opener = opener.Definition; number = number; name = word_at 1 words; times = 0; ifs = 0; lines = [] })

abbrev pub times_or_one : Result ℕ DriverWrong → ℕ
times_or_one (Ok times) = times
times_or_one (Err wrong) = 1

abbrev pub repeat_opened : Writing → (number : ℕ) → List (List ℕ) → Writing
repeat_opened writing number words =
    opened writing
    (record { opener = opener.Repeat; number = number; name = []; times = times_or_one (times_at 1 words); ifs = 0; lines = [] })

-- the lines of the definition that is called, where it has a parameter for each word
abbrev pub called_of : List (List ℕ) → Option Defined → Option (List Worded)
called_of words None = None
called_of words (Some defined) =
    if length words == length defined.parameters + 2 then Some (put_lines defined (drop 2 words)) else None

abbrev pub lines_called : Writing → List (List ℕ) → Option (List Worded)
lines_called writing words = called_of words (definition_of writing.defined (word_at 1 words))

abbrev pub called_by : Writing → (number : ℕ) → Option (List Worded) → Writing
called_by writing number None = writing
called_by writing number (Some lines) = put_once writing number (codes "call") lines

abbrev pub called : Writing → (number : ℕ) → List (List ℕ) → Writing
called writing number words = called_by writing number (lines_called writing words)

-- `end` of a definition keeps it, and that of a repeat writes its lines out
abbrev pub parameters_or : Option (List (List ℕ)) → List (List ℕ)
parameters_or parameters = unwrap_or parameters []

abbrev pub ended_by : Writing → BodySaid → Opener → Writing
ended_by writing body opener.Text = writing
ended_by writing body opener.Definition = record writing {
  parameters = None;
  defined =
      writing.defined ++ (record { name = body.name; parameters = parameters_or writing.parameters; lines = body.lines }) ∷ [];
}
ended_by writing body opener.Repeat = put_times body.times writing body.number (codes "repeat") body.lines

abbrev pub ended_in : Writing → Option BodySaid → Writing
ended_in writing None = writing
ended_in writing (Some outer) =
    ended_by (record writing { body = outer; around = take (length writing.around - 1) writing.around }) writing.body writing.body.opener

abbrev pub body_ended : Writing → Writing
body_ended writing = ended_in writing (slice_get writing.around (length writing.around - 1))

-- an `if` that has no `end` yet has the next one
abbrev pub ends_body : Writing → List (List ℕ) → Bool
ends_body writing words = is_bare_end words && writing.body.ifs == 0 && nat_lt 0 (length writing.around)

abbrev pub ifs_behind : (ifs : ℕ) → List (List ℕ) → ℕ
ifs_behind ifs words = if is_if words then ifs + 1 else if is_bare_end words then ifs - 1 else ifs

-- another line stands as it is
abbrev pub kept : Writing → (number : ℕ) → List (List ℕ) → Writing
kept writing number words = record writing {
  body = record (with_lines writing.body ((number, words) ∷ [])) { ifs = ifs_behind writing.body.ifs words };
}

-- the words are those behind a name
abbrev pub own_taken : Writing → (number : ℕ) → List (List ℕ) → Writing
own_taken writing number words =
    if says 0 (codes "def") words then def_opened writing number words else
    if says 0 (codes "call") words then called writing number words else
    repeat_opened writing number words

abbrev pub taken : Writing → (number : ℕ) → List (List ℕ) → Writing
taken writing number words =
    if begins_own (word_at 0 (behind_name words)) then own_taken writing number (behind_name words) else
    if ends_body writing words then body_ended writing else
    kept writing number words

abbrev pub told_if : Writing → (number : ℕ) → List (List ℕ) → Option DriverWrong → Writing
told_if writing number words None = writing
told_if writing number words (Some wrong) = with_wrong writing number words wrong

abbrev pub behind_line : Writing → (number : ℕ) → List (List ℕ) → Writing
behind_line writing number words = taken (told_if writing number words (line_wrong writing words)) number words

-- ---- All lines

unfoldable pub written_from : Writing → List Line → Writing
written_from writing [] = writing
written_from writing (line ∷ lines) = written_from (behind_line writing line.0 (script_words line.1)) lines

-- a near name is that of any definition
abbrev pub wrong_text : Known → WrongSaid → List ℕ
wrong_text known wrong = fault_text known wrong.number wrong.words wrong.wrong

-- a body that isn't ended is told at its first line, behind what else is wrong
abbrev pub unended_at : Known → (number : ℕ) → Opener → List ℕ
unended_at known number opener.Text = []
unended_at known number opener.Definition = fault_text known number (codes "def" ∷ []) (wrong_of 0 written.End)
unended_at known number opener.Repeat = fault_text known number (codes "repeat" ∷ []) (wrong_of 0 written.End)

abbrev pub unended_text : Known → BodySaid → List ℕ
unended_text known body = unended_at known body.number body.opener

abbrev pub said_of : Writing → List ℕ
said_of writing =
    flat_map (wrong_text writing.known) writing.wrongs
    ++ (flat_map (unended_text writing.known) writing.around ++ unended_text writing.known writing.body)

abbrev pub written_by : Writing → (said : List ℕ) → Result (List Worded) (List ℕ)
written_by writing [] = Ok writing.body.lines
written_by writing said = Err said

abbrev pub written_of : Writing → Result (List Worded) (List ℕ)
written_of writing = written_by writing (said_of writing)

-- the lines that are read of these, or all that is wrong with definitions, calls and repeats
abbrev pub written_out : List Line → Result (List Worded) (List ℕ)
written_out lines = written_of (written_from nothing_written lines)

-- ---- Lines of which none is of a definition, a call or a repeat

abbrev pub is_plain : List (List ℕ) → Bool
is_plain words = not (begins_own (word_at 0 words)) && not (begins_own (word_at 0 (behind_name words)))

-- these are read as they stand
abbrev pub PlainStay : Type 0
PlainStay =
    (lines : List Line) → list_all (λ line. is_plain (script_words line.1)) lines ≡ true → written_out lines ≡ Ok (map worded lines)
