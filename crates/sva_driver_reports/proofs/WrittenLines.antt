-- Nor has a word of a line that is written out, since it stands in the text.
use Rattle.std.proofs.Common.{ℕ, zero, suc, Bool, true, false, List, [], ◌∷◌, ◌++◌, drop, take, Option, Some, None, Result, Ok, Err}
use Rattle.std.specs.List.{enumerate_from, position}
use Rattle.std.specs.Prelude.{◌==◌, ◌+◌, ◌-◌, codes, if◌then◌else◌, length, map, slice_get, slice_index_or}
use Rattle.std.specs.Str.{bytes_eq}
use Rattle.sva_script.specs.Lines.{parts_of, script_words, step_begins}
use Rattle.sva_script_reading.specs.Begins.{Line}
use Rattle.sva_race_texts.specs.Words.{word_at}
use Rattle.sva_driver_words.specs.Fields.{says}
use Rattle.sva_driver_words.specs.declared.faults.DriverWrong.{DriverWrong}
use Rattle.sva_driver_texts.specs.WrittenOut.{BodySaid, Defined, Worded, Writing, begins_own, behind_line, behind_name, body_ended, called_by, called_of}
use Rattle.sva_driver_texts.specs.WrittenOut.{def_opened, definition_of, ended_by, ended_in, ends_body, kept, line_wrong, lines_called, nothing_written}
use Rattle.sva_driver_texts.specs.WrittenOut.{own_taken, put_at, put_by, put_in, put_line, put_lines, put_once, put_times, repeat_opened, room_behind}
use Rattle.sva_driver_texts.specs.WrittenOut.{said_of, taken, told_if, written_by, written_from, written_out}
use Rattle.sva_driver_texts.specs.declared.bodies.Opener.{Opener}
use Rattle.sva_driver_texts.specs.declared.bodies.Opener.TheVariants as opener
use Rattle.sva_driver_reports.specs.Witnesses.{IsOneLine}
use Rattle.sva_driver_reports.proofs.TextLines.{AreOneLines, drop_one, script_one}

-- ---- Lines

abbrev pub AreLines : List Line → Type 0
AreLines [] = Unit {0}
AreLines (line ∷ lines) = IsOneLine line.1 × AreLines lines

pub numbered_one : (first : ℕ) (lines : List (List ℕ)) → AreOneLines lines → AreLines (enumerate_from first lines)
numbered_one first [] h = tt
numbered_one first (line ∷ lines) h = (h.0, numbered_one (first + 1) lines h.1)

abbrev pub AreWorded : List Worded → Type 0
AreWorded [] = Unit {0}
AreWorded (line ∷ lines) = AreOneLines line.1 × AreWorded lines

more_worded : (lines more : List Worded) → AreWorded lines → AreWorded more → AreWorded (lines ++ more)
more_worded [] more h its = its
more_worded (line ∷ lines) more h its = (h.0, more_worded lines more h.1 its)

-- ---- Words that are given

get_one : (words : List (List ℕ)) (place : ℕ) (other : List ℕ) → AreOneLines words → IsOneLine other → IsOneLine (slice_index_or words place other)
get_one [] place other h its = its
get_one (word ∷ words) zero other h its = h.0
get_one (word ∷ words) (suc place) other h its = get_one words place other h.1 its

at_one : (given : List (List ℕ)) (word : List ℕ) (place : Option ℕ) → AreOneLines given → IsOneLine word → IsOneLine (put_at given word place)
at_one given word None h its = its
at_one given word (Some place) h its = get_one given place word h its

put_words_one : (parameters given words : List (List ℕ)) → AreOneLines given → AreOneLines words → AreOneLines (map (put_in parameters given) words)
put_words_one parameters given [] h its = tt
put_words_one parameters given (word ∷ words) h its =
    (at_one given word (position (λ own. bytes_eq own word) parameters) h its.0, put_words_one parameters given words h its.1)

put_lines_one : (parameters given : List (List ℕ)) (lines : List Worded) → AreOneLines given → AreWorded lines
    → AreWorded (map (put_line parameters given) lines)
put_lines_one parameters given [] h its = tt
put_lines_one parameters given (line ∷ lines) h its =
    (put_words_one parameters given line.1 h its.0, put_lines_one parameters given lines h its.1)

-- ---- What is kept

abbrev AreBodies : List BodySaid → Type 0
AreBodies [] = Unit {0}
AreBodies (body ∷ bodies) = AreWorded body.lines × AreBodies bodies

abbrev AreDefined : List Defined → Type 0
AreDefined [] = Unit {0}
AreDefined (defined ∷ more) = AreWorded defined.lines × AreDefined more

abbrev Whole : Writing → Type 0
Whole writing = AreWorded writing.body.lines × AreBodies writing.around × AreDefined writing.defined

bodies_more : (bodies : List BodySaid) (body : BodySaid) → AreBodies bodies → AreWorded body.lines → AreBodies (bodies ++ body ∷ [])
bodies_more [] body h its = (its, tt)
bodies_more (first ∷ bodies) body h its = (h.0, bodies_more bodies body h.1 its)

defined_more : (all : List Defined) (one : Defined) → AreDefined all → AreWorded one.lines → AreDefined (all ++ one ∷ [])
defined_more [] one h its = (its, tt)
defined_more (first ∷ all) one h its = (h.0, defined_more all one h.1 its)

bodies_front : (count : ℕ) (bodies : List BodySaid) → AreBodies bodies → AreBodies (take count bodies)
bodies_front zero bodies h = tt
bodies_front (suc count) [] h = tt
bodies_front (suc count) (body ∷ bodies) h = (h.0, bodies_front count bodies h.1)

abbrev IsBody : Option BodySaid → Type 0
IsBody None = Unit {0}
IsBody (Some body) = AreWorded body.lines

body_at : (bodies : List BodySaid) (place : ℕ) → AreBodies bodies → IsBody (slice_get bodies place)
body_at [] place h = tt
body_at (body ∷ bodies) zero h = h.0
body_at (body ∷ bodies) (suc place) h = body_at bodies place h.1

abbrev IsFound : Option (List Worded) → Type 0
IsFound None = Unit {0}
IsFound (Some lines) = AreWorded lines

whole_of : (test : Bool) (one other : Writing) → Whole one → Whole other → Whole (if test then one else other)
whole_of true one other a b = a
whole_of false one other a b = b

-- ---- What is written out

by_room : (writing : Writing) (number : ℕ) (word : List ℕ) (lines : List Worded) (room : Option (ℕ × ℕ)) → Whole writing → AreWorded lines
    → Whole (put_by writing number word lines room)
by_room writing number word lines None h its = h
by_room writing number word lines (Some (left, bytes)) h its = (more_worded writing.body.lines lines h.0 its, h.1, h.2)

once_whole : (writing : Writing) (number : ℕ) (word : List ℕ) (lines : List Worded) → Whole writing → AreWorded lines
    → Whole (put_once writing number word lines)
once_whole writing number word lines h its =
    whole_of writing.is_full writing (put_by writing number word lines (room_behind writing lines)) h
    (by_room writing number word lines (room_behind writing lines) h its)

times_whole : (times : ℕ) (writing : Writing) (number : ℕ) (word : List ℕ) (lines : List Worded) → Whole writing → AreWorded lines
    → Whole (put_times times writing number word lines)
unfolding put_times
times_whole zero writing number word lines h its = h
times_whole (suc times) writing number word lines h its =
    times_whole times (put_once writing number word lines) number word lines (once_whole writing number word lines h its) its

found_by : (words : List (List ℕ)) (test : Bool) (defined : Defined) → AreOneLines words → AreWorded defined.lines
    → IsFound (if test then Some (put_lines defined (drop 2 words)) else None)
found_by words true defined h its = put_lines_one defined.parameters (drop 2 words) defined.lines (drop_one 2 words h) its
found_by words false defined h its = tt

found_in : (words : List (List ℕ)) (all : List Defined) (name : List ℕ) → AreOneLines words → AreDefined all
    → IsFound (called_of words (definition_of all name))
found_in words [] name h its = tt
found_in words (defined ∷ all) name h its = by_name (bytes_eq defined.name name) (found_in words all name h its.1)
  where
    by_name : (test : Bool) → IsFound (called_of words (definition_of all name))
        → IsFound (called_of words (if test then Some defined else definition_of all name))
    by_name true rest = found_by words (length words == length defined.parameters + 2) defined h its.0
    by_name false rest = rest

called_whole : (writing : Writing) (number : ℕ) (lines : Option (List Worded)) → Whole writing → IsFound lines
    → Whole (called_by writing number lines)
called_whole writing number None h its = h
called_whole writing number (Some lines) h its = once_whole writing number (codes "call") lines h its

ended_whole : (writing : Writing) (body : BodySaid) (its : Opener) → Whole writing → AreWorded body.lines → Whole (ended_by writing body its)
ended_whole writing body opener.Text h lines = h
ended_whole writing body opener.Definition h lines = (h.0, h.1, defined_more writing.defined _ h.2 lines)
ended_whole writing body opener.Repeat h lines = times_whole body.times writing body.number (codes "repeat") body.lines h lines

in_whole : (writing : Writing) (outer : Option BodySaid) → Whole writing → IsBody outer → Whole (ended_in writing outer)
in_whole writing None h its = h
in_whole writing (Some outer) h its =
    ended_whole (record writing { body = outer; around = take (length writing.around - 1) writing.around }) writing.body writing.body.opener
    (its, bodies_front (length writing.around - 1) writing.around h.1, h.2) h.0

-- ---- Line by line

own_whole : (writing : Writing) (number : ℕ) (words : List (List ℕ)) → Whole writing → AreOneLines words → Whole (own_taken writing number words)
own_whole writing number words h its =
    whole_of (says 0 (codes "def") words) (def_opened writing number words) _ (tt, bodies_more writing.around writing.body h.1 h.0, h.2)
    (whole_of (says 0 (codes "call") words) (called_by writing number (lines_called writing words)) (repeat_opened writing number words)
    (called_whole writing number (lines_called writing words) h (found_in words writing.defined (word_at 1 words) its h.2))
    (tt, bodies_more writing.around writing.body h.1 h.0, h.2))

taken_whole : (writing : Writing) (number : ℕ) (words : List (List ℕ)) → Whole writing → AreOneLines words → Whole (taken writing number words)
taken_whole writing number words h its =
    whole_of (begins_own (word_at 0 (behind_name words))) (own_taken writing number (behind_name words)) _
    (own_whole writing number (behind_name words) h (drop_one (step_begins (parts_of words)) words its))
    (whole_of (ends_body writing words) (body_ended writing) (kept writing number words)
    (in_whole writing (slice_get writing.around (length writing.around - 1)) h (body_at writing.around (length writing.around - 1) h.1))
    (more_worded writing.body.lines ((number, words) ∷ []) h.0 (its, tt), h.1, h.2))

told_whole : (writing : Writing) (number : ℕ) (words : List (List ℕ)) (wrong : Option DriverWrong) → Whole writing
    → Whole (told_if writing number words wrong)
told_whole writing number words None h = h
told_whole writing number words (Some wrong) h = h

all_whole : (writing : Writing) (lines : List Line) → Whole writing → AreLines lines → Whole (written_from writing lines)
unfolding written_from
all_whole writing [] h its = h
all_whole writing (line ∷ lines) h its =
    let words = script_words line.1 in
    all_whole (behind_line writing line.0 words) lines
    (taken_whole (told_if writing line.0 words (line_wrong writing words)) line.0 words
    (told_whole writing line.0 words (line_wrong writing words) h) (script_one line.1 its.0))
    its.1

-- what is found of them
abbrev pub AreFound : Result (List Worded) (List ℕ) → Type 0
AreFound (Ok lines) = AreWorded lines
AreFound (Err said) = Unit {0}

found_whole : (writing : Writing) (said : List ℕ) → Whole writing → AreFound (written_by writing said)
found_whole writing [] h = h.0
found_whole writing (byte ∷ said) h = tt

pub written_one : (lines : List Line) → AreLines lines → AreFound (written_out lines)
written_one lines its =
    let all = written_from nothing_written lines in
    found_whole all (said_of all) (all_whole nothing_written lines (tt, tt, tt) its)
