-- The text of a line that is wrong: `line L: 'WORD': wanted ..`, or `line L: end of line: wanted ..`, with a hint where there is one.
use Rattle.std.specs.Prelude.{ℕ, ◌&&◌, ◌/◌, ◌%◌, ◌+◌, ◌-◌, nat_lt, if◌then◌else◌, Bool, true, false, List, [], ◌∷◌, ◌++◌, codes, decimal}
use Rattle.std.specs.Prelude.{flat_map, length, slice_get, take, Option, Some, None}
use Rattle.sva_grammar.specs.Replies.{reply_text}
use Rattle.sva_script.specs.declared.faults.Wanted.{Wanted}
use Rattle.sva_script.specs.declared.faults.Wanted.TheVariants as wanted
use Rattle.sva_script.specs.declared.faults.Wrong.{Wrong}
use Rattle.sva_script.specs.declared.given.Given.{Given}
use Rattle.sva_script.specs.declared.given.Told.{Told}
use Rattle.sva_script.specs.declared.places.Field.{Field}
use Rattle.sva_script.specs.declared.places.Field.TheVariants as place
use Rattle.sva_script.specs.Names.{Known, given_of, name_and_nth, near_name}
use Rattle.sva_script.specs.Near.{near_among}
use Rattle.sva_script.specs.Reserved.{answer_words, kind_words, refusal_names, step_names}

-- a line that is wrong: its number, its words, which of them is wrong, with what was wanted there, and the names before it
pub record Fault : Type 0 where
  pub line : ℕ
  pub words : List (List ℕ)
  pub wrong : Wrong
  pub known : Known

-- ---- What was wanted

-- what a place asks for
abbrev pub place_text : Field → List ℕ
place_text place.Endpoint = codes "an endpoint"
place_text place.Worker = codes "a worker"
place_text place.Space = codes "a space"
place_text place.Binding = codes "a binding"
place_text place.Pasid = codes "a PASID"
place_text place.Page = codes "a page"
place_text place.Frame = codes "a frame"
place_text place.Slot = codes "a use slot"
place_text place.Group = codes "new or a group"
place_text place.Itags = codes "a vector: eight hexadecimal digits, or ITags as {0,3}"
place_text place.Itag = codes "an ITag"
place_text place.Tag = codes "a tag"
place_text place.Message = codes "a message"
place_text place.Count = codes "a count"
place_text place.MaybeCount = codes "a count"
place_text place.Order = codes "an order"
place_text place.Access = codes "r or w"
place_text place.Flags = codes "r, w or rw"
place_text place.Last = codes "more or last"
place_text place.Verdict = codes "success, invalid or failure"

abbrev pub wanted_text : Wanted → List ℕ
wanted_text wanted.Config = codes "config"
wanted_text wanted.Step = codes "a step"
wanted_text (wanted.Field at) = place_text at
wanted_text (wanted.Number at) = place_text at
wanted_text wanted.NoMore = codes "no further word"
wanted_text wanted.NoLine = codes "no line behind the end"
wanted_text wanted.NewName = codes "a name that no line has yet"
wanted_text wanted.Name = codes "a name: a small letter, then letters, digits, - or _, and no word of the format"
wanted_text wanted.Answer = codes "an answer"
wanted_text wanted.AnswerWord = codes "a word of an answer"

-- ---- The word

-- the digit of a number below 16: 0 to 9 (48), a to f (97)
abbrev pub hex_digit : ℕ → ℕ
hex_digit number = if nat_lt number 10 then 48 + number else 97 + (number - 10) % 6

-- a byte that shows stands as it is, and another by \ (92), x (120) and two digits
abbrev pub shown_byte : ℕ → List ℕ
shown_byte byte =
    if nat_lt 32 byte && nat_lt byte 127 then byte ∷ [] else 92 ∷ 120 ∷ hex_digit (byte / 16) ∷ hex_digit (byte % 16) ∷ []

-- of a word its first 60 bytes are shown
abbrev pub shown_word : List ℕ → List ℕ
shown_word word = flat_map shown_byte (take 60 word) ++ (if nat_lt 60 (length word) then codes ".." else [])

-- ---- The hint

-- may a name stand at the place?
abbrev pub takes_names : Field → Bool
takes_names place.Space = true
takes_names place.Binding = true
takes_names place.Pasid = true
takes_names place.Frame = true
takes_names place.Slot = true
takes_names place.Group = true
takes_names place.Itags = true
takes_names place.Message = true
takes_names _ = false

abbrev pub or_else : Option (List ℕ) → Option (List ℕ) → Option (List ℕ)
or_else None second = second
or_else (Some first) second = Some first

-- the word that is near to the wrong one, of those that may stand at a place
abbrev pub near_place : Known → (word : List ℕ) → Field → Option (List ℕ)
near_place known word place.Message = or_else (near_among kind_words word) (near_name known word)
near_place known word at = if takes_names at then near_name known word else None

-- and of those that were wanted
abbrev pub near_wanted : Known → (word : List ℕ) → Wanted → Option (List ℕ)
near_wanted known word wanted.Step = near_among step_names word
near_wanted known word wanted.AnswerWord = or_else (near_among answer_words word) (near_among refusal_names word)
near_wanted known word (wanted.Field at) = near_place known word at
near_wanted known word _ = None

abbrev pub near_text : Option (List ℕ) → List ℕ
near_text None = []
near_text (Some near) = codes " (" ++ shown_word near ++ codes "?)"

-- what the line of a name came to, which has no number that serves
abbrev pub told_text : Option Told → List ℕ
told_text None = []
told_text (Some told) = codes " was answered '" ++ reply_text told.reply ++ codes "'"

abbrev pub given_text : Option Given → List ℕ
given_text None = []
given_text (Some given) = codes ", but line " ++ decimal given.line ++ told_text given.told

abbrev pub name_text : Known → Option (List ℕ × ℕ) → List ℕ
name_text known None = []
name_text known (Some (name, nth)) = given_text (given_of name known)

abbrev pub number_text : Known → (word : List ℕ) → Wanted → List ℕ
number_text known word (wanted.Number at) = name_text known (name_and_nth word)
number_text known word _ = []

abbrev pub hint_text : Known → (word : List ℕ) → Wanted → List ℕ
hint_text known word want = near_text (near_wanted known word want) ++ number_text known word want

-- ---- The line

-- which word is wrong, if the line has it
abbrev pub word_text : Known → Wanted → Option (List ℕ) → List ℕ
word_text known want None = codes ": end of line: wanted " ++ wanted_text want
word_text known want (Some word) = codes ": '" ++ shown_word word ++ codes "': wanted " ++ wanted_text want ++ hint_text known word want

abbrev pub fault_text : Fault → List ℕ
fault_text fault =
    codes "line " ++ decimal fault.line ++ word_text fault.known fault.wrong.wanted (slice_get fault.words fault.wrong.at) ++ 10 ∷ []
