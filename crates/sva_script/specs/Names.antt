-- Names, and the numbers that they stand for.
use Rattle.std.specs.Prelude.{ℕ, zero, suc, ◌+◌, ◌-◌, ◌==◌, ◌&&◌, ◌||◌, not, Bool, false, if◌then◌else◌, List, [], ◌∷◌, ◌++◌, length, map, take, drop, position}
use Rattle.std.specs.Prelude.{Option, Some, None, Result, Ok, Err, slice_get, nat_le, nat_lt, is_err}
use Rattle.std.specs.Char.{is_ascii_lowercase, is_ascii_alphanumeric}
use Rattle.std.specs.List.{list_all}
use Rattle.std.specs.Map.{lookup}
use Rattle.std.specs.Str.{bytes_eq}
use Rattle.sva_step.specs.declared.answers.Answer.{Answer}
use Rattle.sva_step.specs.declared.answers.Answer.TheVariants as answer
use Rattle.sva_step.specs.declared.refusals.Refusal.{Refusal}
use Rattle.sva_grammar.specs.declared.faults.Cause.{Cause}
use Rattle.sva_grammar.specs.Grammar.{number, vector}
use Rattle.sva_script.specs.declared.given.Given.{Given}
use Rattle.sva_script.specs.declared.given.Told.{Told}
use Rattle.sva_script.specs.declared.places.Field.{Field}
use Rattle.sva_script.specs.declared.places.Field.TheVariants.{Space, Binding, Pasid, Frame, Slot, Group, Itags, Itag, Tag, Message}
use Rattle.sva_script.specs.Near.{near_among}
use Rattle.sva_script.specs.Reserved.{is_reserved}

-- the lines that have names so far, each by its name
abbrev pub Known : Type 0
Known = List (List ℕ × Given)

-- the line of a name
abbrev pub given_of : List ℕ → Known → Option Given
given_of name known = lookup (bytes_eq name) known

-- the names behind a line
abbrev pub with_name : Known → Option (List ℕ) → Given → Known
with_name known None given = known
with_name known (Some name) given = known ++ (name, given) ∷ []

-- does the word begin as names do: with a small letter?
abbrev pub begins_name : List ℕ → Bool
begins_name [] = false
begins_name (byte ∷ _) = is_ascii_lowercase byte

-- a letter, a digit, - (45) or _ (95)
abbrev pub is_name_byte : ℕ → Bool
is_name_byte byte = (is_ascii_alphanumeric byte || byte == 45) || byte == 95

-- a name is a small letter, then letters, digits, - and _, and no word of the format; a vector is such a word
abbrev pub is_name : List ℕ → Bool
is_name word = begins_name word && list_all is_name_byte word && is_err (vector word) && not (is_reserved word)

-- ---- The numbers that an answer has, by what they are of

abbrev pub spaces_in : Answer → List ℕ
spaces_in (answer.Space space) = space ∷ []
spaces_in (answer.Bearer space bindings) = space ∷ []
spaces_in _ = []

abbrev pub bindings_in : Answer → List ℕ
bindings_in (answer.Binding binding pasid) = binding ∷ []
bindings_in (answer.JobTaken binding group pages) = binding ∷ []
bindings_in _ = []

abbrev pub pasids_in : Answer → List ℕ
pasids_in (answer.Binding binding pasid) = pasid ∷ []
pasids_in _ = []

abbrev pub frames_in : Answer → List ℕ
frames_in (answer.Frame frame) = frame ∷ []
frames_in (answer.Use slot frame) = frame ∷ []
frames_in (answer.FreeFrames frames) = frames
frames_in (answer.WithheldFrames frames) = frames
frames_in _ = []

abbrev pub slots_in : Answer → List ℕ
slots_in (answer.Use slot frame) = slot ∷ []
slots_in _ = []

abbrev pub groups_in : Answer → List ℕ
groups_in (answer.Group group) = group ∷ []
groups_in (answer.JobTaken binding group pages) = group ∷ []
groups_in _ = []

abbrev pub itags_in : Answer → List ℕ
itags_in (answer.Itag itag) = itag ∷ []
itags_in _ = []

abbrev pub tags_in : Answer → List ℕ
tags_in (answer.Tag tag) = tag ∷ []
tags_in _ = []

-- the numbers that an answer has at a place
abbrev pub numbers_in : Field → Answer → List ℕ
numbers_in Space reply = spaces_in reply
numbers_in Binding reply = bindings_in reply
numbers_in Pasid reply = pasids_in reply
numbers_in Frame reply = frames_in reply
numbers_in Slot reply = slots_in reply
numbers_in Group reply = groups_in reply
numbers_in Itags reply = itags_in reply
numbers_in Itag reply = itags_in reply
numbers_in Tag reply = tags_in reply
numbers_in _ reply = []

-- ---- What a name stands for

-- the number at a place in a list, counted from 1
abbrev pub nth_of : ℕ → List ℕ → Option ℕ
nth_of zero numbers = None
nth_of (suc before) numbers = slice_get numbers before

-- the number of the nth message that a step sent: its own are those from its first on and below the next
abbrev pub message_at : Told → ℕ → Option ℕ
message_at told nth = if nat_lt 0 nth && nat_le nth (told.next - told.first) then Some (told.first + (nth - 1)) else None

-- the nth number of an answer at a place; a refusal has none
abbrev pub number_answered : Field → ℕ → Result Answer Refusal → Option ℕ
number_answered place nth (Ok reply) = nth_of nth (numbers_in place reply)
number_answered place nth (Err refusal) = None

-- the nth number that a line has at a place: of the messages that its step sent, or of its answer
abbrev pub number_told : Field → ℕ → Told → Option ℕ
number_told Message nth told = message_at told nth
number_told place nth told = number_answered place nth told.reply

-- what a line came to, by what is asked of it; as long as lines are only read, each number is 0
abbrev pub number_by : Field → ℕ → Option Told → Option ℕ
number_by place nth None = Some 0
number_by place nth (Some told) = number_told place nth told

-- the number that the line of a name has at a place, of several the nth
abbrev pub number_at : Field → Given → ℕ → Option ℕ
number_at place given nth = number_by place nth given.told

-- ---- `NAME` is the first number of its line, `NAME.2` the second

-- a name with the number behind its dot, which counts from 1
abbrev pub name_by : List ℕ → Result ℕ Cause → Option (List ℕ × ℕ)
name_by name (Ok nth) = if nat_lt 0 nth then Some (name, nth) else None
name_by name (Err cause) = None

abbrev pub name_split : List ℕ → Option ℕ → Option (List ℕ × ℕ)
name_split word None = Some (word, 1)
name_split word (Some dot) = name_by (take dot word) (number (drop (dot + 1) word))

-- a word as a name, and which of its numbers is meant: a dot (46) stands between
abbrev pub name_and_nth : List ℕ → Option (List ℕ × ℕ)
name_and_nth word = name_split word (position (λ byte. byte == 46) word)

-- the names that lines have, in the order in which they were given
abbrev pub names_of : Known → List (List ℕ)
names_of known = map (λ entry. entry.0) known

-- the first name near to a word among the last 1000
abbrev pub near_name : Known → List ℕ → Option (List ℕ)
near_name known word = near_among (drop (length known - 1000) (names_of known)) word
