-- What is left out of a driver's text, a cut, and the text that is left.
use Rattle.std.specs.Prelude.{ℕ, ◌==◌, ◌||◌, if◌then◌else◌, Bool, List, [], ◌∷◌, ◌++◌, codes, flat_map}
use Rattle.std.specs.Prelude.{Option, Some, None}
use Rattle.std.specs.List.{list_any}
use Rattle.sva_script.specs.Lines.{parts_of, script_words}
use Rattle.sva_script_reading.specs.Begins.{Line, lines_from}
use Rattle.sva_script_reading.specs.Faults.{shown_word}
use Rattle.sva_variants.specs.Acts.{act_in, ends, goes_with, is_guard}
use Rattle.sva_variants.specs.declared.cuts.Cut.{Cut}

-- a line that is left out: its number, its words, and the numbers of the lines that go with it
pub record CutSaid : Type 0 where
  pub number : ℕ
  pub act : List ℕ
  pub others : List ℕ

abbrev pub cut_seen : Cut → CutSaid
cut_seen cut = record { number = cut.number; act = cut.act.items; others = cut.others.items }

-- a line below the first act, with what follows it
abbrev pub number_if : (goes : Bool) → (number : ℕ) → List ℕ
number_if goes number = if goes then number ∷ [] else []

abbrev pub others_at : (first other : List (List ℕ)) → (number : ℕ) → (more : List ℕ) → List ℕ
others_at first other number more = if ends first other then [] else number_if (goes_with first other) number ++ more

-- the lines that go with an act
unfoldable pub others_from : (first : List (List ℕ)) → List Line → List ℕ
others_from first [] = []
others_from first (line ∷ lines) = others_at first (act_in line.1) line.0 (others_from first lines)

-- its words, a space (32) before each
abbrev pub act_text : List (List ℕ) → List ℕ
act_text act = flat_map (λ word. 32 ∷ shown_word word) act

abbrev pub cut_of : (number : ℕ) → (act : List (List ℕ)) → (below : List Line) → CutSaid
cut_of number act below = record { number = number; act = act_text act; others = others_from act below }

abbrev pub cut_if : (number : ℕ) → (act : List (List ℕ)) → (below : List Line) → List CutSaid
cut_if number act below = if is_guard act then cut_of number act below ∷ [] else []

-- each line that keeps others off is left out once
unfoldable pub cuts_from : List Line → List CutSaid
cuts_from [] = []
cuts_from (line ∷ lines) = cut_if line.0 (act_in line.1) lines ++ cuts_from lines

abbrev pub cuts_of : (text : List ℕ) → List CutSaid
cuts_of text = cuts_from (lines_from 1 text)

-- ---- The text that is left

-- where a line has a name, another may await it: it becomes one that does nothing
abbrev pub named_mark : Option (List ℕ) → List ℕ
named_mark None = []
named_mark (Some name) = name ++ codes ": mark"

abbrev pub left_of : (line : List ℕ) → List ℕ
left_of line = named_mark (parts_of (script_words line)).name

abbrev pub is_among : (number : ℕ) → (others : List ℕ) → Bool
is_among number others = list_any (λ other. other == number) others

abbrev pub is_gone : (number : ℕ) → CutSaid → Bool
is_gone number cut = (number == cut.number) || is_among number cut.others

abbrev pub line_if : (gone : Bool) → (line : List ℕ) → List ℕ
line_if gone line = if gone then left_of line else line

-- the end of each line stays, and so its number
abbrev pub kept_of : CutSaid → Line → List ℕ
kept_of cut line = line_if (is_gone line.0 cut) line.1 ++ 10 ∷ []

abbrev pub without : CutSaid → (text : List ℕ) → List ℕ
without cut text = flat_map (kept_of cut) (lines_from 1 text)
