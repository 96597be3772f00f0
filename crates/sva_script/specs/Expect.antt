-- Expected answers.
use Rattle.std.specs.Prelude.{ℕ, ◌+◌, ◌&&◌, ◌||◌, if◌then◌else◌, Bool, true, false, List, [], ◌∷◌, codes, decimal}
use Rattle.std.specs.Prelude.{Option, Some, None, Result, Ok, is_ok}
use Rattle.std.specs.Str.{bytes_eq}
use Rattle.sva_grammar.specs.Grammar.{◌>>=◌, number}
use Rattle.sva_script.specs.declared.faults.Wanted.TheVariants as wanted
use Rattle.sva_script.specs.declared.faults.Wrong.{Wrong}
use Rattle.sva_script.specs.declared.places.Field.{Field}
use Rattle.sva_script.specs.declared.places.Field.TheVariants.{Space, Binding, Pasid, Frame, Slot, Group, Itag, Tag}
use Rattle.sva_script.specs.Names.{Known, begins_name}
use Rattle.sva_script.specs.Pieces.{joined, spaced}
use Rattle.sva_script.specs.Resolve.{named_in, wrong}
use Rattle.sva_script.specs.Reserved.{is_answer_word, is_refusal}

-- what a number behind a word of an answer is
unfoldable pub place_behind : List ℕ → Option Field
place_behind word =
    if bytes_eq word (codes "space") then Some Space else
    if bytes_eq word (codes "bearer") then Some Space else
    if bytes_eq word (codes "frame") then Some Frame else
    if bytes_eq word (codes "free") then Some Frame else
    if bytes_eq word (codes "withheld") then Some Frame else
    if bytes_eq word (codes "binding") then Some Binding else
    if bytes_eq word (codes "pasid") then Some Pasid else
    if bytes_eq word (codes "itag") then Some Itag else
    if bytes_eq word (codes "tag") then Some Tag else
    if bytes_eq word (codes "use") then Some Slot else
    if bytes_eq word (codes "group") then Some Group else
    None

-- a word that is said as it stands: of an answer, `_` for any one, a number, or the name of a refusal
abbrev pub is_said : List ℕ → Bool
is_said word = is_answer_word word || bytes_eq word (codes "_") || is_ok (number word) || is_refusal word

-- a name, by what a number at its place is
abbrev pub named_behind : (at : ℕ) → Known → Option Field → List ℕ → Result ℕ Wrong
named_behind at known None word = wrong at wanted.AnswerWord
named_behind at known (Some place) word = if begins_name word then named_in at known place word else wrong at wanted.AnswerWord

-- a word of an expected answer, where a name is the number that it stands for
abbrev pub said_word : (at : ℕ) → Known → Option Field → List ℕ → Result (List ℕ) Wrong
said_word at known place word =
    if is_said word then Ok word else (named_behind at known place word >>= λ value. Ok (decimal value))

-- of frames there may be several, of all else one number
abbrev pub more_behind : Option Field → Option Field
more_behind (Some Frame) = Some Frame
more_behind _ = None

-- what a number behind this word is
abbrev pub place_after : Option Field → List ℕ → Option Field
place_after place word = if is_answer_word word then place_behind word else more_behind place

-- the words from here on, a space before each
unfoldable pub said_rest : (at : ℕ) → Known → Option Field → List (List ℕ) → Result (List ℕ) Wrong
said_rest at known place [] = Ok []
said_rest at known place (word ∷ words) =
    joined (spaced (said_word at known place word)) (said_rest (at + 1) known (place_after place word) words)

-- an expected answer with a space before each word; it has one at least
abbrev pub expected_of : (at : ℕ) → Known → List (List ℕ) → Result (List ℕ) Wrong
expected_of at known [] = wrong at wanted.Answer
expected_of at known (word ∷ words) = said_rest at known None (word ∷ words)

-- is a word as it is wanted? `_` is any one
abbrev pub is_wanted : List ℕ → List ℕ → Bool
is_wanted wanted_word word = bytes_eq wanted_word (codes "_") || bytes_eq wanted_word word

-- is an answer as expected? It has as many words, each as it is wanted
abbrev pub are_as_expected : List (List ℕ) → List (List ℕ) → Bool
are_as_expected [] [] = true
are_as_expected (wanted_word ∷ rest) (word ∷ words) = is_wanted wanted_word word && are_as_expected rest words
are_as_expected _ _ = false
