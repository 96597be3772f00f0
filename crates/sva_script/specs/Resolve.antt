-- Words at their places, as a scenario has them: each name is the number that it stands for.
use Rattle.std.specs.Prelude.{ℕ, ◌+◌, ◌==◌, if◌then◌else◌, Bool, true, false, List, [], ◌∷◌, decimal}
use Rattle.std.specs.Prelude.{Option, Some, None, Result, Ok, Err, is_ok}
use Rattle.std.specs.List.{slice_split}
use Rattle.sva_grammar.specs.declared.faults.Cause.{Cause}
use Rattle.sva_grammar.specs.Grammar.{◌>>=◌, access, flags, group, is_last, number, vector, verdict}
use Rattle.sva_grammar.specs.Laws.{hexadecimal}
use Rattle.sva_script.specs.declared.faults.Wanted.{Wanted}
use Rattle.sva_script.specs.declared.faults.Wanted.TheVariants as wanted
use Rattle.sva_script.specs.declared.faults.Wrong.{Wrong}
use Rattle.sva_script.specs.declared.given.Given.{Given}
use Rattle.sva_script.specs.declared.places.Field.{Field}
use Rattle.sva_script.specs.declared.places.Field.TheVariants.{Space, Binding, Pasid, Page, Frame, Slot, Group, Itags}
use Rattle.sva_script.specs.declared.places.Field.TheVariants.{Message, MaybeCount, Access, Flags, Last, Verdict}
use Rattle.sva_script.specs.Names.{Known, begins_name, given_of, name_and_nth, number_at}
use Rattle.sva_script.specs.Numbers.{list_in, page_in, with_itag}
use Rattle.sva_script.specs.Pieces.{joined, spaced}

-- what a line is read as that is wrong at this word
abbrev pub wrong : {A : Type 0} → (at : ℕ) → Wanted → Result A Wrong
wrong at wanted = Err (record { at = at; wanted = wanted })

-- ---- Words at their places

-- is the word one that a scenario has at the place?
abbrev pub is_plain : Field → List ℕ → Bool
is_plain Access word = is_ok (access word)
is_plain Flags word = is_ok (flags word)
is_plain Last word = is_ok (is_last word)
is_plain Verdict word = is_ok (verdict word)
is_plain Group word = is_ok (group word)
is_plain Itags word = is_ok (vector word)
is_plain _ word = is_ok (number word)

-- what a name stands for, which has to have a number at the place
abbrev pub number_given : (at : ℕ) → Field → Option ℕ → Result ℕ Wrong
number_given at place None = wrong at (wanted.Number place)
number_given at place (Some value) = Ok value

abbrev pub named_by : (at : ℕ) → Field → (nth : ℕ) → Option Given → Result ℕ Wrong
named_by at place nth None = wrong at (wanted.Field place)
named_by at place nth (Some given) = number_given at place (number_at place given nth)

abbrev pub named_as : (at : ℕ) → Known → Field → Option (List ℕ × ℕ) → Result ℕ Wrong
named_as at known place None = wrong at (wanted.Field place)
named_as at known place (Some name) = named_by at place name.1 (given_of name.0 known)

-- the number that a word stands for at a place, as a name
abbrev pub named_in : (at : ℕ) → Known → Field → List ℕ → Result ℕ Wrong
named_in at known place word = named_as at known place (name_and_nth word)

-- ---- Vectors

abbrev pub itag_added : (at : ℕ) → Option ℕ → Result ℕ Wrong
itag_added at None = wrong at (wanted.Field Itags)
itag_added at (Some mask) = Ok mask

-- a vector with the ITag more that a name stands for
abbrev pub with_named : (at : ℕ) → Known → (mask : ℕ) → List ℕ → Result ℕ Wrong
with_named at known mask name =
    if begins_name name then (named_in at known Itags name >>= λ itag. itag_added at (with_itag mask itag)) else wrong at (wanted.Field Itags)

-- with an item of a list: the number of an ITag, or a name
abbrev pub with_item : (at : ℕ) → Known → (mask : ℕ) → List ℕ → Result ℕ Cause → Result ℕ Wrong
with_item at known mask item (Ok itag) = itag_added at (with_itag mask itag)
with_item at known mask item (Err cause) = with_named at known mask item

-- with each item
unfoldable pub with_items : (at : ℕ) → Known → (mask : ℕ) → List (List ℕ) → Result ℕ Wrong
with_items at known mask [] = Ok mask
with_items at known mask (item ∷ items) = with_item at known mask item (number item) >>= λ more. with_items at known more items

abbrev pub itags_by : (at : ℕ) → Known → List ℕ → Option (List ℕ) → Result ℕ Wrong
itags_by at known word None = with_named at known 0 word
itags_by at known word (Some list) = with_items at known 0 (slice_split (λ byte. byte == 44) list)

-- the vector that a name or a list in braces writes; a comma (44) separates two items
abbrev pub itags_in : (at : ℕ) → Known → List ℕ → Result ℕ Wrong
itags_in at known word = itags_by at known word (list_in word)

-- ---- The plain word

abbrev pub page_word : (at : ℕ) → Option ℕ → Result (List ℕ) Wrong
page_word at None = wrong at (wanted.Field Page)
page_word at (Some page) = Ok (decimal page)

-- the number that a name stands for at a place that a name may stand at
abbrev pub name_word : (at : ℕ) → Known → Field → List ℕ → Result (List ℕ) Wrong
name_word at known place word = named_in at known place word >>= λ value. Ok (decimal value)

-- a word that isn't plain
abbrev pub other_word : (at : ℕ) → Known → Field → List ℕ → Result (List ℕ) Wrong
other_word at known Page word = page_word at (page_in word)
other_word at known Itags word = itags_in at known word >>= λ mask. Ok (hexadecimal 8 mask)
other_word at known Space word = name_word at known Space word
other_word at known Binding word = name_word at known Binding word
other_word at known Pasid word = name_word at known Pasid word
other_word at known Frame word = name_word at known Frame word
other_word at known Slot word = name_word at known Slot word
other_word at known Group word = name_word at known Group word
other_word at known Message word = name_word at known Message word
other_word at known place word = wrong at (wanted.Field place)

-- the word at a place, as a scenario has it
abbrev pub plain_word : (at : ℕ) → Known → Field → List ℕ → Result (List ℕ) Wrong
plain_word at known place word = if is_plain place word then Ok word else other_word at known place word

-- may the line end before this place?
abbrev pub may_end : Field → Bool
may_end MaybeCount = true
may_end _ = false

-- a line that ends before this place
abbrev pub ended : (at : ℕ) → Field → Result (List ℕ) Wrong
ended at place = if may_end place then Ok [] else wrong at (wanted.Field place)

-- the words at these places, a space before each
unfoldable pub plain_rest : (at : ℕ) → Known → List Field → List (List ℕ) → Result (List ℕ) Wrong
plain_rest at known [] [] = Ok []
plain_rest at known [] (word ∷ words) = wrong at wanted.NoMore
plain_rest at known (place ∷ places) [] = ended at place
plain_rest at known (place ∷ places) (word ∷ words) =
    joined (spaced (plain_word at known place word)) (plain_rest (at + 1) known places words)
