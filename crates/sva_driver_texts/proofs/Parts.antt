-- The parts of a device's line, one after another.
use Rattle.std.proofs.Common.{◌≡◌, ◌∙◌, ◌<◌, ◌≤◌, ◌+◌, ap, sym, ℕ, Bool, true, false, cond, List, [], length, drop}
use Rattle.std.specs.Prelude.{Result, Ok, Err}
use Rattle.std.proofs.lemmas.List.{drop_all, drop_more}
use Rattle.sva_grammar.specs.Grammar.{◌>>=◌}
use Rattle.sva_driver_words.specs.declared.faults.DriverWrong.{DriverWrong}
use Rattle.sva_driver_texts.specs.Devices.{DeviceSaid, begins_pages, parts_by, reads_next, with_pages, word_of}

abbrev more_of : (was_read : Bool) → (at : ℕ) → List (List ℕ) → Result DeviceSaid DriverWrong → Result DeviceSaid DriverWrong
more_of was_read at words read = read >>= λ more. parts_by (reads_next was_read at words) more (at + 1) (drop (at + 1) words) words

by_first : (words : List (List ℕ)) (at : ℕ) (was_read : Bool) (device : DeviceSaid) → at < length words
    → parts_by was_read device at (drop at words) words
    ≡ cond (begins_pages was_read at words) (with_pages device (at + 1) words) (more_of was_read at words (word_of was_read device at words))
unfolding parts_by
by_first words at was_read device inside = ap (λ rest. parts_by was_read device at rest words) (drop_more words at [] inside)

pub at_pages : (words : List (List ℕ)) (at : ℕ) (was_read : Bool) (device : DeviceSaid) → at < length words
    → begins_pages was_read at words ≡ true → parts_by was_read device at (drop at words) words ≡ with_pages device (at + 1) words
at_pages words at was_read device inside is =
    by_first words at was_read device inside
    ∙ ap (λ b. cond b (with_pages device (at + 1) words) (more_of was_read at words (word_of was_read device at words))) is

at_word : (words : List (List ℕ)) (at : ℕ) (was_read : Bool) (device : DeviceSaid) → at < length words
    → begins_pages was_read at words ≡ false
    → parts_by was_read device at (drop at words) words ≡ more_of was_read at words (word_of was_read device at words)
at_word words at was_read device inside other =
    by_first words at was_read device inside
    ∙ ap (λ b. cond b (with_pages device (at + 1) words) (more_of was_read at words (word_of was_read device at words))) other

pub part_next : (words : List (List ℕ)) (at : ℕ) (was_read next : Bool) (old new : DeviceSaid) → at < length words
    → begins_pages was_read at words ≡ false → word_of was_read old at words ≡ Ok new → next ≡ reads_next was_read at words
    → parts_by was_read old at (drop at words) words ≡ parts_by next new (at + 1) (drop (at + 1) words) words
part_next words at was_read next old new inside other is reads =
    at_word words at was_read old inside other ∙ ap (more_of was_read at words) is
    ∙ ap (λ b. parts_by b new (at + 1) (drop (at + 1) words) words) (sym reads)

pub part_wrong : (words : List (List ℕ)) (at : ℕ) (was_read : Bool) (old : DeviceSaid) (wrong : DriverWrong) → at < length words
    → begins_pages was_read at words ≡ false → word_of was_read old at words ≡ Err wrong
    → parts_by was_read old at (drop at words) words ≡ Err wrong
part_wrong words at was_read old wrong inside other is = at_word words at was_read old inside other ∙ ap (more_of was_read at words) is

pub parts_end : (words : List (List ℕ)) (at : ℕ) (was_read : Bool) (old : DeviceSaid) → length words ≤ at
    → parts_by was_read old at (drop at words) words ≡ Ok old
unfolding parts_by
parts_end words at was_read old past = ap (λ rest. parts_by was_read old at rest words) (drop_all at words past)
