-- The pages of a line, one after another.
use Rattle.std.proofs.Common.{◌≡◌, ◌∙◌, ◌<◌, ◌≤◌, ◌+◌, ap, ℕ, List, [], length, drop}
use Rattle.std.specs.Prelude.{Result, Ok}
use Rattle.std.proofs.lemmas.List.{drop_all, drop_more}
use Rattle.sva_grammar.specs.Grammar.{◌>>=◌}
use Rattle.sva_driver_words.specs.Taking.{Fails, appended}
use Rattle.sva_driver_words.specs.Fields.{page_at}
use Rattle.sva_driver_words.specs.declared.faults.DriverStop.{DriverStop}
use Rattle.sva_driver_words.specs.declared.faults.DriverStop.TheVariants as stop
use Rattle.sva_driver_words.specs.declared.faults.DriverWrong.{DriverWrong}
use Rattle.sva_driver_texts.specs.Devices.{pages_by}

abbrev more_of : (words : List (List ℕ)) → (at : ℕ) → Result (List ℕ) DriverWrong → Result (List ℕ) DriverWrong
more_of words at read = read >>= λ more. pages_by (at + 1) more (drop (at + 1) words) words

by_first : (words : List (List ℕ)) (at : ℕ) (old : List ℕ) → at < length words
    → pages_by at old (drop at words) words ≡ more_of words at (appended old (page_at at words))
unfolding pages_by
by_first words at old inside = ap (λ rest. pages_by at old rest words) (drop_more words at [] inside)

pub page_next : (words : List (List ℕ)) (at : ℕ) (old new : List ℕ) → at < length words → appended old (page_at at words) ≡ Ok new
    → pages_by at old (drop at words) words ≡ pages_by (at + 1) new (drop (at + 1) words) words
page_next words at old new inside is = by_first words at old inside ∙ ap (more_of words at) is

pub page_fails : (words : List (List ℕ)) (at : ℕ) (old : List ℕ) (why : DriverStop) → at < length words → Fails (page_at at words) why
    → Fails (pages_by at old (drop at words) words) why
page_fails words at old (stop.Wrong found) inside is =
    by_first words at old inside ∙ ap (λ read. more_of words at (appended old read)) is
page_fails words at old stop.Memory inside is = tt

pub pages_end : (words : List (List ℕ)) (at : ℕ) (old : List ℕ) → length words ≤ at → pages_by at old (drop at words) words ≡ Ok old
unfolding pages_by
pages_end words at old past = ap (λ rest. pages_by at old rest words) (drop_all at words past)
