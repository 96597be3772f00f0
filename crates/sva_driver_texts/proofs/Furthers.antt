-- The further endpoints of a line of a unit, one after another.
use Rattle.std.proofs.Common.{◌≡◌, ◌∙◌, ◌<◌, ◌≤◌, ◌+◌, ap, ℕ, List, [], length, drop}
use Rattle.std.specs.Prelude.{Result, Ok}
use Rattle.std.proofs.lemmas.List.{drop_all, drop_more}
use Rattle.sva_grammar.specs.Grammar.{◌>>=◌}
use Rattle.sva_step.specs.declared.limits.Config.{Config}
use Rattle.sva_driver_words.specs.Taking.{Fails}
use Rattle.sva_driver_words.specs.declared.faults.DriverStop.{DriverStop}
use Rattle.sva_driver_words.specs.declared.faults.DriverStop.TheVariants as stop
use Rattle.sva_driver_words.specs.declared.faults.DriverWrong.{DriverWrong}
use Rattle.sva_driver_texts.specs.Units.{further_from, with_further}

module _ (config : Config) (first : ℕ) (words : List (List ℕ)) (at : ℕ) (units : List ℕ) where
  abbrev more_of : Result (List ℕ) DriverWrong → Result (List ℕ) DriverWrong
  more_of read = read >>= λ more. further_from config first (at + 1) more (drop (at + 1) words) words

  by_first : at < length words → further_from config first at units (drop at words) words ≡ more_of (with_further config units first at words)
  unfolding further_from
  by_first inside = ap (λ rest. further_from config first at units rest words) (drop_more words at [] inside)

  pub further_next : (new : List ℕ) → at < length words → with_further config units first at words ≡ Ok new
      → further_from config first at units (drop at words) words ≡ further_from config first (at + 1) new (drop (at + 1) words) words
  further_next new inside is = by_first inside ∙ ap more_of is

  pub further_fails : (why : DriverStop) → at < length words → Fails (with_further config units first at words) why
      → Fails (further_from config first at units (drop at words) words) why
  further_fails (stop.Wrong found) inside is = by_first inside ∙ ap more_of is
  further_fails stop.Memory inside is = tt

  pub further_end : length words ≤ at → further_from config first at units (drop at words) words ≡ Ok units
  unfolding further_from
  further_end past = ap (λ rest. further_from config first at units rest words) (drop_all at words past)
