-- Lines that were never taken: one number after another.
use Rattle.std.proofs.Common.{◌≡◌, ◌∙◌, ◌<◌, ◌≤◌, ◌+◌, ap, sym, ℕ, List, length, get_or, drop, Bool, true, false}
use Rattle.std.specs.Prelude.{if◌then◌else◌}
use Rattle.std.proofs.lemmas.List.{drop_all, drop_more}
use Rattle.sva_open.specs.declared.drivers.Line.{Line}
use Rattle.sva_judge.specs.declared.verdicts.Looked.{Looked}
use Rattle.sva_driver_reports.specs.Untaken.{begins_with, begun_from, untaken_by, with_fact}

-- ---- Was a line of a number taken when the search began?

pub begun_here : (taken : List Bool) (number : ℕ) (lines : List Line) (place : ℕ) (blank : Line) → place < length lines
    → begins_with taken number place (get_or lines place blank) ≡ true → begun_from taken number place (drop place lines) ≡ true
unfolding begun_from
begun_here taken number lines place blank inside it =
    ap (begun_from taken number place) (drop_more lines place blank inside)
    ∙ ap (λ b. if b then true else begun_from taken number (place + 1) (drop (place + 1) lines)) it

pub begun_more : (taken : List Bool) (number : ℕ) (lines : List Line) (place : ℕ) (blank : Line) → place < length lines
    → begins_with taken number place (get_or lines place blank) ≡ false
    → begun_from taken number place (drop place lines) ≡ begun_from taken number (place + 1) (drop (place + 1) lines)
unfolding begun_from
begun_more taken number lines place blank inside other =
    ap (begun_from taken number place) (drop_more lines place blank inside)
    ∙ ap (λ b. if b then true else begun_from taken number (place + 1) (drop (place + 1) lines)) other

pub begun_none : (taken : List Bool) (number : ℕ) (lines : List Line) (place : ℕ) → length lines ≤ place
    → begun_from taken number place (drop place lines) ≡ false
unfolding begun_from
begun_none taken number lines place past = ap (begun_from taken number place) (drop_all place lines past)

-- ---- The numbers that are told

module _ (taken : List Bool) (lines : List Line) (looked : List Looked) where
  pub untaken_more : (told next : List ℕ) (xs : List Looked) (place : ℕ) (blank : Looked) → place < length xs
      → next ≡ with_fact taken lines looked told (get_or xs place blank)
      → untaken_by taken lines looked told (drop place xs) ≡ untaken_by taken lines looked next (drop (place + 1) xs)
  unfolding untaken_by
  untaken_more told next xs place blank inside is =
      ap (untaken_by taken lines looked told) (drop_more xs place blank inside)
      ∙ ap (λ l. untaken_by taken lines looked l (drop (place + 1) xs)) (sym is)

  pub untaken_none : (told : List ℕ) (xs : List Looked) (place : ℕ) → length xs ≤ place
      → untaken_by taken lines looked told (drop place xs) ≡ told
  unfolding untaken_by
  untaken_none told xs place past = ap (untaken_by taken lines looked told) (drop_all place xs past)
