use Rattle.std.proofs.Common.{◌∙◌, List, Option, ap, length, map, sym, unwrap_or, ℕ}
use Rattle.std.specs.Prelude.{is_err}
use Rattle.std.proofs.lemmas.List.{length-map}
use denote.Ref.{Bor}
use Rattle.sva_grammar.specs.Grammar.{number}
use Rattle.sva_script.proofs.PartLemmas.{position_map}
use Rattle.sva_script_reading.proofs.reading.good_counts.Goals as goal

abbrev now : Bor (List ℕ) → List ℕ
now word = word.now

pub returns-in-Some : goal.returns-in-Some
returns-in-Some c =
    sym (ap (λ (place : Option ℕ). unwrap_or place (length (map {A = Bor (List ℕ)} {B = List ℕ} (λ word. word.now) c.args.counts.now)))
    (position_map now (λ word. is_err (number word)) c.args.counts.now ∙ sym c.first_bad.ensures ∙ c.in-Some.is))

pub returns-in-None : goal.returns-in-None
returns-in-None c =
    sym (length-map c.args.counts.now now)
    ∙ sym (ap (λ (place : Option ℕ). unwrap_or place (length (map {A = Bor (List ℕ)} {B = List ℕ} (λ word. word.now) c.args.counts.now)))
    (position_map now (λ word. is_err (number word)) c.args.counts.now ∙ sym c.first_bad.ensures ∙ c.in-None.is))
