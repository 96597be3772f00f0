-- Verdicts, one after another.
use Rattle.std.proofs.Common.{◌≡◌, ◌∙◌, ◌<◌, ◌≤◌, ◌+◌, ap, cond, ℕ, List, get_or, length, drop}
use Rattle.std.specs.Prelude.{Ok, Err}
use Rattle.std.specs.List.{drop-map}
use Rattle.std.proofs.lemmas.Bool.{le-ltb}
use Rattle.std.proofs.lemmas.List.{drop_all, drop_more}
use denote.Ref.{Bor}
use Rattle.sva_grammar.specs.Grammar.{◌>>=◌, verdict}
use Rattle.sva_script.specs.declared.faults.Wanted.TheVariants as script
use Rattle.sva_script.specs.declared.places.Field.TheVariants as place
use Rattle.sva_race_texts.specs.declared.terms.races.Verdicts.{Verdicts}
use Rattle.sva_race_texts.specs.declared.faults.RaceWanted.TheVariants as wanted
use Rattle.sva_race_texts.specs.declared.faults.RaceWrong.{RaceWrong}
use Rattle.sva_race_texts.specs.Faults.{wrong_at}
use Rattle.sva_race_texts.proofs.Lists.{now, said}
use Rattle.sva_race_texts.specs.Threads.{no_verdicts, verdicts_from, verdicts_of, with_verdict}

pub verdict_next : (words : List (Bor (List ℕ))) (i : ℕ) (blank : Bor (List ℕ)) (verdicts more : Verdicts) → i < length words
    → with_verdict i verdicts (verdict (get_or words i blank).now) ≡ Ok more
    → verdicts_from i verdicts (said (drop i words)) ≡ verdicts_from (i + 1) more (said (drop (i + 1) words))
unfolding verdicts_from
verdict_next words i blank verdicts more inside is =
    ap (λ left. verdicts_from i verdicts (said left)) (drop_more words i blank inside)
    ∙ ap (λ read. read >>= λ next. verdicts_from (i + 1) next (said (drop (i + 1) words))) is

pub verdict_wrong : (words : List (Bor (List ℕ))) (i : ℕ) (blank : Bor (List ℕ)) (verdicts : Verdicts) (wrong : RaceWrong) → i < length words
    → with_verdict i verdicts (verdict (get_or words i blank).now) ≡ Err wrong
    → verdicts_from i verdicts (said (drop i words)) ≡ Err wrong
unfolding verdicts_from
verdict_wrong words i blank verdicts wrong inside is =
    ap (λ left. verdicts_from i verdicts (said left)) (drop_more words i blank inside)
    ∙ ap (λ read. read >>= λ next. verdicts_from (i + 1) next (said (drop (i + 1) words))) is

pub verdicts_end : (words : List (Bor (List ℕ))) (i : ℕ) (verdicts : Verdicts) → length words ≤ i
    → verdicts_from i verdicts (said (drop i words)) ≡ Ok verdicts
unfolding verdicts_from
verdicts_end words i verdicts past = ap (λ left. verdicts_from i verdicts (said left)) (drop_all i words past)

pub verdicts_some : (words : List (Bor (List ℕ))) → 2 ≤ length (said words)
    → verdicts_of (said words) ≡ verdicts_from 1 no_verdicts (said (drop 1 words))
verdicts_some words some =
    ap (λ b. cond b (wrong_at 1 (wanted.Script (script.Field place.Verdict))) (verdicts_from 1 no_verdicts (drop 1 (said words))))
    (le-ltb (length (said words)) 2 some)
    ∙ ap (verdicts_from 1 no_verdicts) (drop-map now 1 words)
