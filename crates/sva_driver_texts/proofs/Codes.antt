-- The codes of a line of workers, one after another.
use Rattle.std.proofs.Common.{◌≡◌, ◌∙◌, ◌<◌, ◌≤◌, ◌+◌, ap, ℕ, true, false, cond, List, [], length, drop}
use Rattle.std.specs.Prelude.{Ok, Err}
use Rattle.std.proofs.lemmas.List.{drop_all, drop_more}
use Rattle.sva_grammar.specs.Grammar.{◌>>=◌}
use Rattle.sva_open.specs.declared.drivers.Workers.{Workers}
use Rattle.sva_driver_texts.specs.Devices.{codes_from, with_code, workers_of}
use Rattle.sva_driver_words.specs.Faults.{wrong_at}
use Rattle.sva_driver_words.specs.Fields.{has_word}
use Rattle.sva_driver_words.specs.declared.faults.DriverWanted.TheVariants as wanted
use Rattle.sva_driver_words.specs.declared.faults.DriverWrong.{DriverWrong}

pub code_next : (words : List (List ℕ)) (at : ℕ) (workers more : Workers) → at < length words → with_code at workers words ≡ Ok more
    → codes_from at workers (drop at words) words ≡ codes_from (at + 1) more (drop (at + 1) words) words
unfolding codes_from
code_next words at workers more inside is =
    ap (λ rest. codes_from at workers rest words) (drop_more words at [] inside)
    ∙ ap (λ read. read >>= λ next. codes_from (at + 1) next (drop (at + 1) words) words) is

pub code_wrong : (words : List (List ℕ)) (at : ℕ) (workers : Workers) (wrong : DriverWrong) → at < length words
    → with_code at workers words ≡ Err wrong → codes_from at workers (drop at words) words ≡ Err wrong
unfolding codes_from
code_wrong words at workers wrong inside is =
    ap (λ rest. codes_from at workers rest words) (drop_more words at [] inside)
    ∙ ap (λ read. read >>= λ next. codes_from (at + 1) next (drop (at + 1) words) words) is

pub codes_end : (words : List (List ℕ)) (at : ℕ) (workers : Workers) → length words ≤ at
    → codes_from at workers (drop at words) words ≡ Ok workers
unfolding codes_from
codes_end words at workers past = ap (λ rest. codes_from at workers rest words) (drop_all at words past)

-- where there is a code, all are read
pub codes_some : (words : List (List ℕ)) → has_word 1 words ≡ true
    → workers_of words ≡ codes_from 1 (record { are_there = true; answer = false; fail = false }) (drop 1 words) words
codes_some words some =
    ap (λ b. cond b (codes_from 1 (record { are_there = true; answer = false; fail = false }) (drop 1 words) words) (wrong_at 1 wanted.Code)) some
