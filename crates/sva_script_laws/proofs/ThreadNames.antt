-- The words of a line have no byte that ends a line, and so none has the name of a thread that a line says.
use Rattle.std.proofs.Common.{◌≡◌, ◌∙◌, ap, cond, refl, ℕ, zero, suc, ◌==◌, ◌||◌, Bool, true, false, List, [], ◌∷◌}
use Rattle.std.proofs.Common.{◌++◌, codes, drop, take, Option, Some, None, IfSome}
use Rattle.std.specs.Prelude.{position}
use Rattle.std.specs.List.{list_any, onto_first}
use Rattle.std.specs.Option.{unwrap_or}
use Rattle.std.specs.Str.{bytes_eq}
use Rattle.sva_grammar.specs.Grammar.{words_of}
use Rattle.sva_script.specs.Lines.{begins_comment, is_arrow, name_before, parts_by, parts_of, said, said_alone}
use Rattle.sva_script.specs.Lines.{script_words, split_at}
use Rattle.sva_script_reports.specs.Traces.{NoEnd}
use Rattle.sva_script_reports.proofs.TraceLemmas.{no_end-both, none_of}
use Rattle.sva_script_laws.proofs.Written.{Clean}
use Rattle.sva_race_texts.specs.Roles.{is_of_endpoint, is_of_unit, is_of_worker, role_of}
use Rattle.sva_race_texts.specs.Words.{word_at}

-- ---- The words of a line

onto_clean : (byte : ℕ) (words : List (List ℕ)) → (byte == 10) ≡ false → Clean words → Clean (onto_first byte words)
onto_clean byte [] other clean = (ap (λ t. t || false) other, tt)
onto_clean byte (word ∷ words) other clean = (ap (λ t. t || list_any (λ b. b == 10) word) other ∙ clean.0, clean.1)

by_space : (space : Bool) (byte : ℕ) (words : List (List ℕ)) → (byte == 10) ≡ false → Clean words
    → Clean (cond space ([] ∷ words) (onto_first byte words))
by_space true byte words other clean = (refl, clean)
by_space false byte words other clean = onto_clean byte words other clean

all_clean : (line : List ℕ) → NoEnd line → Clean (words_of line)
all_clean [] clean = (refl, tt)
all_clean (byte ∷ line) clean =
    let parts = none_of (byte == 10) (list_any (λ b. b == 10) line) clean in
    by_space (byte == 32) byte (words_of line) parts.0 (all_clean line parts.1)

by_comment : (test : Bool) (word : List ℕ) (words : List (List ℕ)) → NoEnd word → Clean words
    → Clean (cond test [] (said_alone word ++ words))
by_comment true word words clean all = tt
by_comment false [] words clean all = all
by_comment false (byte ∷ word) words clean all = (clean, all)

said_clean : (words : List (List ℕ)) → Clean words → Clean (said words)
unfolding said
said_clean [] clean = tt
said_clean (word ∷ words) clean = by_comment (begins_comment word) word (said words) clean.0 (said_clean words clean.1)

pub line_words : (line : List ℕ) → NoEnd line → Clean (script_words line)
line_words line clean = said_clean (words_of line) (all_clean line clean)

-- ---- Some of them

pub word_clean : (at : ℕ) (words : List (List ℕ)) → Clean words → NoEnd (word_at at words)
word_clean at [] clean = refl
word_clean zero (word ∷ words) clean = clean.0
word_clean (suc at) (word ∷ words) clean = word_clean at words clean.1

pub drop_clean : (count : ℕ) (words : List (List ℕ)) → Clean words → Clean (drop count words)
drop_clean zero words clean = clean
drop_clean (suc count) [] clean = tt
drop_clean (suc count) (word ∷ words) clean = drop_clean count words clean.1

take_clean : (count : ℕ) (words : List (List ℕ)) → Clean words → Clean (take count words)
take_clean zero words clean = tt
take_clean (suc count) [] clean = tt
take_clean (suc count) (word ∷ words) clean = (clean.0, take_clean count words clean.1)

-- those of the step
split_clean : (name : Option (List ℕ)) (words : List (List ℕ)) (arrow : Option ℕ) → Clean words
    → Clean (split_at name words arrow).step
split_clean name words None clean = clean
split_clean name words (Some arrow) clean = take_clean arrow words clean

named_clean : (words : List (List ℕ)) (name : Option (List ℕ)) → Clean words → Clean (parts_by words name).step
named_clean words None clean = split_clean None words (position is_arrow words) clean
named_clean words (Some name) clean =
    split_clean (Some name) (drop 1 words) (position is_arrow (drop 1 words)) (drop_clean 1 words clean)

pub parts_clean : (words : List (List ℕ)) → Clean words → Clean (parts_of words).step
parts_clean [] clean = split_clean None [] (position is_arrow []) tt
parts_clean (word ∷ words) clean = named_clean (word ∷ words) (name_before word) clean

-- ---- The thread of a step, by its role or by the heading above it

by_role : (endpoint unit worker link : Bool) (first : List ℕ) → NoEnd first
    → NoEnd (cond endpoint (codes "endpoint " ++ first) (cond unit (codes "unit " ++ first)
    (cond worker (codes "worker " ++ first) (cond link (codes "link") (codes "host")))))
by_role true unit worker link first clean = no_end-both (codes "endpoint ") first refl clean
by_role false true worker link first clean = no_end-both (codes "unit ") first refl clean
by_role false false true link first clean = no_end-both (codes "worker ") first refl clean
by_role false false false true first clean = refl
by_role false false false false first clean = refl

role_clean : (words : List (List ℕ)) → Clean words → NoEnd (role_of words)
role_clean words clean =
    let step = word_at 0 words in
    by_role (is_of_endpoint step) (is_of_unit step) (is_of_worker step) (bytes_eq step (codes "deliver"))
    (word_at 1 words) (word_clean 1 words clean)

pub thread_clean : (heading : Option (List ℕ)) (words : List (List ℕ)) → IfSome heading (λ name. NoEnd name)
    → Clean words
    → NoEnd (unwrap_or heading (role_of words))
thread_clean None words named clean = role_clean words clean
thread_clean (Some name) words named clean = named
