-- The words of a config: what a script says of them.
use Rattle.std.proofs.Common.{◌≡◌, ◌∙◌, ap, append-nil, cond, refl, subst, sym, ℕ, ◌==◌, ◌||◌, Bool, true, false, List, [], ◌∷◌, codes, None}
use Rattle.std.specs.Prelude.{◌++◌, flat_map, is_ok, is_some, Ok, Err}
use Rattle.std.specs.List.{list_any, onto_first}
use Rattle.std.specs.Str.{bytes_eq}
use Rattle.std.proofs.lemmas.Slice.Eq.{bytes_eq-Decides}
use Rattle.sva_step.specs.declared.limits.Config.{Config}
use Rattle.sva_grammar.specs.declared.faults.Cause.TheVariants.{NoConfig}
use Rattle.sva_grammar.specs.Grammar.{config_counts, config_of, has_words, number, word, words_of}
use Rattle.sva_script.specs.Lines.{Parts, begins_comment, name_before, parts_by, said, said_alone, script_words, split_at}
use Rattle.sva_script_reading.specs.Begins.{joined_words}
use Rattle.sva_script_reports.proofs.TraceLemmas.{none_of}
use Rattle.sva_script_laws.specs.Tests.{expects}
use Rattle.sva_script_laws.proofs.StepWords.{Sound, by_four, part}
use Rattle.sva_script_laws.proofs.PlainWords.{AllSound, digit_sound, no_arrows, number_begins}

-- ---- The config

config_test : (test : Bool) (words : List (List ℕ)) (config : Config) → cond test (config_counts words) (Err NoConfig) ≡ Ok config
    → (test ≡ true) × (config_counts words ≡ Ok config)
config_test true words config is = (refl, is)
config_test false words config is = absurd (cc is)

pub config_sound : (words : List (List ℕ)) (config : Config) → config_of words ≡ Ok config → AllSound words
unfolding config_of config_counts
config_sound words config is =
    let tests = config_test (bytes_eq (word 0 words) (codes "config")) words config is in
    by_four (λ ws. word 0 ws ≡ codes "config" → config_counts ws ≡ Ok config → AllSound ws) words (part (has_words 4 words) _ config tests.1).1
    (λ a b c d name read.
    let first = part (number b) _ config read in
    let second = part (number c) _ config first.2 in
    let third = part (number d) _ config second.2 in (
      subst Sound (sym name) (refl, refl),
      (
        digit_sound b (number_begins b (ap is_ok first.1)),
        (
          digit_sound c (number_begins c (ap is_ok second.1)),
          (digit_sound d (number_begins d (ap is_ok third.1)), tt),
        ),
      ),
    ))
    ((bytes_eq-Decides (word 0 words) (codes "config")).0 tests.0) tests.1

-- ---- Words, joined again

abbrev pub Unspaced : List ℕ → Type 0
Unspaced word = list_any (λ byte. byte == 32) word ≡ false

abbrev pub AllUnspaced : List (List ℕ) → Type 0
AllUnspaced [] = Unit {0}
AllUnspaced (word ∷ words) = Unspaced word × AllUnspaced words

onto_unspaced : (byte : ℕ) (words : List (List ℕ)) → (byte == 32) ≡ false → AllUnspaced words → AllUnspaced (onto_first byte words)
onto_unspaced byte [] other all = (ap (λ t. t || false) other, tt)
onto_unspaced byte (word ∷ words) other all = (ap (λ t. t || list_any (λ b. b == 32) word) other ∙ all.0, all.1)

split_unspaced : (test : Bool) (byte : ℕ) (words : List (List ℕ)) → (byte == 32) ≡ test → AllUnspaced words
    → AllUnspaced (cond test ([] ∷ words) (onto_first byte words))
split_unspaced true byte words is all = (refl, all)
split_unspaced false byte words is all = onto_unspaced byte words is all

words_unspaced : (line : List ℕ) → AllUnspaced (words_of line)
words_unspaced [] = (refl, tt)
words_unspaced (byte ∷ line) = split_unspaced (byte == 32) byte (words_of line) refl (words_unspaced line)

said_by_test : (test : Bool) (word : List ℕ) (words : List (List ℕ)) → Unspaced word → AllUnspaced words
    → AllUnspaced (cond test [] (said_alone word ++ words))
said_by_test true word words clean all = tt
said_by_test false [] words clean all = all
said_by_test false (byte ∷ word) words clean all = (clean, all)

said_unspaced : (words : List (List ℕ)) → AllUnspaced words → AllUnspaced (said words)
unfolding said
said_unspaced [] all = tt
said_unspaced (word ∷ words) all = said_by_test (begins_comment word) word (said words) all.0 (said_unspaced words all.1)

word_first : (word rest : List ℕ) → Unspaced word → words_of (word ++ 32 ∷ rest) ≡ word ∷ words_of rest
word_first [] rest clean = refl
word_first (byte ∷ word) rest clean =
    let parts = none_of (byte == 32) (list_any (λ b. b == 32) word) clean in
    ap (λ t. cond t ([] ∷ words_of (word ++ 32 ∷ rest)) (onto_first byte (words_of (word ++ 32 ∷ rest)))) parts.0
    ∙ ap (onto_first byte) (word_first word rest parts.1)

word_last : (word : List ℕ) → Unspaced word → words_of word ≡ word ∷ []
word_last [] clean = refl
word_last (byte ∷ word) clean =
    let parts = none_of (byte == 32) (list_any (λ b. b == 32) word) clean in
    ap (λ t. cond t ([] ∷ words_of word) (onto_first byte (words_of word))) parts.0 ∙ ap (onto_first byte) (word_last word parts.1)

joined_again : (word : List ℕ) (words : List (List ℕ)) → AllUnspaced (word ∷ words) → words_of (word ++ flat_map (λ next. 32 ∷ next) words) ≡ word ∷ words
joined_again word [] all = ap words_of (append-nil word) ∙ word_last word all.0
joined_again word (next ∷ words) all =
    word_first word (next ++ flat_map (λ n. 32 ∷ n) words) all.0 ∙ ap (λ ws. word ∷ ws) (joined_again next words all.1)

-- the words of a line that says something are those of its words, joined
pub said_again : (line word : List ℕ) (words : List (List ℕ)) → script_words line ≡ word ∷ words → words_of (joined_words (word ∷ words)) ≡ word ∷ words
said_again line word words is = joined_again word words (subst AllUnspaced is (said_unspaced (words_of line) (words_unspaced line)))

-- the config expects nothing
config_named : (word : List ℕ) (words : List (List ℕ)) (config : Config) → config_of (word ∷ words) ≡ Ok config → word ≡ codes "config"
unfolding config_of
config_named word words config is =
    (bytes_eq-Decides word (codes "config")).0 ((config_test (bytes_eq word (codes "config")) (word ∷ words) config is).0)

pub config_expects : (line word : List ℕ) (words : List (List ℕ)) (config : Config) → script_words line ≡ word ∷ words
    → config_of (words_of (joined_words (word ∷ words))) ≡ Ok config → expects (word ∷ words) ≡ false
config_expects line word words config is reads =
    let found : config_of (word ∷ words) ≡ Ok config = sym (ap config_of (said_again line word words is)) ∙ reads in
    let unnamed : name_before word ≡ None = ap name_before (config_named word words config found) in
    ap (λ (parts : Parts). is_some parts.expected)
    (ap (parts_by (word ∷ words)) unnamed ∙ ap (split_at None (word ∷ words)) (no_arrows (word ∷ words) (config_sound (word ∷ words) config found)))
