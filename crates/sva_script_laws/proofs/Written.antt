-- The lines that `plain` writes, as a scenario reads them.
use Rattle.std.proofs.Common.{◌≡◌, ◌∙◌, ap, refl, sym, subst, arith, ℕ, ◌+◌, ◌==◌, ◌||◌, Bool, true, false, not, cond, List, [], ◌∷◌, append_assoc, drop}
use Rattle.std.proofs.Common.{length, rules, suc, zero, Option, Some, None}
use Rattle.std.specs.Prelude.{Ok, Err, flat_map, nat_lt}
use Rattle.std.specs.List.{list_any, onto_first, position, position_or_len}
use Rattle.std.specs.Option.{option_map_or}
use Rattle.std.proofs.lemmas.Bool.Decides.{nat_tests}
use Rattle.sva_step.specs.declared.steps.Step.{Step}
use Rattle.sva_step.specs.declared.limits.Config.{Config}
use Rattle.sva_grammar.specs.declared.faults.Cause.TheVariants.{BadWord}
use Rattle.sva_grammar.specs.Grammar.{config_of, config_read, endpoint_step, host_step, is_skipped, lines_of, said_lines, single, step_of, step_read, words_of}
use Rattle.sva_grammar.specs.Replies.{ended}
use Rattle.sva_script.specs.Lines.{said, script_words}
use Rattle.sva_script_reports.specs.Scripts.{comment_of}
use Rattle.sva_script_reports.specs.Traces.{NoEnd}
use Rattle.sva_script_reports.proofs.TraceLemmas.{line_at}

-- ---- Lines

-- no line has an LF
abbrev pub Clean : List (List ℕ) → Type 0
Clean [] = Unit {0}
Clean (line ∷ lines) = NoEnd line × Clean lines

-- lines, each with its end
abbrev pub written : List (List ℕ) → List ℕ
written lines = flat_map ended lines

pub lines_written : (lines : List (List ℕ)) → Clean lines → lines_of (written lines) ≡ lines
lines_written [] clean = refl
lines_written (line ∷ lines) clean =
    ap lines_of (append_assoc line (10 ∷ []) (written lines)) ∙ line_at line (written lines) clean.0 ∙ ap (λ rest. line ∷ rest) (lines_written lines clean.1)

-- the lines of a text are such
is_lf : ℕ → Bool
is_lf byte = byte == 10

onto_clean : (byte : ℕ) (lines : List (List ℕ)) → is_lf byte ≡ false → Clean lines → Clean (onto_first byte lines)
unfolding is_lf
onto_clean byte [] other clean = (ap (λ t. t || false) other, tt)
onto_clean byte (line ∷ lines) other clean = (ap (λ t. t || list_any (λ b. b == 10) line) other ∙ clean.0, clean.1)

pub lines_clean : (text : List ℕ) → Clean (lines_of text)
unfolding is_lf
lines_clean [] = tt
lines_clean (byte ∷ text) = by_byte (is_lf byte) refl (lines_clean text)
  where
    by_byte : (test : Bool) → is_lf byte ≡ test → Clean (lines_of text) → Clean (cond (is_lf byte) ([] ∷ lines_of text) (onto_first byte (lines_of text)))
    by_byte true is clean = subst (λ t. Clean (cond t ([] ∷ lines_of text) (onto_first byte (lines_of text)))) (sym is) (refl, clean)
    by_byte false is clean =
        subst (λ t. Clean (cond t ([] ∷ lines_of text) (onto_first byte (lines_of text)))) (sym is) (onto_clean byte (lines_of text) is clean)

-- ---- Lines that are read

-- a line that is skipped
pub skipped : (n : ℕ) (line : List ℕ) (lines : List (List ℕ)) → is_skipped line ≡ true → said_lines n (line ∷ lines) ≡ said_lines (n + 1) lines
skipped n line lines is = ap (λ t. cond (not t) ((n, line) ∷ said_lines (n + 1) lines) (said_lines (n + 1) lines)) is

-- and one that isn't
pub not_skipped : (n : ℕ) (line : List ℕ) (lines : List (List ℕ)) → is_skipped line ≡ false
    → said_lines n (line ∷ lines) ≡ (n, line) ∷ said_lines (n + 1) lines
not_skipped n line lines is = ap (λ t. cond (not t) ((n, line) ∷ said_lines (n + 1) lines) (said_lines (n + 1) lines)) is

-- ---- A step's line

-- it has no LF, and writes the step
pub step_line_read : (text : List ℕ) (step : Step) → step_read text ≡ Ok step → NoEnd text × (step_of (words_of text) ≡ Ok step)
step_line_read text step is = by_test (list_any (λ byte. byte == 10) text) refl is
  where
    by_test : (test : Bool) → list_any (λ byte. byte == 10) text ≡ test → single step_of text ≡ Ok step → NoEnd text × (step_of (words_of text) ≡ Ok step)
    by_test true lf read = absurd (cc (sym (ap (λ t. cond t (Err BadWord) (step_of (words_of text))) lf) ∙ read))
    by_test false lf read = (lf, sym (ap (λ t. cond t (Err BadWord) (step_of (words_of text))) lf) ∙ read)

pub first_of : (byte : ℕ) (words : List (List ℕ)) → (word : List ℕ) × (rest : List (List ℕ)) × (onto_first byte words ≡ (byte ∷ word) ∷ rest)
first_of byte [] = ([], [], refl)
first_of byte (word ∷ words) = (word, words, refl)

-- a comment is no step
no_step : (word : List ℕ) (words : List (List ℕ)) (step : Step) → step_of ((35 ∷ word) ∷ words) ≡ Ok step → ⊥
unfolding step_of host_step endpoint_step
no_step word words step is = cc is

no_empty_step : (step : Step) → step_of ([] ∷ []) ≡ Ok step → ⊥
unfolding step_of host_step endpoint_step
no_empty_step step is = cc is

pub step_not_skipped : (text : List ℕ) (step : Step) → step_of (words_of text) ≡ Ok step → is_skipped text ≡ false
step_not_skipped [] step is = absurd (no_empty_step step is)
step_not_skipped (byte ∷ text) step is = by_byte (byte == 35) refl
  where
    by_byte : (test : Bool) → (byte == 35) ≡ test → (byte == 35) ≡ false
    by_byte false other = other
    by_byte true hash =
        let same : byte ≡ 35 = search rules in
        let first = first_of 35 (words_of text) in
        absurd (no_step first.0 first.1 step (sym (ap step_of first.2) ∙ sym (ap (λ b. step_of (words_of (b ∷ text))) same) ∙ is))

-- the same of the config's
pub config_line_read : (text : List ℕ) (config : Config) → config_read text ≡ Ok config → NoEnd text × (config_of (words_of text) ≡ Ok config)
config_line_read text config is = by_test (list_any (λ byte. byte == 10) text) refl is
  where
    by_test : (test : Bool) → list_any (λ byte. byte == 10) text ≡ test → single config_of text ≡ Ok config
        → NoEnd text × (config_of (words_of text) ≡ Ok config)
    by_test true lf read = absurd (cc (sym (ap (λ t. cond t (Err BadWord) (config_of (words_of text))) lf) ∙ read))
    by_test false lf read = (lf, sym (ap (λ t. cond t (Err BadWord) (config_of (words_of text))) lf) ∙ read)

no_config : (word : List ℕ) (words : List (List ℕ)) (config : Config) → config_of ((35 ∷ word) ∷ words) ≡ Ok config → ⊥
unfolding config_of
no_config word words config is = cc is

no_empty_config : (config : Config) → config_of ([] ∷ []) ≡ Ok config → ⊥
unfolding config_of
no_empty_config config is = cc is

pub config_not_skipped : (text : List ℕ) (config : Config) → config_of (words_of text) ≡ Ok config → is_skipped text ≡ false
config_not_skipped [] config is = absurd (no_empty_config config is)
config_not_skipped (byte ∷ text) config is = by_byte (byte == 35) refl
  where
    by_byte : (test : Bool) → (byte == 35) ≡ test → (byte == 35) ≡ false
    by_byte false other = other
    by_byte true hash =
        let same : byte ≡ 35 = search rules in
        let first = first_of 35 (words_of text) in
        absurd (no_config first.0 first.1 config (sym (ap config_of first.2) ∙ sym (ap (λ b. config_of (words_of (b ∷ text))) same) ∙ is))

-- ---- A line that says nothing

drop_clean : (n : ℕ) (line : List ℕ) → NoEnd line → NoEnd (drop n line)
drop_clean zero line clean = clean
drop_clean (suc n) [] clean = refl
drop_clean (suc n) (byte ∷ line) clean = drop_clean n line (second (byte == 10) (list_any (λ b. b == 10) line) clean)
  where
    second : (a b : Bool) → (a || b) ≡ false → b ≡ false
    second true b is = absurd (cc is)
    second false b is = is

-- its comment has no LF
pub comment_clean : (line : List ℕ) → NoEnd line → NoEnd (comment_of line)
comment_clean line clean = by_place (position (λ byte. not (byte == 32)) line)
  where
    by_place : (place : Option ℕ) → NoEnd (option_map_or (λ first. drop first line) place [])
    by_place None = refl
    by_place (Some first) = drop_clean first line clean

-- a space before it changes nothing
space_before : (place size : ℕ) (line : List ℕ)
    → option_map_or (λ first. drop first (32 ∷ line)) (cond (nat_lt (1 + place) (suc size)) (Some (1 + place)) None) []
    ≡ option_map_or (λ first. drop first line) (cond (nat_lt place size) (Some place) None) []
space_before place size line =
    ap (λ t. option_map_or (λ first. drop first (32 ∷ line)) (cond t (Some (1 + place)) None) []) (same_test place size) ∙ by_test (nat_lt place size)
  where
    same_test : (place size : ℕ) → nat_lt (1 + place) (suc size) ≡ nat_lt place size
    same_test place size = grind (arith, nat_tests)

    by_test : (test : Bool)
        → option_map_or (λ first. drop first (32 ∷ line)) (cond test (Some (1 + place)) None) []
        ≡ option_map_or (λ first. drop first line) (cond test (Some place) None) []
    by_test true = let next : 1 + place ≡ suc place = omega arith in ap (λ k. drop k (32 ∷ line)) next
    by_test false = refl

space_first : (line : List ℕ) → comment_of (32 ∷ line) ≡ comment_of line
space_first line = space_before (position_or_len (λ byte. not (byte == 32)) line) (length line) line

-- where it begins with no space, all of it is kept
no_space : (byte : ℕ) (line : List ℕ) → (byte == 32) ≡ false → comment_of (byte ∷ line) ≡ byte ∷ line
no_space byte line other =
    let within : nat_lt 0 (suc (length line)) ≡ true = grind (arith, nat_tests) in
    rw other (ap (λ t. option_map_or (λ first. drop first (byte ∷ line)) (cond t (Some 0) None) []) within)

-- a line that is skipped is all comment
pub comment_kept : (line : List ℕ) → is_skipped line ≡ true → comment_of line ≡ line
comment_kept [] is = refl
comment_kept (byte ∷ line) is = let same : byte ≡ 35 = search rules in no_space byte line (ap (λ b. b == 32) same)

-- where a line says nothing, its comment is skipped
pub silent : (line : List ℕ) → script_words line ≡ [] → is_skipped (comment_of line) ≡ true
unfolding said
silent [] none = refl
silent (byte ∷ line) none = by_byte (byte == 32) refl (silent line)
  where
    by_byte : (test : Bool) → (byte == 32) ≡ test → (script_words line ≡ [] → is_skipped (comment_of line) ≡ true)
        → is_skipped (comment_of (byte ∷ line)) ≡ true
    by_byte true space more =
        let same : byte ≡ 32 = search rules in
        ap (λ b. is_skipped (comment_of (b ∷ line))) same ∙ ap is_skipped (space_first line)
        ∙ more (sym (ap (λ b. script_words (b ∷ line)) same) ∙ none)
    by_byte false other more =
        let first = first_of byte (words_of line) in
        let words : words_of (byte ∷ line) ≡ (byte ∷ first.0) ∷ first.1 =
        ap (λ t. cond t ([] ∷ words_of line) (onto_first byte (words_of line))) other ∙ first.2 in
        hash (byte == 35) refl (sym (ap said words) ∙ none)
      where
        hash : (test : Bool) → (byte == 35) ≡ test → said ((byte ∷ (first_of byte (words_of line)).0) ∷ (first_of byte (words_of line)).1) ≡ []
            → is_skipped (comment_of (byte ∷ line)) ≡ true
        hash true is said_none = ap is_skipped (no_space byte line other) ∙ is
        hash false is said_none = absurd (cc (is, said_none))
