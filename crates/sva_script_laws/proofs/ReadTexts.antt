-- Lines that say a config and steps are read as a scenario that has them.
use Rattle.std.proofs.Common.{◌≡◌, ◌∙◌, ◌≤◌, ◌+◌, ap, arith, cond, refl, subst, sym, ℕ, ◌||◌, not, Bool, true, false}
use Rattle.std.proofs.Common.{List, [], ◌∷◌, ◌++◌, filter, length, length-append, map}
use Rattle.std.specs.Prelude.{nat_lt, Result, Ok, Err}
use Rattle.std.specs.List.{AllByRecursion}
use Rattle.std.proofs.lemmas.Bool.{le-ltb, ltb-false, or_from, or_parts}
use Rattle.std.proofs.lemmas.List.Sums.{count_by-le-length, length-filter}
use Rattle.sva_step.specs.declared.limits.Config.{Config}
use Rattle.sva_step.specs.declared.steps.Step.{Step}
use Rattle.sva_grammar.specs.declared.faults.Cause.TheVariants.{TooLarge}
use Rattle.sva_grammar.specs.declared.faults.LineFault.{LineFault}
use Rattle.sva_grammar.specs.Grammar.{◌>>=◌, Script, at_line, config_of, fault, is_skipped, is_too_large, lines_of}
use Rattle.sva_grammar.specs.Grammar.{said_lines, scenario_of, script_of, step_of}
use Rattle.sva_grammar.specs.Grammar.{steps_of, words_of}
use Rattle.sva_grammar.specs.Laws.{HasConfigLine, HasLine, script_text, step_words, text_of}
use Rattle.sva_grammar.proofs.LawLemmas.{scripts_are_read}
use Rattle.sva_grammar.specs.Replies.{ended}
use Rattle.sva_script_reading.specs.Begins.{Line}
use Rattle.sva_script_laws.proofs.Keeping.{both, one, small_read}
use Rattle.sva_script_laws.proofs.Written.{Clean, lines_written, not_skipped, skipped, written}
use Rattle.sva_script_laws.proofs.StepTexts.{config_clean, config_said, config_text, step_clean, step_said, step_text}
use Rattle.sva_script_laws.proofs.Writing.{says}

-- ---- What is read depends on the texts of the lines alone, where all of them can be read

abbrev pub texts_in : List Line → List (List ℕ)
texts_in lines = map (λ (line : Line). line.1) lines

abbrev pub AllRead : List (List ℕ) → List Step → Type 0
AllRead [] [] = Unit {0}
AllRead (text ∷ texts) (step ∷ steps) = (step_of (words_of text) ≡ Ok step) × AllRead texts steps
AllRead _ _ = ⊥

abbrev pub ScriptRead : List (List ℕ) → Config → List Step → Type 0
ScriptRead [] config steps = ⊥
ScriptRead (text ∷ texts) config steps = (config_of (words_of text) ≡ Ok config) × AllRead texts steps

abbrev steps_as : List Step → Result (List Step) LineFault
steps_as steps = Ok steps

same_steps : (first second : List Step) → steps_as first ≡ Ok second → first ≡ second
same_steps first second is = cc is

all_read : (lines : List Line) (steps : List Step) → steps_of lines ≡ Ok steps → AllRead (texts_in lines) steps
all_read [] steps is = subst (AllRead []) (same_steps [] steps is) tt
all_read (line ∷ lines) steps is =
    let first = both (at_line line.0 (step_of (words_of line.1))) (λ s. steps_of lines >>= λ ss. Ok (s ∷ ss)) steps is in
    let others = both (steps_of lines) (λ ss. Ok (first.0 ∷ ss)) steps first.2 in
    subst (AllRead (line.1 ∷ texts_in lines)) (same_steps (first.0 ∷ others.0) steps others.2)
    (one line.0 (step_of (words_of line.1)) first.0 first.1, all_read lines others.0 others.1)

read_all : (lines : List Line) (steps : List Step) → AllRead (texts_in lines) steps → steps_of lines ≡ Ok steps
read_all [] [] all = refl
read_all [] (step ∷ steps) all = absurd all
read_all (line ∷ lines) [] all = absurd all
read_all (line ∷ lines) (step ∷ steps) all =
    ap (λ read. at_line line.0 read >>= λ s. steps_of lines >>= λ ss. Ok (s ∷ ss)) all.0
    ∙ ap (λ read. read >>= λ ss. Ok (step ∷ ss)) (read_all lines steps all.1)

abbrev script_as : Config → List Step → Result Script LineFault
script_as config steps = Ok (record { config = config; steps = steps })

same_script : (config : Config) (steps : List Step) (script : Script) → script_as config steps ≡ Ok script
    → (config ≡ script.config) × (steps ≡ script.steps)
same_script config steps script is = (ap config_kept is, ap steps_kept is)
  where
    config_kept : Result Script LineFault → Config
    config_kept (Ok found) = found.config
    config_kept (Err wrong) = config

    steps_kept : Result Script LineFault → List Step
    steps_kept (Ok found) = found.steps
    steps_kept (Err wrong) = steps

from_script : (count : ℕ) (lines : List Line) (script : Script) → script_of count lines ≡ Ok script
    → ScriptRead (texts_in lines) script.config script.steps
from_script count [] script is = absurd (cc is)
from_script count (line ∷ lines) script is =
    let first = both (at_line line.0 (config_of (words_of line.1)))
    (λ c. steps_of lines >>= λ steps. Ok (record { config = c; steps = steps })) script is in
    let others = both (steps_of lines) (λ steps. Ok (record { config = first.0; steps = steps })) script first.2 in
    let same = same_script first.0 others.0 script others.2 in (
      one line.0 (config_of (words_of line.1)) first.0 first.1 ∙ ap (λ c. Ok c) same.0,
      subst (AllRead (texts_in lines)) same.1 (all_read lines others.0 others.1),
    )

to_script : (count : ℕ) (lines : List Line) (config : Config) (steps : List Step)
    → ScriptRead (texts_in lines) config steps
    → script_of count lines ≡ script_as config steps
to_script count [] config steps read = absurd read
to_script count (line ∷ lines) config steps read =
    ap (λ found. at_line line.0 found >>= λ c. steps_of lines >>= λ ss. script_as c ss) read.0
    ∙ ap (λ found. found >>= λ ss. script_as config ss) (read_all lines steps read.1)

-- ---- The lines that are said

said_are : (n : ℕ) (lines : List (List ℕ)) → texts_in (said_lines n lines) ≡ filter says lines
said_are n [] = refl
said_are n (line ∷ lines) = by_test (is_skipped line) refl (said_are (n + 1) lines)
  where
    by_test : (test : Bool) → is_skipped line ≡ test → texts_in (said_lines (n + 1) lines) ≡ filter says lines
        → texts_in (said_lines n (line ∷ lines)) ≡ filter says (line ∷ lines)
    by_test true is rest =
        ap texts_in (skipped n line lines is) ∙ rest ∙ sym (ap (λ t. cond (not t) (line ∷ filter says lines) (filter says lines)) is)
    by_test false is rest =
        ap texts_in (not_skipped n line lines is) ∙ ap (λ more. line ∷ more) rest
        ∙ sym (ap (λ t. cond (not t) (line ∷ filter says lines) (filter says lines)) is)

texts_of : (text : List ℕ) (lines said : List (List ℕ)) → Clean lines → text ≡ written lines → filter says lines ≡ said
    → texts_in (said_lines 1 (lines_of text)) ≡ said
texts_of text lines said clean whole is =
    ap (λ t. texts_in (said_lines 1 (lines_of t))) whole
    ∙ ap (λ ls. texts_in (said_lines 1 ls)) (lines_written lines clean)
    ∙ said_are 1 lines ∙ is

-- ---- The plainest text of the scenario

-- its lines
abbrev pub plain_lines : Config → List Step → List (List ℕ)
plain_lines config steps = config_text config ∷ map step_text steps

steps_written : (steps : List Step) → text_of (map step_words steps) ≡ written (map step_text steps)
steps_written [] = refl
steps_written (step ∷ steps) = ap (λ text. ended (step_text step) ++ text) (steps_written steps)

plain_written : (config : Config) (steps : List Step) → script_text (record { config = config; steps = steps }) ≡ written (plain_lines config steps)
plain_written config steps = ap (λ text. ended (config_text config) ++ text) (steps_written steps)

steps_clean : (steps : List Step) → Clean (map step_text steps)
steps_clean [] = tt
steps_clean (step ∷ steps) = (step_clean step, steps_clean steps)

plain_clean : (config : Config) (steps : List Step) → Clean (plain_lines config steps)
plain_clean config steps = (config_clean config, steps_clean steps)

steps_said : (steps : List Step) → filter says (map step_text steps) ≡ map step_text steps
steps_said [] = refl
steps_said (step ∷ steps) =
    let more = filter says (map step_text steps) in
    ap (λ t. cond (not t) (step_text step ∷ more) more) (step_said step) ∙ ap (λ lines. step_text step ∷ lines) (steps_said steps)

plain_said : (config : Config) (steps : List Step) → filter says (plain_lines config steps) ≡ plain_lines config steps
plain_said config steps =
    let more = filter says (map step_text steps) in
    ap (λ t. cond (not t) (config_text config ∷ more) more) (config_said config) ∙ ap (λ lines. config_text config ∷ lines) (steps_said steps)

-- ---- It is no larger

longer : (line : List ℕ) (more lines : List (List ℕ)) → length (written more) ≤ length (written lines)
    → length (written (line ∷ more)) ≤ length (written (line ∷ lines))
longer line more lines less =
    let one_way = length-append (ended line) (written more) in
    let other_way = length-append (ended line) (written lines) in
    omega (arith, one_way, other_way)

at_least : (line : List ℕ) (more lines : List (List ℕ)) → length (written more) ≤ length (written lines)
    → length (written more) ≤ length (written (line ∷ lines))
at_least line more lines less = let both_ways = length-append (ended line) (written lines) in omega (arith, both_ways)

fewer_bytes : (lines : List (List ℕ)) → length (written (filter says lines)) ≤ length (written lines)
fewer_bytes [] = omega arith
fewer_bytes (line ∷ lines) = by_test (says line) (fewer_bytes lines)
  where
    by_test : (test : Bool) → length (written (filter says lines)) ≤ length (written lines)
        → length (written (cond test (line ∷ filter says lines) (filter says lines))) ≤ length (written (line ∷ lines))
    by_test true less = longer line (filter says lines) lines less
    by_test false less = at_least line (filter says lines) lines less

fewer_lines : (lines : List (List ℕ)) → length (filter says lines) ≤ length lines
fewer_lines lines =
    let counted = length-filter says lines in
    let most = count_by-le-length says lines in
    omega (arith, counted, most)

still_small : (limit other a b c d : ℕ) → a ≤ b → c ≤ d → (nat_lt limit b || nat_lt other d) ≡ false
    → (nat_lt limit a || nat_lt other c) ≡ false
still_small limit other a b c d bytes lines small =
    let parts = or_parts (nat_lt limit b) (nat_lt other d) small in
    let few_bytes : a ≤ limit = omega (arith, ltb-false limit b parts.0) in
    let few_lines : c ≤ other = omega (arith, ltb-false other d parts.1) in
    or_from (nat_lt limit a) (nat_lt other c) (le-ltb limit a few_bytes) (le-ltb other c few_lines)

smaller : (lines more : List (List ℕ)) → Clean lines → Clean more → filter says lines ≡ more
    → is_too_large (written lines) ≡ false
    → is_too_large (written more) ≡ false
smaller lines more clean more_clean is small =
    let bytes : length (written more) ≤ length (written lines) =
    subst (λ ls. length (written ls) ≤ length (written lines)) is (fewer_bytes lines) in
    let few : length more ≤ length lines = subst (λ ls. length ls ≤ length lines) is (fewer_lines lines) in
    let fewer : length (lines_of (written more)) ≤ length (lines_of (written lines)) =
    subst (λ ls. length ls ≤ length (lines_of (written lines))) (sym (lines_written more more_clean))
    (subst (λ ls. length more ≤ length ls) (sym (lines_written lines clean)) few) in
    still_small 1048576 65536 (length (written more)) (length (written lines)) (length (lines_of (written more)))
    (length (lines_of (written lines))) bytes fewer small

-- ---- The whole

plain_read : (config : Config) (steps : List Step) → HasConfigLine config → AllByRecursion HasLine steps
    → is_too_large (written (plain_lines config steps)) ≡ false
    → ScriptRead (plain_lines config steps) config steps
unfolding scenario_of
plain_read config steps fits has small =
    let text = script_text (record { config = config; steps = steps }) in
    let read = scripts_are_read (record { config = config; steps = steps }) fits has (ap is_too_large (plain_written config steps) ∙ small) in
    let parts = small_read (is_too_large text) (script_of (length (lines_of text)) (said_lines 1 (lines_of text)))
    (record { config = config; steps = steps }) read in
    subst (λ texts. ScriptRead texts config steps)
    (texts_of text (plain_lines config steps) (plain_lines config steps) (plain_clean config steps)
    (plain_written config steps) (plain_said config steps))
    (from_script (length (lines_of text)) (said_lines 1 (lines_of text)) (record { config = config; steps = steps }) parts.1)

-- a text whose lines say this config and these steps
pub script_read : (text : List ℕ) (config : Config) (steps : List Step) (lines : List (List ℕ)) → Clean lines
    → text ≡ written lines
    → filter says lines ≡ plain_lines config steps → HasConfigLine config → AllByRecursion HasLine steps
    → is_too_large text ≡ false
    → scenario_of text ≡ Ok (record { config = config; steps = steps })
unfolding scenario_of
script_read text config steps lines clean whole said fits has small =
    let plain_small = smaller lines (plain_lines config steps) clean (plain_clean config steps) said (sym (ap is_too_large whole) ∙ small) in
    let read = subst (λ texts. ScriptRead texts config steps) (sym (texts_of text lines (plain_lines config steps) clean whole said))
    (plain_read config steps fits has plain_small) in
    ap (λ t. cond t (fault 0 TooLarge) (script_of (length (lines_of text)) (said_lines 1 (lines_of text)))) small
    ∙ to_script (length (lines_of text)) (said_lines 1 (lines_of text)) config steps read
