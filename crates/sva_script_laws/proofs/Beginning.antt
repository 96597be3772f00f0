-- The same with the config, which stands before the steps.
use Rattle.std.proofs.Common.{◌≡◌, ◌∙◌, ap, refl, sym, ℕ, ◌+◌, ◌&&◌, not, Bool, true, false, cond, List, [], ◌∷◌, ◌++◌, append_assoc, map, Some, None}
use Rattle.std.specs.Prelude.{Result, Ok, Err}
use Rattle.sva_step.specs.declared.limits.Config.{Config}
use Rattle.sva_step.specs.declared.refusals.Refusal.TheVariants.{BadConfig}
use Rattle.sva_step.specs.declared.steps.Step.{Step}
use Rattle.sva_step.specs.Refusals.{refusal_text}
use Rattle.sva_labels.specs.Host.{first_wire}
use Rattle.sva_grammar.specs.Grammar.{◌>>=◌, at_line, config_read, is_skipped, is_too_large, lines_of, said_lines, script_of, steps_of}
use Rattle.sva_grammar.specs.Configs.{is_fit}
use Rattle.sva_grammar.specs.Replies.{ended}
use Rattle.sva_snapshot.specs.Explaining.{Explaining}
use Rattle.sva_script.specs.Lines.{parts_of, script_words}
use Rattle.sva_script_reading.specs.Lines.{are_end, is_end}
use Rattle.sva_script_runs.specs.Runs.{Running}
use Rattle.sva_script_reading.specs.Faults.{Fault}
use Rattle.sva_script_reading.specs.Said.{Said, bad, well}
use Rattle.sva_script_reading.specs.Begins.{Line, begin_of, begun, config_at, config_by, config_in, config_with, faults_from, if_right, joined_words}
use Rattle.sva_script_reading.specs.Begins.{lines_from, said_by, too_large}
use Rattle.sva_script_reports.specs.Scripts.{comment_of, past_config, plain_from, plain_line, plain_of, start, test_from, test_line}
use Rattle.sva_script_reports.specs.declared.rows.Style.{Style}
use Rattle.sva_script_reports.specs.Traces.{Tracing, fresh, trace_config, trace_from, trace_line, trace_more}
use Rattle.sva_script_laws.specs.Replays.{answer_line, answers_from}
use Rattle.sva_script_laws.specs.Traces.{LineRow, is_written, rows_report, rows_text, said_texts, written_numbers}
use Rattle.sva_script_laws.specs.Tests.{Expectation, expect_line, expectations_from, expecting, expects, judged_by}
use Rattle.sva_script_laws.proofs.Following.{CleanLines, expecting_lines, follows, report_from, written_lines}
use Rattle.sva_script_laws.proofs.Judging.{never}
use Rattle.sva_script_laws.proofs.ConfigWords.{config_expects}
use Rattle.sva_script_laws.proofs.StepLines.{config_part, left_part}
use Rattle.sva_script_laws.proofs.Written.{Clean, comment_clean, config_line_read, config_not_skipped, not_skipped, silent, skipped, written}

-- which lines are written of these, which config and steps they write, and what that is answered; the rows of these; what they expect
pub record Begins (explained : Explaining) (config : Config) (lines : List Line) (out text : List ℕ) : Type 0 where
  pub more : List (List ℕ)
  pub first : List ℕ
  pub steps : List Step
  pub rows : List LineRow
  pub counts : List ℕ
  pub clean : Clean more
  pub whole : text ≡ out ++ written more
  pub small : is_too_large text ≡ false
  pub read : (n count : ℕ) → script_of count (said_lines n more) ≡ Ok (record { config = config; steps = steps })
  pub said : (n : ℕ) → said_texts n more ≡ first ∷ map (λ (it : LineRow). it.plain) rows
  pub answers : report_from (first_wire config) steps ≡ answers_from (start config) lines
  pub told : answers_from (start config) lines ≡ rows_report rows counts
  pub number : ℕ
  pub numbers : written_numbers lines ≡ number ∷ map (λ (it : LineRow). it.line) rows
  pub traced : (style : Style) (before : ℕ) → trace_from explained style fresh before lines ≡ well (rows_text style rows counts)
  pub none_skipped : map (λ (it : Expectation). it.line) (expectations_from explained 0 (start config) lines) ≡ expecting lines
  pub tested : test_from explained 0 false (start config) lines
      ≡ judged_by (lines_of (answers_from (start config) lines)) 0 (expectations_from explained 0 (start config) lines)

-- so for all that stands before them
abbrev pub Begun : (explained : Explaining) (before : ℕ) → Config → (left lines : List Line) → Type 0
Begun explained before config left lines =
    config_in before lines ≡ Ok (config, left) → (out text : List ℕ) → plain_from out (start config) lines ≡ well text → Begins explained config lines out text

-- ---- A line that says nothing

begins_silent : (explained : Explaining) (config : Config) (line : Line) (lines : List Line) (out text : List ℕ) → CleanLines (line ∷ lines)
    → script_words line.1 ≡ []
    → Begins explained config lines (out ++ ended (comment_of line.1)) text → Begins explained config (line ∷ lines) out text
unfolding answers_from trace_from test_from expectations_from
begins_silent explained config line lines out text clean none left =
    let skips : is_skipped (comment_of line.1) ≡ true = silent line.1 none in
    let answers_same : answers_from (start config) (line ∷ lines) ≡ answers_from (start config) lines =
    ap (answer_line (start config) line (λ next. answers_from next lines)) none in
    record {
      more = comment_of line.1 ∷ left.more;
      first = left.first;
      steps = left.steps;
      rows = left.rows;
      counts = left.counts;
      clean = (comment_clean line.1 clean.0, left.clean);
      whole = left.whole ∙ append_assoc out (ended (comment_of line.1)) (written left.more);
      small = left.small;
      read = λ n count. ap (script_of count) (skipped n (comment_of line.1) left.more skips) ∙ left.read (n + 1) count;
      said = λ n. ap (map (λ (l : Line). l.1)) (skipped n (comment_of line.1) left.more skips) ∙ left.said (n + 1);
      answers = left.answers ∙ sym answers_same;
      told = answers_same ∙ left.told;
      number = left.number;
      numbers =
          ap (λ words. map (λ (l : Line). l.0) (cond (is_written words) (line ∷ written_lines lines) (written_lines lines))) none ∙ left.numbers;
      traced = λ style before.
          ap (λ words. trace_more (λ next. trace_from explained style next line.0 lines) (trace_line explained style fresh line.0 words)) none
          ∙ left.traced style line.0;
      none_skipped =
          ap (λ words. map (λ (it : Expectation). it.line)
          (expect_line explained 0 (start config) line.0 (λ next after. expectations_from explained next after lines) words)) none
          ∙ left.none_skipped
          ∙ ap (λ words. map (λ (l : Line). l.0) (cond (expects words) (line ∷ expecting_lines lines) (expecting_lines lines))) (sym none);
      tested =
          ap (test_line explained (start config) false line 0 (λ more is_past next. test_from explained more is_past next lines)) none
          ∙ left.tested
          ∙ (λ i. judged_by (lines_of (sym answers_same i)) 0
          (ap (expect_line explained 0 (start config) line.0 (λ next after. expectations_from explained next after lines)) (sym none) i));
    }

-- ---- The config

config_traced : (style : Style) (config : Config) (rest : Tracing → Said) → is_fit config ≡ true
    → trace_more rest (trace_config fresh (Ok config))
    ≡ rest (record { run = Some (record { seen = first_wire config; known = [] }); has_ended = false; has_faulted = false })
config_traced style config rest fit =
    ap (λ t. trace_more rest (cond t
    (record { run = Some (record { seen = first_wire config; known = [] }); has_ended = false; has_faulted = false }, [])
    (record { run = None; has_ended = true; has_faulted = true }, ended (refusal_text BadConfig)))) fit

never_both : (test : Bool) → (test && false) ≡ false
never_both true = refl
never_both false = refl

begins_here : (explained : Explaining) (config : Config) (line : Line) (lines left : List Line) (word : List ℕ) (words : List (List ℕ))
    (out text : List ℕ) → CleanLines lines
    → script_words line.1 ≡ word ∷ words → is_fit config ≡ true → faults_from [] false left ≡ []
    → config_with lines (config_by line.0 (word ∷ words) (config_read (joined_words (word ∷ words)))) ≡ Ok (config, left)
    → plain_from (out ++ ended (joined_words (word ∷ words))) (past_config (start config)) lines ≡ well text
    → Begins explained config (line ∷ lines) out text
unfolding answers_from trace_from test_from expectations_from
begins_here explained config line lines left word words out text clean said fit right found is =
    let joined = joined_words (word ∷ words) in
    let written_so : config_read joined ≡ Ok config = config_part line.0 (word ∷ words) lines left (config_read joined) config found in
    let read = config_line_read joined config written_so in
    let left_is = left_part lines left config (config_by line.0 (word ∷ words) (config_read joined)) found in
    let begin : Running = record { seen = first_wire config; known = [] } in
    let more = follows explained lines clean false [] (ap (faults_from [] false) left_is ∙ right) begin (out ++ ended joined) text is in
    let stands : (n : ℕ) → said_lines n (joined ∷ more.more) ≡ (n, joined) ∷ said_lines (n + 1) more.more =
    λ n. not_skipped n joined more.more (config_not_skipped joined config read.1) in
    let answers_same = ap (answer_line (start config) line (λ next. answers_from next lines)) said in
    let no_end : is_end (parts_of (word ∷ words)) ≡ false =
    ap (λ t. are_end (parts_of (word ∷ words)).step && t) (config_expects line.1 word words config said read.1)
    ∙ never_both (are_end (parts_of (word ∷ words)).step) in
    record {
      more = joined ∷ more.more;
      first = joined;
      steps = more.steps;
      rows = more.rows;
      counts = more.counts;
      clean = (read.0, more.clean);
      whole = more.whole ∙ append_assoc out (ended joined) (written more.more);
      small = more.small;
      read = λ n count.
          ap (script_of count) (stands n)
          ∙ ap (λ r. at_line n r >>= λ c. steps_of (said_lines (n + 1) more.more) >>= λ steps. Ok (record { config = c; steps = steps })) read.1
          ∙ ap (λ r. r >>= λ steps. Ok (record { config = config; steps = steps })) (more.read (n + 1));
      said = λ n. ap (map (λ (l : Line). l.1)) (stands n) ∙ ap (λ ls. joined ∷ ls) (more.said (n + 1));
      answers = more.answers ∙ sym answers_same;
      told = answers_same ∙ more.told;
      number = line.0;
      numbers =
          ap (λ ws. map (λ (l : Line). l.0) (cond (is_written ws) (line ∷ written_lines lines) (written_lines lines))) said
          ∙ ap (λ t. map (λ (l : Line). l.0) (cond (not t) (line ∷ written_lines lines) (written_lines lines))) no_end
          ∙ ap (λ ns. line.0 ∷ ns) more.numbers;
      traced = λ style before.
          ap (λ ws. trace_more (λ next. trace_from explained style next line.0 lines) (trace_line explained style fresh line.0 ws)) said
          ∙ ap (λ r. trace_more (λ next. trace_from explained style next line.0 lines) (trace_config fresh (config_by line.0 (word ∷ words) r))) written_so
          ∙ config_traced style config (λ next. trace_from explained style next line.0 lines) fit
          ∙ more.traced style line.0;
      none_skipped =
          ap (λ ws. map (λ (it : Expectation). it.line)
          (expect_line explained 0 (start config) line.0 (λ next after. expectations_from explained next after lines) ws)) said
          ∙ more.none_skipped 0
          ∙ ap (λ t. map (λ (l : Line). l.0) (cond t (line ∷ expecting_lines lines) (expecting_lines lines)))
          (sym (ap expects said ∙ config_expects line.1 word words config said read.1));
      tested =
          ap (test_line explained (start config) false line 0 (λ more is_past next. test_from explained more is_past next lines)) said
          ∙ more.tested [] 0
          ∙ (λ i. judged_by (lines_of (sym answers_same i)) 0
          (ap (expect_line explained 0 (start config) line.0 (λ next after. expectations_from explained next after lines)) (sym said) i));
    }

-- ---- All lines

pub begins : (explained : Explaining) (before : ℕ) (lines : List Line) (config : Config) (left : List Line) → CleanLines lines → is_fit config ≡ true
    → faults_from [] false left ≡ []
    → Begun explained before config left lines
unfolding config_in plain_from
begins explained before [] config left clean fit right found out text is = absurd (cc found)
begins explained before (line ∷ lines) config left clean fit right found out text is =
    by_words (script_words line.1) refl found is (begins explained line.0 lines config left clean.1 fit right)
  where
    by_words : (words : List (List ℕ)) → script_words line.1 ≡ words → config_at line lines (config_in line.0 lines) words ≡ Ok (config, left)
        → plain_line (start config) line out (λ more next. plain_from more next lines) words ≡ well text
        → Begun explained line.0 config left lines
        → Begins explained config (line ∷ lines) out text
    by_words [] none found is behind_it =
        begins_silent explained config line lines out text clean none (behind_it found (out ++ ended (comment_of line.1)) text is)
    by_words (word ∷ words) said found is behind_it = begins_here explained config line lines left word words out text clean.1 said fit right found is

-- ---- A script that has a scenario

-- it has a config within its limits, nothing is wrong with it, and its lines write the scenario
pub record Runs (text plain : List ℕ) : Type 0 where
  pub config : Config
  pub left : List Line
  pub small : is_too_large text ≡ false
  pub begin : begin_of text ≡ Ok config
  pub found : config_in 0 (lines_from 1 text) ≡ Ok (config, left)
  pub right : faults_from [] false left ≡ []
  pub fit : is_fit config ≡ true
  pub writes : plain_from [] (start config) (lines_from 1 text) ≡ well plain

pub runs : (text plain : List ℕ) → plain_of text ≡ well plain → Runs text plain
runs text plain is = by_size (is_too_large text) refl is
  where
    lines : List Line
    lines = lines_from 1 text

    run : Config → Said
    run config = plain_from [] (start config) lines

    by_fit : (config : Config) (left : List Line) (fit : Bool) → is_too_large text ≡ false → begin_of text ≡ Ok config → config_in 0 lines ≡ Ok (config, left)
        → faults_from [] false left ≡ [] → is_fit config ≡ fit
        → cond fit (run config) (bad (ended (refusal_text BadConfig))) ≡ well plain
        → Runs text plain
    by_fit config left false small begin found right fit is = absurd (never _ plain is)
    by_fit config left true small begin found right fit is =
        record { config = config; left = left; small = small; begin = begin; found = found; right = right; fit = fit; writes = is }

    by_faults : (config : Config) (left : List Line) (faults : List Fault) → is_too_large text ≡ false → begin_of text ≡ if_right config faults
        → config_in 0 lines ≡ Ok (config, left)
        → faults_from [] false left ≡ faults → said_by run (if_right config faults) ≡ well plain → Runs text plain
    by_faults config left [] small begin found right is = by_fit config left (is_fit config) small begin found right refl is
    by_faults config left (wrong ∷ faults) small begin found right is = absurd (never _ plain is)

    by_config : (found : Result (Config × List Line) Fault) → is_too_large text ≡ false → begin_of text ≡ begun found → config_in 0 lines ≡ found
        → said_by run (begun found) ≡ well plain
        → Runs text plain
    by_config (Ok (config, left)) small begin found is = by_faults config left (faults_from [] false left) small begin found refl is
    by_config (Err wrong) small begin found is = absurd (never _ plain is)

    by_size : (large : Bool) → is_too_large text ≡ large → said_by run (cond large (Err too_large) (begun (config_in 0 lines))) ≡ well plain → Runs text plain
    by_size true large is = absurd (never _ plain is)
    by_size false large is =
        by_config (config_in 0 lines) large (ap (λ t. cond t (Err too_large) (begun (config_in 0 lines))) large) refl is
