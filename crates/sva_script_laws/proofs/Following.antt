-- What the lines of a script whose scenario is written say: the scenario's lines and steps, their answers, rows and expectations.
use Rattle.std.proofs.Common.{◌≡◌, ◌∙◌, ap, refl, sym, ℕ, ◌+◌, Bool, true, false, cond, List, [], ◌∷◌, ◌++◌, append-nil, append_assoc, Option, Some, None}
use Rattle.std.proofs.Common.{codes, length, map}
use Rattle.std.specs.Prelude.{filter, is_none, not, Result, Ok, Err, flat_map, slice_get, slice_index_or}
use Rattle.std.specs.List.{enumerate_from}
use Rattle.sva_step.specs.declared.steps.Step.{Step}
use Rattle.sva_model.specs.Wire.{Wire}
use Rattle.sva_labels.specs.Host.{next_of, replies_of, reply_of, run_of}
use Rattle.sva_grammar.specs.Grammar.{◌>>=◌, at_line, is_skipped, is_too_large, lines_of, said_lines, steps_of}
use Rattle.sva_grammar.specs.Replies.{ended, reply_text}
use Rattle.sva_snapshot.specs.Explaining.{Explaining}
use Rattle.sva_script.specs.declared.faults.Wrong.{Wrong}
use Rattle.sva_script.specs.Lines.{parts_of, script_words}
use Rattle.sva_script.specs.Names.{Known}
use Rattle.sva_script_reading.specs.Lines.{LineRead, Plain, is_end, line_read}
use Rattle.sva_script_reading.specs.Messages.{link_of}
use Rattle.sva_script_runs.specs.Runs.{Running, behind, read_at}
use Rattle.sva_script_reports.specs.Lines.{behind_line}
use Rattle.sva_script_reading.specs.Faults.{Fault}
use Rattle.sva_script_reading.specs.Said.{Said, bad, well}
use Rattle.sva_script_reports.specs.Scripts as scripts
use Rattle.sva_script_reading.specs.Begins.{Line, faults_at, faults_from, noted}
use Rattle.sva_reports.specs.Counts.{counts_at}
use Rattle.sva_script_reports.specs.Scripts.{At, comment_of, if_small, plain_from, plain_line, step_line, test_from, test_line, test_read}
use Rattle.sva_script_reports.specs.declared.rows.Style.{Style}
use Rattle.sva_script_reports.specs.Traces.{NoEnd, Tracing, row_of, trace_from, trace_line, trace_more, trace_read, trace_step}
use Rattle.sva_script_laws.specs.Replays.{answer_line, answer_read, answers_from, step_answer}
use Rattle.sva_script_laws.specs.Traces.{LineRow, is_written, last_text, line_text, rows_report, rows_text, said_texts, written_numbers}
use Rattle.sva_script_laws.specs.Tests.{Expectation, expect_line, expect_read, expectations_from, expectation, expecting, expects, judged_by, place_behind}
use Rattle.sva_script_laws.proofs.AnswerTexts.{counts_clean, reply_clean}
use Rattle.sva_script_laws.proofs.Judging.{at_place, expecting_so, judged_so, line_at_place, never, place_next}
use Rattle.sva_script_laws.proofs.RowTexts.{row_made, step_told}
use Rattle.sva_script_laws.proofs.StepLines.{ends_is, expects_is, right_behind, step_is}
use Rattle.sva_script_laws.proofs.Written.{Clean, comment_clean, not_skipped, silent, skipped, step_line_read, step_not_skipped, written}
use Rattle.sva_script_reports.proofs.TraceLemmas.{line_at}

abbrev pub CleanLines : List Line → Type 0
CleanLines [] = Unit {0}
CleanLines (line ∷ lines) = NoEnd line.1 × CleanLines lines

pub numbered : (n : ℕ) (lines : List (List ℕ)) → Clean lines → CleanLines (enumerate_from n lines)
numbered n [] clean = tt
numbered n (line ∷ lines) clean = (clean.0, numbered (n + 1) lines clean.1)

-- the report of some steps from what is kept on
abbrev pub report_from : Wire → List Step → List ℕ
report_from seen steps = flat_map (λ reply. ended (reply_text reply)) (replies_of seen steps) ++ ended (counts_at (run_of seen steps))

-- a trace that no line ended, or the last one
abbrev pub tracing_at : (past : Bool) → Running → Tracing
tracing_at past running = record { run = Some running; has_ended = past; has_faulted = false }

-- which lines are written of these, which steps they write, and what that is answered; the rows of these; what they expect
pub record Follows (explained : Explaining) (past : Bool) (running : Running) (lines : List Line) (out text : List ℕ) : Type 0 where
  pub more : List (List ℕ)
  pub steps : List Step
  pub rows : List LineRow
  pub counts : List ℕ
  pub clean : Clean more
  pub whole : text ≡ out ++ written more
  pub small : is_too_large text ≡ false
  pub read : (n : ℕ) → steps_of (said_lines n more) ≡ Ok steps
  pub said : (n : ℕ) → said_texts n more ≡ map (λ (it : LineRow). it.plain) rows
  pub answers : report_from running.seen steps ≡ answers_from (behind_line running) lines
  pub told : answers_from (behind_line running) lines ≡ rows_report rows counts
  pub numbers : written_numbers lines ≡ map (λ (it : LineRow). it.line) rows
  pub traced : (style : Style) (before : ℕ) → trace_from explained style (tracing_at past running) before lines ≡ well (rows_text style rows counts)
  pub none_skipped : (place : ℕ) → map (λ (it : Expectation). it.line) (expectations_from explained place (behind_line running) lines) ≡ expecting lines
  pub tested : (front : List (List ℕ)) (count : ℕ)
      → test_from explained count past (behind_line running) lines
      ≡ judged_by (front ++ lines_of (answers_from (behind_line running) lines)) count (expectations_from explained (length front) (behind_line running) lines)

-- those of some lines that say what they expect
abbrev pub expecting_lines : List Line → List Line
expecting_lines lines = filter (λ line. expects (script_words line.1)) lines

-- and those that say something of the scenario
abbrev pub written_lines : List Line → List Line
written_lines lines = filter (λ line. is_written (script_words line.1)) lines

pub small_by : (out text : List ℕ) (test : Bool) → is_too_large out ≡ test
    → cond test (bad (ended (codes "line 0: the scenario has more than 1048576 bytes or 65536 lines"))) (well out) ≡ well text
    → (text ≡ out) × (is_too_large text ≡ false)
small_by out text true is said = absurd (never _ text said)
small_by out text false is said = let same : text ≡ out = sym (ap (λ (s : Said). s.text) said) in (same, ap is_too_large same ∙ is)

-- ---- No line is left

follows_none : (explained : Explaining) (past : Bool) (running : Running) (out text : List ℕ) → plain_from out (behind_line running) [] ≡ well text
    → Follows explained past running [] out text
unfolding plain_from answers_from replies_of trace_from test_from expectations_from
follows_none explained past running out text is =
    let end = small_by out text (is_too_large out) refl is in
    record {
      more = [];
      steps = [];
      rows = [];
      counts = counts_at running.seen;
      clean = tt;
      whole = end.0 ∙ sym (append-nil out);
      small = end.1;
      read = λ n. refl;
      said = λ n. refl;
      answers = refl;
      told = refl;
      numbers = refl;
      traced = λ style before. refl;
      none_skipped = λ place. refl;
      tested = λ front count. refl;
    }

-- ---- A line that says nothing

follows_silent : (explained : Explaining) (past : Bool) (running : Running) (line : Line) (lines : List Line) (out text : List ℕ) → NoEnd line.1
    → script_words line.1 ≡ []
    → Follows explained past running lines (out ++ ended (comment_of line.1)) text → Follows explained past running (line ∷ lines) out text
unfolding answers_from trace_from test_from expectations_from
follows_silent explained past running line lines out text clean none left =
    let skips : is_skipped (comment_of line.1) ≡ true = silent line.1 none in
    let answers_same : answers_from (behind_line running) (line ∷ lines) ≡ answers_from (behind_line running) lines =
    ap (answer_line (behind_line running) line (λ next. answers_from next lines)) none in
    record {
      more = comment_of line.1 ∷ left.more;
      steps = left.steps;
      rows = left.rows;
      counts = left.counts;
      clean = (comment_clean line.1 clean, left.clean);
      whole = left.whole ∙ append_assoc out (ended (comment_of line.1)) (written left.more);
      small = left.small;
      read = λ n. ap steps_of (skipped n (comment_of line.1) left.more skips) ∙ left.read (n + 1);
      said = λ n. ap (map (λ (l : Line). l.1)) (skipped n (comment_of line.1) left.more skips) ∙ left.said (n + 1);
      answers = left.answers ∙ sym answers_same;
      told = answers_same ∙ left.told;
      numbers =
          ap (λ words. map (λ (l : Line). l.0) (cond (is_written words) (line ∷ written_lines lines) (written_lines lines))) none ∙ left.numbers;
      traced = λ style before.
          ap (λ words. trace_more (λ next. trace_from explained style next line.0 lines)
          (trace_line explained style (tracing_at past running) line.0 words)) none
          ∙ left.traced style line.0;
      none_skipped = λ place.
          ap (λ words. map (λ (it : Expectation). it.line)
          (expect_line explained place (behind_line running) line.0 (λ next after. expectations_from explained next after lines) words)) none
          ∙ left.none_skipped place
          ∙ ap (λ words. map (λ (l : Line). l.0) (cond (expects words) (line ∷ expecting_lines lines) (expecting_lines lines))) (sym none);
      tested = λ front count.
          ap (test_line explained (behind_line running) past line count (λ more is_past next. test_from explained more is_past next lines)) none
          ∙ left.tested front count
          ∙ (λ i. judged_by (front ++ lines_of (sym answers_same i)) count
          (ap (expect_line explained (length front) (behind_line running) line.0 (λ next after. expectations_from explained next after lines)) (sym none) i));
    }

-- ---- A line that was read

-- what is answered of it
answered : (running : Running) (line : Line) (lines : List Line) (word : List ℕ) (words : List (List ℕ)) (read : LineRead) (step : Option Plain)
    → script_words line.1 ≡ word ∷ words → read_at running (parts_of (word ∷ words)) ≡ Ok read → read.step ≡ step
    → answers_from (behind_line running) (line ∷ lines)
    ≡ step_answer running.seen step ++ answers_from (behind_line (behind running line.0 (parts_of (word ∷ words)).name step)) lines
unfolding answers_from
answered running line lines word words read step said at is =
    ap (answer_line (behind_line running) line (λ next. answers_from next lines)) said
    ∙ ap (answer_read running line.0 (word ∷ words) (λ next. answers_from next lines)) at
    ∙ ap (λ s. step_answer running.seen s ++ answers_from (behind_line (behind running line.0 (parts_of (word ∷ words)).name s)) lines) is

-- what it expects
expected : (explained : Explaining) (place : ℕ) (running : Running) (line : Line) (lines : List Line) (word : List ℕ) (words : List (List ℕ))
    (read : LineRead) (step : Option Plain)
    → script_words line.1 ≡ word ∷ words → read_at running (parts_of (word ∷ words)) ≡ Ok read → read.step ≡ step
    → expectations_from explained place (behind_line running) (line ∷ lines)
    ≡ expectation explained line.0 place running.seen step read.expected
    ++ expectations_from explained (place_behind place step) (behind_line (behind running line.0 (parts_of (word ∷ words)).name step)) lines
unfolding expectations_from
expected explained place running line lines word words read step said at is =
    ap (expect_line explained place (behind_line running) line.0 (λ next after. expectations_from explained next after lines)) said
    ∙ ap (expect_read explained place running line.0 (word ∷ words) (λ next after. expectations_from explained next after lines)) at
    ∙ ap (λ s. expectation explained line.0 place running.seen s read.expected
    ++ expectations_from explained (place_behind place s) (behind_line (behind running line.0 (parts_of (word ∷ words)).name s)) lines) is

-- is it one that says something of the scenario? The last line alone isn't
numbered_by : (running : Running) (line : Line) (lines : List Line) (word : List ℕ) (words : List (List ℕ)) (read : LineRead) (step : Option Plain)
    → script_words line.1 ≡ word ∷ words → read_at running (parts_of (word ∷ words)) ≡ Ok read → read.step ≡ step
    → written_numbers (line ∷ lines) ≡ map (λ (l : Line). l.0) (cond (not (is_none step)) (line ∷ written_lines lines) (written_lines lines))
numbered_by running line lines word words read step said at is =
    ap (λ ws. map (λ (l : Line). l.0) (cond (is_written ws) (line ∷ written_lines lines) (written_lines lines))) said
    ∙ ap (λ t. map (λ (l : Line). l.0) (cond (not t) (line ∷ written_lines lines) (written_lines lines)))
    (sym (ends_is running.known (link_of (Some running.seen)) (parts_of (word ∷ words)) read at) ∙ ap (λ s. is_none s) is)

-- where its expectation stands among all of them
stands_so : (explained : Explaining) (place : ℕ) (running : Running) (line : Line) (lines : List Line) (word : List ℕ) (words : List (List ℕ))
    (read : LineRead) (step : Option Plain)
    → script_words line.1 ≡ word ∷ words → read_at running (parts_of (word ∷ words)) ≡ Ok read → read.step ≡ step
    → map (λ (it : Expectation). it.line)
    (expectations_from explained (place_behind place step) (behind_line (behind running line.0 (parts_of (word ∷ words)).name step)) lines) ≡ expecting lines
    → map (λ (it : Expectation). it.line) (expectations_from explained place (behind_line running) (line ∷ lines)) ≡ expecting (line ∷ lines)
stands_so explained place running line lines word words read step said at is rest =
    let others = expectations_from explained (place_behind place step) (behind_line (behind running line.0 (parts_of (word ∷ words)).name step)) lines in
    ap (map (λ (it : Expectation). it.line)) (expected explained place running line lines word words read step said at is)
    ∙ expecting_so explained line.0 place line.1 running.seen step read.expected (word ∷ words) others (expecting_lines lines)
    (expects_is running.known (link_of (Some running.seen)) (word ∷ words) read at) rest
    ∙ ap (λ ws. map (λ (l : Line). l.0) (cond (expects ws) (line ∷ expecting_lines lines) (expecting_lines lines))) (sym said)

-- what a trace says of it
traced_read : (explained : Explaining) (style : Style) (running : Running) (line : Line) (lines : List Line) (before : ℕ) (word : List ℕ)
    (words : List (List ℕ)) (read : LineRead)
    (step : Option Plain)
    → script_words line.1 ≡ word ∷ words → read_at running (parts_of (word ∷ words)) ≡ Ok read → read.step ≡ step
    → trace_from explained style (tracing_at false running) before (line ∷ lines)
    ≡ trace_more (λ next. trace_from explained style next line.0 lines)
    (trace_step explained style (tracing_at false running) running line.0 (word ∷ words) step)
unfolding trace_from
traced_read explained style running line lines before word words read step said at is =
    let rest : Tracing → Said = λ next. trace_from explained style next line.0 lines in
    ap (λ ws. trace_more rest (trace_line explained style (tracing_at false running) line.0 ws)) said
    ∙ ap (λ r. trace_more rest (trace_read explained style (tracing_at false running) running line.0 (word ∷ words) r)) at
    ∙ ap (λ s. trace_more rest (trace_step explained style (tracing_at false running) running line.0 (word ∷ words) s)) is

-- what a test makes of it
tested_read : (explained : Explaining) (running : Running) (line : Line) (lines : List Line) (count : ℕ) (word : List ℕ) (words : List (List ℕ))
    (read : LineRead) (step : Option Plain)
    → script_words line.1 ≡ word ∷ words → read_at running (parts_of (word ∷ words)) ≡ Ok read → read.step ≡ step
    → test_from explained count false (behind_line running) (line ∷ lines)
    ≡ scripts.compared count line.0 (scripts.told_step step) (scripts.answer_at running.seen step) (scripts.held_at explained running.seen step)
    (λ more. test_from explained more (is_none step) (behind_line (behind running line.0 (parts_of (word ∷ words)).name step)) lines) read.expected
unfolding test_from
tested_read explained running line lines count word words read step said at is =
    let rest : ℕ → Bool → At → Said = λ more is_past next. test_from explained more is_past next lines in
    ap (test_line explained (behind_line running) false line count rest) said
    ∙ ap (test_read explained running line.0 (word ∷ words) count rest) at
    ∙ ap (λ s. scripts.compared count line.0 (scripts.told_step s) (scripts.answer_at running.seen s) (scripts.held_at explained running.seen s)
    (λ more. rest more (is_none s) (behind_line (behind running line.0 (parts_of (word ∷ words)).name s))) read.expected) is

-- ---- A step

follows_step : (explained : Explaining) (running : Running) (line : Line) (lines : List Line) (word : List ℕ) (words : List (List ℕ))
    (read : LineRead) (plain : Plain)
    (out text : List ℕ)
    → script_words line.1 ≡ word ∷ words → read_at running (parts_of (word ∷ words)) ≡ Ok read → read.step ≡ Some plain
    → Follows explained false (behind running line.0 (parts_of (word ∷ words)).name (Some plain)) lines (out ++ ended plain.text) text
    → Follows explained false running (line ∷ lines) out text
unfolding replies_of
follows_step explained running line lines word words read plain out text said at some left =
    let writes = step_is running.known (link_of (Some running.seen)) (parts_of (word ∷ words)) read plain at some in
    let line_of = step_line_read plain.text plain.step writes in
    let reply = reply_text (reply_of running.seen plain.step) in
    let row : LineRow = row_made explained line.0 plain.text (next_of running.seen plain.step) (row_of running.seen plain) in
    let after : Running = behind running line.0 (parts_of (word ∷ words)).name (Some plain) in
    let stands : (n : ℕ) → said_lines n (plain.text ∷ left.more) ≡ (n, plain.text) ∷ said_lines (n + 1) left.more =
    λ n. not_skipped n plain.text left.more (step_not_skipped plain.text plain.step line_of.1) in
    let answers_are = answered running line lines word words read (Some plain) said at some in
    record {
      more = plain.text ∷ left.more;
      steps = plain.step ∷ left.steps;
      rows = row ∷ left.rows;
      counts = left.counts;
      clean = (line_of.0, left.clean);
      whole = left.whole ∙ append_assoc out (ended plain.text) (written left.more);
      small = left.small;
      read = λ n.
          ap steps_of (stands n)
          ∙ ap (λ r. at_line n r >>= λ s. steps_of (said_lines (n + 1) left.more) >>= λ ss. Ok (s ∷ ss)) line_of.1
          ∙ ap (λ r. r >>= λ ss. Ok (plain.step ∷ ss)) (left.read (n + 1));
      said = λ n. ap (map (λ (l : Line). l.1)) (stands n) ∙ ap (λ ls. plain.text ∷ ls) (left.said (n + 1));
      answers =
          append_assoc (ended reply)
          (flat_map (λ r. ended (reply_text r)) (replies_of (next_of running.seen plain.step) left.steps))
          (ended (counts_at (run_of (next_of running.seen plain.step) left.steps)))
          ∙ ap (λ l. ended reply ++ l) left.answers
          ∙ sym answers_are;
      told =
          answers_are ∙ ap (λ l. ended reply ++ l) left.told
          ∙ sym (append_assoc (ended reply) (flat_map (λ (it : LineRow). ended it.answer) left.rows) (ended left.counts));
      numbers = numbered_by running line lines word words read (Some plain) said at some ∙ ap (λ ns. line.0 ∷ ns) left.numbers;
      traced = λ style before.
          traced_read explained style running line lines before word words read (Some plain) said at some
          ∙ (λ i. record {
            text = step_told explained style line.0 plain.text (next_of running.seen plain.step) (row_of running.seen plain) i ++
                (left.traced style line.0 i).text;
            outcome = (left.traced style line.0 i).outcome;
          })
          ∙ ap well (sym (append_assoc (line_text style row) (flat_map (λ it. line_text style it) left.rows) (last_text style.columns left.counts)));
      none_skipped = λ place. stands_so explained place running line lines word words read (Some plain) said at some (left.none_skipped (place + 1));
      tested = λ front count.
          let others = expectations_from explained (length front + 1) (behind_line after) lines in
          let behind_it = lines_of (answers_from (behind_line after) lines) in
          let report_is : lines_of (answers_from (behind_line running) (line ∷ lines)) ≡ reply ∷ behind_it =
          ap lines_of (answers_are ∙ append_assoc reply (10 ∷ []) (answers_from (behind_line after) lines))
          ∙ line_at reply (answers_from (behind_line after) lines) (reply_clean (reply_of running.seen plain.step)) in
          let next : (more : ℕ) → test_from explained more false (behind_line after) lines ≡ judged_by (front ++ reply ∷ behind_it) more others =
          λ more.
          left.tested (front ++ reply ∷ []) more
          ∙ (λ i. judged_by (append_assoc front (reply ∷ []) behind_it i) more
          (expectations_from explained (place_next front reply i) (behind_line after) lines)) in
          tested_read explained running line lines count word words read (Some plain) said at some
          ∙ judged_so explained (front ++ reply ∷ behind_it) line.0 (length front) count running.seen (Some plain) reply others
          (λ more. test_from explained more false (behind_line after) lines) read.expected (at_place front reply behind_it)
          (line_at_place front reply behind_it) next
          ∙ (λ i. judged_by (front ++ sym report_is i) count (sym (expected explained (length front) running line lines word words read
          (Some plain) said at some) i));
    }

-- ---- The last line

-- behind it no line says anything
no_answers : (known : Known) (running : Running) (lines : List Line) → faults_from known true lines ≡ []
    → answers_from (behind_line running) lines ≡ ended (counts_at running.seen)
unfolding answers_from faults_from
no_answers known running [] right = refl
no_answers known running (line ∷ lines) right = by_words (script_words line.1) refl right (no_answers known running lines)
  where
    by_words : (words : List (List ℕ)) → script_words line.1 ≡ words → faults_at known true line.0 (λ names past. faults_from names past lines) words ≡ []
        → (faults_from known true lines ≡ [] → answers_from (behind_line running) lines ≡ ended (counts_at running.seen))
        → answers_from (behind_line running) (line ∷ lines) ≡ ended (counts_at running.seen)
    by_words [] none right behind_it = ap (answer_line (behind_line running) line (λ next. answers_from next lines)) none ∙ behind_it right
    by_words (word ∷ words) said right behind_it = absurd (cc right)

follows_end : (explained : Explaining) (known : Known) (running : Running) (line : Line) (lines : List Line) (word : List ℕ) (words : List (List ℕ))
    (read : LineRead)
    (out text : List ℕ)
    → script_words line.1 ≡ word ∷ words → read_at running (parts_of (word ∷ words)) ≡ Ok read → read.step ≡ None → faults_from known true lines ≡ []
    → Follows explained true running lines (out ++ []) text
    → Follows explained false running (line ∷ lines) out text
follows_end explained known running line lines word words read out text said at none right left =
    let answers_are = answered running line lines word words read None said at none in
    record {
      more = left.more;
      steps = left.steps;
      rows = left.rows;
      counts = left.counts;
      clean = left.clean;
      whole = left.whole ∙ ap (λ l. l ++ written left.more) (append-nil out);
      small = left.small;
      read = left.read;
      said = left.said;
      answers = left.answers ∙ sym answers_are;
      told = answers_are ∙ left.told;
      numbers = numbered_by running line lines word words read None said at none ∙ left.numbers;
      traced = λ style before. traced_read explained style running line lines before word words read None said at none ∙ left.traced style line.0;
      none_skipped = λ place. stands_so explained place running line lines word words read None said at none (left.none_skipped place);
      tested = λ front count.
          let counts = counts_at running.seen in
          let others = expectations_from explained (length front) (behind_line running) lines in
          let rest = lines_of (answers_from (behind_line running) lines) in
          let rest_is : rest ≡ counts ∷ [] =
          ap lines_of (no_answers known running lines right) ∙ line_at counts [] (counts_clean running.seen) in
          let place : slice_get (front ++ rest) (length front) ≡ Some counts =
          ap (λ l. slice_get (front ++ l) (length front)) rest_is ∙ at_place front counts [] in
          let line_there : slice_index_or (front ++ rest) (length front) [] ≡ counts =
          ap (λ l. slice_index_or (front ++ l) (length front) []) rest_is ∙ line_at_place front counts [] in
          tested_read explained running line lines count word words read None said at none
          ∙ judged_so explained (front ++ rest) line.0 (length front) count running.seen None counts others
          (λ more. test_from explained more true (behind_line running) lines) read.expected
          place line_there (left.tested front)
          ∙ (λ i. judged_by (front ++ lines_of (sym answers_are i)) count
          (sym (expected explained (length front) running line lines word words read None said at none) i));
    }

-- ---- All of them

-- so for all that stands before them
abbrev pub Followed : (explained : Explaining) (past : Bool) → Known → List Line → Type 0
Followed explained past known lines =
    faults_from known past lines ≡ [] → (running : Running) (out text : List ℕ) → plain_from out (behind_line running) lines ≡ well text
    → Follows explained past running lines out text

pub follows : (explained : Explaining) (lines : List Line) → CleanLines lines → (past : Bool) (known : Known) → Followed explained past known lines
unfolding plain_from faults_from
follows explained [] clean past known right running out text is = follows_none explained past running out text is
follows explained (line ∷ lines) clean true known right running out text is = by_words (script_words line.1) refl right is
    (follows explained lines clean.1 true known)
  where
    by_words : (words : List (List ℕ)) → script_words line.1 ≡ words → faults_at known true line.0 (λ names past. faults_from names past lines) words ≡ []
        → plain_line (behind_line running) line out (λ more next. plain_from more next lines) words ≡ well text → Followed explained true known lines
        → Follows explained true running (line ∷ lines) out text
    by_words [] none right is behind_it =
        follows_silent explained true running line lines out text clean.0 none (behind_it right running (out ++ ended (comment_of line.1)) text is)
    by_words (word ∷ words) said right is behind_it = absurd (cc right)
follows explained (line ∷ lines) clean false known right running out text is = by_words (script_words line.1) refl right is (follows explained lines clean.1)
  where
    rest : List ℕ → At → Said
    rest more next = plain_from more next lines

    faults : Known → Bool → List Fault
    faults names past = faults_from names past lines

    by_step : (word : List ℕ) (words : List (List ℕ)) (read : LineRead) (step : Option Plain) → script_words line.1 ≡ word ∷ words
        → read_at running (parts_of (word ∷ words)) ≡ Ok read → read.step ≡ step
        → faults_from (noted known line.0 (parts_of (word ∷ words)).name) (is_none step) lines ≡ []
        → plain_from (out ++ step_line step) (behind_line (behind running line.0 (parts_of (word ∷ words)).name step)) lines ≡ well text
        → ((past : Bool) (names : Known) → Followed explained past names lines)
        → Follows explained false running (line ∷ lines) out text
    by_step word words read None said at none right is behind_it =
        let names = noted known line.0 (parts_of (word ∷ words)).name in
        follows_end explained names running line lines word words read out text said at none right (behind_it true names right running (out ++ []) text is)
    by_step word words read (Some plain) said at some right is behind_it =
        let names = noted known line.0 (parts_of (word ∷ words)).name in
        follows_step explained running line lines word words read plain out text said at some
        (behind_it false names right (behind running line.0 (parts_of (word ∷ words)).name (Some plain)) (out ++ ended plain.text) text is)

    by_read : (word : List ℕ) (words : List (List ℕ)) (read : Result LineRead Wrong) → script_words line.1 ≡ word ∷ words
        → read_at running (parts_of (word ∷ words)) ≡ read
        → faults_from (noted known line.0 (parts_of (word ∷ words)).name) (is_end (parts_of (word ∷ words))) lines ≡ []
        → scripts.plain_read running line.0 (word ∷ words) out rest read ≡ well text
        → ((past : Bool) (names : Known) → Followed explained past names lines)
        → Follows explained false running (line ∷ lines) out text
    by_read word words (Ok read) said at right is behind_it =
        let ends = ends_is running.known (link_of (Some running.seen)) (parts_of (word ∷ words)) read at in
        by_step word words read read.step said at refl
        (ap (λ last. faults_from (noted known line.0 (parts_of (word ∷ words)).name) last lines) ends ∙ right) is behind_it
    by_read word words (Err wrong) said at right is behind_it = absurd (never _ text is)

    by_words : (words : List (List ℕ)) → script_words line.1 ≡ words → faults_at known false line.0 faults words ≡ []
        → plain_line (behind_line running) line out rest words ≡ well text
        → ((past : Bool) (names : Known) → Followed explained past names lines)
        → Follows explained false running (line ∷ lines) out text
    by_words [] none right is behind_it =
        follows_silent explained false running line lines out text clean.0 none (behind_it false known right running (out ++ ended (comment_of line.1)) text is)
    by_words (word ∷ words) said right is behind_it =
        by_read word words (read_at running (parts_of (word ∷ words))) said refl
        (right_behind known line.0 (word ∷ words) lines (line_read known (link_of None) (parts_of (word ∷ words))) refl right) is behind_it
