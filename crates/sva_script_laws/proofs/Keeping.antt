-- A scenario that a replay takes is its own plain scenario.
use Rattle.std.proofs.Common.{◌≡◌, ◌∙◌, ap, append-nil, append_assoc, cond, refl, sym, ℕ, ◌+◌, Bool, true, false, List, [], ◌∷◌, ◌++◌, codes, length}
use Rattle.std.proofs.Common.{Some, None}
use Rattle.std.specs.Prelude.{Result, Ok, Err}
use Rattle.std.specs.List.{enumerate_from}
use Rattle.sva_step.specs.declared.limits.Config.{Config}
use Rattle.sva_step.specs.declared.refusals.Refusal.TheVariants.{BadConfig}
use Rattle.sva_step.specs.declared.steps.Step.{Step}
use Rattle.sva_step.specs.Refusals.{refusal_text}
use Rattle.sva_model.specs.State.PasidRule.{PerSpace}
use Rattle.sva_model.specs.State.{opened}
use Rattle.sva_labels.specs.Host.{first_wire}
use Rattle.sva_grammar.specs.declared.faults.Cause.{Cause}
use Rattle.sva_grammar.specs.declared.faults.Cause.TheVariants.{TooLarge}
use Rattle.sva_grammar.specs.declared.faults.LineFault.{LineFault}
use Rattle.sva_grammar.specs.Grammar.{◌>>=◌, Script, at_line, config_of, config_read, fault, is_skipped, is_too_large, lines_of, said_lines, scenario_of}
use Rattle.sva_grammar.specs.Grammar.{script_of, step_of, steps_of, words_of}
use Rattle.sva_reports.specs.Report.{report_by, report_of, script_report, steps_report}
use Rattle.sva_grammar.specs.Configs.{is_fit}
use Rattle.sva_grammar.specs.Replies.{ended}
use Rattle.sva_script.specs.Lines.{parts_of}
use Rattle.sva_script.specs.Names.{Known}
use Rattle.sva_script_reading.specs.Messages.{link_of}
use Rattle.sva_script_runs.specs.Runs.{Running, behind}
use Rattle.sva_script_reading.specs.Faults.{Fault}
use Rattle.sva_script_reading.specs.Said.{Said, bad, well}
use Rattle.sva_script_reading.specs.Begins.{Line, begin_of, begun, config_at, config_by, config_in, config_with, faults_at, faults_from, faults_read}
use Rattle.sva_script_reading.specs.Begins.{if_right, noted, lines_from, said_by, too_large}
use Rattle.sva_script_reports.specs.Lines.{behind_line}
use Rattle.sva_script_reports.specs.Scripts as scripts
use Rattle.sva_script_reports.specs.Scripts.{At, comment_of, if_small, plain_from, plain_line, plain_of, start}
use Rattle.sva_script_laws.specs.Plains.{PlainsAreSame, PlainsStay, ScenariosArePlain, UnfitIsTold, whole}
use Rattle.sva_script_laws.proofs.Beginning.{runs}
use Rattle.sva_script_laws.proofs.Following.{small_by}
use Rattle.sva_script_laws.proofs.Judging.{never}
use Rattle.sva_script_laws.proofs.KeptLines.{config_line_is, step_line_is}
use Rattle.sva_script_laws.proofs.LineTexts.{lines_whole, skipped_silent}
use Rattle.sva_script_laws.proofs.Replaying.{begins_all, lines_are, read_whole, unexplained}
use Rattle.sva_script_laws.proofs.Written.{Clean, comment_kept, lines_clean, lines_written, not_skipped, skipped, written}

-- ---- What was read in parts

pub both : {A B : Type 0} (read : Result A LineFault) (next : A → Result B LineFault) (value : B) → (read >>= next) ≡ Ok value
    → (found : A) × (read ≡ Ok found) × (next found ≡ Ok value)
both (Ok found) next value is = (found, refl, is)
both (Err wrong) next value is = absurd (cc is)

pub one : {A : Type 0} (line : ℕ) (read : Result A Cause) (value : A) → at_line line read ≡ Ok value → read ≡ Ok value
one line (Ok found) value is = cc is
one line (Err cause) value is = absurd (cc is)

-- ---- The lines behind the config

-- nothing is wrong with them, and each is written as it is
pub record Kept (n : ℕ) (lines : List (List ℕ)) : Type 0 where
  pub right : (known : Known) → faults_from known false (enumerate_from n lines) ≡ []
  pub writes : (running : Running) (out : List ℕ) → plain_from out (behind_line running) (enumerate_from n lines) ≡ if_small (out ++ written lines)

kept_none : (n : ℕ) → Kept n []
unfolding plain_from faults_from
kept_none n = record { right = λ known. refl; writes = λ running out. ap if_small (sym (append-nil out)) }

-- one that says nothing
kept_silent : (n : ℕ) (line : List ℕ) (lines : List (List ℕ)) → is_skipped line ≡ true → Kept (n + 1) lines → Kept n (line ∷ lines)
unfolding plain_from faults_from
kept_silent n line lines skips left =
    let none = skipped_silent line skips in
    record {
      right = λ known. ap (faults_at known false n (λ names past. faults_from names past (enumerate_from (n + 1) lines))) none ∙ left.right known;
      writes = λ running out.
          ap (plain_line (behind_line running) (n, line) out (λ text next. plain_from text next (enumerate_from (n + 1) lines))) none
          ∙ ap (λ text. plain_from (out ++ ended text) (behind_line running) (enumerate_from (n + 1) lines)) (comment_kept line skips)
          ∙ left.writes running (out ++ ended line)
          ∙ ap if_small (append_assoc out (ended line) (written lines));
    }

-- a step's
kept_step : (n : ℕ) (line : List ℕ) (lines : List (List ℕ)) (step : Step) → Clean (line ∷ lines) → step_of (words_of line) ≡ Ok step → Kept (n + 1) lines
    → Kept n (line ∷ lines)
unfolding plain_from faults_from
kept_step n line lines step clean reads left =
    let own = step_line_is line step clean.0 reads in
    let words = own.first ∷ own.words in
    let faults : Known → Bool → List Fault = λ names past. faults_from names past (enumerate_from (n + 1) lines) in
    let rest : List ℕ → At → Said = λ text next. plain_from text next (enumerate_from (n + 1) lines) in
    record {
      right = λ known.
          ap (faults_at known false n faults) own.said
          ∙ ap (faults_read known n words faults) (own.reads known (link_of None))
          ∙ left.right (noted known n (parts_of words).name);
      writes = λ running out.
          ap (plain_line (behind_line running) (n, line) out rest) own.said
          ∙ ap (scripts.plain_read running n words out rest) (own.reads running.known (link_of (Some running.seen)))
          ∙ left.writes (behind running n (parts_of words).name (Some (record { text = line; step = step }))) (out ++ ended line)
          ∙ ap if_small (append_assoc out (ended line) (written lines));
    }

kept : (n : ℕ) (lines : List (List ℕ)) (steps : List Step) → Clean lines → steps_of (said_lines n lines) ≡ Ok steps → Kept n lines
kept n [] steps clean read = kept_none n
kept n (line ∷ lines) steps clean read = by_skip (is_skipped line) refl (λ ss. kept (n + 1) lines ss clean.1)
  where
    by_skip : (skips : Bool) → is_skipped line ≡ skips → ((ss : List Step) → steps_of (said_lines (n + 1) lines) ≡ Ok ss → Kept (n + 1) lines)
        → Kept n (line ∷ lines)
    by_skip true skips more = kept_silent n line lines skips (more steps (sym (ap steps_of (skipped n line lines skips)) ∙ read))
    by_skip false says more =
        let first = both (at_line n (step_of (words_of line))) (λ s. steps_of (said_lines (n + 1) lines) >>= λ ss. Ok (s ∷ ss)) steps
        (sym (ap steps_of (not_skipped n line lines says)) ∙ read) in
        let others = both (steps_of (said_lines (n + 1) lines)) (λ ss. Ok (first.0 ∷ ss)) steps first.2 in
        kept_step n line lines first.0 clean (one n (step_of (words_of line)) first.0 first.1) (more others.0 others.1)

-- ---- All lines

-- the config is found, nothing is wrong behind it, and each line is written as it is
pub record KeptAll (before n : ℕ) (lines : List (List ℕ)) (config : Config) : Type 0 where
  pub left : List Line
  pub found : config_in before (enumerate_from n lines) ≡ Ok (config, left)
  pub right : faults_from [] false left ≡ []
  pub writes : (out : List ℕ) → plain_from out (start config) (enumerate_from n lines) ≡ if_small (out ++ written lines)

all_silent : (before n : ℕ) (line : List ℕ) (lines : List (List ℕ)) (config : Config) → is_skipped line ≡ true → KeptAll n (n + 1) lines config
    → KeptAll before n (line ∷ lines) config
unfolding plain_from config_in
all_silent before n line lines config skips rest =
    let none = skipped_silent line skips in
    record {
      left = rest.left;
      found = ap (config_at (n, line) (enumerate_from (n + 1) lines) (config_in n (enumerate_from (n + 1) lines))) none ∙ rest.found;
      right = rest.right;
      writes = λ out.
          ap (plain_line (start config) (n, line) out (λ text next. plain_from text next (enumerate_from (n + 1) lines))) none
          ∙ ap (λ text. plain_from (out ++ ended text) (start config) (enumerate_from (n + 1) lines)) (comment_kept line skips)
          ∙ rest.writes (out ++ ended line)
          ∙ ap if_small (append_assoc out (ended line) (written lines));
    }

all_from : (before n : ℕ) (line : List ℕ) (lines : List (List ℕ)) (config : Config) → Clean (line ∷ lines) → config_of (words_of line) ≡ Ok config
    → Kept (n + 1) lines → KeptAll before n (line ∷ lines) config
unfolding plain_from config_in
all_from before n line lines config clean reads rest =
    let own = config_line_is line config clean.0 reads in
    let words = own.first ∷ own.words in
    let after = enumerate_from (n + 1) lines in
    record {
      left = after;
      found =
          ap (config_at (n, line) after (config_in n after)) own.said
          ∙ ap (λ text. config_with after (config_by n words (config_read text))) own.joined
          ∙ ap (λ read. config_with after (config_by n words read)) own.reads;
      right = rest.right [];
      writes = λ out.
          ap (plain_line (start config) (n, line) out (λ text next. plain_from text next after)) own.said
          ∙ ap (λ text. plain_from (out ++ ended text) (behind_line (record { seen = first_wire config; known = [] })) after) own.joined
          ∙ rest.writes (record { seen = first_wire config; known = [] }) (out ++ ended line)
          ∙ ap if_small (append_assoc out (ended line) (written lines));
    }

abbrev read_so : Config → List Step → Result Script LineFault
read_so config steps = Ok (record { config = config; steps = steps })

config_same : (script : Script) (config : Config) (steps : List Step) → read_so config steps ≡ Ok script → config ≡ script.config
config_same script config steps is = ap kept_config is
  where
    kept_config : Result Script LineFault → Config
    kept_config (Ok found) = found.config
    kept_config (Err wrong) = config

kept_all : (before n count : ℕ) (lines : List (List ℕ)) (script : Script) → Clean lines → script_of count (said_lines n lines) ≡ Ok script
    → KeptAll before n lines script.config
kept_all before n count [] script clean read = absurd (cc read)
kept_all before n count (line ∷ lines) script clean read = by_skip (is_skipped line) refl (kept_all n (n + 1) count lines script clean.1)
  where
    by_skip : (skips : Bool) → is_skipped line ≡ skips
        → (script_of count (said_lines (n + 1) lines) ≡ Ok script → KeptAll n (n + 1) lines script.config)
        → KeptAll before n (line ∷ lines) script.config
    by_skip true skips more =
        all_silent before n line lines script.config skips (more (sym (ap (script_of count) (skipped n line lines skips)) ∙ read))
    by_skip false says more =
        let first = both (at_line n (config_of (words_of line)))
        (λ c. steps_of (said_lines (n + 1) lines) >>= λ steps. Ok (record { config = c; steps = steps })) script
        (sym (ap (script_of count) (not_skipped n line lines says)) ∙ read) in
        let others = both (steps_of (said_lines (n + 1) lines)) (λ steps. Ok (record { config = first.0; steps = steps })) script first.2 in
        let config_is = config_same script first.0 others.0 others.2 in
        all_from before n line lines script.config clean (one n (config_of (words_of line)) first.0 first.1 ∙ ap Ok config_is)
        (kept (n + 1) lines others.0 clean.1 others.1)

-- ---- The whole

pub small_read : (large : Bool) (read : Result Script LineFault) (script : Script) → cond large (fault 0 TooLarge) read ≡ Ok script
    → (large ≡ false) × (read ≡ Ok script)
small_read true read script is = absurd (cc is)
small_read false read script is = (refl, is)

pub record Scenario (text : List ℕ) (script : Script) : Type 0 where
  pub small : is_too_large text ≡ false
  pub read : script_of (length (lines_of text)) (said_lines 1 (lines_of text)) ≡ Ok script
  pub begin : begin_of text ≡ Ok script.config
  pub writes : plain_from [] (start script.config) (lines_from 1 text) ≡ if_small (whole text)

scenario_is : (text : List ℕ) (script : Script) → scenario_of text ≡ Ok script → Scenario text script
unfolding scenario_of
scenario_is text script is =
    let parts = small_read (is_too_large text) (script_of (length (lines_of text)) (said_lines 1 (lines_of text))) script is in
    let all = kept_all 0 1 (length (lines_of text)) (lines_of text) script (lines_clean text) parts.1 in
    record {
      small = parts.0;
      read = parts.1;
      begin =
          ap (λ t. cond t (Err too_large) (begun (config_in 0 (lines_from 1 text)))) parts.0
          ∙ ap begun all.found ∙ ap (if_right script.config) all.right;
      writes = all.writes [] ∙ ap if_small (lines_whole text);
    }

pub scenarios_are_plain : ScenariosArePlain
scenarios_are_plain text script is fit =
    let own = scenario_is text script is in
    let run : Config → Said = λ config. plain_from [] (start config) (lines_from 1 text) in
    ap (said_by run) own.begin ∙ ap (λ t. cond t (run script.config) (bad (ended (refusal_text BadConfig)))) fit ∙ own.writes

unfit_report : (script : Script) → is_fit script.config ≡ false → script_report script ≡ ended (refusal_text BadConfig)
unfolding script_report
unfit_report script unfit = ap (λ t. cond t (steps_report (opened PerSpace script.config) script.steps) (ended (refusal_text BadConfig))) unfit

pub unfit_is_told : UnfitIsTold
unfit_is_told text script is unfit =
    let own = scenario_is text script is in
    let run : Config → Said = λ config. plain_from [] (start config) (lines_from 1 text) in
    ap (said_by run) own.begin
    ∙ ap (λ t. cond t (run script.config) (bad (ended (refusal_text BadConfig)))) unfit
    ∙ ap bad (sym (ap report_by is ∙ unfit_report script unfit))

same_scenario : (text plain : List ℕ) (script : Script) → Scenario text script → plain ≡ whole text → is_too_large plain ≡ false
    → scenario_of plain ≡ Ok script
unfolding scenario_of
same_scenario text plain script own is small =
    let lines_same : lines_of plain ≡ lines_of text =
    ap lines_of (is ∙ sym (lines_whole text)) ∙ lines_written (lines_of text) (lines_clean text) in
    ap (λ t. cond t (fault 0 TooLarge) (script_of (length (lines_of plain)) (said_lines 1 (lines_of plain)))) small
    ∙ ap (λ lines. script_of (length lines) (said_lines 1 lines)) lines_same
    ∙ own.read

pub plains_are_same : PlainsAreSame
plains_are_same text plain script is given = by_fit (is_fit script.config) refl
  where
    by_fit : (fit : Bool) → is_fit script.config ≡ fit → (scenario_of plain ≡ Ok script) × (report_of plain ≡ report_of text)
    by_fit false unfit = absurd (never _ plain (sym (unfit_is_told text script is unfit) ∙ given))
    by_fit true fit =
        let end = small_by (whole text) plain (is_too_large (whole text)) refl (sym (scenarios_are_plain text script is fit) ∙ given) in
        let same = same_scenario text plain script (scenario_is text script is) end.0 end.1 in
        (same, ap report_by (same ∙ sym is))

pub plains_stay : PlainsStay
plains_stay text plain is =
    let run = runs text plain is in
    let all = begins_all unexplained text plain run in
    let lines = lines_from 1 text in
    let ended_so : whole plain ≡ plain =
    sym (lines_whole plain) ∙ ap written (lines_are unexplained run.config lines plain all) ∙ sym all.whole in
    scenarios_are_plain plain (record { config = run.config; steps = all.steps }) (read_whole unexplained run.config lines plain all) run.fit
    ∙ ap if_small ended_so
    ∙ ap (λ t. cond t (bad (ended (codes "line 0: the scenario has more than 1048576 bytes or 65536 lines"))) (well plain)) all.small
