-- What a line of a script that was read has: its step, whether it is the last one, the config.
use Rattle.std.proofs.Common.{◌≡◌, ◌∙◌, ap, sym, ℕ, Bool, true, false, cond, List, [], Option, Some, None}
use Rattle.std.specs.Prelude.{is_none, is_some, Result, Ok, Err}
use Rattle.sva_step.specs.declared.limits.Config.{Config}
use Rattle.sva_step.specs.declared.steps.Step.{Step}
use Rattle.sva_grammar.specs.declared.faults.Cause.{Cause}
use Rattle.sva_grammar.specs.Grammar.{◌>>=◌, step_read}
use Rattle.sva_script.specs.declared.faults.Wrong.{Wrong}
use Rattle.sva_script.specs.Expect.{expected_of}
use Rattle.sva_script.specs.Lines.{Parts, expected_begins, parts_of, step_begins}
use Rattle.sva_script.specs.Names.{Known}
use Rattle.sva_script_reading.specs.Lines.{LineRead, Plain, expected_in, is_end, line_read, named, plain_of, plain_read, resolved, step_in}
use Rattle.sva_script_reading.specs.Messages.{Link, link_of}
use Rattle.sva_script_reading.specs.Faults.{Fault}
use Rattle.sva_script_reading.specs.Begins.{Line, config_by, config_with, faults_from, faults_read, noted}
use Rattle.sva_script_reports.proofs.StepLemmas.{expected_part}
use Rattle.sva_script_laws.specs.Tests.{expects}

-- ---- A line's step

step_part : (named : Result (Unit {0}) Wrong) (step : Result (Option Plain) Wrong) (expected : Result (Option (List ℕ)) Wrong) (read : LineRead)
    → (named >>= λ _. step >>= λ s. expected >>= λ e. Ok (record { step = s; expected = e })) ≡ Ok read
    → step ≡ Ok read.step
step_part (Ok done) (Ok step) (Ok expected) read is = ap (λ (r : Result LineRead Wrong). step_kept r) is
  where
    step_kept : Result LineRead Wrong → Result (Option Plain) Wrong
    step_kept (Ok read) = Ok read.step
    step_kept (Err wrong) = Err wrong
step_part (Ok done) (Ok step) (Err wrong) read is = absurd (cc is)
step_part (Ok done) (Err wrong) expected read is = absurd (cc is)
step_part (Err wrong) step expected read is = absurd (cc is)

plain_part : (last : Bool) (resolved : Result Plain Wrong) (plain : Plain)
    → cond last (Ok None) (resolved >>= λ p. Ok (Some p)) ≡ Ok (Some plain) → resolved ≡ Ok plain
plain_part true resolved plain is = absurd (cc is)
plain_part false (Ok found) plain is = cc is
plain_part false (Err wrong) plain is = absurd (cc is)

read_part : (at : ℕ) (text : List ℕ) (read : Result Step Cause) (plain : Plain)
    → plain_read at text read ≡ Ok plain → (text ≡ plain.text) × (read ≡ Ok plain.step)
read_part at text (Ok step) plain is = (ap text_kept is, ap step_kept is)
  where
    text_kept : Result Plain Wrong → List ℕ
    text_kept (Ok plain) = plain.text
    text_kept (Err wrong) = []

    step_kept : Result Plain Wrong → Result Step Cause
    step_kept (Ok plain) = Ok plain.step
    step_kept (Err wrong) = Ok step
read_part at text (Err cause) plain is = absurd (cc is)

text_part : (at : ℕ) (text : Result (List ℕ) Wrong) (plain : Plain)
    → (text >>= λ t. plain_read at t (step_read t)) ≡ Ok plain → step_read plain.text ≡ Ok plain.step
text_part at (Ok text) plain is = let parts = read_part at text (step_read text) plain is in sym (ap step_read parts.0) ∙ parts.1
text_part at (Err wrong) plain is = absurd (cc is)

-- the line of a scenario that is written writes its step
pub step_is : (known : Known) (link : Link) (parts : Parts) (read : LineRead) (plain : Plain) → line_read known link parts ≡ Ok read → read.step ≡ Some plain
    → step_read plain.text ≡ Ok plain.step
step_is known link parts read plain is some =
    let step = step_part (named known parts.name) (step_in known link parts) (expected_in known (expected_begins parts) parts.expected) read is
    ∙ ap Ok some in
    text_part (step_begins parts) (plain_of (step_begins parts) known link parts.step) plain
    (plain_part (is_end parts) (resolved (step_begins parts) known link parts.step) plain step)

-- ---- The last line

has_none : Result (Option Plain) Wrong → Bool
has_none (Ok step) = is_none step
has_none (Err wrong) = true

ends_by : (last : Bool) (found : Result Plain Wrong) (step : Option Plain) → cond last (Ok None) (found >>= λ p. Ok (Some p)) ≡ Ok step → is_none step ≡ last
unfolding has_none
ends_by true found step is = sym (ap has_none is)
ends_by false (Ok plain) step is = sym (ap has_none is)
ends_by false (Err wrong) step is = absurd (cc is)

-- it alone has no step
pub ends_is : (known : Known) (link : Link) (parts : Parts) (read : LineRead) → line_read known link parts ≡ Ok read → is_none read.step ≡ is_end parts
ends_is known link parts read is =
    ends_by (is_end parts) (resolved (step_begins parts) known link parts.step) read.step
    (step_part (named known parts.name) (step_in known link parts) (expected_in known (expected_begins parts) parts.expected) read is)

-- so it is the last one also before it is run, and nothing is wrong behind it
pub right_behind : (known : Known) (line : ℕ) (words : List (List ℕ)) (lines : List Line) (static : Result LineRead Wrong)
    → line_read known (link_of None) (parts_of words) ≡ static
    → faults_read known line words (λ names past. faults_from names past lines) static ≡ []
    → faults_from (noted known line (parts_of words).name) (is_end (parts_of words)) lines ≡ []
right_behind known line words lines (Ok read) is right =
    ap (λ last. faults_from (noted known line (parts_of words).name) last lines) (sym (ends_is known (link_of None) (parts_of words) read is)) ∙ right
right_behind known line words lines (Err wrong) is right = absurd (cc right)

-- ---- What it expects

says_some : Result (Option (List ℕ)) Wrong → Bool
says_some (Ok expected) = is_some expected
says_some (Err wrong) = false

some_by : (known : Known) (at : ℕ) (words : Option (List (List ℕ))) (expected : Option (List ℕ)) → expected_in known at words ≡ Ok expected
    → is_some words ≡ is_some expected
unfolding says_some
some_by known at None expected is = ap says_some is
some_by known at (Some words) expected is = by_text (expected_of at known words) is
  where
    by_text : (text : Result (List ℕ) Wrong) → (text >>= λ t. Ok (Some t)) ≡ Ok expected → true ≡ is_some expected
    by_text (Ok text) is = ap says_some is
    by_text (Err wrong) is = absurd (cc is)

-- it expects something exactly where it has an arrow
pub expects_is : (known : Known) (link : Link) (words : List (List ℕ)) (read : LineRead) → line_read known link (parts_of words) ≡ Ok read
    → expects words ≡ is_some read.expected
expects_is known link words read is =
    let parts = parts_of words in
    some_by known (expected_begins parts) parts.expected read.expected
    (expected_part (named known parts.name) (step_in known link parts) (expected_in known (expected_begins parts) parts.expected) read is)

-- ---- The config

pub config_part : (line : ℕ) (words : List (List ℕ)) (lines left : List Line) (read : Result Config Cause) (config : Config)
    → config_with lines (config_by line words read) ≡ Ok (config, left) → read ≡ Ok config
config_part line words lines left (Ok found) config is = ap kept is
  where
    kept : Result (Config × List Line) Fault → Result Config Cause
    kept (Ok pair) = Ok pair.0
    kept (Err fault) = Ok config
config_part line words lines left (Err cause) config is = absurd (cc is)

pub left_part : (lines left : List Line) (config : Config) (read : Result Config Fault) → config_with lines read ≡ Ok (config, left) → lines ≡ left
left_part lines left config (Ok found) is = ap kept is
  where
    kept : Result (Config × List Line) Fault → List Line
    kept (Ok pair) = pair.1
    kept (Err fault) = lines
left_part lines left config (Err fault) is = absurd (cc is)
