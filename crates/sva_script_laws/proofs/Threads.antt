-- The names of threads of a race that was read have no byte that ends a line.
use Rattle.std.proofs.Common.{cond, refl, ℕ, ◌+◌, not, Bool, true, false, List, [], ◌∷◌, ◌++◌, codes, drop, length}
use Rattle.std.proofs.Common.{Option, Some, None, IfSome}
use Rattle.std.specs.Prelude.{if◌then◌else◌, is_some, nat_lt, slice_index_or, slice_set, Result, Ok, Err}
use Rattle.std.specs.Str.{bytes_eq}
use Rattle.sva_step.specs.declared.limits.Config.{Config}
use Rattle.sva_grammar.specs.Grammar.{◌>>=◌}
use Rattle.sva_script.specs.Lines.{Parts, parts_of, script_words, step_begins}
use Rattle.sva_script.specs.Names.{Known, is_name}
use Rattle.sva_script_reading.specs.Begins.{Line, faults_from}
use Rattle.sva_script_reading.specs.Said.{faults_text}
use Rattle.sva_script_reading.specs.Lines.{is_end}
use Rattle.sva_script_laws.proofs.Following.{CleanLines}
use Rattle.sva_script_laws.proofs.Written.{Clean}
use Rattle.sva_script_reports.specs.Traces.{NoEnd}
use Rattle.sva_race_texts.specs.declared.terms.claims.Claiming.{Claiming}
use Rattle.sva_race_texts.specs.declared.faults.RaceWanted.{RaceWanted}
use Rattle.sva_race_texts.specs.declared.faults.RaceWrong.{RaceWrong}
use Rattle.sva_race_texts.specs.Faults.{wrong_at, no_more}
use Rattle.sva_race_texts.specs.Words.{word_at}
use Rattle.sva_race_texts.specs.Conditions.{begins_claim, claiming_of, claims_at, condition_of, is_of_ends}
use Rattle.sva_race_texts.specs.Steps.{endpoint_in, named, step_judged}
use Rattle.sva_race_texts.specs.Claims.{claim_by, with_claim, with_literals}
use Rattle.sva_race_texts.specs.Devices.{device_of}
use Rattle.sva_race_texts.specs.Readings.{Reading, nothing}
use Rattle.sva_race_texts.specs.Texts.{before_race, behind, behind_race, behind_words, from_race, is_misspelt}
use Rattle.sva_race_texts.specs.Texts.{is_of_thread, is_race, line_before, lines_before}
use Rattle.sva_race_texts.specs.Texts.{nameless, names_from, other_line, race_judged, race_line, read_of, script_of}
use Rattle.sva_race_texts.specs.Threads.{device_at, device_line, heading_line, is_try, line_of, thread_line, thread_of}
use Rattle.sva_race_texts.specs.Threads.{tries, unanswered, verdicts_of}
use Rattle.sva_race_texts.specs.Threads.{with_line, workers_line}
use Rattle.sva_script_laws.proofs.ThreadNames.{drop_clean, line_words, parts_clean, thread_clean, word_clean}
use Rattle.sva_script_laws.proofs.Writing.{clean_both}

-- ---- What was read so far

abbrev pub AreClean : Reading → Type 0
AreClean reading = IfSome reading.heading (λ name. NoEnd name) × Clean reading.threads

-- what a line is read as
CleanIf : Result Reading RaceWrong → Type 0
CleanIf (Ok reading) = AreClean reading
CleanIf (Err wrong) = Unit {0}

right : (reading : Reading) → AreClean reading → CleanIf (Ok reading)
unfolding CleanIf
right reading clean = clean

wrong : (at : ℕ) (wanted : RaceWanted) → CleanIf (wrong_at at wanted)
unfolding CleanIf
wrong at wanted = tt

either : (test : Bool) (first second : Result Reading RaceWrong) → CleanIf first → CleanIf second
    → CleanIf (cond test first second)
either true first second one other = one
either false first second one other = other

after : {A : Type 0} (read : Result A RaceWrong) (next : A → Result Reading RaceWrong)
    → ((value : A) → CleanIf (next value)) → CleanIf (read >>= next)
unfolding CleanIf
after (Ok value) next each = each value
after (Err fault) next each = tt

-- a line more
with_clean : (reading : Reading) (number : ℕ) (name : Option (List ℕ)) (tried : Bool) (step : List (List ℕ))
    (thread : List ℕ) → AreClean reading → NoEnd thread
    → AreClean (with_line reading number name tried step thread)
with_clean reading number name tried step thread clean own = (clean.0, clean_both reading.threads (thread ∷ []) clean.1 (own, tt))

-- ---- A line behind `race`

claim_clean : (config : Config) (known : Known) (reading : Reading) (line : ℕ) (words : List (List ℕ)) (at : ℕ)
    (claiming : Option Claiming) → AreClean reading
    → CleanIf (claim_by config known reading line words at claiming)
claim_clean config known reading line words at None clean = wrong at _
claim_clean config known reading line words at (Some claiming) clean =
    after (condition_of config known reading.lines (at + 1) (drop (at + 1) words)) _
    (λ condition. right (with_literals config known (with_claim reading words claiming condition) line (is_of_ends words)
    (drop (at + 1) words)) clean)

line_clean : (known : Known) (reading : Reading) (line : ℕ) (parts : Parts) → Clean parts.step → AreClean reading
    → CleanIf (thread_line known reading line parts)
line_clean known reading line parts words clean =
    let step = drop (tries parts.step) parts.step in
    after (named known line parts.name) _ (λ a.
    after (step_judged (step_begins parts + tries parts.step) known step) _ (λ b.
    after (unanswered parts) _ (λ c.
    right (line_of reading line parts.name (is_try parts.step) step)
    (with_clean reading line parts.name (is_try parts.step) step (thread_of reading step) clean
    (thread_clean reading.heading step clean.0 (drop_clean (tries parts.step) parts.step words))))))

heading_clean : (reading : Reading) (words : List (List ℕ)) → Clean words → AreClean reading
    → CleanIf (heading_line reading words)
heading_clean reading words all clean =
    either (not (is_name (word_at 1 words))) _ _ (wrong 1 _)
    (after (no_more 0 2 words) _ (λ done. right (record reading { heading = Some (word_at 1 words) }) (word_clean 1 words all, clean.1)))

workers_clean : (reading : Reading) (words : List (List ℕ)) → AreClean reading → CleanIf (workers_line reading words)
workers_clean reading words clean =
    either (is_some reading.verdicts) _ _ (wrong 0 _)
    (after (verdicts_of words) _ (λ verdicts. right (record reading { verdicts = Some verdicts }) clean))

at_clean : (reading : Reading) (words : List (List ℕ)) (endpoint : ℕ) → AreClean reading
    → CleanIf (device_at reading words endpoint)
at_clean reading words endpoint clean =
    either (is_some (slice_index_or reading.devices endpoint None)) _ _ (wrong 1 _)
    (after (device_of words) _ (λ device. right (record reading { devices = slice_set reading.devices endpoint (Some device) }) clean))

device_clean : (endpoints : ℕ) (reading : Reading) (words : List (List ℕ)) → AreClean reading
    → CleanIf (device_line endpoints reading words)
device_clean endpoints reading words clean =
    after (endpoint_in endpoints 1 (word_at 1 words)) (device_at reading words) (λ endpoint. at_clean reading words endpoint clean)

other_clean : (config : Config) (reading : Reading) (words : List (List ℕ)) → Clean words → AreClean reading
    → CleanIf (other_line config reading words)
other_clean config reading words all clean =
    either (bytes_eq (word_at 0 words) (codes "thread")) _ _ (heading_clean reading words all clean)
    (either (bytes_eq (word_at 0 words) (codes "workers")) _ _ (workers_clean reading words clean)
    (either (bytes_eq (word_at 0 words) (codes "device")) _ _ (device_clean config.endpoints reading words clean)
    (wrong 0 _)))

race_clean : (config : Config) (known : Known) (reading : Reading) (line : ℕ) (words : List (List ℕ)) (parts : Parts)
    → Clean words → Clean parts.step
    → AreClean reading → CleanIf (race_line config known reading line words parts)
race_clean config known reading line words parts all step clean =
    either (begins_claim (word_at 0 parts.step)) _ _
    (after (nameless parts.name) _ (λ done.
    claim_clean config known reading line words (claims_at words) (claiming_of (word_at (claims_at words) words)) clean))
    (either (nat_lt 0 (length reading.claims)) _ _ (wrong (step_begins parts) _)
    (either (is_of_thread parts.step) _ _ (line_clean known reading line parts step clean)
    (either (is_misspelt parts) _ _ (wrong (step_begins parts) _)
    (after (nameless parts.name) _ (λ done. other_clean config reading words all clean)))))

read_clean : (reading : Reading) (known : Known) (line : ℕ) (words : List (List ℕ)) (read : Result Reading RaceWrong)
    → AreClean reading → CleanIf read
    → AreClean (behind reading known line words read)
unfolding CleanIf
read_clean reading known line words (Ok found) clean is = is
read_clean reading known line words (Err fault) clean is = clean

words_clean : (config : Config) (known : Known) (reading : Reading) (line : ℕ) (words : List (List ℕ)) → Clean words
    → AreClean reading
    → AreClean (behind_words config known reading line words)
words_clean config known reading line [] all clean = clean
words_clean config known reading line (word ∷ words) all clean =
    read_clean reading known line (word ∷ words) (race_line config known reading line (word ∷ words) (parts_of (word ∷ words))) clean
    (race_clean config known reading line (word ∷ words) (parts_of (word ∷ words)) all (parts_clean (word ∷ words) all) clean)

lines_clean : (config : Config) (known : Known) (reading : Reading) (lines : List Line) → CleanLines lines
    → AreClean reading
    → AreClean (behind_race config known reading lines)
unfolding behind_race
lines_clean config known reading [] all clean = clean
lines_clean config known reading (line ∷ lines) all clean =
    lines_clean config known (behind_words config known reading line.0 (script_words line.1)) lines all.1
    (words_clean config known reading line.0 (script_words line.1) (line_words line.1 all.0) clean)

-- ---- The lines before `race`

end_clean : (is_last : Bool) (reading : Reading) (line : ℕ) (parts : Parts) → AreClean reading
    → AreClean (if is_last then reading else with_line reading line parts.name false parts.step [])
end_clean true reading line parts clean = clean
end_clean false reading line parts clean = with_clean reading line parts.name false parts.step [] clean refl

one_before : (reading : Reading) (line : ℕ) (words : List (List ℕ)) → AreClean reading
    → AreClean (line_before reading line words)
one_before reading line [] clean = clean
one_before reading line (word ∷ words) clean = end_clean (is_end (parts_of (word ∷ words))) reading line (parts_of (word ∷ words)) clean

all_before : (reading : Reading) (lines : List Line) → AreClean reading → AreClean (lines_before reading lines)
unfolding lines_before
all_before reading [] clean = clean
all_before reading (line ∷ lines) clean =
    all_before (line_before reading line.0 (script_words line.1)) lines (one_before reading line.0 (script_words line.1) clean)

-- ---- The whole

judged_clean : (reading : Reading) (known : Known) (line : ℕ) (words : List (List ℕ)) → AreClean reading
    → AreClean (race_judged reading known line words)
judged_clean reading known line [] clean = clean
judged_clean reading known line (race ∷ []) clean = clean
judged_clean reading known line (race ∷ word ∷ words) clean = clean

from_clean : (config : Config) (reading : Reading) (known : Known) (before : ℕ) (lines : List Line) → CleanLines lines
    → AreClean reading
    → AreClean (from_race config known reading before lines)
unfolding from_race
from_clean config reading known before [] all clean = clean
from_clean config reading known before (line ∷ lines) all clean =
    by_race (is_race (script_words line.1)) (from_clean config reading known line.0 lines all.1 clean)
  where
    by_race : (race : Bool) → AreClean (from_race config known reading line.0 lines)
        → AreClean (if race then behind_race config known (race_judged reading known line.0 (script_words line.1)) lines
        else from_race config known reading line.0 lines)
    by_race true rest =
        lines_clean config known (race_judged reading known line.0 (script_words line.1)) lines all.1
        (judged_clean reading known line.0 (script_words line.1) clean)
    by_race false rest = rest

pub reading_clean : (config : Config) (all lines : List Line) → CleanLines all → AreClean (read_of config all lines)
reading_clean config all lines clean =
    from_clean config (script_of config lines) (names_from [] all) 0 all clean
    (all_before (record (nothing config) { said = [] ++ faults_text (faults_from [] false (before_race lines)) }) (before_race lines) (tt, tt))
