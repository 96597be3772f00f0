-- A text that is a race: its config is within its limits, and has a line.
use Rattle.std.proofs.Common.{◌≡◌, ◌<◌, ◌^◌, ap, arith, cond, refl, subst, sym, ℕ, Bool, true, false, List}
use Rattle.std.proofs.Common.{[], ◌∷◌, codes}
use Rattle.std.specs.Prelude.{if◌then◌else◌, Result, Ok, Err}
use Rattle.std.specs.Str.{bytes_eq}
use Rattle.sva_step.specs.declared.limits.Config.{Config}
use Rattle.sva_model.specs.Claims.{Fits}
use Rattle.sva_grammar.specs.declared.faults.Cause.{Cause}
use Rattle.sva_grammar.specs.declared.faults.Cause.TheVariants.{NoConfig}
use Rattle.sva_grammar.specs.Grammar.{config_counts, config_of, config_read, has_words, is_too_large, number, word}
use Rattle.sva_grammar.specs.Grammar.{words_of}
use Rattle.sva_grammar.specs.Laws.{HasConfigLine}
use Rattle.sva_grammar.specs.Configs.{is_fit}
use Rattle.sva_script.specs.Lines.{script_words}
use Rattle.sva_script_reading.specs.Begins.{Line, config_at, config_in, joined_words, lines_from}
use Rattle.sva_script_reading.specs.Faults.{Fault}
use Rattle.sva_script_laws.proofs.StepLines.{config_part}
use Rattle.sva_script_laws.proofs.StepWords.{part}
use Rattle.sva_script_laws.proofs.Written.{config_line_read}
use Rattle.sva_race_texts.specs.Limits.{limits_text}
use Rattle.sva_race_texts.specs.Texts.{RaceRead, if_right, race_behind, race_of, race_read, read_of, right_or_said}
use Rattle.sva_race_texts.specs.Texts.{too_large}

-- ---- What was read

pub record IsRead (text : List ℕ) (read : RaceRead) : Type 0 where
  pub left : List Line
  pub found : config_in 0 (lines_from 1 text) ≡ Ok (read.config, left)
  pub fit : is_fit read.config ≡ true
  pub reading : read.reading ≡ read_of read.config (lines_from 1 text) left

abbrev race_as : RaceRead → Result RaceRead (List ℕ)
race_as read = Ok read

same_race : (first second : RaceRead) → race_as first ≡ Ok second → first ≡ second
same_race first second is = cc is

nothing_said : (first second : RaceRead) (said : List ℕ) → if_right first said ≡ Ok second → first ≡ second
nothing_said first second [] is = same_race first second is
nothing_said first second (byte ∷ said) is = absurd (cc is)

by_fit : (text : List ℕ) (read : RaceRead) (config : Config) (left : List Line) (fit : Bool)
    → config_in 0 (lines_from 1 text) ≡ Ok (config, left)
    → is_fit config ≡ fit
    → (if fit then right_or_said (race_read config (lines_from 1 text) left) else Err (limits_text config (lines_from 1 text))) ≡ Ok read → IsRead text read
by_fit text read config left false found fit is = absurd (cc is)
by_fit text read config left true found fit is =
    let same = nothing_said (race_read config (lines_from 1 text) left) read (race_read config (lines_from 1 text) left).reading.said is in
    subst (IsRead text) same (record { left = left; found = found; fit = fit; reading = refl })

by_config : (text : List ℕ) (read : RaceRead) (found : Result (Config × List Line) Fault)
    → config_in 0 (lines_from 1 text) ≡ found
    → race_behind (lines_from 1 text) found ≡ Ok read → IsRead text read
by_config text read (Err fault) found is = absurd (cc is)
by_config text read (Ok (config, left)) found is = by_fit text read config left (is_fit config) found refl is

pub race_is_read : (text : List ℕ) (read : RaceRead) → race_of text ≡ Ok read → IsRead text read
race_is_read text read is = by_size (is_too_large text) is
  where
    by_size : (large : Bool)
        → (if large then Err too_large else race_behind (lines_from 1 text) (config_in 0 (lines_from 1 text))) ≡ Ok read
        → IsRead text read
    by_size true is = absurd (cc is)
    by_size false is = by_config text read (config_in 0 (lines_from 1 text)) refl is

-- ---- The config

-- what a config's line numbers begins at 0
words_zero : (words : List (List ℕ)) (config : Config) → config_counts words ≡ Ok config → config.first ≡ 0
unfolding config_counts
words_zero words config is =
    let count = part (has_words 4 words) _ config is in
    let first = part (number (word 1 words)) _ config count.2 in
    let second = part (number (word 2 words)) _ config first.2 in
    let third = part (number (word 3 words)) _ config second.2 in
    sym (ap first_kept third.2)
  where
    first_kept : Result Config Cause → ℕ
    first_kept (Ok found) = found.first
    first_kept (Err cause) = 0

config_zero : (words : List (List ℕ)) (config : Config) → config_of words ≡ Ok config → config.first ≡ 0
unfolding config_of
config_zero words config is = by_name (bytes_eq (word 0 words) (codes "config")) is
  where
    by_name : (named : Bool) → cond named (config_counts words) (Err NoConfig) ≡ Ok config → config.first ≡ 0
    by_name true is = words_zero words config is
    by_name false is = absurd (cc is)

pub found_zero : (before : ℕ) (lines : List Line) (config : Config) (left : List Line)
    → config_in before lines ≡ Ok (config, left) → config.first ≡ 0
unfolding config_in
found_zero before [] config left is = absurd (cc is)
found_zero before (line ∷ lines) config left is = by_words (script_words line.1) is (found_zero line.0 lines config left)
  where
    by_words : (words : List (List ℕ)) → config_at line lines (config_in line.0 lines) words ≡ Ok (config, left)
        → (config_in line.0 lines ≡ Ok (config, left) → config.first ≡ 0) → config.first ≡ 0
    by_words [] is rest = rest is
    by_words (first ∷ words) is rest =
        let text = joined_words (first ∷ words) in
        let read = config_part line.0 (first ∷ words) lines left (config_read text) config is in
        config_zero (words_of text) config (config_line_read text config read).1

pub config_has : (config : Config) → Fits config → config.first ≡ 0 → HasConfigLine config
config_has config fits zero =
    let endpoints = fits.most_endpoints in
    let frames = fits.most_frames in
    let workers = fits.most_workers in
    let few_endpoints : config.endpoints < 2 ^ 64 = omega (arith, endpoints) in
    let few_frames : config.frames < 2 ^ 64 = omega (arith, frames) in
    let few_workers : config.workers < 2 ^ 64 = omega (arith, workers) in
    (few_endpoints, few_frames, few_workers, zero)
