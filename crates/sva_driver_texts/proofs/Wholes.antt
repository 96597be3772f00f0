-- A whole text, by what its parts are read as.
use Rattle.std.proofs.Common.{◌≡◌, ◌∙◌, ◌+◌, ap, refl, sym, subst, ℕ, List, [], ◌∷◌, ◌++◌, Bool, true, false, cond, length}
use Rattle.std.specs.Prelude.{IfOk, Option, Some, None, Result, Ok, Err}
use Rattle.std.specs.declared.alloc.AllocError.{AllocError}
use Rattle.sva_step.specs.declared.limits.Config.{Config}
use Rattle.sva_grammar.specs.Grammar.{is_too_large}
use Rattle.sva_grammar.specs.Configs.{is_fit}
use Rattle.sva_script_reading.specs.Begins.{Line, config_in, lines_from}
use Rattle.sva_script_reading.specs.Faults.{Fault}
use Rattle.sva_script_reading.specs.Faults as scripts
use Rattle.sva_script_reading.specs.Reading.{HasConfig}
use Rattle.sva_race_texts.specs.Limits.{limits_text}
use Rattle.sva_driver_texts.specs.declared.kept.Read.{Read}
use Rattle.sva_driver_texts.specs.Texts.{IsRead, DriverRead, ReadsText, if_right, driver_behind, driver_of, driver_read, driver_with, driver_written}
use Rattle.sva_driver_texts.specs.Texts.{right_or_said}
use Rattle.sva_driver_texts.specs.WrittenOut.{Worded, written_out}
use Rattle.sva_driver_texts.specs.Texts.{too_large}
use Rattle.sva_race_texts.specs.Texts.{names_from}
use Rattle.sva_driver_texts.specs.Readings.{Reading, behind_all, nothing}
use Rattle.sva_script.specs.Names.{Known}

-- ---- A driver is one where nothing is said of its lines

by_said : (read : DriverRead) (said new : List ℕ) → (said ≡ [] → ⊥) → new ≡ said → ReadsText (if_right read said) None new
by_said read [] new some is = absurd (some refl)
by_said read (byte ∷ said) new some is = is

pub said_wrong : (read : DriverRead) (out new : List ℕ) → (read.reading.said ≡ [] → ⊥) → out ≡ [] → new ≡ out ++ read.reading.said
    → ReadsText (right_or_said read) None new
said_wrong read out new some none is = by_said read read.reading.said new some (is ∙ ap (λ l. l ++ read.reading.said) none)

pub said_right : (read : DriverRead) (kept : Read) (out : List ℕ) → read.reading.said ≡ [] → IsRead read kept → out ≡ []
    → ReadsText (right_or_said read) (Some kept) out
said_right read kept out right is none = subst (λ said. ReadsText (if_right read said) (Some kept) out) (sym right) (is, none)

-- ---- A config with the lines behind it

abbrev by_fit : Config → (all lines : List Line) → Bool → Result DriverRead (List ℕ)
by_fit config all lines b = cond b (driver_written config all (written_out lines)) (Err (limits_text config all))

pub with_unfit : (config : Config) (all lines : List Line) (out new : List ℕ) → out ≡ [] → is_fit config ≡ false
    → new ≡ out ++ limits_text config all → ReadsText (driver_with config all lines) None new
with_unfit config all lines out new none unfit is =
    subst (λ b. ReadsText (by_fit config all lines b) None new) (sym unfit) (is ∙ ap (λ l. l ++ limits_text config all) none)

pub with_fit : (config : Config) (all lines : List Line) (found : Option Read) (new : List ℕ) → is_fit config ≡ true
    → ReadsText (driver_written config all (written_out lines)) found new → ReadsText (driver_with config all lines) found new
with_fit config all lines found new fit reads = subst (λ b. ReadsText (by_fit config all lines b) found new) (sym fit) reads

-- its lines are written out, or what is wrong with them is said
pub with_wrong : (config : Config) (all : List Line) (written : Result (List Worded) (List ℕ)) (new : List ℕ) → written ≡ Err new
    → ReadsText (driver_written config all written) None new
with_wrong config all written new wrong = subst (λ it. ReadsText (driver_written config all it) None new) (sym wrong) refl

pub with_right : (config : Config) (all : List Line) (written : Result (List Worded) (List ℕ)) (lines : List Worded) (read : DriverRead)
    (found : Option Read) (new : List ℕ) → written ≡ Ok lines → read ≡ driver_read config all lines → ReadsText (right_or_said read) found new
    → ReadsText (driver_written config all written) found new
with_right config all written lines read found new right is reads =
    subst (λ it. ReadsText (driver_written config all it) found new) (sym right)
    (subst (λ read. ReadsText (right_or_said read) found new) is reads)

-- what was read, call by call
pub driver_is : (config : Config) (all : List Line) (lines : List Worded) (names : Known) (next : ℕ) (first last : Reading) → names ≡ names_from [] all
    → next ≡ length all + 1 → first ≡ nothing config → last ≡ behind_all config names first lines
    → record { config = config; known = names; next = next; reading = last } ≡ driver_read config all lines
driver_is config all lines names next first last named counted start is = λ i. record {
  config = config;
  known = named i;
  next = counted i;
  reading = (is ∙ (λ j. behind_all config (named j) (start j) lines)) i;
}

-- ---- The whole

by_size : (text : List ℕ) (found : Option Read) (out : List ℕ) → is_too_large text ≡ false
    → ReadsText (driver_behind (lines_from 1 text) (config_in 0 (lines_from 1 text))) found out → ReadsText (driver_of text) found out
by_size text found out small reads =
    subst (λ b. ReadsText (cond b (Err too_large) (driver_behind (lines_from 1 text) (config_in 0 (lines_from 1 text)))) found out) (sym small) reads

pub whole_large : (text out new : List ℕ) → is_too_large text ≡ true → out ≡ [] → new ≡ out ++ too_large → ReadsText (driver_of text) None new
whole_large text out new large none is =
    subst (λ b. ReadsText (cond b (Err too_large) (driver_behind (lines_from 1 text) (config_in 0 (lines_from 1 text)))) None new) (sym large)
    (is ∙ ap (λ l. l ++ too_large) none)

-- what is wrong with the config
no_config : (all : List Line) (begin : Result (Config × List Line) Fault) (left : List Line) (out new : List ℕ) → out ≡ []
    → HasConfig begin None left out new → ReadsText (driver_behind all begin) None new
no_config all (Ok both) left out new none has = absurd has
no_config all (Err fault) left out new none has = has ∙ ap (λ l. l ++ scripts.fault_text fault) none

pub whole_unread : (text : List ℕ) (begin : Result (Config × List Line) Fault) (left : List Line) (out new : List ℕ) → is_too_large text ≡ false
    → begin ≡ config_in 0 (lines_from 1 text) → out ≡ [] → HasConfig begin None left out new → ReadsText (driver_of text) None new
whole_unread text begin left out new small same none has =
    by_size text None new small
    (subst (λ begin. ReadsText (driver_behind (lines_from 1 text) begin) None new) same (no_config (lines_from 1 text) begin left out new none has))

-- the lines behind the config are read
behind_config : (all : List Line) (begin : Result (Config × List Line) Fault) (config : Config) (left : List Line) (out mid new : List ℕ)
    (found : Option Read) → HasConfig begin (Some config) left out mid → ReadsText (driver_with config all left) found new
    → ReadsText (driver_behind all begin) found new
behind_config all (Err fault) config left out mid new found has reads = absurd has
behind_config all (Ok both) config left out mid new found has reads =
    subst (λ read. ReadsText read found new) (λ i. driver_with (has.0 i) all (has.1 i)) reads

pub whole_read : (text : List ℕ) (all : List Line) (begin : Result (Config × List Line) Fault) (config : Config) (left : List Line)
    (out mid new : List ℕ) (result : Result (Option Read) AllocError) → is_too_large text ≡ false → all ≡ lines_from 1 text
    → begin ≡ config_in 0 (lines_from 1 text) → HasConfig begin (Some config) left out mid
    → IfOk result (λ found. ReadsText (driver_with config all left) found new) → IfOk result (λ found. ReadsText (driver_of text) found new)
whole_read text all begin config left out mid new (Ok found) small is same has reads =
    by_size text found new small
    (subst (λ begin. ReadsText (driver_behind (lines_from 1 text) begin) found new) same
    (subst (λ lines. ReadsText (driver_behind lines begin) found new) is (behind_config all begin config left out mid new found has reads)))
whole_read text all begin config left out mid new (Err lack) small is same has reads = tt
