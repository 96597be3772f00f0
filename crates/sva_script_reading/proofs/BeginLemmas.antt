-- A script before it is run: its config, and what is wrong with its lines.
use Rattle.std.proofs.Common.{◌≡◌, ◌∙◌, ap, refl, subst, sym, ℕ, ◌+◌, Bool, true, false, List, [], ◌∷◌, ◌++◌, append-nil, append_assoc}
use Rattle.std.proofs.Common.{arith, eqb, length, map, suc, Option, Some, None}
use Rattle.std.proofs.lemmas.Bool.Decides.{nat_tests}
use denote.Ref.{Bor}
use Rattle.std.specs.Prelude.{IfOk, Result, Ok, Err}
use Rattle.std.specs.declared.alloc.AllocError.{AllocError}
use Rattle.sva_step.specs.declared.limits.Config.{Config}
use Rattle.std.specs.List.{enumerate_from}
use Rattle.sva_grammar.specs.Grammar.{config_read, is_too_large, lines_of}
use Rattle.sva_grammar.specs.Replies.{ended}
use Rattle.sva_script.specs.declared.faults.Wanted.TheVariants as wanted
use Rattle.sva_script.specs.Lines.{script_words}
use Rattle.sva_script.specs.Names.{Known}
use Rattle.sva_script_reading.specs.Faults.{Fault, fault_text}
use Rattle.sva_script_reading.specs.Said.{faults_text}
use Rattle.sva_script_reading.specs.Reading.{BeginsWith, HasConfig, ReadsConfig, ReadsLine}
use Rattle.sva_script_reading.specs.Begins.{Line, at_word, begin_of, begun, config_at, config_by, config_in, config_with, fault_of, faults_at}
use Rattle.sva_script_reading.specs.Begins.{config_alone, faults_from, first_config, if_right, joined_words, lines_from}
use Rattle.sva_script_reading.proofs.FaultLemmas.{faults_both, none_bad}

-- ---- The config

pub config_silent : (before : ℕ) (all left : List Line) (line : Line) → all ≡ line ∷ left → script_words line.1 ≡ []
    → config_in before all ≡ config_in line.0 left
unfolding config_in
config_silent before all left line is none = ap (config_in before) is ∙ ap (config_at line left (config_in line.0 left)) none

says : (line : Line) (lines : List Line) (later : Result (Config × List Line) Fault) (words : List (List ℕ)) → (words ≡ [] → ⊥)
    → config_at line lines later words ≡ config_with lines (config_by line.0 words (config_read (joined_words words)))
says line lines later [] some = absurd (some refl)
says line lines later (word ∷ words) some = refl

pub config_said : (before : ℕ) (all left : List Line) (line : Line) (words : List (List ℕ)) → all ≡ line ∷ left → words ≡ script_words line.1
    → (words ≡ [] → ⊥)
    → config_in before all ≡ config_with left (config_by line.0 words (config_read (joined_words words)))
unfolding config_in
config_said before all left line words is same some =
    ap (config_in before) is ∙ ap (config_at line left (config_in line.0 left)) (sym same) ∙ says line left (config_in line.0 left) words some

pub config_none : (before : ℕ) (all : List Line) → all ≡ [] → config_in before all ≡ Err (fault_of [] (before + 1) [] (at_word 0 wanted.Config))
unfolding config_in
config_none before all is = ap (config_in before) is

pub has_config : (read : Result Config Fault) (found : Option Config) (left : List Line) (old new : List ℕ) → ReadsConfig read found old new
    → HasConfig (config_with left read) found left old new
has_config (Ok config) (Some found) left old new reads = (reads.0, refl, reads.1)
has_config (Ok config) None left old new reads = absurd reads
has_config (Err fault) (Some found) left old new reads = absurd reads
has_config (Err fault) None left old new reads = reads

pub config_found : (start before : ℕ) (all now left : List Line) (line : Line) (words : List (List ℕ)) (old new : List ℕ)
    (result : Result (Option Config) AllocError) → config_in start all ≡ config_in before now → now ≡ line ∷ left → words ≡ script_words line.1
    → (words ≡ [] → ⊥) → IfOk result (λ found. ReadsConfig (config_by line.0 words (config_read (joined_words words))) found old new)
    → IfOk result (λ found. HasConfig (config_in start all) found left old new)
config_found start before all now left line words old new (Ok found) so_far is same some reads =
    subst (λ begin. HasConfig begin found left old new) (sym (so_far ∙ config_said before now left line words is same some))
    (has_config (config_by line.0 words (config_read (joined_words words))) found left old new reads)
config_found start before all now left line words old new (Err lack) so_far is same some reads = tt

pub config_missing : (start before number : ℕ) (all now left : List Line) (known : Known) (old new : List ℕ) → config_in start all ≡ config_in before now
    → now ≡ [] → number ≡ before + 1 → new ≡ old ++ fault_text (fault_of known number [] (at_word 0 wanted.Config))
    → HasConfig (config_in start all) None left old new
config_missing start before number all now left known old new so_far none is told =
    subst (λ begin. HasConfig begin None left old new) (sym (so_far ∙ config_none before now none))
    (told ∙ ap (λ n. old ++ fault_text (fault_of [] n [] (at_word 0 wanted.Config))) is)

-- ---- The lines

-- what was said, and what is said of those that are left, is said of all
abbrev pub Completes : (names first : Known) (is_past : Bool) (left all : List Line) (out start : List ℕ) → Type 0
Completes names first is_past left all out start = out ++ faults_text (faults_from names is_past left) ≡ start ++ faults_text (faults_from first false all)

pub past : (names : Known) (line : ℕ) (rest : Known → Bool → List Fault) (words : List (List ℕ)) → (words ≡ [] → ⊥)
    → faults_at names true line rest words ≡ fault_of names line words (at_word 0 wanted.NoLine) ∷ rest names true
past names line rest [] some = absurd (some refl)
past names line rest (word ∷ words) some = refl

-- a line with these faults
more : (out mid text : List ℕ) (found rest : List Fault) → mid ≡ out ++ faults_text found → text ≡ faults_text (found ++ rest)
    → mid ++ faults_text rest ≡ out ++ text
more out mid text found rest is same =
    ap (λ l. l ++ faults_text rest) is ∙ append_assoc out (faults_text found) (faults_text rest) ∙ ap (λ l. out ++ l) (sym (faults_both found rest) ∙ sym same)

-- a line
pub completes_line : (names next first : Known) (is_past ended : Bool) (now left all : List Line) (line : Line) (words : List (List ℕ)) (out mid start : List ℕ)
    → Completes names first is_past now all out start → now ≡ line ∷ left → words ≡ script_words line.1
    → ReadsLine names is_past line.0 words next ended out mid
    → Completes next first ended left all mid start
unfolding faults_from
completes_line names next first is_past ended now left all line words out mid start so_far is same reads =
    more out mid (faults_text (faults_from names is_past now)) reads.0 (faults_from next ended left) reads.2
    (ap faults_text (ap (faults_from names is_past) is ∙ ap (faults_at names is_past line.0 (λ known past. faults_from known past left)) (sym same)
    ∙ reads.1 (λ known past. faults_from known past left)))
    ∙ so_far

-- none is left
pub completed : (names first : Known) (is_past : Bool) (now all : List Line) (out start : List ℕ) → Completes names first is_past now all out start
    → now ≡ [] → out ≡ start ++ faults_text (faults_from first false all)
unfolding faults_from
completed names first is_past now all out start so_far is =
    sym (append-nil out) ∙ ap (λ lines. out ++ faults_text (faults_from names is_past lines)) (sym is) ∙ so_far

-- ---- The whole

-- the config is wrong
pub begins_fault : (text : List ℕ) (begin : Result (Config × List Line) Fault) (left : List Line) (old new : List ℕ)
    → is_too_large text ≡ false → begin ≡ config_in 0 (lines_from 1 text) → old ≡ [] → HasConfig begin None left old new
    → BeginsWith (begin_of text) None new
begins_fault text (Ok found) left old new small is none has = absurd has
begins_fault text (Err fault) left old new small is none has =
    rw small (subst (λ begin. BeginsWith (begun begin) None new) is (refl, has ∙ ap (λ l. l ++ fault_text fault) none ∙ sym (append-nil (fault_text fault))))

by_faults : (config : Config) (faults : List Fault) (out : List ℕ) → out ≡ faults_text faults → (out ≡ [] → ⊥) → BeginsWith (if_right config faults) None out
by_faults config [] out told some = absurd (some told)
by_faults config (fault ∷ faults) out told some = (refl, told)

-- the lines are right, or some aren't
pub begins_right : (text : List ℕ) (begin : Result (Config × List Line) Fault) (config : Config) (left : List Line) (old mid new : List ℕ)
    → is_too_large text ≡ false → begin ≡ config_in 0 (lines_from 1 text) → old ≡ [] → HasConfig begin (Some config) left old mid
    → new ≡ mid ++ faults_text (faults_from [] false left) → new ≡ []
    → BeginsWith (begin_of text) (Some config) new
begins_right text (Err fault) config left old mid new small is none has told empty = absurd has
begins_right text (Ok found) config left old mid new small is none has told empty =
    let all : faults_text (faults_from [] false left) ≡ [] = sym (ap (λ l. l ++ faults_text (faults_from [] false left)) (has.2 ∙ none)) ∙ sym told ∙ empty in
    let right : faults_from [] false found.1 ≡ [] = ap (faults_from [] false) (sym has.1) ∙ none_bad (faults_from [] false left) all in
    rw small (subst (λ begin. BeginsWith (begun begin) (Some config) new) is
    (subst (λ wrong. BeginsWith (if_right found.0 wrong) (Some config) new) (sym right) (has.0, empty)))

pub begins_wrong : (text : List ℕ) (begin : Result (Config × List Line) Fault) (config : Config) (left : List Line) (old mid new : List ℕ)
    → is_too_large text ≡ false → begin ≡ config_in 0 (lines_from 1 text) → old ≡ [] → HasConfig begin (Some config) left old mid
    → new ≡ mid ++ faults_text (faults_from [] false left) → (new ≡ [] → ⊥)
    → BeginsWith (begin_of text) None new
begins_wrong text (Err fault) config left old mid new small is none has told some = absurd has
begins_wrong text (Ok found) config left old mid new small is none has told some =
    let all : new ≡ faults_text (faults_from [] false left) = told ∙ ap (λ l. l ++ faults_text (faults_from [] false left)) (has.2 ∙ none) in
    rw small (subst (λ begin. BeginsWith (begun begin) None new) is
    (by_faults found.0 (faults_from [] false found.1) new (all ∙ ap (λ lines. faults_text (faults_from [] false lines)) has.1) some))

-- the config alone
alone : (text : List ℕ) (begin : Result (Config × List Line) Fault) (left : List Line) (old new : List ℕ) (found : Option Config)
    → is_too_large text ≡ false → begin ≡ config_in 0 (lines_from 1 text) → old ≡ [] → HasConfig begin found left old new
    → BeginsWith (first_config text) found new
alone text (Ok both) left old new (Some config) small is none has =
    rw small (subst (λ begin. BeginsWith (config_alone begin) (Some config) new) is (has.0, has.2 ∙ none))
alone text (Err fault) left old new None small is none has =
    rw small (subst (λ begin. BeginsWith (config_alone begin) None new) is
    (refl, has ∙ ap (λ l. l ++ fault_text fault) none ∙ sym (append-nil (fault_text fault))))
alone text (Ok both) left old new None small is none has = absurd has
alone text (Err fault) left old new (Some config) small is none has = absurd has

pub config_begins : (text : List ℕ) (begin : Result (Config × List Line) Fault) (left : List Line) (old new : List ℕ)
    (result : Result (Option Config) AllocError) → is_too_large text ≡ false → begin ≡ config_in 0 (lines_from 1 text) → old ≡ []
    → IfOk result (λ found. HasConfig begin found left old new) → IfOk result (λ found. BeginsWith (first_config text) found new)
config_begins text begin left old new (Ok found) small is none has = alone text begin left old new found small is none has
config_begins text begin left old new (Err lack) small is none has = tt

-- ---- Words as they are lent

pub some_words : (words : List (Bor (List ℕ))) → eqb (length words) 0 ≡ false → map {A = Bor (List ℕ)} {B = List ℕ} (λ word. word.now) words ≡ [] → ⊥
some_words [] some none = cc some
some_words (word ∷ words) some none = cc none

pub no_words : (words : List (Bor (List ℕ))) → eqb (length words) 0 ≡ true → map {A = Bor (List ℕ)} {B = List ℕ} (λ word. word.now) words ≡ []
no_words [] none = refl
no_words (word ∷ words) none = let zero : suc (length words) ≡ 0 = grind (arith, nat_tests) in absurd (omega (arith, zero))

-- no line is left
pub no_lines : (number : ℕ) (text : List ℕ) → lines_of text ≡ [] → lines_from number text ≡ []
no_lines number text none = ap (enumerate_from number) none
