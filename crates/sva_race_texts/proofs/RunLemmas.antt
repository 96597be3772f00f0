-- Lines, one after another.
use Rattle.std.proofs.Common.{◌≡◌, ◌∙◌, ◌+◌, ap, refl, sym, ℕ, Bool, true, false, List, [], ◌∷◌, ◌++◌, append-nil, append_assoc, cond}
use Rattle.std.proofs.Common.{Option, arith, length}
use Rattle.std.specs.Prelude.{Ok, Err}
use Rattle.sva_step.specs.declared.limits.Config.{Config}
use Rattle.sva_script.specs.Lines.{Parts, parts_of, script_words}
use Rattle.sva_script.specs.Names.{Known}
use Rattle.sva_script_reading.specs.Begins.{Line, faults_at, faults_from, noted}
use Rattle.sva_script_reading.specs.Reading.{ReadsLine}
use Rattle.sva_script_reading.specs.Said.{faults_text}
use Rattle.sva_script_reading.proofs.FaultLemmas.{faults_both}
use Rattle.sva_script_reading.specs.Lines.{is_end}
use Rattle.sva_script.specs.declared.faults.Wanted.TheVariants as script
use Rattle.sva_race_texts.specs.declared.faults.RaceWanted.TheVariants as wanted
use Rattle.sva_race_texts.specs.declared.faults.RaceWrong.{RaceWrong}
use Rattle.sva_race_texts.specs.Readings.{Reading, with_fault}
use Rattle.sva_race_texts.specs.Texts.{before_race, behind, behind_race, behind_words, from_race, is_race, line_before, lines_before, names_from}
use Rattle.sva_race_texts.specs.Texts.{race_judged, race_line, with_before, with_script}
use Rattle.sva_race_texts.specs.Threads.{with_line}

-- ---- Names

pub names_next : (known next : Known) (now left : List Line) (line : Line) (name : Option (List ℕ)) → now ≡ line ∷ left
    → name ≡ (parts_of (script_words line.1)).name → next ≡ noted known line.0 name → names_from known now ≡ names_from next left
unfolding names_from
names_next known next now left line name is named notes =
    ap (names_from known) is ∙ ap (λ n. names_from (noted known line.0 n) left) (sym named) ∙ ap (λ k. names_from k left) (sym notes)

pub names_end : (known : Known) (now : List Line) → now ≡ [] → names_from known now ≡ known
unfolding names_from
names_end known now is = ap (names_from known) is

-- ---- A line behind `race`

-- one that was taken
pub took : (config : Config) (known : Known) (old new : Reading) (line : ℕ) (words : List (List ℕ)) → (words ≡ [] → ⊥)
    → race_line config known old line words (parts_of words) ≡ Ok new → new ≡ behind_words config known old line words
took config known old new line [] some is = absurd (some refl)
took config known old new line (word ∷ words) some is = sym (ap (behind old known line (word ∷ words)) is)

-- one that says nothing
pub silent : (config : Config) (known : Known) (old : Reading) (line : ℕ) (words : List (List ℕ)) → words ≡ []
    → old ≡ behind_words config known old line words
silent config known old line words none = sym (ap (behind_words config known old line) none)

-- one that is wrong
pub told : (config : Config) (known : Known) (old mid new : Reading) (line : ℕ) (words : List (List ℕ)) (wrong : RaceWrong) → (words ≡ [] → ⊥)
    → race_line config known old line words (parts_of words) ≡ Err wrong → mid ≡ old → new ≡ with_fault mid known line words wrong
    → new ≡ behind_words config known old line words
told config known old mid new line [] wrong some is same tells = absurd (some refl)
told config known old mid new line (word ∷ words) wrong some is same tells =
    tells ∙ ap (λ read. with_fault read known line (word ∷ words) wrong) same ∙ sym (ap (behind old known line (word ∷ words)) is)

-- words behind `race` itself
pub race_alone : (reading : Reading) (known : Known) (line : ℕ) (words : List (List ℕ)) → length words ≡ 1
    → reading ≡ race_judged reading known line words
race_alone reading known line [] one = absurd (omega (arith, one))
race_alone reading known line (race ∷ []) one = refl
race_alone reading known line (race ∷ word ∷ words) one = absurd (omega (arith, one))

pub race_more : (reading : Reading) (known : Known) (line : ℕ) (words : List (List ℕ)) → (length words ≡ 1 → ⊥)
    → race_judged reading known line words
    ≡ with_fault reading known line words (record { at = 1; wanted = wanted.Script script.NoMore })
race_more reading known line [] other = refl
race_more reading known line (race ∷ []) other = absurd (other refl)
race_more reading known line (race ∷ word ∷ words) other = refl

-- ---- Behind `race`

pub behind_next : (config : Config) (known : Known) (old new : Reading) (now left : List Line) (line : Line) (words : List (List ℕ))
    → now ≡ line ∷ left → words ≡ script_words line.1 → new ≡ behind_words config known old line.0 words
    → behind_race config known old now ≡ behind_race config known new left
unfolding behind_race
behind_next config known old new now left line words is same taken =
    ap (behind_race config known old) is
    ∙ ap (λ ws. behind_race config known (behind_words config known old line.0 ws) left) (sym same)
    ∙ ap (λ read. behind_race config known read left) (sym taken)

pub behind_end : (config : Config) (known : Known) (reading : Reading) (now : List Line) → now ≡ []
    → behind_race config known reading now ≡ reading
unfolding behind_race
behind_end config known reading now is = ap (behind_race config known reading) is

-- ---- Up to `race`

step_by : (config : Config) (known : Known) (reading : Reading) (line : Line) (left : List Line) (words : List (List ℕ))
    → words ≡ script_words line.1 → (before : ℕ)
    → from_race config known reading before (line ∷ left)
    ≡ cond (is_race words) (behind_race config known (race_judged reading known line.0 words) left)
    (from_race config known reading line.0 left)
unfolding from_race
step_by config known reading line left words same before =
    ap (λ ws. cond (is_race ws) (behind_race config known (race_judged reading known line.0 ws) left)
    (from_race config known reading line.0 left)) (sym same)

pub race_passed : (config : Config) (known : Known) (reading : Reading) (before : ℕ) (now left : List Line) (line : Line) (words : List (List ℕ))
    → now ≡ line ∷ left → words ≡ script_words line.1 → is_race words ≡ false
    → from_race config known reading before now ≡ from_race config known reading line.0 left
race_passed config known reading before now left line words is same other =
    ap (from_race config known reading before) is ∙ step_by config known reading line left words same before
    ∙ ap (λ b. cond b (behind_race config known (race_judged reading known line.0 words) left)
    (from_race config known reading line.0 left)) other

pub race_met : (config : Config) (known : Known) (reading mid : Reading) (before : ℕ) (now left : List Line) (line : Line) (words : List (List ℕ))
    → now ≡ line ∷ left → words ≡ script_words line.1 → is_race words ≡ true → mid ≡ race_judged reading known line.0 words
    → from_race config known reading before now ≡ behind_race config known mid left
race_met config known reading mid before now left line words is same it judged =
    ap (from_race config known reading before) is ∙ step_by config known reading line left words same before
    ∙ ap (λ b. cond b (behind_race config known (race_judged reading known line.0 words) left)
    (from_race config known reading line.0 left)) it
    ∙ ap (λ read. behind_race config known read left) (sym judged)

pub race_missing : (config : Config) (known : Known) (reading : Reading) (before number : ℕ) (now : List Line) → now ≡ [] → number ≡ before + 1
    → from_race config known reading before now
    ≡ with_fault reading known number [] (record { at = 0; wanted = wanted.Race })
unfolding from_race
race_missing config known reading before number now is next =
    ap (from_race config known reading before) is
    ∙ ap (λ n. with_fault reading known n [] (record { at = 0; wanted = wanted.Race })) (sym next)

-- ---- Before `race`

-- a line that says something
pub before_some : (reading : Reading) (line : ℕ) (words : List (List ℕ)) → (words ≡ [] → ⊥)
    → with_before reading line (parts_of words) ≡ line_before reading line words
before_some reading line [] some = absurd (some refl)
before_some reading line (word ∷ words) some = refl

pub before_none : (reading : Reading) (line : ℕ) (words : List (List ℕ)) → words ≡ [] → reading ≡ line_before reading line words
before_none reading line words none = sym (ap (line_before reading line) none)

-- what was read, and what is read of the lines that are left, is what is read of all
abbrev pub saying : Reading → List ℕ → Reading
saying reading text = record reading { said = text }

abbrev pub CompletesScript : (names : Known) (is_past : Bool) (reading first : Reading) (left all : List Line) → Type 0
CompletesScript names is_past reading first left all =
    lines_before (saying reading (reading.said ++ faults_text (faults_from names is_past (before_race left)))) (before_race left)
    ≡ with_script first (before_race all)

-- a line that is added, and what is said, don't meet
said_apart : (reading : Reading) (line : ℕ) (words : List (List ℕ)) (text : List ℕ)
    → line_before (saying reading text) line words ≡ saying (line_before reading line words) text
said_apart reading line [] text = refl
said_apart reading line (word ∷ words) text = by_end (is_end (parts_of (word ∷ words)))
  where
    parts : Parts
    parts = parts_of (word ∷ words)

    by_end : (b : Bool) → cond b (saying reading text) (with_line (saying reading text) line parts.name false parts.step [])
        ≡ saying (cond b reading (with_line reading line parts.name false parts.step [])) text
    by_end true = refl
    by_end false = refl

said_kept : (reading : Reading) (line : ℕ) (words : List (List ℕ)) → (line_before reading line words).said ≡ reading.said
said_kept reading line words = ap (λ read. read.said) (said_apart reading line words reading.said)

before_on : (line : Line) (left : List Line) (words : List (List ℕ)) → words ≡ script_words line.1 → is_race words ≡ false
    → before_race (line ∷ left) ≡ line ∷ before_race left
unfolding before_race
before_on line left words same other =
    ap (λ ws. cond (is_race ws) [] (line ∷ before_race left)) (sym same) ∙ ap (λ b. cond b [] (line ∷ before_race left)) other

before_stop : (line : Line) (left : List Line) (words : List (List ℕ)) → words ≡ script_words line.1 → is_race words ≡ true
    → before_race (line ∷ left) ≡ []
unfolding before_race
before_stop line left words same it =
    ap (λ ws. cond (is_race ws) [] (line ∷ before_race left)) (sym same) ∙ ap (λ b. cond b [] (line ∷ before_race left)) it

-- nothing more is read where no line is left
none_left : (names : Known) (is_past : Bool) (reading : Reading) (left : List Line) → left ≡ []
    → lines_before (saying reading (reading.said ++ faults_text (faults_from names is_past left))) left ≡ reading
unfolding lines_before faults_from
none_left names is_past reading left is =
    ap (λ lines. lines_before (saying reading (reading.said ++ faults_text (faults_from names is_past lines))) lines) is
    ∙ ap (saying reading) (append-nil reading.said)

pub script_met : (names : Known) (is_past : Bool) (reading first : Reading) (now left all : List Line) (line : Line) (words : List (List ℕ))
    → CompletesScript names is_past reading first now all → now ≡ line ∷ left → words ≡ script_words line.1 → is_race words ≡ true
    → reading ≡ with_script first (before_race all)
script_met names is_past reading first now left all line words so_far is same it =
    sym (none_left names is_past reading (before_race now) (ap before_race is ∙ before_stop line left words same it)) ∙ so_far

pub script_end : (names : Known) (is_past : Bool) (reading first : Reading) (now all : List Line)
    → CompletesScript names is_past reading first now all → now ≡ [] → reading ≡ with_script first (before_race all)
unfolding before_race
script_end names is_past reading first now all so_far is =
    sym (none_left names is_past reading (before_race now) (ap before_race is)) ∙ so_far

-- a line: it is added, and what is wrong with it told
pub script_next : (names next : Known) (is_past ended : Bool) (reading mid new first : Reading) (now left all : List Line) (line : Line)
    (words : List (List ℕ))
    → CompletesScript names is_past reading first now all → now ≡ line ∷ left → words ≡ script_words line.1 → is_race words ≡ false
    → mid ≡ line_before reading line.0 words → ReadsLine names is_past line.0 words next ended mid.said new.said
    → new ≡ saying mid new.said
    → CompletesScript next ended new first left all
unfolding lines_before faults_from
script_next names next is_past ended reading mid new first now left all line words so_far is same other added reads only =
    let before = before_race left in
    let found = reads.0 in
    let rest = faults_from next ended before in
    let told : faults_from names is_past (line ∷ before) ≡ found ++ rest =
    ap (faults_at names is_past line.0 (λ known past. faults_from known past before)) (sym same)
    ∙ reads.1 (λ known past. faults_from known past before) in
    let text : new.said ++ faults_text rest ≡ reading.said ++ faults_text (faults_from names is_past (line ∷ before)) =
    ap (λ l. l ++ faults_text rest) (reads.2 ∙ ap (λ l. l ++ faults_text found) (ap (λ read. read.said) added ∙ said_kept reading line.0 words))
    ∙ append_assoc reading.said (faults_text found) (faults_text rest)
    ∙ ap (λ l. reading.said ++ l) (sym (faults_both found rest) ∙ ap faults_text (sym told)) in
    let all_said = reading.said ++ faults_text (faults_from names is_past (line ∷ before)) in
    ap (λ read. lines_before (saying read (new.said ++ faults_text rest)) before) (only ∙ ap (λ read. saying read new.said) added)
    ∙ ap (λ l. lines_before (saying (line_before reading line.0 words) l) before) text
    ∙ ap (λ read. lines_before read before) (sym (said_apart reading line.0 words all_said))
    ∙ ap (λ ws. lines_before (line_before (saying reading all_said) line.0 ws) before) same
    ∙ sym (ap (λ lines. lines_before (saying reading (reading.said ++ faults_text (faults_from names is_past lines))) lines)
    (ap before_race is ∙ before_on line left words same other))
    ∙ so_far
