-- The first line that says something, line by line.
use Rattle.std.proofs.Common.{◌≡◌, ◌∙◌, ap, refl, sym, ℕ, List, [], ◌∷◌, ◌++◌}
use Rattle.std.specs.Prelude.{OnOk, Result, Ok, Err}
use Rattle.std.specs.declared.alloc.AllocError.{AllocError}
use Rattle.sva_step.specs.declared.limits.Config.{Config}
use Rattle.sva_script.specs.Lines.{script_words}
use Rattle.sva_script.specs.Names.{Known}
use Rattle.sva_script_reading.specs.Begins.{Line}
use Rattle.sva_race_texts.specs.Faults.{fault_text}
use Rattle.sva_race_texts.specs.Limits.{count_wrong, first_of, first_words, limits_text}
use Rattle.sva_race_texts.specs.declared.faults.RaceWrong.{RaceWrong}

pub first_silent : (all left : List Line) (line : Line) → all ≡ line ∷ left → script_words line.1 ≡ [] → first_words all ≡ first_words left
unfolding first_words
first_silent all left line is none = ap first_words is ∙ ap (first_of line (first_words left)) none

says : (line : Line) (later : ℕ × List (List ℕ)) (words : List (List ℕ)) → (words ≡ [] → ⊥) → first_of line later words ≡ (line.0, words)
says line later [] some = absurd (some refl)
says line later (word ∷ words) some = refl

pub first_said : (all left : List Line) (line : Line) (words : List (List ℕ)) → all ≡ line ∷ left → words ≡ script_words line.1
    → (words ≡ [] → ⊥) → first_words all ≡ (line.0, words)
unfolding first_words
first_said all left line words is same some =
    ap first_words is ∙ ap (first_of line (first_words left)) (sym same) ∙ says line (first_words left) words some

pub first_none : (all : List Line) → all ≡ [] → first_words all ≡ (0, [])
unfolding first_words
first_none all is = ap first_words is

-- what is told at that line
pub limits_told : {A : Type 0} (result : Result A AllocError) (config : Config) (all : List Line) (names : Known) (wrong : RaceWrong) (line : ℕ)
    (words : List (List ℕ)) (old mid new : List ℕ) → first_words all ≡ (line, words) → names ≡ [] → wrong ≡ count_wrong config → mid ≡ old
    → OnOk result (new ≡ mid ++ fault_text names line words wrong) → OnOk result (new ≡ old ++ limits_text config all)
limits_told (Ok done) config all names wrong line words old mid new first named is same told =
    told ∙ (λ i. same i ++ fault_text (named i) (sym first i).0 (sym first i).1 (is i))
limits_told (Err lack) config all names wrong line words old mid new first named is same told = tt
