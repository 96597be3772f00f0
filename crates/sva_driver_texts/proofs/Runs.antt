-- Lines, one after another.
use Rattle.std.proofs.Common.{◌≡◌, ◌∙◌, ◌<◌, ◌≤◌, ◌+◌, ap, refl, sym, ℕ, List, [], ◌∷◌, drop, get_or, length}
use Rattle.std.specs.Prelude.{Ok, Err}
use Rattle.sva_step.specs.declared.limits.Config.{Config}
use Rattle.std.proofs.lemmas.List.{drop_all, drop_more}
use Rattle.sva_script.specs.Lines.{parts_of}
use Rattle.sva_script.specs.Names.{Known}
use Rattle.sva_driver_words.specs.declared.faults.DriverWrong.{DriverWrong}
use Rattle.sva_driver_texts.specs.Bodies.{lines_seen, worded_seen}
use Rattle.sva_driver_texts.specs.declared.bodies.WordedLine.{WordedLine}
use Rattle.sva_driver_texts.specs.Readings.{Reading, behind, behind_lines, behind_words, line_by, with_fault, with_wrong_block}

-- one that was taken
pub took : (config : Config) (known : Known) (old new : Reading) (line : ℕ) (words : List (List ℕ)) → (words ≡ [] → ⊥)
    → line_by config old line words (parts_of words) ≡ Ok new → new ≡ behind_words config known old line words
took config known old new line [] some is = absurd (some refl)
took config known old new line (word ∷ words) some is = sym (ap (behind old known line (word ∷ words)) is)

-- one that says nothing
pub silent : (config : Config) (known : Known) (old : Reading) (line : ℕ) (words : List (List ℕ)) → words ≡ []
    → old ≡ behind_words config known old line words
silent config known old line words none = sym (ap (behind_words config known old line) none)

-- one that is wrong
pub told : (config : Config) (known : Known) (old mid blocked new : Reading) (line : ℕ) (words : List (List ℕ)) (wrong : DriverWrong)
    → (words ≡ [] → ⊥) → line_by config old line words (parts_of words) ≡ Err wrong → mid ≡ old
    → blocked ≡ with_wrong_block mid line (parts_of words) → new ≡ with_fault blocked known line words wrong
    → new ≡ behind_words config known old line words
told config known old mid blocked new line [] wrong some is same opens tells = absurd (some refl)
told config known old mid blocked new line (word ∷ words) wrong some is same opens tells =
    tells ∙ ap (λ read. with_fault read known line (word ∷ words) wrong)
    (opens ∙ ap (λ read. with_wrong_block read line (parts_of (word ∷ words))) same)
    ∙ sym (ap (behind old known line (word ∷ words)) is)

pub behind_next : (config : Config) (known : Known) (old new : Reading) (lines : List WordedLine) (i : ℕ) (blank : WordedLine) → i < length lines
    → new ≡ behind_words config known old (worded_seen (get_or lines i blank)).0 (worded_seen (get_or lines i blank)).1
    → behind_lines config known old (lines_seen (drop i lines)) ≡ behind_lines config known new (lines_seen (drop (i + 1) lines))
unfolding behind_lines
behind_next config known old new lines i blank inside taken =
    ap (λ l. behind_lines config known old (lines_seen l)) (drop_more lines i blank inside)
    ∙ ap (λ read. behind_lines config known read (lines_seen (drop (i + 1) lines))) (sym taken)

pub behind_end : (config : Config) (known : Known) (reading : Reading) (lines : List WordedLine) (i : ℕ) → length lines ≤ i
    → behind_lines config known reading (lines_seen (drop i lines)) ≡ reading
unfolding behind_lines
behind_end config known reading lines i past = ap (λ l. behind_lines config known reading (lines_seen l)) (drop_all i lines past)
