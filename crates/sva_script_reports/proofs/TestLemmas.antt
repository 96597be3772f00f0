-- The test of a script, line by line.
use Rattle.std.proofs.Common.{◌≡◌, ◌∙◌, ◌+◌, ap, subst, sym, ℕ, Bool, List, [], ◌∷◌, ◌++◌}
use Rattle.std.specs.Prelude.{Ok}
use Rattle.sva_streams.specs.declared.streams.Outcome.TheVariants.{Faulted}
use Rattle.sva_snapshot.specs.Explaining.{Explaining}
use Rattle.sva_script.specs.Lines.{script_words}
use Rattle.sva_script_reports.specs.declared.testing.Compared.TheVariants.{Differs, NotExpected, Same}
use Rattle.sva_script_reports.specs.Lines.{ComparesWords}
use Rattle.sva_script_reading.specs.Said.{IsSaid, Said, well}
use Rattle.sva_script_reading.specs.Begins.{Line}
use Rattle.sva_script_reports.specs.Scripts.{At, test_from, test_line, verdict_text}

-- what follows a line
follows : (explained : Explaining) (count : ℕ) (past : Bool) (before : At) (all left : List Line) (line : Line) (words : List (List ℕ)) → all
    ≡ line ∷ left → words ≡ script_words line.1
    → test_from explained count past before all ≡ test_line explained before past (line.0, line.1) count
    (λ more past next. test_from explained more past next left) words
unfolding test_from
follows explained count past before all left line words is same =
    ap (test_from explained count past before) is ∙ ap (test_line explained before past line count
    (λ more past next. test_from explained more past next left)) (sym same)

-- an answer that is as expected
pub test_same : (explained : Explaining) (whole : Said) (was_past is_past : Bool) (before after : At) (line : Line) (words : List (List ℕ)) (old new : List ℕ)
    (all left : List Line) (count more : ℕ)
    → whole ≡ test_from explained count was_past before all → all ≡ line ∷ left → words ≡ script_words line.1 → more ≡ count + 1
    → ComparesWords explained before was_past line.0 words old new is_past after (Ok Same) → whole ≡ test_from explained more is_past after left
test_same explained whole was_past is_past before after line words old new all left count more so_far is same one compares =
    so_far ∙ follows explained count was_past before all left line words is same ∙ compares.1 line.1 count
    (λ more past next. test_from explained more past next left)
    ∙ ap (λ n. test_from explained n is_past after left) (sym one)

-- a line of which nothing is expected
pub test_passed : (explained : Explaining) (whole : Said) (was_past is_past : Bool) (before after : At) (line : Line) (words : List (List ℕ)) (old new : List ℕ)
    (all left : List Line) (count : ℕ)
    → whole ≡ test_from explained count was_past before all → all ≡ line ∷ left → words ≡ script_words line.1
    → ComparesWords explained before was_past line.0 words old new is_past after (Ok NotExpected) → whole ≡ test_from explained count is_past after left
test_passed explained whole was_past is_past before after line words old new all left count so_far is same compares =
    so_far ∙ follows explained count was_past before all left line words is same ∙ compares.1 line.1 count
    (λ more past next. test_from explained more past next left)

-- an answer that differs
pub test_stopped : (explained : Explaining) (whole : Said) (was_past is_past : Bool) (before after : At) (line : Line) (words : List (List ℕ))
    (old new : List ℕ)
    (all left : List Line) (count : ℕ)
    → whole ≡ test_from explained count was_past before all → all ≡ line ∷ left → words ≡ script_words line.1 → old ≡ []
    → ComparesWords explained before was_past line.0 words old new is_past after (Ok Differs) → IsSaid whole new (Ok Faulted)
test_stopped explained whole was_past is_past before after line words old new all left count so_far is same none compares =
    subst (λ said. IsSaid said new (Ok Faulted))
    (sym (so_far ∙ follows explained count was_past before all left line words is same ∙ compares.3 line.1 count
    (λ more past next. test_from explained more past next left)))
    (sym compares.1, compares.2 ∙ ap (λ l. l ++ compares.0.text) none)

-- none is left
pub test_end : (explained : Explaining) (count : ℕ) (past : Bool) (at : At) (all : List Line) → all ≡ [] → test_from explained count past at all
    ≡ well (verdict_text count)
unfolding test_from
test_end explained count past at all is = ap (test_from explained count past at) is
