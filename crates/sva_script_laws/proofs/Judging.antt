-- The lines of a report, and what is said of them.
use Rattle.std.proofs.Common.{◌≡◌, ◌∙◌, ap, map, refl, sym, arith, ℕ, ◌+◌, ◌&&◌, Bool, true, false, cond, List, [], ◌∷◌, ◌++◌, length, Option, Some, None}
use Rattle.std.specs.Prelude.{drop, is_some, slice_get, slice_index_or}
use Rattle.std.specs.List.{list_all}
use Rattle.std.specs.Option.{option_map_or}
use Rattle.std.proofs.lemmas.Bool.{and_parts}
use Rattle.sva_grammar.specs.Grammar.{words_of}
use Rattle.sva_snapshot.specs.Explaining.{Explaining}
use Rattle.sva_script.specs.Expect.{are_as_expected}
use Rattle.sva_script_reading.specs.Lines.{Plain}
use Rattle.sva_script_reading.specs.Said.{Said, bad, well}
use Rattle.sva_script_reading.specs.Begins.{Line}
use Rattle.sva_model.specs.Wire.{Wire}
use Rattle.sva_script_reports.specs.Scripts.{compared, held_at, is_expected, miss_text, told_step, verdict_text}
use Rattle.sva_script_laws.specs.Tests.{Expectation, expectation, expects, is_met, judged_by}

-- ---- The line at a place

pub at_place : (front : List (List ℕ)) (line : List ℕ) (rest : List (List ℕ)) → slice_get (front ++ line ∷ rest) (length front) ≡ Some line
at_place [] line rest = refl
at_place (first ∷ front) line rest = at_place front line rest

pub line_at_place : (front : List (List ℕ)) (line : List ℕ) (rest : List (List ℕ)) → slice_index_or (front ++ line ∷ rest) (length front) [] ≡ line
line_at_place [] line rest = refl
line_at_place (first ∷ front) line rest = line_at_place front line rest

pub place_next : (front : List (List ℕ)) (line : List ℕ) → length (front ++ line ∷ []) ≡ length front + 1
place_next [] line = refl
place_next (first ∷ front) line = let more = place_next front line in omega (arith, more)

-- ---- A line's expectation

-- what a line expects is judged by the line of the report at its place
pub judged_so : (explained : Explaining) (report : List (List ℕ)) (line place count : ℕ) (seen : Wire) (step : Option Plain) (answer : List ℕ)
    (others : List Expectation)
    (rest : ℕ → Said)
    (expected : Option (List ℕ))
    → slice_get report place ≡ Some answer → slice_index_or report place [] ≡ answer → ((more : ℕ) → rest more ≡ judged_by report more others)
    → compared count line (told_step step) answer (held_at explained seen step) rest expected
    ≡ judged_by report count (expectation explained line place seen step expected ++ others)
judged_so explained report line place count seen step answer others rest None at is behind = behind count
judged_so explained report line place count seen step answer others rest (Some expected) at is behind =
    (λ i. cond (is_expected (drop 1 expected) answer) (behind (count + 1) i)
    (bad (miss_text line (told_step step) (drop 1 expected) (sym is i) ++ held_at explained seen step)))
    ∙ ap (λ t. cond t (judged_by report (count + 1) others)
    (bad (miss_text line (told_step step) (drop 1 expected) (slice_index_or report place []) ++ held_at explained seen step)))
    (sym (ap (λ found. option_map_or (λ a. are_as_expected (words_of (drop 1 expected)) (words_of a)) found false) at))

-- and stands among the lines that say what they expect
pub expecting_so : (explained : Explaining) (line place : ℕ) (text : List ℕ) (seen : Wire) (step : Option Plain) (expected : Option (List ℕ))
    (words : List (List ℕ))
    (others : List Expectation) (left : List Line)
    → expects words ≡ is_some expected
    → map (λ (it : Expectation). it.line) others ≡ map (λ (l : Line). l.0) left
    → map (λ (it : Expectation). it.line) (expectation explained line place seen step expected ++ others)
    ≡ map (λ (l : Line). l.0) (cond (expects words) ((line, text) ∷ left) left)
expecting_so explained line place text seen step None words others left says rest =
    rest ∙ ap (λ t. map (λ (l : Line). l.0) (cond t ((line, text) ∷ left) left)) (sym says)
expecting_so explained line place text seen step (Some expected) words others left says rest =
    ap (λ ls. line ∷ ls) rest ∙ ap (λ t. map (λ (l : Line). l.0) (cond t ((line, text) ∷ left) left)) (sym says)

-- ---- All are met

-- what is bad isn't well
pub never : (wrong right : List ℕ) → bad wrong ≡ well right → ⊥
never wrong right is = cc (ap (λ (said : Said). said.outcome) is)

pub all_met : (report : List (List ℕ)) (count : ℕ) (expectations : List Expectation) → list_all (is_met report) expectations ≡ true
    → judged_by report count expectations ≡ well (verdict_text (count + length expectations))
all_met report count [] met = ap (λ n. well (verdict_text n)) (omega arith)
all_met report count (it ∷ others) met =
    let parts = and_parts (is_met report it) (list_all (is_met report) others) met in
    ap (λ t. cond t (judged_by report (count + 1) others) (bad (miss_text it.line it.step it.answer (slice_index_or report it.place []) ++ it.whys))) parts.0
    ∙ all_met report (count + 1) others parts.1
    ∙ ap (λ n. well (verdict_text n)) (omega arith)

pub met_all : (report : List (List ℕ)) (count : ℕ) (expectations : List Expectation) (verdict : List ℕ)
    → judged_by report count expectations ≡ well verdict → list_all (is_met report) expectations ≡ true
met_all report count [] verdict is = refl
met_all report count (it ∷ others) verdict is = by_test (is_met report it) refl is (met_all report (count + 1) others verdict)
  where
    miss : List ℕ
    miss = miss_text it.line it.step it.answer (slice_index_or report it.place []) ++ it.whys

    by_test : (test : Bool) → is_met report it ≡ test → cond test (judged_by report (count + 1) others) (bad miss) ≡ well verdict
        → (judged_by report (count + 1) others ≡ well verdict → list_all (is_met report) others ≡ true)
        → list_all (is_met report) (it ∷ others) ≡ true
    by_test true met is behind = ap (λ t. t && list_all (is_met report) others) met ∙ behind is
    by_test false met is behind = absurd (never miss verdict is)
