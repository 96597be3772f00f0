-- The lines of a report, taken off one after another: those up to `# race`, and a row for each behind it. And a text of which a part is
-- kept: what comes of it comes of the whole.
use Rattle.std.proofs.Common.{◌≡◌, ◌∙◌, ◌++◌, ◌<◌, ◌≤◌, ap, arith, cond, refl, sym, subst, append_assoc, append-nil, ℕ, List, [], ◌∷◌}
use Rattle.std.proofs.Common.{◌+◌, Bool, true, false, ◌||◌, ltb, length, take, Option, Some, None, IfSome, Result, Ok, Err}
use Rattle.std.proofs.lemmas.Bool.{lt-ltb, ltb-false, ltb-true}
use Rattle.std.proofs.lemmas.List.{length-take, take_all}
use Rattle.std.proofs.KnownBytes.{Appends-nil}
use Rattle.std.specs.Prelude.{slice_get}
use Rattle.std.specs.Io.KnownBytes.{Appends}
use Rattle.sva_grammar.specs.Grammar.{lines_of}
use Rattle.sva_streams.specs.declared.streams.DriveFault.{DriveFault}
use Rattle.sva_streams.specs.declared.streams.DriveFault.TheVariants.{Read, Write, Memory}
use Rattle.sva_streams.specs.Streams.{AppendsProperPrefix}
use Rattle.sva_script_reading.specs.Begins.{Line, config_in, lines_from}
use Rattle.sva_driver_texts.specs.Texts.{ReadsDriver, driver_behind, driver_of, too_large}
use Rattle.sva_driver_reports.specs.declared.reports.Ruling.{Ruling}
use Rattle.sva_driver_reports.specs.declared.wanted.Wanted.{Wanted}
use Rattle.sva_driver_reports.specs.Judged.{IsTextJudged}
use Rattle.sva_charts.specs.declared.sketch.Drawn.{Drawn}
use Rattle.sva_charts.specs.declared.sketch.Sketch.{Sketch}
use Rattle.sva_charts.specs.Witnesses.{ChartsDriver, IsChartBy, IsChartOf, IsTextCharted, behind_race, charted, events_in, is_race, row_text, rows_from}
use Rattle.sva_charts.specs.Witnesses.{wanted_of}

-- ---- Up to `# race`

module _ (now left : List Line) (line : Line) (is : now ≡ line ∷ left) (whole : Option (List Line)) where
  opened : (it : Bool) → is_race line.1 ≡ it → behind_race now ≡ whole → cond it (Some left) (behind_race left) ≡ whole
  unfolding behind_race
  opened it says so_far = sym (ap (λ b. cond b (Some left) (behind_race left)) says) ∙ sym (ap behind_race is) ∙ so_far

  pub race_later : is_race line.1 ≡ false → behind_race now ≡ whole → behind_race left ≡ whole
  race_later says so_far = opened false says so_far

  pub race_here : is_race line.1 ≡ true → behind_race now ≡ whole → Some left ≡ whole
  race_here says so_far = opened true says so_far

pub race_nowhere : (now : List Line) (whole : Option (List Line)) → now ≡ [] → behind_race now ≡ whole → None ≡ whole
unfolding behind_race
race_nowhere now whole none so_far = sym (ap behind_race none) ∙ so_far

-- ---- Rows

module _ (drawn : List Drawn) (now left : List Line) (line : Line) (is : now ≡ line ∷ left) where
  pub rows_next : (place : ℕ) (out new whole : List ℕ) → new ≡ out ++ row_text (place + 1) line.1 (slice_get drawn place)
      → out ++ rows_from drawn place now ≡ whole → new ++ rows_from drawn (place + 1) left ≡ whole
  unfolding rows_from
  rows_next place out new whole puts so_far =
      ap (λ l. l ++ rows_from drawn (place + 1) left) puts
      ∙ append_assoc out (row_text (place + 1) line.1 (slice_get drawn place)) (rows_from drawn (place + 1) left)
      ∙ sym (ap (λ l. out ++ rows_from drawn place l) is) ∙ so_far

pub rows_end : (drawn : List Drawn) (place : ℕ) (now : List Line) (out whole : List ℕ) → now ≡ [] → out ++ rows_from drawn place now ≡ whole → out ≡ whole
unfolding rows_from
rows_end drawn place now out whole none so_far = sym (append-nil out) ∙ sym (ap (λ l. out ++ rows_from drawn place l) none) ∙ so_far

-- ---- A chart

-- what was appended piece by piece
pub placed : (out one two three four first heads rows : List ℕ) → one ≡ out ++ first → two ≡ one ++ 10 ∷ [] → three ≡ two ++ heads
    → four ≡ three ++ rows → four ≡ out ++ (first ++ 10 ∷ (heads ++ rows))
placed out one two three four first heads rows puts_first ends puts_heads puts_rows =
    puts_rows ∙ ap (λ l. l ++ rows) (puts_heads ∙ ap (λ l. l ++ heads) (ends ∙ ap (λ l. l ++ 10 ∷ []) puts_first))
    ∙ append_assoc ((out ++ first) ++ 10 ∷ []) heads rows
    ∙ append_assoc (out ++ first) (10 ∷ []) (heads ++ rows)
    ∙ append_assoc out first (10 ∷ (heads ++ rows))

pub has_chart : (report : List ℕ) (sketch : Sketch) (events : List Line) (before out : List ℕ) → Some events ≡ events_in report → before ≡ []
    → out ≡ before ++ charted report sketch events → IsChartOf report out
has_chart report sketch events before out is none puts =
    subst (λ found. IsChartBy report found out) is (sketch, puts ∙ ap (λ l. l ++ charted report sketch events) none)

pub no_chart : (report before out : List ℕ) → None ≡ events_in report → before ≡ [] → out ≡ before ++ report → IsChartOf report out
no_chart report before out is none puts = subst (λ found. IsChartBy report found out) is (puts ∙ ap (λ l. l ++ report) none)

pub is_charted : (text : List ℕ) (most : ℕ) (wanted : Wanted) (said : Option Ruling) (report slice out : List ℕ) → wanted ≡ wanted_of most
    → IsTextJudged text wanted said report → slice ≡ report → IsChartOf slice out → IsTextCharted text most said out
is_charted text most wanted said report slice out asks judged same chart = record {
  report = report;
  judged = subst (λ w. IsTextJudged text w said report) asks judged;
  charted = subst (λ r. IsChartOf r out) same chart;
}

-- ---- More than the first 1,048,577 bytes don't matter: the text is too large anyhow, and then nothing is judged

large : (text : List ℕ) → 1048576 < length text → driver_of text ≡ Err too_large
large text long =
    ap (λ t. cond (t || ltb 65536 (length (lines_of text))) (Err too_large) (driver_behind (lines_from 1 text) (config_in 0 (lines_from 1 text))))
    (lt-ltb 1048576 (length text) long)

same_front : (text : List ℕ) → driver_of (take 1048577 text) ≡ driver_of text
same_front text = by_size (ltb 1048576 (length text)) refl
  where
    by_size : (long : Bool) → ltb 1048576 (length text) ≡ long → driver_of (take 1048577 text) ≡ driver_of text
    by_size true e =
        let long : 1048576 < length text = ltb-true _ _ e in
        let more : 1048576 < length (take 1048577 text) = omega (arith, length-take 1048577 text) in
        large (take 1048577 text) more ∙ sym (large text long)
    by_size false e =
        let short : length text ≤ 1048577 = omega (arith, ltb-false 1048576 (length text) e) in
        ap driver_of (take_all 1048577 text short)

front_charted : (text : List ℕ) (most : ℕ) (said : Option Ruling) (out : List ℕ) → IsTextCharted (take 1048577 text) most said out
    → IsTextCharted text most said out
front_charted text most said out h = record {
  report = h.report;
  judged = record {
    to = h.judged.to;
    wrongs = h.judged.wrongs;
    reads = subst (λ d. ReadsDriver d h.judged.to h.judged.wrongs) (same_front text) h.judged.reads;
    told = h.judged.told;
  };
  charted = h.charted;
}

-- ---- It was written, a part of it, or nothing

pub whole_charted : (text : List ℕ) (most : ℕ) (old new : Option (List ℕ)) (out : List ℕ) (said : Option Ruling) → IsTextCharted text most said out
    → Appends old new out → ChartsDriver text most old new (Ok said)
whole_charted text most old new out said tells whole = (out, tells, whole)

pub part_charted : (text : List ℕ) (most : ℕ) (old new : Option (List ℕ)) (out : List ℕ) (said : Option Ruling) (fault : DriveFault)
    → IsTextCharted text most said out → fault ≡ Write → AppendsProperPrefix old new out → ChartsDriver text most old new (Err fault)
part_charted text most old new out said fault tells is part =
    subst (λ f. ChartsDriver text most old new (Err f)) (sym is) (out, said, tells, (part.0, part.1, part.2, part.3))

nothing_charted : (text : List ℕ) (most : ℕ) (old : Option (List ℕ)) (fault : DriveFault) → (fault ≡ Write → ⊥) → ChartsDriver text most old old (Err fault)
nothing_charted text most old Read other = ([], [], refl, Appends-nil old)
nothing_charted text most old Write other = absurd (other refl)
nothing_charted text most old Memory other = ([], [], refl, Appends-nil old)

pub none_charted : (text : List ℕ) (most : ℕ) (old new : Option (List ℕ)) (fault : DriveFault) → (fault ≡ Write → ⊥) → new ≡ old
    → ChartsDriver text most old new (Err fault)
none_charted text most old new fault other same =
    subst (λ n. ChartsDriver text most old n (Err fault)) (sym same) (nothing_charted text most old fault other)

pub unread_charted : (known old new : Option (List ℕ)) (most : ℕ) (fault : DriveFault) → (fault ≡ Write → ⊥) → new ≡ old
    → IfSome known (λ input. ChartsDriver input most old new (Err fault))
unread_charted None old new most fault other same = tt
unread_charted (Some input) old new most fault other same = none_charted input most old new fault other same

front_of_charted : (text : List ℕ) (most : ℕ) (old new : Option (List ℕ)) (result : Result (Option Ruling) DriveFault)
    → ChartsDriver (take 1048577 text) most old new result → ChartsDriver text most old new result
front_of_charted text most old new (Ok said) h = (h.0, front_charted text most said h.0 h.1, h.2)
front_of_charted text most old new (Err Write) h = (h.0, h.1, front_charted text most h.1 h.0 h.2, h.3)
front_of_charted text most old new (Err Read) h = h
front_of_charted text most old new (Err Memory) h = h

pub kept_charted : (known old new : Option (List ℕ)) (most : ℕ) (kept text : List ℕ) (result : Result (Option Ruling) DriveFault)
    → text ≡ kept → IfSome known (λ input. kept ≡ take 1048577 input) → ChartsDriver text most old new result
    → IfSome known (λ input. ChartsDriver input most old new result)
kept_charted None old new most kept text result same cut tells = tt
kept_charted (Some input) old new most kept text result same cut tells =
    front_of_charted input most old new result (subst (λ t. ChartsDriver t most old new result) (same ∙ cut) tells)
