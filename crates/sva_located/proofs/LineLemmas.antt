-- Lines that are taken off one after another.
use Rattle.std.proofs.Common.{◌≡◌, ◌∙◌, ◌+◌, ◌==◌, ◌<◌, ◌≤◌, ◌||◌, ◌++◌, ap, sym, cond, append_assoc, append-nil, ℕ, Bool, true, false, List, [], ◌∷◌}
use Rattle.std.proofs.Common.{Option, Some, None, drop, get_or, is_some, length}
use Rattle.std.proofs.lemmas.List.{drop_all, drop_more}
use Rattle.sva_script.specs.Lines.{script_words}
use Rattle.sva_script_reading.specs.Begins.{Line}
use Rattle.sva_located.specs.Columns.{column_if, columns_from, is_told, line_in}
use Rattle.sva_located.specs.Languages.{first_own, has_race, head_of, is_race, or_own, own_of}
use Rattle.sva_located.specs.Located.{count_behind, line_text, more_text, told_lines}
use Rattle.sva_located.specs.declared.languages.Own.{Own}

-- ---- The line of a number

module _ (wanted : ℕ) (now : List Line) where
  pub line_met : (left : List Line) (line : Line) (whole : List ℕ) → now ≡ line ∷ left → (line.0 == wanted) ≡ true → line_in wanted now ≡ whole
      → line.1 ≡ whole
  unfolding line_in
  line_met left line whole is it so_far =
      sym (ap (λ b. cond b line.1 (line_in wanted left)) it) ∙ sym (ap (line_in wanted) is) ∙ so_far

  pub line_passed : (left : List Line) (line : Line) (whole : List ℕ) → now ≡ line ∷ left → (line.0 == wanted) ≡ false → line_in wanted now ≡ whole
      → line_in wanted left ≡ whole
  unfolding line_in
  line_passed left line whole is other so_far =
      sym (ap (λ b. cond b line.1 (line_in wanted left)) other) ∙ sym (ap (line_in wanted) is) ∙ so_far

  pub no_line : (whole : List ℕ) → now ≡ [] → line_in wanted now ≡ whole → [] ≡ whole
  unfolding line_in
  no_line whole none so_far = sym (ap (line_in wanted) none) ∙ so_far

-- ---- Words that tell the language

module _ (now left : List Line) (line : Line) (words : List (List ℕ)) (is : now ≡ line ∷ left) (same : words ≡ script_words line.1) where
  opened : (own : Option Own) → own ≡ own_of (head_of words) → first_own now ≡ or_own own (first_own left)
  unfolding first_own
  opened own its = ap first_own is ∙ ap (λ o. or_own o (first_own left)) (sym (its ∙ ap (λ ws. own_of (head_of ws)) same))

  pub own_met : (own whole : Option Own) → own ≡ own_of (head_of words) → is_some own ≡ true → first_own now ≡ whole → own ≡ whole
  own_met (Some own) whole its some so_far = sym (opened (Some own) its) ∙ so_far
  own_met None whole its some so_far = absurd (cc some)

  pub own_passed : (own whole : Option Own) → own ≡ own_of (head_of words) → is_some own ≡ false → first_own now ≡ whole → first_own left ≡ whole
  own_passed (Some own) whole its none so_far = absurd (cc none)
  own_passed None whole its none so_far = sym (opened None its) ∙ so_far

  race_opened : (it : Bool) → is_race words ≡ it → has_race now ≡ (it || has_race left)
  unfolding has_race
  race_opened it says = ap has_race is ∙ ap (λ ws. is_race ws || has_race left) (sym same) ∙ ap (λ b. b || has_race left) says

  pub race_met : (whole : Bool) → is_race words ≡ true → has_race now ≡ whole → true ≡ whole
  race_met whole says so_far = sym (race_opened true says) ∙ so_far

  pub race_passed : (whole : Bool) → is_race words ≡ false → has_race now ≡ whole → has_race left ≡ whole
  race_passed whole says so_far = sym (race_opened false says) ∙ so_far

pub no_own : (now : List Line) (whole : Option Own) → now ≡ [] → first_own now ≡ whole → None ≡ whole
unfolding first_own
no_own now whole none so_far = sym (ap first_own none) ∙ so_far

pub no_race : (now : List Line) (whole : Bool) → now ≡ [] → has_race now ≡ whole → false ≡ whole
unfolding has_race
no_race now whole none so_far = sym (ap has_race none) ∙ so_far

-- ---- Columns

module _ (told line : List ℕ) (place : ℕ) where
  pub column_next : (byte : ℕ) (begins next_begins is_one : Bool) (found new whole : List ℕ) → place < length line → byte ≡ get_or line place 0
      → is_one ≡ is_told told begins (drop place line) → new ≡ found ++ column_if is_one (place + 1) → next_begins ≡ (byte == 32)
      → found ++ columns_from told place begins (drop place line) ≡ whole
      → new ++ columns_from told (place + 1) next_begins (drop (place + 1) line) ≡ whole
  unfolding columns_from
  column_next byte begins next_begins is_one found new whole inside is says puts begins_is so_far =
      let rest = drop (place + 1) line in
      let split : drop place line ≡ byte ∷ rest = drop_more line place 0 inside ∙ ap (λ x. x ∷ rest) (sym is) in
      let column = column_if (is_told told begins (byte ∷ rest)) (place + 1) in
      ap (λ l. l ++ columns_from told (place + 1) next_begins rest)
      (puts ∙ ap (λ b. found ++ column_if b (place + 1)) (says ∙ ap (is_told told begins) split))
      ∙ ap (λ b. (found ++ column) ++ columns_from told (place + 1) b rest) begins_is
      ∙ append_assoc found column (columns_from told (place + 1) (byte == 32) rest)
      ∙ sym (ap (λ l. found ++ columns_from told place begins l) split) ∙ so_far

  pub column_end : (begins : Bool) (found whole : List ℕ) → length line ≤ place
      → found ++ columns_from told place begins (drop place line) ≡ whole → found ≡ whole
  unfolding columns_from
  column_end begins found whole past so_far =
      sym (append-nil found) ∙ sym (ap (λ l. found ++ columns_from told place begins l) (drop_all place line past)) ∙ so_far

-- ---- Lines of a report

module _ (name text : List ℕ) (now : List Line) (count : ℕ) where
  pub told_next : (left : List Line) (line : Line) (next : ℕ) (out new whole : List ℕ) → now ≡ line ∷ left → next ≡ count_behind count line.1
      → new ≡ out ++ line_text name text count line.1 → out ++ told_lines name text count now ≡ whole
      → new ++ told_lines name text next left ≡ whole
  unfolding told_lines
  told_next left line next out new whole is counts puts so_far =
      let its = line_text name text count line.1 in
      ap (λ l. l ++ told_lines name text next left) puts
      ∙ ap (λ n. (out ++ its) ++ told_lines name text n left) counts
      ∙ append_assoc out its (told_lines name text (count_behind count line.1) left)
      ∙ sym (ap (λ lines. out ++ told_lines name text count lines) is) ∙ so_far

  pub told_end : (out whole : List ℕ) → now ≡ [] → out ++ told_lines name text count now ≡ whole → out ++ more_text name count ≡ whole
  unfolding told_lines
  told_end out whole none so_far = sym (ap (λ lines. out ++ told_lines name text count lines) none) ∙ so_far
