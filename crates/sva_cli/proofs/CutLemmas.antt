-- The front of a text, up to a line.
use Rattle.std.proofs.Common.{◌≡◌, ◌∙◌, ◌+◌, ◌<◌, ◌≤◌, ◌==◌, ◌++◌, ap, refl, sym, cond, append_assoc, append-nil, ℕ, true, false, List, [], ◌∷◌}
use Rattle.std.proofs.Common.{drop, get_or, length}
use Rattle.std.proofs.lemmas.List.{drop_all, drop_more}
use Rattle.sva_cli.specs.Cutting.{first_lines, left_behind}

none_left : (count : ℕ) (text : List ℕ) → (count == 0) ≡ true → first_lines count text ≡ []
unfolding first_lines
none_left count [] none = refl
none_left count (byte ∷ text) none = ap (λ b. cond b [] (byte ∷ first_lines (left_behind count byte) text)) none

module _ (text : List ℕ) (place : ℕ) where
  pub front_next : (byte left next : ℕ) (front new whole : List ℕ) → place < length text → byte ≡ get_or text place 0 → (left == 0) ≡ false
      → new ≡ front ++ byte ∷ [] → next ≡ left_behind left byte → front ++ first_lines left (drop place text) ≡ whole
      → new ++ first_lines next (drop (place + 1) text) ≡ whole
  unfolding first_lines
  front_next byte left next front new whole inside is some puts counts so_far =
      let rest = drop (place + 1) text in
      let split : drop place text ≡ byte ∷ rest = drop_more text place 0 inside ∙ ap (λ x. x ∷ rest) (sym is) in
      let behind = first_lines (left_behind left byte) rest in
      let opened : first_lines left (byte ∷ rest) ≡ byte ∷ behind = ap (λ b. cond b [] (byte ∷ behind)) some in
      ap (λ l. l ++ first_lines next rest) puts ∙ ap (λ n. (front ++ byte ∷ []) ++ first_lines n rest) counts
      ∙ append_assoc front (byte ∷ []) behind ∙ sym (ap (λ l. front ++ l) (ap (first_lines left) split ∙ opened)) ∙ so_far

  pub front_met : (left : ℕ) (front whole : List ℕ) → (left == 0) ≡ true → front ++ first_lines left (drop place text) ≡ whole → front ≡ whole
  front_met left front whole none so_far =
      sym (append-nil front) ∙ sym (ap (λ l. front ++ l) (none_left left (drop place text) none)) ∙ so_far

  pub front_end : (left : ℕ) (front whole : List ℕ) → length text ≤ place → front ++ first_lines left (drop place text) ≡ whole → front ≡ whole
  unfolding first_lines
  front_end left front whole past so_far =
      sym (append-nil front) ∙ sym (ap (λ l. front ++ first_lines left l) (drop_all place text past)) ∙ so_far
