-- Lines that are taken off one after another, and what is left out of them.
use Rattle.std.proofs.Common.{◌≡◌, ◌∙◌, ◌++◌, ◌||◌, ap, sym, refl, cond, append_assoc, append-nil, ℕ, Bool, true, false, List, [], ◌∷◌, map}
use Rattle.std.specs.Prelude.{codes, flat_map}
use Rattle.std.specs.Str.{bytes_eq}
use denote.Ref.{Bor}
use Rattle.sva_script_reading.specs.Begins.{Line}
use Rattle.sva_variants.specs.Acts.{act_in, ends, goes_with, has_lent_wait, has_wait}
use Rattle.sva_variants.specs.Cuts.{CutSaid, cut_if, cuts_from, number_if, others_at, others_from}

abbrev pub said : List (Bor (List ℕ)) → List (List ℕ)
said words = map {A = Bor (List ℕ)} {B = List ℕ} (λ word. word.now) words

pub lent_wait : (words : List (Bor (List ℕ))) → has_lent_wait words ≡ has_wait (said words)
lent_wait [] = refl
lent_wait (word ∷ words) = ap (λ b. bytes_eq word.now (codes "wait") || b) (lent_wait words)

-- ---- The lines that go with one

module _ (first : List (List ℕ)) (now left : List Line) (line : Line) (other : List (List ℕ)) (is : now ≡ line ∷ left) (same : other ≡ act_in line.1) where
  opened : (it : Bool) → ends first other ≡ it
      → others_from first now ≡ cond it [] (number_if (goes_with first other) line.0 ++ others_from first left)
  unfolding others_from
  opened it says =
      ap (others_from first) is ∙ ap (λ act. others_at first act line.0 (others_from first left)) (sym same)
      ∙ ap (λ b. cond b [] (number_if (goes_with first other) line.0 ++ others_from first left)) says

  pub other_next : (goes : Bool) (out new whole : List ℕ) → goes ≡ goes_with first other → ends first other ≡ false
      → new ≡ out ++ number_if goes line.0 → out ++ others_from first now ≡ whole → new ++ others_from first left ≡ whole
  other_next goes out new whole says none puts so_far =
      ap (λ l. l ++ others_from first left) (puts ∙ ap (λ b. out ++ number_if b line.0) says)
      ∙ append_assoc out (number_if (goes_with first other) line.0) (others_from first left)
      ∙ sym (ap (λ l. out ++ l) (opened false none)) ∙ so_far

  pub other_last : (out whole : List ℕ) → ends first other ≡ true → out ++ others_from first now ≡ whole → out ≡ whole
  other_last out whole it so_far = sym (append-nil out) ∙ sym (ap (λ l. out ++ l) (opened true it)) ∙ so_far

pub others_end : (first : List (List ℕ)) (now : List Line) (out whole : List ℕ) → now ≡ [] → out ++ others_from first now ≡ whole → out ≡ whole
unfolding others_from
others_end first now out whole none so_far = sym (append-nil out) ∙ sym (ap (λ l. out ++ others_from first l) none) ∙ so_far

-- ---- What is left out

module _ (now left : List Line) (line : Line) (is : now ≡ line ∷ left) where
  pub cut_next : (act : List (List ℕ)) (out new whole : List CutSaid) → act ≡ act_in line.1 → new ≡ out ++ cut_if line.0 act left
      → out ++ cuts_from now ≡ whole → new ++ cuts_from left ≡ whole
  unfolding cuts_from
  cut_next act out new whole same puts so_far =
      ap (λ l. l ++ cuts_from left) (puts ∙ ap (λ words. out ++ cut_if line.0 words left) same)
      ∙ append_assoc out (cut_if line.0 (act_in line.1) left) (cuts_from left)
      ∙ sym (ap (λ l. out ++ cuts_from l) is) ∙ so_far

  pub kept_next : {B : Type 0} (put : Line → List B) (out new whole : List B) → new ≡ out ++ put line
      → out ++ flat_map put now ≡ whole → new ++ flat_map put left ≡ whole
  kept_next put out new whole puts so_far =
      ap (λ l. l ++ flat_map put left) puts
      ∙ append_assoc out (put line) (flat_map put left)
      ∙ sym (ap (λ l. out ++ flat_map put l) is) ∙ so_far

pub cuts_end : (now : List Line) (out whole : List CutSaid) → now ≡ [] → out ++ cuts_from now ≡ whole → out ≡ whole
unfolding cuts_from
cuts_end now out whole none so_far = sym (append-nil out) ∙ sym (ap (λ l. out ++ cuts_from l) none) ∙ so_far

pub kept_end : {B : Type 0} (put : Line → List B) (now : List Line) (out whole : List B) → now ≡ [] → out ++ flat_map put now ≡ whole → out ≡ whole
kept_end put now out whole none so_far = sym (append-nil out) ∙ sym (ap (λ l. out ++ flat_map put l) none) ∙ so_far
