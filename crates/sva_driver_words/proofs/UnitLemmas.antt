-- The words for units, piece by piece.
use Rattle.std.proofs.Common.{◌≡◌, ◌∙◌, ◌<◌, ◌≤◌, ◌+◌, ap, append-nil, append_assoc, sym, ℕ, List, ◌++◌, length, get_or, drop}
use Rattle.std.proofs.lemmas.List.{drop_all, drop_more}
use Rattle.sva_driver_words.specs.Units.{member_text, members_from, shared_from, shared_text}

-- ---- The endpoints below a unit

pub members_next : (unit : ℕ) (xs : List ℕ) (i : ℕ) (blank : ℕ) (out new whole : List ℕ) → i < length xs
    → out ++ members_from unit i (drop i xs) ≡ whole → new ≡ out ++ member_text unit i (get_or xs i blank)
    → new ++ members_from unit (i + 1) (drop (i + 1) xs) ≡ whole
unfolding members_from
members_next unit xs i blank out new whole inside so_far is =
    let rest = members_from unit (i + 1) (drop (i + 1) xs) in
    let piece = member_text unit i (get_or xs i blank) in
    ap (λ l. l ++ rest) is ∙ append_assoc out piece rest
    ∙ sym (ap (λ l. out ++ members_from unit i l) (drop_more xs i blank inside)) ∙ so_far

pub members_end : (unit : ℕ) (xs : List ℕ) (i : ℕ) (out whole : List ℕ) → length xs ≤ i
    → out ++ members_from unit i (drop i xs) ≡ whole → out ≡ whole
unfolding members_from
members_end unit xs i out whole past so_far =
    sym (append-nil out) ∙ sym (ap (λ l. out ++ members_from unit i l) (drop_all i xs past)) ∙ so_far

-- ---- The units that are shared

module _ (units before behind : List ℕ) where
  pub shared_next : (i : ℕ) (blank : ℕ) (out new whole : List ℕ) → i < length units
      → out ++ shared_from units before behind i (drop i units) ≡ whole → new ≡ out ++ shared_text units before behind i
      → new ++ shared_from units before behind (i + 1) (drop (i + 1) units) ≡ whole
  unfolding shared_from
  shared_next i blank out new whole inside so_far is =
      let rest = shared_from units before behind (i + 1) (drop (i + 1) units) in
      let piece = shared_text units before behind i in
      ap (λ l. l ++ rest) is ∙ append_assoc out piece rest
      ∙ sym (ap (λ l. out ++ shared_from units before behind i l) (drop_more units i blank inside)) ∙ so_far

  pub shared_end : (i : ℕ) (out whole : List ℕ) → length units ≤ i
      → out ++ shared_from units before behind i (drop i units) ≡ whole → out ≡ whole
  unfolding shared_from
  shared_end i out whole past so_far =
      sym (append-nil out) ∙ sym (ap (λ l. out ++ shared_from units before behind i l) (drop_all i units past)) ∙ so_far
