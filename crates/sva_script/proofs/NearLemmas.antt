-- The first name that is near, of names as they are kept.
use Rattle.std.proofs.Common.{◌≡◌, ◌∙◌, ◌+◌, ap, sym, refl, arith, ℕ, zero, suc, List, [], ◌∷◌, cond, length, map, drop, slice_get, Some}
use Rattle.std.proofs.lemmas.Option.{same_Some}
use Rattle.sva_script.specs.Near.{is_near, near_among}
use Rattle.sva_script.specs.declared.given.Given.{Given}
use Rattle.sva_script.specs.Names.{Known, names_of}

-- the names as they are known
abbrev pub seen : {K : Type 0} → (K → List ℕ) → List (K × Given) → Known
seen text entries = map {B = List ℕ × Given} (λ entry. (text entry.0, entry.1)) entries

pub seen_length : {K : Type 0} (text : K → List ℕ) (entries : List (K × Given)) → length (seen text entries) ≡ length entries
seen_length text [] = refl
seen_length text (entry ∷ entries) = ap suc (seen_length text entries)

same_entry : {K : Type 0} (one other : K × Given) → Some one ≡ Some other → one ≡ other
same_entry one other h = same_Some one other h

pub kept_next : {K : Type 0} (text : K → List ℕ) (entries : List (K × Given)) (i : ℕ) (found : K × Given) (word : List ℕ)
    → slice_get entries i ≡ Some found
    → near_among (drop i (names_of (seen text entries))) word
    ≡ cond (is_near (text found.0) word) (Some (text found.0)) (near_among (drop (i + 1) (names_of (seen text entries))) word)
kept_next text [] i found word at = absurd (cc at)
kept_next {K} text (entry ∷ entries) zero found word at =
    ap (λ (e : K × Given). cond (is_near (text e.0) word) (Some (text e.0)) (near_among (names_of (seen text entries)) word))
    (same_entry entry found at)
kept_next text (entry ∷ entries) (suc i) found word at =
    let next : suc i + 1 ≡ suc (i + 1) = omega arith in
    kept_next text entries i found word at
    ∙ ap (λ k. cond (is_near (text found.0) word) (Some (text found.0)) (near_among (drop k (names_of (seen text (entry ∷ entries)))) word)) (sym next)
