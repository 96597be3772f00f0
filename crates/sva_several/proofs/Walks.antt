-- Lists that are walked.
use Rattle.std.proofs.Common.{◌≡◌, ◌∙◌, ◌+◌, ◌<◌, ◌≤◌, ◌==◌, ap, arith, refl, sym, ℕ, Bool}
use Rattle.std.proofs.Common.{false, true, List, [], ◌∷◌, ◌++◌, append_assoc, append-nil, drop, get_or, length}
use Rattle.std.proofs.lemmas.List.{drop_all, drop_more}
use Rattle.std.specs.Global.{Global}
use Rattle.std.specs.Prelude.{Result, String, string_bytes}
use Rattle.std.specs.declared.alloc.AllocError.{AllocError}
use Rattle.sva_several.specs.declared.given.Given.{Given}
use Rattle.sva_several.specs.declared.searching.Said.{Said}
use Rattle.sva_several.specs.declared.searching.Search.{Search}
use Rattle.sva_several.specs.declared.verdicts.Verdict.{Verdict}
use Rattle.sva_several.specs.Lines.{lines_of, name_if, named, told_text}
use Rattle.sva_several.specs.Verdicts.{count, is_same, one_if, verdict_of}

module _ {A : Type 0} (list : List A) (place : ℕ) where
  next : (other one : A) → place < length list → one ≡ get_or list place other → drop place list ≡ one ∷ drop (place + 1) list
  next other one inside is = drop_more list place other inside ∙ ap (λ x. x ∷ drop (place + 1) list) (sym is)

module _ (verdict : Verdict) (all : List (Result Said AllocError)) (place : ℕ) where
  pub counted_next : (one : Result Said AllocError) (so_far added next_count whole : ℕ) → place < length all → one ≡ get_or all place one
      → added ≡ one_if (is_same verdict (verdict_of one)) → next_count ≡ so_far + added
      → so_far + count verdict (drop place all) ≡ whole → next_count + count verdict (drop (place + 1) all) ≡ whole
  unfolding count
  counted_next one so_far added next_count whole inside is adds counts before =
      let rest = count verdict (drop (place + 1) all) in
      let split : so_far + (one_if (is_same verdict (verdict_of one)) + rest) ≡ whole = sym
      (ap (λ l. so_far + count verdict l) (next all place one one inside is)) ∙ before in
      omega (arith, adds, counts, split)

  pub counted_end : (so_far whole : ℕ) → length all ≤ place → so_far + count verdict (drop place all) ≡ whole → so_far ≡ whole
  unfolding count
  counted_end so_far whole past before =
      let none : so_far + count verdict [] ≡ whole = sym (ap (λ l. so_far + count verdict l) (drop_all place all past)) ∙ before in
      omega (arith, none)

module _ (name text : List ℕ) (place : ℕ) where
  pub named_next : (byte : ℕ) (begins next_begins : Bool) (out mid new whole : List ℕ) → place < length text → byte ≡ get_or text place 0
      → mid ≡ out ++ name_if name begins → new ≡ mid ++ byte ∷ [] → next_begins ≡ (byte == 10)
      → out ++ named name begins (drop place text) ≡ whole → new ++ named name next_begins (drop (place + 1) text) ≡ whole
  unfolding named
  named_next byte begins next_begins out mid new whole inside is names puts begins_is before =
      let rest = drop (place + 1) text in
      (λ i. (puts ∙ ap (λ l. l ++ byte ∷ []) names) i ++ named name (begins_is i) rest)
      ∙ ap (λ l. l ++ named name (byte == 10) rest) (append_assoc out (name_if name begins) (byte ∷ []))
      ∙ append_assoc out (name_if name begins ++ byte ∷ []) (named name (byte == 10) rest)
      ∙ sym (ap (λ l. out ++ named name begins l) (next text place 0 byte inside is)) ∙ before

  pub named_end : (begins : Bool) (out whole : List ℕ) → length text ≤ place → out ++ named name begins (drop place text) ≡ whole → out ≡ whole
  unfolding named
  named_end begins out whole past before =
      sym (append-nil out) ∙ sym (ap (λ l. out ++ named name begins l) (drop_all place text past)) ∙ before

module _ (search : Search) (names : List (String Global)) (texts : List Given) (all : List (Result Said AllocError)) (place : ℕ) where
  pub told_next : (name : String Global) (given : Given) (found : Result Said AllocError) (out new whole : List ℕ) → place < length names
      → place < length texts → place < length all → name ≡ get_or names place name → given ≡ get_or texts place given → found ≡ get_or all place found
      → new ≡ out ++ told_text search (string_bytes name) given found
      → out ++ lines_of search (drop place names) (drop place texts) (drop place all) ≡ whole
      → new ++ lines_of search (drop (place + 1) names) (drop (place + 1) texts) (drop (place + 1) all) ≡ whole
  unfolding lines_of
  told_next name given found out new whole within has inside is gives it puts before =
      let rest = lines_of search (drop (place + 1) names) (drop (place + 1) texts) (drop (place + 1) all) in
      ap (λ l. l ++ rest) puts
      ∙ append_assoc out (told_text search (string_bytes name) given found) rest
      ∙ sym (λ i. out ++ lines_of search (next names place name name within is i) (next texts place given given has gives i)
      (next all place found found inside it i))
      ∙ before

  no_lines : (names : List (String Global)) (texts : List Given) → lines_of search names texts [] ≡ []
  unfolding lines_of
  no_lines [] texts = refl
  no_lines (name ∷ names) [] = refl
  no_lines (name ∷ names) (given ∷ texts) = refl

  no_texts : (names : List (String Global)) (all : List (Result Said AllocError)) → lines_of search names [] all ≡ []
  unfolding lines_of
  no_texts [] all = refl
  no_texts (name ∷ names) all = refl

  pub told_end : (out whole : List ℕ) → length all ≤ place → out ++ lines_of search (drop place names) (drop place texts) (drop place all) ≡ whole
      → out ≡ whole
  told_end out whole past before =
      sym (append-nil out)
      ∙ sym (ap (λ l. out ++ l) (ap (lines_of search (drop place names) (drop place texts)) (drop_all place all past)
      ∙ no_lines (drop place names) (drop place texts))) ∙ before

  pub names_end : (out whole : List ℕ) → length names ≤ place → out ++ lines_of search (drop place names) (drop place texts) (drop place all) ≡ whole
      → out ≡ whole
  unfolding lines_of
  names_end out whole past before =
      sym (append-nil out) ∙ sym (ap (λ l. out ++ lines_of search l (drop place texts) (drop place all)) (drop_all place names past)) ∙ before

  pub texts_end : (out whole : List ℕ) → length texts ≤ place → out ++ lines_of search (drop place names) (drop place texts) (drop place all) ≡ whole
      → out ≡ whole
  texts_end out whole past before =
      sym (append-nil out)
      ∙ sym (ap (λ l. out ++ l) (ap (λ texts. lines_of search (drop place names) texts (drop place all)) (drop_all place texts past)
      ∙ no_texts (drop place names) (drop place all))) ∙ before

pub one_at_most : (n : ℕ) (so : Bool) → n ≡ one_if so → n ≤ 1
one_at_most n true is = omega (arith, is)
one_at_most n false is = omega (arith, is)
