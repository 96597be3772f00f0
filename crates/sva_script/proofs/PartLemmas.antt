-- The parts of a line, by its words as they are lent.
use Rattle.std.proofs.Common.{◌≡◌, ◌∙◌, ◌<◌, ◌≤◌, ◌+◌, ap, arith, refl, sym, ℕ, List, [], ◌∷◌, get_or, length, map, take, drop}
use Rattle.std.proofs.Common.{Bool, cond, ltb, not, Option, Some, None}
use Rattle.std.specs.List.{position, prefix_len, take-map, drop-map}
use Rattle.std.proofs.lemmas.List.{length-map}
use denote.Ref.{Bor}
use Rattle.sva_script.specs.Lines.{is_arrow, name_before, parts_by, parts_of, split_at, unnamed_parts}
use Rattle.sva_script.proofs.RestLemmas.{said as texts}

abbrev now : Bor (List ℕ) → List ℕ
now word = word.now

prefix_map : {X Y : Type 0} (f : X → Y) (p : Y → Bool) (xs : List X) → prefix_len p (map f xs) ≡ prefix_len (λ x. p (f x)) xs
prefix_map f p [] = refl
prefix_map f p (x ∷ xs) = ap (λ n. cond (p (f x)) (1 + n) 0) (prefix_map f p xs)

pub position_map : {X Y : Type 0} (f : X → Y) (p : Y → Bool) (xs : List X) → position p (map f xs) ≡ position (λ x. p (f x)) xs
position_map f p xs =
    let len = prefix_map f (λ y. not (p y)) xs in
    (λ i. cond (ltb (len i) (length-map xs f i)) (Some (len i)) None)

-- there is no arrow
pub parts_whole : (words : List (Bor (List ℕ))) → position (λ word. is_arrow word.now) words ≡ None
    → unnamed_parts None (texts words) ≡ split_at None (texts words) None
parts_whole words none = ap (split_at None (texts words)) (position_map now is_arrow words ∙ none)

pub parts_split : (words : List (Bor (List ℕ))) (arrow : ℕ) → position (λ word. is_arrow word.now) words ≡ Some arrow
    → unnamed_parts None (texts words) ≡ split_at None (texts words) (Some arrow)
parts_split words arrow found = ap (split_at None (texts words)) (position_map now is_arrow words ∙ found)

-- what stands before it, and behind it
pub step_part : (words : List (Bor (List ℕ))) (arrow : ℕ) → position (λ word. is_arrow word.now) words ≡ Some arrow
    → texts (take arrow words) ≡ (unnamed_parts None (texts words)).step
step_part words arrow found = sym (take-map now arrow words) ∙ sym (ap (λ parts. parts.step) (parts_split words arrow found))

pub expected_part : (words : List (Bor (List ℕ))) (arrow rest : ℕ) → position (λ word. is_arrow word.now) words ≡ Some arrow
    → take rest (drop (arrow + 1) words) ≡ drop (arrow + 1) words
    → Some (texts (take rest (drop (arrow + 1) words))) ≡ (unnamed_parts None (texts words)).expected
expected_part words arrow rest found end =
    ap (λ left. Some (texts left)) end ∙ ap Some (sym (drop-map now (arrow + 1) words)) ∙ sym (ap (λ parts. parts.expected) (parts_split words arrow found))

-- ---- The name

name_kept : (name : Option (List ℕ)) (words : List (List ℕ)) → (unnamed_parts name words).name ≡ name
name_kept name words = by_arrow (position is_arrow words)
  where
    by_arrow : (arrow : Option ℕ) → (split_at name words arrow).name ≡ name
    by_arrow None = refl
    by_arrow (Some arrow) = refl

name_by : (words : List (List ℕ)) (name : Option (List ℕ)) → (parts_by words name).name ≡ name
name_by words None = name_kept None words
name_by words (Some name) = name_kept (Some name) (drop 1 words)

-- no words have no name
pub no_name : (words : List (Bor (List ℕ))) → length words < 1 → None ≡ (parts_of (texts words)).name
no_name [] few = refl
no_name (word ∷ words) few = absurd (omega (arith, few))

-- the name of a line's words is that which the first of them writes
pub first_name : (words : List (Bor (List ℕ))) (blank : Bor (List ℕ)) (name : Option (List ℕ)) → 1 ≤ length words
    → name ≡ name_before (get_or words 0 blank).now → name ≡ (parts_of (texts words)).name
first_name [] blank name some is = absurd (omega (arith, some))
first_name (word ∷ words) blank name some is = is ∙ sym (name_by (now word ∷ texts words) (name_before word.now))
