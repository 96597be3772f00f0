-- Lists that are built one by one, and how much is left behind what is written out.
use Rattle.std.proofs.Common.{◌≡◌, ◌∙◌, ◌<◌, ◌≤◌, ◌+◌, ◌-◌, ap, arith, refl, sym, ℕ, suc, zero, List, [], ◌∷◌, ◌++◌, append-nil, append_assoc}
use Rattle.std.proofs.Common.{drop, get_or, length, map}
use Rattle.std.specs.Prelude.{flat_map, None, Some, Result, Ok, Err}
use Rattle.std.proofs.lemmas.List.{drop_all, drop_more, map_push}
use denote.Ref.{Bor}
use Rattle.sva_script.specs.Lines.{script_words}
use Rattle.sva_script_reading.specs.Begins.{Line}
use Rattle.sva_driver_texts.specs.Bodies.{WritesOut, lines_seen, texts, worded_seen}
use Rattle.sva_driver_texts.specs.WrittenOut.{Worded, Writing, behind_line, size_of, size_of_words, written_from}
use Rattle.sva_driver_texts.specs.declared.bodies.WordedLine.{WordedLine}

-- ---- One of each of a list

pub built_next : {A B C : Type 0} (seen : C → B) (f : A → B) (xs : List A) (i : ℕ) (blank : A) (old new : List C) (one : C) (whole : List B)
    → i < length xs → seen one ≡ f (get_or xs i blank) → new ≡ old ++ one ∷ [] → map seen old ++ map f (drop i xs) ≡ whole
    → map seen new ++ map f (drop (i + 1) xs) ≡ whole
built_next seen f xs i blank old new one whole inside is grown so_far =
    let left = map f (drop (i + 1) xs) in
    ap (λ l. map seen l ++ left) grown ∙ ap (λ l. l ++ left) (map_push seen old one)
    ∙ append_assoc (map seen old) (seen one ∷ []) left ∙ ap (λ it. map seen old ++ (it ∷ left)) is
    ∙ sym (ap (λ l. map seen old ++ map f l) (drop_more xs i blank inside)) ∙ so_far

pub built_end : {A B C : Type 0} (seen : C → B) (f : A → B) (xs : List A) (i : ℕ) (old : List C) (whole : List B) → length xs ≤ i
    → map seen old ++ map f (drop i xs) ≡ whole → map seen old ≡ whole
built_end seen f xs i old whole past so_far =
    sym (append-nil (map seen old)) ∙ sym (ap (λ l. map seen old ++ map f l) (drop_all i xs past)) ∙ so_far

-- the pieces of what is seen
pub pieces_seen : {A B C : Type 0} (g : B → List C) (f : A → B) (xs : List A) → flat_map g (map f xs) ≡ flat_map (λ x. g (f x)) xs
pieces_seen g f [] = refl
pieces_seen g f (x ∷ xs) = ap (λ rest. g (f x) ++ rest) (pieces_seen g f xs)

-- ---- Line by line

pub written_next : (old new : Writing) (now left : List Line) (line : Line) (words : List (List ℕ)) → now ≡ line ∷ left
    → words ≡ script_words line.1 → new ≡ behind_line old line.0 words → written_from old now ≡ written_from new left
unfolding written_from
written_next old new now left line words is same taken =
    ap (written_from old) is ∙ ap (λ ws. written_from (behind_line old line.0 ws) left) (sym same)
    ∙ ap (λ writing. written_from writing left) (sym taken)

pub written_end : (writing : Writing) (now : List Line) → now ≡ [] → written_from writing now ≡ writing
unfolding written_from
written_end writing now is = ap (written_from writing) is

-- the lines are given, or what is wrong is said
pub lines_given : (written : Result (List Worded) (List ℕ)) (found : List WordedLine) (out : List ℕ) → WritesOut written (Some found) out
    → (written ≡ Ok (lines_seen found)) × (out ≡ [])
lines_given (Ok lines) found out h = (ap Ok (sym h.0), h.1)
lines_given (Err said) found out h = absurd h

pub wrong_said : (written : Result (List Worded) (List ℕ)) (out : List ℕ) → WritesOut written None out → written ≡ Err out
wrong_said (Ok lines) out h = absurd h
wrong_said (Err said) out h = ap Err (sym h)

-- ---- What is left

abbrev pub size_of_lent : List (Bor (List ℕ)) → ℕ
size_of_lent words = size_of_words (texts words)

pub words_less : (words : List (Bor (List ℕ))) (i : ℕ) (blank : Bor (List ℕ)) → i < length words
    → size_of_lent (drop i words) ≡ length (get_or words i blank).now + 1 + size_of_lent (drop (i + 1) words)
unfolding size_of_words
words_less words i blank inside = ap size_of_lent (drop_more words i blank inside)

pub words_none : (words : List (Bor (List ℕ))) (i : ℕ) → length words ≤ i → size_of_lent (drop i words) ≡ 0
unfolding size_of_words
words_none words i past = ap size_of_lent (drop_all i words past)

pub lines_less : (lines : List WordedLine) (i : ℕ) (blank : WordedLine) → i < length lines
    → size_of (lines_seen (drop i lines))
    ≡ size_of_words (worded_seen (get_or lines i blank)).1 + size_of (lines_seen (drop (i + 1) lines))
unfolding size_of
lines_less lines i blank inside = ap (λ l. size_of (lines_seen l)) (drop_more lines i blank inside)

pub lines_none : (lines : List WordedLine) (i : ℕ) → length lines ≤ i → size_of (lines_seen (drop i lines)) ≡ 0
unfolding size_of
lines_none lines i past = ap (λ l. size_of (lines_seen l)) (drop_all i lines past)
