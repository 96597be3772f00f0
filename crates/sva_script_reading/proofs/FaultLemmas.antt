-- What is said of lines that are wrong, one after another.
use Rattle.std.proofs.Common.{◌≡◌, ◌∙◌, ◌<◌, ◌≤◌, ◌+◌, ap, refl, sym, ℕ, List, [], ◌∷◌, ◌++◌, append-nil, append_assoc, codes, cond}
use Rattle.std.proofs.Common.{drop, get_or, length, map, take, Option, Some, option_map, slice_get, suc, zero}
use Rattle.std.specs.Prelude.{OnOk, Result, Ok, Err, decimal, flat_map, is_ok}
use denote.Ref.{Bor}
use Rattle.sva_script.specs.declared.faults.Wanted.{Wanted}
use Rattle.sva_script.specs.declared.faults.Wanted.TheVariants as wanted
use Rattle.sva_script.specs.declared.given.Told.{Told}
use Rattle.sva_script.specs.declared.places.Field.{Field}
use Rattle.sva_script.specs.Names.{Known}
use Rattle.std.proofs.lemmas.Bool.{le-ltb, lt-ltb}
use Rattle.std.proofs.lemmas.List.{drop_more, take_all}
use Rattle.std.proofs.Math.ListN.{drop_of_length-le}
use Rattle.sva_script_reading.specs.Faults.{Fault, fault_text, number_text, shown_byte, shown_word, told_text, word_text}
use Rattle.sva_script_reading.specs.Said.{faults_text}

pub faults_both : (xs ys : List Fault) → faults_text (xs ++ ys) ≡ faults_text xs ++ faults_text ys
faults_both [] ys = refl
faults_both (x ∷ xs) ys = ap (λ text. fault_text x ++ text) (faults_both xs ys) ∙ sym (append_assoc (fault_text x) (faults_text xs) (faults_text ys))

-- something is said of each line that is wrong
pub none_bad : (faults : List Fault) → faults_text faults ≡ [] → faults ≡ []
none_bad [] is = refl
none_bad (fault ∷ faults) is = absurd (cc is)

-- what holds anyhow
pub on_ok_all : {A E P : Type 0} (result : Result A E) → P → OnOk result P
on_ok_all (Ok value) holds = holds
on_ok_all (Err error) holds = tt

-- a text was appended, unless memory lacked
pub on_ok_if : {A E P : Type 0} (result : Result A E) (new more kept : List ℕ) → new ≡ cond (is_ok result) more kept → (new ≡ more → P) → OnOk result P
on_ok_if (Ok value) new more kept is by = by is
on_ok_if (Err error) new more kept is by = tt

-- ---- Pieces, one for each of a list

-- the next one
pub piece_next : {A : Type 0} (f : A → List ℕ) (xs : List A) (i : ℕ) (blank : A) (before out whole : List ℕ) → i < length xs
    → before ++ flat_map f (drop i xs) ≡ whole → out ≡ before ++ f (get_or xs i blank) → out ++ flat_map f (drop (i + 1) xs) ≡ whole
piece_next f xs i blank before out whole inside so_far is =
    ap (λ l. l ++ flat_map f (drop (i + 1) xs)) is ∙ append_assoc before (f (get_or xs i blank)) (flat_map f (drop (i + 1) xs))
    ∙ sym (ap (λ l. before ++ flat_map f l) (drop_more xs i blank inside)) ∙ so_far

-- none is left
pub piece_end : {A : Type 0} (f : A → List ℕ) (xs : List A) (i : ℕ) (before whole : List ℕ) → length xs ≤ i
    → before ++ flat_map f (drop i xs) ≡ whole → before ≡ whole
piece_end f xs i before whole past so_far =
    sym (append-nil before) ∙ sym (ap (λ l. before ++ flat_map f l) (drop_of_length-le xs past)) ∙ so_far

-- the pieces of what a list is seen as
pub pieces_seen : {A B : Type 0} (g : B → List ℕ) (h : A → B) (xs : List A) → flat_map (λ x. g (h x)) xs ≡ flat_map g (map h xs)
pieces_seen g h [] = refl
pieces_seen g h (x ∷ xs) = ap (λ l. g (h x) ++ l) (pieces_seen g h xs)

-- ---- A word

pub short_word : (word out new : List ℕ) → length word ≤ 60 → new ≡ out ++ flat_map shown_byte word → new ≡ out ++ shown_word word
short_word word out new short is =
    is ∙ ap (λ l. out ++ flat_map shown_byte l) (sym (take_all 60 word short)) ∙ ap (λ l. out ++ l) (sym (append-nil (flat_map shown_byte (take 60 word))))
    ∙ ap (λ t. out ++ (flat_map shown_byte (take 60 word) ++ cond t (codes "..") [])) (sym (le-ltb 60 (length word) short))

pub long_word : (word out mid new : List ℕ) → 60 < length word → mid ≡ out ++ flat_map shown_byte (take 60 word) → new ≡ mid ++ codes ".."
    → new ≡ out ++ shown_word word
long_word word out mid new long is more =
    more ∙ ap (λ l. l ++ codes "..") is ∙ append_assoc out (flat_map shown_byte (take 60 word)) (codes "..")
    ∙ ap (λ t. out ++ (flat_map shown_byte (take 60 word) ++ cond t (codes "..") [])) (sym (lt-ltb 60 (length word) long))

-- ---- A line that is wrong

-- the line of a name, and what it was answered
pub given_is : (line : ℕ) (told : Option Told) (found : Told) (out first second new : List ℕ) → told ≡ Some found → first ≡ out ++ codes ", but line "
    → second ≡ first ++ decimal line → new ≡ second ++ told_text (Some found)
    → new ≡ out ++ (codes ", but line " ++ (decimal line ++ told_text told))
given_is line told found out first second new is one two three =
    three ∙ ap (λ l. l ++ told_text (Some found)) (two ∙ ap (λ l. l ++ decimal line) one)
    ∙ append_assoc (out ++ codes ", but line ") (decimal line) (told_text (Some found))
    ∙ append_assoc out (codes ", but line ") (decimal line ++ told_text (Some found))
    ∙ ap (λ t. out ++ (codes ", but line " ++ (decimal line ++ told_text t))) (sym is)

-- its number, and which word is wrong
pub wrong_is : (line : ℕ) (known : Known) (want : Wanted) (word found : Option (List ℕ)) (out first second third new : List ℕ) → found ≡ word
    → first ≡ out ++ codes "line " → second ≡ first ++ decimal line → third ≡ second ++ word_text known want found → new ≡ third ++ 10 ∷ []
    → new ≡ out ++ (codes "line " ++ decimal line ++ word_text known want word ++ 10 ∷ [])
wrong_is line known want word found out first second third new is one two three four =
    let text = word_text known want found in
    four ∙ ap (λ l. l ++ 10 ∷ []) (three ∙ ap (λ l. l ++ text) (two ∙ ap (λ l. l ++ decimal line) one))
    ∙ ap (λ l. (l ++ text) ++ 10 ∷ []) (append_assoc out (codes "line ") (decimal line))
    ∙ ap (λ l. l ++ 10 ∷ []) (append_assoc out (codes "line " ++ decimal line) text)
    ∙ append_assoc out ((codes "line " ++ decimal line) ++ text) (10 ∷ [])
    ∙ ap (λ w. out ++ (codes "line " ++ decimal line ++ word_text known want w ++ 10 ∷ [])) is

-- where no number was wanted, nothing is told of one
pub number_none : (known : Known) (word : List ℕ) (want : Wanted) → ((at : Field) → want ≡ wanted.Number at → ⊥) → number_text known word want ≡ []
number_none known word (wanted.Number at) not = absurd (not at refl)
number_none known word _ not = refl

pub word_seen : (words : List (Bor (List ℕ))) (at : ℕ) → option_map (λ (word : Bor (List ℕ)). word.now) (slice_get words at)
    ≡ slice_get (map {A = Bor (List ℕ)} {B = List ℕ} (λ word. word.now) words) at
word_seen [] at = refl
word_seen (word ∷ words) zero = refl
word_seen (word ∷ words) (suc at) = word_seen words at
