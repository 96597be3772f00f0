-- Bodies, definitions and parameters, as code keeps them.
use Rattle.std.proofs.Common.{◌≡◌, ◌∙◌, ◌<◌, ◌≤◌, ◌+◌, ◌-◌, add-one, ap, arith, refl, sym, ℕ, suc, zero, List, [], ◌∷◌, ◌++◌, append-nil, append_assoc}
use Rattle.std.proofs.Common.{Bool, true, false, cond, drop, get_or, leb, length, ltb, map, min, take}
use Rattle.std.specs.Prelude.{Option, Some, None, slice_get}
use Rattle.std.specs.List.{take-map}
use Rattle.std.specs.Str.{bytes_eq}
use Rattle.std.proofs.lemmas.Bool.{ltb-false, ltb-true}
use Rattle.std.proofs.lemmas.Bool.Decides.{nat_tests}
use Rattle.std.proofs.lemmas.List.{drop_all, drop_more, length-map, take_all}
use denote.Ref.{Bor}
use Rattle.sva_race_texts.proofs.Lists.{now, said, said_length}
use Rattle.sva_driver_words.specs.declared.faults.DriverWrong.{DriverWrong}
use Rattle.sva_driver_texts.specs.Bodies.{defined_seen}
use Rattle.sva_driver_texts.specs.WrittenOut.{BodySaid, Worded, Writing, body_ended, definition_of, ended_by, ended_in, or_wrong}
use Rattle.sva_driver_texts.specs.WrittenOut.{parameter_wrong, parameters_wrong, put_by, put_once, put_times, room_behind, size_of}
use Rattle.sva_driver_texts.specs.declared.bodies.Definition.{Definition}

-- ---- The last of a list

pub last_seen : {A B : Type 0} (f : A → B) (items : List A) (blank : A) → 0 < length items
    → slice_get (map f items) (length (map f items) - 1) ≡ Some (f (get_or items (length items - 1) blank))
last_seen {A} f items blank some =
    let inside : length items - 1 < length items = omega (arith, some) in
    ap (λ n. slice_get (map f items) (n - 1)) (length-map items f) ∙ at_place items (length items - 1) inside
  where
    at_place : (items : List A) (place : ℕ) → place < length items → slice_get (map f items) place ≡ Some (f (get_or items place blank))
    at_place [] place inside = absurd (omega (arith, inside))
    at_place (x ∷ xs) zero inside = refl
    at_place (x ∷ xs) (suc place) inside = at_place xs place (omega (arith, inside))

pub last_none : {A B : Type 0} (f : A → B) (items : List A) → length items ≡ 0 → slice_get (map f items) (length (map f items) - 1) ≡ None
last_none f [] none = refl
last_none f (x ∷ xs) none = absurd (omega (arith, none))

pub front_seen : {A B : Type 0} (f : A → B) (items front : List A) → front ≡ take (length items - 1) items
    → map f front ≡ take (length (map f items) - 1) (map f items)
front_seen f items front is =
    ap (map f) is ∙ sym (take-map f (length items - 1) items) ∙ ap (λ n. take (n - 1) (map f items)) (sym (length-map items f))

-- ---- Parameters, one after another

pub parameter_next : (words : List (List ℕ)) (i : ℕ) → i < length words
    → parameters_wrong (take i words) (drop i words)
    ≡ or_wrong (parameter_wrong (take i words) (get_or words i [])) (parameters_wrong (take (i + 1) words) (drop (i + 1) words))
unfolding parameters_wrong
parameter_next words i inside =
    ap (parameters_wrong (take i words)) (drop_more words i [] inside)
    ∙ ap (λ above. or_wrong (parameter_wrong (take i words) (get_or words i [])) (parameters_wrong above (drop (i + 1) words)))
    (sym (ap (λ n. take n words) (add-one i) ∙ taken words i inside))
  where
    taken : (words : List (List ℕ)) (i : ℕ) → i < length words → take (suc i) words ≡ take i words ++ get_or words i [] ∷ []
    taken [] i inside = absurd (omega (arith, inside))
    taken (word ∷ words) zero inside = refl
    taken (word ∷ words) (suc i) inside = ap (λ l. word ∷ l) (taken words i (omega (arith, inside)))

pub parameters_end : (words : List (List ℕ)) (i : ℕ) → length words ≤ i → parameters_wrong (take i words) (drop i words) ≡ None
unfolding parameters_wrong
parameters_end words i past = ap (parameters_wrong (take i words)) (drop_all i words past)

-- by the words as they are lent
said_at : (words : List (Bor (List ℕ))) (i : ℕ) → get_or (said words) i [] ≡ (get_or words i (record { ref_ptr = (0, 0); now = [] })).now
said_at [] i = refl
said_at (word ∷ words) zero = refl
said_at (word ∷ words) (suc i) = said_at words i

pub parameter_told : (words : List (Bor (List ℕ))) (i : ℕ) (first : Option DriverWrong) → i < length words
    → first ≡ parameter_wrong (said (take i words)) (get_or words i (record { ref_ptr = (0, 0); now = [] })).now
    → parameters_wrong (take i (said words)) (drop i (said words))
    ≡ or_wrong first (parameters_wrong (take (i + 1) (said words)) (drop (i + 1) (said words)))
parameter_told words i first inside is =
    let rest = parameters_wrong (take (i + 1) (said words)) (drop (i + 1) (said words)) in
    parameter_next (said words) i (omega (arith, inside, said_length words))
    ∙ ap (λ it. or_wrong it rest)
    (sym (is ∙ (λ j. parameter_wrong (sym (take-map now i words) j) (sym (said_at words i) j))))

-- ---- A definition, by its name

pub definition_next : (defined : List Definition) (i : ℕ) (blank : Definition) (name : List ℕ) → i < length defined
    → definition_of (map defined_seen (drop i defined)) name
    ≡ cond (bytes_eq (get_or defined i blank).name.now name) (Some (defined_seen (get_or defined i blank)))
    (definition_of (map defined_seen (drop (i + 1) defined)) name)
definition_next defined i blank name inside = ap (λ l. definition_of (map defined_seen l) name) (drop_more defined i blank inside)

pub definition_end : (defined : List Definition) (i : ℕ) (name : List ℕ) → length defined ≤ i
    → definition_of (map defined_seen (drop i defined)) name ≡ None
definition_end defined i name past = ap (λ l. definition_of (map defined_seen l) name) (drop_all i defined past)

-- ---- A body that is ended

pub ended_is : (writing mid : Writing) (body outer : BodySaid) (front : List BodySaid)
    → slice_get writing.around (length writing.around - 1) ≡ Some outer → front ≡ take (length writing.around - 1) writing.around
    → body ≡ writing.body → mid ≡ record writing { body = outer; around = front } → ended_by mid body body.opener ≡ body_ended writing
ended_is writing mid body outer front last is own behind =
    (λ i. ended_by ((behind ∙ (λ j. record writing { body = outer; around = is j })) i) (own i) (own i).opener) ∙ sym (ap (ended_in writing) last)

-- ---- Lines that are written out several times

pub times_next : (times i : ℕ) (old new : Writing) (number : ℕ) (word : List ℕ) (lines : List Worded) → i < times
    → new ≡ put_once old number word lines → put_times (times - i) old number word lines ≡ put_times (times - (i + 1)) new number word lines
unfolding put_times
times_next times i old new number word lines inside is =
    let left : times - i ≡ suc (times - (i + 1)) = omega (arith, inside) in
    ap (λ n. put_times n old number word lines) left ∙ ap (λ writing. put_times (times - (i + 1)) writing number word lines) (sym is)

pub times_end : (times i : ℕ) (writing : Writing) (number : ℕ) (word : List ℕ) (lines : List Worded) → times ≤ i
    → put_times (times - i) writing number word lines ≡ writing
unfolding put_times
times_end times i writing number word lines past =
    let none : times - i ≡ 0 = omega (arith, past) in
    ap (λ n. put_times n writing number word lines) none

pub empty_is : {A : Type 0} (xs : List A) → length xs ≡ 0 → xs ≡ []
empty_is [] none = refl
empty_is (x ∷ xs) none = absurd (omega (arith, none))

-- where nothing can come of it
full_once : (writing : Writing) (number : ℕ) (word : List ℕ) (lines : List Worded) → writing.is_full ≡ true
    → put_once writing number word lines ≡ writing
full_once writing number word lines full = ap (λ b. cond b writing (put_by writing number word lines (room_behind writing lines))) full

pub full_times : (times : ℕ) (writing : Writing) (number : ℕ) (word : List ℕ) (lines : List Worded) → writing.is_full ≡ true
    → writing ≡ put_times times writing number word lines
unfolding put_times
full_times zero writing number word lines full = refl
full_times (suc times) writing number word lines full =
    full_times times writing number word lines full
    ∙ ap (λ it. put_times times it number word lines) (sym (full_once writing number word lines full))

none_once : (writing : Writing) (number : ℕ) (word : List ℕ) → put_once writing number word [] ≡ writing
unfolding size_of
none_once writing number word = by_full writing.is_full
  where
    room : room_behind writing [] ≡ Some (writing.left, writing.bytes)
    room =
        let left : leb 0 writing.left ≡ true = grind (arith, nat_tests) in
        let bytes : leb 0 writing.bytes ≡ true = grind (arith, nat_tests) in
        let same : writing.left - 0 ≡ writing.left = omega arith in
        let its : writing.bytes - 0 ≡ writing.bytes = omega arith in
        rw left (rw bytes (λ i. Some (same i, its i)))

    by_full : (b : Bool) → cond b writing (put_by writing number word [] (room_behind writing [])) ≡ writing
    by_full true = refl
    by_full false =
        ap (put_by writing number word []) room ∙ (λ i. record writing { body = record writing.body { lines = append-nil writing.body.lines i } })

pub none_times : (times : ℕ) (writing : Writing) (number : ℕ) (word : List ℕ) → writing ≡ put_times times writing number word []
unfolding put_times
none_times zero writing number word = refl
none_times (suc times) writing number word =
    none_times times writing number word ∙ ap (λ it. put_times times it number word []) (sym (none_once writing number word))

-- ---- So many parameters

pub first_words : (words : List (Bor (List ℕ))) (count most : ℕ) → count ≡ min (length words) most
    → said (take count words) ≡ take most (said words)
first_words words count most is =
    sym (take-map now count words) ∙ by_order (ltb most (length words)) refl
  where
    by_order : (b : Bool) → ltb most (length words) ≡ b → take count (said words) ≡ take most (said words)
    by_order true h =
        let more : most < length words = ltb-true _ _ h in
        let same : count ≡ most = omega (arith, is, more) in
        ap (λ n. take n (said words)) same
    by_order false h =
        let few : length words ≤ most = ltb-false _ _ h in
        let all : length (said words) ≤ count = omega (arith, is, few, said_length words) in
        take_all count (said words) all ∙ sym (take_all most (said words) (omega (arith, few, said_length words)))
