-- What a look-up in a list finds, where the list is a table or the numbers that pass.
use Rattle.std.proofs.Common.{◌≡◌, ◌≢◌, ◌⊎◌, inl, inr, refl, ap, ap₂, sym, subst, ◌∙◌, ℕ, zero, suc, ◌+◌, ◌<◌, Bool, true, false, arith}
use Rattle.std.specs.Prelude.{Option, Some, None, option_map, ◌&&◌, ◌||◌, not, ◌==◌, nat_lt, if◌then◌else◌, is_some, is_none, List, [], ◌∷◌, ◌++◌, map}
use Rattle.std.specs.List.{find, list_any, position_or_len}
use Rattle.std.specs.Option.{option_or}
use Rattle.std.proofs.lemmas.Bool.Decides.{nat_tests}
use Rattle.std.proofs.lemmas.List.{map-append, append-nil}
use Rattle.std.proofs.lemmas.List.Folds.{list_any-append, find-append, position_or_len_push}
use Rattle.std.proofs.lemmas.Bool.{eq-eqb}
use Rattle.sva_model.specs.Words as words
use Rattle.sva_model.specs.Words.{step_lowest, lowest, any_below, select, tabulate}
use Rattle.sva_model.specs.Labels
use Rattle.sva_model.specs.Wire.{insert_by, sorted_by}
use Rattle.sva_labels.proofs.Words.{ℕ_cases, lowest_cases}
use Rattle.sva_labels.proofs.Tests.{lower_differs, or_no}
use Rattle.sva_labels.proofs.Lists.{tabulate_length, lowest_same}
use Rattle.sva_labels.specs.Finding.{lowest_label}
use Rattle.sva_labels.specs.Outcomes.{label}
pub use Rattle.sva_labels.proofs.Lists.{any_same}

-- The first place that passes.

pub position_is : {A : Type 0} (n : ℕ) (f : ℕ → A) (p : A → Bool) → position_or_len p (tabulate n f) ≡ lowest n (λ k. p (f k))
unfolding tabulate lowest
position_is zero f p = refl
position_is (suc n) f p =
    position_or_len_push p (tabulate n f) (f n)
    ∙ ap₂ (λ k len. if k == len then (len + (if p (f n) then 0 else 1)) else k) (position_is n f p) (tabulate_length n f)
    ∙ go (lowest n (λ k. p (f k)) == n) (p (f n))
  where
    go : (t b : Bool) → (if t then (n + (if b then 0 else 1)) else lowest n (λ k. p (f k))) ≡ step_lowest t (lowest n (λ k. p (f k))) n b
    go true true = omega arith
    go true false = omega arith
    go false b = refl

-- the lowest label that is free, by a table that has an entry where a label is taken
pub label_seen :
    {A : Type 0} (n : ℕ) (at : ℕ → Option ℕ) (f : ℕ → Option A) → ((t : ℕ) → is_none (f t) ≡ not (words.is_some (at t)))
    → lowest_label (tabulate n f) ≡ words.if_found (nat_lt (Labels.lowest_label n at) n) (Labels.lowest_label n at)
label_seen n at f h =
    ap₂ (λ k len. if nat_lt k len then Some k else None)
    (position_is n f is_none ∙ lowest_same n (λ t. is_none (f t)) (λ t. not (words.is_some (at t))) (λ t l. h t))
    (tabulate_length n f)
    ∙ go (nat_lt (Labels.lowest_label n at) n)
  where
    go : (b : Bool) → (if b then Some (Labels.lowest_label n at) else None) ≡ words.if_found b (Labels.lowest_label n at)
    go true = refl
    go false = refl

found_below : (k n : ℕ) → k < n → words.if_found (nat_lt k n) k ≡ Some k
found_below k n l = grind (arith, nat_tests)

none_from : (k n : ℕ) → k ≡ n → words.if_found (nat_lt k n) k ≡ None
none_from k n e = grind (arith, nat_tests)

-- none is free exactly where the search ends past the table
pub no_label :
    {A : Type 0} (n : ℕ) (at : ℕ → Option ℕ) (f : ℕ → Option A) → ((t : ℕ) → is_none (f t) ≡ not (words.is_some (at t)))
    → is_none (lowest_label (tabulate n f)) ≡ (Labels.lowest_label n at == n)
no_label n at f h = ap is_none (label_seen n at f h) ∙ go (lowest_cases n (λ t. not (words.is_some (at t))))
  where
    go :
        ((Labels.lowest_label n at ≡ n) × ((j : ℕ) → j < n → not (words.is_some (at j)) ≡ false)) ⊎ ((Labels.lowest_label n at < n)
        × (not (words.is_some (at (Labels.lowest_label n at))) ≡ true) × ((j : ℕ) → j < Labels.lowest_label n at → not (words.is_some (at j)) ≡ false))
        → is_none (words.if_found (nat_lt (Labels.lowest_label n at) n) (Labels.lowest_label n at)) ≡ (Labels.lowest_label n at == n)
    go (inl x) = ap is_none (none_from (Labels.lowest_label n at) n x.0) ∙ sym (eq-eqb (Labels.lowest_label n at) n x.0)
    go (inr x) = ap is_none (found_below (Labels.lowest_label n at) n x.0) ∙ sym (lower_differs (Labels.lowest_label n at) n x.0)

pub label_is :
    {A : Type 0} (n : ℕ) (at : ℕ → Option ℕ) (f : ℕ → Option A) → ((t : ℕ) → is_none (f t) ≡ not (words.is_some (at t)))
    → (Labels.lowest_label n at == n) ≡ false → label (lowest_label (tabulate n f)) ≡ Labels.lowest_label n at
label_is n at f h e = ap label (label_seen n at f h) ∙ go (lowest_cases n (λ t. not (words.is_some (at t))))
  where
    go :
        ((Labels.lowest_label n at ≡ n) × ((j : ℕ) → j < n → not (words.is_some (at j)) ≡ false)) ⊎ ((Labels.lowest_label n at < n)
        × (not (words.is_some (at (Labels.lowest_label n at))) ≡ true) × ((j : ℕ) → j < Labels.lowest_label n at → not (words.is_some (at j)) ≡ false))
        → label (words.if_found (nat_lt (Labels.lowest_label n at) n) (Labels.lowest_label n at)) ≡ Labels.lowest_label n at
    go (inl x) = absurd (cc (sym e ∙ eq-eqb (Labels.lowest_label n at) n x.0))
    go (inr x) = ap label (found_below (Labels.lowest_label n at) n x.0)

-- an entry that is seen through is there where it was
pub seen_none : {A : Type 0} (f : ℕ → A) (o : Option ℕ) → is_none (option_map f o) ≡ not (words.is_some o)
seen_none f None = refl
seen_none f (Some k) = refl

pub seen_some : {A : Type 0} (f : ℕ → A) (o : Option ℕ) → is_some (option_map f o) ≡ words.is_some o
seen_some f None = refl
seen_some f (Some k) = refl

-- two pairs of numbers that are tested together
pub and_two : (a b c d : ℕ) → (a == b && c == d) ≡ true → (a ≡ b) × (c ≡ d)
and_two a b c d h = grind (arith, nat_tests)

-- Does one pass?

or_if : (a b : Bool) → (a || b) ≡ (if b then true else a)
or_if true true = refl
or_if true false = refl
or_if false true = refl
or_if false false = refl

pub any_seen : {A : Type 0} (n : ℕ) (s : ℕ → Bool) (f : ℕ → A) (p : A → Bool) → list_any p (map f (select n s)) ≡ any_below n (λ k. s k && p (f k))
unfolding select any_below
any_seen zero s f p = refl
any_seen (suc n) s f p =
    ap (list_any p) (map-append f (select n s) (if s n then n ∷ [] else []))
    ∙ list_any-append p (map f (select n s)) (map f (if s n then n ∷ [] else []))
    ∙ ap₂ ◌||◌ (any_seen n s f p) (one (s n))
    ∙ or_if (any_below n (λ k. s k && p (f k))) (s n && p (f n))
  where
    one : (b : Bool) → list_any p (map f (if b then n ∷ [] else [])) ≡ (b && p (f n))
    one true = or_no (p (f n))
    one false = refl

pub any_table : {A : Type 0} (n : ℕ) (f : ℕ → A) (p : A → Bool) → list_any p (tabulate n f) ≡ any_below n (λ k. p (f k))
unfolding tabulate any_below
any_table zero f p = refl
any_table (suc n) f p =
    list_any-append p (tabulate n f) (f n ∷ [])
    ∙ ap₂ ◌||◌ (any_table n f p) (or_no (p (f n)))
    ∙ or_if (any_below n (λ k. p (f k))) (p (f n))

-- The one that passes.

-- at most one of the list passes
abbrev pub IsAlone : {A : Type 0} → (A → Bool) → List A → Type 0
IsAlone p [] = Unit {0}
IsAlone p (x ∷ xs) = (p x ≡ true → find p xs ≡ None) × IsAlone p xs

or_none : {A : Type 0} (x y : Option A) → x ≡ None → y ≡ None → option_or x y ≡ None
or_none x y a b = ap₂ option_or a b

or_first : {A : Type 0} (x y : Option A) (a : A) → x ≡ Some a → option_or x y ≡ Some a
or_first x y a h = ap (λ z. option_or z y) h

or_second : {A : Type 0} (x y : Option A) (a : A) → x ≡ None → y ≡ Some a → option_or x y ≡ Some a
or_second x y a h k = ap₂ option_or h k

none_last : {A : Type 0} (f : ℕ → A) (p : A → Bool) (n : ℕ) (b : Bool) → (b ≡ true → p (f n) ≡ false) → find p (map f (if b then n ∷ [] else [])) ≡ None
none_last f p n true e = ap (λ c. if c then Some (f n) else None) (e refl)
none_last f p n false e = refl

one_last : {A : Type 0} (f : ℕ → A) (p : A → Bool) (n : ℕ) (b : Bool) → b ≡ true → p (f n) ≡ true → find p (map f (if b then n ∷ [] else [])) ≡ Some (f n)
one_last f p n true h e = ap (λ c. if c then Some (f n) else None) e
one_last f p n false h e = absurd (cc)

next_found :
    {A : Type 0} (n : ℕ) (s : ℕ → Bool) (f : ℕ → A) (p : A → Bool)
    → find p (map f (select n s ++ (if s n then n ∷ [] else []))) ≡ option_or (find p (map f (select n s))) (find p (map f (if s n then n ∷ [] else [])))
next_found n s f p =
    ap (find p) (map-append f (select n s) (if s n then n ∷ [] else []))
    ∙ find-append p (map f (select n s)) (map f (if s n then n ∷ [] else []))

pub find_none :
    {A : Type 0} (n : ℕ) (s : ℕ → Bool) (f : ℕ → A) (p : A → Bool) → ((k : ℕ) → k < n → s k ≡ true → p (f k) ≡ false)
    → find p (map f (select n s)) ≡ None
unfolding select
find_none zero s f p h = refl
find_none (suc n) s f p h =
    next_found n s f p
    ∙ or_none (find p (map f (select n s))) (find p (map f (if s n then n ∷ [] else []))) (find_none n s f p (λ k l. h k (omega arith)))
    (none_last f p n (s n) (h n (omega arith)))

-- of the numbers that pass, the one whose value is asked for
pub find_one :
    {A : Type 0} (n : ℕ) (s : ℕ → Bool) (f : ℕ → A) (p : A → Bool) (k : ℕ) → k < n → s k ≡ true → p (f k) ≡ true
    → ((j : ℕ) → j < n → s j ≡ true → p (f j) ≡ true → j ≡ k) → find p (map f (select n s)) ≡ Some (f k)
unfolding select
find_one zero s f p k l here passes one = absurd (omega arith)
find_one (suc n) s f p k l here passes one = next_found n s f p ∙ go (ℕ_cases k n) (find_one n s f p k)
  where
    fails : (j : ℕ) → k ≡ n → j < n → s j ≡ true → (b : Bool) → p (f j) ≡ b → b ≡ false
    fails j e m t false h = refl
    fails j e m t true h =
        let same : j ≡ k = one j (omega arith) t h in
        absurd (omega arith)

    go :
        (k ≡ n) ⊎ (k ≢ n)
        → (k < n → s k ≡ true → p (f k) ≡ true → ((j : ℕ) → j < n → s j ≡ true → p (f j) ≡ true → j ≡ k) → find p (map f (select n s)) ≡ Some (f k))
        → option_or (find p (map f (select n s))) (find p (map f (if s n then n ∷ [] else []))) ≡ Some (f k)
    go (inl e) rest =
        or_second (find p (map f (select n s))) (find p (map f (if s n then n ∷ [] else []))) (f n)
        (find_none n s f p (λ j m t. fails j e m t (p (f j)) refl))
        (one_last f p n (s n) (ap s (sym e) ∙ here) (ap (λ z. p (f z)) (sym e) ∙ passes))
        ∙ ap (λ z. Some (f z)) (sym e)
    go (inr ne) rest =
        or_first (find p (map f (select n s))) (find p (map f (if s n then n ∷ [] else []))) (f k)
        (rest (omega arith) here passes (λ j m. one j (omega arith)))

-- In a list that is sorted, where at most one passes.

alone_push : {A : Type 0} (p : A → Bool) (xs : List A) (y : A) → IsAlone p xs → (p y ≡ true → find p xs ≡ None) → IsAlone p (xs ++ y ∷ [])
alone_push p [] y a h = (λ t. refl, tt)
alone_push {A = A} p (x ∷ xs) y a h = (head, alone_push p xs y a.1 (λ t. rest (p x) (h t)))
  where
    rest : (b : Bool) → (if b then Some x else find p xs) ≡ None → find p xs ≡ None
    rest true e = absurd (cc)
    rest false e = e

    not_head : (b c : Bool) → p x ≡ b → b ≡ true → p y ≡ c → c ≡ false
    not_head b false e t g = refl
    not_head b true e t g =
        absurd (let n : (if p x then Some x else find p xs) ≡ None = h g in let m : p x ≡ true = e
        ∙ t in cc (sym (ap (λ z. if z then Some x else find p xs) m) ∙ n))

    head : p x ≡ true → find p (xs ++ y ∷ []) ≡ None
    head t =
        find-append p xs (y ∷ [])
        ∙ or_none (find p xs) (find p (y ∷ [])) (a.0 t) (ap (λ c. if c then Some y else None) (not_head (p x) (p y) refl t refl))

pub alone_select :
    {A : Type 0} (n : ℕ) (s : ℕ → Bool) (f : ℕ → A) (p : A → Bool)
    → ((j k : ℕ) → j < n → k < n → s j ≡ true → s k ≡ true → p (f j) ≡ true → p (f k) ≡ true → j ≡ k) → IsAlone p (map f (select n s))
unfolding select
alone_select zero s f p h = tt
alone_select {A = A} (suc n) s f p h =
    subst (IsAlone p) (sym (map-append f (select n s) (if s n then n ∷ [] else [])))
    (go (s n) refl (alone_select n s f p (λ j k l m. h j k (omega arith) (omega arith))))
  where
    nil : (xs : List A) → IsAlone p xs → IsAlone p (xs ++ [])
    nil xs a = subst (IsAlone p) (sym (append-nil xs)) a

    fails : (j : ℕ) → j < n → s n ≡ true → p (f n) ≡ true → s j ≡ true → (b : Bool) → p (f j) ≡ b → b ≡ false
    fails j l sn t sj false e = refl
    fails j l sn t sj true e =
        let same : j ≡ n = h j n (omega arith) (omega arith) sj sn e t in
        absurd (omega arith)

    go : (b : Bool) → s n ≡ b → IsAlone p (map f (select n s)) → IsAlone p (map f (select n s) ++ map f (if b then n ∷ [] else []))
    go true e a = alone_push p (map f (select n s)) (f n) a (λ t. find_none n s f p (λ j l sj. fails j l e t sj (p (f j)) refl))
    go false e a = nil (map f (select n s)) a

find_insert :
    {A : Type 0} (below : A → A → Bool) (p : A → Bool) (a : A) (xs : List A) → (p a ≡ true → find p xs ≡ None)
    → find p (insert_by below a xs) ≡ find p (a ∷ xs)
find_insert below p a [] h = refl
find_insert {A = A} below p a (x ∷ xs) h = go (below x a) (find_insert below p a xs)
  where
    rest : (b : Bool) → (if b then Some x else find p xs) ≡ None → find p xs ≡ None
    rest true e = absurd (cc)
    rest false e = e

    swap :
        (b c : Bool) → p a ≡ b → p x ≡ c
        → (if c then Some x else (if b then Some a else find p xs)) ≡ (if b then Some a else (if c then Some x else find p xs))
    swap true true e g = absurd (cc (sym (ap (λ z. if z then Some x else find p xs) g) ∙ h e))
    swap true false e g = refl
    swap false true e g = refl
    swap false false e g = refl

    go :
        (b : Bool) → ((p a ≡ true → find p xs ≡ None) → find p (insert_by below a xs) ≡ find p (a ∷ xs))
        → find p (if b then x ∷ insert_by below a xs else a ∷ x ∷ xs) ≡ find p (a ∷ x ∷ xs)
    go true more = ap (λ z. if p x then Some x else z) (more (λ t. rest (p x) (h t))) ∙ swap (p a) (p x) refl refl
    go false more = refl

pub find_sorted : {A : Type 0} (below : A → A → Bool) (p : A → Bool) (xs : List A) → IsAlone p xs → find p (sorted_by below xs) ≡ find p xs
find_sorted below p [] h = refl
find_sorted below p (x ∷ xs) h =
    find_insert below p x (sorted_by below xs) (λ t. find_sorted below p xs h.1 ∙ h.0 t)
    ∙ ap (λ z. if p x then Some x else z) (find_sorted below p xs h.1)
