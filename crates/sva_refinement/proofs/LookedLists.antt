-- What a search finds in the list of the numbers that pass, each seen by a function, and in a table.
use Rattle.std.proofs.Common.{◌≡◌, ◌⊎◌, inl, inr, refl, ap, ap₂, sym, ◌∙◌, ℕ, zero, suc, ◌+◌, ◌<◌, Bool, true, false, arith}
use Rattle.std.specs.Prelude.{Option, Some, None, option_map, ◌&&◌, ◌==◌, nat_lt, if◌then◌else◌, List, [], ◌∷◌, ◌++◌, map, length}
use Rattle.std.specs.Option.{option_or}
use Rattle.std.specs.List as lists
use Rattle.std.specs.List.{count_by}
use Rattle.std.proofs.lemmas.List.{map-append, length-map}
use Rattle.std.proofs.lemmas.List.Folds.{find-append}
use Rattle.std.proofs.lemmas.List.Sums.{sum_by-append}
use Rattle.std.proofs.lemmas.Bool.Decides.{nat_tests}
use Rattle.std.proofs.lemmas.Bool.{eq-eqb, lt-ltb}
use Rattle.sva_model.specs.Words.{find, if_found, lowest, step_lowest, count_below, select}
use Rattle.sva_labels.proofs.Words.{lowest_cases, find_some}
use Rattle.sva_labels.proofs.Tests.{lower_differs, none_before}
use Rattle.sva_labels.proofs.Lists.{select_length}
pub use Rattle.sva_refinement.proofs.DeviceSorted.{none_selected as select_none}

-- Searches by number.

-- the first that passes below a number more
abbrev pub or_first : (a : Option ℕ) (n : ℕ) (b : Bool) → Option ℕ
or_first None n b = if_found b n
or_first (Some k) n b = Some k

find_step :
    (z n : ℕ) (b : Bool) → (z ≡ n) ⊎ (z < n)
    → if_found (nat_lt (step_lowest (z == n) z n b) (suc n)) (step_lowest (z == n) z n b) ≡ or_first (if_found (nat_lt z n) z) n b
find_step z n b (inl e) = here (z == n) (nat_lt z n) (eq-eqb z n e) (not_less z n e) b
  where
    not_less : (z n : ℕ) → z ≡ n → nat_lt z n ≡ false
    not_less z n e = grind (arith, nat_tests)

    now : nat_lt n (suc n) ≡ true
    now = grind (arith, nat_tests)

    past : nat_lt (suc n) (suc n) ≡ false
    past = grind (arith, nat_tests)

    here :
        (t u : Bool) → t ≡ true → u ≡ false → (b : Bool)
        → if_found (nat_lt (step_lowest t z n b) (suc n)) (step_lowest t z n b) ≡ or_first (if_found u z) n b
    here true false h k true = ap (λ x. if_found x n) now
    here true false h k false = ap (λ x. if_found x (suc n)) past
    here false u h k b = absurd (cc (h))
    here true true h k b = absurd (cc (k))
find_step z n b (inr l) = here (z == n) (nat_lt z n) (lower_differs z n l) (lt-ltb z n l)
  where
    still : nat_lt z (suc n) ≡ true
    still = grind (arith, nat_tests)

    here : (t u : Bool) → t ≡ false → u ≡ true → if_found (nat_lt (step_lowest t z n b) (suc n)) (step_lowest t z n b) ≡ or_first (if_found u z) n b
    here false true h k = ap (λ x. if_found x z) still
    here true u h k = absurd (cc (h))
    here false false h k = absurd (cc (k))

pub find_next : (n : ℕ) (p : ℕ → Bool) → find (suc n) p ≡ or_first (find n p) n (p n)
unfolding lowest
find_next n p = find_step (lowest n p) n (p n) (go (lowest_cases n p))
  where
    go :
        ((lowest n p ≡ n) × ((j : ℕ) → j < n → p j ≡ false)) ⊎ ((lowest n p < n) × (p (lowest n p) ≡ true) × ((j : ℕ) → j < lowest n p → p j ≡ false))
        → (lowest n p ≡ n) ⊎ (lowest n p < n)
    go (inl x) = inl x.0
    go (inr x) = inr x.0

pub find_same : (n : ℕ) (p q : ℕ → Bool) → ((k : ℕ) → k < n → p k ≡ q k) → find n p ≡ find n q
unfolding lowest
find_same zero p q h = refl
find_same (suc n) p q h = find_next n p ∙ ap₂ (λ o b. or_first o n b) (find_same n p q (λ k l. h k (omega arith))) (h n (omega arith)) ∙ sym (find_next n q)

pub find_none : (n : ℕ) (p : ℕ → Bool) → ((k : ℕ) → k < n → p k ≡ false) → find n p ≡ None
find_none n p h = go (lowest_cases n p)
  where
    none : (z : ℕ) → z ≡ n → if_found (nat_lt z n) z ≡ None
    none z e = grind (arith, nat_tests)

    go :
        ((lowest n p ≡ n) × ((j : ℕ) → j < n → p j ≡ false)) ⊎ ((lowest n p < n) × (p (lowest n p) ≡ true) × ((j : ℕ) → j < lowest n p → p j ≡ false))
        → find n p ≡ None
    go (inl x) = none (lowest n p) x.0
    go (inr x) = absurd (let f = h (lowest n p) x.0 in cc (sym f ∙ x.1))

-- the one number that passes is found
pub find_only : (n : ℕ) (p : ℕ → Bool) (k : ℕ) → k < n → p k ≡ true → ((j : ℕ) → j < n → p j ≡ true → j ≡ k) → find n p ≡ Some k
find_only n p k l t one = go (lowest_cases n p)
  where
    go :
        ((lowest n p ≡ n) × ((j : ℕ) → j < n → p j ≡ false)) ⊎ ((lowest n p < n) × (p (lowest n p) ≡ true) × ((j : ℕ) → j < lowest n p → p j ≡ false))
        → find n p ≡ Some k
    go (inl x) = absurd (let f = x.1 k l in cc (sym f ∙ t))
    go (inr x) = find_some n p k l t ∙ ap (λ z. Some z) (one (lowest n p) x.0 x.1)

-- Numbers that pass, each seen by a function.

-- what stands at a number that may pass
abbrev pub if_passes : {A : Type 0} → Bool → A → List A
if_passes true a = a ∷ []
if_passes false a = []

pub seen_next : {A : Type 0} (f : ℕ → A) (n : ℕ) (p : ℕ → Bool) → map f (select (suc n) p) ≡ map f (select n p) ++ if_passes (p n) (f n)
unfolding select
seen_next f n p = map-append f (select n p) (if p n then n ∷ [] else []) ∙ ap (λ xs. map f (select n p) ++ xs) (go (p n))
  where
    go : (b : Bool) → map f (if b then n ∷ [] else []) ≡ if_passes b (f n)
    go true = refl
    go false = refl

-- the first that passes a test is that of the lowest number
pub find_seen :
    {A : Type 0} (f : ℕ → A) (test : A → Bool) (n : ℕ) (p : ℕ → Bool)
    → lists.find test (map f (select n p)) ≡ option_map f (find n (λ k. p k && test (f k)))
unfolding select lowest
find_seen f test zero p = refl
find_seen {A = A} f test (suc n) p =
    ap (lists.find test) (seen_next f n p)
    ∙ find-append test (map f (select n p)) (if_passes (p n) (f n))
    ∙ go (p n) (test (f n)) refl (find n (λ k. p k && test (f k))) (lists.find test (map f (select n p))) (find_seen f test n p)
    ∙ ap (option_map f) (sym (find_next n (λ k. p k && test (f k))))
  where
    last : (b c : Bool) → test (f n) ≡ c → lists.find test (if_passes b (f n)) ≡ option_map f (if_found (b && c) n)
    last true true e = ap (λ t. if t then Some (f n) else None) e
    last true false e = ap (λ t. if t then Some (f n) else None) e
    last false c e = refl

    go :
        (b c : Bool) → test (f n) ≡ c → (o : Option ℕ) (r : Option A) → r ≡ option_map f o
        → option_or r (lists.find test (if_passes b (f n))) ≡ option_map f (or_first o n (b && c))
    go b c e None None h = last b c e
    go b c e (Some k) (Some a) h = h
    go b c e None (Some a) h = absurd (cc (h))
    go b c e (Some k) None h = absurd (cc (h))

-- how many pass a test
pub count_seen : {A : Type 0} (f : ℕ → A) (test : A → Bool) (n : ℕ) (p : ℕ → Bool) → count_by test (map f (select n p))
    ≡ count_below n (λ k. p k && test (f k))
unfolding select count_below
count_seen f test zero p = refl
count_seen f test (suc n) p =
    ap (count_by test) (seen_next f n p)
    ∙ sum_by-append (λ x. if test x then 1 else 0) (map f (select n p)) (if_passes (p n) (f n))
    ∙ go (p n) (test (f n)) refl (count_below n (λ k. p k && test (f k))) (count_seen f test n p)
  where
    one : count_by test (f n ∷ []) ≡ (if test (f n) then 1 else 0)
    one = none_before (if test (f n) then 1 else 0)

    go :
        (b c : Bool) → test (f n) ≡ c → (r : ℕ) → count_by test (map f (select n p)) ≡ r
        → count_by test (map f (select n p)) + count_by test (if_passes b (f n)) ≡ (if b && c then suc r else r)
    go true true e r h = ap₂ (λ x y. x + y) h (one ∙ ap (λ t. if t then 1 else 0) e) ∙ omega arith
    go true false e r h = ap₂ (λ x y. x + y) h (one ∙ ap (λ t. if t then 1 else 0) e) ∙ omega arith
    go false c e r h = omega (arith, h)

-- as many as pass
pub length_seen : {A : Type 0} (f : ℕ → A) (n : ℕ) (p : ℕ → Bool) → length (map f (select n p)) ≡ count_below n p
length_seen f n p = length-map (select n p) f ∙ select_length n p

-- The first of those that pass.

pub select_first : (n : ℕ) (p : ℕ → Bool) → lowest n p < n → (rest : List ℕ) × (select n p ≡ lowest n p ∷ rest)
unfolding select lowest
select_first zero p l = absurd (omega arith)
select_first (suc n) p l = go (p n) refl (lowest_cases n p) (select_first n p)
  where
    first : (z : ℕ) → z ≡ n → (b : Bool) → b ≡ true → step_lowest (z == n) z n b ≡ n
    first z e b t = grind (arith, nat_tests)

    over : (z : ℕ) → z ≡ n → (b : Bool) → b ≡ false → step_lowest (z == n) z n b ≡ suc n
    over z e b t = grind (arith, nat_tests)

    stays : (z : ℕ) (b : Bool) → z < n → z ≡ step_lowest (z == n) z n b
    stays z b l = grind (arith, nat_tests)

    go :
        (b : Bool) → p n ≡ b
        → ((lowest n p ≡ n) × ((j : ℕ) → j < n → p j ≡ false)) ⊎ ((lowest n p < n) × (p (lowest n p) ≡ true) × ((j : ℕ) → j < lowest n p → p j ≡ false))
        → (lowest n p < n → (rest : List ℕ) × (select n p ≡ lowest n p ∷ rest))
        → (rest : List ℕ) × (select n p ++ (if p n then n ∷ [] else []) ≡ step_lowest (lowest n p == n) (lowest n p) n (p n) ∷ rest)
    go true e (inl x) rest =
        ([], ap₂ (λ xs b. xs ++ (if b then n ∷ [] else [])) (select_none n p x.1) e ∙ ap (λ k. k ∷ []) (sym (first (lowest n p) x.0 (p n) e)))
    go false e (inl x) rest = absurd (let o : step_lowest (lowest n p == n) (lowest n p) n (p n) ≡ suc n = over (lowest n p) x.0 (p n) e in omega arith)
    go b e (inr x) rest =
        let r = rest x.0 in (
          r.0 ++ (if p n then n ∷ [] else []),
          ap (λ xs. xs ++ (if p n then n ∷ [] else [])) r.1
              ∙ ap (λ k. k ∷ (r.0 ++ (if p n then n ∷ [] else []))) (stays (lowest n p) (p n) x.0),
        )
