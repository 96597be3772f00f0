-- Tables as lists, and the numbers that pass: what is read back from them, and what a change of one entry does.
use Rattle.std.proofs.Common.{◌≡◌, ◌≢◌, ◌⊎◌, inl, inr, refl, ap, ap₂, sym, ◌∙◌, ℕ, zero, suc, ◌+◌, ◌<◌, ◌≤◌, Bool, true, false, arith, length-append, get_or}
use Rattle.std.specs.Prelude.{if◌then◌else◌, ◌==◌, List, Some, [], ◌∷◌, ◌++◌, length, replicate, slice_get, slice_set}
use Rattle.std.proofs.lemmas.List.{set-append_left, set_at, set_past, get_or_at, get_or_past, get_or_append_left, replicate_more}
use Rattle.sva_model.specs.Words.{step_lowest, lowest, any_below, all_below, select, tabulate}
use Rattle.sva_labels.proofs.Words.{ℕ_cases}
pub use Rattle.sva_labels.proofs.Counting.{length_select as select_length}

-- Lists with more at their end.

pub get_before : {A : Type 0} (xs ys : List A) (k : ℕ) (x : A) → slice_get xs k ≡ Some x → slice_get (xs ++ ys) k ≡ Some x
get_before [] ys k x h = absurd (cc)
get_before (a ∷ xs) ys zero x h = h
get_before (a ∷ xs) ys (suc k) x h = get_before xs ys k x h

pub get_end : {A : Type 0} (xs : List A) (x : A) → slice_get (xs ++ x ∷ []) (length xs) ≡ Some x
get_end [] x = refl
get_end (a ∷ xs) x = get_end xs x

-- Tables.

pub tabulate_same : {A : Type 0} (n : ℕ) (f g : ℕ → A) → ((k : ℕ) → k < n → f k ≡ g k) → tabulate n f ≡ tabulate n g
unfolding tabulate
tabulate_same zero f g h = refl
tabulate_same (suc n) f g h = ap₂ (λ xs x. xs ++ x ∷ []) (tabulate_same n f g (λ k l. h k (omega arith))) (h n (omega arith))

pub tabulate_first : {A : Type 0} (n : ℕ) (f : ℕ → A) → tabulate (suc n) f ≡ f 0 ∷ tabulate n (λ k. f (suc k))
unfolding tabulate
tabulate_first zero f = refl
tabulate_first (suc n) f = ap (λ xs. xs ++ f (suc n) ∷ []) (tabulate_first n f)

pub tabulate_length : {A : Type 0} (n : ℕ) (f : ℕ → A) → length (tabulate n f) ≡ n
unfolding tabulate
tabulate_length zero f = refl
tabulate_length (suc n) f =
    let rest : length (tabulate n f) ≡ n = tabulate_length n f in
    length-append (tabulate n f) (f n ∷ []) ∙ omega arith

-- what stands at a number
pub tabulate_at : {A : Type 0} (n : ℕ) (f : ℕ → A) (k : ℕ) (d : A) → k < n → get_or (tabulate n f) k d ≡ f k
unfolding tabulate
tabulate_at zero f k d l = absurd (omega arith)
tabulate_at (suc n) f k d l = go (ℕ_cases k n) (λ m. tabulate_at n f k d m)
  where
    go : (k ≡ n) ⊎ (k ≢ n) → (k < n → get_or (tabulate n f) k d ≡ f k) → get_or (tabulate n f ++ f n ∷ []) k d ≡ f k
    go (inl e) rest = get_or_at (tabulate n f) (f n) [] d k (tabulate_length n f ∙ sym e) ∙ ap f (sym e)
    go (inr ne) rest =
        let len : length (tabulate n f) ≡ n = tabulate_length n f in
        get_or_append_left (tabulate n f) (f n ∷ []) d k (omega arith) ∙ rest (omega arith)

-- the same at each number
pub tabulate_one : {A : Type 0} (n : ℕ) (x : A) → tabulate n (λ k. x) ≡ replicate n x
unfolding tabulate
tabulate_one zero x = refl
tabulate_one (suc n) x =
    let more : n + 1 ≡ suc n = omega arith in
    ap (λ xs. xs ++ x ∷ []) (tabulate_one n x) ∙ replicate_more n x ∙ ap (λ k. replicate k x) more

-- a table with another entry at one number, which may be past its end
pub tabulate_set : {A : Type 0} (n : ℕ) (g h : ℕ → A) (f : ℕ) (v : A) → h f ≡ v → ((k : ℕ) → k ≢ f → h k ≡ g k) → tabulate n h ≡ slice_set (tabulate n g) f v
unfolding tabulate
tabulate_set zero g h f v here other = sym (set_past [] f v (omega arith))
tabulate_set (suc n) g h f v here other = go (ℕ_cases f n) (tabulate_set n g h f v here other)
  where
    below_or_past : f ≢ n → tabulate n h ≡ slice_set (tabulate n g) f v → (f < n) ⊎ (n < f) → tabulate n h ++ h n ∷ []
        ≡ slice_set (tabulate n g ++ g n ∷ []) f v
    below_or_past ne rest (inl l) =
        let len : length (tabulate n g) ≡ n = tabulate_length n g in
        ap₂ (λ xs x. xs ++ x ∷ []) rest (other n (omega arith)) ∙ sym (set-append_left (tabulate n g) (g n ∷ []) f v (omega arith))
    below_or_past ne rest (inr l) =
        let len : length (tabulate n g) ≡ n = tabulate_length n g in
        let more : length (tabulate n g ++ g n ∷ []) ≡ n + 1 = length-append (tabulate n g) (g n ∷ []) ∙ omega arith in
        ap₂ (λ xs x. xs ++ x ∷ []) (tabulate_same n h g (λ k m. other k (omega arith))) (other n (omega arith))
        ∙ sym (set_past (tabulate n g ++ g n ∷ []) f v (omega arith))

    go : (f ≡ n) ⊎ (f ≢ n) → tabulate n h ≡ slice_set (tabulate n g) f v → tabulate n h ++ h n ∷ [] ≡ slice_set (tabulate n g ++ g n ∷ []) f v
    go (inl e) rest =
        ap₂ (λ xs x. xs ++ x ∷ []) (tabulate_same n h g (λ k m. other k (omega arith))) (ap h (sym e) ∙ here)
        ∙ sym (set_at (tabulate n g) (g n) [] v f (tabulate_length n g ∙ sym e))
    go (inr ne) rest = below_or_past ne rest (grind arith)

-- The numbers that pass.

pub select_same : (n : ℕ) (p q : ℕ → Bool) → ((k : ℕ) → k < n → p k ≡ q k) → select n p ≡ select n q
unfolding select
select_same zero p q h = refl
select_same (suc n) p q h = ap₂ (λ xs b. xs ++ (if b then n ∷ [] else [])) (select_same n p q (λ k l. h k (omega arith))) (h n (omega arith))

pub lowest_same : (n : ℕ) (p q : ℕ → Bool) → ((k : ℕ) → k < n → p k ≡ q k) → lowest n p ≡ lowest n q
unfolding lowest
lowest_same zero p q h = refl
lowest_same (suc n) p q h = ap₂ (λ l b. step_lowest (l == n) l n b) (lowest_same n p q (λ k l. h k (omega arith))) (h n (omega arith))

pub all_same : (n : ℕ) (p q : ℕ → Bool) → ((k : ℕ) → k < n → p k ≡ q k) → all_below n p ≡ all_below n q
unfolding all_below
all_same zero p q h = refl
all_same (suc n) p q h = ap₂ (λ b c. if c then b else false) (all_same n p q (λ k l. h k (omega arith))) (h n (omega arith))

pub any_same : (n : ℕ) (p q : ℕ → Bool) → ((k : ℕ) → k < n → p k ≡ q k) → any_below n p ≡ any_below n q
unfolding any_below
any_same zero p q h = refl
any_same (suc n) p q h = ap₂ (λ b c. if c then true else b) (any_same n p q (λ k l. h k (omega arith))) (h n (omega arith))

pub none_below : (n : ℕ) (p : ℕ → Bool) → ((k : ℕ) → k < n → p k ≡ false) → any_below n p ≡ false
unfolding any_below
none_below zero p h = refl
none_below (suc n) p h = ap₂ (λ b c. if c then true else b) (none_below n p (λ k l. h k (omega arith))) (h n (omega arith))

-- past the end of a table there is nothing
pub tabulate_past : {A : Type 0} (n : ℕ) (f : ℕ → A) (k : ℕ) (d : A) → n ≤ k → get_or (tabulate n f) k d ≡ d
tabulate_past n f k d l =
    let len : length (tabulate n f) ≡ n = tabulate_length n f in
    get_or_past (tabulate n f) k d (omega arith)
