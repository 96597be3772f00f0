-- The numbers that pass, each seen by a function: what stands in the list when more numbers come, when the first one goes,
-- and when some are taken out.
use Rattle.std.proofs.Common.{◌≡◌, ◌≢◌, ◌⊎◌, inl, inr, refl, ap, ap₂, sym, ◌∙◌, ℕ, zero, suc, ◌+◌, ◌<◌, Bool, true, false, arith, append-nil, append_assoc}
use Rattle.std.specs.Prelude.{if◌then◌else◌, List, [], ◌∷◌, ◌++◌, map, filter, drop}
use Rattle.sva_model.specs.Words.{select, tabulate}
use Rattle.sva_labels.proofs.Words.{ℕ_cases}
pub use Rattle.sva_refinement.proofs.LookedLists.{seen_next as picked_next}

-- what stands at a number that may pass
abbrev pub if_passes : {A : Type 0} → Bool → A → List A
if_passes true a = a ∷ []
if_passes false a = []

same_passes : {A : Type 0} (b c : Bool) (x y : A) → b ≡ c → (b ≡ true → x ≡ y) → if_passes b x ≡ if_passes c y
same_passes true true x y e h = ap (λ z. z ∷ []) (h refl)
same_passes true false x y e h = absurd (cc (e))
same_passes false true x y e h = absurd (cc (e))
same_passes false false x y e h = refl

-- the same numbers pass, and are seen alike
pub picked_same :
    {A : Type 0} (n : ℕ) (f g : ℕ → A) (p q : ℕ → Bool) → ((k : ℕ) → k < n → p k ≡ q k) → ((k : ℕ) → k < n → p k ≡ true → f k ≡ g k)
    → map f (select n p) ≡ map g (select n q)
unfolding select
picked_same zero f g p q h e = refl
picked_same (suc n) f g p q h e =
    picked_next f n p
    ∙ ap₂ (λ xs ys. xs ++ ys) (picked_same n f g p q (λ k l. h k (omega arith)) (λ k l. e k (omega arith)))
    (same_passes (p n) (q n) (f n) (g n) (h n (omega arith)) (e n (omega arith)))
    ∙ sym (picked_next g n q)

pub picked_none : {A : Type 0} (n : ℕ) (f : ℕ → A) (p : ℕ → Bool) → ((k : ℕ) → k < n → p k ≡ false) → map f (select n p) ≡ []
unfolding select
picked_none zero f p h = refl
picked_none (suc n) f p h = picked_next f n p ∙ ap₂ (λ xs b. xs ++ if_passes b (f n)) (picked_none n f p (λ k l. h k (omega arith))) (h n (omega arith))

-- so many numbers more, which all pass
pub picked_more :
    {A : Type 0} (n s : ℕ) (f : ℕ → A) (p : ℕ → Bool) → ((j : ℕ) → j < s → p (n + j) ≡ true)
    → map f (select (n + s) p) ≡ map f (select n p) ++ tabulate s (λ j. f (n + j))
unfolding tabulate
picked_more n zero f p h = let same : n + 0 ≡ n = omega arith in ap (λ z. map f (select z p)) same ∙ sym (append-nil (map f (select n p)))
picked_more n (suc s) f p h =
    let next : n + suc s ≡ suc (n + s) = omega arith in
    ap (λ z. map f (select z p)) next
    ∙ picked_next f (n + s) p
    ∙ ap₂ (λ xs b. xs ++ if_passes b (f (n + s))) (picked_more n s f p (λ j l. h j (omega arith))) (h s (omega arith))
    ∙ append_assoc (map f (select n p)) (tabulate s (λ j. f (n + j))) (f (n + s) ∷ [])

-- a number more, which passes
pub picked_one_more : {A : Type 0} (n : ℕ) (f : ℕ → A) (p : ℕ → Bool) → p n ≡ true → map f (select (suc n) p) ≡ map f (select n p) ++ f n ∷ []
picked_one_more n f p h = picked_next f n p ∙ ap (λ b. map f (select n p) ++ if_passes b (f n)) h

-- The first one passes no more.

drop_append : {A : Type 0} (xs ys : List A) (x : A) (zs : List A) → xs ≡ x ∷ zs → drop 1 (xs ++ ys) ≡ drop 1 xs ++ ys
drop_append [] ys x zs h = absurd (cc)
drop_append (y ∷ xs) ys x zs h = refl

-- what is first in the list is what the lowest number that passes is seen as
pub picked_first :
    {A : Type 0} (n k : ℕ) (f : ℕ → A) (p : ℕ → Bool) → k < n → p k ≡ true → ((j : ℕ) → j < k → p j ≡ false)
    → (zs : List A) × (map f (select n p) ≡ f k ∷ zs)
picked_first {A = A} zero k f p l h none = absurd (omega arith)
picked_first {A = A} (suc n) k f p l h none = go (ℕ_cases k n) (λ m. picked_first n k f p m h none)
  where
    go : (k ≡ n) ⊎ (k ≢ n) → (k < n → (zs : List A) × (map f (select n p) ≡ f k ∷ zs)) → (zs : List A) × (map f (select (suc n) p) ≡ f k ∷ zs)
    go (inl e) rest = (
      [],
      picked_next f n p
          ∙ ap₂ (λ xs b. xs ++ if_passes b (f n)) (picked_none n f p (λ j m. none j (omega (arith, m, e)))) (ap p (sym e) ∙ h)
          ∙ ap (λ z. f z ∷ []) (sym e),
    )
    go (inr ne) rest = let (zs, e) = rest (omega arith) in (zs ++ if_passes (p n) (f n), picked_next f n p ∙ ap (λ xs. xs ++ if_passes (p n) (f n)) e)

pub picked_drop :
    {A : Type 0} (n k : ℕ) (f g : ℕ → A) (p q : ℕ → Bool) → k < n → p k ≡ true → ((j : ℕ) → j < k → p j ≡ false) → q k ≡ false
    → ((j : ℕ) → j < n → j ≢ k → q j ≡ p j) → ((j : ℕ) → j < n → q j ≡ true → g j ≡ f j) → map g (select n q) ≡ drop 1 (map f (select n p))
picked_drop zero k f g p q l h none gone other seen = absurd (omega arith)
picked_drop (suc n) k f g p q l h none gone other seen =
    go (ℕ_cases k n) (λ m. picked_drop n k f g p q m h none gone (λ j i. other j (omega arith)) (λ j i. seen j (omega arith)))
  where
    none_left : k ≡ n → (j : ℕ) → j < suc n → q j ≡ false
    none_left e j m = at (ℕ_cases j k)
      where
        at : (j ≡ k) ⊎ (j ≢ k) → q j ≡ false
        at (inl x) = ap q x ∙ gone
        at (inr x) = other j m x ∙ none j (omega (arith, m, e, x))

    go : (k ≡ n) ⊎ (k ≢ n) → (k < n → map g (select n q) ≡ drop 1 (map f (select n p))) → map g (select (suc n) q) ≡ drop 1 (map f (select (suc n) p))
    go (inl e) rest =
        picked_none (suc n) g q (none_left e)
        ∙ sym (ap (drop 1)
        (picked_next f n p ∙ ap₂ (λ xs b. xs ++ if_passes b (f n)) (picked_none n f p (λ j m. none j (omega (arith, m, e)))) (ap p (sym e) ∙ h)))
    go (inr ne) rest =
        let first = picked_first n k f p (omega arith) h none in
        picked_next g n q
        ∙ ap₂ (λ xs ys. xs ++ ys) (rest (omega arith)) (same_passes (q n) (p n) (g n) (f n) (other n (omega arith) (λ e. ne (sym e))) (seen n (omega arith)))
        ∙ sym (drop_append (map f (select n p)) (if_passes (p n) (f n)) (f k) first.0 first.1)
        ∙ sym (ap (drop 1) (picked_next f n p))

-- Some are taken out, by what they are seen as.

pub filter_append : {A : Type 0} (c : A → Bool) (xs ys : List A) → filter c (xs ++ ys) ≡ filter c xs ++ filter c ys
filter_append c [] ys = refl
filter_append c (x ∷ xs) ys = go (c x) (filter_append c xs ys)
  where
    go :
        (b : Bool) → filter c (xs ++ ys) ≡ filter c xs ++ filter c ys
        → (if b then x ∷ filter c (xs ++ ys) else filter c (xs ++ ys)) ≡ (if b then x ∷ filter c xs else filter c xs) ++ filter c ys
    go true h = ap (λ zs. x ∷ zs) h
    go false h = h

filter_passes :
    {A : Type 0} (c : A → Bool) (b d : Bool) (x y : A) → (b ≡ true → d ≡ c x) → (b ≡ false → d ≡ false) → (d ≡ true → y ≡ x)
    → if_passes d y ≡ filter c (if_passes b x)
filter_passes c true d x y h i e = go d (c x) (h refl) e
  where
    go : (d t : Bool) → d ≡ t → (d ≡ true → y ≡ x) → if_passes d y ≡ (if t then x ∷ [] else [])
    go true true h e = ap (λ z. z ∷ []) (e refl)
    go true false h e = absurd (cc (h))
    go false true h e = absurd (cc (h))
    go false false h e = refl
filter_passes c false true x y h i e = absurd (let z = i refl in cc)
filter_passes c false false x y h i e = refl

pub picked_filter :
    {A : Type 0} (n : ℕ) (f g : ℕ → A) (p q : ℕ → Bool) (c : A → Bool) → ((k : ℕ) → k < n → p k ≡ true → q k ≡ c (f k))
    → ((k : ℕ) → k < n → p k ≡ false → q k ≡ false) → ((k : ℕ) → k < n → q k ≡ true → g k ≡ f k)
    → map g (select n q) ≡ filter c (map f (select n p))
unfolding select
picked_filter zero f g p q c h i e = refl
picked_filter (suc n) f g p q c h i e =
    picked_next g n q
    ∙ ap₂ (λ xs ys. xs ++ ys) (picked_filter n f g p q c (λ k l. h k (omega arith)) (λ k l. i k (omega arith)) (λ k l. e k (omega arith)))
    (filter_passes c (p n) (q n) (f n) (g n) (h n (omega arith)) (i n (omega arith)) (e n (omega arith)))
    ∙ sym (filter_append c (map f (select n p)) (if_passes (p n) (f n)))
    ∙ sym (ap (filter c) (picked_next f n p))
