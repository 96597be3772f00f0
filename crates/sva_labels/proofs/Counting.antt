-- How many pass.
use Rattle.std.proofs.Common.{◌≡◌, ◌≢◌, ◌⊎◌, inl, inr, refl, ap, subst, sym, ◌∙◌, ℕ, zero, suc, ◌+◌, ◌<◌, ◌≤◌, Bool, true, false, arith}
use Rattle.std.specs.Prelude.{if◌then◌else◌, List, [], ◌∷◌, ◌++◌, length}
use Rattle.sva_model.specs.Words.{put, count_below, select}
use Rattle.sva_labels.proofs.Words.{put-same, put-other, ℕ_cases}

unfoldable pub bit : Bool → ℕ
bit true = 1
bit false = 0

pub count_next : (n : ℕ) (f : ℕ → Bool) → count_below (suc n) f ≡ bit (f n) + count_below n f
unfolding count_below bit
count_next n f = go (f n)
  where
    go : (b : Bool) → (if b then suc (count_below n f) else count_below n f) ≡ bit b + count_below n f
    go true = omega arith
    go false = omega arith

pub count_same : (n : ℕ) (f g : ℕ → Bool) → ((c : ℕ) → c < n → f c ≡ g c) → count_below n f ≡ count_below n g
unfolding count_below
count_same zero f g h = refl
count_same (suc n) f g h =
    let a : bit (f n) ≡ bit (g n) = ap bit (h n (omega arith)) in
    let b : count_below n f ≡ count_below n g = count_same n f g (λ c l. h c (omega arith)) in
    omega (arith, count_next n f, count_next n g)

pub count_zero : (n : ℕ) (f : ℕ → Bool) → ((c : ℕ) → c < n → f c ≡ false) → count_below n f ≡ 0
unfolding count_below bit
count_zero zero f h = refl
count_zero (suc n) f h =
    let a : bit (f n) ≡ 0 = ap bit (h n (omega arith)) in
    let b : count_below n f ≡ 0 = count_zero n f (λ c l. h c (omega arith)) in
    omega (arith, count_next n f)

pub bit_less : (b c : Bool) → (b ≡ true → c ≡ true) → bit b ≤ bit c
unfolding bit
bit_less true true h = omega arith
bit_less true false h = absurd (let k = h refl in cc)
bit_less false c h = omega arith

pub count_less : (n : ℕ) (f g : ℕ → Bool) → ((c : ℕ) → c < n → f c ≡ true → g c ≡ true) → count_below n f ≤ count_below n g
unfolding count_below
count_less zero f g h = omega arith
count_less (suc n) f g h =
    let a : bit (f n) ≤ bit (g n) = bit_less (f n) (g n) (h n (omega arith)) in
    let b : count_below n f ≤ count_below n g = count_less n f g (λ c l. h c (omega arith)) in
    omega (arith, count_next n f, count_next n g)

pub bit_most : (b : Bool) → bit b ≤ 1
unfolding bit
bit_most true = omega arith
bit_most false = omega arith

pub count_most : (n : ℕ) (f : ℕ → Bool) → count_below n f ≤ n
unfolding count_below bit
count_most zero f = omega arith
count_most (suc n) f = omega (arith, count_next n f, count_most n f, bit_most (f n))

pub count_more : (n s : ℕ) (f : ℕ → Bool) → ((c : ℕ) → n ≤ c → c < n + s → f c ≡ false) → count_below (n + s) f ≡ count_below n f
unfolding bit
count_more n zero f h = let same : n + 0 ≡ n = omega arith in ap (λ z. count_below z f) same
count_more n (suc s) f h =
    let a : bit (f (n + s)) ≡ 0 = ap bit (h (n + s) (omega arith) (omega arith)) in
    let b : count_below (n + s) f ≡ count_below n f = count_more n s f (λ c l m. h c l (omega arith)) in
    let same : n + suc s ≡ suc (n + s) = omega arith in
    let e : count_below (n + suc s) f ≡ count_below (suc (n + s)) f = ap (λ z. count_below z f) same in
    omega (arith, e, count_next (n + s) f)

pub count_all : (n s : ℕ) (f : ℕ → Bool) → ((c : ℕ) → n ≤ c → c < n + s → f c ≡ true) → count_below (n + s) f ≡ s + count_below n f
unfolding bit
count_all n zero f h = let same : n + 0 ≡ n = omega arith in let e : count_below (n + 0) f ≡ count_below n f =
    ap (λ z. count_below z f) same in omega (arith, e)
count_all n (suc s) f h =
    let a : bit (f (n + s)) ≡ 1 = ap bit (h (n + s) (omega arith) (omega arith)) in
    let b : count_below (n + s) f ≡ s + count_below n f = count_all n s f (λ c l m. h c l (omega arith)) in
    let same : n + suc s ≡ suc (n + s) = omega arith in
    let e : count_below (n + suc s) f ≡ count_below (suc (n + s)) f = ap (λ z. count_below z f) same in
    omega (arith, e, count_next (n + s) f)

pub count_off : (n : ℕ) (f g : ℕ → Bool) (c : ℕ) → c < n → f c ≡ true → g c ≡ false → ((d : ℕ) → d ≢ c → f d ≡ g d) → count_below n f ≡ suc (count_below n g)
unfolding count_below bit
count_off zero f g c l a b h = absurd (omega arith)
count_off (suc n) f g c l a b h = go (λ m. count_off n f g c m a b h) (ℕ_cases n c)
  where
    go : (c < n → count_below n f ≡ suc (count_below n g)) → (n ≡ c) ⊎ (n ≢ c) → count_below (suc n) f ≡ suc (count_below (suc n) g)
    go rest (inl e) =
        let x : bit (f n) ≡ 1 = ap bit (ap f e ∙ a) in
        let y : bit (g n) ≡ 0 = ap bit (ap g e ∙ b) in
        let z : count_below n f ≡ count_below n g = count_same n f g (λ d k. h d (omega arith)) in
        omega (arith, count_next n f, count_next n g)
    go rest (inr ne) =
        let x : bit (f n) ≡ bit (g n) = ap bit (h n ne) in
        let z : count_below n f ≡ suc (count_below n g) = rest (omega arith) in
        omega (arith, count_next n f, count_next n g)

-- as many as k different ones pass
pub pigeons : (k n : ℕ) (p : ℕ → Bool) (f : ℕ → ℕ) → ((i : ℕ) → i < k → f i < n) → ((i : ℕ) → i < k → p (f i) ≡ true)
    → ((i j : ℕ) → i < k → j < k → f i ≡ f j → i ≡ j) → k ≤ count_below n p
pigeons zero n p f b h d = omega arith
pigeons (suc k) n p f b h d =
    let l : k < suc k = omega arith in
    let less : k ≤ count_below n (put p (f k) false) =
    pigeons k n (put p (f k) false) f (λ i m. b i (omega arith))
    (λ i m. let ne : f i ≢ f k = λ e. let same = d i k (omega arith) l e in absurd (omega arith) in put-other p (f k) false (f i) ne ∙ h i (omega arith))
    (λ i j m o e. d i j (omega arith) (omega arith) e)
    in
    let off : count_below n p ≡ suc (count_below n (put p (f k) false)) =
    count_off n p (put p (f k) false) (f k) (b k l) (h k l) (put-same p (f k) false) (λ x ne. sym (put-other p (f k) false x ne))
    in
    omega arith

-- the list of those that pass is as long as they are many
length_push : (xs ys : List ℕ) → length (xs ++ ys) ≡ length ys + length xs
length_push [] ys = omega arith
length_push (x ∷ xs) ys = omega (arith, length_push xs ys)

pub length_select : (n : ℕ) (f : ℕ → Bool) → length (select n f) ≡ count_below n f
unfolding select count_below bit
length_select zero f = refl
length_select (suc n) f = go (f n) (length_select n f)
  where
    go : (b : Bool) → length (select n f) ≡ count_below n f → length (select n f ++ (if b then n ∷ [] else []))
        ≡ (if b then suc (count_below n f) else count_below n f)
    go true e = omega (arith, e, length_push (select n f) (n ∷ []))
    go false e = omega (arith, e, length_push (select n f) [])

-- what passes of one table passes in another at places of their own
pub count_placed : (k n : ℕ) (q p : ℕ → Bool) (f : ℕ → ℕ) → ((i : ℕ) → i < k → q i ≡ true → f i < n)
    → ((i : ℕ) → i < k → q i ≡ true → p (f i) ≡ true) → ((i j : ℕ) → i < k → j < k → f i ≡ f j → i ≡ j) → count_below k q ≤ count_below n p
unfolding count_below
count_placed zero n q p f b h d = omega arith
count_placed (suc k) n q p f b h d =
    go (q k) refl
    (count_placed k n q p f (λ i m. b i (omega arith)) (λ i m. h i (omega arith)) (λ i j m o. d i j (omega arith) (omega arith)))
    (count_placed k n q (put p (f k) false) f (λ i m. b i (omega arith)) (λ i m t. put-other p (f k) false (f i) (apart i m) ∙ h i (omega arith) t)
    (λ i j m o. d i j (omega arith) (omega arith)))
  where
    l : k < suc k
    l = omega arith

    apart : (i : ℕ) → i < k → f i ≢ f k
    apart i m z = let same = d i k (omega arith) l z in absurd (omega arith)

    go : (t : Bool) → q k ≡ t → count_below k q ≤ count_below n p → count_below k q ≤ count_below n (put p (f k) false)
        → (if t then suc (count_below k q) else count_below k q) ≤ count_below n p
    go false e rest less = rest
    go true e rest less =
        let off : count_below n p ≡ suc (count_below n (put p (f k) false)) =
        count_off n p (put p (f k) false) (f k) (b k l e) (h k l e) (put-same p (f k) false) (λ x ne. sym (put-other p (f k) false x ne))
        in
        omega arith

-- What is counted below a number that passes is less than what is counted below a higher one.

pub count_up : (m n : ℕ) (f : ℕ → Bool) → n ≤ m → count_below n f ≤ count_below m f
count_up zero n f h =
    let none : n ≡ 0 = omega (arith, h) in
    subst (λ z. count_below z f ≤ count_below 0 f) (sym none) (omega arith)
count_up (suc m) n f h = go (ℕ_cases n (suc m)) (λ l. count_up m n f l)
  where
    go : (n ≡ suc m) ⊎ (n ≢ suc m) → (n ≤ m → count_below n f ≤ count_below m f) → count_below n f ≤ count_below (suc m) f
    go (inl e) rest = subst (λ z. count_below n f ≤ count_below z f) e (omega arith)
    go (inr ne) rest = let r = rest (omega (arith, h, ne)) in omega (arith, r, count_next m f)

bit_true : (b : Bool) → b ≡ true → bit b ≡ 1
unfolding bit
bit_true b h = grind arith

pub count_strict : (n m : ℕ) (f : ℕ → Bool) → n < m → f n ≡ true → count_below n f < count_below m f
count_strict n m f h t =
    let up = count_up m (suc n) f (omega (arith, h)) in
    let one = bit_true (f n) t in
    omega (arith, up, one, count_next n f)
