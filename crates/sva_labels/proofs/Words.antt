-- What the searches find.
use Rattle.std.proofs.Common.{◌≡◌, ℕ, zero, suc, ◌+◌, ◌<◌, ◌≢◌, ◌⊎◌, inl, inr, refl, arith, Bool, true, false, subst}
use Rattle.std.specs.Prelude.{Option, Some, None, if◌then◌else◌, nat_lt, ◌==◌}
use Rattle.std.proofs.lemmas.Bool.Decides.{nat_tests}
use Rattle.sva_model.specs.Words.{put, lowest, step_lowest, find, if_found, any_below, all_below, is_some, the, holds_of}

-- the lowest number that passes
pub lowest_cases : (n : ℕ) (p : ℕ → Bool) → ((lowest n p ≡ n) × ((j : ℕ) → j < n → p j ≡ false))
    ⊎ ((lowest n p < n) × (p (lowest n p) ≡ true) × ((j : ℕ) → j < lowest n p → p j ≡ false))
unfolding lowest
lowest_cases zero p = inl (refl, λ j l. absurd (omega arith))
lowest_cases (suc n) p = next n p (lowest n p) (p n) (lowest n p == n) refl refl (lowest_cases n p)
  where
    next : (n : ℕ) (p : ℕ → Bool) (k : ℕ) (b t : Bool) → p n ≡ b → (k == n) ≡ t → ((k ≡ n) × ((j : ℕ) → j < n → p j ≡ false))
        ⊎ ((k < n) × (p k ≡ true) × ((j : ℕ) → j < k → p j ≡ false)) → ((step_lowest t k n b ≡ suc n) × ((j : ℕ) → j < suc n → p j ≡ false))
        ⊎ ((step_lowest t k n b < suc n) × (p (step_lowest t k n b) ≡ true) × ((j : ℕ) → j < step_lowest t k n b → p j ≡ false))
    next n p k b false e f (inl x) = absurd (grind (arith, nat_tests))
    next n p k b false e f (inr x) = inr (omega arith, x.1, x.2)
    next n p k true true e f (inl x) = inr (omega arith, e, x.1)
    next n p k false true e f (inl x) = inl (refl, λ j l. below_next j l x.1)
      where
        below_next : (j : ℕ) → j < suc n → ((j : ℕ) → j < n → p j ≡ false) → p j ≡ false
        below_next j l h = grind (arith, h j)
    next n p k b true e f (inr x) = absurd (grind (arith, nat_tests))

pub lowest_below : (n : ℕ) (p : ℕ → Bool) (j : ℕ) → j < n → p j ≡ true → (lowest n p < n) × (p (lowest n p) ≡ true) × ((i : ℕ) → i < lowest n p → p i ≡ false)
lowest_below n p j l h = elim (lowest_cases n p) [ inl x ↦ absurd (let f = x.1 j l in cc) | inr x ↦ x ]

pub put-same : {A : Type 0} (f : ℕ → A) (i : ℕ) (v : A) → put f i v i ≡ v
put-same f i v = grind (arith, nat_tests)

pub put-other : {A : Type 0} (f : ℕ → A) (i : ℕ) (v : A) (k : ℕ) → k ≢ i → put f i v k ≡ f k
put-other f i v k ne = grind (arith, nat_tests)

pub was_true : (f : ℕ → Bool) (i k : ℕ) → put f i false k ≡ true → f k ≡ true
was_true f i k h = grind (arith, nat_tests)

pub ℕ_cases : (a b : ℕ) → (a ≡ b) ⊎ (a ≢ b)
ℕ_cases a b = grind arith

-- a record that is there
pub some_the : (o : Option ℕ) → is_some o ≡ true → o ≡ Some (the o)
some_the None h = absurd (cc)
some_the (Some k) h = refl

pub none_is : {A : Type 0} (o : Option A) → is_some o ≡ false → o ≡ None
none_is None h = refl
none_is (Some k) h = absurd (cc)

-- where a record passes that is there, it is there and passes
pub holds_the : (p : ℕ → Bool) (o : Option ℕ) → holds_of p o ≡ true → (o ≡ Some (the o)) × (p (the o) ≡ true)
holds_the p None h = absurd (cc)
holds_the p (Some k) h = (refl, h)

any_next : (n j : ℕ) (p : ℕ → Bool) (b : Bool) → (b ≡ false → j < n → p j ≡ false) → (if p n then true else b) ≡ false → j < n + 1 → p j ≡ false
any_next n j p b h e l = grind arith

pub any_below-false : (n : ℕ) (p : ℕ → Bool) → any_below n p ≡ false → (j : ℕ) → j < n → p j ≡ false
unfolding any_below
any_below-false zero p h j l = absurd (omega arith)
any_below-false (suc n) p h j l = any_next n j p (any_below n p) (λ e. any_below-false n p e j) h (omega arith)

any_step : (n : ℕ) (p : ℕ → Bool) (b c : Bool) → p n ≡ c → (b ≡ true → (j : ℕ) × (j < n) × (p j ≡ true)) → (if c then true else b) ≡ true → (j : ℕ)
    × (j < suc n) × (p j ≡ true)
any_step n p b true e f h = (n, omega arith, e)
any_step n p b false e f h = let (j, l, k) = f h in (j, omega arith, k)

pub any_below-true : (n : ℕ) (p : ℕ → Bool) → any_below n p ≡ true → (j : ℕ) × (j < n) × (p j ≡ true)
unfolding any_below
any_below-true zero p h = absurd (cc)
any_below-true (suc n) p h = any_step n p (any_below n p) (p n) refl (any_below-true n p) h

pub any_below-intro : (n : ℕ) (p : ℕ → Bool) (j : ℕ) → j < n → p j ≡ true → any_below n p ≡ true
any_below-intro n p j l h = go (any_below n p) refl
  where
    go : (b : Bool) → any_below n p ≡ b → any_below n p ≡ true
    go true e = e
    go false e = absurd (let a = any_below-false n p e j l in cc)

all_next : (n j : ℕ) (p : ℕ → Bool) (b : Bool) → (b ≡ true → j < n → p j ≡ true) → (if p n then b else false) ≡ true → j < n + 1 → p j ≡ true
all_next n j p b h e l = grind arith

pub all_below-true : (n : ℕ) (p : ℕ → Bool) → all_below n p ≡ true → (j : ℕ) → j < n → p j ≡ true
unfolding all_below
all_below-true zero p h j l = absurd (omega arith)
all_below-true (suc n) p h j l = all_next n j p (all_below n p) (λ e. all_below-true n p e j) h (omega arith)

pub all_below-false : (n : ℕ) (p : ℕ → Bool) (j : ℕ) → j < n → p j ≡ false → all_below n p ≡ false
unfolding all_below
all_below-false zero p j l h = absurd (omega arith)
all_below-false (suc n) p j l h = false_next n j p (all_below n p) (λ l. all_below-false n p j l h) (omega arith) h
  where
    false_next : (n j : ℕ) (p : ℕ → Bool) (b : Bool) → (j < n → b ≡ false) → j < n + 1 → p j ≡ false → (if p n then b else false) ≡ false
    false_next n j p b h l e = grind arith

-- each number below n passes, or one does not
pub all_below_cases : (n : ℕ) (p : ℕ → Bool) → (all_below n p ≡ true) ⊎ ((j : ℕ) × (j < n) × (p j ≡ false))
unfolding all_below
all_below_cases zero p = inl refl
all_below_cases (suc n) p = more n p (all_below n p) (p n) refl refl (all_below_cases n p)
  where
    more : (n : ℕ) (p : ℕ → Bool) (b c : Bool) → all_below n p ≡ b → p n ≡ c → (b ≡ true) ⊎ ((j : ℕ) × (j < n) × (p j ≡ false))
        → ((if c then b else false) ≡ true) ⊎ ((j : ℕ) × (j < suc n) × (p j ≡ false))
    more n p b false e h x = inr (n, omega arith, h)
    more n p b true e h (inl x) = inl x
    more n p b true e h (inr (j, l, x)) = inr (j, omega arith, x)

pub lowest_passes : (n : ℕ) (p : ℕ → Bool) → (lowest n p == n) ≡ false → (lowest n p < n) × (p (lowest n p) ≡ true) × ((i : ℕ) → i < lowest n p → p i ≡ false)
lowest_passes n p h = elim (lowest_cases n p) [ inl x ↦ absurd (grind (arith, nat_tests, x.0)) | inr x ↦ x ]

-- what is found passes
pub find_passes : (n : ℕ) (p : ℕ → Bool) (k : ℕ) → find n p ≡ Some k → (k < n) × (p k ≡ true)
find_passes n p k h = go (lowest_cases n p)
  where
    go : ((lowest n p ≡ n) × ((j : ℕ) → j < n → p j ≡ false))
        ⊎ ((lowest n p < n) × (p (lowest n p) ≡ true) × ((j : ℕ) → j < lowest n p → p j ≡ false)) → (k < n) × (p k ≡ true)
    go (inl x) = absurd (nothing (lowest n p) x.0 h)
      where
        nothing : (z : ℕ) → z ≡ n → if_found (nat_lt z n) z ≢ Some k
        nothing z e i = grind (arith, nat_tests)
    go (inr x) =
        let e : lowest n p ≡ k = same (lowest n p) h in
        (subst (λ z. z < n) e x.0, subst (λ z. p z ≡ true) e x.1)
      where
        same : (z : ℕ) → if_found (nat_lt z n) z ≡ Some k → z ≡ k
        same z i = grind (arith, nat_tests)

-- where one passes, one is found
pub find_some : (n : ℕ) (p : ℕ → Bool) (j : ℕ) → j < n → p j ≡ true → find n p ≡ Some (lowest n p)
find_some n p j l h = found (lowest n p) (lowest_below n p j l h).0
  where
    found : (z : ℕ) → z < n → if_found (nat_lt z n) z ≡ Some z
    found z b = grind (arith, nat_tests)

-- what each number below n passes, all of them pass
pub all_below-intro : (n : ℕ) (p : ℕ → Bool) → ((j : ℕ) → j < n → p j ≡ true) → all_below n p ≡ true
unfolding all_below
all_below-intro zero p h = refl
all_below-intro (suc n) p h = both (p n) (all_below n p) (h n (omega arith)) (all_below-intro n p (λ j l. h j (omega arith)))
  where
    both : (b c : Bool) → b ≡ true → c ≡ true → (if b then c else false) ≡ true
    both b c h i = grind arith
