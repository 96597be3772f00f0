-- What stands at a place of a table as a list, and of the list of the numbers that pass, each seen by a function.
use Rattle.std.proofs.Common.{◌≡◌, ◌≢◌, ◌⊎◌, inl, inr, refl, ap, sym, subst, ◌∙◌, ℕ, zero, suc, ◌<◌, Bool, true, false, arith}
use Rattle.std.specs.Prelude.{Option, Some, None, option_map, if◌then◌else◌, List, [], ◌∷◌, ◌++◌, map, length, slice_get}
use Rattle.std.proofs.lemmas.Option.{slice_get-map, slice_get_within}
use Rattle.std.proofs.lemmas.List.{append-nil}
use Rattle.sva_model.specs.Words.{select, tabulate}
use Rattle.sva_labels.proofs.Words.{ℕ_cases}
use Rattle.sva_labels.proofs.Lists.{get_before, get_end, tabulate_length}

-- at a place of a list with one more at its end
push_get : {A : Type 0} (xs : List A) (a x : A) (k : ℕ) → slice_get (xs ++ a ∷ []) k ≡ Some x → (slice_get xs k ≡ Some x) ⊎ ((k ≡ length xs) × (x ≡ a))
push_get [] a x zero h = inr (refl, cc)
push_get [] a x (suc k) h = absurd (cc (h))
push_get (y ∷ xs) a x zero h = inl h
push_get (y ∷ xs) a x (suc k) h = go (push_get xs a x k h)
  where
    go : (slice_get xs k ≡ Some x) ⊎ ((k ≡ length xs) × (x ≡ a)) → (slice_get xs k ≡ Some x) ⊎ ((suc k ≡ suc (length xs)) × (x ≡ a))
    go (inl e) = inl e
    go (inr e) = inr (ap suc e.0, e.1)

-- a table
pub table_get : {A : Type 0} (n : ℕ) (f : ℕ → A) (k : ℕ) (x : A) → slice_get (tabulate n f) k ≡ Some x → (k < n) × (x ≡ f k)
unfolding tabulate
table_get zero f k x h = absurd (cc (h))
table_get (suc n) f k x h = go (λ e. table_get n f k x e) (push_get (tabulate n f) (f n) x k h)
  where
    go :
        (slice_get (tabulate n f) k ≡ Some x → (k < n) × (x ≡ f k))
        → (slice_get (tabulate n f) k ≡ Some x) ⊎ ((k ≡ length (tabulate n f)) × (x ≡ f n))
        → (k < suc n) × (x ≡ f k)
    go rest (inl e) = let r = rest e in (omega (arith, r), r.1)
    go rest (inr e) =
        let same : k ≡ n = e.0 ∙ tabulate_length n f in
        (omega (arith, same), e.1 ∙ ap f (sym same))

-- the numbers that pass: one that does; and they rise
pub select_get : (n : ℕ) (p : ℕ → Bool) (k x : ℕ) → slice_get (select n p) k ≡ Some x → (x < n) × (p x ≡ true)
unfolding select
select_get zero p k x h = absurd (cc (h))
select_get (suc n) p k x h = go (λ e. let r = select_get n p k x e in (omega (arith, r), r.1)) (p n) refl h
  where
    new :
        (slice_get (select n p) k ≡ Some x → (x < suc n) × (p x ≡ true)) → p n ≡ true
        → (slice_get (select n p) k ≡ Some x) ⊎ ((k ≡ length (select n p)) × (x ≡ n))
        → (x < suc n) × (p x ≡ true)
    new old t (inl e) = old e
    new old t (inr e) = let same = e.1 in (omega (arith, same), ap p e.1 ∙ t)

    go :
        (slice_get (select n p) k ≡ Some x → (x < suc n) × (p x ≡ true)) → (b : Bool) → p n ≡ b
        → slice_get (select n p ++ (if b then n ∷ [] else [])) k ≡ Some x
        → (x < suc n) × (p x ≡ true)
    go old true t e = new old t (push_get (select n p) n x k e)
    go old false t e = old (subst (λ xs. slice_get xs k ≡ Some x) (append-nil (select n p)) e)

select_rises : (n : ℕ) (p : ℕ → Bool) (j k x y : ℕ) → j < k → slice_get (select n p) j ≡ Some x → slice_get (select n p) k ≡ Some y → x < y
unfolding select
select_rises zero p j k x y l h i = absurd (cc (h))
select_rises (suc n) p j k x y l h i = go (λ a b. select_rises n p j k x y l a b) (p n) h i
  where
    both :
        (slice_get (select n p) j ≡ Some x → slice_get (select n p) k ≡ Some y → x < y)
        → (slice_get (select n p) j ≡ Some x) ⊎ ((j ≡ length (select n p)) × (x ≡ n))
        → (slice_get (select n p) k ≡ Some y) ⊎ ((k ≡ length (select n p)) × (y ≡ n))
        → x < y
    both rest (inl a) (inl b) = rest a b
    both rest (inl a) (inr b) = let r = select_get n p j x a in let same = b.1 in omega (arith, r, same)
    both rest (inr a) (inl b) = let r = slice_get_within (select n p) k y b in let same = a.0 in absurd (omega (arith, r, same, l))
    both rest (inr a) (inr b) = let s = a.0 in let t = b.0 in absurd (omega (arith, s, t, l))

    go :
        (slice_get (select n p) j ≡ Some x → slice_get (select n p) k ≡ Some y → x < y) → (b : Bool)
        → slice_get (select n p ++ (if b then n ∷ [] else [])) j ≡ Some x → slice_get (select n p ++ (if b then n ∷ [] else [])) k ≡ Some y
        → x < y
    go rest true a b = both rest (push_get (select n p) n x j a) (push_get (select n p) n y k b)
    go rest false a b =
        rest
        (subst (λ xs. slice_get xs j ≡ Some x) (append-nil (select n p)) a)
        (subst (λ xs. slice_get xs k ≡ Some y) (append-nil (select n p)) b)

-- each that passes is there
select_there : (n : ℕ) (p : ℕ → Bool) (x : ℕ) → x < n → p x ≡ true → (k : ℕ) × (slice_get (select n p) k ≡ Some x)
unfolding select
select_there zero p x l t = absurd (omega (arith, l))
select_there (suc n) p x l t = go (λ m. select_there n p x m t) (p n) refl (ℕ_cases x n)
  where
    more : (b : Bool) (k : ℕ) → slice_get (select n p) k ≡ Some x → slice_get (select n p ++ (if b then n ∷ [] else [])) k ≡ Some x
    more true k e = get_before (select n p) (n ∷ []) k x e
    more false k e = subst (λ xs. slice_get xs k ≡ Some x) (sym (append-nil (select n p))) e

    go :
        (x < n → (k : ℕ) × (slice_get (select n p) k ≡ Some x)) → (b : Bool) → p n ≡ b → (x ≡ n) ⊎ (x ≢ n)
        → (k : ℕ) × (slice_get (select n p ++ (if b then n ∷ [] else [])) k ≡ Some x)
    go rest true e (inl s) = (length (select n p), get_end (select n p) n ∙ ap Some (sym s))
    go rest false e (inl s) = absurd (cc (sym t ∙ ap p s ∙ e))
    go rest b e (inr ne) = let r = rest (omega (arith, l, ne)) in (r.0, more b r.0 r.1)

-- The same where each is seen by a function.

one_of : {A : Type 0} (f : ℕ → A) (o : Option ℕ) (y : A) → option_map f o ≡ Some y → (x : ℕ) × (o ≡ Some x) × (y ≡ f x)
one_of f None y h = absurd (cc (h))
one_of f (Some x) y h = (x, refl, cc)

pub record IsSeen {A : Type 0} (n : ℕ) (p : ℕ → Bool) (f : ℕ → A) (k : ℕ) (y : A) : Type 0 where
  pub of : ℕ
  pub stands : slice_get (select n p) k ≡ Some of
  pub below : of < n
  pub passes : p of ≡ true
  pub seen : y ≡ f of

pub seen_get : {A : Type 0} (n : ℕ) (p : ℕ → Bool) (f : ℕ → A) (k : ℕ) (y : A) → slice_get (map f (select n p)) k ≡ Some y → IsSeen n p f k y
seen_get n p f k y h =
    let x = one_of f (slice_get (select n p) k) y (sym (slice_get-map f (select n p) k) ∙ h) in
    let r = select_get n p k x.0 x.1 in
    record { of = x.0; stands = x.1; below = r.0; passes = r.1; seen = x.2 }

pub seen_rises : {A : Type 0} (n : ℕ) (p : ℕ → Bool) (f : ℕ → A) (j k : ℕ) (y z : A) → j < k → (a : IsSeen n p f j y) → (b : IsSeen n p f k z) → a.of < b.of
seen_rises n p f j k y z l a b = select_rises n p j k a.of b.of l a.stands b.stands

pub seen_there : {A : Type 0} (n : ℕ) (p : ℕ → Bool) (f : ℕ → A) (x : ℕ) → x < n → p x ≡ true → (k : ℕ) × (slice_get (map f (select n p)) k ≡ Some (f x))
seen_there n p f x l t =
    let r = select_there n p x l t in
    (r.0, slice_get-map f (select n p) r.0 ∙ ap (option_map f) r.1)
