-- What stands in the lists that are gathered by names.
use Rattle.std.proofs.Common.{◌≢◌, ◌≤◌, ◌≡◌, ◌⊎◌, inl, inr, refl, ap, sym, subst, ◌∙◌, ℕ, zero, suc, ◌<◌, Bool, true, false, arith}
use Rattle.std.specs.Prelude.{◌==◌, ◌&&◌, if◌then◌else◌, List, [], ◌∷◌, ◌++◌, Option, Some, None, option_map, Contains, slice_get}
use Rattle.std.proofs.lemmas.List.Elements.{Contains-append_left, Contains-append_right, Contains-append_cases, Contains-push_cases}
use Rattle.std.proofs.lemmas.Option.{slice_get-get_or}
use Rattle.std.proofs.lemmas.Bool.{and_from, eqb-true, eq-eqb}
use Rattle.sva_model.specs.State.{Endpoint}
use Rattle.sva_model.specs.Words.{count_below, lowest, tabulate, select}
use Rattle.sva_labels.proofs.Words.{ℕ_cases, find_passes, find_some}
use Rattle.sva_labels.proofs.Tests.{first_holds, second_holds}
use Rattle.sva_labels.proofs.Counting.{bit, count_next}
use Rattle.sva_labels.proofs.Lists.{tabulate_at, tabulate_length, get_before}
use Rattle.sva_open_laws.specs.AsOpen.{gather, if_there, where_so, first_of}

pub none_in : {A : Type 0} (x : A) → Contains [] x → ⊥
none_in x h = absurd (omega (arith, h.1))

pub one_in : {A : Type 0} (y x : A) → Contains (y ∷ []) x → y ≡ x
one_in y x h = elim (Contains-push_cases [] y x h) [
  | inl k ↦ absurd (none_in x k)
  | inr e ↦ e
]

pub gathered : {A : Type 0} (n : ℕ) (f : ℕ → List A) (x : A) → Contains (gather n f) x → (k : ℕ) × (k < n) × Contains (f k) x
unfolding gather
gathered zero f x h = absurd (none_in x h)
gathered (suc n) f x h = go (λ k. gathered n f x k) (Contains-append_cases (gather n f) (f n) x h)
  where
    go : (Contains (gather n f) x → (k : ℕ) × (k < n) × Contains (f k) x) → Contains (gather n f) x ⊎ Contains (f n) x
        → (k : ℕ) × (k < suc n) × Contains (f k) x
    go rest (inl k) = let y = rest k in (y.0, omega (arith, y.1), y.2)
    go rest (inr k) = (n, omega arith, k)

pub tabulated : {A : Type 0} (n : ℕ) (f : ℕ → A) (x : A) → Contains (tabulate n f) x → (k : ℕ) × (k < n) × (f k ≡ x)
unfolding tabulate
tabulated zero f x h = absurd (none_in x h)
tabulated (suc n) f x h = go (λ k. tabulated n f x k) (Contains-push_cases (tabulate n f) (f n) x h)
  where
    go : (Contains (tabulate n f) x → (k : ℕ) × (k < n) × (f k ≡ x)) → Contains (tabulate n f) x ⊎ (f n ≡ x) → (k : ℕ) × (k < suc n) × (f k ≡ x)
    go rest (inl k) = let y = rest k in (y.0, omega (arith, y.1), y.2)
    go rest (inr k) = (n, omega arith, k)

pub tabulate_get : {A : Type 0} (n : ℕ) (f : ℕ → A) (k : ℕ) → k < n → slice_get (tabulate n f) k ≡ Some (f k)
tabulate_get n f k l =
    slice_get-get_or (tabulate n f) k (f k) (subst (λ z. k < z) (sym (tabulate_length n f)) l) ∙ ap Some (tabulate_at n f k (f k) l)

pub there_in : {A : Type 0} (o : Option A) (x : A) → Contains (if_there o) x → o ≡ Some x
there_in None x h = absurd (none_in x h)
there_in (Some y) x h = ap Some (one_in y x h)

pub so_in : {A : Type 0} (b : Bool) (y x : A) → Contains (where_so b y) x → (b ≡ true) × (y ≡ x)
so_in false y x h = absurd (none_in x h)
so_in true y x h = (refl, one_in y x h)

pub mapped_some : {A B : Type 0} (f : A → B) (o : Option A) (x : B) → option_map f o ≡ Some x → (y : A) × (o ≡ Some y) × (f y ≡ x)
mapped_some f None x h = absurd (cc)
mapped_some f (Some y) x h = (y, refl, inside h)
  where
    inside : {B : Type 0} {a b : B} → Some a ≡ Some b → a ≡ b
    inside e = cc

pub selected : (n : ℕ) (f : ℕ → Bool) (x : ℕ) → Contains (select n f) x → f x ≡ true
unfolding select
selected zero f x h = absurd (none_in x h)
selected (suc n) f x h = go (λ k. selected n f x k) (f n) refl (Contains-append_cases (select n f) (if f n then n ∷ [] else []) x h)
  where
    go : (Contains (select n f) x → f x ≡ true) → (b : Bool) → f n ≡ b → Contains (select n f) x ⊎ Contains (if b then n ∷ [] else []) x → f x ≡ true
    go rest b e (inl k) = rest k
    go rest true e (inr k) = subst (λ z. f z ≡ true) (one_in n x k) e
    go rest false e (inr k) = absurd (none_in x k)

pub inside : {A : Type 0} {a b : A} → Some a ≡ Some b → a ≡ b
inside e = cc

pub oldest_in : {A : Type 0} (xs : List A) (x : A) → slice_get xs 0 ≡ Some x → Contains xs x
oldest_in [] x h = absurd (cc)
oldest_in (y ∷ ys) x h = (0, omega arith, inside h)

-- ---- and back

pub in_gather : {A : Type 0} (n : ℕ) (f : ℕ → List A) (k : ℕ) (x : A) → k < n → Contains (f k) x → Contains (gather n f) x
unfolding gather
in_gather zero f k x l h = absurd (omega arith)
in_gather (suc n) f k x l h = go (ℕ_cases k n) (λ m. in_gather n f k x m h)
  where
    go : (k ≡ n) ⊎ (k ≢ n) → (k < n → Contains (gather n f) x) → Contains (gather n f ++ f n) x
    go (inl e) rest = Contains-append_right (gather n f) (f n) x (subst (λ z. Contains (f z) x) e h)
    go (inr ne) rest = Contains-append_left (gather n f) (f n) x (rest (omega arith))

pub in_one : {A : Type 0} (x : A) → Contains (x ∷ []) x
in_one x = (0, omega arith, refl)

-- ---- counts

pub count_rises : (n : ℕ) (f : ℕ → Bool) (m : ℕ) → m < n → f m ≡ true → count_below m f < count_below n f
unfolding bit
count_rises zero f m l h = absurd (omega arith)
count_rises (suc n) f m l h = go (ℕ_cases m n) (λ k. count_rises n f m k h)
  where
    go : (m ≡ n) ⊎ (m ≢ n) → (m < n → count_below m f < count_below n f) → count_below m f < count_below (suc n) f
    go (inl e) rest =
        let b : bit (f n) ≡ 1 = ap bit (subst (λ z. f z ≡ true) e h) in
        let c : count_below m f ≡ count_below n f = ap (λ z. count_below z f) e in
        omega (arith, count_next n f)
    go (inr ne) rest = let r = rest (omega arith) in omega (arith, count_next n f)

-- the greatest number below n that passes, where one does
pub greatest : (n : ℕ) (f : ℕ → Bool) (m : ℕ) → m < n → f m ≡ true → (k : ℕ) × (k < n) × (f k ≡ true) × ((o : ℕ) → o < n → f o ≡ true → o ≤ k)
greatest zero f m l h = absurd (omega arith)
greatest (suc n) f m l h = go (f n) refl (λ k. greatest n f m k h)
  where
    go : (b : Bool) → f n ≡ b → (m < n → (k : ℕ) × (k < n) × (f k ≡ true) × ((o : ℕ) → o < n → f o ≡ true → o ≤ k))
        → (k : ℕ) × (k < suc n) × (f k ≡ true) × ((o : ℕ) → o < suc n → f o ≡ true → o ≤ k)
    go true e rest = (n, omega arith, e, λ o k p. omega arith)
    go false e rest =
        let x = rest (below m l h e) in
        (x.0, omega (arith, x.1), x.2, λ o k p. x.3 o (below o k p e) p)
      where
        below : (o : ℕ) → o < suc n → f o ≡ true → f n ≡ false → o < n
        below o k p q = apart (ℕ_cases o n)
          where
            apart : (o ≡ n) ⊎ (o ≢ n) → o < n
            apart (inl e) = absurd (let z = subst (λ z. f z ≡ true) e p in cc)
            apart (inr ne) = omega arith

pub in_select : (n : ℕ) (f : ℕ → Bool) (k : ℕ) → k < n → f k ≡ true → Contains (select n f) k
unfolding select
in_select zero f k l h = absurd (omega arith)
in_select (suc n) f k l h = go (ℕ_cases k n) (λ m. in_select n f k m h)
  where
    here : (b : Bool) → b ≡ true → Contains (if b then n ∷ [] else []) n
    here true e = in_one n
    here false e = absurd (cc)

    go : (k ≡ n) ⊎ (k ≢ n) → (k < n → Contains (select n f) k) → Contains (select n f ++ (if f n then n ∷ [] else [])) k
    go (inl e) rest =
        Contains-append_right (select n f) (if f n then n ∷ [] else []) k
        (subst (λ z. Contains (if f n then n ∷ [] else []) z) (sym e) (here (f n) (subst (λ z. f z ≡ true) e h)))
    go (inr ne) rest = Contains-append_left (select n f) (if f n then n ∷ [] else []) k (rest (omega arith))

-- where the names before one give nothing, what that gives comes first
pub first_gathered : {A : Type 0} (n : ℕ) (f : ℕ → List A) (k : ℕ) (x : A) → k < n → ((j : ℕ) → j < k → f j ≡ []) → f k ≡ x ∷ []
    → slice_get (gather n f) 0 ≡ Some x
unfolding gather
first_gathered zero f k x l none one = absurd (omega arith)
first_gathered (suc n) f k x l none one = go (ℕ_cases k n) (λ m. first_gathered n f k x m none one)
  where
    empty : (m : ℕ) → m ≤ k → gather m f ≡ []
    empty zero l = refl
    empty (suc m) l = go_on (empty m (omega arith)) (none m (omega arith))
      where
        go_on : {A : Type 0} {xs ys : List A} → xs ≡ [] → ys ≡ [] → xs ++ ys ≡ []
        go_on e d = cc

    go : (k ≡ n) ⊎ (k ≢ n) → (k < n → slice_get (gather n f) 0 ≡ Some x) → slice_get (gather n f ++ f n) 0 ≡ Some x
    go (inl e) rest =
        ap (λ z. slice_get (z ++ f n) 0) (empty n (omega arith)) ∙ ap (λ z. slice_get z 0) (subst (λ z. f z ≡ x ∷ []) e one)
    go (inr ne) rest = get_before (gather n f) (f n) 0 x (rest (omega arith))

-- ---- the first binding of a PASID

pub first_is : (n : ℕ) (p : Endpoint) (t : ℕ) (f : ℕ → Bool) (b : ℕ) → first_of n p t f ≡ Some b → (b < n) × (f b ≡ true) × (p.pasid b ≡ t)
first_is n p t f b h =
    let x = find_passes n (λ z. f z && (p.pasid z == t)) b h in
    (x.0, first_holds (f b) (p.pasid b == t) x.1, eqb-true (p.pasid b) t (second_holds (f b) (p.pasid b == t) x.1))

pub first_there : (n : ℕ) (p : Endpoint) (t : ℕ) (f : ℕ → Bool) (b : ℕ) → b < n → f b ≡ true → p.pasid b ≡ t
    → (d : ℕ) × (first_of n p t f ≡ Some d) × (f d ≡ true) × (p.pasid d ≡ t)
first_there n p t f b l h same =
    let at = find_some n (λ z. f z && (p.pasid z == t)) b l (and_from (f b) (p.pasid b == t) h (eq-eqb (p.pasid b) t same)) in
    let x = first_is n p t f (lowest n (λ z. f z && (p.pasid z == t))) at in
    (lowest n (λ z. f z && (p.pasid z == t)), at, x.1, x.2)
