-- Tables by label as lists: what they are where no entry changes, where one does, and where each changes alike.
use Rattle.std.proofs.Common.{◌≡◌, ◌≢◌, refl, ap, sym, ◌∙◌, ℕ, zero, suc, ◌<◌, Bool, true}
use Rattle.std.specs.Prelude.{Option, Some, None, option_map, [], ◌∷◌, ◌++◌, map, slice_set}
use mathlib.Core.List.{map-append}
use Rattle.sva_model.specs.Words.{select, tabulate}
use Rattle.sva_labels.proofs.Lists.{tabulate_same, tabulate_set}
use Rattle.sva_refinement.proofs.Picked.{picked_same}

-- a table with each entry changed alike
pub tabulate_map : {A B : Type 0} (h : A → B) (n : ℕ) (f : ℕ → A) → map h (tabulate n f) ≡ tabulate n (λ k. h (f k))
unfolding tabulate
tabulate_map h zero f = refl
tabulate_map h (suc n) f = map-append h (tabulate n f) (f n ∷ []) ∙ ap (λ xs. xs ++ h (f n) ∷ []) (tabulate_map h n f)

-- what is seen of the record that a label names, if any: the same for both views
pub option_same : {A : Type 0} (o : Option ℕ) (f g : ℕ → A) → ((k : ℕ) → o ≡ Some k → g k ≡ f k) → option_map g o ≡ option_map f o
option_same None f g h = refl
option_same (Some k) f g h = ap (λ x. Some x) (h k refl)

pub row_same :
    {A : Type 0} (n : ℕ) (row : ℕ → Option ℕ) (f g : ℕ → A) → ((t k : ℕ) → row t ≡ Some k → g k ≡ f k)
    → tabulate n (λ t. option_map g (row t)) ≡ tabulate n (λ t. option_map f (row t))
row_same n row f g h = tabulate_same n (λ t. option_map g (row t)) (λ t. option_map f (row t)) (λ t l. option_same (row t) f g (h t))

-- one label names another record, or none
pub row_set :
    {A : Type 0} (n i : ℕ) (old new : ℕ → Option ℕ) (f g : ℕ → A) (v : Option A) → option_map g (new i) ≡ v
    → ((t : ℕ) → t ≢ i → new t ≡ old t) → ((t k : ℕ) → t ≢ i → old t ≡ Some k → g k ≡ f k)
    → tabulate n (λ t. option_map g (new t)) ≡ slice_set (tabulate n (λ t. option_map f (old t))) i v
row_set n i old new f g v here other same =
    tabulate_set n (λ t. option_map f (old t)) (λ t. option_map g (new t)) i v here
    (λ t ne. ap (λ o. option_map g o) (other t ne) ∙ option_same (old t) f g (λ k h. same t k ne h))

-- what is seen of each record that a label names changes alike
pub row_map :
    {A : Type 0} (n : ℕ) (row : ℕ → Option ℕ) (f g : ℕ → A) (change : Option A → Option A) → change None ≡ None
    → ((t k : ℕ) → row t ≡ Some k → Some (g k) ≡ change (Some (f k)))
    → tabulate n (λ t. option_map g (row t)) ≡ map change (tabulate n (λ t. option_map f (row t)))
row_map n row f g change none same =
    tabulate_same n (λ t. option_map g (row t)) (λ t. change (option_map f (row t))) (λ t l. go (row t) (same t))
    ∙ sym (tabulate_map change n (λ t. option_map f (row t)))
  where
    go : (o : Option ℕ) → ((k : ℕ) → o ≡ Some k → Some (g k) ≡ change (Some (f k))) → option_map g o ≡ change (option_map f o)
    go None h = sym none
    go (Some k) h = h k refl

-- The numbers that pass, each seen.

pub select_seen :
    {B : Type 0} (n : ℕ) (p q : ℕ → Bool) (f g : ℕ → B) → ((k : ℕ) → k < n → q k ≡ p k) → ((k : ℕ) → k < n → p k ≡ true → g k ≡ f k)
    → map g (select n q) ≡ map f (select n p)
select_seen n p q f g h k = picked_same n g f q p h (λ j l t. k j l (sym (h j l) ∙ t))
