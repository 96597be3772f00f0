-- Lists that are gathered by names: where one name gives another thing, or one more is there.
use Rattle.std.proofs.Common.{◌≡◌, ◌≢◌, ◌⊎◌, inl, inr, refl, ap, ap₂, sym, ◌∙◌, ℕ, zero, suc, ◌+◌, ◌<◌, ◌≤◌, Bool, true, false, arith, length-append}
use Rattle.std.specs.Prelude.{◌-◌, not, if◌then◌else◌, List, [], ◌∷◌, ◌++◌, Option, Some, None, is_none, option_map, Contains, find, length, position, remove}
use Rattle.std.specs.Prelude.{slice_get}
use Rattle.std.proofs.lemmas.List.{append_assoc, append-nil}
use Rattle.std.proofs.lemmas.List.Edits.{remove-append_right}
use Rattle.sva_model.specs.Words.{count_below, is_some, tabulate}
use Rattle.sva_model.specs.Labels.{lowest_label}
use Rattle.sva_labels.proofs.Words.{ℕ_cases, lowest_below}
use Rattle.sva_open_laws.specs.AsOpen.{gather, where_so}
use Rattle.sva_open_laws.proofs.Filters.{position_next}
use Rattle.sva_open_laws.proofs.Gathered.{inside, tabulate_get}

pub gather_next : {A : Type 0} (n : ℕ) (f : ℕ → List A) → gather (suc n) f ≡ gather n f ++ f n
unfolding gather
gather_next n f = refl

pub gather_same : {A : Type 0} (n : ℕ) (f g : ℕ → List A) → ((k : ℕ) → k < n → f k ≡ g k) → gather n f ≡ gather n g
unfolding gather
gather_same zero f g h = refl
gather_same (suc n) f g h = ap₂ (λ xs ys. xs ++ ys) (gather_same n f g (λ k l. h k (omega arith))) (h n (omega arith))

-- names that give nothing
pub gather_more : {A : Type 0} (m k : ℕ) (f : ℕ → List A) → ((j : ℕ) → m ≤ j → f j ≡ []) → gather (m + k) f ≡ gather m f
gather_more m zero f h = let same : m + 0 ≡ m = omega arith in ap (λ z. gather z f) same
gather_more m (suc k) f h =
    let same : m + suc k ≡ suc (m + k) = omega arith in
    ap (λ z. gather z f) same ∙ gather_next (m + k) f ∙ ap₂ (λ xs ys. xs ++ ys) (gather_more m k f h) (h (m + k) (omega arith))
    ∙ append-nil (gather m f)

pub gather_none : {A : Type 0} (n : ℕ) (f : ℕ → List A) → ((k : ℕ) → k < n → f k ≡ []) → gather n f ≡ []
unfolding gather
gather_none zero f h = refl
gather_none (suc n) f h = ap₂ (λ xs ys. xs ++ ys) (gather_none n f (λ k l. h k (omega arith))) (h n (omega arith))

-- one name more
pub gather_one_more : {A : Type 0} (m : ℕ) (f : ℕ → List A) → gather (m + 1) f ≡ gather m f ++ f m
gather_one_more m f = let same : m + 1 ≡ suc m = omega arith in ap (λ z. gather z f) same ∙ gather_next m f

-- what one name gives is one thing, which stands behind what the names before it give
pub record Split {A : Type 0} (n : ℕ) (f g : ℕ → List A) (r : ℕ) (x : A) : Type 0 where
  pub behind : List A
  pub whole : gather n f ≡ gather r f ++ x ∷ behind
  pub rest : gather n g ≡ gather r f ++ behind

pub split : {A : Type 0} (n : ℕ) (f g : ℕ → List A) (r : ℕ) (x : A) → r < n → f r ≡ x ∷ [] → g r ≡ [] → ((k : ℕ) → k ≢ r → g k ≡ f k)
    → Split n f g r x
split zero f g r x l is gone others = absurd (omega arith)
split (suc n) f g r x l is gone others = go (ℕ_cases r n) (λ k. split n f g r x k is gone others)
  where
    before : r ≡ n → (k : ℕ) → k < n → g k ≡ f k
    before e k m = others k (λ same. absurd (omega (arith, same, e, m)))

    go : (r ≡ n) ⊎ (r ≢ n) → (r < n → Split n f g r x) → Split (suc n) f g r x
    go (inl e) rest = record {
      behind = [];
      whole = gather_next n f ∙ ap₂ (λ xs ys. xs ++ ys) (ap (λ z. gather z f) (sym e)) (ap f (sym e) ∙ is);
      rest = gather_next n g
          ∙ ap₂ (λ xs ys. xs ++ ys) (gather_same n g f (before e) ∙ ap (λ z. gather z f) (sym e)) (ap g (sym e) ∙ gone);
    }
    go (inr ne) rest =
        let s = rest (omega arith) in
        record {
          behind = s.behind ++ f n;
          whole = gather_next n f ∙ ap (λ z. z ++ f n) s.whole ∙ append_assoc (gather r f) (x ∷ s.behind) (f n);
          rest = gather_next n g ∙ ap₂ (λ xs ys. xs ++ ys) s.rest (others n (λ same. ne (sym same)))
              ∙ append_assoc (gather r f) s.behind (f n);
        }

pub length_so : {A : Type 0} (n : ℕ) (b : ℕ → Bool) (x : ℕ → A) → length (gather n (λ k. where_so (b k) (x k))) ≡ count_below n b
unfolding gather count_below
length_so zero b x = refl
length_so (suc n) b x =
    length-append (gather n (λ k. where_so (b k) (x k))) (where_so (b n) (x n)) ∙ ap (λ z. z + length (where_so (b n) (x n))) (length_so n b x) ∙ by (b n)
  where
    by : (c : Bool) → count_below n b + length (where_so c (x n)) ≡ (if c then suc (count_below n b) else count_below n b)
    by true = omega arith
    by false = omega arith

-- ---- the first that passes

pub place_at : {A : Type 0} (q : A → Bool) (xs : List A) (x : A) (ys : List A) → ((y : A) → Contains xs y → q y ≡ false) → q x ≡ true
    → position q (xs ++ x ∷ ys) ≡ Some (length xs)
place_at q [] x ys none h = position_next q x ys ∙ ap (λ (b : Bool). if b then Some 0 else option_map suc (position q ys)) h
place_at q (z ∷ zs) x ys none h =
    position_next q z (zs ++ x ∷ ys)
    ∙ ap (λ (b : Bool). if b then Some 0 else option_map suc (position q (zs ++ x ∷ ys))) (none z (0, omega arith, refl))
    ∙ ap (option_map suc) (place_at q zs x ys (λ y c. none y (suc c.0, omega (arith, c.1), c.2)) h)

pub find_at : {A : Type 0} (q : A → Bool) (xs : List A) (x : A) (ys : List A) → ((y : A) → Contains xs y → q y ≡ false) → q x ≡ true
    → find q (xs ++ x ∷ ys) ≡ Some x
find_at q [] x ys none h = ap (λ (b : Bool). if b then Some x else find q ys) h
find_at q (z ∷ zs) x ys none h =
    ap (λ (b : Bool). if b then Some z else find q (zs ++ x ∷ ys)) (none z (0, omega arith, refl))
    ∙ find_at q zs x ys (λ y c. none y (suc c.0, omega (arith, c.1), c.2)) h

pub get_at : {A : Type 0} (xs : List A) (x : A) (ys : List A) → slice_get (xs ++ x ∷ ys) (length xs) ≡ Some x
get_at [] x ys = refl
get_at (z ∷ zs) x ys = get_at zs x ys

pub remove_at : {A : Type 0} (xs : List A) (x : A) (ys : List A) → remove (xs ++ x ∷ ys) (length xs) ≡ xs ++ ys
remove_at xs x ys =
    let none : length xs - length xs ≡ 0 = omega arith in
    remove-append_right xs (x ∷ ys) (length xs) (length xs) refl (omega arith) ∙ ap (λ k. xs ++ remove (x ∷ ys) k) none

pub position_is : {A : Type 0} (q : A → Bool) (xs : List A) (k : ℕ) (x : A) → slice_get xs k ≡ Some x → q x ≡ true
    → ((j : ℕ) (y : A) → j < k → slice_get xs j ≡ Some y → q y ≡ false) → position q xs ≡ Some k
position_is q [] k x g h none = absurd (cc)
position_is q (z ∷ zs) zero x g h none =
    position_next q z zs ∙ ap (λ (b : Bool). if b then Some 0 else option_map suc (position q zs)) (ap q (inside g) ∙ h)
position_is q (z ∷ zs) (suc k) x g h none =
    position_next q z zs ∙ ap (λ (b : Bool). if b then Some 0 else option_map suc (position q zs)) (none 0 z (omega arith) refl)
    ∙ ap (option_map suc) (position_is q zs k x g h (λ j y l e. none (suc j) y (omega (arith, l)) e))

-- the lowest label that is free is the first place with nothing in it
pub first_free : {A : Type 0} (n : ℕ) (at : ℕ → Option ℕ) (h : ℕ → A) → lowest_label n at < n → at (lowest_label n at) ≡ None
    → position is_none (tabulate n (λ t. option_map h (at t))) ≡ Some (lowest_label n at)
first_free {A} n at h low free =
    position_is is_none (tabulate n (λ t. option_map h (at t))) (lowest_label n at) None
    (tabulate_get n (λ t. option_map h (at t)) (lowest_label n at) low ∙ ap (λ o. Some (option_map h o)) free) refl before
  where
    passes : not (is_some (at (lowest_label n at))) ≡ true
    passes = ap (λ o. not (is_some o)) free

    taken : (o : Option ℕ) → not (is_some o) ≡ false → is_none (option_map h o) ≡ false
    taken None e = absurd (cc)
    taken (Some k) e = refl

    before : (j : ℕ) (y : Option A) → j < lowest_label n at → slice_get (tabulate n (λ t. option_map h (at t))) j ≡ Some y → is_none y ≡ false
    before j y l e =
        let there = tabulate_get n (λ t. option_map h (at t)) j (omega (arith, l, low)) in
        ap is_none (inside (sym e ∙ there))
        ∙ taken (at j) ((lowest_below n (λ t. not (is_some (at t))) (lowest_label n at) low passes).2 j l)
