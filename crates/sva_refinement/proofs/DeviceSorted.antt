-- Lists sorted by an order: what a filter leaves of them, and what one element more does, wherever it stood before.
use Rattle.std.proofs.Common.{◌≡◌, ◌≢◌, ◌⊎◌, inl, inr, refl, ap, ap₂, sym, subst, ◌∙◌, ℕ, zero, suc, ◌<◌, Bool, true, false, arith, append_assoc, append-nil}
use Rattle.std.specs.Prelude.{if◌then◌else◌, ◌&&◌, not, List, [], ◌∷◌, ◌++◌, map, filter}
use Rattle.std.proofs.lemmas.List.Elements.{filter-append}
use mathlib.Core.List.{map-append}
use Rattle.sva_model.specs.Words.{select}
use Rattle.sva_model.specs.Wire.{insert_by, sorted_by}
use Rattle.sva_labels.proofs.Words.{ℕ_cases}
use Rattle.sva_labels.proofs.Lists.{select_same}

-- an order of which some elements may be equals
pub record IsOrder {A : Type 0} (below : A → A → Bool) : Type 0 where
  pub one_way : (a b : A) → below a b ≡ true → below b a ≡ false
  pub between : (a b c : A) → below a b ≡ false → below b c ≡ false → below a c ≡ false

-- these two aren't equals
abbrev pub AreApart : {A : Type 0} → (A → A → Bool) → A → A → Type 0
AreApart below a b = below a b ≡ not (below b a)

insert_behind : {A : Type 0} (below : A → A → Bool) (a x : A) (xs : List A) → below x a ≡ true → insert_by below a (x ∷ xs) ≡ x ∷ insert_by below a xs
insert_behind below a x xs h = ap (λ t. if t then x ∷ insert_by below a xs else a ∷ x ∷ xs) h

insert_here : {A : Type 0} (below : A → A → Bool) (a x : A) (xs : List A) → below x a ≡ false → insert_by below a (x ∷ xs) ≡ a ∷ x ∷ xs
insert_here below a x xs h = ap (λ t. if t then x ∷ insert_by below a xs else a ∷ x ∷ xs) h

-- Two insertions, in either order.

must : {A : Type 0} (below : A → A → Bool) → IsOrder below → (x a b : A) → below x a ≡ true → below x b ≡ false → below b a ≡ true
must below or x a b h k = go (below b a) refl
  where
    go : (t : Bool) → below b a ≡ t → below b a ≡ true
    go true e = e
    go false e = absurd (cc (sym h ∙ or.between x b a k e))

insert_swap :
    {A : Type 0} (below : A → A → Bool) → IsOrder below → (a b : A) → AreApart below a b → (xs : List A)
    → insert_by below a (insert_by below b xs) ≡ insert_by below b (insert_by below a xs)
insert_swap below or a b ab [] = go (below b a) refl
  where
    go : (t : Bool) → below b a ≡ t → insert_by below a (b ∷ []) ≡ insert_by below b (a ∷ [])
    go true e = insert_behind below a b [] e ∙ sym (insert_here below b a [] (ab ∙ ap not e))
    go false e = insert_here below a b [] e ∙ sym (insert_behind below b a [] (ab ∙ ap not e))
insert_swap below or a b ab (x ∷ xs) = go (below x a) (below x b) refl refl (insert_swap below or a b ab xs)
  where
    both : (t : Bool) → below b a ≡ t → below x a ≡ false → below x b ≡ false → insert_by below a (b ∷ x ∷ xs) ≡ insert_by below b (a ∷ x ∷ xs)
    both true e ea eb =
        insert_behind below a b (x ∷ xs) e ∙ ap (λ ys. b ∷ ys) (insert_here below a x xs ea) ∙ sym (insert_here below b a (x ∷ xs) (ab ∙ ap not e))
    both false e ea eb =
        insert_here below a b (x ∷ xs) e ∙ sym (insert_behind below b a (x ∷ xs) (ab ∙ ap not e) ∙ ap (λ ys. a ∷ ys) (insert_here below b x xs eb))

    go :
        (xa xb : Bool) → below x a ≡ xa → below x b ≡ xb
        → insert_by below a (insert_by below b xs) ≡ insert_by below b (insert_by below a xs)
        → insert_by below a (if xb then x ∷ insert_by below b xs else b ∷ x ∷ xs) ≡ insert_by below b (if xa then x ∷ insert_by below a xs else a ∷ x ∷ xs)
    go true true ea eb rest =
        insert_behind below a x (insert_by below b xs) ea ∙ ap (λ ys. x ∷ ys) rest ∙ sym (insert_behind below b x (insert_by below a xs) eb)
    go true false ea eb rest =
        insert_behind below a b (x ∷ xs) (must below or x a b ea eb) ∙ ap (λ ys. b ∷ ys) (insert_behind below a x xs ea)
        ∙ sym (insert_here below b x (insert_by below a xs) eb)
    go false true ea eb rest =
        insert_here below a x (insert_by below b xs) ea
        ∙ sym (insert_behind below b a (x ∷ xs) (must below or x b a eb ea) ∙ ap (λ ys. a ∷ ys) (insert_behind below b x xs eb))
    go false false ea eb rest = both (below b a) refl ea eb

-- all of them aren't equals of this one
abbrev AllApart : {A : Type 0} → (A → A → Bool) → A → List A → Type 0
AllApart below a [] = Unit {0}
AllApart below a (x ∷ xs) = AreApart below a x × AllApart below a xs

-- an element in the middle is inserted like one in front
sorted_middle :
    {A : Type 0} (below : A → A → Bool) → IsOrder below → (a : A) (xs ys : List A) → AllApart below a xs
    → sorted_by below (xs ++ a ∷ ys) ≡ insert_by below a (sorted_by below (xs ++ ys))
sorted_middle below or a [] ys h = refl
sorted_middle below or a (x ∷ xs) ys h =
    ap (insert_by below x) (sorted_middle below or a xs ys h.1) ∙ sym (insert_swap below or a x h.0 (sorted_by below (xs ++ ys)))

-- Numbers that pass, each seen, and sorted: one more passes.

apart_select :
    {A : Type 0} (below : A → A → Bool) (a : A) (g : ℕ → A) (n : ℕ) (p : ℕ → Bool) → ((k : ℕ) → k < n → p k ≡ true → AreApart below a (g k))
    → AllApart below a (map g (select n p))
unfolding select
apart_select below a g zero p h = tt
apart_select below a g (suc n) p h = go (p n) refl (map g (select n p)) (apart_select below a g n p (λ k l. h k (omega arith)))
    (map-append g (select n p))
  where
    both : (xs ys : List _) → AllApart below a xs → AllApart below a ys → AllApart below a (xs ++ ys)
    both [] ys i j = j
    both (x ∷ xs) ys i j = (i.0, both xs ys i.1 j)

    go :
        (b : Bool) → p n ≡ b → (xs : List _) → AllApart below a xs → ((ys : List ℕ) → map g (select n p ++ ys) ≡ xs ++ map g ys)
        → AllApart below a (map g (select n p ++ (if b then n ∷ [] else [])))
    go true e xs i m = subst (λ ys. AllApart below a ys) (sym (m (n ∷ []))) (both xs (g n ∷ []) i (h n (omega arith) e, tt))
    go false e xs i m = subst (λ ys. AllApart below a ys) (sym (m [])) (both xs [] i tt)

-- the last number, in front of what follows
last_seen :
    {A : Type 0} (g : ℕ → A) (n : ℕ) (p : ℕ → Bool) (b : Bool) (ys : List A) → p n ≡ b
    → map g (select (suc n) p) ++ ys ≡ map g (select n p) ++ (if b then g n ∷ ys else ys)
unfolding select
last_seen g n p true ys e =
    ap (λ t. map g (select n p ++ (if t then n ∷ [] else [])) ++ ys) e
    ∙ ap (λ xs. xs ++ ys) (map-append g (select n p) (n ∷ []))
    ∙ append_assoc (map g (select n p)) (g n ∷ []) ys
last_seen g n p false ys e =
    ap (λ t. map g (select n p ++ (if t then n ∷ [] else [])) ++ ys) e ∙ ap (λ xs. map g xs ++ ys) (append-nil (select n p))

sorted_more :
    {A : Type 0} (below : A → A → Bool) → IsOrder below → (g : ℕ → A) (n r : ℕ) (p q : ℕ → Bool) (ys : List A) → r < n → p r ≡ false
    → q r ≡ true → ((k : ℕ) → k < n → k ≢ r → q k ≡ p k) → ((k : ℕ) → k < n → p k ≡ true → AreApart below (g r) (g k))
    → sorted_by below (map g (select n q) ++ ys) ≡ insert_by below (g r) (sorted_by below (map g (select n p) ++ ys))
sorted_more below or g zero r p q ys l pr qr same apart = absurd (omega arith)
sorted_more below or g (suc n) r p q ys l pr qr same apart =
    go (ℕ_cases r n) (λ m. sorted_more below or g n r p q (if p n then g n ∷ ys else ys) m pr qr (λ k m. same k (omega arith)) (λ k m. apart k (omega arith)))
  where
    alike :
        select n q ≡ select n p → r ≡ n
        → sorted_by below (map g (select (suc n) q) ++ ys) ≡ insert_by below (g r) (sorted_by below (map g (select (suc n) p) ++ ys))
    alike s e =
        ap (sorted_by below) (last_seen g n q true ys (sym (ap q e) ∙ qr) ∙ ap₂ (λ ks x. map g ks ++ x ∷ ys) s (sym (ap g e)))
        ∙ sorted_middle below or (g r) (map g (select n p)) ys (apart_select below (g r) g n p (λ k m. apart k (omega arith)))
        ∙ sym (ap (λ xs. insert_by below (g r) (sorted_by below xs)) (last_seen g n p false ys (sym (ap p e) ∙ pr)))

    go :
        (r ≡ n) ⊎ (r ≢ n)
        → (r < n → sorted_by below (map g (select n q) ++ (if p n then g n ∷ ys else ys))
        ≡ insert_by below (g r) (sorted_by below (map g (select n p) ++ (if p n then g n ∷ ys else ys))))
        → sorted_by below (map g (select (suc n) q) ++ ys) ≡ insert_by below (g r) (sorted_by below (map g (select (suc n) p) ++ ys))
    go (inl e) rest = alike (select_same n q p (λ k m. same k (omega arith) (less k m))) e
      where
        less : (k : ℕ) → k < n → k ≢ r
        less k m = omega (arith, e)
    go (inr ne) rest =
        ap (sorted_by below) (last_seen g n q (p n) ys (same n (omega arith) (λ e. ne (sym e))))
        ∙ rest (omega arith)
        ∙ sym (ap (λ xs. insert_by below (g r) (sorted_by below xs)) (last_seen g n p (p n) ys refl))

pub sorted_with :
    {A : Type 0} (below : A → A → Bool) → IsOrder below → (g : ℕ → A) (n r : ℕ) (p q : ℕ → Bool) → r < n → p r ≡ false → q r ≡ true
    → ((k : ℕ) → k < n → k ≢ r → q k ≡ p k) → ((k : ℕ) → k < n → p k ≡ true → AreApart below (g r) (g k))
    → sorted_by below (map g (select n q)) ≡ insert_by below (g r) (sorted_by below (map g (select n p)))
sorted_with below or g n r p q l pr qr same apart =
    sym (ap (sorted_by below) (append-nil (map g (select n q))))
    ∙ sorted_more below or g n r p q [] l pr qr same apart
    ∙ ap (λ xs. insert_by below (g r) (sorted_by below xs)) (append-nil (map g (select n p)))

-- A filter of a sorted list.

abbrev NoneBelow : {A : Type 0} → (A → A → Bool) → A → List A → Type 0
NoneBelow below a [] = Unit {0}
NoneBelow below a (x ∷ xs) = (below x a ≡ false) × NoneBelow below a xs

abbrev Rises : {A : Type 0} → (A → A → Bool) → List A → Type 0
Rises below [] = Unit {0}
Rises below (x ∷ xs) = NoneBelow below x xs × Rises below xs

none_higher : {A : Type 0} (below : A → A → Bool) → IsOrder below → (x a : A) (ys : List A) → below x a ≡ false → NoneBelow below x ys → NoneBelow below a ys
none_higher below or x a [] h i = tt
none_higher below or x a (y ∷ ys) h i = (or.between y x a i.0 h, none_higher below or x a ys h i.1)

none_insert : {A : Type 0} (below : A → A → Bool) (k a : A) (xs : List A) → below a k ≡ false → NoneBelow below k xs
    → NoneBelow below k (insert_by below a xs)
none_insert below k a [] h i = (h, tt)
none_insert below k a (x ∷ xs) h i = go (below x a) (none_insert below k a xs h i.1)
  where
    go : (b : Bool) → NoneBelow below k (insert_by below a xs) → NoneBelow below k (if b then x ∷ insert_by below a xs else a ∷ x ∷ xs)
    go true rest = (i.0, rest)
    go false rest = (h, i)

none_filter : {A : Type 0} (below : A → A → Bool) (k : A) (keeps : A → Bool) (xs : List A) → NoneBelow below k xs → NoneBelow below k (filter keeps xs)
none_filter below k keeps [] i = tt
none_filter below k keeps (x ∷ xs) i = go (keeps x) (none_filter below k keeps xs i.1)
  where
    go : (b : Bool) → NoneBelow below k (filter keeps xs) → NoneBelow below k (if b then x ∷ filter keeps xs else filter keeps xs)
    go true rest = (i.0, rest)
    go false rest = rest

rises_insert : {A : Type 0} (below : A → A → Bool) → IsOrder below → (a : A) (xs : List A) → Rises below xs → Rises below (insert_by below a xs)
rises_insert below or a [] h = (tt, tt)
rises_insert below or a (x ∷ xs) h = go (below x a) refl (rises_insert below or a xs h.1)
  where
    go : (b : Bool) → below x a ≡ b → Rises below (insert_by below a xs) → Rises below (if b then x ∷ insert_by below a xs else a ∷ x ∷ xs)
    go true e rest = (none_insert below x a xs (or.one_way x a e) h.0, rest)
    go false e rest = ((e, none_higher below or x a xs e h.0), h)

rises_sorted : {A : Type 0} (below : A → A → Bool) → IsOrder below → (xs : List A) → Rises below (sorted_by below xs)
rises_sorted below or [] = tt
rises_sorted below or (x ∷ xs) = rises_insert below or x (sorted_by below xs) (rises_sorted below or xs)

insert_first : {A : Type 0} (below : A → A → Bool) (a : A) (xs : List A) → NoneBelow below a xs → insert_by below a xs ≡ a ∷ xs
insert_first below a [] h = refl
insert_first below a (x ∷ xs) h = insert_here below a x xs h.0

filter_insert :
    {A : Type 0} (below : A → A → Bool) → IsOrder below → (keeps : A → Bool) (a : A) (xs : List A) → Rises below xs
    → filter keeps (insert_by below a xs) ≡ (if keeps a then insert_by below a (filter keeps xs) else filter keeps xs)
filter_insert below or keeps a [] h = refl
filter_insert below or keeps a (x ∷ xs) h = go (below x a) refl (filter_insert below or keeps a xs h.1)
  where
    behind :
        (k : Bool) → below x a ≡ true → (j : Bool)
        → filter keeps (insert_by below a xs) ≡ (if j then insert_by below a (filter keeps xs) else filter keeps xs)
        → (if k then x ∷ filter keeps (insert_by below a xs) else filter keeps (insert_by below a xs))
        ≡ (if j then insert_by below a (if k then x ∷ filter keeps xs else filter keeps xs) else (if k then x ∷ filter keeps xs else filter keeps xs))
    behind true e true rest = ap (λ z. x ∷ z) rest ∙ sym (insert_behind below a x (filter keeps xs) e)
    behind true e false rest = ap (λ z. x ∷ z) rest
    behind false e true rest = rest
    behind false e false rest = rest

    before :
        (j : Bool) → below x a ≡ false
        → (if j then a ∷ filter keeps (x ∷ xs) else filter keeps (x ∷ xs)) ≡ (if j then insert_by below a (filter keeps (x ∷ xs)) else filter keeps (x ∷ xs))
    before true e = sym (insert_first below a (filter keeps (x ∷ xs)) (none_filter below a keeps (x ∷ xs) (e, none_higher below or x a xs e h.0)))
    before false e = refl

    go :
        (b : Bool) → below x a ≡ b
        → filter keeps (insert_by below a xs) ≡ (if keeps a then insert_by below a (filter keeps xs) else filter keeps xs)
        → filter keeps (if b then x ∷ insert_by below a xs else a ∷ x ∷ xs)
        ≡ (if keeps a then insert_by below a (filter keeps (x ∷ xs)) else filter keeps (x ∷ xs))
    go true e rest = behind (keeps x) e (keeps a) rest
    go false e rest = before (keeps a) e

pub filter_sorted :
    {A : Type 0} (below : A → A → Bool) → IsOrder below → (keeps : A → Bool) (xs : List A)
    → filter keeps (sorted_by below xs) ≡ sorted_by below (filter keeps xs)
filter_sorted below or keeps [] = refl
filter_sorted below or keeps (x ∷ xs) =
    filter_insert below or keeps x (sorted_by below xs) (rises_sorted below or xs) ∙ go (keeps x) (filter_sorted below or keeps xs)
  where
    go :
        (b : Bool) → filter keeps (sorted_by below xs) ≡ sorted_by below (filter keeps xs)
        → (if b then insert_by below x (filter keeps (sorted_by below xs)) else filter keeps (sorted_by below xs))
        ≡ sorted_by below (if b then x ∷ filter keeps xs else filter keeps xs)
    go true rest = ap (insert_by below x) rest
    go false rest = rest

-- what a filter leaves of the numbers that pass
pub filter_select :
    {A : Type 0} (keeps : A → Bool) (f : ℕ → A) (n : ℕ) (p : ℕ → Bool)
    → filter keeps (map f (select n p)) ≡ map f (select n (λ k. p k && keeps (f k)))
unfolding select
filter_select keeps f zero p = refl
filter_select keeps f (suc n) p =
    ap (filter keeps) (map-append f (select n p) (if p n then n ∷ [] else []))
    ∙ filter-append keeps (map f (select n p)) (map f (if p n then n ∷ [] else []))
    ∙ ap₂ (λ xs ys. xs ++ ys) (filter_select keeps f n p) (last (p n) (keeps (f n)) refl)
    ∙ sym (map-append f (select n (λ k. p k && keeps (f k))) (if p n && keeps (f n) then n ∷ [] else []))
  where
    last : (b c : Bool) → keeps (f n) ≡ c → filter keeps (map f (if b then n ∷ [] else [])) ≡ map f (if b && c then n ∷ [] else [])
    last true true e = ap (λ t. if t then f n ∷ [] else []) e
    last true false e = ap (λ t. if t then f n ∷ [] else []) e
    last false c e = refl

pub none_selected : (n : ℕ) (p : ℕ → Bool) → ((k : ℕ) → k < n → p k ≡ false) → select n p ≡ []
unfolding select
none_selected zero p h = refl
none_selected (suc n) p h = ap₂ (λ xs b. xs ++ (if b then n ∷ [] else [])) (none_selected n p (λ k l. h k (omega arith))) (h n (omega arith))
