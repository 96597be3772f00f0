-- The translations that an endpoint caches stand in rising order of PASID and page, and no two are of one page of a PASID.
use Rattle.std.proofs.Common.{◌≡◌, refl, ap, sym, subst, ℕ, zero, suc, ◌<◌, Bool, true, false, arith}
use Rattle.std.specs.Prelude.{Some, ◌&&◌, ◌||◌, ◌==◌, nat_lt, if◌then◌else◌, List, [], ◌∷◌, ◌++◌, map, slice_get}
use Rattle.std.proofs.lemmas.Bool.Decides.{nat_tests}
use Rattle.std.proofs.lemmas.Option.{same_Some}
use Rattle.std.proofs.lemmas.List.{append-nil}
use mathlib.Core.List.{map-append}
use Rattle.sva_model.specs.Words.{select, is_some, the}
use Rattle.sva_model.specs.State.{Mappings, Endpoint}
use Rattle.sva_model.specs.Wire.{TranslationWire, insert_by, sorted_by, is_before, cached_wire, cache_wire}
use Rattle.sva_labels.proofs.Words.{some_the}
use Rattle.sva_laws.proofs.Orders.{active_unreleased}
use Rattle.sva_laws.proofs.Invariant.{PartInvariant}

abbrev AllOf : {A : Type 0} → (A → Type 0) → List A → Type 0
AllOf P [] = Unit {0}
AllOf P (x ∷ xs) = P x × AllOf P xs

all_push : {A : Type 0} (P : A → Type 0) (xs : List A) (y : A) → AllOf P xs → P y → AllOf P (xs ++ y ∷ [])
all_push P [] y h k = (k, tt)
all_push P (x ∷ xs) y h k = (h.0, all_push P xs y h.1 k)

all_get : {A : Type 0} (P : A → Type 0) (xs : List A) (k : ℕ) (y : A) → AllOf P xs → slice_get xs k ≡ Some y → P y
all_get P [] k y h g = absurd (cc (g))
all_get P (x ∷ xs) zero y h g = subst P (same_Some x y g) h.0
all_get P (x ∷ xs) (suc k) y h g = all_get P xs k y h.1 g

all_select : {A : Type 0} (P : A → Type 0) (n : ℕ) (q : ℕ → Bool) (f : ℕ → A) → ((k : ℕ) → k < n → q k ≡ true → P (f k)) → AllOf P (map f (select n q))
unfolding select
all_select P zero q f h = tt
all_select P (suc n) q f h = go (q n) refl (all_select P n q f (λ k l t. h k (omega (arith, l)) t))
  where
    go : (b : Bool) → q n ≡ b → AllOf P (map f (select n q)) → AllOf P (map f (select n q ++ (if b then n ∷ [] else [])))
    go true t rest = subst (AllOf P) (sym (map-append f (select n q) (n ∷ []))) (all_push P (map f (select n q)) (f n) rest (h n (omega arith) t))
    go false t rest = subst (λ xs. AllOf P (map f xs)) (sym (append-nil (select n q))) rest

-- Translations in their order.

-- of these two one comes before the other
abbrev AreApart : TranslationWire → TranslationWire → Type 0
AreApart x y = is_before y x ≡ false → is_before x y ≡ true

abbrev PairsApart : List TranslationWire → Type 0
PairsApart [] = Unit {0}
PairsApart (x ∷ xs) = AllOf (AreApart x) xs × PairsApart xs

abbrev Rise : List TranslationWire → Type 0
Rise [] = Unit {0}
Rise (x ∷ xs) = AllOf (λ y. is_before x y ≡ true) xs × Rise xs

comes_on :
    (t q u r v s : ℕ) → (nat_lt t u || (t == u && nat_lt q r)) ≡ true → (nat_lt u v || (u == v && nat_lt r s)) ≡ true
    → (nat_lt t v || (t == v && nat_lt q s)) ≡ true
comes_on t q u r v s h k = grind (arith, nat_tests)

before_on : (x y z : TranslationWire) → is_before x y ≡ true → is_before y z ≡ true → is_before x z ≡ true
before_on x y z h k = comes_on x.pasid x.page y.pasid y.page z.pasid z.page h k

all_before :
    (a x : TranslationWire) (xs : List TranslationWire) → is_before a x ≡ true → AllOf (λ y. is_before x y ≡ true) xs
    → AllOf (λ y. is_before a y ≡ true) xs
all_before a x [] h k = tt
all_before a x (y ∷ ys) h k = (before_on a x y h k.0, all_before a x ys h k.1)

all_insert : (P : TranslationWire → Type 0) (a : TranslationWire) (xs : List TranslationWire) → P a → AllOf P xs → AllOf P (insert_by is_before a xs)
all_insert P a [] h k = (h, tt)
all_insert P a (x ∷ xs) h k = go (is_before x a) (all_insert P a xs h k.1)
  where
    go : (b : Bool) → AllOf P (insert_by is_before a xs) → AllOf P (if b then x ∷ insert_by is_before a xs else a ∷ x ∷ xs)
    go true rest = (k.0, rest)
    go false rest = (h, k)

all_sorted : (P : TranslationWire → Type 0) (xs : List TranslationWire) → AllOf P xs → AllOf P (sorted_by is_before xs)
all_sorted P [] h = tt
all_sorted P (x ∷ xs) h = all_insert P x (sorted_by is_before xs) h.0 (all_sorted P xs h.1)

rise_insert : (a : TranslationWire) (xs : List TranslationWire) → Rise xs → AllOf (AreApart a) xs → Rise (insert_by is_before a xs)
rise_insert a [] h k = (tt, tt)
rise_insert a (x ∷ xs) h k = go (is_before x a) refl (rise_insert a xs h.1 k.1)
  where
    go : (b : Bool) → is_before x a ≡ b → Rise (insert_by is_before a xs) → Rise (if b then x ∷ insert_by is_before a xs else a ∷ x ∷ xs)
    go true e rest = (all_insert (λ y. is_before x y ≡ true) a xs e h.0, rest)
    go false e rest = ((k.0 e, all_before a x xs (k.0 e) h.0), h)

rise_sorted : (xs : List TranslationWire) → PairsApart xs → Rise (sorted_by is_before xs)
rise_sorted [] h = tt
rise_sorted (x ∷ xs) h = rise_insert x (sorted_by is_before xs) (rise_sorted xs h.1) (all_sorted (AreApart x) xs h.0)

rise_get :
    (xs : List TranslationWire) (j k : ℕ) (x y : TranslationWire) → Rise xs → j < k → slice_get xs j ≡ Some x → slice_get xs k ≡ Some y
    → is_before x y ≡ true
rise_get [] j k x y h l a b = absurd (cc (a))
rise_get (z ∷ zs) j zero x y h l a b = absurd (omega (arith, l))
rise_get (z ∷ zs) zero (suc k) x y h l a b =
    all_get (λ v. is_before x v ≡ true) zs k y (subst (λ u. AllOf (λ v. is_before u v ≡ true) zs) (same_Some z x a) h.0) b
rise_get (z ∷ zs) (suc j) (suc k) x y h l a b = rise_get zs j k x y h.1 (omega (arith, l)) a b

pairs_push : (xs : List TranslationWire) (y : TranslationWire) → PairsApart xs → AllOf (λ x. AreApart x y) xs → PairsApart (xs ++ y ∷ [])
pairs_push [] y h k = (tt, tt)
pairs_push (x ∷ xs) y h k = (all_push (AreApart x) xs y h.0 k.0, pairs_push xs y h.1 k.1)

pairs_select :
    (n : ℕ) (q : ℕ → Bool) (f : ℕ → TranslationWire) → ((j k : ℕ) → j < k → k < n → q j ≡ true → q k ≡ true → AreApart (f j) (f k))
    → PairsApart (map f (select n q))
unfolding select
pairs_select zero q f h = tt
pairs_select (suc n) q f h = go (q n) refl (pairs_select n q f (λ j k l m s t. h j k l (omega (arith, m)) s t))
  where
    go : (b : Bool) → q n ≡ b → PairsApart (map f (select n q)) → PairsApart (map f (select n q ++ (if b then n ∷ [] else [])))
    go true t rest =
        subst PairsApart (sym (map-append f (select n q) (n ∷ [])))
        (pairs_push (map f (select n q)) (f n) rest (all_select (λ x. AreApart x (f n)) n q f (λ k l s. h k n l (omega arith) s t)))
    go false t rest = subst (λ xs. PairsApart (map f xs)) (sym (append-nil (select n q))) rest

-- What is cached.

keys_apart : (t q u r : ℕ) → (t ≡ u → q ≡ r → ⊥) → (nat_lt u t || (u == t && nat_lt r q)) ≡ false → (nat_lt t u || (t == u && nat_lt q r)) ≡ true
keys_apart t q u r ne h = grind (arith, nat_tests)

one_bearer : (p : Endpoint) (b d : ℕ) → p.at_pasid (p.pasid b) ≡ Some b → p.at_pasid (p.pasid d) ≡ Some d → p.pasid b ≡ p.pasid d → b ≡ d
one_bearer p b d h k e = let z : p.at_pasid (p.pasid b) ≡ p.at_pasid (p.pasid d) = ap p.at_pasid e in cc

cached_apart :
    (ms : Mappings) (x g n e : ℕ) (p : Endpoint) (j k : ℕ) → PartInvariant ms x g n e p → j < k → is_some (p.held j) ≡ true → is_some (p.held k) ≡ true
    → AreApart (cached_wire ms p j) (cached_wire ms p k)
cached_apart ms x g n e p j k i l s t =
    keys_apart (p.pasid (p.request_binding j)) (p.request_page j) (p.pasid (p.request_binding k)) (p.request_page k) (λ a b. absurd (apart a b))
  where
    bears : (r : ℕ) → is_some (p.held r) ≡ true → p.at_pasid (p.pasid (p.request_binding r)) ≡ Some (p.request_binding r)
    bears r u = i.labels.bears_pasid (p.request_binding r)
        (active_unreleased (p.stage (p.request_binding r)) (i.owners.held r (the (p.held r)) (some_the (p.held r) u)))

    apart : p.pasid (p.request_binding j) ≡ p.pasid (p.request_binding k) → p.request_page j ≡ p.request_page k → ⊥
    apart a b =
        let same = i.requests.one_held j k (the (p.held j)) (the (p.held k)) (some_the (p.held j) s) (some_the (p.held k) t)
        (one_bearer p (p.request_binding j) (p.request_binding k) (bears j s) (bears k t) a) b in
        absurd (omega (arith, l, same))

pub cache_rising :
    (ms : Mappings) (x g n e : ℕ) (p : Endpoint) → PartInvariant ms x g n e p → (j k : ℕ) (a b : TranslationWire) → j < k
    → slice_get (cache_wire ms p) j ≡ Some a → slice_get (cache_wire ms p) k ≡ Some b
    → is_before a b ≡ true
cache_rising ms x g n e p i j k a b l h m =
    rise_get (cache_wire ms p) j k a b
    (rise_sorted (map (cached_wire ms p) (select p.requests (λ r. is_some (p.held r))))
    (pairs_select p.requests (λ r. is_some (p.held r)) (cached_wire ms p) (λ c d o q s t. cached_apart ms x g n e p c d i o s t)))
    l h m
