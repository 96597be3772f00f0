-- What is among the things of a list, and groups by rising serials.
use Rattle.std.proofs.Common.{◌≡◌, ◌⊎◌, inl, inr, refl, ap, sym, ◌∙◌, ℕ, zero, suc, ◌+◌, ◌<◌, ◌≤◌, Bool, true, false, arith}
use Rattle.std.specs.Prelude.{cond, ◌==◌, ◌&&◌, ◌||◌, not, Option, Some, None, List, [], ◌∷◌, ◌++◌, map, filter, drop, slice_get, slice_index_or, slice_set}
use Rattle.std.specs.List.{list_any}
use Rattle.std.proofs.lemmas.Bool.{eqb-true, ne_eqb}
use Rattle.sva_prq.specs.Groups.{OpenGroup, answered_among}
use Rattle.sva_parts_by_labels.specs.JobTableLaws.{IsIn, AreRising}
pub use Rattle.sva_labels.proofs.Tests.{same_bool as same_tests}

-- A thing of a list.

module _ {A : Type 0} where
  pub in_filter : (p : A → Bool) (a : A) (xs : List A) → IsIn a (filter p xs) → IsIn a xs × (p a ≡ true)
  in_filter p a [] h = absurd h
  in_filter p a (x ∷ xs) h = go (p x) refl h (in_filter p a xs)
    where
      go : (b : Bool) → p x ≡ b → IsIn a (cond b (x ∷ filter p xs) (filter p xs)) → (IsIn a (filter p xs) → IsIn a xs × (p a ≡ true))
          → ((x ≡ a) ⊎ IsIn a xs) × (p a ≡ true)
      go true k (inl e) rest = (inl e, sym (ap p e) ∙ k)
      go true k (inr m) rest = let r = rest m in (inr r.0, r.1)
      go false k m rest = let r = rest m in (inr r.0, r.1)

  pub kept_in : (p : A → Bool) (a : A) (xs : List A) → IsIn a xs → p a ≡ true → IsIn a (filter p xs)
  kept_in p a [] h k = h
  kept_in p a (x ∷ xs) (inl e) k = go (p x) (ap p e ∙ k)
    where
      go : (b : Bool) → b ≡ true → IsIn a (cond b (x ∷ filter p xs) (filter p xs))
      go true c = inl e
      go false c = absurd (cc (c))
  kept_in p a (x ∷ xs) (inr m) k = go (p x) (kept_in p a xs m k)
    where
      go : (b : Bool) → IsIn a (filter p xs) → IsIn a (cond b (x ∷ filter p xs) (filter p xs))
      go true r = inr r
      go false r = r

  pub in_append : (a : A) (xs ys : List A) → IsIn a (xs ++ ys) → IsIn a xs ⊎ IsIn a ys
  in_append a [] ys h = inr h
  in_append a (x ∷ xs) ys (inl e) = inl (inl e)
  in_append a (x ∷ xs) ys (inr m) = go (in_append a xs ys m)
    where
      go : IsIn a xs ⊎ IsIn a ys → ((x ≡ a) ⊎ IsIn a xs) ⊎ IsIn a ys
      go (inl r) = inl (inr r)
      go (inr r) = inr r

  pub left_in : (a : A) (xs ys : List A) → IsIn a xs → IsIn a (xs ++ ys)
  left_in a [] ys h = absurd h
  left_in a (x ∷ xs) ys (inl e) = inl e
  left_in a (x ∷ xs) ys (inr m) = inr (left_in a xs ys m)

  pub right_in : (a : A) (xs ys : List A) → IsIn a ys → IsIn a (xs ++ ys)
  right_in a [] ys h = h
  right_in a (x ∷ xs) ys h = inr (right_in a xs ys h)

  pub in_any : (p : A → Bool) (a : A) (xs : List A) → IsIn a xs → p a ≡ true → list_any p xs ≡ true
  in_any p a [] h k = absurd h
  in_any p a (x ∷ xs) (inl e) k = ap (λ b. b || list_any p xs) (ap p e ∙ k)
  in_any p a (x ∷ xs) (inr m) k = go (p x) (in_any p a xs m k)
    where
      go : (b : Bool) → list_any p xs ≡ true → (b || list_any p xs) ≡ true
      go true r = refl
      go false r = r

  pub all_left : (xs : List A) → filter (λ x. true) xs ≡ xs
  all_left [] = refl
  all_left (x ∷ xs) = ap (λ l. x ∷ l) (all_left xs)

  pub none_left_out : (p : A → Bool) (xs : List A) → list_any p xs ≡ false → filter (λ x. not (p x)) xs ≡ xs
  none_left_out p [] h = refl
  none_left_out p (x ∷ xs) h = go (p x) h (none_left_out p xs)
    where
      go : (b : Bool) → (b || list_any p xs) ≡ false → (list_any p xs ≡ false → filter (λ x. not (p x)) xs ≡ xs)
          → cond (not b) (x ∷ filter (λ x. not (p x)) xs) (filter (λ x. not (p x)) xs) ≡ x ∷ xs
      go true k rest = absurd (cc (k))
      go false k rest = ap (λ l. x ∷ l) (rest k)

  -- the first, and those behind it
  pub first_in : (a : A) (xs : List A) → slice_get xs 0 ≡ Some a → IsIn a xs
  first_in a [] h = absurd (cc (h))
  first_in a (x ∷ xs) h = inl (same h)
    where
      or_x : Option A → A
      or_x None = x
      or_x (Some y) = y

      same : Some x ≡ Some a → x ≡ a
      same e = ap or_x e

  pub behind_in : (a : A) (xs : List A) → IsIn a (drop 1 xs) → IsIn a xs
  behind_in a [] h = h
  behind_in a (x ∷ xs) h = inr h

  pub emptied : (k : ℕ) (xs : List (Option A)) → slice_index_or (slice_set xs k None) k None ≡ None
  emptied k [] = refl
  emptied zero (x ∷ xs) = refl
  emptied (suc k) (x ∷ xs) = emptied k xs

pub mapped_in : {A B : Type 0} (f : A → B) (a : A) (xs : List A) → IsIn a xs → IsIn (f a) (map f xs)
mapped_in f a [] h = h
mapped_in f a (x ∷ xs) (inl e) = inl (ap f e)
mapped_in f a (x ∷ xs) (inr m) = inr (mapped_in f a xs m)

-- Rising serials.

pub rising_from : (low more next : ℕ) (gs : List OpenGroup) → low ≤ more → AreRising more next gs → AreRising low next gs
rising_from low more next [] l h = omega (arith, l, h)
rising_from low more next (g ∷ gs) l h = (omega (arith, l, h.0), h.1)

rising_end : (low next : ℕ) (gs : List OpenGroup) → AreRising low next gs → low ≤ next
rising_end low next [] h = h
rising_end low next (g ∷ gs) h = let e = rising_end (g.serial + 1) next gs h.1 in omega (arith, h.0, e)

pub rising_between : (low next : ℕ) (gs : List OpenGroup) → AreRising low next gs → (g : OpenGroup) → IsIn g gs → (low ≤ g.serial) × (g.serial < next)
rising_between low next [] h g m = absurd m
rising_between low next (x ∷ gs) h g (inl e) =
    let same : x.serial ≡ g.serial = ap (λ (y : OpenGroup). y.serial) e in
    let end = rising_end (x.serial + 1) next gs h.1 in
    (omega (arith, h.0, same), omega (arith, end, same))
rising_between low next (x ∷ gs) h g (inr m) =
    let r = rising_between (x.serial + 1) next gs h.1 g m in
    (omega (arith, h.0, r.0), r.1)

-- so a serial tells a group
pub one_of_serial : (low next : ℕ) (gs : List OpenGroup) → AreRising low next gs → (g h : OpenGroup) → IsIn g gs → IsIn h gs → g.serial ≡ h.serial → g ≡ h
one_of_serial low next [] r g h m n e = absurd m
one_of_serial low next (x ∷ gs) r g h (inl a) (inl b) e = sym a ∙ b
one_of_serial low next (x ∷ gs) r g h (inl a) (inr n) e =
    let same : x.serial ≡ g.serial = ap (λ (y : OpenGroup). y.serial) a in
    let past = (rising_between (x.serial + 1) next gs r.1 h n).0 in
    absurd (omega (arith, same, past, e))
one_of_serial low next (x ∷ gs) r g h (inr m) (inl b) e =
    let same : x.serial ≡ h.serial = ap (λ (y : OpenGroup). y.serial) b in
    let past = (rising_between (x.serial + 1) next gs r.1 g m).0 in
    absurd (omega (arith, same, past, e))
one_of_serial low next (x ∷ gs) r g h (inr m) (inr n) e = one_of_serial (x.serial + 1) next gs r.1 g h m n e

pub rising_left : (p : OpenGroup → Bool) (low next : ℕ) (gs : List OpenGroup) → AreRising low next gs → AreRising low next (filter p gs)
rising_left p low next [] h = h
rising_left p low next (g ∷ gs) h = go (p g) (rising_left p (g.serial + 1) next gs h.1)
  where
    go : (b : Bool) → AreRising (g.serial + 1) next (filter p gs) → AreRising low next (cond b (g ∷ filter p gs) (filter p gs))
    go true r = (h.0, r)
    go false r = rising_from low (g.serial + 1) next (filter p gs) (omega (arith, h.0)) r

-- An answer takes out the group of the serial, where that is whole.

abbrev pub is_other : (serial : ℕ) → OpenGroup → Bool
is_other n g = not (g.serial == n)

none_past : (n low next : ℕ) (gs : List OpenGroup) → n < low → AreRising low next gs → filter (is_other n) gs ≡ gs
none_past n low next [] l h = refl
none_past n low next (g ∷ gs) l h =
    let past : (g.serial == n) ≡ false = ne_eqb g.serial n (λ e. absurd (omega (arith, l, h.0, e))) in
    ap (λ b. cond (not b) (g ∷ filter (is_other n) gs) (filter (is_other n) gs)) past
    ∙ ap (λ l. g ∷ l) (none_past n (g.serial + 1) next gs (omega (arith, l, h.0)) h.1)

pub answered_is : (n low next : ℕ) (gs : List OpenGroup) → AreRising low next gs → ((g : OpenGroup) → IsIn g gs → g.serial ≡ n → g.last ≡ true)
    → answered_among n gs ≡ filter (is_other n) gs
answered_is n low next [] h whole = refl
answered_is n low next (g ∷ gs) h whole = go (g.serial == n) g.last refl refl (answered_is n (g.serial + 1) next gs h.1 (λ x m. whole x (inr m)))
  where
    go : (b l : Bool) → (g.serial == n) ≡ b → g.last ≡ l → answered_among n gs ≡ filter (is_other n) gs
        → cond (b && l) gs (g ∷ answered_among n gs) ≡ cond (not b) (g ∷ filter (is_other n) gs) (filter (is_other n) gs)
    go true true k m rest = let same : g.serial ≡ n = eqb-true g.serial n k in sym (none_past n (g.serial + 1) next gs (omega (arith, same)) h.1)
    go true false k m rest = absurd (cc (sym m ∙ whole g (inl refl) (eqb-true g.serial n k)))
    go false l k m rest = ap (λ l. g ∷ l) rest
