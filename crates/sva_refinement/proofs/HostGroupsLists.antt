-- A page request filed in a list of open groups: it stands in the one that is begun, or in a new one at the end. And which
-- filings begin a group.
use Rattle.std.proofs.Common.{◌≡◌, ◌≢◌, ◌⊎◌, inl, inr, refl, ap, ap₂, sym, ◌∙◌, ℕ, zero, suc, ◌<◌, Bool, true, false, arith, append-nil, append_assoc}
use Rattle.std.specs.Prelude.{◌&&◌, not, ◌==◌, if◌then◌else◌, List, [], ◌∷◌, ◌++◌, map}
use Rattle.sva_model.specs.Words.{any_below, select}
use Rattle.sva_model.specs.Wire.{PageRequestWire, HostGroupWire}
use Rattle.sva_labels.proofs.Words.{ℕ_cases}
use Rattle.sva_labels.specs.Moves.{filed, is_begun}
use Rattle.sva_refinement.proofs.Picked.{if_passes, picked_next, picked_same}
use Rattle.sva_labels.proofs.Lists.{any_same}

-- what a page request begins, and what it is added to
abbrev pub begun_by : (binding : ℕ) → PageRequestWire → HostGroupWire
begun_by b r = record { binding = b; index = r.index; asks = r.ask ∷ []; is_whole = r.last }

abbrev pub added_to : PageRequestWire → HostGroupWire → HostGroupWire
added_to r g = record g { asks = g.asks ++ r.ask ∷ []; is_whole = r.last }

filed_head : (b : ℕ) (r : PageRequestWire) (x : HostGroupWire) (xs : List HostGroupWire) → is_begun b r.index x ≡ false → filed b r (x ∷ xs) ≡ x
    ∷ filed b r xs
filed_head b r x xs h = ap (λ z. if z then added_to r x ∷ xs else x ∷ filed b r xs) h

-- it passes by the groups that aren't begun
pub filed_past :
    (b : ℕ) (r : PageRequestWire) (n : ℕ) (f : ℕ → HostGroupWire) (p : ℕ → Bool) (ys : List HostGroupWire)
    → ((k : ℕ) → k < n → p k ≡ true → is_begun b r.index (f k) ≡ false)
    → filed b r (map f (select n p) ++ ys) ≡ map f (select n p) ++ filed b r ys
unfolding select
filed_past b r zero f p ys h = refl
filed_past b r (suc n) f p ys h =
    ap (λ xs. filed b r (xs ++ ys)) (picked_next f n p)
    ∙ ap (filed b r) (append_assoc (map f (select n p)) (if_passes (p n) (f n)) ys)
    ∙ filed_past b r n f p (if_passes (p n) (f n) ++ ys) (λ k l. h k (omega arith))
    ∙ ap (λ xs. map f (select n p) ++ xs) (go (p n) (h n (omega arith)))
    ∙ sym (append_assoc (map f (select n p)) (if_passes (p n) (f n)) (filed b r ys))
    ∙ ap (λ xs. xs ++ filed b r ys) (sym (picked_next f n p))
  where
    go : (t : Bool) → (t ≡ true → is_begun b r.index (f n) ≡ false) → filed b r (if_passes t (f n) ++ ys) ≡ if_passes t (f n) ++ filed b r ys
    go true k = filed_head b r (f n) ys (k refl)
    go false k = refl

pub filed_new :
    (b : ℕ) (r : PageRequestWire) (n : ℕ) (f : ℕ → HostGroupWire) (p : ℕ → Bool)
    → ((k : ℕ) → k < n → p k ≡ true → is_begun b r.index (f k) ≡ false)
    → filed b r (map f (select n p)) ≡ map f (select n p) ++ begun_by b r ∷ []
filed_new b r n f p h = ap (filed b r) (sym (append-nil (map f (select n p)))) ∙ filed_past b r n f p [] h

-- it is added to the one that is begun
pub filed_into :
    (b : ℕ) (r : PageRequestWire) (n m : ℕ) (f g : ℕ → HostGroupWire) (p : ℕ → Bool) (ys : List HostGroupWire) → m < n → p m ≡ true
    → is_begun b r.index (f m) ≡ true → g m ≡ added_to r (f m)
    → ((k : ℕ) → k < n → k ≢ m → p k ≡ true → (is_begun b r.index (f k) ≡ false) × (g k ≡ f k))
    → map g (select n p) ++ ys ≡ filed b r (map f (select n p) ++ ys)
filed_into b r zero m f g p ys l t begun here other = absurd (omega arith)
filed_into b r (suc n) m f g p ys l t begun here other =
    go (ℕ_cases m n) (λ k. filed_into b r n m f g p (if_passes (p n) (f n) ++ ys) k t begun here (λ j i. other j (omega arith)))
  where
    whole : filed b r (map f (select (suc n) p) ++ ys) ≡ filed b r (map f (select n p) ++ (if_passes (p n) (f n) ++ ys))
    whole = ap (λ xs. filed b r (xs ++ ys)) (picked_next f n p) ∙ ap (filed b r) (append_assoc (map f (select n p)) (if_passes (p n) (f n)) ys)

    last : (z : Bool) → n ≢ m → p n ≡ z → if_passes z (g n) ≡ if_passes z (f n)
    last true ne h = ap (λ x. x ∷ []) (other n (omega arith) ne h).1
    last false ne h = refl

    go :
        (m ≡ n) ⊎ (m ≢ n)
        → (m < n → map g (select n p) ++ (if_passes (p n) (f n) ++ ys) ≡ filed b r (map f (select n p) ++ (if_passes (p n) (f n) ++ ys)))
        → map g (select (suc n) p) ++ ys ≡ filed b r (map f (select (suc n) p) ++ ys)
    go (inl e) rest =
        ap (λ xs. xs ++ ys) (picked_next g n p)
        ∙ append_assoc (map g (select n p)) (if_passes (p n) (g n)) ys
        ∙ ap₂ (λ xs zs. xs ++ zs)
        (picked_same n g f p p (λ k i. refl) (λ k i h. (other k (omega arith) (λ x. absurd (omega (arith, x, e, i))) h).1))
        (ap (λ z. if_passes z (g n) ++ ys) passes ∙ ap (λ x. x ∷ ys) (ap g (sym e) ∙ here ∙ ap (λ k. added_to r (f k)) e) ∙ sym added)
        ∙ sym (filed_past b r n f p (if_passes (p n) (f n) ++ ys) (λ k i h. (other k (omega arith) (λ x. absurd (omega (arith, x, e, i))) h).0))
        ∙ sym whole
      where
        passes : p n ≡ true
        passes = ap p (sym e) ∙ t

        added : filed b r (if_passes (p n) (f n) ++ ys) ≡ added_to r (f n) ∷ ys
        added =
            ap (λ z. filed b r (if_passes z (f n) ++ ys)) passes
            ∙ ap (λ z. if z then added_to r (f n) ∷ ys else f n ∷ filed b r ys) (ap (λ k. is_begun b r.index (f k)) (sym e) ∙ begun)
    go (inr ne) rest =
        ap (λ xs. xs ++ ys) (picked_next g n p)
        ∙ append_assoc (map g (select n p)) (if_passes (p n) (g n)) ys
        ∙ ap (λ zs. map g (select n p) ++ (zs ++ ys)) (last (p n) (λ x. ne (sym x)) refl)
        ∙ rest (omega arith)
        ∙ sym whole

-- The filings that begin a group: no older one is of it.

-- `of` is the group of a filing, and `opens` tells of the group
abbrev pub begins : (opens : ℕ → Bool) → (of : ℕ → ℕ) → (filing : ℕ) → Bool
begins opens of k = opens (of k) && not (any_below k (λ j. of j == of k))

pub begins_same :
    (opens others : ℕ → Bool) (of by : ℕ → ℕ) (k : ℕ) → ((j : ℕ) → j < suc k → by j ≡ of j) → others (of k) ≡ opens (of k)
    → begins others by k ≡ begins opens of k
begins_same opens others of by k h o =
    ap₂ (λ a b. a && not b) (ap others (h k (omega arith)) ∙ o)
    (any_same k (λ j. by j == by k) (λ j. of j == of k) (λ j l. ap₂ (λ a b. a == b) (h j (omega arith)) (h k (omega arith))))
