-- How many bindings are under one PASID: they are of one space, which has one binding at an endpoint, so no more than there are
-- endpoints.
use Rattle.std.proofs.Common.{◌≡◌, refl, sym, ◌∙◌, subst, ℕ, zero, suc, ◌+◌, ◌<◌, ◌≤◌, Bool, true, false, cond, arith}
use Rattle.std.specs.Prelude.{◌==◌, ◌||◌, Some, List, [], ◌∷◌, if◌then◌else◌, length, slice_get, count_by}
use Rattle.std.specs.List.{AllByRecursion, list_any, IsDistinct}
use Rattle.std.proofs.lemmas.Bool.Decides.{nat_tests}
use Rattle.std.proofs.lemmas.List.Sums.{sum_by-cons}
use Rattle.std.proofs.lemmas.Map.Keys.{IsDistinct-cons}
use Rattle.std.proofs.lemmas.Map.Steps.{length-le_from_distinct_below}
use Rattle.sva_model.specs.Wire.{Wire, BindingWire}
use Rattle.sva_labels.specs.Sound.{IsSound}

-- the endpoints of the bindings under a PASID
abbrev endpoints_under : (pasid : ℕ) → List BindingWire → List ℕ
endpoints_under t [] = []
endpoints_under t (b ∷ bs) = if b.pasid == t then b.endpoint ∷ endpoints_under t bs else endpoints_under t bs

counted : (t : ℕ) (bs : List BindingWire) → count_by (λ (b : BindingWire). b.pasid == t) bs ≡ length (endpoints_under t bs)
counted t [] = refl
counted t (b ∷ bs) = sum_by-cons (λ (b : BindingWire). cond (b.pasid == t) 1 0) b bs ∙ go (b.pasid == t) (counted t bs)
  where
    go : (c : Bool) → count_by (λ (b : BindingWire). b.pasid == t) bs ≡ length (endpoints_under t bs)
        → cond c 1 0 + count_by (λ (b : BindingWire). b.pasid == t) bs ≡ length (if c then b.endpoint ∷ endpoints_under t bs else endpoints_under t bs)
    go true is = omega (arith, is)
    go false is = omega (arith, is)

equal : (a b : ℕ) → (a == b) ≡ true → a ≡ b
equal a b is = grind (arith, nat_tests)

-- no two bindings under a PASID are at one endpoint
abbrev AreApart : (pasid : ℕ) → List BindingWire → Type 0
AreApart t bs =
    (j k : ℕ) (b d : BindingWire) → slice_get bs j ≡ Some b → slice_get bs k ≡ Some d → b.pasid ≡ t → d.pasid ≡ t → b.endpoint ≡ d.endpoint → j ≡ k

others : (t e : ℕ) (bs : List BindingWire) → ((k : ℕ) (d : BindingWire) → slice_get bs k ≡ Some d → d.pasid ≡ t → e ≡ d.endpoint → ⊥)
    → AllByRecursion (λ y. (e == y) ≡ false) (endpoints_under t bs)
others t e [] apart = tt
others t e (b ∷ bs) apart = go (b.pasid == t) refl (others t e bs (λ k d h. apart (suc k) d h))
  where
    differ : (x y c : ℕ) → (c == t) ≡ true → (c ≡ t → x ≡ y → ⊥) → (x == y) ≡ false
    differ x y c is apart = by (x == y) refl
      where
        by : (b : Bool) → (x == y) ≡ b → b ≡ false
        by true same = absurd (apart (equal c t is) (equal x y same))
        by false same = refl

    go : (c : Bool) → (b.pasid == t) ≡ c → AllByRecursion (λ y. (e == y) ≡ false) (endpoints_under t bs)
        → AllByRecursion (λ y. (e == y) ≡ false) (if c then b.endpoint ∷ endpoints_under t bs else endpoints_under t bs)
    go true is rest = (differ e b.endpoint b.pasid is (apart 0 b refl), rest)
    go false is rest = rest

distinct : (t : ℕ) (bs : List BindingWire) → AreApart t bs → IsDistinct (◌==◌) (endpoints_under t bs)
unfolding IsDistinct
distinct t [] apart = tt
distinct t (b ∷ bs) apart =
    go (b.pasid == t) refl (distinct t bs (λ j k d f h i p q s. less j k (apart (suc j) (suc k) d f h i p q s)))
  where
    less : (j k : ℕ) → suc j ≡ suc k → j ≡ k
    less j k is = omega (arith, is)

    never : (k : ℕ) → zero ≡ suc k → ⊥
    never k is = omega (arith, is)

    go : (c : Bool) → (b.pasid == t) ≡ c → IsDistinct (◌==◌) (endpoints_under t bs)
        → IsDistinct (◌==◌) (if c then b.endpoint ∷ endpoints_under t bs else endpoints_under t bs)
    go true is rest =
        IsDistinct-cons (◌==◌) b.endpoint (endpoints_under t bs)
        (others t b.endpoint bs (λ k d h p s. never k (apart zero (suc k) b d refl h (equal b.pasid t is) p s)))
        rest
    go false is rest = rest

below : (t n q : ℕ) (bs : List BindingWire) → ((k : ℕ) (b : BindingWire) → slice_get bs k ≡ Some b → b.endpoint < n)
    → list_any (λ y. q == y) (endpoints_under t bs) ≡ true → q < n
below t n q [] low is = absurd (cc (is))
below t n q (b ∷ bs) low is = go (b.pasid == t) is (below t n q bs (λ k d h. low (suc k) d h))
  where
    one : (c : Bool) → (q == b.endpoint) ≡ c → (c || list_any (λ y. q == y) (endpoints_under t bs)) ≡ true
        → (list_any (λ y. q == y) (endpoints_under t bs) ≡ true → q < n) → q < n
    one true same is rest = subst (λ x. x < n) (sym (equal q b.endpoint same)) (low 0 b refl)
    one false same is rest = rest is

    go : (c : Bool) → list_any (λ y. q == y) (if c then b.endpoint ∷ endpoints_under t bs else endpoints_under t bs) ≡ true
        → (list_any (λ y. q == y) (endpoints_under t bs) ≡ true → q < n) → q < n
    go true is rest = one (q == b.endpoint) refl is rest
    go false is rest = rest is

pub few_under : (w : Wire) (t : ℕ) → IsSound w → count_by (λ (b : BindingWire). b.pasid == t) w.bindings ≤ 8
few_under w t s =
    let short = length-le_from_distinct_below (endpoints_under t w.bindings) (length w.parts) (distinct t w.bindings apart)
    (λ q is. below t (length w.parts) q w.bindings s.endpoint_low is) in
    omega (arith, counted t w.bindings, short, s.few_parts)
  where
    apart : (j k : ℕ) (b d : BindingWire) → slice_get w.bindings j ≡ Some b → slice_get w.bindings k ≡ Some d → b.pasid ≡ t → d.pasid ≡ t
        → b.endpoint ≡ d.endpoint → j ≡ k
    apart j k b d h i p q e = s.one_each j k b d h i e ((s.pasids_shared j k b d h i).0 (p ∙ sym q))
