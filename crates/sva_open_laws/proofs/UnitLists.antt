-- What stands in a queue that is gathered by names, and which of its labels is free.
use Rattle.std.proofs.Common.{◌≡◌, ◌≢◌, ◌⊎◌, inl, inr, refl, ap, sym, subst, ◌∙◌, ℕ, zero, suc, ◌+◌, ◌<◌, ◌≤◌, Bool, true, false, arith}
use Rattle.std.specs.Prelude.{◌==◌, not, nat_lt, if◌then◌else◌, List, [], ◌∷◌, ◌++◌, Option, Some, None}
use Rattle.std.specs.List.{list_any}
use Rattle.std.proofs.lemmas.Bool.Decides.{nat_tests}
use Rattle.std.proofs.lemmas.List.{append-nil}
use Rattle.sva_model.specs.Words.{any_below, count_below, find, if_found, is_some, lowest}
use Rattle.sva_labels.proofs.Words.{ℕ_cases, lowest_cases}
use Rattle.sva_open.specs.declared.descriptors.Issued.{Issued}
use Rattle.sva_open.specs.Units.{free_itag, has_itag}
use Rattle.sva_open_laws.specs.AsOpen.{gather}
use Rattle.sva_open_laws.proofs.GatherLists.{gather_next, gather_same}

-- ---- One thing more at the end

-- where a name gives one thing more, and no name behind it gives anything
pub gather_end : {A : Type 0} (n : ℕ) (f g : ℕ → List A) (k : ℕ) (x : A) → k < n → f k ≡ [] → g k ≡ x ∷ []
    → ((j : ℕ) → j < k → g j ≡ f j) → ((j : ℕ) → k < j → j < n → f j ≡ []) → ((j : ℕ) → k < j → j < n → g j ≡ [])
    → gather n g ≡ gather n f ++ x ∷ []
gather_end zero f g k x l none one before old new = absurd (omega (arith, l))
gather_end {A} (suc n) f g k x l none one before old new =
    go (ℕ_cases k n)
    (λ m. gather_end n f g k x m none one before (λ j a b. old j a (omega (arith, b))) (λ j a b. new j a (omega (arith, b))))
  where
    ends : (xs ys zs : List A) → xs ≡ [] → ys ≡ x ∷ [] → zs ++ ys ≡ (zs ++ xs) ++ x ∷ []
    ends xs ys zs a b =
        ap (λ v. zs ++ v) b ∙ ap (λ v. v ++ x ∷ []) (sym (append-nil zs)) ∙ ap (λ v. (zs ++ v) ++ x ∷ []) (sym a)

    go : (k ≡ n) ⊎ (k ≢ n) → (k < n → gather n g ≡ gather n f ++ x ∷ []) → gather (suc n) g ≡ gather (suc n) f ++ x ∷ []
    go (inl same) rest =
        gather_next n g
        ∙ ap (λ v. v ++ g n) (gather_same n g f (λ j m. before j (subst (λ z. j < z) (sym same) m)))
        ∙ ends (f n) (g n) (gather n f) (sym (ap f same) ∙ none) (sym (ap g same) ∙ one)
        ∙ ap (λ v. v ++ x ∷ []) (sym (gather_next n f))
    go (inr ne) rest =
        gather_next n g ∙ ap (λ v. gather n g ++ v) (new n (omega (arith, l, ne)) (omega arith)) ∙ append-nil (gather n g)
        ∙ rest (omega (arith, l, ne))
        ∙ ap (λ v. v ++ x ∷ [])
        (sym (gather_next n f ∙ ap (λ v. gather n f ++ v) (old n (omega (arith, l, ne)) (omega arith)) ∙ append-nil (gather n f)))

-- ---- Counts that are none

pub none_counted : (n : ℕ) (f : ℕ → Bool) → (count_below n f == 0) ≡ not (any_below n f)
unfolding count_below any_below
none_counted zero f = refl
none_counted (suc n) f = go (f n) (none_counted n f)
  where
    some : (m : ℕ) → (suc m == 0) ≡ false
    some m = grind (arith, nat_tests)

    go : (b : Bool) → (count_below n f == 0) ≡ not (any_below n f)
        → ((if b then suc (count_below n f) else count_below n f) == 0) ≡ not (if b then true else any_below n f)
    go true h = some (count_below n f)
    go false h = h

-- ---- ITags

-- the lowest of so many from one on that isn't busy
pub lowest_of : (issued : List Issued) (many first t : ℕ) → first ≤ t → t < first + many → list_any (has_itag t) issued ≡ false
    → ((j : ℕ) → first ≤ j → j < t → list_any (has_itag j) issued ≡ true) → free_itag issued many first ≡ Some t
unfolding free_itag
lowest_of issued zero first t a b free busy = absurd (omega (arith, a, b))
lowest_of issued (suc many) first t a b free busy =
    go (ℕ_cases first t)
    (λ ne. lowest_of issued many (suc first) t (omega (arith, a, ne)) (omega (arith, b)) free (λ j l m. busy j (omega (arith, l)) m))
  where
    go : (first ≡ t) ⊎ (first ≢ t) → (first ≢ t → free_itag issued many (suc first) ≡ Some t)
        → (if list_any (has_itag first) issued then free_itag issued many (suc first) else Some first) ≡ Some t
    go (inl same) rest =
        ap (λ (c : Bool). if c then free_itag issued many (suc first) else Some first) (ap (λ z. list_any (has_itag z) issued) same ∙ free)
        ∙ ap Some same
    go (inr ne) rest =
        ap (λ (c : Bool). if c then free_itag issued many (suc first) else Some first) (busy first (omega arith) (omega (arith, a, ne))) ∙ rest ne

pub none_of : (issued : List Issued) (many first : ℕ) → ((j : ℕ) → first ≤ j → j < first + many → list_any (has_itag j) issued ≡ true)
    → free_itag issued many first ≡ None
unfolding free_itag
none_of issued zero first busy = refl
none_of issued (suc many) first busy =
    ap (λ (c : Bool). if c then free_itag issued many (suc first) else Some first) (busy first (omega arith) (omega arith))
    ∙ none_of issued many (suc first) (λ j l m. busy j (omega (arith, l)) (omega (arith, m)))

-- the lowest label that no record bears, where the same are busy
pub lowest_free_itag : (issued : List Issued) (n : ℕ) (at : ℕ → Option ℕ) → ((t : ℕ) → list_any (has_itag t) issued ≡ is_some (at t))
    → free_itag issued n 0 ≡ find n (λ t. not (is_some (at t)))
lowest_free_itag issued n at same = go (lowest_cases n free)
  where
    free : ℕ → Bool
    free t = not (is_some (at t))

    turned : (b c : Bool) → b ≡ c → not c ≡ false → b ≡ true
    turned true c h k = refl
    turned false true h k = absurd (cc)
    turned false false h k = absurd (cc)

    unturned : (b c : Bool) → b ≡ c → not c ≡ true → b ≡ false
    unturned false c h k = refl
    unturned true true h k = absurd (cc)
    unturned true false h k = absurd (cc)

    go : ((lowest n free ≡ n) × ((j : ℕ) → j < n → free j ≡ false))
        ⊎ ((lowest n free < n) × (free (lowest n free) ≡ true) × ((j : ℕ) → j < lowest n free → free j ≡ false))
        → free_itag issued n 0 ≡ if_found (nat_lt (lowest n free) n) (lowest n free)
    go (inl x) =
        none_of issued n 0 (λ j l m. turned (list_any (has_itag j) issued) (is_some (at j)) (same j) (x.1 j (omega (arith, m))))
        ∙ sym (ap (λ z. if_found (nat_lt z n) z) x.0 ∙ ap (λ b. if_found b n) (past n))
      where
        past : (m : ℕ) → nat_lt m m ≡ false
        past m = grind (arith, nat_tests)
    go (inr x) =
        let t = lowest n (λ t. not (is_some (at t))) in
        let low = x.0 in
        lowest_of issued n 0 t (omega arith) (omega (arith, low)) (unturned (list_any (has_itag t) issued) (is_some (at t)) (same t) x.1)
        (λ j l m. turned (list_any (has_itag j) issued) (is_some (at j)) (same j) (x.2 j m))
        ∙ ap (λ b. if_found b t) (sym (below t n low))
      where
        below : (m k : ℕ) → m < k → nat_lt m k ≡ true
        below m k l = grind (arith, nat_tests)
