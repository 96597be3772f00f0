-- The spaces that a host keeps, by their numbers: the pages of one, the spaces with other pages in one, and without one.
use Rattle.std.proofs.Common.{◌≡◌, ◌≢◌, ◌⊎◌, inl, inr, refl, ap, ap₂, sym, ◌∙◌, ℕ, zero, suc, ◌+◌, Bool, true, false, arith}
use Rattle.std.specs.Prelude.{Some, None, ◌&&◌, ◌||◌, not, ◌==◌, nat_lt, if◌then◌else◌, List, [], ◌∷◌, ◌++◌, map, filter}
use Rattle.std.specs.List.{list_any}
use Rattle.std.proofs.lemmas.Bool.Decides.{nat_tests}
use Rattle.std.proofs.lemmas.Bool.{eq-eqb, eqb-true, ne_eqb}
use Rattle.std.proofs.lemmas.List.Folds.{list_any-append}
use Rattle.sva_model.specs.Words.{put, select}
use Rattle.sva_model.specs.Wire.{PageWire}
use Rattle.sva_labels.proofs.Words.{put-same, put-other, ℕ_cases}
use Rattle.sva_labels.proofs.Tests.{or_no}
use Rattle.sva_refinement.proofs.SpacesByNumber.{space_by}
use Rattle.sva_labels.specs.Finding.{pages_of}
use Rattle.sva_labels.specs.Moves.{with_pages, without_space}
pub use Rattle.sva_refinement.proofs.Picked.{filter_append}

-- two names have one number where they are one
pub same_number : (first a b : ℕ) → (first + a == first + b) ≡ (a == b)
same_number first a b = go (ℕ_cases a b)
  where
    go : (a ≡ b) ⊎ (a ≢ b) → (first + a == first + b) ≡ (a == b)
    go (inl e) = eq-eqb (first + a) (first + b) (ap (λ z. first + z) e) ∙ sym (eq-eqb a b e)
    go (inr ne) =
        let other : first + a ≢ first + b = λ e. ne (omega (arith, e)) in
        ne_eqb (first + a) (first + b) other ∙ sym (ne_eqb a b ne)

-- the pages of a number are those of its space
pub pages_among :
    (first : ℕ) (pages : ℕ → List PageWire) (ss : List ℕ) (s : ℕ)
    → pages_of (map (space_by first pages) ss) (first + s) ≡ (if list_any (λ t. t == s) ss then Some (pages s) else None)
pages_among first pages [] s = refl
pages_among first pages (t ∷ ss) s =
    ap (λ b. if b then Some (pages t) else pages_of (map (space_by first pages) ss) (first + s)) (same_number first t s)
    ∙ go (t == s) refl (pages_among first pages ss s)
  where
    go :
        (b : Bool) → (t == s) ≡ b
        → pages_of (map (space_by first pages) ss) (first + s) ≡ (if list_any (λ t. t == s) ss then Some (pages s) else None)
        → (if b then Some (pages t) else pages_of (map (space_by first pages) ss) (first + s))
        ≡ (if b || list_any (λ t. t == s) ss then Some (pages s) else None)
    go true e rest = ap (λ z. Some (pages z)) (eqb-true t s e)
    go false e rest = rest

none_below : (s : ℕ) → nat_lt s 0 ≡ false
none_below s = grind (arith, nat_tests)

-- which numbers are among those that pass
pub among_those : (n : ℕ) (p : ℕ → Bool) (s : ℕ) → list_any (λ t. t == s) (select n p) ≡ (nat_lt s n && p s)
unfolding select
among_those zero p s = sym (ap (λ b. b && p s) (none_below s))
among_those (suc n) p s =
    list_any-append (λ t. t == s) (select n p) (if p n then n ∷ [] else [])
    ∙ ap₂ (λ a b. a || b) (among_those n p s) (last (p n))
    ∙ go (ℕ_cases n s)
  where
    last : (b : Bool) → list_any (λ t. t == s) (if b then n ∷ [] else []) ≡ (b && n == s)
    last true = or_no (n == s)
    last false = refl

    here : (b : Bool) → nat_lt s n ≡ false → nat_lt s (suc n) ≡ true → (n == s) ≡ true → ((nat_lt s n && b) || (b && n == s)) ≡ (nat_lt s (suc n) && b)
    here b h k e = (λ i. (h i && b) || (b && e i)) ∙ both b ∙ sym (ap (λ z. z && b) k)
      where
        both : (b : Bool) → ((false && b) || (b && true)) ≡ (true && b)
        both true = refl
        both false = refl

    there : (a b c : Bool) → nat_lt s n ≡ nat_lt s (suc n) → (n == s) ≡ false → ((nat_lt s n && b) || (c && n == s)) ≡ (nat_lt s (suc n) && b)
    there a b c h e = (λ i. (h i && b) || (c && e i)) ∙ none (nat_lt s (suc n) && b) c
      where
        none : (x c : Bool) → (x || (c && false)) ≡ x
        none true c = refl
        none false true = refl
        none false false = refl

    below : n ≢ s → nat_lt s n ≡ nat_lt s (suc n)
    below ne = go2 (nat_lt s n) (nat_lt s (suc n)) refl refl
      where
        go2 : (a b : Bool) → nat_lt s n ≡ a → nat_lt s (suc n) ≡ b → a ≡ b
        go2 true true h k = refl
        go2 false false h k = refl
        go2 true false h k = absurd (grind (arith, nat_tests))
        go2 false true h k = absurd (grind (arith, nat_tests))

    not_below : n ≡ s → nat_lt s n ≡ false
    not_below e = grind (arith, nat_tests)

    is_last : n ≡ s → nat_lt s (suc n) ≡ true
    is_last e = grind (arith, nat_tests)

    go : (n ≡ s) ⊎ (n ≢ s) → ((nat_lt s n && p s) || (p n && n == s)) ≡ (nat_lt s (suc n) && p s)
    go (inl e) = ap (λ z. (nat_lt s n && p s) || (p z && n == s)) e ∙ here (p s) (not_below e) (is_last e) (eq-eqb n s e)
    go (inr ne) = there true (p s) (p n) (below ne) (ne_eqb n s ne)

-- other pages in the space of a number
pub with_pages_is :
    (first s : ℕ) (pages others : ℕ → List PageWire) (change : List PageWire → List PageWire) (ss : List ℕ)
    → ((t : ℕ) → others t ≡ (if s == t then change (pages t) else pages t))
    → map (space_by first others) ss ≡ with_pages (map (space_by first pages) ss) (first + s) change
with_pages_is first s pages others change [] h = refl
with_pages_is first s pages others change (t ∷ ss) h =
    ap₂ (λ x xs. x ∷ xs)
    (ap (λ z. space_by first (λ k. z) t) (h t) ∙ go (s == t) (first + t == first + s) (turned ∙ sym (same_number first t s)))
    (with_pages_is first s pages others change ss h)
  where
    turned : (s == t) ≡ (t == s)
    turned = by (ℕ_cases s t)
      where
        by : (s ≡ t) ⊎ (s ≢ t) → (s == t) ≡ (t == s)
        by (inl e) = eq-eqb s t e ∙ sym (eq-eqb t s (sym e))
        by (inr ne) = ne_eqb s t ne ∙ sym (ne_eqb t s (λ e. ne (sym e)))

    go :
        (a b : Bool) → a ≡ b
        → space_by first (λ k. if a then change (pages t) else pages t) t
        ≡ (if b then record (space_by first pages t) { pages = change (pages t) } else space_by first pages t)
    go true true e = refl
    go false false e = refl
    go true false e = absurd (cc (e))
    go false true e = absurd (cc (e))

-- The spaces without one.

without_is :
    (first s : ℕ) (pages : ℕ → List PageWire) (ss : List ℕ)
    → without_space (first + s) (map (space_by first pages) ss) ≡ map (space_by first pages) (filter (λ t. not (t == s)) ss)
without_is first s pages [] = refl
without_is first s pages (t ∷ ss) =
    ap₂ (λ b xs. if not b then space_by first pages t ∷ xs else xs) (same_number first t s) (without_is first s pages ss)
    ∙ go (t == s)
  where
    go :
        (b : Bool)
        → (if not b then space_by first pages t ∷ map (space_by first pages) (filter (λ t. not (t == s)) ss) else map (space_by first pages)
        (filter (λ t. not (t == s)) ss)) ≡ map (space_by first pages) (if not b then t ∷ filter (λ t. not (t == s)) ss else filter (λ t. not (t == s)) ss)
    go true = refl
    go false = refl

-- one number less among those that pass
select_without : (n : ℕ) (p : ℕ → Bool) (s : ℕ) → select n (put p s false) ≡ filter (λ t. not (t == s)) (select n p)
unfolding select
select_without zero p s = refl
select_without (suc n) p s =
    ap (λ xs. xs ++ (if put p s false n then n ∷ [] else [])) (select_without n p s)
    ∙ ap (λ xs. filter (λ t. not (t == s)) (select n p) ++ xs) (go (ℕ_cases n s))
    ∙ sym (filter_append (λ t. not (t == s)) (select n p) (if p n then n ∷ [] else []))
  where
    out : (b : Bool) → (n == s) ≡ true → [] ≡ filter (λ t. not (t == s)) (if b then n ∷ [] else [])
    out true e = sym (ap (λ z. if not z then n ∷ [] else []) e)
    out false e = refl

    stays : (b : Bool) → (n == s) ≡ false → (if b then n ∷ [] else []) ≡ filter (λ t. not (t == s)) (if b then n ∷ [] else [])
    stays true e = sym (ap (λ z. if not z then n ∷ [] else []) e)
    stays false e = refl

    go : (n ≡ s) ⊎ (n ≢ s) → (if put p s false n then n ∷ [] else []) ≡ filter (λ t. not (t == s)) (if p n then n ∷ [] else [])
    go (inl e) = ap (λ b. if b then n ∷ [] else []) (ap (put p s false) e ∙ put-same p s false) ∙ out (p n) (eq-eqb n s e)
    go (inr ne) = ap (λ b. if b then n ∷ [] else []) (put-other p s false n ne) ∙ stays (p n) (ne_eqb n s ne)

-- spaces whose pages are the same, but for one that isn't there
same_but :
    (first s : ℕ) (pages others : ℕ → List PageWire) (ss : List ℕ) → ((t : ℕ) → t ≢ s → others t ≡ pages t)
    → map (space_by first others) (filter (λ t. not (t == s)) ss) ≡ map (space_by first pages) (filter (λ t. not (t == s)) ss)
same_but first s pages others [] h = refl
same_but first s pages others (t ∷ ss) h = go (ℕ_cases t s) (same_but first s pages others ss h)
  where
    go :
        (t ≡ s) ⊎ (t ≢ s)
        → map (space_by first others) (filter (λ t. not (t == s)) ss) ≡ map (space_by first pages) (filter (λ t. not (t == s)) ss)
        → map (space_by first others) (if not (t == s) then t ∷ filter (λ t. not (t == s)) ss else filter (λ t. not (t == s)) ss)
        ≡ map (space_by first pages) (if not (t == s) then t ∷ filter (λ t. not (t == s)) ss else filter (λ t. not (t == s)) ss)
    go (inl e) k =
        ap (λ b. map (space_by first others) (if not b then t ∷ filter (λ t. not (t == s)) ss else filter (λ t. not (t == s)) ss)) (eq-eqb t s e)
        ∙ k
        ∙ sym (ap (λ b. map (space_by first pages) (if not b then t ∷ filter (λ t. not (t == s)) ss else filter (λ t. not (t == s)) ss)) (eq-eqb t s e))
    go (inr ne) k =
        ap (λ b. map (space_by first others) (if not b then t ∷ filter (λ t. not (t == s)) ss else filter (λ t. not (t == s)) ss)) (ne_eqb t s ne)
        ∙ ap₂ (λ x xs. x ∷ xs) (ap (λ z. space_by first (λ k. z) t) (h t ne)) k
        ∙ sym (ap (λ b. map (space_by first pages) (if not b then t ∷ filter (λ t. not (t == s)) ss else filter (λ t. not (t == s)) ss)) (ne_eqb t s ne))

pub without_space_is :
    (first s n : ℕ) (p : ℕ → Bool) (pages others : ℕ → List PageWire) → ((t : ℕ) → t ≢ s → others t ≡ pages t)
    → map (space_by first others) (select n (put p s false)) ≡ without_space (first + s) (map (space_by first pages) (select n p))
without_space_is first s n p pages others h =
    ap (map (space_by first others)) (select_without n p s)
    ∙ same_but first s pages others (select n p) h
    ∙ sym (without_is first s pages (select n p))
