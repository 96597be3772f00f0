-- The pages of a space once some went, and the places of frames once those of some pages are somewhere else.
use Rattle.std.proofs.Common.{◌≡◌, ◌≢◌, ◌⊎◌, inl, inr, refl, ap, sym, subst, ◌∙◌, ℕ, zero, suc, Bool, true, false, arith}
use Rattle.std.specs.Prelude.{◌&&◌, ◌||◌, not, ◌==◌, if◌then◌else◌, List, [], ◌∷◌, filter}
use Rattle.std.specs.List.{list_any}
use Rattle.std.proofs.lemmas.Bool.{eq-eqb, eqb-true, ne_eqb}
use Rattle.sva_model.specs.Words.{put, any_below, tabulate}
use Rattle.sva_model.specs.State.{Owed, Mappings, World}
use Rattle.sva_model.specs.States.{is_present}
use Rattle.sva_model.specs.Unmappings.{without_pages}
use Rattle.sva_model.specs.Wire.{PageWire, PlaceWire, insert_by, is_lower_page, is_page_of, page_wire, pages_below, pages_wire}
use Rattle.sva_labels.proofs.Words.{put-same, put-other, ℕ_cases}
use Rattle.sva_labels.proofs.Lists.{tabulate_same, tabulate_set}
use Rattle.sva_refinement.proofs.OtherMappings.{with_mappings}
use Rattle.sva_refinement.proofs.PagesOfSpaces.{pages_same, pages_rising, filter_insert, gone_test, those_kept, others_kept}
use Rattle.sva_labels.specs.Moves.{placed}

-- Pages that went, of those that pass a test.

-- is it a page of a space once pages went?
left_test :
    (w : World) (s : ℕ) (pages : ℕ → Bool) (owed : ℕ → Owed) (t m : ℕ)
    → is_page_of (without_pages w.mappings s pages owed) t m
    ≡ ((is_present (w.mappings.state m) && not (w.mappings.space m == s && pages (w.mappings.page m))) && w.mappings.space m == t)
left_test w s pages owed t m =
    ap (λ b. b && w.mappings.space m == t) (gone_test (w.mappings.space m == s && pages (w.mappings.page m)) owed (w.mappings.state m))

pub other_space :
    (w : World) (s : ℕ) (pages : ℕ → Bool) (owed : ℕ → Owed) (t : ℕ) → s ≢ t
    → pages_wire (without_pages w.mappings s pages owed) t ≡ pages_wire w.mappings t
other_space w s pages owed t ne =
    pages_same (with_mappings w (without_pages w.mappings s pages owed)) w t w.mappings.made
    (λ m l. left_test w s pages owed t m
    ∙ others_kept (is_present (w.mappings.state m)) (w.mappings.space m == s) (w.mappings.space m == t) (pages (w.mappings.page m))
    (λ a b. ne (sym (eqb-true (w.mappings.space m) s a) ∙ eqb-true (w.mappings.space m) t b)))
    (λ m l. refl)

same_space :
    (w : World) (s : ℕ) (pages : ℕ → Bool) (owed : ℕ → Owed) (n : ℕ)
    → pages_below (without_pages w.mappings s pages owed) s n ≡ filter (λ entry. not (pages entry.page)) (pages_below w.mappings s n)
unfolding pages_below
same_space w s pages owed zero = refl
same_space w s pages owed (suc n) =
    let test : is_page_of (without_pages w.mappings s pages owed) s n ≡ (is_page_of w.mappings s n && not (pages (w.mappings.page n))) =
    left_test w s pages owed s n ∙ those_kept (is_present (w.mappings.state n)) (w.mappings.space n == s) (pages (w.mappings.page n))
    in
    let rest : pages_below (without_pages w.mappings s pages owed) s n ≡ filter (λ entry. not (pages entry.page)) (pages_below w.mappings s n) =
    same_space w s pages owed n in
    (λ i. if test i then insert_by is_lower_page (page_wire w.mappings n) (rest i) else rest i) ∙ go (is_page_of w.mappings s n)
  where
    go :
        (b : Bool)
        → (if b && not (pages (w.mappings.page n)) then insert_by is_lower_page (page_wire w.mappings n)
        (filter (λ entry. not (pages entry.page)) (pages_below w.mappings s n)) else filter (λ entry. not (pages entry.page))
        (pages_below w.mappings s n))
        ≡ filter (λ entry. not (pages entry.page))
        (if b then insert_by is_lower_page (page_wire w.mappings n) (pages_below w.mappings s n) else pages_below w.mappings s n)
    go true = sym (filter_insert (λ entry. not (pages entry.page)) (page_wire w.mappings n) (pages_below w.mappings s n) (pages_rising w s n))
    go false = refl

pub pages_out :
    (w : World) (s : ℕ) (pages : ℕ → Bool) (owed : ℕ → Owed) (t : ℕ)
    → pages_wire (without_pages w.mappings s pages owed) t
    ≡ (if s == t then filter (λ entry. not (pages entry.page)) (pages_wire w.mappings t) else pages_wire w.mappings t)
pages_out w s pages owed t = go (ℕ_cases s t)
  where
    go :
        (s ≡ t) ⊎ (s ≢ t)
        → pages_wire (without_pages w.mappings s pages owed) t
        ≡ (if s == t then filter (λ entry. not (pages entry.page)) (pages_wire w.mappings t) else pages_wire w.mappings t)
    go (inl e) =
        subst (λ z. pages_wire (without_pages w.mappings s pages owed) z ≡ filter (λ entry. not (pages entry.page)) (pages_wire w.mappings z)) e
        (same_space w s pages owed w.mappings.made)
        ∙ sym (ap (λ b. if b then filter (λ entry. not (pages entry.page)) (pages_wire w.mappings t) else pages_wire w.mappings t) (eq-eqb s t e))
    go (inr ne) =
        other_space w s pages owed t ne
        ∙ sym (ap (λ b. if b then filter (λ entry. not (pages entry.page)) (pages_wire w.mappings t) else pages_wire w.mappings t) (ne_eqb s t ne))

-- Whether a page of a list passes.

any_insert : (p : PageWire → Bool) (a : PageWire) (xs : List PageWire) → list_any p (insert_by is_lower_page a xs) ≡ (p a || list_any p xs)
any_insert p a [] = refl
any_insert p a (x ∷ xs) = go (is_lower_page x a) (any_insert p a xs)
  where
    turned : (a b c : Bool) → (b || (a || c)) ≡ (a || (b || c))
    turned a b c = grind arith

    go :
        (b : Bool) → list_any p (insert_by is_lower_page a xs) ≡ (p a || list_any p xs)
        → list_any p (if b then x ∷ insert_by is_lower_page a xs else a ∷ x ∷ xs) ≡ (p a || (p x || list_any p xs))
    go true h = ap (λ b. p x || b) h ∙ turned (p a) (p x) (list_any p xs)
    go false h = refl

any_filter : (p q : PageWire → Bool) (xs : List PageWire) → list_any p (filter q xs) ≡ list_any (λ x. q x && p x) xs
any_filter p q [] = refl
any_filter p q (x ∷ xs) = go (q x) (any_filter p q xs)
  where
    go :
        (b : Bool) → list_any p (filter q xs) ≡ list_any (λ x. q x && p x) xs
        → list_any p (if b then x ∷ filter q xs else filter q xs) ≡ ((b && p x) || list_any (λ x. q x && p x) xs)
    go true h = ap (λ b. p x || b) h
    go false h = h

any_page : (ms : Mappings) (s : ℕ) (p : PageWire → Bool) (n : ℕ) → list_any p (pages_below ms s n)
    ≡ any_below n (λ m. is_page_of ms s m && p (page_wire ms m))
unfolding pages_below any_below
any_page ms s p zero = refl
any_page ms s p (suc n) = go (is_page_of ms s n) (any_page ms s p n)
  where
    either : (b c : Bool) → (b || c) ≡ (if b then true else c)
    either true c = refl
    either false c = refl

    go :
        (b : Bool) → list_any p (pages_below ms s n) ≡ any_below n (λ m. is_page_of ms s m && p (page_wire ms m))
        → list_any p (if b then insert_by is_lower_page (page_wire ms n) (pages_below ms s n) else pages_below ms s n)
        ≡ (if b && p (page_wire ms n) then true else any_below n (λ m. is_page_of ms s m && p (page_wire ms m)))
    go true h =
        any_insert p (page_wire ms n) (pages_below ms s n)
        ∙ ap (λ b. p (page_wire ms n) || b) h
        ∙ either (p (page_wire ms n)) (any_below n (λ m. is_page_of ms s m && p (page_wire ms m)))
    go false h = h

-- the frames of the pages of a space that pass a test
pub any_among :
    (ms : Mappings) (s : ℕ) (p q : PageWire → Bool)
    → list_any p (filter q (pages_wire ms s)) ≡ any_below ms.made (λ m. is_page_of ms s m && (q (page_wire ms m) && p (page_wire ms m)))
any_among ms s p q = any_filter p q (pages_wire ms s) ∙ any_page ms s (λ x. q x && p x) ms.made

-- Places, once the frames of some pages are somewhere else.

pub placed_is :
    (n : ℕ) (g : ℕ → PlaceWire) (place : PlaceWire) (pages : List PageWire)
    → placed place pages (tabulate n g) ≡ tabulate n (λ f. if list_any (λ x. x.frame == f) pages then place else g f)
placed_is n g place [] = refl
placed_is n g place (x ∷ pages) =
    ap (placed place pages) (sym (tabulate_set n g (put g x.frame place) x.frame place (put-same g x.frame place) (λ k ne. put-other g x.frame place k ne)))
    ∙ placed_is n (put g x.frame place) place pages
    ∙ tabulate_same n (λ f. if list_any (λ x. x.frame == f) pages then place else put g x.frame place f)
    (λ f. if x.frame == f || list_any (λ x. x.frame == f) pages then place else g f)
    (λ f l. go f (list_any (λ x. x.frame == f) pages) (ℕ_cases f x.frame))
  where
    same : (b : Bool) → (if b then place else place) ≡ place
    same true = refl
    same false = refl

    go : (f : ℕ) (b : Bool) → (f ≡ x.frame) ⊎ (f ≢ x.frame) → (if b then place else put g x.frame place f) ≡ (if x.frame == f || b then place else g f)
    go f b (inl e) =
        ap (λ z. if b then place else z) (ap (put g x.frame place) e ∙ put-same g x.frame place)
        ∙ same b
        ∙ sym (ap (λ z. if z || b then place else g f) (eq-eqb x.frame f (sym e)))
    go f b (inr ne) =
        ap (λ z. if b then place else z) (put-other g x.frame place f ne)
        ∙ sym (ap (λ z. if z || b then place else g f) (ne_eqb x.frame f (λ e. ne (sym e))))
