-- Spaces by their numbers: which pages a number has, and a space more.
use Rattle.std.proofs.Common.{◌≡◌, ◌≢◌, ◌⊎◌, inl, inr, refl, ap, ap₂, sym, ◌∙◌, ℕ, zero, suc, ◌+◌, ◌<◌, ◌≤◌, Bool, true, false, arith}
use Rattle.std.specs.Prelude.{Some, None, ◌&&◌, ◌==◌, nat_lt, nat_le, if◌then◌else◌, List, [], ◌∷◌, ◌++◌, map, length}
use Rattle.std.proofs.lemmas.List.{map-append, length-map}
use Rattle.std.proofs.lemmas.Bool.{and_from, eq-eqb, eqb-true, le-leb, leb-true, lt-ltb, ltb-true, ne_eqb}
use Rattle.sva_model.specs.Words.{put, select}
use Rattle.sva_model.specs.State.{World}
use Rattle.sva_model.specs.States.{is_present}
use Rattle.sva_model.specs.Acts.{act}
use Rattle.sva_model.specs.Acts.Act.{NewSpace}
use Rattle.sva_model.specs.Labels
use Rattle.sva_model.specs.Wire.{PageWire, SpaceWire, is_page_of, pages_wire, spaces_wire}
use Rattle.sva_labels.proofs.Words.{put-same, put-other, ℕ_cases}
use Rattle.sva_laws.proofs.Invariant.{Mapped}
use Rattle.sva_labels.proofs.Tests.{added_back, first_holds, second_holds, taken_off}
use Rattle.sva_labels.specs.Places.{pages_of}
use Rattle.sva_labels.proofs.Lists.{select_same, select_length}
use Rattle.sva_refinement.proofs.PagesOfSpaces.{pages_same, pages_none, present_is}

-- Spaces of any names.

abbrev pub space_by : (first : ℕ) → (ℕ → List PageWire) → (space : ℕ) → SpaceWire
space_by first pages s = record { number = first + s; pages = pages s }

of_number : (x : SpaceWire) (n : ℕ) (b : Bool) → (x.number == n) ≡ b → pages_of (x ∷ []) n ≡ (if b then Some x.pages else None)
of_number x n b h = ap (λ t. if t then Some x.pages else None) h

found_left : (xs ys : List SpaceWire) (n : ℕ) (pages : List PageWire) → pages_of xs n ≡ Some pages → pages_of (xs ++ ys) n ≡ Some pages
found_left [] ys n pages h = absurd (cc)
found_left (x ∷ xs) ys n pages h = go (x.number == n) h (found_left xs ys n pages)
  where
    go : (b : Bool) → (if b then Some x.pages else pages_of xs n) ≡ Some pages → (pages_of xs n ≡ Some pages → pages_of (xs ++ ys) n ≡ Some pages)
        → (if b then Some x.pages else pages_of (xs ++ ys) n) ≡ Some pages
    go true e rest = e
    go false e rest = rest e

found_right : (xs ys : List SpaceWire) (n : ℕ) → pages_of xs n ≡ None → pages_of (xs ++ ys) n ≡ pages_of ys n
found_right [] ys n h = refl
found_right (x ∷ xs) ys n h = go (x.number == n) h (found_right xs ys n)
  where
    go : (b : Bool) → (if b then Some x.pages else pages_of xs n) ≡ None → (pages_of xs n ≡ None → pages_of (xs ++ ys) n ≡ pages_of ys n)
        → (if b then Some x.pages else pages_of (xs ++ ys) n) ≡ pages_of ys n
    go true e rest = absurd (cc)
    go false e rest = rest e

-- no selected space has the number
none_has : (first n : ℕ) (pages : ℕ → List PageWire) (k : ℕ) (p : ℕ → Bool) → ((s : ℕ) → s < k → p s ≡ true → first + s ≢ n)
    → pages_of (map (space_by first pages) (select k p)) n ≡ None
unfolding select
none_has first n pages zero p h = refl
none_has first n pages (suc k) p h = go (p k) refl (none_has first n pages k p (λ s l. h s (omega arith)))
  where
    go : (b : Bool) → p k ≡ b → pages_of (map (space_by first pages) (select k p)) n ≡ None
        → pages_of (map (space_by first pages) (select k p ++ (if b then k ∷ [] else []))) n ≡ None
    go true e rest =
        ap (λ xs. pages_of xs n) (map-append (space_by first pages) (select k p) (k ∷ []))
        ∙ found_right (map (space_by first pages) (select k p)) (space_by first pages k ∷ []) n rest
        ∙ of_number (space_by first pages k) n false (ne_eqb (first + k) n (h k (omega arith) e))
    go false e rest =
        ap (λ xs. pages_of xs n) (map-append (space_by first pages) (select k p) [])
        ∙ found_right (map (space_by first pages) (select k p)) [] n rest

-- a selected space has it
one_has : (first n : ℕ) (pages : ℕ → List PageWire) (k : ℕ) (p : ℕ → Bool) (s : ℕ) → s < k → p s ≡ true → first + s ≡ n
    → pages_of (map (space_by first pages) (select k p)) n ≡ Some (pages s)
unfolding select
one_has first n pages zero p s l t e = absurd (omega arith)
one_has first n pages (suc k) p s l t e = go (ℕ_cases s k) (λ m. one_has first n pages k p s m t e)
  where
    go : (s ≡ k) ⊎ (s ≢ k) → (s < k → pages_of (map (space_by first pages) (select k p)) n ≡ Some (pages s))
        → pages_of (map (space_by first pages) (select k p ++ (if p k then k ∷ [] else []))) n ≡ Some (pages s)
    go (inl c) rest =
        let here : first + k ≡ n = omega arith in
        ap (λ b. pages_of (map (space_by first pages) (select k p ++ (if b then k ∷ [] else []))) n) (ap p (sym c) ∙ t)
        ∙ ap (λ xs. pages_of xs n) (map-append (space_by first pages) (select k p) (k ∷ []))
        ∙ found_right (map (space_by first pages) (select k p)) (space_by first pages k ∷ []) n (none_has first n pages k p (λ r m u. omega arith))
        ∙ of_number (space_by first pages k) n true (eq-eqb (first + k) n here)
        ∙ ap (λ z. Some (pages z)) (sym c)
    go (inr ne) rest =
        ap (λ xs. pages_of xs n) (map-append (space_by first pages) (select k p) (if p k then k ∷ [] else []))
        ∙ found_left (map (space_by first pages) (select k p)) (map (space_by first pages) (if p k then k ∷ [] else [])) n (pages s) (rest (omega arith))

-- The spaces of a world.

pub spaces_length : (w : World) → length ((spaces_wire w.config.first w.spaces w.is_live w.mappings)) ≡ Labels.live_spaces w
spaces_length w = length-map (select w.spaces w.is_live) (space_by w.config.first (pages_wire w.mappings)) ∙ select_length w.spaces w.is_live

pub record IsSpace (w : World) (n : ℕ) : Type 0 where
  pub from : w.config.first ≤ n
  pub given : Labels.name w n < w.spaces
  pub live : w.is_live (Labels.name w n) ≡ true

pub space_is : (w : World) (n : ℕ) → Labels.is_space w n ≡ true → IsSpace w n
space_is w n h =
    let number : (nat_le w.config.first n && nat_lt (Labels.name w n) w.spaces) ≡ true =
    first_holds (nat_le w.config.first n && nat_lt (Labels.name w n) w.spaces) (w.is_live (Labels.name w n)) h in
    record {
      from = leb-true w.config.first n (first_holds (nat_le w.config.first n) (nat_lt (Labels.name w n) w.spaces) number);
      given = ltb-true (Labels.name w n) w.spaces (second_holds (nat_le w.config.first n) (nat_lt (Labels.name w n) w.spaces) number);
      live = second_holds (nat_le w.config.first n && nat_lt (Labels.name w n) w.spaces) (w.is_live (Labels.name w n)) h;
    }

pub space_found : (w : World) (n : ℕ) → Labels.is_space w n ≡ true → pages_of ((spaces_wire w.config.first w.spaces w.is_live w.mappings)) n
    ≡ Some (pages_wire w.mappings (Labels.name w n))
space_found w n h =
    let s = space_is w n h in
    one_has w.config.first n (pages_wire w.mappings) w.spaces w.is_live (Labels.name w n) s.given s.live (added_back w.config.first n s.from)

pub space_missing : (w : World) (n : ℕ) → Labels.is_space w n ≡ false → pages_of ((spaces_wire w.config.first w.spaces w.is_live w.mappings)) n ≡ None
space_missing w n h = none_has w.config.first n (pages_wire w.mappings) w.spaces w.is_live (λ s l t e. absurd (cc (sym (there s l t e) ∙ h)))
  where
    there : (s : ℕ) → s < w.spaces → w.is_live s ≡ true → w.config.first + s ≡ n → Labels.is_space w n ≡ true
    there s l t e =
        let same : Labels.name w n ≡ s = taken_off w.config.first n s e in
        and_from (nat_le w.config.first n && nat_lt (Labels.name w n) w.spaces) (w.is_live (Labels.name w n))
        (and_from (nat_le w.config.first n) (nat_lt (Labels.name w n) w.spaces) (le-leb w.config.first n (omega arith))
        (ap (λ z. nat_lt z w.spaces) same ∙ lt-ltb s w.spaces l))
        (ap w.is_live same ∙ t)

-- a number has the pages of its space, where that is live
pub space_of :
    (w : World) (n : ℕ)
    → pages_of (spaces_wire w.config.first w.spaces w.is_live w.mappings) n
    ≡ (if Labels.is_space w n then Some (pages_wire w.mappings (Labels.name w n)) else None)
space_of w n = go (Labels.is_space w n) refl
  where
    go : (b : Bool) → Labels.is_space w n ≡ b
        → pages_of (spaces_wire w.config.first w.spaces w.is_live w.mappings) n ≡ (if b then Some (pages_wire w.mappings (Labels.name w n)) else None)
    go true is = space_found w n is
    go false is = space_missing w n is

-- a space more
pub spaces_more : (w : World) → Mapped w
    → (spaces_wire (act w NewSpace).config.first (act w NewSpace).spaces (act w NewSpace).is_live (act w NewSpace).mappings)
    ≡ (spaces_wire w.config.first w.spaces w.is_live w.mappings) ++ record { number = Labels.number w w.spaces; pages = [] } ∷ []
unfolding select
spaces_more w ma =
    ap₂ (λ ss b. map (space_by w.config.first (pages_wire (act w NewSpace).mappings)) (ss ++ (if b then w.spaces ∷ [] else [])))
    (select_same w.spaces (put w.is_live w.spaces true) w.is_live (λ k l. put-other w.is_live w.spaces true k (omega arith)))
    (put-same w.is_live w.spaces true)
    ∙ map-append (space_by w.config.first (pages_wire (act w NewSpace).mappings)) (select w.spaces w.is_live) (w.spaces ∷ [])
    ∙ ap₂ (λ xs x. xs ++ x ∷ []) (same_pages (select w.spaces w.is_live)) (ap (λ z. space_by w.config.first (λ t. z) w.spaces) no_page)
  where
    same_pages : (ss : List ℕ) → map (space_by w.config.first (pages_wire (act w NewSpace).mappings)) ss
        ≡ map (space_by w.config.first (pages_wire w.mappings)) ss
    same_pages [] = refl
    same_pages (s ∷ ss) =
        ap₂ (λ x xs. x ∷ xs)
        (ap (λ z. space_by w.config.first (λ t. z) s) (pages_same (act w NewSpace) w s w.mappings.made (λ m l. refl) (λ m l. refl))) (same_pages ss)

    unmapped : (m : ℕ) → (b : Bool) → is_page_of w.mappings w.spaces m ≡ b → b ≡ false
    unmapped m false h = refl
    unmapped m true h =
        let present = present_is (w.mappings.state m) (first_holds (is_present (w.mappings.state m)) (w.mappings.space m == w.spaces) h) in
        let live = (ma.at_present (w.mappings.space m) (w.mappings.page m) m (ma.present_at m present)).3 in
        let space : w.mappings.space m ≡ w.spaces =
        eqb-true (w.mappings.space m) w.spaces (second_holds (is_present (w.mappings.state m)) (w.mappings.space m == w.spaces) h) in
        let below : w.mappings.space m < w.spaces = ma.live (w.mappings.space m) live in
        absurd (omega arith)

    no_page : pages_wire (act w NewSpace).mappings w.spaces ≡ []
    no_page = pages_none (act w NewSpace) w.spaces w.mappings.made (λ m l. unmapped m (is_page_of w.mappings w.spaces m) refl)
