-- Pages that are mapped for a job in the space of a number, and taken back: what is kept of spaces and frames.
use Rattle.std.proofs.Common.{◌≡◌, ℕ, ◌==◌, Bool, true, false, List, Some, None, [], ◌∷◌, refl, sym, ap, ◌∙◌, if◌then◌else◌}
use Rattle.std.specs.Prelude.{filter, is_some, option_map, slice_set, Result, Ok, Err, IfOk, OnOk, OnErr}
use Rattle.sva_model.specs.Wire.{Wire, SpaceWire, PageWire, PlaceWire, AskWire, insert_by, is_lower_page}
use Rattle.sva_model.specs.Wire.PlaceWire.{FreeWire, MappedWire}
use Rattle.sva_labels.specs.Finding.{pages_of, or_no_pages, free_from}
use Rattle.sva_labels.specs.Replying.{is_write_asked}
use Rattle.sva_labels.specs.Moves.{all_moved, is_between, without_pages, with_pages, placed}
use Rattle.sva_labels.specs.Outcomes.{maps_to}
use Rattle.sva_address_spaces.specs.Seen.{AddressSpacesSeen, with_address_spaces}
use Rattle.sva_address_spaces.specs.Steps.{AllMoves, has_space}
use Rattle.sva_address_spaces.specs.Asked.{maps_of, taken_back, pages_mapped, places_mapped, pages_back, places_back, MapsAll}
use Rattle.sva_labels.specs.Replying.{new_among}
use Rattle.sva_address_spaces.proofs.NewPages.{page_of}
use Rattle.sva_address_spaces.proofs.Hosts.{with_spaces, OneChanged}

-- The space of a number with other pages.

pub pages_kept : (spaces : List SpaceWire) (n : ℕ) → with_pages spaces n (λ pages. pages) ≡ spaces
pages_kept [] n = refl
pages_kept (s ∷ ss) n = go (s.number == n) (pages_kept ss n)
  where
    go : (b : Bool) → with_pages ss n (λ pages. pages) ≡ ss → (if b then s else s) ∷ with_pages ss n (λ pages. pages) ≡ s ∷ ss
    go true rest = ap (λ xs. s ∷ xs) rest
    go false rest = ap (λ xs. s ∷ xs) rest

pub pages_twice : (spaces : List SpaceWire) (n : ℕ) (first second : List PageWire → List PageWire)
    → with_pages (with_pages spaces n first) n second ≡ with_pages spaces n (λ pages. second (first pages))
pages_twice [] n first second = refl
pages_twice (s ∷ ss) n first second = go (s.number == n) refl (pages_twice ss n first second)
  where
    changed : Bool → (List PageWire → List PageWire) → SpaceWire → SpaceWire
    changed b change space = if b then record space { pages = change space.pages } else space

    go :
        (b : Bool) → (s.number == n) ≡ b → with_pages (with_pages ss n first) n second ≡ with_pages ss n (λ pages. second (first pages))
        → with_pages ((if b then record s { pages = first s.pages } else s) ∷ with_pages ss n first) n second
        ≡ (if b then record s { pages = second (first s.pages) } else s) ∷ with_pages ss n (λ pages. second (first pages))
    go true is rest =
        ap (λ c. (if c then record s { pages = second (first s.pages) } else record s { pages = first s.pages }) ∷ with_pages
        (with_pages ss n first) n second) is
        ∙ ap (λ xs. record s { pages = second (first s.pages) } ∷ xs) rest
    go false is rest =
        ap (λ c. (if c then record s { pages = second s.pages } else s) ∷ with_pages (with_pages ss n first) n second) is ∙ ap (λ xs. s ∷ xs) rest

pub pages_changed : (spaces : List SpaceWire) (n : ℕ) (change : List PageWire → List PageWire)
    → pages_of (with_pages spaces n change) n ≡ option_map change (pages_of spaces n)
pages_changed [] n change = refl
pages_changed (s ∷ ss) n change = go (s.number == n) refl (pages_changed ss n change)
  where
    go :
        (b : Bool) → (s.number == n) ≡ b → pages_of (with_pages ss n change) n ≡ option_map change (pages_of ss n)
        → pages_of ((if b then record s { pages = change s.pages } else s) ∷ with_pages ss n change) n
        ≡ option_map change (if b then Some s.pages else pages_of ss n)
    go true is rest = ap (λ c. if c then Some (change s.pages) else pages_of (with_pages ss n change) n) is
    go false is rest = ap (λ c. if c then Some s.pages else pages_of (with_pages ss n change) n) is ∙ rest

pub no_pages : (spaces : List SpaceWire) (n : ℕ) (change : List PageWire → List PageWire) → pages_of spaces n ≡ None → with_pages spaces n change ≡ spaces
no_pages [] n change none = refl
no_pages (s ∷ ss) n change none = go (s.number == n) none (no_pages ss n change)
  where
    go :
        (b : Bool) → (if b then Some s.pages else pages_of ss n) ≡ None → (pages_of ss n ≡ None → with_pages ss n change ≡ ss)
        → (if b then record s { pages = change s.pages } else s) ∷ with_pages ss n change ≡ s ∷ ss
    go true is rest = absurd (cc (is))
    go false is rest = ap (λ xs. s ∷ xs) (rest is)

-- Mapped in turn.

pub maps_moved : (w : Wire) (n : ℕ) (asks : List AskWire) (qs fs : List ℕ)
    → with_spaces w (with_pages w.spaces n (pages_mapped asks qs fs)) (places_mapped qs fs w.places) ≡ all_moved w (maps_to n asks qs fs)
maps_moved w n asks [] fs = ap (λ ss. with_spaces w ss w.places) (pages_kept w.spaces n)
maps_moved w n asks (q ∷ qs) [] = ap (λ ss. with_spaces w ss w.places) (pages_kept w.spaces n)
maps_moved w n asks (q ∷ qs) (f ∷ fs) =
    let put = insert_by is_lower_page (page_of q f (is_write_asked asks q)) in
    ap (λ ss. with_spaces w ss (places_mapped qs fs (slice_set w.places f MappedWire))) (sym (pages_twice w.spaces n put (pages_mapped asks qs fs)))
    ∙ maps_moved (with_spaces w (with_pages w.spaces n put) (slice_set w.places f MappedWire)) n asks qs fs

-- Taken back.

pub back_is : (m : AddressSpacesSeen) (n : ℕ) (pages : List PageWire) (qs : List ℕ) → pages_of m.spaces n ≡ Some pages
    → record m { spaces = with_pages m.spaces n (pages_back qs); places = places_back qs pages m.places } ≡ taken_back m n qs
back_is m n pages [] there = ap (λ ss. record m { spaces = ss }) (pages_kept m.spaces n)
back_is m n pages (q ∷ qs) there =
    (λ i. record m {
      spaces = sym (pages_twice m.spaces n (pages_back qs) (without_pages q 1)) i;
      places = placed FreeWire (filter (is_between q 1)
          (or_no_pages (sym (pages_changed m.spaces n (pages_back qs) ∙ ap (option_map (pages_back qs)) there) i))) (places_back qs pages m.places);
    })
    ∙ ap (λ (k : AddressSpacesSeen). record k {
      spaces = with_pages k.spaces n (without_pages q 1);
      places = placed FreeWire (filter (is_between q 1) (or_no_pages (pages_of k.spaces n))) k.places;
    }) (back_is m n pages qs there)

pub back_none : (m : AddressSpacesSeen) (n : ℕ) (qs : List ℕ) → pages_of m.spaces n ≡ None → m ≡ taken_back m n qs
back_none m n [] none = refl
back_none m n (q ∷ qs) none =
    (λ i. record m {
      spaces = sym (no_pages m.spaces n (without_pages q 1) none) i;
      places = placed FreeWire (filter (is_between q 1) (or_no_pages (sym none i))) m.places;
    })
    ∙ ap (λ (k : AddressSpacesSeen). record k {
      spaces = with_pages k.spaces n (without_pages q 1);
      places = placed FreeWire (filter (is_between q 1) (or_no_pages (pages_of k.spaces n))) k.places;
    }) (back_none m n qs none)

-- what is seen of a memory where pages of one space were taken back
pub back_seen : (m : AddressSpacesSeen) (n : ℕ) (pages pages_after : List PageWire) (qs : List ℕ)
    (spaces_after : List SpaceWire) (places_after : List PlaceWire)
    → OneChanged m.spaces n pages pages_after spaces_after
    → pages_after ≡ pages_back qs pages → places_after ≡ places_back qs pages m.places
    → record m { spaces = spaces_after; places = places_after } ≡ taken_back m n qs
back_seen m n pages pages_after qs spaces_after places_after one gone placed_after =
    (λ i. record m { spaces = one.put (pages_back qs) gone i; places = placed_after i }) ∙ back_is m n pages qs one.found

-- where pages were mapped in turn
pub maps_seen : (m : AddressSpacesSeen) (n : ℕ) (asks : List AskWire) (pages pages_after : List PageWire) (spaces_after : List SpaceWire)
    (places_after : List PlaceWire) → OneChanged m.spaces n pages pages_after spaces_after
    → MapsAll pages m.places asks pages_after places_after → AllMoves (maps_of m n asks) m (record m { spaces = spaces_after; places = places_after })
maps_seen m n asks pages pages_after spaces_after places_after one maps w is =
    (λ i. with_address_spaces w (record m { spaces = one.put (pages_mapped asks qs fs) maps.mapped i; places = maps.taken i }))
    ∙ (λ i. with_address_spaces w (record (sym is i) {
      spaces = with_pages (sym is i).spaces n (pages_mapped asks qs fs);
      places = places_mapped qs fs
          (sym is i).places;
    }))
    ∙ maps_moved w n asks qs fs
    ∙ ap (λ (ps : List PageWire). all_moved w (maps_to n asks (new_among ps asks) fs)) (sym there)
  where
    qs : List ℕ
    qs = new_among pages asks

    fs : List ℕ
    fs = free_from 0 m.places

    there : or_no_pages (pages_of m.spaces n) ≡ pages
    there = ap or_no_pages one.found

-- and they can be taken back
pub maps_back : (m : AddressSpacesSeen) (n : ℕ) (asks : List AskWire) (pages pages_after : List PageWire) (spaces_after spaces_again : List SpaceWire)
    (places_after : List PlaceWire) → OneChanged m.spaces n pages pages_after spaces_after
    → OneChanged m.spaces n pages pages spaces_again → MapsAll pages m.places asks pages_after places_after
    → taken_back (record m { spaces = spaces_after; places = places_after }) n (new_among pages asks) ≡ m
maps_back m n asks pages pages_after spaces_after spaces_again places_after one again maps =
    sym (back_is (record m { spaces = spaces_after; places = places_after }) n pages_after qs found)
    ∙ (λ i. record m {
      spaces = (ap (λ ss. with_pages ss n (pages_back qs)) changed ∙ pages_twice m.spaces n (λ ps. pages_after) (pages_back qs)
          ∙ ap (λ (ps : List PageWire). with_pages m.spaces n (λ any. ps)) maps.pages_return ∙ same) i;
      places = maps.places_return i;
    })
  where
    qs : List ℕ
    qs = new_among pages asks

    changed : spaces_after ≡ with_pages m.spaces n (λ ps. pages_after)
    changed = one.put (λ ps. pages_after) refl

    found : pages_of spaces_after n ≡ Some pages_after
    found = ap (λ ss. pages_of ss n) changed ∙ pages_changed m.spaces n (λ ps. pages_after) ∙ ap (option_map (λ ps. pages_after)) one.found

    same : with_pages m.spaces n (λ ps. pages) ≡ m.spaces
    same = sym (again.put (λ ps. pages) refl) ∙ again.kept refl

pub is_lacking : (m : AddressSpacesSeen) (n : ℕ) → pages_of m.spaces n ≡ None → has_space m n ≡ true → ⊥
is_lacking m n none there = cc (sym (ap is_some none) ∙ there)

-- where nothing was mapped
pub none_seen : (m : AddressSpacesSeen) (n : ℕ) (pages pages_after : List PageWire) (spaces_after : List SpaceWire) (places_after : List PlaceWire)
    → OneChanged m.spaces n pages pages_after spaces_after
    → pages_after ≡ pages → places_after ≡ m.places → record m { spaces = spaces_after; places = places_after } ≡ m
none_seen m n pages pages_after spaces_after places_after one kept free = λ i. record m { spaces = one.kept kept i; places = free i }

-- What follows of a result.

pub on_ok : {A E : Type 0} (r : Result A E) (P Q : Type 0) → (P → Q) → OnOk r P → OnOk r Q
on_ok (Ok a) P Q f h = f h
on_ok (Err e) P Q f h = h

pub on_err : {A E : Type 0} (r : Result A E) (P Q : Type 0) → (P → Q) → OnErr r P → OnErr r Q
on_err (Ok a) P Q f h = h
on_err (Err e) P Q f h = f h

pub if_ok : {A E : Type 0} (r : Result A E) (P Q : A → Type 0) → ((a : A) → P a → Q a) → IfOk r P → IfOk r Q
if_ok (Ok a) P Q f h = f a h
if_ok (Err e) P Q f h = h

pub if_both : {A E : Type 0} (r : Result A E) (P Q : A → Type 0) (R : Type 0) → ((a : A) → P a → R → Q a) → IfOk r P → OnOk r R → IfOk r Q
if_both (Ok a) P Q R f h k = f a h k
if_both (Err e) P Q R f h k = h
