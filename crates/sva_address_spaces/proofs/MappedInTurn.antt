-- Pages that are mapped in turn, and taken back the last first.
use Rattle.std.proofs.Common.{◌≡◌, ℕ, ◌≤◌, ◌==◌, Bool, true, false, cond, List, Some, [], ◌∷◌, ◌++◌, length, set, slice_get, refl, sym, ap, ◌∙◌}
use Rattle.std.proofs.Common.{arith, if◌then◌else◌}
use Rattle.std.specs.Prelude.{◌||◌, not, nat_lt, is_some, filter}
use Rattle.std.proofs.lemmas.Bool.Decides.{nat_tests}
use Rattle.sva_model.specs.Unmappings.{in_range}
use Rattle.sva_model.specs.Wire.{PageWire, PlaceWire, insert_by, is_lower_page}
use Rattle.sva_model.specs.Wire.PlaceWire.{FreeWire, MappedWire}
use Rattle.sva_labels.specs.Finding.{page_at, is_mapped, free_from}
use Rattle.sva_labels.specs.Replying.{is_write_asked}
use Rattle.sva_labels.specs.Moves.{is_between, without_pages, placed}
use Rattle.sva_model.specs.Wire.{AskWire}
use Rattle.sva_address_spaces.specs.Asked.{pages_mapped, places_mapped, pages_back, places_back}
use Rattle.sva_address_spaces.proofs.NewPages.{AreNew, same_new, page_of, mapped_more}
use Rattle.sva_address_spaces.proofs.FreeFrames.{first_is, free_again}

-- One page.

itself : (q : ℕ) → in_range q 1 q ≡ true
itself q = grind (arith, nat_tests)

another : (q k : ℕ) → (k == q) ≡ false → in_range q 1 k ≡ false
another q k is = grind (arith, nat_tests)

lower : (q k : ℕ) → nat_lt k q ≡ true → in_range q 1 k ≡ false
lower q k is = grind (arith, nat_tests)

-- what isn't mapped isn't between, and isn't taken out
missing_first : (q : ℕ) (p : PageWire) (ps : List PageWire) → is_mapped (p ∷ ps) q ≡ false → (p.page == q) ≡ false
missing_first q p ps missing = go (p.page == q) missing
  where
    go : (b : Bool) → is_some (if b then Some p else page_at ps q) ≡ false → b ≡ false
    go true is = absurd (cc (is))
    go false is = refl

missing_rest : (q : ℕ) (p : PageWire) (ps : List PageWire) → is_mapped (p ∷ ps) q ≡ false → is_mapped ps q ≡ false
missing_rest q p ps missing = sym (ap (λ b. is_some (if b then Some p else page_at ps q)) (missing_first q p ps missing)) ∙ missing

none_between : (q : ℕ) (ps : List PageWire) → is_mapped ps q ≡ false → filter (is_between q 1) ps ≡ []
none_between q [] missing = refl
none_between q (p ∷ ps) missing =
    ap (λ b. cond b (p ∷ filter (is_between q 1) ps) (filter (is_between q 1) ps)) (another q p.page (missing_first q p ps missing))
    ∙ none_between q ps (missing_rest q p ps missing)

none_out : (q : ℕ) (ps : List PageWire) → is_mapped ps q ≡ false → without_pages q 1 ps ≡ ps
none_out q [] missing = refl
none_out q (p ∷ ps) missing =
    ap (λ b. cond (not b) (p ∷ without_pages q 1 ps) (without_pages q 1 ps)) (another q p.page (missing_first q p ps missing))
    ∙ ap (λ xs. p ∷ xs) (none_out q ps (missing_rest q p ps missing))

pub page_out : (q f : ℕ) (x : Bool) (ps : List PageWire) → is_mapped ps q ≡ false → without_pages q 1 (insert_by is_lower_page (page_of q f x) ps) ≡ ps
page_out q f x [] missing = ap (λ b. cond (not b) (page_of q f x ∷ []) []) (itself q)
page_out q f x (p ∷ ps) missing = go (nat_lt p.page q) refl (page_out q f x ps (missing_rest q p ps missing))
  where
    go : (b : Bool) → nat_lt p.page q ≡ b → without_pages q 1 (insert_by is_lower_page (page_of q f x) ps) ≡ ps
        → without_pages q 1 (if b then p ∷ insert_by is_lower_page (page_of q f x) ps else page_of q f x ∷ p ∷ ps) ≡ p ∷ ps
    go true is rest =
        ap (λ b. cond (not b) (p ∷ without_pages q 1 (insert_by is_lower_page (page_of q f x) ps))
        (without_pages q 1 (insert_by is_lower_page (page_of q f x) ps)))
        (lower q p.page is)
        ∙ ap (λ xs. p ∷ xs) rest
    go false is rest =
        ap (λ b. cond (not b) (page_of q f x ∷ without_pages q 1 (p ∷ ps)) (without_pages q 1 (p ∷ ps))) (itself q) ∙ none_out q (p ∷ ps) missing

pub page_between : (q f : ℕ) (x : Bool) (ps : List PageWire) → is_mapped ps q ≡ false
    → filter (is_between q 1) (insert_by is_lower_page (page_of q f x) ps) ≡ page_of q f x ∷ []
page_between q f x [] missing = ap (λ b. cond b (page_of q f x ∷ []) []) (itself q)
page_between q f x (p ∷ ps) missing = go (nat_lt p.page q) refl (page_between q f x ps (missing_rest q p ps missing))
  where
    go : (b : Bool) → nat_lt p.page q ≡ b → filter (is_between q 1) (insert_by is_lower_page (page_of q f x) ps) ≡ page_of q f x ∷ []
        → filter (is_between q 1) (if b then p ∷ insert_by is_lower_page (page_of q f x) ps else page_of q f x ∷ p ∷ ps) ≡ page_of q f x ∷ []
    go true is rest =
        ap (λ b. cond b (p ∷ filter (is_between q 1) (insert_by is_lower_page (page_of q f x) ps))
        (filter (is_between q 1) (insert_by is_lower_page (page_of q f x) ps)))
        (lower q p.page is)
        ∙ rest
    go false is rest =
        ap (λ b. cond b (page_of q f x ∷ filter (is_between q 1) (p ∷ ps)) (filter (is_between q 1) (p ∷ ps))) (itself q)
        ∙ ap (λ xs. page_of q f x ∷ xs) (none_between q (p ∷ ps) missing)

-- All of them.

pub new_rest : (q f : ℕ) (x : Bool) (ps : List PageWire) (qs : List ℕ) → AreNew (λ y. y == q || is_mapped ps y) qs
    → AreNew (is_mapped (insert_by is_lower_page (page_of q f x) ps)) qs
new_rest q f x ps qs new =
    same_new (λ y. y == q || is_mapped ps y) (is_mapped (insert_by is_lower_page (page_of q f x) ps)) qs (λ y. sym (mapped_more q f x ps y)) new

pub pages_return : (asks : List AskWire) (qs fs : List ℕ) (ps : List PageWire) → AreNew (is_mapped ps) qs → length qs ≤ length fs
    → pages_back qs (pages_mapped asks qs fs ps) ≡ ps
pages_return asks [] fs ps new enough = refl
pages_return asks (q ∷ qs) [] ps new enough = absurd (omega (arith, enough))
pages_return asks (q ∷ qs) (f ∷ fs) ps new enough =
    let x = is_write_asked asks q in
    ap (without_pages q 1) (pages_return asks qs fs (insert_by is_lower_page (page_of q f x) ps) (new_rest q f x ps qs new.1) (omega (arith, enough)))
    ∙ page_out q f x ps new.0

pub places_return : (asks : List AskWire) (qs fs : List ℕ) (ps : List PageWire) (places : List PlaceWire) → AreNew (is_mapped ps) qs → length qs ≤ length fs
    → free_from 0 places ≡ fs
    → places_back qs (pages_mapped asks qs fs ps) (places_mapped qs fs places) ≡ places
places_return asks [] fs ps places new enough free = refl
places_return asks (q ∷ qs) [] ps places new enough free = absurd (omega (arith, enough))
places_return asks (q ∷ qs) (f ∷ fs) ps places new enough free =
    let x = is_write_asked asks q in
    let first = first_is 0 places f fs free in
    let number = first.number in
    let at : f ≡ first.place = omega (arith, number) in
    let pages = insert_by is_lower_page (page_of q f x) ps in
    let rest = new_rest q f x ps qs new.1 in
    let left : length qs ≤ length fs = omega (arith, enough) in
    (λ i. placed FreeWire (filter (is_between q 1) (pages_return asks qs fs pages rest left i))
    (places_return asks qs fs pages (set places f MappedWire) rest left (ap (λ (k : ℕ). free_from 0 (set places k MappedWire)) at ∙ first.others) i))
    ∙ ap (λ es. placed FreeWire es (set places f MappedWire)) (page_between q f x ps new.0)
    ∙ free_again places f (ap (slice_get places) at ∙ first.free)

-- One after another.

pub pages_back_more : (qs : List ℕ) (q : ℕ) (ps : List PageWire) → pages_back (qs ++ q ∷ []) ps ≡ pages_back qs (without_pages q 1 ps)
pages_back_more [] q ps = refl
pages_back_more (p ∷ qs) q ps = ap (without_pages p 1) (pages_back_more qs q ps)

pub places_back_more : (qs : List ℕ) (q : ℕ) (ps : List PageWire) (places : List PlaceWire)
    → places_back (qs ++ q ∷ []) ps places ≡ places_back qs (without_pages q 1 ps) (placed FreeWire (filter (is_between q 1) ps) places)
places_back_more [] q ps places = refl
places_back_more (p ∷ qs) q ps places =
    λ i. placed FreeWire (filter (is_between p 1) (pages_back_more qs q ps i)) (places_back_more qs q ps places i)
