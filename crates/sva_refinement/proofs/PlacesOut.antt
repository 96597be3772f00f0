-- The places of frames once pages of a space went, and after an act of one endpoint: by the latest mapping of each frame.
use Rattle.std.proofs.Common.{◌≡◌, refl, ap, ap₂, sym, ◌∙◌, ℕ, ◌<◌, Bool, true, false, arith}
use Rattle.std.specs.Prelude.{Some, None, Option, ◌&&◌, ◌==◌, if◌then◌else◌, List, [], ◌∷◌, map, filter}
use Rattle.std.specs.List.{list_any}
use Rattle.std.proofs.lemmas.Bool.{and_from, eq-eqb, eqb-true}
use Rattle.sva_model.specs.Words.{any_below, tabulate}
use Rattle.sva_model.specs.State.{Owed, MappingState, World}
use Rattle.sva_model.specs.State.MappingState.{Unmade, Present, Gone}
use Rattle.sva_model.specs.States.{is_present, place}
use Rattle.sva_model.specs.Unmappings.{gone_if, without_pages}
use Rattle.sva_model.specs.Wire.{PlaceWire, is_page_of, pages_wire, place_wire_by, places_wire}
use Rattle.sva_model.specs.Wire.PlaceWire.{FreeWire, MappedWire}
use Rattle.sva_labels.proofs.Words.{any_below-true, any_below-false}
use Rattle.sva_laws.proofs.Invariant.{Mapped}
use Rattle.sva_labels.proofs.Tests.{first_holds, second_holds}
use Rattle.sva_labels.proofs.Lists.{tabulate_same}
use Rattle.sva_refinement.proofs.PagesOfSpaces.{present_is}
use Rattle.sva_refinement.proofs.PlacesByNumber.{seen_by, seen_at, place_seen}
use Rattle.sva_labels.specs.Moves.{placed}
use Rattle.sva_refinement.proofs.PageLists.{any_among, placed_is}
pub use Rattle.sva_refinement.proofs.DeviceRows.{tabulate_map as map_tabulate}

-- a world that has the same mappings, where what is withheld has changed
pub places_changed :
    (w v : World) (change : PlaceWire → PlaceWire) → v.config ≡ w.config → v.mappings ≡ w.mappings → change FreeWire ≡ FreeWire
    → change MappedWire ≡ MappedWire
    → ((m : ℕ) (owed : ℕ → Owed) → w.mappings.state m ≡ Gone owed → seen_by v (Gone owed) ≡ change (seen_by w (Gone owed)))
    → places_wire v ≡ map change (places_wire w)
places_changed w v change c ms free mapped gone =
    ap (λ n. tabulate n (λ f. place_wire_by v f (place v f))) (ap (λ z. z.frames) c)
    ∙ tabulate_same w.config.frames (λ f. place_wire_by v f (place v f)) (λ f. change (place_wire_by w f (place w f)))
    (λ f l. place_seen v v.mappings f ∙ (λ i. seen_at v (ms i).state ((ms i).latest f)) ∙ at (w.mappings.latest f)
    ∙ sym (ap change (place_seen w w.mappings f)))
    ∙ sym (map_tabulate change w.config.frames (λ f. place_wire_by w f (place w f)))
  where
    by_state : (m : ℕ) (s : MappingState) → w.mappings.state m ≡ s → seen_by v s ≡ change (seen_by w s)
    by_state m Unmade h = sym free
    by_state m Present h = sym mapped
    by_state m (Gone owed) h = gone m owed h

    at : (o : Option ℕ) → seen_at v w.mappings.state o ≡ change (seen_at w w.mappings.state o)
    at None = sym free
    at (Some m) = by_state m (w.mappings.state m) refl

map_same : {A : Type 0} (f : A → A) → ((a : A) → f a ≡ a) → (xs : List A) → map f xs ≡ xs
map_same f h [] = refl
map_same f h (x ∷ xs) = ap₂ (λ y ys. y ∷ ys) (h x) (map_same f h xs)

-- and where nothing has
pub places_same :
    (w v : World) → v.config ≡ w.config → v.mappings ≡ w.mappings
    → ((m : ℕ) (owed : ℕ → Owed) → w.mappings.state m ≡ Gone owed → seen_by v (Gone owed) ≡ seen_by w (Gone owed))
    → places_wire v ≡ places_wire w
places_same w v c ms gone = places_changed w v (λ p. p) c ms refl refl gone ∙ map_same (λ p. p) (λ p. refl) (places_wire w)

-- Pages that went: the frames of those that pass the test are at one place, and all others are where they were.

pub places_out :
    (w v : World) (s : ℕ) (pages : ℕ → Bool) (owed : ℕ → Owed) (there : PlaceWire) → Mapped w → v.config ≡ w.config
    → v.mappings ≡ without_pages w.mappings s pages owed → seen_by v (Gone owed) ≡ there
    → ((m : ℕ) (old : ℕ → Owed) → w.mappings.state m ≡ Gone old → seen_by v (Gone old) ≡ seen_by w (Gone old))
    → places_wire v ≡ placed there (filter (λ entry. pages entry.page) (pages_wire w.mappings s)) (places_wire w)
places_out w v s pages owed there ma c ms here older =
    ap (λ n. tabulate n (λ f. place_wire_by v f (place v f))) (ap (λ z. z.frames) c)
    ∙ tabulate_same w.config.frames (λ f. place_wire_by v f (place v f))
    (λ f. if list_any (λ x. x.frame == f) (filter (λ entry. pages entry.page) (pages_wire w.mappings s)) then there else place_wire_by w f (place w f))
    (λ f l. seen f
    ∙ sym (ap (λ b. if b then there else place_wire_by w f (place w f)) (any_among w.mappings s (λ x. x.frame == f) (λ entry. pages entry.page))))
    ∙ sym (placed_is w.config.frames (λ f. place_wire_by w f (place w f)) there (filter (λ entry. pages entry.page) (pages_wire w.mappings s)))
  where
    after : ℕ → MappingState
    after m = gone_if (w.mappings.space m == s && pages (w.mappings.page m)) owed (w.mappings.state m)

    goes : (f m : ℕ) → Bool
    goes f m = is_page_of w.mappings s m && (pages (w.mappings.page m) && w.mappings.frame m == f)

    out : (m : ℕ) → is_page_of w.mappings s m ≡ true → pages (w.mappings.page m) ≡ true → after m ≡ Gone owed
    out m h k =
        ap₂ (λ b z. gone_if b owed z)
        (and_from (w.mappings.space m == s) (pages (w.mappings.page m)) (second_holds (is_present (w.mappings.state m)) (w.mappings.space m == s) h) k)
        (present_is (w.mappings.state m) (first_holds (is_present (w.mappings.state m)) (w.mappings.space m == s) h))

    -- a frame whose page went
    taken : (f m : ℕ) → goes f m ≡ true → seen_at v after (w.mappings.latest f) ≡ there
    taken f m h =
        let page : is_page_of w.mappings s m ≡ true = first_holds (is_page_of w.mappings s m) (pages (w.mappings.page m) && w.mappings.frame m == f) h in
        let rest : (pages (w.mappings.page m) && w.mappings.frame m == f) ≡ true =
        second_holds (is_page_of w.mappings s m) (pages (w.mappings.page m) && w.mappings.frame m == f) h in
        let frame : w.mappings.frame m ≡ f = eqb-true (w.mappings.frame m) f (second_holds (pages (w.mappings.page m)) (w.mappings.frame m == f) rest) in
        let present : w.mappings.state m ≡ Present =
        present_is (w.mappings.state m) (first_holds (is_present (w.mappings.state m)) (w.mappings.space m == s) page) in
        ap (seen_at v after) (sym (ap w.mappings.latest frame) ∙ ma.latest m present)
        ∙ ap (seen_by v) (out m page (first_holds (pages (w.mappings.page m)) (w.mappings.frame m == f) rest))
        ∙ here

    unmade_stays : (b : Bool) → gone_if b owed Unmade ≡ Unmade
    unmade_stays true = refl
    unmade_stays false = refl

    gone_stays : (b : Bool) (old : ℕ → Owed) → gone_if b owed (Gone old) ≡ Gone old
    gone_stays true old = refl
    gone_stays false old = refl

    untested : (a b : Bool) → ((true && a) && (b && true)) ≡ false → (a && b) ≡ false
    untested a b h = grind arith

    -- one whose latest mapping isn't of those
    kept :
        (f m : ℕ) → w.mappings.frame m ≡ f → goes f m ≡ false → (z : MappingState) → w.mappings.state m ≡ z
        → seen_by v (gone_if (w.mappings.space m == s && pages (w.mappings.page m)) owed z) ≡ seen_by w z
    kept f m frame h Unmade e = ap (seen_by v) (unmade_stays (w.mappings.space m == s && pages (w.mappings.page m)))
    kept f m frame h (Gone old) e = ap (seen_by v) (gone_stays (w.mappings.space m == s && pages (w.mappings.page m)) old) ∙ older m old e
    kept f m frame h Present e =
        ap (λ b. seen_by v (gone_if b owed Present))
        (untested (w.mappings.space m == s) (pages (w.mappings.page m))
        (sym (λ i. (is_present (e i) && w.mappings.space m == s) && (pages (w.mappings.page m) && eq-eqb (w.mappings.frame m) f frame i)) ∙ h))

    still :
        (f : ℕ) → ((m : ℕ) → m < w.mappings.made → goes f m ≡ false) → (o : Option ℕ) → w.mappings.latest f ≡ o
        → seen_at v after o ≡ seen_at w w.mappings.state o
    still f none None e = refl
    still f none (Some m) e = let n = ma.named f m e in kept f m n.0 (none m n.1) (w.mappings.state m) refl

    by_test :
        (f : ℕ) (b : Bool) → any_below w.mappings.made (goes f) ≡ b
        → seen_at v after (w.mappings.latest f) ≡ (if b then there else seen_at w w.mappings.state (w.mappings.latest f))
    by_test f true e = let m = any_below-true w.mappings.made (goes f) e in taken f m.0 m.2
    by_test f false e = still f (any_below-false w.mappings.made (goes f) e) (w.mappings.latest f) refl

    seen : (f : ℕ) → place_wire_by v f (place v f) ≡ (if any_below w.mappings.made (goes f) then there else place_wire_by w f (place w f))
    seen f =
        place_seen v v.mappings f
        ∙ (λ i. seen_at v (ms i).state ((ms i).latest f))
        ∙ by_test f (any_below w.mappings.made (goes f)) refl
        ∙ ap (λ x. if any_below w.mappings.made (goes f) then there else x) (sym (place_seen w w.mappings f))
