-- A new space, a space dropped and a page mapped, by numbers.
use Rattle.std.proofs.Common.{◌≡◌, refl, ap, sym, ◌∙◌, ℕ, suc, ◌+◌, ◌<◌, Bool, true, false, arith}
use Rattle.std.specs.Prelude.{Some, None, ◌&&◌, ◌==◌, nat_lt, if◌then◌else◌, List, [], ◌∷◌, filter}
use Rattle.std.proofs.lemmas.Bool.Decides.{nat_tests}
use Rattle.std.proofs.lemmas.Bool.{eqb-true}
use Rattle.sva_model.specs.Words.{all_below, select, tabulate}
use Rattle.sva_model.specs.State.{Mappings, World}
use Rattle.sva_model.specs.State.Owed.{Nothing}
use Rattle.sva_model.specs.State.MappingState.{Gone}
use Rattle.sva_model.specs.States.{is_present, answered}
use Rattle.sva_model.specs.Acts.{act}
use Rattle.sva_model.specs.Acts.Act.{NewSpace, DropSpace, Map}
use Rattle.sva_model.specs.Wire.{PageWire, number, insert_by, is_lower_page, is_page_of, pages_wire, withheld_wire, places_wire, device_wire, part_wire, wire}
use Rattle.sva_model.specs.Wire.PlaceWire.{FreeWire}
use Rattle.sva_laws.proofs.Invariant.{Invariant, Mapped}
use Rattle.sva_labels.proofs.Tests.{first_holds, second_holds}
use Rattle.sva_labels.proofs.Lists.{tabulate_same}
use Rattle.sva_labels.proofs.Words.{all_below-intro as each_below}
use Rattle.sva_refinement.proofs.PagesOfSpaces.{pages_none, pages_mapped, present_is}
use Rattle.sva_refinement.proofs.PlacesByNumber.{gone_seen, places_mapped}
use Rattle.sva_refinement.proofs.SpacesByNumber.{spaces_more}
use Rattle.sva_labels.specs.Finding.{pages_in, or_no_pages}
use Rattle.sva_labels.specs.Moves.{placed, moved}
use Rattle.sva_refinement.proofs.Named.{act_move}
use Rattle.sva_refinement.proofs.DeviceMappings.{device_mapped, device_without}
use Rattle.sva_refinement.proofs.SpaceLists.{with_pages_is, without_space_is, pages_among, among_those}
use Rattle.sva_refinement.proofs.PageLists.{other_space}
use Rattle.sva_refinement.proofs.PlacesOut.{places_out}

-- what the devices keep is the same under other mappings
abbrev pub SameDevices : World → Mappings → Type 0
SameDevices w ms = (e : ℕ) → e < w.config.endpoints → device_wire ms (w.part e) ≡ device_wire w.mappings (w.part e)

parts_same :
    (w : World) (ms : Mappings) → SameDevices w ms
    → tabulate w.config.endpoints (λ e. part_wire w.config.first ms (w.part e))
    ≡ tabulate w.config.endpoints (λ e. part_wire w.config.first w.mappings (w.part e))
parts_same w ms h =
    tabulate_same w.config.endpoints (λ e. part_wire w.config.first ms (w.part e)) (λ e. part_wire w.config.first w.mappings (w.part e))
    (λ e l i. record (part_wire w.config.first w.mappings (w.part e)) { device = h e l i })

-- A space more.

pub new_space : (w : World) → Invariant w → wire (act w NewSpace) ≡ moved (wire w) (act_move w NewSpace)
new_space w i =
    let one : w.config.first + suc w.spaces ≡ w.config.first + w.spaces + 1 = omega arith in
    λ k. record (wire w) { spaces = spaces_more w i.mapped k; next_space = one k }

-- A page more.

pub map_page : (w : World) (s q f : ℕ) (x : Bool) → Invariant w → wire (act w (Map s q f x)) ≡ moved (wire w) (act_move w (Map s q f x))
map_page w s q f x i =
    let v = act w (Map s q f x) in
    let change : List PageWire → List PageWire = insert_by is_lower_page (record { page = q; frame = f; write = x }) in
    let spaces = with_pages_is w.config.first s (pages_wire w.mappings) (pages_wire v.mappings) change (select w.spaces w.is_live) (pages_mapped w s q f x) in
    let places = places_mapped w s q f x i.mapped in
    let parts = parts_same w v.mappings (λ e l. device_mapped w s q f x (w.part e) (i.parts e).owners) in
    λ k. record (wire w) { spaces = spaces k; places = places k; parts = parts k }

-- A space less.

-- a space that isn't live has no page
no_pages : (w : World) (s : ℕ) → Mapped w → (nat_lt s w.spaces && w.is_live s) ≡ false → pages_wire w.mappings s ≡ []
no_pages w s ma h = pages_none w s w.mappings.made (λ m l. unmapped m (is_page_of w.mappings s m) refl)
  where
    both : (a b : ℕ) (c : Bool) → a < b → c ≡ true → (nat_lt a b && c) ≡ true
    both a b c l e = grind (arith, nat_tests)

    unmapped : (m : ℕ) → (b : Bool) → is_page_of w.mappings s m ≡ b → b ≡ false
    unmapped m false e = refl
    unmapped m true e =
        let present = present_is (w.mappings.state m) (first_holds (is_present (w.mappings.state m)) (w.mappings.space m == s) e) in
        let live = (ma.at_present (w.mappings.space m) (w.mappings.page m) m (ma.present_at m present)).3 in
        let space : w.mappings.space m ≡ s = eqb-true (w.mappings.space m) s (second_holds (is_present (w.mappings.state m)) (w.mappings.space m == s) e) in
        let alive : w.is_live s ≡ true = sym (ap w.is_live space) ∙ live in
        absurd (cc (sym h ∙ both s w.spaces (w.is_live s) (ma.live s alive) alive))

-- the pages of a number, also where no space has it
pub pages_are : (w : World) (s : ℕ) → Mapped w → pages_in (wire w) (number w.config.first s) ≡ pages_wire w.mappings s
pages_are w s ma =
    ap or_no_pages (pages_among w.config.first (pages_wire w.mappings) (select w.spaces w.is_live) s)
    ∙ ap (λ b. or_no_pages (if b then Some (pages_wire w.mappings s) else None)) (among_those w.spaces w.is_live s)
    ∙ go (nat_lt s w.spaces && w.is_live s) refl
  where
    go : (b : Bool) → (nat_lt s w.spaces && w.is_live s) ≡ b → or_no_pages (if b then Some (pages_wire w.mappings s) else None) ≡ pages_wire w.mappings s
    go true e = refl
    go false e = sym (no_pages w s ma e)

all_kept : (xs : List PageWire) → filter (λ x. true) xs ≡ xs
all_kept [] = refl
all_kept (x ∷ xs) = ap (λ z. x ∷ z) (all_kept xs)

pub drop_space : (w : World) (s : ℕ) → Invariant w → wire (act w (DropSpace s)) ≡ moved (wire w) (act_move w (DropSpace s))
drop_space w s i =
    let v = act w (DropSpace s) in
    let spaces =
    without_space_is w.config.first s w.spaces w.is_live (pages_wire w.mappings) (pages_wire v.mappings)
    (λ t ne. other_space w s (λ q. true) (λ e. Nothing) t (λ e. ne (sym e))) in
    let parts = parts_same w v.mappings (λ e l. device_without w.mappings s (λ q. true) (λ e. Nothing) (w.part e)) in
    λ k. record (wire w) { spaces = spaces k; places = places k; parts = parts k }
  where
    all_answered : all_below w.config.endpoints (λ e. answered (w.part e) Nothing) ≡ true
    all_answered = each_below w.config.endpoints (λ e. answered (w.part e) Nothing) (λ e l. refl)

    places : places_wire (act w (DropSpace s)) ≡ placed FreeWire (pages_in (wire w) (number w.config.first s)) (places_wire w)
    places =
        places_out w (act w (DropSpace s)) s (λ q. true) (λ e. Nothing) FreeWire i.mapped refl refl
        (ap (λ b. gone_seen b (withheld_wire w.config.first w.config.endpoints w.part (Gone (λ e. Nothing)))) all_answered)
        (λ m old e. refl)
        ∙ ap (λ ps. placed FreeWire ps (places_wire w)) (all_kept (pages_wire w.mappings s) ∙ sym (pages_are w s i.mapped))
