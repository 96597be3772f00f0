-- The counts of frames on the wire are those of the definitions.
use Rattle.std.proofs.Common.{◌≡◌, ℕ, zero, suc, ◌+◌, Bool, true, false, cond, Option, Some, None, refl, ap, ◌∙◌, arith, count_by, if◌then◌else◌}
use Rattle.std.proofs.lemmas.List.Sums.{sum_by_push}
use Rattle.sva_model.specs.Words.{tabulate, count_below, all_below, the}
use Rattle.sva_model.specs.State.{World, MappingState, Owed}
use Rattle.sva_model.specs.State.MappingState.{Present, Gone}
use Rattle.sva_model.specs.States.{Place, place, is_free_place, place_at, place_by, place_of_gone, answered}
use Rattle.sva_model.specs.Steps.{counts, is_mapped_at, is_withheld_at}
use Rattle.sva_model.specs.Wire.{PlaceWire, places_wire, place_wire_by, withheld_wire}
use Rattle.sva_model.specs.Wire.PlaceWire.{FreeWire, MappedWire, WithheldWire}
use Rattle.sva_labels.specs.Finding.{is_free}
use Rattle.sva_address_spaces.specs.Steps.{is_mapped_place, is_withheld_place}

-- what a frame's place on the wire tells of its place
abbrev kind : PlaceWire → Place
kind FreeWire = Place.Free
kind MappedWire = Place.Mapped
kind (WithheldWire targets) = Place.Withheld

kind-is : (w : World) (f : ℕ) (o : Option ℕ) → w.mappings.latest f ≡ o → kind (place_wire_by w f (place_at w o)) ≡ place_at w o
kind-is w f None latest = refl
kind-is w f (Some m) latest = by_state (w.mappings.state m) refl
  where
    of_gone : (owed : ℕ → Owed) (b : Bool) → withheld_wire w.config.first w.config.endpoints w.part (w.mappings.state (the (w.mappings.latest f)))
        ≡ withheld_wire w.config.first w.config.endpoints w.part (Gone owed) → kind (place_wire_by w f (place_of_gone b)) ≡ place_of_gone b
    of_gone owed true is = refl
    of_gone owed false is = ap kind is

    by_state : (s : MappingState) → w.mappings.state m ≡ s → kind (place_wire_by w f (place_by w s)) ≡ place_by w s
    by_state Present is = refl
    by_state (Gone owed) is =
        of_gone owed (all_below w.config.endpoints (λ e. answered (w.part e) (owed e)))
        (ap (λ (o : Option ℕ). withheld_wire w.config.first w.config.endpoints w.part (w.mappings.state (the o))) latest
        ∙ ap (withheld_wire w.config.first w.config.endpoints w.part) is)
    by_state _ is = refl

count-tabulate : (q : PlaceWire → Bool) (p : ℕ → Bool) (n : ℕ) (g : ℕ → PlaceWire) → ((f : ℕ) → q (g f) ≡ p f) → count_by q (tabulate n g) ≡ count_below n p
unfolding tabulate count_below
count-tabulate q p zero g same = refl
count-tabulate q p (suc n) g same = sum_by_push (λ (x : PlaceWire). cond (q x) 1 0) (tabulate n g) (g n)
    ∙ one_more (q (g n)) (p n) (count_by q (tabulate n g)) (count_below n p) (same n) (count-tabulate q p n g same)
  where
    one_more : (a b : Bool) (k m : ℕ) → a ≡ b → k ≡ m → k + cond a 1 0 ≡ (if b then suc m else m)
    one_more true true k m e f = omega arith
    one_more true false k m e f = absurd (cc)
    one_more false true k m e f = absurd (cc)
    one_more false false k m e f = omega arith

free_kind : (p : PlaceWire) → is_free p ≡ is_free_place (kind p)
free_kind FreeWire = refl
free_kind MappedWire = refl
free_kind (WithheldWire targets) = refl

mapped_kind : (p : PlaceWire) → is_mapped_place p ≡ is_mapped_at (kind p)
mapped_kind FreeWire = refl
mapped_kind MappedWire = refl
mapped_kind (WithheldWire targets) = refl

withheld_kind : (p : PlaceWire) → is_withheld_place p ≡ is_withheld_at (kind p)
withheld_kind FreeWire = refl
withheld_kind MappedWire = refl
withheld_kind (WithheldWire targets) = refl

-- the counts of places on the wire are the world's
pub free-counted : (w : World) → count_by is_free (places_wire w) ≡ (counts w).free
free-counted w = count-tabulate is_free (λ f. is_free_place (place w f)) w.config.frames (λ f. place_wire_by w f (place w f))
    (λ f. free_kind (place_wire_by w f (place w f)) ∙ ap is_free_place (kind-is w f (w.mappings.latest f) refl))

pub mapped-counted : (w : World) → count_by is_mapped_place (places_wire w) ≡ (counts w).mapped
mapped-counted w = count-tabulate is_mapped_place (λ f. is_mapped_at (place w f)) w.config.frames (λ f. place_wire_by w f (place w f))
    (λ f. mapped_kind (place_wire_by w f (place w f)) ∙ ap is_mapped_at (kind-is w f (w.mappings.latest f) refl))

pub withheld-counted : (w : World) → count_by is_withheld_place (places_wire w) ≡ (counts w).withheld
withheld-counted w = count-tabulate is_withheld_place (λ f. is_withheld_at (place w f)) w.config.frames (λ f. place_wire_by w f (place w f))
    (λ f. withheld_kind (place_wire_by w f (place w f)) ∙ ap is_withheld_at (kind-is w f (w.mappings.latest f) refl))
