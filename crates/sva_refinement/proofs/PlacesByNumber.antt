-- The places of frames by number: the lowest that is free, and what a mapping does.
use Rattle.std.proofs.Common.{◌≡◌, ◌≢◌, refl, ap, sym, ◌∙◌, ℕ, ◌<◌, Bool, true, false, arith}
use Rattle.std.specs.Prelude.{Option, Some, None, length, slice_set}
use Rattle.sva_model.specs.Words.{all_below, the}
use Rattle.sva_model.specs.State.{Owed, MappingState, Mappings, World}
use Rattle.sva_model.specs.State.MappingState.{Unmade, Present, Gone}
use Rattle.sva_model.specs.States.{is_free_place, place, place_at, place_by, place_of_gone, answered}
use Rattle.sva_model.specs.Acts.{act}
use Rattle.sva_model.specs.Acts.Act.{Map}
use Rattle.sva_model.specs.Labels
use Rattle.sva_model.specs.Wire.{PlaceWire, withheld_wire, place_wire_by, places_wire}
use Rattle.sva_model.specs.Wire.PlaceWire.{FreeWire, MappedWire}
use Rattle.sva_labels.proofs.Words.{put-same, put-other}
use Rattle.sva_laws.proofs.Invariant.{Mapped}
use Rattle.sva_labels.specs.Places.{is_free, lowest_free}
use Rattle.sva_labels.proofs.Lists.{tabulate_length, tabulate_set, lowest_same}
use Rattle.sva_refinement.proofs.LowestFree.{lowest_free_is}
use Rattle.sva_refinement.proofs.OtherMappings.{with_mappings}

-- What a frame's place is seen as, by its latest mapping alone.

abbrev pub gone_seen : Bool → PlaceWire → PlaceWire
gone_seen true withheld = FreeWire
gone_seen false withheld = withheld

abbrev pub seen_by : World → MappingState → PlaceWire
seen_by w Unmade = FreeWire
seen_by w Present = MappedWire
seen_by w (Gone owed) =
    gone_seen (all_below w.config.endpoints (λ e. answered (w.part e) (owed e))) (withheld_wire w.config.first w.config.endpoints w.part (Gone owed))

abbrev pub seen_at : World → (ℕ → MappingState) → Option ℕ → PlaceWire
seen_at w state None = FreeWire
seen_at w state (Some m) = seen_by w (state m)

pub place_seen : (w : World) (ms : Mappings) (f : ℕ) → place_wire_by (with_mappings w ms) f (place (with_mappings w ms) f) ≡ seen_at w ms.state (ms.latest f)
place_seen w ms f = go (ms.latest f) refl
  where
    by_answers : (m : ℕ) (owed : ℕ → Owed) → ms.latest f ≡ Some m → ms.state m ≡ Gone owed → (b : Bool)
        → place_wire_by (with_mappings w ms) f (place_of_gone b) ≡ gone_seen b (withheld_wire w.config.first w.config.endpoints w.part (Gone owed))
    by_answers m owed e h true = refl
    by_answers m owed e h false = ap (λ o. withheld_wire w.config.first w.config.endpoints w.part (ms.state (the o))) e
        ∙ ap (withheld_wire w.config.first w.config.endpoints w.part) h

    by_state : (m : ℕ) → ms.latest f ≡ Some m → (s : MappingState) → ms.state m ≡ s
        → place_wire_by (with_mappings w ms) f (place_by (with_mappings w ms) s) ≡ seen_by w s
    by_state m e Unmade h = refl
    by_state m e Present h = refl
    by_state m e (Gone owed) h = by_answers m owed e h (all_below w.config.endpoints (λ x. answered (w.part x) (owed x)))

    go : (o : Option ℕ) → ms.latest f ≡ o → place_wire_by (with_mappings w ms) f (place_at (with_mappings w ms) o) ≡ seen_at w ms.state o
    go None e = refl
    go (Some m) e = by_state m e (ms.state m) refl

-- The lowest free frame.

pub free_is : (w : World) (f : ℕ) → is_free (place_wire_by w f (place w f)) ≡ is_free_place (place w f)
free_is w f = ap is_free (place_seen w w.mappings f) ∙ go (w.mappings.latest f)
  where
    by_answers : (b : Bool) (owed : ℕ → Owed) → is_free (gone_seen b (withheld_wire w.config.first w.config.endpoints w.part (Gone owed)))
        ≡ is_free_place (place_of_gone b)
    by_answers true owed = refl
    by_answers false owed = refl

    by_state : (s : MappingState) → is_free (seen_by w s) ≡ is_free_place (place_by w s)
    by_state Unmade = refl
    by_state Present = refl
    by_state (Gone owed) = by_answers (all_below w.config.endpoints (λ x. answered (w.part x) (owed x))) owed

    go : (o : Option ℕ) → is_free (seen_at w w.mappings.state o) ≡ is_free_place (place_at w o)
    go None = refl
    go (Some m) = by_state (w.mappings.state m)

pub lowest_is : (w : World) → lowest_free (places_wire w) ≡ Labels.lowest_frame w
lowest_is w =
    lowest_free_is w.config.frames (λ f. place_wire_by w f (place w f))
    ∙ lowest_same w.config.frames (λ f. is_free (place_wire_by w f (place w f))) (λ f. is_free_place (place w f)) (λ f l. free_is w f)

pub places_length : (w : World) → length (places_wire w) ≡ w.config.frames
places_length w = tabulate_length w.config.frames (λ f. place_wire_by w f (place w f))

-- A frame is taken.

pub places_mapped : (w : World) (s q f : ℕ) (x : Bool) → Mapped w → places_wire (act w (Map s q f x)) ≡ slice_set (places_wire w) f MappedWire
places_mapped w s q f x ma =
    tabulate_set w.config.frames (λ k. place_wire_by w k (place w k)) (λ k. place_wire_by (act w (Map s q f x)) k (place (act w (Map s q f x)) k)) f
    MappedWire here others
  where
    here : place_wire_by (act w (Map s q f x)) f (place (act w (Map s q f x)) f) ≡ MappedWire
    here =
        place_seen w (act w (Map s q f x)).mappings f
        ∙ ap (seen_at w (act w (Map s q f x)).mappings.state) (put-same w.mappings.latest f (Some w.mappings.made))
        ∙ ap (seen_by w) (put-same w.mappings.state w.mappings.made Present)

    older : (k : ℕ) (o : Option ℕ) → w.mappings.latest k ≡ o → seen_at w (act w (Map s q f x)).mappings.state o ≡ seen_at w w.mappings.state o
    older k None e = refl
    older k (Some m) e =
        let made : m < w.mappings.made = (ma.named k m e).1 in
        ap (seen_by w) (put-other w.mappings.state w.mappings.made Present m (omega arith))

    others : (k : ℕ) → k ≢ f → place_wire_by (act w (Map s q f x)) k (place (act w (Map s q f x)) k) ≡ place_wire_by w k (place w k)
    others k ne =
        place_seen w (act w (Map s q f x)).mappings k
        ∙ ap (seen_at w (act w (Map s q f x)).mappings.state) (put-other w.mappings.latest f (Some w.mappings.made) k ne)
        ∙ older k (w.mappings.latest k) refl
        ∙ sym (place_seen w w.mappings k)
